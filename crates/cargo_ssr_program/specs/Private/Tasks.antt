-- Private: the task of an input and options.
use Rattle.std.specs.Prelude.{◌≡◌, ℕ, List, map, string_bytes}
use Rattle.cargo_ssr_options.specs.declared.options.Options.{Options}
use Rattle.cargo_ssr_program.specs.declared.input.Input.{Input}
use Rattle.cargo_ssr_program.specs.Planned.{Task}
use Rattle.cargo_ssr_program.specs.Providers.{meanings_of}
use Rattle.ssr_changes.specs.Files.{AreSearched}
use Rattle.ssr_searching.specs.Searching.{Search}

abbrev pub search_of : Input → Search
search_of input =
    record { workspace = input.files.workspace; meanings = meanings_of input.semantics; position = input.position; ranges = input.ranges.items }

abbrev pub task_of : Input → Options → Task
task_of input options = record {
  search = search_of input;
  rules = map string_bytes options.rules.items;
  folder = string_bytes input.folder;
  files = input.files.files;
}

-- a task with these rules, which searches its files
pub record IsTaskWith (rules : List (List ℕ)) (task : Task) : Type 0 where
  pub rules_are : task.rules ≡ rules
  pub searched : AreSearched task.search.workspace.files task.files
