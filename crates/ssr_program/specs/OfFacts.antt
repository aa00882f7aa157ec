-- What is written for rules and the bytes of a facts file.
use Rattle.std.specs.Prelude.{ℕ, ◌≢◌, List, [], ◌++◌, map, flat_map, slice_index_or, nat_eq, if◌then◌else◌, Ok, Err, string_bytes, codes, decimal}
use Rattle.std.specs.List.{ends_with, enumerate_from}
use Rattle.std.specs.Option.{option_map_or}
use Rattle.ssr_syntax_tree.specs.Syntax.{Syntax}
use Rattle.ssr_base_trees.specs.Workspace.{FileSpan}
use Rattle.ssr_base.specs.declared.workspace_error.WorkspaceError.{WorkspaceError}
use Rattle.ssr_base.specs.declared.workspace_error.WorkspaceError.TheVariants as w
use Rattle.ide_ssr_rewriting.specs.Clashes.{Clash}
use Rattle.ssr_facts_rows.specs.Facts.{facts_of}
use Rattle.ssr_facts.specs.declared.facts.Facts.{Facts}
use Rattle.ssr_facts.specs.declared.facts_error.FactsError.{FactsError}
use Rattle.ssr_facts.specs.declared.facts_error.FactsError.TheVariants as errors
use Rattle.ssr_facts.specs.Provider.{provided}
use Rattle.ssr_facts.specs.Reading.{Answers}
use Rattle.ssr_program.specs.declared.commands.Form.TheVariants as forms
use Rattle.ssr_program.specs.Output.{Output, line_break, written, refused, input_refused, search_refused}
use Rattle.ssr_base.specs.Editing.{new_text}
use Rattle.ssr_searching.specs.Searching.{Search, Changes, ComesTo, refuses, clashes, changes}

-- ** Refusals.

-- what of the files or of the expansions is refused
abbrev pub numbered : List ℕ → ℕ → List ℕ
numbered what number = what ++ (codes " " ++ (decimal number ++ codes " refused"))

-- why there is no workspace
abbrev pub workspace_words : WorkspaceError → List ℕ
workspace_words w.TooManyTrees = codes "too many trees"
workspace_words (w.File number error) = numbered (codes "file") number
workspace_words (w.Call number) = numbered (codes "expansion") number
workspace_words (w.Nested number) = numbered (codes "expansion") number
workspace_words (w.Origin number) = numbered (codes "expansion") number
workspace_words (w.Expansion number error) = numbered (codes "expansion") number
workspace_words w.Memory = codes "out of memory"

-- why bytes are no facts
abbrev pub facts_words : FactsError → List ℕ
facts_words errors.NotJson = codes "not JSON"
facts_words errors.Shape = codes "wrong shape"
facts_words (errors.Workspace refusal) = workspace_words refusal
facts_words errors.Memory = codes "out of memory"

-- ** What is written.

-- the search that facts tell
abbrev pub facts_search : Facts → Search
facts_search facts = record {
  workspace = facts.workspace;
  meanings = provided facts.semantics;
  position = facts.position;
  ranges = facts.ranges.items;
}

abbrev pub names_of : Facts → List (List ℕ)
names_of facts = map string_bytes facts.names.items

-- the name of a file; each file has one
abbrev pub name_at : List (List ℕ) → ℕ → List ℕ
name_at names file = slice_index_or names file []

abbrev pub range_words : FileSpan → List ℕ
range_words range = decimal range.span.start ++ (codes ".." ++ decimal range.span.end)

-- that the replacements of two matches of a file clash
abbrev pub clash_words : List (List ℕ) → Clash → List ℕ
clash_words names clash =
    codes "replacements clash in " ++ (name_at names clash.earlier.file ++ (codes " at " ++ (range_words clash.earlier ++ (codes " and " ++ range_words clash.later))))

-- a text with a line break behind it, unless it ends with one
abbrev pub closed : List ℕ → List ℕ
closed text = if ends_with nat_eq text line_break then text else text ++ line_break

-- a line with the name of a file, and its new text
abbrev pub part : List ℕ → List ℕ → List ℕ
part name text = codes "== " ++ (name ++ (line_break ++ closed text))

-- what is written of a file: nothing, unless it has changes
abbrev pub part_of : List (List ℕ) → Changes → ℕ × Syntax → List ℕ
part_of names new (file, code) = option_map_or (λ cs. part (name_at names file) (new_text code cs)) (new file) []

-- what is written of all files, in their order
abbrev pub parts : List (List ℕ) → List Syntax → Changes → List ℕ
parts names files new = flat_map (part_of names new) (enumerate_from 0 files)

-- ** Outputs.

abbrev pub AreFacts : List ℕ → Facts → Type 0
AreFacts bytes facts = Answers (facts_of bytes) (Ok facts)

pub data IsOutputOfFacts (rules : List (List ℕ)) (bytes : List ℕ) : Output → Type 0 where
  no_facts : (error : FactsError) → error ≢ errors.Memory → Answers (facts_of bytes) (Err error)
      → IsOutputOfFacts rules bytes (input_refused forms.Facts (facts_words error))
  no_search : (facts : Facts) (message : List ℕ) → AreFacts bytes facts → ComesTo (facts_search facts) rules (refuses message)
      → IsOutputOfFacts rules bytes (search_refused message)
  clash : (facts : Facts) (two : Clash) → AreFacts bytes facts → ComesTo (facts_search facts) rules (clashes two)
      → IsOutputOfFacts rules bytes (refused (clash_words (names_of facts) two))
  rewritten : (facts : Facts) (new : Changes) → AreFacts bytes facts → ComesTo (facts_search facts) rules (changes new)
      → IsOutputOfFacts rules bytes (written (parts (names_of facts) facts.workspace.files new))
