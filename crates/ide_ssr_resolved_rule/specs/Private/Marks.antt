-- Private: the table of what nodes stand for.
use Rattle.std.specs.Prelude.{ℕ, ◌≡◌, List, Option, None, slice_index_or}
use Rattle.ssr_base_trees.specs.declared.semantics.Res.{Res}
use Rattle.ide_ssr_resolved_rule.specs.declared.used_paths.UsedPath.{UsedPath}
use Rattle.ide_ssr_resolved_rule.specs.UsedPaths.{res_at}

-- a table tells what each node stands for
abbrev pub TellsRes : List UsedPath → List (Option Res) → Type 0
TellsRes paths table = (n : ℕ) → slice_index_or table n None ≡ res_at paths (record { 0 = n })
