-- Private: what is asked of matches and of their lists so that they can be written.
use Rattle.std.specs.Prelude.{◌≡◌, true, List, All}
use Rattle.ssr_base_trees.specs.Laws.{LiesIn}
use Rattle.ssr_base_trees.specs.Texts.{is_boundary}
use Rattle.ssr_base_trees.specs.Workspace.{FileSpan, Workspace}
use Rattle.ide_ssr_rewriting.specs.Clashes.{Rewrite}
use Rattle.ide_ssr_rewriting.specs.Replacements.{file_text}

-- a range lies between characters of its file
pub record FitsItsFile (w : Workspace) (range : FileSpan) : Type 0 where
  pub begins : is_boundary (file_text w range.file) range.span.start ≡ true
  pub ends : is_boundary (file_text w range.file) range.span.end ≡ true

-- a range and those of a list, which lie in it, lie between characters of their file
pub record IsOf (w : Workspace) (range : FileSpan) (list : List Rewrite) : Type 0 where
  pub fits : FitsItsFile w range
  pub each : All (λ r. LiesIn r.range range × FitsItsFile w r.range) list
