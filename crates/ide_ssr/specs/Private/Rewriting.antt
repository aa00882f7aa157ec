-- Private: the edits of a finder, with the matches that they are for.
use Rattle.std.specs.Prelude.{Result, Ok, Err}
use Rattle.ide_ssr_rewriting.specs.declared.editing.EditError.{EditError}
use Rattle.ide_ssr_rewriting.specs.Edits.{Answers}
use Rattle.ide_ssr_rewriting.specs.Replacements.{writing}
use Rattle.ide_ssr.specs.declared.finder.Rewritten.{Rewritten}
use Rattle.ide_ssr.specs.Edits.{Edits, HaveTemplates}
use Rattle.ide_ssr.specs.Finder.{Finder}
use Rattle.ide_ssr.specs.Searching.{IsOutcome}

-- the edits by which the kept matches of what is found are rewritten, or why there are none
abbrev pub Rewrites : Finder → Result Rewritten EditError → Type 0
Rewrites finder (Ok rewritten) =
    HaveTemplates finder.rules
    × IsOutcome finder rewritten.kept rewritten.lists
    × Answers rewritten.kept rewritten.lists (writing finder.meanings finder.rules) (Ok rewritten.edits)
Rewrites finder (Err error) = Edits finder (Err error)
