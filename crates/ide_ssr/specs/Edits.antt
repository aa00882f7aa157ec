-- What the edits of a finder are.
use Rattle.std.specs.Prelude.{List, IsSome, All, Result, Ok, Err}
use Rattle.std.specs.BTreeMap.{BTreeMap}
use Rattle.ssr_base_trees.specs.declared.ids.FileId.{FileId}
use Rattle.ssr_base_trees.specs.Changes.{Change}
use Rattle.ide_ssr_resolved_rule.specs.Resolved.{ResolvedRule}
use Rattle.ide_ssr_nesting.specs.Holding.{Kept}
use Rattle.ide_ssr_nesting.specs.Lists.{Listing}
use Rattle.ide_ssr_rewriting.specs.declared.editing.EditError.{EditError}
use Rattle.ide_ssr_rewriting.specs.declared.editing.EditError.TheVariants as errors
use Rattle.ide_ssr_rewriting.specs.Edits.{Answers}
use Rattle.ide_ssr_rewriting.specs.Replacements.{writing}
use Rattle.ide_ssr.specs.Finder.{Finder}
use Rattle.ide_ssr.specs.Searching.{IsOutcome}

-- each rule has a template
abbrev pub HaveTemplates : List ResolvedRule → Type 0
HaveTemplates rules = All (λ rule. IsSome rule.template) rules

-- the edits by which the kept matches are rewritten, or the first clash of them
abbrev pub AreEdits : Finder → Result (BTreeMap FileId (List Change)) EditError → Type 0
AreEdits finder result = (kept : Kept) × (lists : Listing) × IsOutcome finder kept lists × Answers kept lists (writing finder.meanings finder.rules) result

-- that a rule has no template is told before all else, whether it matches or not
abbrev pub Edits : Finder → Result (BTreeMap FileId (List Change)) EditError → Type 0
Edits finder (Err errors.NoTemplate) = ¬ HaveTemplates finder.rules
Edits finder (Err errors.Memory) = HaveTemplates finder.rules
Edits finder (Err (errors.Clash earlier later)) = HaveTemplates finder.rules × AreEdits finder (Err (errors.Clash earlier later))
Edits finder (Ok edits) = HaveTemplates finder.rules × AreEdits finder (Ok edits)
