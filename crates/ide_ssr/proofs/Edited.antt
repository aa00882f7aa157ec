-- The edits of a finder are those of what its search comes to.
use Rattle.std.proofs.Common.{◌≡◌, List, Result, Ok, Err, ap, subst}
use Rattle.std.specs.BTreeMap.{BTreeMap}
use Rattle.ssr_base_trees.specs.declared.ids.FileId.{FileId}
use Rattle.ssr_base_trees.specs.Changes.{Change}
use Rattle.ssr_base_trees.specs.Meanings.{Meanings}
use Rattle.ide_ssr_resolved_rule.specs.Resolved.{ResolvedRule}
use Rattle.ide_ssr_nesting.specs.Holding.{Kept}
use Rattle.ide_ssr_nesting.specs.Lists.{Listing}
use Rattle.ide_ssr_rewriting.specs.declared.editing.EditError.{EditError}
use Rattle.ide_ssr_rewriting.specs.declared.editing.EditError.TheVariants as errors
use Rattle.ide_ssr_rewriting.specs.Edits.{Answers}
use Rattle.ide_ssr_rewriting.specs.Replacements.{writing}
use Rattle.ide_ssr.specs.Edits.{HaveTemplates, Edits}
use Rattle.ide_ssr.specs.Finder.{Finder, FinderWith}
use Rattle.ide_ssr.specs.Searching.{IsOutcome}

told : (finder : Finder) (kept : Kept) (lists : Listing) (result : Result (BTreeMap FileId (List Change)) EditError) → HaveTemplates finder.rules
    → IsOutcome finder kept lists → Answers kept lists (writing finder.meanings finder.rules) result → Edits finder result
told finder kept lists (Ok edits) have outcome answers = (have, (kept, lists, outcome, answers))
told finder kept lists (Err (errors.Clash earlier later)) have outcome answers = (have, (kept, lists, outcome, answers))
told finder kept lists (Err errors.Memory) have outcome answers = have
told finder kept lists (Err errors.NoTemplate) have outcome answers = absurd answers.2

pub edits_told : (finder : Finder) (kept : Kept) (lists : Listing) (meanings : Meanings) (rules : List ResolvedRule) (result : Result (BTreeMap FileId (List Change)) EditError)
    → meanings ≡ finder.meanings → rules ≡ finder.rules → HaveTemplates rules → IsOutcome finder kept lists → Answers kept lists (writing meanings rules) result
    → Edits finder result
edits_told finder kept lists meanings rules result same_meanings same have outcome answers =
    told finder kept lists result (subst HaveTemplates same have) outcome
    (subst (λ (meanings : Meanings). Answers kept lists (writing meanings finder.rules) result) same_meanings
    (subst (λ (rules : List ResolvedRule). Answers kept lists (writing meanings rules) result) same answers))

-- edits, and the kept matches that they are for
pub rewrites_told : (finder : Finder) (kept : Kept) (lists : Listing) (meanings : Meanings) (rules : List ResolvedRule) (edits : BTreeMap FileId (List Change))
    → meanings ≡ finder.meanings → rules ≡ finder.rules → HaveTemplates rules → IsOutcome finder kept lists → Answers kept lists (writing meanings rules) (Ok edits)
    → HaveTemplates finder.rules × IsOutcome finder kept lists × Answers kept lists (writing finder.meanings finder.rules) (Ok edits)
rewrites_told finder kept lists meanings rules edits same_meanings same have outcome answers = (
  subst HaveTemplates same have,
  outcome,
  subst (λ (meanings : Meanings). Answers kept lists (writing meanings finder.rules) (Ok edits)) same_meanings
      (subst (λ (rules : List ResolvedRule). Answers kept lists (writing meanings rules) (Ok edits)) same answers),
)

-- equal finders have the same rules
pub rules_are : {S : Type 0} (one other : FinderWith S) → one ≡ other → one.rules ≡ other.rules
rules_are {S = S} one other is = ap (λ (f : FinderWith S). f.rules) is

-- and the same provider
pub meanings_are : {S : Type 0} (meanings : S → Meanings) (one other : FinderWith S) → one ≡ other → meanings one.semantics ≡ meanings other.semantics
meanings_are {S = S} meanings one other is = ap (λ (f : FinderWith S). meanings f.semantics) is
