-- Private: what adding texts does to a finder.
use Rattle.std.specs.Prelude.{ℕ, ◌≡◌, List, ◌++◌, Ok}
use Rattle.ssr_base_trees.specs.Meanings.{Meanings}
use Rattle.ide_ssr_resolved_rule.specs.Resolved.{ResolvedRule}
use Rattle.ide_ssr.specs.Finder.{FinderWith}
use Rattle.ssr_changes.specs.declared.finding.Form.{Form}
use Rattle.ssr_changes.specs.Finding.{all_kinds, owners_of, reading_of}

-- the kinds of all texts are added behind the others, and these are the numbers of the texts that they come from
pub record AddsTexts {S : Type 0} (told_by : S → Meanings) (form : Form) (texts : List (List ℕ)) (old new : FinderWith S) (owners : List ℕ) : Type 0 where
  pub kinds : List ResolvedRule
  pub are_read : all_kinds (reading_of form) (told_by old.semantics) old.context.scope texts ≡ Ok kinds
  pub added : new ≡ record old { rules = old.rules ++ kinds }
  pub owned : owners ≡ owners_of (reading_of form) texts
