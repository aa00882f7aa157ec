-- What is searched for: rules or search patterns, the kinds that they are read as, and which of them a kind comes from.
use Rattle.std.specs.Prelude.{ℕ, ◌≡◌, ◌+◌, List, [], ◌∷◌, ◌++◌, Result, Ok, Err, length, replicate}
use Rattle.ssr_syntax_kinds.specs.declared.reach.Reach.TheVariants.{Whole}
use Rattle.ssr_base_trees.specs.declared.ids.ScopeId.{ScopeId}
use Rattle.ssr_base_trees.specs.Meanings.{Meanings}
use Rattle.ide_ssr_refusals.specs.declared.refusals.Refusal.{Refusal}
use Rattle.ide_ssr_refusals.specs.Refusals.{◌>>=◌}
use Rattle.ide_ssr_resolved_rule.specs.Resolved.{ResolvedRule}
use Rattle.ide_ssr_rules.specs.Rules.{Rule, once_reading_of, pattern_reading_of}
use Rattle.ide_ssr.specs.Finder.{Finder, FinderWith}
use Rattle.ssr_searching.specs.Searching.{Search, MakesFor, both, resolved}
use Rattle.ssr_changes.specs.declared.finding.Form.{Form}
use Rattle.ssr_changes.specs.declared.finding.Form.TheVariants as forms

-- what a text is read as in all of Rust: a rule as it is searched once
abbrev pub reading_of : Form → List ℕ → Result Rule Refusal
reading_of forms.Rules text = once_reading_of Whole text
reading_of forms.Patterns text = pattern_reading_of Whole text

-- what a text says, parsed and resolved
abbrev pub kinds_of : (List ℕ → Result Rule Refusal) → Meanings → ScopeId → List ℕ → Result (List ResolvedRule) Refusal
kinds_of read meanings scope text = read text >>= resolved meanings scope

-- what texts say, in their order
abbrev pub all_kinds : (List ℕ → Result Rule Refusal) → Meanings → ScopeId → List (List ℕ) → Result (List ResolvedRule) Refusal
all_kinds read meanings scope [] = Ok []
all_kinds read meanings scope (text ∷ texts) = both (kinds_of read meanings scope text) (all_kinds read meanings scope texts)

-- how many kinds there are
abbrev pub count_of : Result Rule Refusal → ℕ
count_of (Ok rule) = length rule.kinds
count_of (Err refusal) = 0

-- the number of the text that each kind comes from, where the texts are numbered from this one on
abbrev pub owners_from : (List ℕ → Result Rule Refusal) → ℕ → List (List ℕ) → List ℕ
owners_from read n [] = []
owners_from read n (text ∷ texts) = replicate (count_of (read text)) n ++ owners_from read (n + 1) texts

abbrev pub owners_of : (List ℕ → Result Rule Refusal) → List (List ℕ) → List ℕ
owners_of read texts = owners_from read 0 texts

-- the finder of a search, to which the texts are added
pub record IsFinderFor (form : Form) (s : Search) (texts : List (List ℕ)) (finder : Finder) : Type 0 where
  pub workspace : finder.workspace ≡ s.workspace
  pub meanings : finder.meanings ≡ s.meanings
  pub context : MakesFor s (Ok finder.context)
  pub kinds : all_kinds (reading_of form) s.meanings finder.context.scope texts ≡ Ok finder.rules
