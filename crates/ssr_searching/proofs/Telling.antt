-- Errors that tell refusals.
use Rattle.std.proofs.Common.{◌≡◌, List, [], ℕ, ◌+◌, ◌<◌, ◌++◌, length, take, get_or, Result, Ok, Err, refl, ap, subst, sym, ◌∙◌, append_assoc}
use Rattle.ssr_syntax_kinds.specs.declared.reach.Reach.{Reach}
use Rattle.ide_ssr_refusals.specs.declared.error.SsrError.{SsrError}
use Rattle.ide_ssr_refusals.specs.declared.error.SsrError.TheVariants as errors
use Rattle.ide_ssr_refusals.specs.declared.refusals.Refusal.{Refusal}
use Rattle.ide_ssr_refusals.specs.Refusals.{TellsOf, ◌>>=◌}
use Rattle.ide_ssr_resolved_rule.specs.Resolved.{ResolvedRule}
use Rattle.ssr_base_trees.specs.declared.ids.ScopeId.{ScopeId}
use Rattle.ssr_base_trees.specs.Meanings.{Meanings}
use Rattle.ide_ssr_rules.specs.Rules.{Rule, rule_reading, rule_reading_of, once, once_reading_of}
use Rattle.ssr_searching.specs.Searching.{Reading, resolved, rule_kinds, rules_reading}
use Rattle.ide_ssr.specs.Finder.{FinderWith}
use Rattle.ide_ssr.specs.Adding.{Adds}
use Rattle.ssr_searching.specs.declared.searching.Kinds.{Kinds}
use Rattle.ssr_searching.specs.declared.searching.Kinds.TheVariants as searched
use Rattle.ssr_searching.specs.Private.Searching.{reach_of, reading_of}
use Rattle.ssr_searching.proofs.RulesRead.{read_more, read_refused}

-- want of memory tells any reading
memory_tells : {A : Type 0} (reading : Result A Refusal) → TellsOf errors.Memory reading
memory_tells (Ok value) = tt
memory_tells (Err refusal) = tt

-- a reading that is refused is told in the same way as the one that it refuses
tells_as : (error : SsrError) (a b : Result (List ResolvedRule) Refusal)
    → ((refusal : Refusal) → a ≡ Err refusal → b ≡ Err refusal) → TellsOf error a → TellsOf error b
tells_as error (Err refusal) b same told =
    let P : Result (List ResolvedRule) Refusal → Type 0 = λ r. TellsOf error r in
    let is : b ≡ Err refusal = same refusal refl in subst P (sym is) told
tells_as errors.Memory (Ok kinds) b same told = memory_tells b
tells_as (errors.Message _) (Ok kinds) b same told = elim told [ ]

-- rules of which each kind is searched are read in the stated language
pub each_read : (text : List ℕ) (rule : Rule) (kinds : Kinds) (reach : Reach) → reach ≡ reach_of kinds → kinds ≡ searched.Each
    → rule_reading_of reach text ≡ Ok rule → rule_reading text ≡ Ok rule
unfolding rule_reading
each_read text rule kinds reach its is read = ap (λ (reach : Reach). rule_reading_of reach text) (sym (its ∙ ap reach_of is)) ∙ read

-- those that are searched once are read in their reach
pub once_read : (text : List ℕ) (rule : Rule) (kinds : Kinds) (reach own : Reach) → reach ≡ reach_of kinds → kinds ≡ searched.Once own
    → rule_reading_of reach text ≡ Ok rule → once_reading_of own text ≡ Ok (once rule)
once_read text rule kinds reach own its is read =
    ap (λ (reach : Reach). once_reading_of reach text) (sym (its ∙ ap reach_of is))
    ∙ ap (λ (read : Result Rule Refusal). read >>= λ rule. Ok (once rule)) read

module _ (meanings : Meanings) (scope : ScopeId) where
  -- what tells that a rule is refused tells that it has no kinds
  tells_both : (error : SsrError) (reading : Result Rule Refusal) → TellsOf error reading → TellsOf error (reading >>= resolved meanings scope)
  tells_both error (Err refusal) told = told
  tells_both errors.Memory (Ok rule) told = memory_tells (resolved meanings scope rule)
  tells_both (errors.Message _) (Ok rule) told = elim told [ ]

  -- and tells that of it as it is searched once
  tells_once : (error : SsrError) (reading : Result Rule Refusal) → TellsOf error reading → TellsOf error (reading >>= λ rule. Ok (once rule))
  tells_once error (Err refusal) told = told
  tells_once errors.Memory (Ok rule) told = tt
  tells_once (errors.Message _) (Ok rule) told = elim told [ ]

  pub tells_rule : (error : SsrError) (kinds : Kinds) (text : List ℕ) → TellsOf error (rule_reading_of (reach_of kinds) text) → TellsOf error (rule_kinds (reading_of kinds) meanings scope text)
  unfolding rule_reading
  tells_rule error searched.Each text told = tells_both error (rule_reading text) told
  tells_rule error (searched.Once reach) text told = tells_both error (once_reading_of reach text) (tells_once error (rule_reading_of reach text) told)

  pub adds_rule : {S : Type 0} (read : Reading) (old new : FinderWith S) (rule : Rule) (text : List ℕ) (result : Result (Unit {0}) SsrError)
      → read text ≡ Ok rule → Adds old new (resolved meanings scope rule) result → Adds old new (rule_kinds read meanings scope text) result
  adds_rule {S} read old new rule text result is added =
      let Read : Result Rule Refusal → Type 0 = λ r. Adds old new (r >>= resolved meanings scope) result in subst Read (sym is) added

module _ {S : Type 0} (told_by : S → Meanings) (read : Reading) (old mid : FinderWith S) (rules : List (List ℕ)) (i : ℕ) (less : i < length rules) (kinds : List ResolvedRule) (before : rules_reading read (told_by old.semantics) old.context.scope (take i rules) ≡ Ok kinds) (so_far : mid ≡ record old { rules = old.rules ++ kinds }) (text : List ℕ) (its : text ≡ get_or rules i []) where
  abbrev m : Meanings
  m = told_by old.semantics

  abbrev scope : ScopeId
  scope = old.context.scope

  -- one rule more
  pub adds_more : (new : FinderWith S) → Adds mid new (rule_kinds read (told_by mid.semantics) mid.context.scope text) (Ok tt)
      → Adds old new (rules_reading read m scope (take (i + 1) rules)) (Ok tt)
  adds_more new added =
      let here : Adds mid new (rule_kinds read m scope text) (Ok tt) =
      subst (λ (f : FinderWith S). Adds mid new (rule_kinds read (told_by f.semantics) f.context.scope text) (Ok tt)) so_far added in
      let with_more : FinderWith S → FinderWith S = λ f. record f { rules = f.rules ++ here.0 } in
      let with_rules : List ResolvedRule → FinderWith S = λ all. record old { rules = all } in (
        kinds ++ here.0,
        read_more read m scope rules i less kinds before here.0 (ap (rule_kinds read m scope) (sym its) ∙ here.1),
        here.2 ∙ ap with_more so_far ∙ ap with_rules (append_assoc old.rules kinds here.0),
      )

  -- a rule that is refused
  pub refuses_more : (error : SsrError) → TellsOf error (rule_kinds read (told_by mid.semantics) mid.context.scope text) → TellsOf error (rules_reading read m scope rules)
  refuses_more error told =
      let here : TellsOf error (rule_kinds read m scope text) =
      subst (λ (f : FinderWith S). TellsOf error (rule_kinds read (told_by f.semantics) f.context.scope text)) so_far told in
      tells_as error (rule_kinds read m scope text) (rules_reading read m scope rules)
      (λ refusal is. read_refused read m scope rules i less kinds before refusal (ap (rule_kinds read m scope) (sym its) ∙ is)) here
