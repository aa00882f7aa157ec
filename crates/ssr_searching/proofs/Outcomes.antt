-- A search for rules comes to an outcome, and to one.
use Rattle.std.proofs.Common.{◌≡◌, ◌≢◌, ℕ, List, Result, Ok, Err, inl, inr, refl, ap, subst, sym, ◌∙◌}
use Rattle.std.specs.BTreeMap.{BTreeMap}
use Rattle.ssr_base_trees.specs.declared.ids.FileId.{FileId}
use Rattle.ssr_base_trees.specs.declared.ids.FileRange.{FileRange}
use Rattle.ssr_base_trees.specs.Built.{IsBuilt}
use Rattle.ssr_base_trees.specs.Changes.{Change}
use Rattle.ssr_base_trees.specs.Meanings.{Meanings}
use Rattle.ssr_base_trees.specs.Workspace.{Workspace}
use Rattle.ide_ssr_refusals.specs.declared.refusals.Refusal.{Refusal}
use Rattle.ide_ssr_refusals.specs.Refusals.{words}
use Rattle.ide_ssr_resolved_rule.specs.Resolved.{ResolvedRule}
use Rattle.ide_ssr_rewriting.specs.declared.editing.EditError.TheVariants as edits
use Rattle.ide_ssr_search.specs.declared.context_error.ContextError.{ContextError}
use Rattle.ide_ssr_search.specs.declared.context_error.ContextError.TheVariants as contexts
use Rattle.ide_ssr_search.specs.Context.{Context}
use Rattle.ide_ssr_search.specs.Making.{error_words}
use Rattle.ide_ssr_search.proofs.Shared.{one_making, making_exists}
use Rattle.ide_ssr_rules.specs.Rules.{rule_reading}
use Rattle.ide_ssr.specs.Edits.{Edits}
use Rattle.ide_ssr.specs.Finder.{Finder}
use Rattle.ide_ssr.proofs.Shared.{one_edit_each, one_clash_each, edits_or_clash_each, answer_exists_each}
use Rattle.ssr_searching.specs.Searching.{Search, MakesFor, IsFinder, changes_in, Outcome, refuses, clashes, changes, ComesTo, no_finder, no_rules, clash, edited, rules_reading}
use Rattle.ssr_searching.specs.declared.searching.Kinds.TheVariants as searched
use Rattle.ssr_searching.proofs.Reaching.{finder_replaces}
use Rattle.ssr_searching.proofs.Replacing.{each_has}

module _ (s : Search) (rules : List (List ℕ)) where
  abbrev Answer : Type 0
  Answer = Result Context ContextError

  -- ** What it is made for.

  same_answer : (a b : Answer) → a ≢ Err contexts.Memory → b ≢ Err contexts.Memory → MakesFor s a → MakesFor s b → a ≡ b
  same_answer = one_making s.workspace s.meanings s.position s.ranges

  is_context : (c : Context) → ◌≢◌ {A = Answer} (Ok c) (Err contexts.Memory)
  is_context c e = cc

  is_refusal : (why : ContextError) → why ≢ contexts.Memory → ◌≢◌ {A = Answer} (Err why) (Err contexts.Memory)
  is_refusal why some e = some (let same : why ≡ contexts.Memory = cc in same)

  same_context : (c d : Context) → MakesFor s (Ok c) → MakesFor s (Ok d) → c ≡ d
  same_context c d made again = let same : ◌≡◌ {A = Answer} (Ok c) (Ok d) = same_answer (Ok c) (Ok d) (is_context c) (is_context d) made again in cc

  same_refusal : (why other : ContextError) → why ≢ contexts.Memory → other ≢ contexts.Memory → MakesFor s (Err why) → MakesFor s (Err other) → why ≡ other
  same_refusal why other some as_well made again =
      let same : ◌≡◌ {A = Answer} (Err why) (Err other) = same_answer (Err why) (Err other) (is_refusal why some) (is_refusal other as_well) made again in cc

  made_or_refused : (c : Context) (why : ContextError) → why ≢ contexts.Memory → MakesFor s (Ok c) → MakesFor s (Err why) → ⊥
  made_or_refused c why some made refused =
      let same : ◌≡◌ {A = Answer} (Ok c) (Err why) = same_answer (Ok c) (Err why) (is_context c) (is_refusal why some) made refused in cc

  -- ** Its rules.

  abbrev reading : Context → Result (List ResolvedRule) Refusal
  reading c = rules_reading rule_reading s.meanings c.scope rules

  same_rules : (c d : Context) → MakesFor s (Ok c) → MakesFor s (Ok d) → reading c ≡ reading d
  same_rules c d made again = ap reading (same_context c d made again)

  same_finder : (f g : Finder) → IsFinder rule_reading s rules f → IsFinder rule_reading s rules g → f ≡ g
  same_finder f g one other =
      let made : Workspace → Meanings → Context → List ResolvedRule → Finder =
      λ w m context rules. record { workspace = w; meanings = m; context = context; rules = rules } in
      let kinds : f.rules ≡ g.rules =
      let same : Ok f.rules ≡ Ok g.rules = sym one.kinds ∙ same_rules f.context g.context one.context other.context ∙ other.kinds in cc in
      ap (λ w. made w f.meanings f.context f.rules) (one.workspace ∙ sym other.workspace)
      ∙ ap (λ m. made g.workspace m f.context f.rules) (one.meanings ∙ sym other.meanings)
      ∙ ap (λ context. made g.workspace g.meanings context f.rules) (same_context f.context g.context one.context other.context)
      ∙ ap (made g.workspace g.meanings g.context) kinds

  found_or_refused : (c : Context) (why : Refusal) (f : Finder) → MakesFor s (Ok c) → reading c ≡ Err why → IsFinder rule_reading s rules f → ⊥
  found_or_refused c why f made refused is =
      let same : Err why ≡ Ok f.rules = sym refused ∙ same_rules c f.context made is.context ∙ is.kinds in cc

  same_words : (c d : Context) (why other : Refusal) → MakesFor s (Ok c) → MakesFor s (Ok d) → reading c ≡ Err why → reading d ≡ Err other → why ≡ other
  same_words c d why other made again refused as_well =
      let same : ◌≡◌ {A = Result (List ResolvedRule) Refusal} (Err why) (Err other) = sym refused ∙ same_rules c d made again ∙ as_well in cc

  -- ** Its outcome.

  same_edits : (f g : Finder) (a b : BTreeMap FileId (List Change)) → IsFinder rule_reading s rules f → IsFinder rule_reading s rules g → Edits f (Ok a) → Edits g (Ok b)
      → changes_in a ≡ changes_in b
  same_edits f g a b one other first again =
      let here : Edits g (Ok a) = subst (λ (f : Finder). Edits f (Ok a)) (same_finder f g one other) first in
      λ t n. one_edit_each g a b here again (record { 0 = n }) t

  clash_or_edits : (f g : Finder) (earlier later : FileRange) (found : BTreeMap FileId (List Change)) → IsFinder rule_reading s rules f → IsFinder rule_reading s rules g
      → Edits f (Err (edits.Clash earlier later)) → Edits g (Ok found) → ⊥
  clash_or_edits f g earlier later found one other told is =
      edits_or_clash_each g found earlier later is (subst (λ (f : Finder). Edits f (Err (edits.Clash earlier later))) (same_finder f g one other) told)

  pub one_outcome : (a b : Outcome) → ComesTo s rules a → ComesTo s rules b → a ≡ b
  one_outcome _ _ (no_finder why some made) (no_finder other as_well again) =
      ap (λ why. refuses (error_words why)) (same_refusal why other some as_well made again)
  one_outcome _ _ (no_finder why some made) (no_rules c _ again _) = absurd (made_or_refused c why some again made)
  one_outcome _ _ (no_finder why some made) (clash f _ _ is _) = absurd (made_or_refused f.context why some is.context made)
  one_outcome _ _ (no_finder why some made) (edited f _ is _) = absurd (made_or_refused f.context why some is.context made)
  one_outcome _ _ (no_rules c _ made _) (no_finder why some again) = absurd (made_or_refused c why some made again)
  one_outcome _ _ (no_rules c why made read) (no_rules d other again refused) = ap (λ why. refuses (words why)) (same_words c d why other made again read refused)
  one_outcome _ _ (no_rules c why made read) (clash f _ _ is _) = absurd (found_or_refused c why f made read is)
  one_outcome _ _ (no_rules c why made read) (edited f _ is _) = absurd (found_or_refused c why f made read is)
  one_outcome _ _ (clash f _ _ is _) (no_finder why some again) = absurd (made_or_refused f.context why some is.context again)
  one_outcome _ _ (clash f _ _ is _) (no_rules c why made read) = absurd (found_or_refused c why f made read is)
  one_outcome _ _ (clash f a b is told) (clash g c d other again) =
      ap clashes (one_clash_each g a b c d (subst (λ (f : Finder). Edits f (Err (edits.Clash a b))) (same_finder f g is other) told) again)
  one_outcome _ _ (clash f a b is told) (edited g found other again) = absurd (clash_or_edits f g a b found is other told again)
  one_outcome _ _ (edited f _ is _) (no_finder why some again) = absurd (made_or_refused f.context why some is.context again)
  one_outcome _ _ (edited f _ is _) (no_rules c why made read) = absurd (found_or_refused c why f made read is)
  one_outcome _ _ (edited f found is told) (clash g a b other again) = absurd (clash_or_edits g f a b found other is again told)
  one_outcome _ _ (edited f a is told) (edited g b other again) = ap changes (same_edits f g a b is other told again)

  abbrev pub OutcomeExists : Type 0
  OutcomeExists = (outcome : Outcome) × ComesTo s rules outcome

  by_rules : IsBuilt s.workspace → (c : Context) → MakesFor s (Ok c) → (read : Result (List ResolvedRule) Refusal) → reading c ≡ read → OutcomeExists
  by_rules built c made (Err why) is = (_, no_rules c why made is)
  by_rules built c made (Ok kinds) is =
      let finder : Finder = record { workspace = s.workspace; meanings = s.meanings; context = c; rules = kinds } in
      let its : IsFinder rule_reading s rules finder = record { workspace = refl; meanings = refl; context = made; kinds = is } in
      elim (answer_exists_each finder built (finder_replaces rule_reading (each_has searched.Each) s rules finder its)) [
        | inl found ↦ (_, edited finder found.0 its found.1)
        | inr two ↦ (_, clash finder two.0 two.1 its two.2)
      ]

  by_context : IsBuilt s.workspace → (made : Answer) → made ≢ Err contexts.Memory → MakesFor s made → OutcomeExists
  by_context built (Ok c) some made = by_rules built c made (reading c) refl
  by_context built (Err why) some made = (_, no_finder why (λ is. some (ap Err is)) made)

  pub outcome_exists : IsBuilt s.workspace → OutcomeExists
  outcome_exists built =
      let made = making_exists s.workspace s.meanings s.position s.ranges in by_context built made.0 made.1 made.2
