-- The table of what nodes stand for, one used path more after the other.
use Rattle.std.proofs.Common.{◌≡◌, ℕ, ◌+◌, ◌<◌, Bool, true, false, List, [], ◌∷◌, length, take, get_or, Option, Some, None, refl, sym, ap, subst, ◌∙◌, arith, inl, inr}
use Rattle.std.proofs.lemmas.Bool.{cases_eq, eq-eqb, ne_eqb}
use Rattle.std.proofs.lemmas.Grind.{get_or-set_at}
use Rattle.std.proofs.lemmas.List.{get_or-set_other, get_or_default, take_more}
use Rattle.std.proofs.lemmas.List.Elements.{All-get_or}
use Rattle.std.proofs.lemmas.List.Folds.{find-append}
use Rattle.std.proofs.Math.ListN.{set}
use Rattle.std.specs.Prelude.{◌==◌, cond}
use Rattle.std.specs.List.{find}
use Rattle.std.specs.Option.{is_some, option_map, option_or}
use Rattle.ssr_syntax_tree.specs.declared.number.NodeNo.{NodeNo}
use Rattle.ssr_syntax_tree.specs.Places.{HasNode}
use Rattle.ssr_syntax_tree.specs.Syntax.{Syntax, node_count}
use Rattle.ssr_base_trees.specs.declared.semantics.Res.{Res}
use Rattle.ide_ssr_resolved_rule.specs.declared.used_paths.UsedPath.{UsedPath}
use Rattle.ide_ssr_resolved_rule.specs.Private.Marks.{TellsRes}
use Rattle.ide_ssr_resolved_rule.specs.UsedPaths.{res_at, is_at, HasPaths}

or_none : (o : Option Res) → option_or o None ≡ o
or_none None = refl
or_none (Some res) = refl

none_from : (o : Option Res) → is_some o ≡ false → o ≡ None
none_from None free = refl
none_from (Some res) free = cc

first_stays : (first other : Option Res) → is_some first ≡ true → option_or first other ≡ first
first_stays None other held = cc
first_stays (Some res) other held = refl

first_found : (found : Option UsedPath) (b : Bool) (path : UsedPath) → option_map (λ (path : UsedPath). path.res) (option_or found (cond b (Some path) None))
    ≡ option_or (option_map (λ (path : UsedPath). path.res) found) (cond b (Some path.res) None)
first_found (Some other) b path = refl
first_found None true path = refl
first_found None false path = refl

module _ (s : Syntax) (paths : List UsedPath) (i : ℕ) (d : UsedPath) (low : i < length paths) (has : HasPaths s paths) where
  abbrev path : UsedPath
  path = get_or paths i d

  told_by : (n : ℕ) (b : Bool) → (path.node.0 == n) ≡ b → res_at (take (i + 1) paths) (record { 0 = n })
      ≡ option_or (res_at (take i paths) (record { 0 = n })) (cond b (Some path.res) None)
  told_by n b is =
      let node : NodeNo = record { 0 = n } in
      ap (λ some. res_at some node) (take_more paths i d low)
      ∙ ap (option_map (λ (path : UsedPath). path.res)) (find-append (is_at node) (take i paths) (path ∷ []))
      ∙ first_found (find (is_at node) (take i paths)) (path.node.0 == n) path
      ∙ ap (λ b. option_or (res_at (take i paths) node) (cond b (Some path.res) None)) is

  elsewhere : (n : ℕ) → (n ≡ path.node.0 → ⊥) → res_at (take (i + 1) paths) (record { 0 = n }) ≡ res_at (take i paths) (record { 0 = n })
  elsewhere n other = told_by n false (ne_eqb path.node.0 n (λ same. other (sym same))) ∙ or_none (res_at (take i paths) (record { 0 = n }))

  told_at : (table : List (Option Res)) → path.node.0 < length table → TellsRes (take i paths) table → get_or table path.node.0 None ≡ None
      → TellsRes (take (i + 1) paths) (set table path.node.0 (Some path.res))
  told_at table within so_far none n =
      elim (cases_eq n path.node.0) [
        | inl same ↦
            get_or-set_at table path.node.0 n (Some path.res) None same within
            ∙ sym (told_by n true (eq-eqb path.node.0 n (sym same))
            ∙ ap (λ first. option_or first (Some path.res)) (sym (so_far n) ∙ ap (λ n. get_or table n None) same ∙ none))
        | inr other ↦ get_or-set_other table path.node.0 n (Some path.res) None other ∙ so_far n ∙ sym (elsewhere n other)
      ]

  path_within : (table : List (Option Res)) → length table ≡ 1 + node_count s.children → path.node.0 < length table
  path_within table long =
      let it = All-get_or (λ (path : UsedPath). HasNode s path.node.0) paths i d low has in omega (arith, it, long)

  pub told_more : (table new : List (Option Res)) (here : Option Res) → length table ≡ 1 + node_count s.children → TellsRes (take i paths) table
      → here ≡ get_or table path.node.0 here → is_some here ≡ false → new ≡ set table path.node.0 (Some path.res) → TellsRes (take (i + 1) paths) new
  told_more table new here long so_far at free written =
      let within = path_within table long in
      subst (TellsRes (take (i + 1) paths)) (sym written)
      (told_at table within so_far (get_or_default table path.node.0 None here within ∙ sym at ∙ none_from here free))

  pub told_kept : (table new : List (Option Res)) (here : Option Res) → length table ≡ 1 + node_count s.children → TellsRes (take i paths) table
      → here ≡ get_or table path.node.0 here → is_some here ≡ true → new ≡ table → TellsRes (take (i + 1) paths) new
  told_kept table new here long so_far at held same n =
      let within = path_within table long in
      let first : get_or table path.node.0 None ≡ here = get_or_default table path.node.0 None here within ∙ sym at in
      ap (λ t. get_or t n None) same
      ∙ elim (cases_eq n path.node.0) [
        | inl own ↦
            let is : get_or table n None ≡ here = ap (λ n. get_or table n None) own ∙ first in
            is
            ∙ sym (told_by n true (eq-eqb path.node.0 n (sym own)) ∙ ap (λ o. option_or o (Some path.res)) (sym (so_far n) ∙ is)
            ∙ first_stays here (Some path.res) held)
        | inr other ↦ so_far n ∙ sym (elsewhere n other)
      ]
