-- Whether what calls stand for groups as before, one call after the other.
use Rattle.std.proofs.Common.{◌≡◌, ◌∙◌, ℕ, zero, suc, ◌+◌, ◌<◌, Bool, true, false, List, length, refl, sym, ap, add-one, inl, inr, arith}
use Rattle.std.specs.Prelude.{◌&&◌, Option, Some, slice_get, if◌then◌else◌}
use Rattle.std.specs.Option.{option_map_or}
use Rattle.std.proofs.lemmas.Bool.{cases_eq}
use Rattle.ssr_syntax_tree.specs.Syntax.{Syntax}
use Rattle.ssr_base_trees.specs.Changes.{Change}
use Rattle.ssr_base_trees.specs.Workspace.{Workspace, tree_of}
use Rattle.ssr_standing.specs.Expansions.{as_they_are, both_agree, call_of, first_stand, is_changed, read_with, stands_for, stands_in}
use Rattle.ssr_standing.specs.Standing.{stands_of}

and_false : (b : Bool) → (b && false) ≡ false
and_false true = refl
and_false false = refl

module _ (w : Workspace) (n : ℕ) (file : Syntax) (cs : List Change) where
  -- one call more
  pub one_stands : (i : ℕ) (answer : Bool) → answer ≡ stands_for w n file cs (length w.files + i) → answer ≡ true
      → first_stand w n file cs i ≡ true → first_stand w n file cs (i + 1) ≡ true
  one_stands i answer is stands so_far =
      let next : first_stand w n file cs (i + 1) ≡ (first_stand w n file cs i && stands_for w n file cs (length w.files + i)) = rw add-one refl in
      next ∙ ap (λ (b : Bool). b && stands_for w n file cs (length w.files + i)) so_far ∙ sym is ∙ stands

  -- where one doesn't stand, all don't
  pub one_falls : (i count : ℕ) → i < count → stands_for w n file cs (length w.files + i) ≡ false → first_stand w n file cs count ≡ false
  one_falls i zero h falls = absurd (omega arith)
  one_falls i (suc count) h falls = elim (cases_eq i count) [
    | inl same ↦
        ap (λ k. first_stand w n file cs count && stands_for w n file cs (length w.files + k)) (sym same)
        ∙ ap (λ (b : Bool). first_stand w n file cs count && b) falls ∙ and_false (first_stand w n file cs count)
    | inr other ↦
        ap (λ (b : Bool). b && stands_for w n file cs (length w.files + count)) (one_falls i count (omega arith) falls)
  ]

-- by whether something in a call is replaced and by its tree, whether what it stands for groups as before
abbrev pub told_of : Workspace → Syntax → List Change → ℕ → Bool → Option Syntax → Bool
told_of w file cs t changed tree =
    if changed then option_map_or (λ one. both_agree (read_with w (as_they_are file cs) t one) (read_with w cs t one)) tree false else true

module _ (w : Workspace) (n : ℕ) (file : Syntax) (cs : List Change) where
  -- the two decide
  pub told_is : (t : ℕ) (changed told : Bool) (tree found : Option Syntax) → changed ≡ option_map_or (is_changed n cs) (call_of w t) false → changed ≡ told
      → found ≡ tree_of w t → found ≡ tree → told_of w file cs t told tree ≡ stands_for w n file cs t
  told_is t changed told tree found is e of f =
      ap (λ (b : Bool). told_of w file cs t b tree) (sym e ∙ is) ∙ ap (told_of w file cs t (option_map_or (is_changed n cs) (call_of w t) false)) (sym f ∙ of)

  -- where nothing is replaced, no tree is looked at
  pub unchanged_stands : (t : ℕ) (changed : Bool) → changed ≡ option_map_or (is_changed n cs) (call_of w t) false → changed ≡ false
      → true ≡ stands_for w n file cs t
  unchanged_stands t changed is e = told_is t changed false (tree_of w t) (tree_of w t) is e refl refl

  -- the file is there
  at_file : slice_get w.files n ≡ Some file → stands_in w n cs ≡ (stands_of w.reach file cs && first_stand w n file cs (length w.expansions))
  at_file there = ap (λ (o : Option Syntax). option_map_or (λ one. stands_of w.reach one cs && first_stand w n one cs (length w.expansions)) o false) there

  -- its text doesn't stand
  pub text_falls : (text_stands : Bool) → slice_get w.files n ≡ Some file → text_stands ≡ stands_of w.reach file cs → text_stands ≡ false → false ≡ stands_in w n cs
  text_falls text_stands there is e =
      sym (at_file there ∙ ap (λ (b : Bool). b && first_stand w n file cs (length w.expansions)) (sym is ∙ e))

  -- its text stands, so the calls decide
  pub calls_decide : (text_stands : Bool) → slice_get w.files n ≡ Some file → text_stands ≡ stands_of w.reach file cs → text_stands ≡ true
      → first_stand w n file cs (length w.expansions) ≡ stands_in w n cs
  calls_decide text_stands there is e =
      sym (at_file there ∙ ap (λ (b : Bool). b && first_stand w n file cs (length w.expansions)) (sym is ∙ e))
