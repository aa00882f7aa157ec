-- What a placeholder holds, counted from the left.
use Rattle.std.proofs.Common.{◌≡◌, ℕ, ◌+◌, ◌<◌, ◌≤◌, Bool, true, false, cond, lt-ltb, List, [], ◌∷◌, map, Option, Some, None, refl, sym, ◌∙◌, ap, arith}
use Rattle.ssr_base_trees.specs.declared.ids.TokenRun.{TokenRun}
use Rattle.ssr_syntax_tree.specs.declared.number.Element.{Element}
use Rattle.ssr_syntax_tree.specs.Syntax.{Syntax}
use Rattle.ssr_syntax_tree.specs.Places.{Part, part_of}
use Rattle.ide_ssr_token_trees.specs.declared.siblings.Siblings.{Siblings}
use Rattle.ide_ssr_token_trees.specs.Elements.{first_text, first_token, same_text, tokens_at, tokens_among, run_over, up_to, from}
use Rattle.ide_ssr_token_trees.specs.Private.Siblings.{siblings_left, parts_left, run_by, behind_run, IsRest}
use Rattle.ide_ssr_token_trees.proofs.Rests.{not_held, rest_same, rest_next, rest_passed}

-- so far no element began with the text
pub record CountedSoFar (tree : Syntax) (text : Option (List ℕ)) (before now : Siblings) (count : ℕ) : Type 0 where
  pub rest : IsRest before [] now
  pub count_is : tokens_among (up_to text (parts_left tree before)) ≡ count + tokens_among (up_to text (parts_left tree now))
  pub same : from text (parts_left tree before) ≡ from text (parts_left tree now)
  pub few : count + tokens_among (parts_left tree now) ≤ tokens_among (parts_left tree before)

pub count_starts : (tree : Syntax) (text : Option (List ℕ)) (s : Siblings) → CountedSoFar tree text s s 0
count_starts tree text s = record { rest = rest_same s; count_is = omega arith; same = refl; few = omega arith }

begun : (text : Option (List ℕ)) (x : Part) (xs : List Part) → same_text (first_text x) text ≡ true → (up_to text (x ∷ xs) ≡ []) × (from text (x ∷ xs) ≡ x ∷ xs)
begun text x xs is = (ap (λ b. cond b [] (x ∷ up_to text xs)) is, ap (λ b. cond b (x ∷ xs) (from text xs)) is)

other : (text : Option (List ℕ)) (x : Part) (xs : List Part) → same_text (first_text x) text ≡ false → (up_to text (x ∷ xs) ≡ x ∷ up_to text xs) × (from text (x ∷ xs) ≡ from text xs)
other text x xs is = (ap (λ b. cond b [] (x ∷ up_to text xs)) is, ap (λ b. cond b (x ∷ xs) (from text xs)) is)

module _ (tree : Syntax) (text : Option (List ℕ)) (before now after : Siblings) (x : Element) (count : ℕ)
    (so_far : CountedSoFar tree text before now count) (is : siblings_left now ≡ x ∷ siblings_left after) (comma : after.comma ≡ now.comma) where
  parts : parts_left tree now ≡ part_of tree x ∷ parts_left tree after
  parts = ap (map (part_of tree)) is

  pub count_next : (more : ℕ) → more ≡ tokens_at (part_of tree x) → same_text (first_text (part_of tree x)) text ≡ false → CountedSoFar tree text before after (count + more)
  count_next more more_is differs =
      let step = other text (part_of tree x) (parts_left tree after) differs in
      let tokens = so_far.count_is in
      let few = so_far.few in
      let ups : tokens_among (up_to text (parts_left tree now)) ≡ more + tokens_among (up_to text (parts_left tree after)) =
      ap (λ xs. tokens_among (up_to text xs)) parts ∙ ap tokens_among step.0 ∙ ap (λ n. n + tokens_among (up_to text (parts_left tree after))) (sym more_is)
      in
      let all : tokens_among (parts_left tree now) ≡ more + tokens_among (parts_left tree after) =
      ap tokens_among parts ∙ ap (λ n. n + tokens_among (parts_left tree after)) (sym more_is)
      in
      record {
        rest = rest_passed before after x (rest_next before now after x so_far.rest is comma);
        count_is = omega arith;
        same = so_far.same ∙ ap (from text) parts ∙ step.1;
        few = omega arith;
      }

  -- the text came
  pub count_ends : same_text (first_text (part_of tree x)) text ≡ true → count ≡ tokens_among (up_to text (parts_left tree before))
  count_ends begins =
      let none : tokens_among (up_to text (parts_left tree now)) ≡ 0 =
      ap (λ xs. tokens_among (up_to text xs)) parts ∙ ap tokens_among (begun text (part_of tree x) (parts_left tree after) begins).0
      in
      let tokens = so_far.count_is in
      omega arith

  pub count_left : same_text (first_text (part_of tree x)) text ≡ true → after.held ≡ None
      → part_of tree x ∷ map (part_of tree) after.left ≡ from text (parts_left tree before)
  count_left begins none =
      sym (so_far.same ∙ ap (from text) parts ∙ (begun text (part_of tree x) (parts_left tree after) begins).1
      ∙ ap (λ xs. part_of tree x ∷ map (part_of tree) xs) (not_held after none))

  pub count_fits : (more : ℕ) → more ≡ tokens_at (part_of tree x) → count + more ≤ tokens_among (parts_left tree before)
  count_fits more more_is =
      let all : tokens_among (parts_left tree now) ≡ tokens_at (part_of tree x) + tokens_among (parts_left tree after) = ap tokens_among parts in
      let few = so_far.few in
      omega arith

-- nothing more came
module _ (tree : Syntax) (text : Option (List ℕ)) (before now after : Siblings) (count : ℕ)
    (so_far : CountedSoFar tree text before now count) (is : siblings_left now ≡ siblings_left after) (none : siblings_left after ≡ []) where
  none_left : parts_left tree now ≡ []
  none_left = ap (map (part_of tree)) (is ∙ none)

  pub count_none : count ≡ tokens_among (up_to text (parts_left tree before))
  count_none =
      let zero : tokens_among (up_to text (parts_left tree now)) ≡ 0 = ap (λ xs. tokens_among (up_to text xs)) none_left in
      let tokens = so_far.count_is in
      omega arith

  pub left_none : parts_left tree after ≡ from text (parts_left tree before)
  left_none = ap (map (part_of tree)) none ∙ sym (so_far.same ∙ ap (from text) none_left)

-- ** What is held.

run_is : (text : Option (List ℕ)) (x : Part) (xs : List Part) (first n m : ℕ) → first ≡ first_token x → n ≡ tokens_at x → m ≡ tokens_among (up_to text xs)
    → ◌≡◌ {A = TokenRun} (record { first = first; count = n + m }) (run_over x (up_to text xs))
run_is text x xs first n m first_is n_is m_is =
    ap (λ first. record { first = first; count = n + m }) first_is
    ∙ ap (λ n. record { first = first_token x; count = n + m }) n_is
    ∙ ap (λ m. record { first = first_token x; count = tokens_at x + m }) m_is

pub run_some : (text : Option (List ℕ)) (x : Part) (xs ys : List Part) (first n m : ℕ) → ys ≡ x ∷ xs → first ≡ first_token x → n ≡ tokens_at x → m ≡ tokens_among (up_to text xs)
    → (n + m ≡ 0 → ⊥) → Some (record { first = first; count = n + m }) ≡ run_by text ys
run_some text x xs ys first n m ys_is first_is n_is m_is some =
    let run = run_over x (up_to text xs) in
    let positive : 0 < tokens_at x + tokens_among (up_to text xs) = omega arith in
    ap Some (run_is text x xs first n m first_is n_is m_is)
    ∙ sym (ap (λ b. cond b (Some run) None) (lt-ltb 0 run.count positive))
    ∙ ap (run_by text) (sym ys_is)

pub left_behind : (text : Option (List ℕ)) (x : Part) (xs ys left : List Part) → ys ≡ x ∷ xs → left ≡ from text xs → left ≡ behind_run text ys
left_behind text x xs ys left ys_is is = is ∙ ap (behind_run text) (sym ys_is)

up_to_fewer : (text : Option (List ℕ)) (xs : List Part) → tokens_among (up_to text xs) ≤ tokens_among xs
up_to_fewer text [] = omega arith
up_to_fewer text (x ∷ xs) = by (same_text (first_text x) text) (up_to_fewer text xs) where
  by : (b : Bool) → tokens_among (up_to text xs) ≤ tokens_among xs → tokens_among (cond b [] (x ∷ up_to text xs)) ≤ tokens_at x + tokens_among xs
  by true fewer = omega arith
  by false fewer = omega arith

pub run_within : (tree : Syntax) (text : Option (List ℕ)) (before after : Siblings) (x : Element) (n m : ℕ) → siblings_left before ≡ x ∷ siblings_left after
    → n ≡ tokens_at (part_of tree x) → m ≡ tokens_among (up_to text (parts_left tree after)) → n + m ≤ tokens_among (parts_left tree before)
run_within tree text before after x n m is n_is m_is =
    let all : tokens_among (parts_left tree before) ≡ tokens_at (part_of tree x) + tokens_among (parts_left tree after) =
    ap (λ xs. tokens_among (map (part_of tree) xs)) is
    in
    omega (arith, up_to_fewer text (parts_left tree after))
