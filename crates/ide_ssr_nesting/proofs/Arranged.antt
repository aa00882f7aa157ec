-- Elements can be put in an order by which any two of them are compared, each once.
use Rattle.std.proofs.Common.{◌≡◌, ◌⊎◌, ◌↔◌, inl, inr, List, [], ◌∷◌, All, AllPairs, Contains, sym, subst}
use Rattle.std.proofs.lemmas.List.Elements.{All-nil, All-cons, All-head, All-tail, All-contains}
use Rattle.std.proofs.lemmas.List.Kept.{AllPairs-cons}
use Rattle.ide_ssr_bindings.proofs.Deciding.{all_of}
use Rattle.ssr_syntax_tree.proofs.Lists.{pairs_none, pairs_head, pairs_tail, at_front, at_back, front_or_back}

-- these are the elements in order
pub record Arranged {X : Type 0} (R : X → X → Type 0) (xs ys : List X) : Type 0 where
  pub in_order : AllPairs R ys
  pub same : (x : X) → Contains ys x ↔ Contains xs x

module _ {X : Type 0} (R : X → X → Type 0) (among : X → Type 0) (then_before : (x y z : X) → R x y → R y z → R x z)
    (compared : (x y : X) → among x → among y → R x y ⊎ (R y x ⊎ (x ≡ y))) where
  one_more : (x : X) (ys : List X) → among x → All among ys → AllPairs R ys → (zs : List X) × Arranged R (x ∷ ys) zs
  one_more x [] x_in all pairs =
      (x ∷ [], record { in_order = AllPairs-cons R x [] (All-nil (R x)) (pairs_none R); same = λ z. ((λ at. at), (λ at. at)) })
  one_more x (y ∷ ys) x_in all pairs =
      elim (compared x y x_in (All-head among y ys all)) [
        | inl before ↦ (
          x ∷ y ∷ ys,
          record {
            in_order =
                AllPairs-cons R x (y ∷ ys)
                (All-cons (R x) y ys before (all_of (R x) ys (λ z at. then_before x y z before (All-contains (R y) ys z (pairs_head R y ys pairs) at)))) pairs;
            same = λ z. ((λ at. at), (λ at. at));
          },
        )
        | inr (inr same) ↦ (
          y ∷ ys,
          record {
            in_order = pairs;
            same = λ z. (
              (λ at. at_back x z (y ∷ ys) at),
              (λ at. elim (front_or_back x z (y ∷ ys) at) [
                | inl here ↦ subst (Contains (y ∷ ys)) here (subst (Contains (y ∷ ys)) (sym same) (at_front y ys))
                | inr later ↦ later
              ]),
            );
          },
        )
        | inr (inl behind) ↦
            let rest = one_more x ys x_in (All-tail among y ys all) (pairs_tail R y ys pairs) in
            let is = rest.1 in (
              y ∷ rest.0,
              record {
                in_order =
                    AllPairs-cons R y rest.0
                    (all_of (R y) rest.0 (λ z at. elim (front_or_back x z ys ((is.same z).0 at)) [
                      | inl here ↦ subst (R y) here behind
                      | inr later ↦ All-contains (R y) ys z (pairs_head R y ys pairs) later
                    ])) is.in_order;
                same = λ z. (
                  (λ at. elim (front_or_back y z rest.0 at) [
                    | inl here ↦ at_back x z (y ∷ ys) (subst (Contains (y ∷ ys)) here (at_front y ys))
                    | inr later ↦ elim (front_or_back x z ys ((is.same z).0 later)) [
                      | inl new ↦ subst (Contains (x ∷ y ∷ ys)) new (at_front x (y ∷ ys))
                      | inr old ↦ at_back x z (y ∷ ys) (at_back y z ys old)
                    ]
                  ]),
                  (λ at. elim (front_or_back x z (y ∷ ys) at) [
                    | inl new ↦ at_back y z rest.0 ((is.same z).1 (subst (Contains (x ∷ ys)) new (at_front x ys)))
                    | inr later ↦ elim (front_or_back y z ys later) [
                      | inl here ↦ subst (Contains (y ∷ rest.0)) here (at_front y rest.0)
                      | inr old ↦ at_back y z rest.0 ((is.same z).1 (at_back x z ys old))
                    ]
                  ]),
                );
              },
            )
      ]

  pub arranged : (xs : List X) → All among xs → (ys : List X) × Arranged R xs ys
  arranged [] all = ([], record { in_order = pairs_none R; same = λ z. ((λ at. at), (λ at. at)) })
  arranged (x ∷ xs) all =
      let rest = arranged xs (All-tail among x xs all) in
      let is = rest.1 in
      let rest_in = all_of among rest.0 (λ z at. All-contains among xs z (All-tail among x xs all) ((is.same z).0 at)) in
      let one = one_more x rest.0 (All-head among x xs all) rest_in is.in_order in
      let now = one.1 in (
        one.0,
        record {
          in_order = now.in_order;
          same = λ z. (
            (λ at. elim (front_or_back x z rest.0 ((now.same z).0 at)) [
              | inl here ↦ subst (Contains (x ∷ xs)) here (at_front x xs)
              | inr later ↦ at_back x z xs ((is.same z).0 later)
            ]),
            (λ at. (now.same z).1 (elim (front_or_back x z xs at) [
              | inl here ↦ subst (Contains (x ∷ rest.0)) here (at_front x rest.0)
              | inr later ↦ at_back x z rest.0 ((is.same z).1 later)
            ])),
          );
        },
      )
