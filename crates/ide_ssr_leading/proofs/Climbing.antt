-- What stands above nodes, step by step.
use Rattle.std.proofs.Common.{◌≡◌, ℕ, zero, suc, ◌-◌, ◌<◌, Bool, true, false, List, Some, None, sym, ap, ◌∙◌, refl, subst, inl, inr, arith}
use Rattle.std.proofs.lemmas.Option.{none-some}
use Rattle.std.specs.Option.{option_and_then}
use Rattle.std.specs.Prelude.{◌↔◌, IsTrue, not}
use Rattle.ssr_base_trees.specs.declared.ids.NodeId.{NodeId}
use Rattle.ssr_base_trees.specs.Workspace.{PlacedTree, above}
use Rattle.ssr_base_trees.specs.Laws.{climbed}
use Rattle.ssr_base_trees.proofs.Shared.{climbed_next}
use Rattle.ide_ssr_search.specs.Permitted.{Shuts}
use Rattle.ide_ssr_search.proofs.Shared.{then_some, below_up, up_below}
use Rattle.ide_ssr_leading.specs.Private.Reached.{IsShutIn}

-- ** So many steps.

pub climbed_more : (ts : List PlacedTree) (n : ℕ) (x y : NodeId) → 0 < n → above ts x ≡ Some y → climbed ts n x ≡ climbed ts (n - 1) y
climbed_more ts zero x y more is = absurd (omega arith)
climbed_more ts (suc n) x y more is =
    let less : n ≡ suc n - 1 = omega arith in
    climbed_next ts n x y is ∙ ap (λ k. climbed ts k y) less

pub climbed_out : (ts : List PlacedTree) (n : ℕ) (x : NodeId) → 0 < n → above ts x ≡ None → climbed ts n x ≡ None
climbed_out ts zero x more is = absurd (omega arith)
climbed_out ts (suc n) x more is = ap (option_and_then (climbed ts n)) is

-- ** What shuts in.

-- a node is shut in by what stands directly above it
pub shut_here : (ts : List PlacedTree) (x y : NodeId) → above ts x ≡ Some y → Shuts ts y → IsShutIn ts x
shut_here ts x y up shuts = (y, up_below ts x y y up (inl refl), shuts)

-- or else as what stands there is
pub shut_above : (ts : List PlacedTree) (x y : NodeId) → above ts x ≡ Some y → (Shuts ts y → ⊥) → IsShutIn ts y ↔ IsShutIn ts x
shut_above ts x y up free = (
  λ shut. (shut.0, up_below ts x y shut.0 up (inr shut.1), shut.2),
  λ shut. elim (below_up ts x y shut.0 up shut.1) [
    | inl same ↦ absurd (free (subst (Shuts ts) (sym same) shut.2))
    | inr below ↦ (shut.0, below, shut.2)
  ],
)

-- where nothing stands above it, nothing shuts it in
pub shut_nowhere : (ts : List PlacedTree) (x : NodeId) → above ts x ≡ None → IsShutIn ts x → ⊥
shut_nowhere ts x up shut =
    let first = then_some (climbed ts shut.1.0) (above ts x) shut.0 shut.1.1 in
    none-some first.0 (sym up ∙ first.1)

-- a test turned round
pub not_so : (b : Bool) (P Q : Type 0) → IsTrue b ↔ P → ((P → ⊥) → Q) → (Q → P → ⊥) → IsTrue (not b) ↔ Q
not_so true P Q is to from = (λ e. let no : false ≡ true = e in cc, λ q. absurd (from q (is.0 refl)))
not_so false P Q is to from = (λ _. to (λ p. let no : false ≡ true = is.1 p in cc), λ _. refl)
