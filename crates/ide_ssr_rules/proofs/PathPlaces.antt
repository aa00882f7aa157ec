-- Where paths stand.
use Rattle.std.proofs.Common.{◌≡◌, ℕ, refl, subst, sym}
use Rattle.ssr_syntax_tree.specs.Places.{node_of}
use Rattle.ssr_syntax_tree.specs.Syntax.{Syntax}

-- the root stands in itself
pub own_parent : (s : Syntax) (n : ℕ) → n ≡ 0 → n ≡ (node_of s n).parent
unfolding node_of
own_parent s n is = subst (λ (n : ℕ). n ≡ (node_of s n).parent) (sym is) refl
