-- At one position a search is made for one thing, or refused in one way.
use Rattle.std.proofs.Common.{◌≡◌, ◌≢◌, ℕ, ◌-◌, List, Result, Ok, Err, Option, Some, None, ◌⊎◌, inl, inr, refl, sym, ap, ◌∙◌, subst, arith}
use Rattle.std.specs.Option.{option_map}
use Rattle.std.proofs.lemmas.Option.{none-some, same_Some}
use Rattle.ssr_syntax_kinds.specs.declared.kinds.SyntaxKind.{SyntaxKind}
use Rattle.ssr_syntax_kinds.specs.declared.kinds.SyntaxKind.TheVariants as k
use Rattle.ssr_syntax_tree.specs.Syntax.{Syntax}
use Rattle.ssr_syntax_tree.specs.Places.{node_of}
use Rattle.ssr_base_trees.specs.declared.ids.FilePosition.{FilePosition}
use Rattle.ssr_base_trees.specs.declared.ids.FileRange.{FileRange}
use Rattle.ssr_base_trees.specs.declared.ids.NodeId.{NodeId}
use Rattle.ssr_base_trees.specs.declared.ids.ScopeId.{ScopeId}
use Rattle.ssr_base_trees.specs.Meanings.{Meanings}
use Rattle.ssr_base_trees.specs.Workspace.{Workspace, FileSpan, node_id}
use Rattle.ide_ssr_search.specs.Context.{Context}
use Rattle.ide_ssr_search.specs.declared.context_error.ContextError.{ContextError}
use Rattle.ide_ssr_search.specs.declared.context_error.ContextError.TheVariants as errors
use Rattle.ide_ssr_search.specs.Making.{AreOfFiles, IsContext, IsPlace, LiesInText, Makes}
use Rattle.ide_ssr_search.specs.Positions.{IsNear, IsFirst, IsLeftFor, Leads, stays, goes_on, Settles, IsNodeAt, IsInnermost}
use Rattle.ide_ssr_search.proofs.PositionNodes.{one_token}
use Rattle.ide_ssr_search.proofs.TokenParents.{one_parent}

-- ** The node of a position.

one_near : (s : Syntax) (offset : ℕ) (a b : Option ℕ) → IsNear s offset a → IsNear s offset b → a ≡ b
one_near s offset (Some t) (Some u) (inl ends) (inl other) = ap Some (one_token s t u (offset - 1) ends.2 other.2)
one_near s offset (Some t) (Some u) (inl ends) (inr holds) = absurd (holds.0 t ends)
one_near s offset (Some t) (Some u) (inr holds) (inl ends) = absurd (holds.0 u ends)
one_near s offset (Some t) (Some u) (inr holds) (inr other) = ap Some (one_token s t u offset holds.1.1 other.1.1)
one_near s offset (Some t) None (inl ends) none = absurd (none.0 t ends)
one_near s offset (Some t) None (inr holds) none = absurd (none.1 t holds.1)
one_near s offset None (Some u) none (inl ends) = absurd (none.0 u ends)
one_near s offset None (Some u) none (inr holds) = absurd (none.1 u holds.1)
one_near s offset None None none other = refl

one_first : (s : Syntax) (token : Option ℕ) (n m : ℕ) → IsFirst s token n → IsFirst s token m → n ≡ m
one_first s None n m root other = root ∙ sym other
one_first s (Some t) n m first other = one_parent s t n m first other

other_kind : (kind : SyntaxKind) → (kind ≡ k.LET_STMT) ⊎ (kind ≡ k.IDENT_PAT) → kind ≡ k.NAME → ⊥
other_kind kind (inl is) name = let e : k.LET_STMT ≡ k.NAME = sym is ∙ name in cc
other_kind kind (inr is) name = let e : k.IDENT_PAT ≡ k.NAME = sym is ∙ name in cc

one_left : (s : Syntax) (n m l : ℕ) → IsLeftFor s n m → IsLeftFor s n l → m ≡ l
one_left s n m l (inl sibling) (inl other) = sibling.1.0 ∙ sym other.1.0
one_left s n m l (inl sibling) (inr parent) = absurd (other_kind (node_of s n).kind sibling.0 parent.0)
one_left s n m l (inr parent) (inl sibling) = absurd (other_kind (node_of s n).kind sibling.0 parent.0)
one_left s n m l (inr parent) (inr other) = parent.2 ∙ sym other.2

led : (s : Syntax) (n last : ℕ) → Leads s n last → (((m : ℕ) → ¬ IsLeftFor s n m) × (n ≡ last)) ⊎ ((m : ℕ) × IsLeftFor s n m × Leads s m last)
led s _ _ (stays n none) = inl (none, refl)
led s _ _ (goes_on n m last left leads) = inr (m, left, leads)

one_last : (s : Syntax) (n a b : ℕ) → Leads s n a → Leads s n b → a ≡ b
one_last s _ _ b (stays n none) other = elim (led s n b other) [ inl stay ↦ stay.1 | inr on ↦ absurd (none on.0 on.1) ]
one_last s _ _ b (goes_on n m last left leads) other =
    elim (led s n b other) [
      | inl stay ↦ absurd (stay.0 m left)
      | inr on ↦ one_last s m last b leads (subst (λ m. Leads s m b) (one_left s n on.0 m on.1 left) on.2)
    ]

one_settled : (s : Syntax) (n a b : ℕ) → Settles s n a → Settles s n b → a ≡ b
one_settled s n a b (inl is) (inl other) = is.1 ∙ sym other.1
one_settled s n a b (inl is) (inr none) = absurd (none.0 is.0)
one_settled s n a b (inr none) (inl is) = absurd (none.0 is.0)
one_settled s n a b (inr none) (inr other) = none.1 ∙ sym other.1

one_node : (s : Syntax) (offset n m : ℕ) → IsNodeAt s offset n → IsNodeAt s offset m → n ≡ m
one_node s offset n m is other =
    let token = one_near s offset is.token other.token is.near other.near in
    let first = one_first s other.token is.first other.first (subst (λ token. IsFirst s token is.first) token is.is_first) other.is_first in
    let last = one_last s other.first is.last other.last (subst (λ first. Leads s first is.last) first is.leads) other.leads in
    one_settled s other.last n m (subst (λ last. Settles s last n) last is.settles) other.settles

-- ** The function around it.

one_innermost : (s : Syntax) (n : ℕ) (a b : Option ℕ) → IsInnermost s n a → IsInnermost s n b → a ≡ b
one_innermost s n (Some f) (Some g) is other = let up = is.1 g other.0 in let down = other.1 f is.0 in ap Some (let same : f ≡ g = omega arith in same)
one_innermost s n (Some f) None is none = absurd (none f is.0)
one_innermost s n None (Some g) none is = absurd (none g is.0)
one_innermost s n None None none other = refl

-- ** What a search is made for.

pub one_context : (w : Workspace) (m : Meanings) (position : FilePosition) (restrictions : List FileRange) (c d : Context)
    → IsContext w m position restrictions c → IsContext w m position restrictions d → c ≡ d
one_context w m position restrictions c d is other =
    let file = position.file_id.0 in
    let tree : is.tree ≡ other.tree = same_Some is.tree other.tree (sym is.place.is ∙ other.place.is) in
    let node : is.node ≡ other.node =
    one_node other.tree position.offset is.node other.node (subst (λ s. IsNodeAt s position.offset is.node) tree is.place.node) other.place.node in
    let around : is.around ≡ other.around =
    one_innermost other.tree other.node is.around other.around
    (subst (λ n. IsInnermost other.tree n is.around) node (subst (λ s. IsInnermost s is.node is.around) tree is.innermost)) other.innermost in
    let made : ScopeId → List FileSpan → Option NodeId → Context = λ scope ranges function. record { scope = scope; restrictions = ranges; function = function } in
    ap (λ scope. made scope c.restrictions c.function) (same_Some c.scope d.scope (sym is.scope ∙ ap (λ n. m.scope (node_id file n)) node ∙ other.scope))
    ∙ ap (λ ranges. made d.scope ranges c.function) (is.restricted ∙ sym other.restricted)
    ∙ ap (made d.scope d.restrictions) (is.function ∙ ap (option_map (node_id file)) around ∙ sym other.function)

-- ** What is answered.

module _ (w : Workspace) (m : Meanings) (position : FilePosition) (restrictions : List FileRange) where
  abbrev Answer : Type 0
  Answer = Result Context ContextError

  abbrev Made : Answer → Type 0
  Made = Makes w m position restrictions

  -- a position has one node
  one_place : (s t : Syntax) (n l : ℕ) → IsPlace w position restrictions s n → IsPlace w position restrictions t l → n ≡ l
  one_place s t n l is other =
      let tree : s ≡ t = same_Some s t (sym is.is ∙ other.is) in
      one_node t position.offset n l (subst (λ (s : Syntax). IsNodeAt s position.offset n) tree is.node) other.node

  -- a context has a scope
  no_scope : (c : Context) → Made (Ok c) → Made (Err errors.NoScope) → ⊥
  no_scope c is (tree, n, place, none) =
      let file = position.file_id.0 in
      let same = one_place tree is.tree n is.node place is.place in
      none-some c.scope (sym none ∙ ap (λ n. m.scope (node_id file n)) same ∙ is.scope)

  -- where the files and the position are there, no file is missing
  no_file : LiesInText w position → AreOfFiles w restrictions → Made (Err errors.NoSuchFile) → ⊥
  no_file text files (inl none) = none text.0
  no_file text files (inr other) = other.1 files

  no_file_of : Made (Err errors.NoSuchPosition) → Made (Err errors.NoSuchFile) → ⊥
  no_file_of past (inl none) = none past.0
  no_file_of past (inr other) = past.1 other.0

  pub one_making : (a b : Answer) → a ≢ Err errors.Memory → b ≢ Err errors.Memory → Made a → Made b → a ≡ b
  one_making (Err errors.Memory) b some other is again = absurd (some refl)
  one_making (Err errors.NoFiles) b some other is again = absurd is
  one_making (Ok c) (Ok d) some other is again = ap Ok (one_context w m position restrictions c d is again)
  one_making (Ok c) (Err errors.NoSuchFile) some other is again = absurd (no_file is.place.in_text is.place.of_files again)
  one_making (Ok c) (Err errors.NoSuchPosition) some other is again = absurd (again.1 is.place.in_text)
  one_making (Ok c) (Err errors.NoScope) some other is again = absurd (no_scope c is again)
  one_making (Ok c) (Err errors.NoFiles) some other is again = absurd again
  one_making (Ok c) (Err errors.Memory) some other is again = absurd (other refl)
  one_making (Err errors.NoSuchFile) (Ok d) some other is again = absurd (no_file again.place.in_text again.place.of_files is)
  one_making (Err errors.NoSuchFile) (Err errors.NoSuchFile) some other is again = refl
  one_making (Err errors.NoSuchFile) (Err errors.NoSuchPosition) some other is again = absurd (no_file_of again is)
  one_making (Err errors.NoSuchFile) (Err errors.NoScope) some other is again = absurd (no_file again.2.in_text again.2.of_files is)
  one_making (Err errors.NoSuchFile) (Err errors.NoFiles) some other is again = absurd again
  one_making (Err errors.NoSuchFile) (Err errors.Memory) some other is again = absurd (other refl)
  one_making (Err errors.NoSuchPosition) (Ok d) some other is again = absurd (is.1 again.place.in_text)
  one_making (Err errors.NoSuchPosition) (Err errors.NoSuchFile) some other is again = absurd (no_file_of is again)
  one_making (Err errors.NoSuchPosition) (Err errors.NoSuchPosition) some other is again = refl
  one_making (Err errors.NoSuchPosition) (Err errors.NoScope) some other is again = absurd (is.1 again.2.in_text)
  one_making (Err errors.NoSuchPosition) (Err errors.NoFiles) some other is again = absurd again
  one_making (Err errors.NoSuchPosition) (Err errors.Memory) some other is again = absurd (other refl)
  one_making (Err errors.NoScope) (Ok d) some other is again = absurd (no_scope d again is)
  one_making (Err errors.NoScope) (Err errors.NoSuchFile) some other is again = absurd (no_file is.2.in_text is.2.of_files again)
  one_making (Err errors.NoScope) (Err errors.NoSuchPosition) some other is again = absurd (again.1 is.2.in_text)
  one_making (Err errors.NoScope) (Err errors.NoScope) some other is again = refl
  one_making (Err errors.NoScope) (Err errors.NoFiles) some other is again = absurd again
  one_making (Err errors.NoScope) (Err errors.Memory) some other is again = absurd (other refl)
