-- The arguments of macro calls, and what shuts in.
use Rattle.std.proofs.Common.{◌≡◌, ℕ, Bool, true, false, List, [], ◌∷◌, Option, Some, None, refl, sym, ap, ◌∙◌, subst, inl, inr}
use Rattle.std.proofs.lemmas.Option.{none-some}
use Rattle.std.specs.Prelude.{◌↔◌, not, is_some, IsTrue, if◌then◌else◌}
use Rattle.std.specs.Option.{option_map}
use Rattle.ssr_syntax_kinds.specs.declared.kinds.SyntaxKind.TheVariants as k
use Rattle.ssr_syntax_kinds.specs.Kinds.{same_kind}
use Rattle.ssr_syntax_tree.specs.Syntax.{Syntax}
use Rattle.ssr_syntax_tree.specs.declared.number.Element.{Element}
use Rattle.ssr_syntax_tree.specs.declared.number.Element.TheVariants as element
use Rattle.ssr_syntax_tree.specs.declared.number.NodeNo.{NodeNo}
use Rattle.ssr_syntax_tree.specs.Places.{Part, token_part, node_part, HasElement, node_of, part_of}
use Rattle.ssr_syntax_tree.proofs.Shared.{node_of-number}
use Rattle.ssr_base_trees.specs.declared.ids.FileRange.{FileRange}
use Rattle.ssr_base_trees.specs.Workspace.{Workspace, FileSpan, trees, tree_of, node_id, file_span_of}
use Rattle.ide_ssr_search.specs.Permitted.{first_token_tree, arguments_range}
use Rattle.ide_ssr_search.specs.Private.Shut.{Shuts}
use Rattle.ide_ssr_bindings.proofs.Shared.{is_tree, of_tree, in_tree}

-- ** The first token tree.

-- a child that is one
pub token_tree_is : (s : Syntax) (child : Element) (n : NodeNo) → HasElement s child → child ≡ element.Node n → same_kind (node_of s n.0).kind k.TOKEN_TREE ≡ true
    → Some n.0 ≡ first_token_tree (part_of s child ∷ [])
token_tree_is s child n has is kind =
    let number : (node_of s n.0).number ≡ n.0 = node_of-number s n.0 (subst (HasElement s) is has) in
    ap Some (sym number)
    ∙ sym (ap (λ b. if b then Some (node_of s n.0).number else None) kind)
    ∙ ap (λ e. first_token_tree (part_of s e ∷ [])) (sym is)

pub first-none : (part : Part) (rest : List Part) → None ≡ first_token_tree (part ∷ []) → first_token_tree (part ∷ rest) ≡ first_token_tree rest
first-none (token_part t token) rest is = refl
first-none (node_part node) rest is = here (same_kind node.kind k.TOKEN_TREE) is
  where
    here : (b : Bool) → None ≡ (if b then Some node.number else None) → (if b then Some node.number else first_token_tree rest) ≡ first_token_tree rest
    here true is = absurd (none-some node.number is)
    here false is = refl

-- ** What shuts in.

pub shuts_use : (w : Workspace) (t n : ℕ) (s : Syntax) → tree_of w t ≡ Some s → (node_of s n).kind ≡ k.USE → Shuts (trees w) (node_id t n)
shuts_use w t n s is is_use = inl (of_tree (trees w) t s (λ s. (node_of s n).kind ≡ k.USE) (is_tree w t s is) is_use)

pub shuts_call : (w : Workspace) (t n : ℕ) (s : Syntax) → tree_of w t ≡ Some s → (node_of s n).kind ≡ k.MACRO_CALL → arguments_range (trees w) (node_id t n) ≡ None
    → Shuts (trees w) (node_id t n)
shuts_call w t n s is call none = inr (of_tree (trees w) t s (λ s. (node_of s n).kind ≡ k.MACRO_CALL) (is_tree w t s is) call, none)

-- a node that is neither doesn't
pub shuts_not : (w : Workspace) (t n : ℕ) (s : Syntax) → tree_of w t ≡ Some s → ((node_of s n).kind ≡ k.USE → ⊥)
    → ((node_of s n).kind ≡ k.MACRO_CALL → arguments_range (trees w) (node_id t n) ≡ None → ⊥) → Shuts (trees w) (node_id t n) → ⊥
shuts_not w t n s is no_use no_call (inl is_use) = no_use (in_tree (trees w) t s (λ s. (node_of s n).kind ≡ k.USE) (is_tree w t s is) is_use)
shuts_not w t n s is no_use no_call (inr call) =
    no_call (in_tree (trees w) t s (λ s. (node_of s n).kind ≡ k.MACRO_CALL) (is_tree w t s is) call.0) call.1

-- whether there is none
pub none_told : (o : Option FileRange) (r : Option FileSpan) (b : Bool) → option_map file_span_of o ≡ r → is_some o ≡ not b → IsTrue b ↔ (r ≡ None)
none_told None r true is e = (λ _. sym is, λ _. refl)
none_told None r false is e = let f : false ≡ true = e in cc
none_told (Some x) r true is e = let f : true ≡ false = e in cc
none_told (Some x) r false is e = (λ h. let f : false ≡ true = h in cc, λ none. absurd (none-some (file_span_of x) (sym (is ∙ none))))
