-- The first node of a kind among the children of a node.
use Rattle.std.proofs.Common.{◌≡◌, ℕ, ◌+◌, Bool, true, false, List, [], ◌∷◌, Option, Some, None, refl, sym, ap, ◌∙◌}
use Rattle.std.proofs.lemmas.Option.{none-some}
use Rattle.std.specs.Prelude.{if◌then◌else◌}
use Rattle.std.specs.Option.{option_map}
use Rattle.ssr_syntax_kinds.specs.declared.kinds.SyntaxKind.{SyntaxKind}
use Rattle.ssr_syntax_kinds.specs.Kinds.{same_kind}
use Rattle.ssr_syntax_tree.specs.declared.number.Element.{Element}
use Rattle.ssr_syntax_tree.specs.declared.number.Element.TheVariants as element
use Rattle.ssr_syntax_tree.specs.declared.number.NodeNo.{NodeNo}
use Rattle.ssr_syntax_tree.specs.Places.{Node, Part, token_part, node_part, node_of, part_of, parts_in, parts_of}
use Rattle.ssr_syntax_tree.specs.Syntax.{Forest, nothing, leaf, branch, Syntax, node_count, token_count}
use Rattle.ide_ssr_resolved_rule.specs.Paths.{below_first, first_of_kind}

among_parts : (kind : SyntaxKind) (p m t : ℕ) (forest : Forest) → option_map (λ (node : Node). node.children) (first_of_kind kind (parts_in p m t forest)) ≡ below_first kind forest
among_parts kind p m t nothing = refl
among_parts kind p m t (leaf token next) = among_parts kind p m (1 + t) next
among_parts kind p m t (branch own inner next) =
    by (same_kind own kind) (first_of_kind kind (parts_in p (1 + m + node_count inner) (t + token_count inner) next)) (below_first kind next)
    (among_parts kind p (1 + m + node_count inner) (t + token_count inner) next)
  where
    by : (b : Bool) (rest : Option Node) (more : Option Forest) → option_map (λ (node : Node). node.children) rest ≡ more
        → option_map (λ (node : Node). node.children)
        (if b then Some (record { number = m; parent = p; first = t; kind = own; children = inner }) else rest) ≡ (if b then Some inner else more)
    by true rest more is = refl
    by false rest more is = is

among_children : (kind : SyntaxKind) (node : Node) → option_map (λ (node : Node). node.children) (first_of_kind kind (parts_of node)) ≡ below_first kind node.children
among_children kind node = among_parts kind node.number (1 + node.number) node.first node.children

-- what is below the first node of a kind, where that is told
pub below_told : (s : Syntax) (kind : SyntaxKind) (node : Node) (found : Option NodeNo) → option_map (λ (n : NodeNo). node_of s n.0) found ≡ first_of_kind kind (parts_of node)
    → option_map (λ (n : NodeNo). (node_of s n.0).children) found ≡ below_first kind node.children
below_told s kind node found is =
    by found ∙ ap (option_map (λ (node : Node). node.children)) is ∙ among_children kind node
  where
    by : (found : Option NodeNo) → option_map (λ (n : NodeNo). (node_of s n.0).children) found ≡ option_map (λ (node : Node). node.children) (option_map (λ (n : NodeNo). node_of s n.0) found)
    by None = refl
    by (Some n) = refl

pub node_there : (s : Syntax) (kind : SyntaxKind) (child : Element) (n : NodeNo) → child ≡ element.Node n → same_kind (node_of s n.0).kind kind ≡ true
    → Some (node_of s n.0) ≡ first_of_kind kind (part_of s child ∷ [])
node_there s kind child n is same =
    sym (ap (λ b. if b then Some (node_of s n.0) else None) same)
    ∙ ap (λ e. first_of_kind kind (part_of s e ∷ [])) (sym is)

pub node_other : (s : Syntax) (kind : SyntaxKind) (child : Element) (n : NodeNo) → child ≡ element.Node n → same_kind (node_of s n.0).kind kind ≡ false
    → None ≡ first_of_kind kind (part_of s child ∷ [])
node_other s kind child n is other =
    sym (ap (λ b. if b then Some (node_of s n.0) else None) other)
    ∙ ap (λ e. first_of_kind kind (part_of s e ∷ [])) (sym is)

pub among_some : (kind : SyntaxKind) (part : Part) (rest : List Part) (found : Node) → Some found ≡ first_of_kind kind (part ∷ []) → Some found ≡ first_of_kind kind (part ∷ rest)
among_some kind (token_part t token) rest found is = absurd (none-some found (sym is))
among_some kind (node_part node) rest found is = here (same_kind node.kind kind) is
  where
    here : (b : Bool) → Some found ≡ (if b then Some node else None) → Some found ≡ (if b then Some node else first_of_kind kind rest)
    here true is = is
    here false is = absurd (none-some found (sym is))

pub among_rest : (kind : SyntaxKind) (part : Part) (rest : List Part) → None ≡ first_of_kind kind (part ∷ []) → first_of_kind kind (part ∷ rest) ≡ first_of_kind kind rest
among_rest kind (token_part t token) rest is = refl
among_rest kind (node_part node) rest is = here (same_kind node.kind kind) is
  where
    here : (b : Bool) → None ≡ (if b then Some node else None) → (if b then Some node else first_of_kind kind rest) ≡ first_of_kind kind rest
    here true is = absurd (none-some node is)
    here false is = refl
