-- Whether one of the kinds in a tree's rows is some kind: whether a node of the tree has it.
use Rattle.std.proofs.Common.{◌≡◌, ℕ, ◌+◌, ◌<◌, true, length, map, get_or, sym, ◌∙◌, refl, arith}
use Rattle.std.proofs.lemmas.List.{length-map}
use Rattle.std.proofs.lemmas.List.Folds.{Any-from_list_any, list_any_at}
use Rattle.std.proofs.lemmas.Option.{slice_get-get_or, slice_get_read}
use Rattle.std.specs.List.{list_any}
use Rattle.std.specs.String.{string_bytes}
use Rattle.ssr_syntax_kinds.specs.declared.kinds.SyntaxKind.{SyntaxKind}
use Rattle.ssr_syntax_kinds.specs.Kinds.{same_kind}
use Rattle.ssr_syntax_kinds.proofs.Shared.{same_kind-equal, equal-same_kind}
use Rattle.ssr_syntax_tree.specs.declared.tree.Tree.TheInside.{Inside}
use Rattle.ssr_syntax_tree.specs.Private.Flat.{syntax_of, IsFlat}
use Rattle.ssr_syntax_tree.specs.Places.{node_of, HasNode}
use Rattle.ssr_syntax_tree.specs.Syntax.{Syntax, node_count}
use Rattle.ssr_syntax_tree.proofs.RowLaws.{are_parts, nodes_counted, node_kind-is}

-- there are as many kinds as nodes
kinds_counted : (tree : Inside) (syntax : Syntax) → IsFlat tree → syntax_of tree ≡ syntax → length (map (λ row. row.kind) tree.nodes) ≡ 1 + node_count syntax.children
kinds_counted tree syntax flat e =
    length-map tree.nodes (λ row. row.kind) ∙ nodes_counted (string_bytes tree.source) tree.tokens tree.nodes syntax (are_parts tree syntax flat e)

-- where it is among the kinds, a node has it
pub kind_found : (tree : Inside) (syntax : Syntax) → IsFlat tree → syntax_of tree ≡ syntax → (kind : SyntaxKind)
    → list_any (λ own. same_kind own kind) (map (λ row. row.kind) tree.nodes) ≡ true → (n : ℕ) × (HasNode syntax n × ((node_of syntax n).kind ≡ kind))
kind_found tree syntax flat e kind found =
    let kinds = map (λ row. row.kind) tree.nodes in
    let at = Any-from_list_any (λ own. same_kind own kind) kinds found in
    let has : HasNode syntax at.0 = omega (arith, at.2, kinds_counted tree syntax flat e) in
    let read = slice_get_read kinds (length kinds) at.0 at.1 refl at.2 (sym at.3) in
    (at.0, (has, sym (node_kind-is tree syntax flat e at.0 at.1 has read) ∙ same_kind-equal at.1 kind at.4))

-- where a node has it, it is among the kinds
pub kind_there : (tree : Inside) (syntax : Syntax) → IsFlat tree → syntax_of tree ≡ syntax → (kind : SyntaxKind)
    → (n : ℕ) → HasNode syntax n → (node_of syntax n).kind ≡ kind → list_any (λ own. same_kind own kind) (map (λ row. row.kind) tree.nodes) ≡ true
kind_there tree syntax flat e kind n has is =
    let kinds = map (λ row. row.kind) tree.nodes in
    let within : n < length kinds = omega (arith, has, kinds_counted tree syntax flat e) in
    let own = node_kind-is tree syntax flat e n (get_or kinds n kind) has (slice_get-get_or kinds n kind within) in
    list_any_at (λ own. same_kind own kind) kinds n kind within (equal-same_kind (get_or kinds n kind) kind (own ∙ is))
