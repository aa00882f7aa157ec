-- A tree that misnames nodes of a kind has one.
use Rattle.std.proofs.Common.{◌≡◌, ℕ, true, List, ap, ◌∙◌, arith}
use Rattle.std.proofs.lemmas.Bool.{and_parts}
use Rattle.std.proofs.lemmas.List.{get_or_default}
use Rattle.std.proofs.lemmas.List.Folds.{Any-from_list_any}
use Rattle.std.specs.List.{list_any}
use Rattle.ssr_syntax_kinds.specs.Kinds.{same_kind}
use Rattle.ssr_syntax_kinds.specs.declared.kinds.SyntaxKind.{SyntaxKind}
use Rattle.ssr_syntax_kinds.proofs.Shared.{same_kind-equal}
use Rattle.ssr_syntax_tree.specs.Places.{HasNode, node_of, nodes_of, parts_of, root_of}
use Rattle.ssr_syntax_tree.specs.Syntax.{Syntax}
use Rattle.ssr_syntax_tree.proofs.Shared.{node_is, length-nodes_of}
use Rattle.ssr_syntax_rows.specs.MacroRules.{is_misnamed, is_other_word, misnames}

pub node_misnamed : (kind : SyntaxKind) (word : List ℕ) (s : Syntax) → misnames kind word s ≡ true
    → (n : ℕ) × (HasNode s n × ((node_of s n).kind ≡ kind))
unfolding misnames
node_misnamed kind word s misnamed =
    let nodes = nodes_of s in
    let at = Any-from_list_any (is_misnamed kind word) nodes misnamed in
    let has : HasNode s at.0 = omega (arith, at.2, length-nodes_of s) in
    let own = node_is s at.0 has ∙ get_or_default nodes at.0 (root_of s) at.1 at.2 ∙ at.3 in
    let parts = and_parts (same_kind at.1.kind kind) (list_any (is_other_word word) (parts_of at.1)) at.4 in
    (at.0, (has, ap (λ node. node.kind) own ∙ same_kind-equal at.1.kind kind parts.0))
