use Rattle.std.proofs.Common.{◌≡◌, ◌∙◌, true, cond, sym, subst}
use Rattle.std.proofs.lemmas.Bool.{both_ways}
use Rattle.std.specs.BTreeMap.{is_at}
use Rattle.std.specs.BTreeSet.{contains}
use Rattle.ssr_syntax_kinds.specs.declared.kinds.SyntaxKind.TheVariants as k
use Rattle.ssr_syntax_tree.specs.Places.{HasNode, node_of}
use Rattle.ssr_base_trees.specs.declared.ids.NodeId.{NodeId}
use Rattle.ssr_base_trees.specs.contracts.ids.NodeIdOrd.TheImpl as id_order
use Rattle.ssr_base_trees.specs.Workspace.{trees}
use Rattle.ide_ssr_bindings.proofs.Shared.{is_tree, of_tree, in_tree}
use Rattle.ide_ssr_search.proofs.Calls.{shut_kept, shut_added}
use Rattle.ide_ssr_search.proofs.known_tree.KnownTree.add_shut.Goals as goal
use Rattle.ide_ssr_search.proofs.known_tree.KnownTree.add_shut.Goals.{else-shuts-via-then-shuts+else-is, else-shuts-via-else-shuts}

pub returns-in_ok-insert : goal.returns-in_ok-insert
returns-in_ok-insert c =
    let g = c.args.self.now in
    let w = g.workspace.now in
    let n = c.args.node.0 in
    let at = is_tree w g.number g.tree.now c.requires.known.tree in
    shut_added w g.number n c.args.shut.now c.insert.new.self
    (of_tree (trees w) g.number g.tree.now (λ s. HasNode s n) at c.requires.has)
    (of_tree (trees w) g.number g.tree.now (λ s. (node_of s n).kind ≡ k.MACRO_CALL) at (sym c.kind.ensures ∙ c.is.ensures.decides.0 c.if-is.true))
    (c.requires.shuts.0 c.if-shuts.true)
    (subst (λ x. (q : NodeId) → contains ((id_order.ghosts).cmp) c.insert.new.self q ≡ cond (is_at ((id_order.ghosts).cmp x) q) true (contains ((id_order.ghosts).cmp) c.args.shut.now q))
    c.id.ensures c.in_ok-insert.ensures.updates.0)
    c.requires.shut

pub returns-else-shuts : goal.returns-else-shuts
returns-else-shuts c =
    let g = c.args.self.now in
    let w = g.workspace.now in
    let n = c.args.node.0 in
    let at = is_tree w g.number g.tree.now c.requires.known.tree in
    shut_kept w g.number n c.args.shut.now
    (λ is_call shut. elim c.else-shuts.branch [
      | else-shuts-via-then-shuts+else-is v ↦
          both_ways v.is.result v.if-is.false
          (v.is.ensures.decides.1 (v.kind.ensures ∙ in_tree (trees w) g.number g.tree.now (λ s. (node_of s n).kind ≡ k.MACRO_CALL) at is_call))
      | else-shuts-via-else-shuts v ↦ both_ways c.args.shuts v.if-shuts.false (c.requires.shuts.1 shut)
    ])
    c.requires.shut
