use Rattle.std.proofs.Common.{sym, ap, ◌∙◌, arith}
use Rattle.ssr_base_trees.proofs.StoredLaws.{stored_tree}
use Rattle.ssr_base_trees.proofs.Numbers.{got, tree_of_file, tree_of_past}
use Rattle.ssr_base_trees.proofs.trees.Trees.tree.Goals as goal

pub returns-then-tree-file_count : goal.returns-then-tree-file_count
returns-then-tree-file_count c =
    let workspace = c.args.self.now in
    got workspace.files c.deref.result.now c.args.tree c.get.result (c.deref.ensures.value ∙ ap (λ w. w.files) c.self.view_is) c.get.ensures.lookup
    ∙ sym (tree_of_file workspace c.args.tree (omega arith))

pub returns-in-Some : goal.returns-in-Some
returns-in-Some c = stored_tree c.args.self.now c.args.tree c.in-Some.expansion.now c.in-Some.ensures.found

pub returns-in-None : goal.returns-in-None
returns-in-None c = sym (tree_of_past c.args.self.now c.args.tree (c.in-None.ensures.none (omega arith)))
