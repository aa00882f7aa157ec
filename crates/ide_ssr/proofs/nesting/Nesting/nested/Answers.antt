use Rattle.std.proofs.Common.{◌≡◌, ◌∙◌, ℕ, List, All, map, sym, ap, subst}
use Rattle.std.specs.Option.{IsSomeAnd}
use Rattle.ssr_syntax_tree.specs.Places.{node_of, text_of}
use Rattle.ssr_base_trees.specs.declared.ids.FileRange.{FileRange}
use Rattle.ssr_base_trees.specs.declared.ids.NodeId.{NodeId}
use Rattle.ssr_base_trees.specs.Laws.{LiesInFile}
use Rattle.ssr_base_trees.specs.Workspace.{Workspace, file_span_of, original_range, tree_of, trees}
use Rattle.ide_ssr.specs.declared.matches.Match.TheViews.{out-roll-Match}
use Rattle.ide_ssr.specs.Comments.{comment_spans}
use Rattle.ide_ssr.specs.Parts.{ComesFrom}
use Rattle.ide_ssr.proofs.Showing.{show_match}
use Rattle.ide_ssr.proofs.nesting.Nesting.nested.Goals as goal

pub returns-clause-shown : goal.returns-clause-shown
returns-clause-shown c =
    let w = c.args.self.now.kept.now.workspace in
    let same = c.workspace-workspace.ensures in
    let m = c.get-m.result.now in
    let ranges = c.in_ok-comment_ranges.field-0.items in
    let own = out-roll-Match (record { text = c.text_at.result; range = c.range_at.result; node = c.node-3.result; rule_index = c.rule.result; placeholders = c.in_ok-placeholders.placeholders; comments = c.in_ok-comment_ranges.field-0 }) in
    show_match c.args.self.now.rules.now c.args.self.now.kept.now c.args.self.now.lists.now c.args.place m _ c.in_ok-placeholders.placeholders.items c.get-m.ensures
    (record {
      rule = ap (λ v. v.rule_index) own ∙ c.rule.ensures;
      node = ap (λ v. v.node) own ∙ c.node-3.ensures;
      range =
          subst (λ (r : FileRange). ComesFrom w (original_range (trees w) m.node) (file_span_of r)) (sym (ap (λ v. v.range) own))
          (subst (λ (x : NodeId). ComesFrom w (original_range (trees w) x) (file_span_of c.range_at.result)) c.node-2.ensures
          (subst (λ (w : Workspace). ComesFrom w (original_range (trees w) c.node-2.result) (file_span_of c.range_at.result)) same c.range_at.ensures));
      text =
          subst (λ (t : List ℕ). IsSomeAnd (tree_of w m.node.tree) (λ syntax. t ≡ text_of (node_of syntax m.node.node.0))) (sym (ap (λ v. v.text.now) own))
          (subst (λ (x : NodeId). IsSomeAnd (tree_of w x.tree) (λ syntax. c.text_at.result.now ≡ text_of (node_of syntax x.node.0))) c.node.ensures
          (subst (λ (w : Workspace). IsSomeAnd (tree_of w c.node.result.tree) (λ syntax. c.text_at.result.now ≡ text_of (node_of syntax c.node.result.node.0))) same c.text_at.ensures));
      comments = ap (λ v. map file_span_of v.comments.items) own ∙ (c.in_ok-comment_ranges.ensures.ranges ∙ ap (λ (w : Workspace). comment_spans w m) same);
      comments_in_file =
          subst (All (λ range. LiesInFile w (file_span_of range))) (sym (ap (λ v. v.comments.items) own))
          (subst (λ (w : Workspace). All (λ range. LiesInFile w (file_span_of range)) ranges) same c.in_ok-comment_ranges.ensures.in_file);
    })
    (c.in_ok-placeholders.ensures.shown m c.get-m.ensures)
    (ap (λ v. v.placeholders.items) own)
