use Rattle.std.proofs.Common.{arith, ◌≡◌, ◌≤◌, ◌∙◌, ◌++◌, [], ◌∷◌, ap, sym, length}
use Rattle.std.specs.Prelude.{reverse, nat_lt}
use Rattle.ssr_syntax_rows.specs.Preorder.{tree_rows, most_nodes}
use Rattle.ssr_syntax_tree.specs.Syntax.{most_deep}
use Rattle.ssr_syntax_rows.specs.Private.OpenNodes.{is_deeper}
use Rattle.ssr_syntax_forms.specs.Trees.{height}
use Rattle.ssr_syntax_rows.proofs.Placed.{rows_done, rows_too_deep, root_open, carried}
use Rattle.ssr_syntax_rows.proofs.preorder.node_rows.Goals as goal

pub returns-in_err-turned : goal.returns-in_err-turned
returns-in_err-turned c kind kids p e =
    let same = rows_too_deep p c.args.tokens kind kids c.read.new.self.unread c.args.rows c.in-Some.root
    c.in_ok-above.above.items c.push_reserved.new.self.items (sym (ap (λ t. t.unread) c.new-rows.ensures) ∙ c.in-Some.ensures.row) e c.in_ok-above.ensures.items
    (c.push_reserved.ensures.items ∙ ap (λ n. c.in_ok-above.above.items ++ (root_open c.in-Some.root.kind c.args.tokens n ∷ [])) c.unread.ensures) in
    carried
    (is_deeper most_deep (reverse c.push_reserved.new.self.items) (reverse c.read.new.self.unread))
    (nat_lt most_deep (height kids))
    (λ v. (v ≡ tree_rows p c.args.tokens kind kids) × (length c.args.rows ≤ most_nodes))
    c.in_err-turned.field-0.0 c.from_residual-in_err-turned.result
    c.in_err-turned.ensures.turned same c.from_residual-in_err-turned.ensures.0 c.from_residual-in_err-turned.ensures.1

pub returns : goal.returns
returns c kind kids p e =
    let r = rows_done p c.args.tokens kind kids c.read.new.self.unread c.args.rows c.in-Some.root
    c.in_ok-above.above.items c.push_reserved.new.self.items (sym (ap (λ t. t.unread) c.new-rows.ensures) ∙ c.in-Some.ensures.row) e c.in_ok-above.ensures.items
    (c.push_reserved.ensures.items ∙ ap (λ n. c.in_ok-above.above.items ++ (root_open c.in-Some.root.kind c.args.tokens n ∷ [])) c.unread.ensures)
    c.read.new.self.turned c.in_ok-turned.turned.turned (c.read.ensures.turned ∙ ap (λ t. t.turned) c.new-rows.ensures)
    c.in_ok-turned.ensures.turned.0 c.in_ok-turned.ensures.turned.1 in
    (r.0, (c.finish.ensures ∙ r.1, omega (arith, c.len-count.ensures, c.if-count-gt-MOST_NODES.false)))
