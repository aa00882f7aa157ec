use Rattle.std.proofs.Common.{◌≡◌, rules, slice_get, Some, None, sym, ap, ◌∙◌}
use Rattle.ssr_base_trees.proofs.StoredLaws.{original_covered, original_past, original_of_file, original_absent}
use Rattle.ssr_base_trees.proofs.Numbers.{got}
use Rattle.ssr_base_trees.proofs.trees.Trees.original.Goals as goal

pub returns-in_err-get-in-Some : goal.returns-in_err-get-in-Some
returns-in_err-get-in-Some c =
    let e = c.in-Some.expansion.now in
    let n = c.args.node.node.0 in
    let none : slice_get e.covers.items n ≡ None =
    sym (got e.covers.items c.deref.result.now n None c.deref.ensures.value c.in_err-get-in-Some.ensures.lookup) in
    rw (original_past c.args.self.now c.args.node e c.in-Some.ensures.found none) (search rules)

pub returns-in_err-get-in-None : goal.returns-in_err-get-in-None
returns-in_err-get-in-None c =
    let files = c.args.self.now.files in
    let t = c.args.node.tree in
    let none : slice_get files t ≡ None =
    sym (got files c.deref-in-None.result.now t None (c.deref-in-None.ensures.value ∙ ap (λ w. w.files) c.self.view_is) c.in_err-get-in-None.ensures.lookup) in
    rw (original_absent c.args.self.now c.args.node c.in-None.ensures.none none) (search rules)

pub returns-in_ok-get-in-Some : goal.returns-in_ok-get-in-Some
returns-in_ok-get-in-Some c =
    let e = c.in-Some.expansion.now in
    let n = c.args.node.node.0 in
    let cover = c.in_ok-get-in-Some.field-0 in
    let some : slice_get e.covers.items n ≡ Some cover.now =
    sym (got e.covers.items c.deref.result.now n (Some cover) c.deref.ensures.value c.in_ok-get-in-Some.ensures.lookup) in
    c.range.ensures ∙ sym (original_covered c.args.self.now c.args.node e cover.now c.in-Some.ensures.found some)

pub returns-in_ok-get-in-None : goal.returns-in_ok-get-in-None
returns-in_ok-get-in-None c =
    let files = c.args.self.now.files in
    let t = c.args.node.tree in
    let tree = c.in_ok-get-in-None.field-0 in
    let some : slice_get files t ≡ Some tree.now =
    sym (got files c.deref-in-None.result.now t (Some tree) (c.deref-in-None.ensures.value ∙ ap (λ w. w.files) c.self.view_is) c.in_ok-get-in-None.ensures.lookup) in
    c.own_range.ensures ∙ sym (original_of_file c.args.self.now c.args.node tree.now some)
