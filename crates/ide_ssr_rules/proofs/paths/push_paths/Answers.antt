use Rattle.std.proofs.Common.{◌∙◌, ◌+◌, ◌++◌, List, ap, append-nil, append_assoc, arith, drop, map, sym}
use Rattle.std.proofs.lemmas.List.{drop_all}
use Rattle.std.specs.Prelude.{flat_map}
use Rattle.ssr_syntax_tree.specs.Places.{Node, node_of, nodes_of}
use Rattle.ssr_syntax_tree.proofs.Shared.{node_left, length-nodes_of}
use Rattle.ide_ssr_rules.specs.Paths.{AskedPath, paths_at, paths_below, told_path}
use Rattle.ide_ssr_rules.proofs.paths.push_paths.Goals as goal

pub loop-number-preserved : goal.loop-number-preserved
loop-number-preserved c =
    let tree = c.args.side.now.tree.now in
    let n = c.loop-number.number in
    let here = paths_at c.args.side.now.names.now c.args.side.now.is_template tree in
    let left = flat_map here (drop (n + 1) (nodes_of tree)) in
    let old = map told_path c.loop-number.paths.items in
    ap (λ (ps : List AskedPath). ps ++ left) c.in_ok-push_path.ensures
    ∙ append_assoc old (here (node_of tree n)) left
    ∙ ap (λ (ns : List Node). old ++ flat_map here ns) (sym (node_left tree n (omega arith)))
    ∙ c.loop-number.invariant

pub returns : goal.returns
unfolding paths_below
returns c =
    let tree = c.args.side.now.tree.now in
    let n = c.loop-number.number in
    let here = paths_at c.args.side.now.names.now c.args.side.now.is_template tree in
    let now = map told_path c.loop-number.paths.items in
    sym (append-nil now)
    ∙ ap (λ (ns : List Node). now ++ flat_map here ns) (sym (drop_all n (nodes_of tree) (omega (arith, length-nodes_of tree))))
    ∙ c.loop-number.invariant
