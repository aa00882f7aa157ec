use Rattle.std.proofs.Common.{◌<◌, length, map, string_bytes, arith, ap, ◌∙◌}
use Rattle.ssr_base_trees.specs.Applied.{changes_of}
use Rattle.ssr_base_trees.specs.Origins.{span_of}
use Rattle.ssr_changes.proofs.FileLists.{it_is, none_there, one_less, tree_there}
use Rattle.ssr_changes.proofs.searchable.as_they_are.Goals as goal

pub unreachable-requires : goal.unreachable-requires
unreachable-requires c =
    let less : c.loop-file.file < length c.args.workspace.now.files = omega (arith, c.file_count-file-end.ensures.count) in
    none_there c.args.workspace.now c.loop-file.file less c.in_default.ensures

pub loop-file-preserved : goal.loop-file-preserved
loop-file-preserved c =
    let less : c.loop-file.file < length c.args.workspace.now.files = omega (arith, c.file_count-file-end.ensures.count) in
    let names = map string_bytes c.args.names.now in
    let n = c.loop-file.file in
    let tree = c.in-Some.tree.now in
    let file = c.new-in-loop-file-2.result in
    one_less names c.args.workspace.now.files n tree c.loop-file.files.items c.push.new.self.items file less
    (tree_there c.args.workspace.now n tree less c.in-Some.ensures)
    (it_is names n tree (string_bytes c.in_ok-name.name) (string_bytes c.in_ok-text.text) c.new-aside.result c.new-reaches.result (map span_of c.new-unsearched.result.items) file c.new-in-loop-file-2.ensures
    (c.in_ok-name.ensures.ok ∙ c.name_of.ensures) (c.in_ok-text.ensures.ok ∙ c.source.ensures) (c.new-aside.ensures ∙ ap changes_of c.new.ensures.items)
    (c.new-reaches.ensures ∙ ap (map span_of) c.new-in-loop-file.ensures.items) (ap (map span_of) c.new-unsearched.ensures.items))
    c.in_ok-push.ensures.items c.loop-file.invariant
