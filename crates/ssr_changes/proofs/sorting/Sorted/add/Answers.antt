use Rattle.std.proofs.Common.{◌<◌, ◌≤◌, length, map, sym, ap, ◌∙◌, inl, inr, refl, arith}
use Rattle.std.proofs.lemmas.Grind.{common_steps}
use Rattle.ssr_syntax_kinds.specs.declared.reach.Reach.TheVariants.{Whole}
use Rattle.ssr_syntax.specs.Reading.{file_reading_of}
use Rattle.ssr_syntax.specs.declared.syntax_error.SyntaxError.TheVariants as errors
use Rattle.ssr_base_trees.specs.Built.{most_trees}
use Rattle.ssr_base_trees.specs.Origins.{span_of}
use Rattle.ssr_changes.specs.Private.Building.{as_read}
use Rattle.ssr_changes.proofs.Sorted.{is_told, set_aside_is}
use Rattle.ssr_changes.proofs.sorting.Sorted.add.Goals as goal

pub returns-then-len-ge-MOST_TREES : goal.returns-then-len-ge-MOST_TREES
returns-then-len-ge-MOST_TREES c =
    let full : most_trees ≤ length c.args.self.now.files.items = grind (arith, common_steps) in
    is_told c.args.self.now _ c.args.file errors.TooLong (λ other. inr (refl, full)) c.tell.result c.tell.ensures.why c.tell.ensures.told c.tell.ensures.trees c.tell.ensures.files

pub returns-in_ok-push-in-Ok-2 : goal.returns-in_ok-push-in-Ok-2
returns-in_ok-push-in-Ok-2 c =
    let room : length c.args.self.now.files.items < most_trees = grind (arith, common_steps) in
    let known = set_aside_is c.args.file c.as_str.result.now c.in-Ok.made c.into_parts-tree.result.0 c.into_parts-tree.result.1 c.into_parts-tree.result.2
    (map span_of c.into_parts-tree.result.3.items) c.new.result c.as_str.ensures.value c.new.ensures c.into_parts-tree.ensures.tree c.into_parts-tree.ensures.aside c.into_parts-tree.ensures.reaches c.into_parts-tree.ensures.unsearched
    c.in-Ok.ensures.aside c.in-Ok.ensures.read c.in-Ok.ensures.as_it_stands in
    as_read c.into_parts-tree.result.0 c.new.result known.0 known.1 known.2 room c.in_ok-push-in-Ok.ensures.items c.in_ok-push-in-Ok-2.ensures.items refl

pub returns-in-Err : goal.returns-in-Err
returns-in-Err c =
    is_told c.args.self.now _ c.args.file c.in-Err.why (λ other. inl (ap (file_reading_of Whole) (sym c.as_str.ensures.value) ∙ c.in-Err.ensures.error other))
    c.tell-in-Err.result c.tell-in-Err.ensures.why c.tell-in-Err.ensures.told c.tell-in-Err.ensures.trees c.tell-in-Err.ensures.files
