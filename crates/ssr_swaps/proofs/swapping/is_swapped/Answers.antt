use Rattle.std.proofs.Common.{◌≡◌, ◌∙◌, ◌++◌, List, ap, map, sym}
use Rattle.ssr_syntax_tree.specs.Syntax.{Syntax}
use Rattle.ssr_swaps.specs.Swapped.{with_swaps}
use Rattle.ssr_swaps.specs.declared.marks.Mark.{Mark}
use Rattle.ssr_swaps.specs.Private.Marks.{marks_of, shown}
use Rattle.ssr_swaps.proofs.Alike.{alike}
use Rattle.ssr_swaps.proofs.swapping.is_swapped.Goals as goal

pub returns : goal.returns
returns c =
    let tree : Syntax = with_swaps c.args.swaps.now c.args.tree.now in
    let law = alike tree c.args.new.now in
    let one : map shown c.deref.result.now ≡ marks_of tree =
    ap (map shown) c.deref.ensures.value ∙ c.in_ok-push_all.ensures ∙ ap (λ (marks : List Mark). map shown marks ++ marks_of tree) c.new-expected.ensures.items in
    let other : map shown c.deref-2.result.now ≡ marks_of c.args.new.now =
    ap (map shown) c.deref-2.ensures.value ∙ c.in_ok-push_tree.ensures ∙ ap (λ (marks : List Mark). map shown marks ++ marks_of c.args.new.now) c.new-marks.ensures.items in (
      λ told. law.0 (sym one ∙ c.are_same.ensures.0 told ∙ other),
      λ same. c.are_same.ensures.1 (one ∙ law.1 same ∙ sym other),
    )
