use Rattle.std.proofs.Common.{◌≡◌, List, ℕ, Vec, [], length, map, refl, sym, subst, arith}
use Rattle.std.specs.Prelude.{All, IfOk}
use Rattle.std.specs.Global.{Global}
use Rattle.std.proofs.lemmas.Result.{IfOk-weaker}
use Rattle.ssr_syntax_kinds.specs.declared.range.TextRange.{TextRange}
use Rattle.ssr_base_trees.specs.Changes.{Change, FitsText, replaced}
use Rattle.ssr_base_trees.specs.Origins.{Span, span_of}
use Rattle.ssr_base_trees.proofs.Changes.{shown}
use Rattle.ssr_standing.specs.Ranges.{AreWritten, IsShort, new_places}
use Rattle.ssr_standing.proofs.Places.{written}
use Rattle.ssr_standing.proofs.ranges.new_ranges.Goals as goal

pub new_ranges_from-requires : goal.new_ranges_from-requires
new_ranges_from-requires c =
    subst (λ (cs : List Change). All IsShort (new_places 0 0 cs)) (sym (shown c.as_slice.ensures.value c.iter.ensures.items)) c.requires

pub returns-clause-places : goal.returns-clause-places
returns-clause-places c =
    subst (λ (cs : List Change). IfOk c.new_ranges_from.result (λ ranges. map span_of ranges.items ≡ new_places 0 0 cs))
    (shown c.as_slice.ensures.value c.iter.ensures.items) c.new_ranges_from.ensures

pub returns-clause-written : goal.returns-clause-written
returns-clause-written c =
    let edit : List Change = c.args.edit.now in
    IfOk-weaker c.new_ranges_from.result (λ (ranges : Vec TextRange Global). map span_of ranges.items ≡ new_places 0 0 edit)
    (λ (ranges : Vec TextRange Global). (text : List ℕ) → All (FitsText text) edit → AreWritten (replaced text 0 (length text) edit) (map span_of ranges.items) edit)
    (λ ranges is text fit. subst (λ (places : List Span). AreWritten (replaced text 0 (length text) edit) places edit) (sym is)
    (written [] text 0 0 edit refl c.iter.ensures.order fit (omega arith)))
    (returns-clause-places c)
