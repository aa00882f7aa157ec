use Rattle.std.proofs.Common.{◌≡◌, false, refl, sym, ◌∙◌, ap, arith}
use Rattle.std.proofs.lemmas.List.{nil_from_length}
use Rattle.std.specs.Option.{option_map_or}
use Rattle.ssr_base_trees.specs.Workspace.{FileSpan, file_span_of}
use Rattle.ide_ssr_rewriting.specs.Clashes.{same_range}
use Rattle.ide_ssr_rewriting.proofs.ChangesMade.{goes_past, goes_on, ends, made_change, pushed}
use Rattle.ide_ssr_rewriting.proofs.clashes.changes_made.Goals as goal

pub loop-rewrite-init : goal.loop-rewrite-init
loop-rewrite-init c = rw (c.in_ok-changes.ensures.items, c.into_iter-rewrite-iterator.ensures.into_iter_gives.0) refl

pub loop-rewrite-preserved-then-is_last : goal.loop-rewrite-preserved-then-is_last
loop-rewrite-preserved-then-is_last c =
    let one : c.in-Some.rewrite.range ≡ file_span_of c.rewrite.inside.range = ap (λ r. r.range) (sym c.rewrite.view_is) in
    goes_past _ _ c.loop-rewrite.last c.in-Some.rewrite _ _ c.loop-rewrite.invariant c.in-Some.ensures.steps.0
    (ap (λ (range : FileSpan). option_map_or (λ last. same_range range (file_span_of last)) c.loop-rewrite.last false) one ∙ (sym c.is_last.ensures ∙ c.if-is_last.true))

pub loop-rewrite-preserved : goal.loop-rewrite-preserved
loop-rewrite-preserved c =
    let one : c.in-Some.rewrite.range ≡ file_span_of c.rewrite.inside.range = ap (λ r. r.range) (sym c.rewrite.view_is) in
    goes_on _ _ _ _ c.loop-rewrite.last c.rewrite.inside.range c.in-Some.rewrite _ _ c.loop-rewrite.invariant c.in-Some.ensures.steps.0
    (ap (λ (range : FileSpan). option_map_or (λ last. same_range range (file_span_of last)) c.loop-rewrite.last false) one ∙ (sym c.is_last.ensures ∙ c.if-is_last.false))
    one
    (pushed c.loop-rewrite.changes.items c.push.new.self.items (c.rewrite.inside.range.range, c.spelled.result) c.in_ok-push.ensures.items)
    (made_change c.rewrite.inside.range c.rewrite.inside.text c.in-Some.rewrite c.spelled.result c.rewrite.view_is c.spelled.ensures)

pub returns : goal.returns
returns c = ends _ _ c.loop-rewrite.last _ c.loop-rewrite.invariant
    (let left = c.loop-rewrite.rewrite-iterator.rest.ok in let none = c.in-None.ensures.steps.0 in nil_from_length c.loop-rewrite.rewrite-iterator.rest.items (omega arith))
