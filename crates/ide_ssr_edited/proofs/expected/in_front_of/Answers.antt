use Rattle.std.proofs.Common.{◌≡◌, ◌∙◌, ◌-◌, ℕ, List, true, ap, arith, drop, length, nat_eq, subst}
use Rattle.std.specs.Cmp.Lexicographic.{pointwise, same_text}
use Rattle.std.specs.List.{ends_with}
use Rattle.std.specs.Str.{IsUtf8}
use Rattle.std.proofs.lemmas.Str.{IsCharBoundary-from_drop}
use Rattle.ide_ssr_edited.proofs.expected.in_front_of.Goals as goal

pub range-requires-clause-end_boundary : goal.range-requires-clause-end_boundary
range-requires-clause-end_boundary c =
    let text : List ℕ = c.args.text.now in
    let end : List ℕ = c.args.end.now in
    let place : ℕ = length text - length end in
    let told : true ≡ pointwise nat_eq end (drop place text) =
    c.if-not-ends_with.ensures.value ∙ ap (λ (t : List ℕ). ends_with nat_eq t c.as_bytes-2.result.now) c.as_bytes.ensures.value
    ∙ ap (λ (e : List ℕ). ends_with nat_eq text e) c.as_bytes-2.ensures.value in
    IsCharBoundary-from_drop text place (omega arith) (subst IsUtf8 (same_text end (drop place text) told) c.utf8.end)
