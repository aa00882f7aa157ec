use Rattle.std.proofs.Common.{◌≡◌, ◌∙◌, ℕ, ◌+◌, ◌-◌, ◌<◌, ◌^◌, List, [], ◌∷◌, ◌++◌, length, drop, map, sym, ap, subst, arith}
use Rattle.std.specs.Prelude.{All}
use Rattle.std.proofs.lemmas.List.{append-nil, drop_all, length-map}
use Rattle.std.proofs.lemmas.List.Elements.{All-head, All-tail}
use Rattle.ssr_base_trees.specs.Changes.{Change}
use Rattle.ssr_base_trees.specs.Applied.{change_of, changes_of}
use Rattle.ssr_base_trees.specs.Origins.{span_of}
use Rattle.ssr_base_trees.proofs.Changes.{changes_from}
use Rattle.ssr_standing.specs.Ranges.{IsShort, new_places}
use Rattle.ssr_standing.proofs.Places.{one_new}
use Rattle.ssr_standing.proofs.ranges.new_ranges_from.Goals as goal

-- the text of the next change ends before the byte 2^32
next_short : (cs : List Change) (i at from : ℕ) (c : Change) → drop i cs ≡ c ∷ drop (i + 1) cs → All IsShort (new_places at from (drop i cs))
    → All IsShort (new_places at from (c ∷ drop (i + 1) cs))
next_short cs i at from c left short = subst (λ (cs : List Change). All IsShort (new_places at from cs)) left short

first_short : (cs : List Change) (at from : ℕ) (c : Change) → All IsShort (new_places at from (c ∷ cs)) → at + (c.start - from) + length c.text < 2 ^ 32
first_short cs at from c short = All-head IsShort _ (new_places (at + (c.start - from) + length c.text) c.end cs) short

pub overflow_add-start : goal.overflow_add-start
overflow_add-start c =
    let pairs = c.args.changes.now in
    let d : Change = change_of c.loop-range-item.result in
    let left = changes_from pairs c.loop-range.range-index c.loop-range-item.result c.loop-range-test.true c.loop-range-item.is in
    omega (
      arith,
      c.saturating_sub.ensures,
      first_short (drop (c.loop-range.range-index + 1) (changes_of pairs)) c.loop-range.at c.loop-range.from d
          (next_short (changes_of pairs) c.loop-range.range-index c.loop-range.at c.loop-range.from d left c.loop-range.invariant.short),
    )

pub overflow_cast-end : goal.overflow_cast-end
overflow_cast-end c =
    let pairs = c.args.changes.now in
    let d : Change = change_of c.loop-range-item.result in
    let left = changes_from pairs c.loop-range.range-index c.loop-range-item.result c.loop-range-test.true c.loop-range-item.is in
    let long : c.len.result ≡ length d.text = omega (arith, c.len.ensures, c.loop-range-item.result.1.bytes.ok.0) in
    omega (
      arith,
      long,
      first_short (drop (c.loop-range.range-index + 1) (changes_of pairs)) c.loop-range.at c.loop-range.from d
          (next_short (changes_of pairs) c.loop-range.range-index c.loop-range.at c.loop-range.from d left c.loop-range.invariant.short),
    )

pub overflow_add-end : goal.overflow_add-end
overflow_add-end c =
    let pairs = c.args.changes.now in
    let d : Change = change_of c.loop-range-item.result in
    let left = changes_from pairs c.loop-range.range-index c.loop-range-item.result c.loop-range-test.true c.loop-range-item.is in
    let long : c.len.result ≡ length d.text = omega (arith, c.len.ensures, c.loop-range-item.result.1.bytes.ok.0) in
    omega (
      arith,
      long,
      c.saturating_sub.ensures,
      first_short (drop (c.loop-range.range-index + 1) (changes_of pairs)) c.loop-range.at c.loop-range.from d
          (next_short (changes_of pairs) c.loop-range.range-index c.loop-range.at c.loop-range.from d left c.loop-range.invariant.short),
    )

pub loop-range-preserved : goal.loop-range-preserved
loop-range-preserved c =
    let pairs = c.args.changes.now in
    let d : Change = change_of c.loop-range-item.result in
    let at : ℕ = c.loop-range.at in
    let from : ℕ = c.loop-range.from in
    let rest : List Change = drop (c.loop-range.range-index + 1) (changes_of pairs) in
    let left = changes_from pairs c.loop-range.range-index c.loop-range-item.result c.loop-range-test.true c.loop-range-item.is in
    let long : c.len.result ≡ length d.text = omega (arith, c.len.ensures, c.loop-range-item.result.1.bytes.ok.0) in
    let start : at + c.saturating_sub.result ≡ at + (d.start - from) = ap (λ (n : ℕ). at + n) c.saturating_sub.ensures in
    let end : at + c.saturating_sub.result + c.len.result ≡ at + (d.start - from) + length d.text = omega (arith, start, long) in
    record {
      so_far =
          subst (λ (n : ℕ). map span_of c.push.new.self.items ++ new_places n d.end rest ≡ new_places c.args.at c.args.from (changes_of pairs)) (sym end)
          (one_new c.loop-range.ranges.items c.push.new.self.items c.new.result at from d rest (drop c.loop-range.range-index (changes_of pairs)) _ left
          c.in_ok-push.ensures.items (c.new.ensures.start ∙ start) (c.new.ensures.end ∙ end) c.loop-range.invariant.so_far);
      short =
          subst (λ (n : ℕ). All IsShort (new_places n d.end rest)) (sym end)
          (All-tail IsShort _ (new_places (at + (d.start - from) + length d.text) d.end rest)
          (next_short (changes_of pairs) c.loop-range.range-index at from d left c.loop-range.invariant.short));
    }

pub returns : goal.returns
returns c =
    let pairs = c.args.changes.now in
    let ended : drop c.loop-range.range-index (changes_of pairs) ≡ [] =
    drop_all c.loop-range.range-index (changes_of pairs) (omega (arith, length-map pairs change_of)) in
    sym (append-nil (map span_of c.loop-range.ranges.items))
    ∙ ap (λ (cs : List Change). map span_of c.loop-range.ranges.items ++ new_places c.loop-range.at c.loop-range.from cs) (sym ended)
    ∙ c.loop-range.invariant.so_far
