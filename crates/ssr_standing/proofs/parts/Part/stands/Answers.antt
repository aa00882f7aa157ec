use Rattle.std.proofs.Common.{◌≡◌, ◌∙◌, ◌+◌, ◌<◌, ◌^◌, List, ℕ, ap, length, map, subst, sym, arith}
use Rattle.std.specs.Prelude.{IfSome, Option, Some, None}
use Rattle.ssr_syntax_tree.specs.Syntax.{Syntax}
use Rattle.ssr_base_trees.specs.Applied.{changes_of}
use Rattle.ssr_base_trees.specs.Changes.{Change, replaced}
use Rattle.ssr_base_trees.specs.Origins.{Span, span_of}
use Rattle.ssr_standing.specs.Around.{agree}
use Rattle.ssr_standing.specs.Parts.{expression_of, stands_between}
use Rattle.ssr_standing.specs.Ranges.{new_places, old_places}
use Rattle.ssr_standing.proofs.PartChanges.{begin_in, in_text, old_short, stands_as}
use Rattle.ssr_standing.proofs.Standings.{if_ok_same, part_short}
use Rattle.ssr_standing.proofs.parts.Part.stands.Goals as goal

pub replaced-requires-clause-changes : goal.replaced-requires-clause-changes
replaced-requires-clause-changes c = in_text c.args.self.now.text.now c.args.self.now.range (changes_of c.args.changes.now) c.requires

pub old_ranges_from-requires : goal.old_ranges_from-requires
old_ranges_from-requires c =
    let part = c.args.self.now in
    old_short part.text.now part.range (changes_of c.args.changes.now) c.requires part.ends (1 + length part.front.now) (omega (arith, part.short))

pub new_ranges_from-requires : goal.new_ranges_from-requires
new_ranges_from-requires c =
    let part = c.args.self.now in
    let cs : List Change = changes_of c.args.changes.now in
    let text : List ℕ = part.text.now in
    let made : c.as_str.result.now ≡ replaced text part.range.start part.range.end cs = c.as_str.ensures.value ∙ c.in_ok-text.ensures in
    let short : 2 + length part.front.now + length c.as_str.result.now < 2 ^ 32 =
    subst (λ (o : Option Syntax). IfSome o (λ _. 2 + length part.front.now + length c.as_str.result.now < 2 ^ 32)) c.in-Some.is c.in_ok-read.ensures.short in
    part_short text (1 + length part.front.now) part.range.start part.range.end cs (begin_in text part.range cs c.requires)
    (omega (arith, ap length made, short))

pub returns-in_default : goal.returns-in_default
returns-in_default c =
    let part = c.args.self.now in
    let cs : List Change = changes_of c.args.changes.now in
    let text : List ℕ = part.text.now in
    let made : c.as_str.result.now ≡ replaced text part.range.start part.range.end cs = c.as_str.ensures.value ∙ c.in_ok-text.ensures in
    stands_as part.reach part.front.now text part.range.start part.range.end cs part.tree None part.read
    (sym c.in_default.is ∙ c.in_ok-read.ensures.tree ∙ ap (expression_of part.reach part.front.now) made)

pub returns : goal.returns
returns c =
    let part = c.args.self.now in
    let cs : List Change = changes_of c.args.changes.now in
    let text : List ℕ = part.text.now in
    let from : ℕ = part.range.start in
    let at : ℕ = 1 + length part.front.now in
    let made : c.as_str.result.now ≡ replaced text from part.range.end cs = c.as_str.ensures.value ∙ c.in_ok-text.ensures in
    let olds : map span_of c.deref.result.now ≡ old_places at from cs =
    ap (map span_of) c.deref.ensures.value ∙ c.in_ok-olds.ensures in
    let news : map span_of c.deref-2.result.now ≡ new_places at from cs =
    ap (map span_of) c.deref-2.ensures.value ∙ c.in_ok-news.ensures in
    if_ok_same c.agree.result (agree part.tree (map span_of c.deref.result.now) c.in-Some.new (map span_of c.deref-2.result.now))
    (stands_between part.reach part.front.now text from part.range.end cs) c.agree.ensures.value
    (ap (λ (places : List Span). agree part.tree places c.in-Some.new (map span_of c.deref-2.result.now)) olds
    ∙ ap (λ (places : List Span). agree part.tree (old_places at from cs) c.in-Some.new places) news
    ∙ stands_as part.reach part.front.now text from part.range.end cs part.tree (Some c.in-Some.new) part.read
    (sym c.in-Some.is ∙ c.in_ok-read.ensures.tree ∙ ap (expression_of part.reach part.front.now) made))
