use Rattle.std.proofs.Common.{◌≡◌, ◌∙◌, ◌<◌, ◌^◌, List, ap, length, map, subst, sym}
use Rattle.std.specs.Prelude.{Option, false, IfSome}
use Rattle.std.specs.Option.{option_map_or}
use Rattle.ssr_syntax_tree.specs.Syntax.{Syntax, source_of}
use Rattle.ssr_base_trees.specs.Origins.{Span, span_of}
use Rattle.ssr_standing.specs.Around.{agree}
use Rattle.ssr_standing.specs.Ranges.{new_places, old_place}
use Rattle.ssr_standing.specs.Standing.{agrees_after, changed_text, stands_of}
use Rattle.ssr_standing.proofs.Standings.{all_short, if_ok_same}
use Rattle.ssr_standing.proofs.standing.stands_of.Goals as goal

pub new_ranges-requires : goal.new_ranges-requires
new_ranges-requires c =
    all_short (source_of c.args.tree.now) c.args.edit.now c.requires
    (subst (λ (new : Option Syntax). IfSome new (λ _. length (changed_text c.args.tree.now c.args.edit.now) < 2 ^ 32)) c.in-Some.is c.in_ok-found.ensures.short)

pub returns : goal.returns
returns c =
    let tree = c.args.tree.now in
    let edit = c.args.edit.now in
    let olds : map span_of c.deref.result.now ≡ map old_place edit = ap (map span_of) c.deref.ensures.value ∙ c.in_ok-olds.ensures.ranges in
    let news : map span_of c.deref-2.result.now ≡ new_places 0 0 edit = ap (map span_of) c.deref-2.ensures.value ∙ c.in_ok-news.ensures.places in
    if_ok_same c.agree.result (agree tree (map span_of c.deref.result.now) c.in-Some.new (map span_of c.deref-2.result.now)) (stands_of c.args.reach tree edit) c.agree.ensures.value
    (ap (λ (places : List Span). agree tree places c.in-Some.new (map span_of c.deref-2.result.now)) olds
    ∙ ap (λ (places : List Span). agree tree (map old_place edit) c.in-Some.new places) news
    ∙ ap (λ (new : Option Syntax). option_map_or (agrees_after tree edit) new false) (sym c.in-Some.is ∙ c.in_ok-found.ensures.tree))
