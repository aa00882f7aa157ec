use Rattle.std.proofs.Common.{◌≡◌, ◌∷◌, List, map, subst, sym, ap}
use Rattle.ssr_syntax_kinds.specs.declared.range.TextRange.{TextRange}
use Rattle.ssr_base_trees.specs.Applied.{change_of}
use Rattle.ssr_base_trees.specs.Origins.{Span, span_of}
use Rattle.ssr_set_aside.specs.Parts.{AreOfTokens, of_front, of_token, of_units}
use Rattle.ssr_set_aside.proofs.PartLaws.{some_map}
use Rattle.ssr_set_aside.proofs.parts.behind_part.Goals as goal

pub returns-in_ok-is_front-in-Front : goal.returns-in_ok-is_front-in-Front
returns-in_ok-is_front-in-Front c =
    let cut = c.args.cut.now in
    some_map _ _ c.ranges_if.result (λ left h cs all.
    of_front (change_of c.args.change.now) cs _ (c.in_ok-is_front-in-Front.ensures h.0)
    (subst (λ (ranges : List TextRange). AreOfTokens cut.text.now cut.plain.now cut.tokens.now cs (map span_of ranges)) h.1 all)) c.ranges_if.ensures

pub returns-in_ok-is_token-in-Token : goal.returns-in_ok-is_token-in-Token
returns-in_ok-is_token-in-Token c =
    let cut = c.args.cut.now in
    some_map _ _ c.ranges_if-in-Token.result (λ left h cs all.
    of_token (change_of c.args.change.now) cs _ _ _ (c.in_ok-is_token-in-Token.ensures h.0)
    (subst (λ (ranges : List TextRange). AreOfTokens cut.text.now cut.plain.now cut.tokens.now cs (map span_of ranges)) h.1 all)) c.ranges_if-in-Token.ensures

pub returns-in_ok-is_run-in-Some : goal.returns-in_ok-is_run-in-Some
returns-in_ok-is_run-in-Some c =
    let cut = c.args.cut.now in
    let first : Span = span_of c.in-Some.first.now in
    let are : map span_of c.args.ranges.now ≡ first ∷ map span_of c.in-Some.others.now = ap (map span_of) c.in-Some.ensures.cases.0 in
    some_map _ _ c.ranges_if-in-Some.result (λ left h cs all.
    subst (λ (spans : List Span). AreOfTokens cut.text.now cut.plain.now cut.tokens.now (change_of c.args.change.now ∷ cs) spans) (sym are)
    (of_units (change_of c.args.change.now) cs first (map span_of c.in-Some.others.now) (c.in_ok-is_run-in-Some.ensures h.0)
    (subst (λ (ranges : List TextRange). AreOfTokens cut.text.now cut.plain.now cut.tokens.now cs (map span_of ranges)) h.1 all))) c.ranges_if-in-Some.ensures
