use Rattle.std.proofs.Common.{◌≡◌, ◌∙◌, ◌<◌, ◌^◌, ◌++◌, List, ℕ, ap, length, map, subst, sym}
use Rattle.std.specs.Prelude.{IfSome, Option, Some, None}
use Rattle.ssr_syntax_tree.specs.Syntax.{Syntax}
use Rattle.ssr_base_trees.specs.Origins.{Span}
use Rattle.ssr_standing.specs.Expansions.{Spelled, closing}
use Rattle.ssr_standing.specs.Private.Spelling.{place_of, shown}
use Rattle.ssr_standing.specs.declared.spelling.Place.{Place}
use Rattle.ssr_standing.proofs.Spelled.{reach_is, read_is, root_kind, short_spelled}
use Rattle.ssr_standing.proofs.expansions.read_with.Goals as goal

pub ranges-requires : goal.ranges-requires
ranges-requires c =
    let tree = c.args.tree.now in
    let s : Spelled = shown c.in_ok-speller.speller in
    let closed : c.as_str.result.now ≡ s.text ++ closing tree.kind =
    c.as_str.ensures.value ∙ c.in_ok-push_str.ensures.bytes
    ∙ ap (λ (bracket : List ℕ). s.text ++ bracket) (c.closing.ensures ∙ ap closing (c.kind.ensures ∙ root_kind tree)) in
    let short : length c.as_str.result.now < 2 ^ 32 =
    subst (λ (o : Option Syntax). IfSome o (λ _. length c.as_str.result.now < 2 ^ 32)) c.in-Some.is c.in_ok-read.ensures.short in
    short_spelled c.args.trees.now c.args.edit.now c.args.number tree s c.deref.result.now c.as_str.result.now
    c.in_ok-speller.ensures (ap (λ (places : List Place). map place_of places) c.deref.ensures.value) closed short

pub returns-in_default : goal.returns-in_default
returns-in_default c =
    let tree = c.args.tree.now in
    let s : Spelled = shown c.in_ok-speller.speller in
    let closed : c.as_str.result.now ≡ s.text ++ closing tree.kind =
    c.as_str.ensures.value ∙ c.in_ok-push_str.ensures.bytes
    ∙ ap (λ (bracket : List ℕ). s.text ++ bracket) (c.closing.ensures ∙ ap closing (c.kind.ensures ∙ root_kind tree)) in
    read_is c.args.trees.now c.args.edit.now c.args.number tree s c.as_str.result.now None c.in_ok-speller.ensures closed
    (sym c.in_default.is ∙ c.in_ok-read.ensures.tree ∙ reach_is c.args.trees.now c.reach.result c.as_str.result.now c.reach.ensures)

pub returns : goal.returns
returns c =
    let tree = c.args.tree.now in
    let s : Spelled = shown c.in_ok-speller.speller in
    let closed : c.as_str.result.now ≡ s.text ++ closing tree.kind =
    c.as_str.ensures.value ∙ c.in_ok-push_str.ensures.bytes
    ∙ ap (λ (bracket : List ℕ). s.text ++ bracket) (c.closing.ensures ∙ ap closing (c.kind.ensures ∙ root_kind tree)) in
    let with_places : List Span → Option (Syntax × List Span) = λ places. Some (c.in-Some.new, places) in
    ap with_places (c.in_ok-places.ensures ∙ ap (λ (places : List Place). map place_of places) c.deref.ensures.value)
    ∙ read_is c.args.trees.now c.args.edit.now c.args.number tree s c.as_str.result.now (Some c.in-Some.new)
    c.in_ok-speller.ensures closed
    (sym c.in-Some.is ∙ c.in_ok-read.ensures.tree ∙ reach_is c.args.trees.now c.reach.result c.as_str.result.now c.reach.ensures)
