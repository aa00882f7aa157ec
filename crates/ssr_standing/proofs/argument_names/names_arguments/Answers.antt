use Rattle.std.proofs.Common.{◌≡◌, ◌∙◌, ◌+◌, ◌<◌, ℕ, List, map, sym, true, false, arith, ap}
use Rattle.ssr_syntax_tree.specs.Syntax.{Syntax, node_count}
use Rattle.ssr_base_trees.specs.Origins.{Span, span_of}
use Rattle.ssr_syntax_kinds.specs.declared.range.TextRange.{TextRange}
use Rattle.ssr_standing.specs.ArgumentNames.{names_at}
use Rattle.ssr_standing.proofs.Below.{none_more, one_passes}
use Rattle.ssr_standing.proofs.argument_names.names_arguments.Goals as goal

pub returns-then-names : goal.returns-then-names
returns-then-names c =
    let tree = c.args.tree.now in
    let places : List Span = map span_of c.args.places.now in
    let n : ℕ = c.loop-number.number in
    let is : c.names_at-names.result ≡ names_at places tree n =
    c.names_at-names.ensures
    ∙ ap (λ (t : Syntax). names_at (map span_of c.in_ok-holes.holes.places.now) t n) c.in_ok-holes.ensures.tree
    ∙ ap (λ (rs : List TextRange). names_at (map span_of rs) tree n) c.in_ok-holes.ensures.places in
    let yes : c.names_at-names.result ≡ true = cc in
    let within : n < 1 + node_count tree.children = omega arith in
    sym (one_passes (names_at places tree) n (1 + node_count tree.children) within (sym is ∙ yes))

pub loop-number-preserved : goal.loop-number-preserved
loop-number-preserved c =
    let tree = c.args.tree.now in
    let places : List Span = map span_of c.args.places.now in
    let n : ℕ = c.loop-number.number in
    let is : c.names_at-names.result ≡ names_at places tree n =
    c.names_at-names.ensures
    ∙ ap (λ (t : Syntax). names_at (map span_of c.in_ok-holes.holes.places.now) t n) c.in_ok-holes.ensures.tree
    ∙ ap (λ (rs : List TextRange). names_at (map span_of rs) tree n) c.in_ok-holes.ensures.places in
    let no : c.names_at-names.result ≡ false = cc in
    none_more (names_at places tree) n c.loop-number.invariant (sym is ∙ no)
