use Rattle.std.proofs.Common.{◌≡◌, ℕ, false, Option, None, is_some, sym, ap, ◌∙◌}
use Rattle.ssr_syntax_tree.specs.Syntax.{Syntax}
use Rattle.ssr_syntax_tree.specs.Places.{Node, node_of, parts_of, root_of}
use Rattle.ide_ssr_resolved_rule.specs.Placeholders.{placeholder_at}
use Rattle.ide_ssr_resolved_rule.specs.Resolved.{ResolvedRule}
use Rattle.ide_ssr_search.specs.Private.Roots.{first_counted}
use Rattle.ide_ssr_search.proofs.Asked.{root_of_placeholder, root_of_call, root_of_path, root_of_node, root_node, not_some}
use Rattle.ide_ssr_search.proofs.roots.Root.of.Goals as goal

pub returns-then-is_some : goal.returns-then-is_some
returns-then-is_some c = root_of_placeholder c.args.rule.now

-- the root of the pattern that the rule lends
of_root : {X : Type 0} (P : Node → X) (lent pattern : Syntax) → lent ≡ pattern → P (node_of lent 0) ≡ P (root_of pattern)
of_root P lent pattern is = ap (λ s. P (node_of s 0)) is ∙ ap P (root_node pattern)

no_placeholder : (rule : ResolvedRule) (found : Option ℕ) → found ≡ placeholder_at rule.names (node_of rule.pattern 0) → is_some found ≡ false
    → placeholder_at rule.names (root_of rule.pattern) ≡ None
no_placeholder rule found is none = sym (ap (placeholder_at rule.names) (root_node rule.pattern)) ∙ sym is ∙ not_some found none

pub returns-then-is_some-2 : goal.returns-then-is_some-2
returns-then-is_some-2 c =
    let rule = c.args.rule.now in
    root_of_call rule c.kind-kind.result
    (no_placeholder rule c.placeholder.result c.placeholder.ensures (sym c.is_some.ensures ∙ c.if-is_some.false))
    (c.kind-kind.ensures ∙ of_root (λ p. p.kind) _ rule.pattern c.pattern-pattern.ensures)

pub returns-then-is_some-3 : goal.returns-then-is_some-3
returns-then-is_some-3 c =
    let rule = c.args.rule.now in
    root_of_path rule c.kind-kind.result
    (no_placeholder rule c.placeholder.result c.placeholder.ensures (sym c.is_some.ensures ∙ c.if-is_some.false))
    (sym c.qualified_call.ensures ∙ not_some c.qualified_call.result (sym c.is_some-2.ensures ∙ c.if-is_some-2.false))
    (c.kind-kind.ensures ∙ of_root (λ p. p.kind) _ rule.pattern c.pattern-pattern.ensures)

pub returns : goal.returns
returns c =
    let rule = c.args.rule.now in
    root_of_node rule c.kind-kind.result c.first_counted.result
    (no_placeholder rule c.placeholder.result c.placeholder.ensures (sym c.is_some.ensures ∙ c.if-is_some.false))
    (sym c.qualified_call.ensures ∙ not_some c.qualified_call.result (sym c.is_some-2.ensures ∙ c.if-is_some-2.false))
    (sym c.pattern_res.ensures ∙ not_some c.pattern_res.result (sym c.is_some-3.ensures ∙ c.if-is_some-3.false))
    (sym c.pairs_otherwise.ensures ∙ c.if-pairs_otherwise.false)
    (c.kind-kind.ensures ∙ of_root (λ p. p.kind) _ rule.pattern c.pattern-pattern.ensures)
    (c.first_counted.ensures ∙ of_root (λ p. first_counted (parts_of p)) _ rule.pattern c.pattern-pattern.ensures)
