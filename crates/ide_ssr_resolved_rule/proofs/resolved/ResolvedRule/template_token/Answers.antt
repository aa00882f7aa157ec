use Rattle.std.proofs.Common.{◌≡◌, arith, map, string_bytes, subst, sym}
use Rattle.std.specs.Option.{IfSome, IsSomeAnd}
use Rattle.ssr_syntax_tree.specs.Places.{HasToken}
use Rattle.ide_ssr_resolved_rule.specs.Resolved.{ResolvedRule}
use Rattle.ide_ssr_resolved_rule.specs.Templates.{template_token}
use Rattle.ide_ssr_resolved_rule.proofs.TemplateTables.{token_within, token_told}
use Rattle.ide_ssr_resolved_rule.proofs.resolved.ResolvedRule.template_token.Goals as goal

pub index-requires : goal.index-requires
index-requires c =
    let token = c.args.token.0 in
    let parts = c.self.inside.parts in
    let has = subst (λ (rule : ResolvedRule). IsSomeAnd rule.template (λ tree. HasToken tree token)) (sym c.self.view_is) c.requires in
    let long = token_within (map string_bytes parts.names.items) parts.template_paths.items c.self.inside.tables.in_template.items token parts.template c.self.invariant.in_template has in
    omega (arith, long)

pub returns : goal.returns
unfolding template_token
returns c =
    let token = c.args.token.0 in
    let parts = c.self.inside.parts in
    let has = subst (λ (rule : ResolvedRule). IsSomeAnd rule.template (λ tree. HasToken tree token)) (sym c.self.view_is) c.requires in
    subst (λ (rule : ResolvedRule). IfSome rule.template (λ tree. c.index.result.now ≡ template_token rule tree token)) c.self.view_is
    (token_told (map string_bytes parts.names.items) parts.template_paths.items c.self.inside.tables.in_template.items token parts.template c.index.result.now
    c.self.invariant.in_template has c.index.ensures)
