use Rattle.std.proofs.Common.{List, map, string_bytes, ap, sym, ◌∙◌, subst}
use Rattle.std.specs.Prelude.{IfOk, IfSome}
use Rattle.ssr_syntax_kinds.specs.declared.reach.Reach.{Reach}
use Rattle.ssr_syntax_shorts.specs.declared.parts.Part.{Part}
use Rattle.ssr_syntax_shorts.specs.Made.{ArePutTogether}
use Rattle.ide_ssr_rewriting.specs.Private.Parts.{told}
use Rattle.ide_ssr_rewriting.specs.Private.Pieces.{piece_bytes}
use Rattle.ide_ssr_rewriting.specs.Rendering.{filling_of}
use Rattle.ide_ssr_rewriting.proofs.Parts.{is_expr-true, plain_same, rendered_answer}
use Rattle.ide_ssr_rewriting.proofs.rendering.Rendering.by_short.Goals as goal

pub put_together-requires : goal.put_together-requires
put_together-requires c =
    c.requires.text
    ∙ sym (plain_same c.args.self.now.rule.now (filling_of c.args.self.now.bindings.now (map piece_bytes c.args.self.now.pieces.now) (map string_bytes c.args.self.now.printed.now)) c.args.self.now.template.now
    c.deref.result.now (ap (λ (ps : List Part). map told ps) c.deref.ensures.value ∙ c.in_ok-parts.ensures))

pub returns-in_ok-parts : goal.returns-in_ok-parts
returns-in_ok-parts c =
    let rule = c.args.self.now.rule.now in
    rendered_answer rule (filling_of c.args.self.now.bindings.now (map piece_bytes c.args.self.now.pieces.now) (map string_bytes c.args.self.now.printed.now)) c.args.self.now.template.now
    c.deref.result.now c.put_together.result c.requires.template (is_expr-true rule.category (c.may_be_short.ensures c.if-may_be_short.true))
    (ap (λ (ps : List Part). map told ps) c.deref.ensures.value ∙ c.in_ok-parts.ensures)
    (subst (λ (reach : Reach). IfOk c.put_together.result (λ answer. IfSome answer (λ text. ArePutTogether reach c.deref.result.now text))) c.reach.ensures
    c.put_together.ensures)
