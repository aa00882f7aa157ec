use Rattle.std.proofs.Common.{◌≡◌, ◌<◌, List, ℕ, Some, sym, ap, ◌∙◌, length, map, string_bytes}
use Rattle.ide_ssr_rewriting.specs.Private.Pieces.{piece_bytes}
use Rattle.std.proofs.lemmas.Bool.{ltb-true}
use Rattle.std.proofs.lemmas.Option.{slice_get-get_or}
use Rattle.std.proofs.lemmas.Result.{IfOk-weaker}
use Rattle.ide_ssr_rewriting.specs.Rendering.{filling_of, rendered}
use Rattle.ide_ssr_rewriting.specs.Replacements.{template_text, writing}
use Rattle.ide_ssr_rewriting.proofs.Filled.{filled}
use Rattle.ide_ssr_rewriting.proofs.writer.Writer.template_text.Goals as goal

pub returns : goal.returns
returns g c =
    let rules = c.args.self.now.rules.now in
    let by = writing (g.S.Semantics.meanings c.args.self.now.semantics.now) rules in
    let m = c.args.m.now in
    let pieces = map piece_bytes c.args.pieces.now in
    let r = c.rule.result in
    let rule = c.in-Some.rule.now in
    let within : r < length rules = ltb-true r (length rules) (sym c.in-Some.ensures.lookup.0) in
    let found = slice_get-get_or rules r rule within ∙ ap Some (sym c.in-Some.ensures.lookup.1) in
    let same =
    filled by m pieces (map string_bytes c.deref.result.now) r rule c.bindings.result.now c.node.result c.rule.ensures c.bindings.ensures c.node.ensures found
    (ap (map string_bytes) c.deref.ensures.value ∙ c.in_ok-printed.ensures) in
    IfOk-weaker c.rendered.result
    (λ (text : List ℕ). text ≡ rendered rule (filling_of c.bindings.result.now pieces (map string_bytes c.deref.result.now)))
    (λ (text : List ℕ). text ≡ template_text by m pieces) (λ text is. is ∙ same) c.rendered.ensures
