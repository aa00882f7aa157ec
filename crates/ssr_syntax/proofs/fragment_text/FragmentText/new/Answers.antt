use Rattle.std.proofs.Common.{◌≡◌, ◌∙◌, ◌<◌, ◌^◌, ap, sym, subst, length, refl}
use Rattle.std.specs.Prelude.{string_bytes}
use Rattle.std.specs.Str.{trim}
use Rattle.ssr_syntax_lex.specs.Tokens.{rows_in}
use Rattle.ssr_syntax_lex.proofs.Shared.{rows_known}
use Rattle.ssr_syntax_rows.specs.SolidKinds.{solid_kinds}
use Rattle.ssr_syntax.specs.Reading.{trimmed}
use Rattle.ssr_syntax.proofs.fragment_text.FragmentText.new.Goals as goal

pub invariant_of-result : goal.invariant_of-result
invariant_of-result c =
    let same : c.trim.result.now ≡ trimmed (string_bytes c.args.text) = c.trim.ensures.trim ∙ ap trim c.as_str.ensures.value in
    record {
      short = subst (λ t. length t < 2 ^ 32) same c.in_ok-rows.ensures.0;
      lexed = ap rows_in (sym same) ∙ c.in_ok-rows.ensures.1;
      solid_are = c.in_ok-solid.ensures ∙ ap solid_kinds c.kinds.ensures;
    }

pub returns : goal.returns
returns c =
    let same : c.trim.result.now ≡ trimmed (string_bytes c.args.text) = c.trim.ensures.trim ∙ ap trim c.as_str.ensures.value in
    let known = rows_known (trimmed (string_bytes c.args.text)) c.in_ok-rows.rows (ap rows_in (sym same) ∙ c.in_ok-rows.ensures.1) in
    (refl, subst (λ t. length t < 2 ^ 32) same c.in_ok-rows.ensures.0, (known.0, known.1))
