use Rattle.std.proofs.Common.{◌≡◌, ◌+◌, List, length, Some, ap, sym, subst, arith, ◌∙◌}
use Rattle.std.specs.Prelude.{slice_get, string_bytes}
use Rattle.std.specs.Str.{trim}
use Rattle.std.proofs.lemmas.Option.{slice_get_within}
use Rattle.std.proofs.lemmas.Str.{IsUtf8-string_bytes}
use Rattle.ssr_syntax_lex.specs.Tokens.{tokens}
use Rattle.ssr_syntax_lex.specs.declared.tokens.RawToken.{RawToken}
use Rattle.ssr_syntax.specs.Private.Reading.{end_before}
use Rattle.ssr_syntax_rows.specs.Solid.{pieces}
use Rattle.ssr_syntax.specs.Reading.{trimmed}
use Rattle.ssr_syntax.proofs.TextRows.{IsTokenAt, kept_count, kept_token}
use Rattle.ssr_syntax.proofs.fragment_text.FragmentText.token.Goals as goal
use Rattle.ssr_syntax.proofs.fragment_text.FragmentText.token.Goals.{In_ok-row, After-end_before-end}

row_is : (c : In_ok-row) → slice_get c.self.inside.rows c.args.number ≡ Some c.in_ok-row.row
row_is c = sym c.get.ensures ∙ c.in_ok-row.was

pub overflow_add-number : goal.overflow_add-number
overflow_add-number c =
    omega (
      arith,
      slice_get_within c.self.inside.rows c.args.number c.in_ok-row.row (row_is (goal.at.overflow_add-number c).In_ok-row),
      kept_count (string_bytes c.self.inside.text) c.self.inside.rows c.self.inside.solid.items (IsUtf8-string_bytes c.self.inside.text) c.self.invariant,
    )

-- the token of the row
record TokenAt (c : After-end_before-end) : Type 0 where
  raw : List RawToken
  lexed : tokens (trimmed (string_bytes c.self.inside.text)) ≡ Some raw
  inner : c.trim-text.result.now ≡ trimmed (string_bytes c.self.inside.text)
  at : IsTokenAt c.trim-text.result.now c.in_ok-row.row c.end_before-end.result (slice_get (pieces (trimmed (string_bytes c.self.inside.text)) raw) c.args.number)

token_is : (c : After-end_before-end) → TokenAt c
token_is c =
    let text = string_bytes c.self.inside.text in
    let known = kept_token text c.self.inside.rows c.self.inside.solid.items c.args.number c.in_ok-row.row (IsUtf8-string_bytes c.self.inside.text) c.self.invariant
    (row_is (goal.at.After-end_before-end c).In_ok-row) in
    let same : c.trim-text.result.now ≡ trimmed text = c.trim-text.ensures.trim ∙ ap trim c.as_str.ensures.value in
    let end : c.end_before-end.result ≡ end_before (length (trimmed text)) (slice_get c.self.inside.rows (c.args.number + 1)) =
    c.end_before-end.ensures ∙ ap (λ t. end_before (length t) c.get-2.result) same ∙ ap (end_before (length (trimmed text))) c.get-2.ensures in record {
      raw = known.0;
      lexed = known.1;
      inner = same;
      at =
          subst (λ t. IsTokenAt t c.in_ok-row.row c.end_before-end.result (slice_get (pieces (trimmed text) known.0) c.args.number)) (sym same)
          (subst (λ n. IsTokenAt (trimmed text) c.in_ok-row.row n (slice_get (pieces (trimmed text) known.0) c.args.number)) (sym end) known.2);
    }

pub range-requires-clause-start_le_end : goal.range-requires-clause-start_le_end
range-requires-clause-start_le_end c = (token_is (goal.at.range-requires-clause-start_le_end c).After-end_before-end).at.ordered

pub range-requires-clause-start_boundary : goal.range-requires-clause-start_boundary
range-requires-clause-start_boundary c = λ above. (token_is (goal.at.range-requires-clause-start_boundary c).After-end_before-end).at.starts

pub range-requires-clause-end_boundary : goal.range-requires-clause-end_boundary
range-requires-clause-end_boundary c = (token_is (goal.at.range-requires-clause-end_boundary c).After-end_before-end).at.ends

pub returns : goal.returns
returns c raw lexes =
    let is = token_is (goal.at.returns c).After-end_before-end in
    let same : is.raw ≡ raw = cc (is.lexed, lexes, c.self.view_is) in
    ap (λ text. Some (record { kind = c.in_ok-row.row.kind; text = text })) c.range.ensures.value
    ∙ sym is.at.is
    ∙ ap (λ raws. slice_get (pieces (trimmed (string_bytes c.self.inside.text)) raws) c.args.number) same
    ∙ ap (λ t. slice_get (pieces (trimmed t) raw) c.args.number) c.self.view_is
