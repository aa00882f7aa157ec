use Rattle.std.proofs.Common.{◌≡◌, ◌∙◌, ◌<◌, ◌≤◌, ◌^◌, ap, sym, subst, length, map, List}
use Rattle.std.specs.Prelude.{string_bytes, Err}
use Rattle.std.specs.Str.{IsUtf8, trim}
use Rattle.std.proofs.lemmas.Str.{IsUtf8-string_bytes}
use Rattle.ssr_syntax_lex.specs.declared.tokens.RawToken.{RawToken}
use Rattle.ssr_syntax.specs.declared.syntax_error.SyntaxError.TheVariants as errors
use Rattle.ssr_syntax.specs.Private.Reading.{IsWritten}
use Rattle.ssr_syntax.specs.Reading.{Answers, fragment_reading_of, tree_reading, trimmed, error_of}
use Rattle.ssr_syntax.proofs.Texts.{told_on, parser_fault}
use Rattle.ssr_syntax.proofs.TextLaws.{as_refused, fragment_too_long, fragment_comment, fragment_read, fragment_answered, fragment_answers, fragment_complete}
use Rattle.ssr_syntax.proofs.TextRows.{AreKept, kept_tokens, cut_copied, written_of_cut}
use Rattle.ssr_syntax.proofs.fragment_text.FragmentText.read_of.Goals as goal
use Rattle.ssr_syntax.proofs.fragment_text.FragmentText.read_of.Goals.{After-goal, In_ok-rows}

pub returns-in_err-check_length-clause-answers : goal.returns-in_err-check_length-clause-answers
returns-in_err-check_length-clause-answers c =
    let text = string_bytes c.self.inside.text in
    let e = c.in_err-check_length.field-0.0 in
    subst (λ t. Answers c.from_residual.result (fragment_reading_of c.args.reach c.args.fragment t) t) c.self.view_is
    (told_on e c.from_residual.result (fragment_reading_of c.args.reach c.args.fragment text) text c.from_residual.ensures.0 c.from_residual.ensures.1
    (fragment_too_long c.args.reach c.args.fragment text e
    (subst (λ t. (e ≡ errors.TooLong) × (2 ^ 32 ≤ length t)) c.as_str.ensures.value c.in_err-check_length.ensures.long)))

pub returns-then-not-is_solid_outside-clause-answers : goal.returns-then-not-is_solid_outside-clause-answers
returns-then-not-is_solid_outside-clause-answers c =
    let text = string_bytes c.self.inside.text in
    let kept = kept_tokens text c.self.inside.rows c.self.inside.solid.items (IsUtf8-string_bytes c.self.inside.text) c.self.invariant in
    let short = subst (λ t. length t < 2 ^ 32) c.as_str.ensures.value c.in_ok-check_length.ensures.short in
    subst (λ t. Answers (Err errors.NoTree) (fragment_reading_of c.args.reach c.args.fragment t) t) c.self.view_is
    (fragment_comment c.args.reach c.args.fragment text kept.0 short kept.1.lexed
    (c.if-not-is_solid_outside.ensures ∙ kept.1.outside c.kinds.result.now c.kinds.ensures))

pub returns-then-not-is_solid_outside-clause-complete : goal.returns-then-not-is_solid_outside-clause-complete
returns-then-not-is_solid_outside-clause-complete c syntax short fits =
    fragment_complete c.args.reach c.args.fragment c.args.self.now syntax (Err errors.NoTree) short fits (returns-then-not-is_solid_outside-clause-answers c)

-- the text is read as its tokens are
record ReadAs (c : After-goal) : Type 0 where
  raw : List RawToken
  kept : AreKept (string_bytes c.self.inside.text) c.self.inside.rows c.self.inside.solid.items raw
  short : length (string_bytes c.self.inside.text) < 2 ^ 32
  read : fragment_reading_of c.args.reach c.args.fragment (string_bytes c.self.inside.text) ≡ tree_reading c.args.reach c.goal.result (trimmed (string_bytes c.self.inside.text)) raw

read_is : (c : After-goal) → ReadAs c
read_is c =
    let text = string_bytes c.self.inside.text in
    let known = kept_tokens text c.self.inside.rows c.self.inside.solid.items (IsUtf8-string_bytes c.self.inside.text) c.self.invariant in
    let lt = subst (λ t. length t < 2 ^ 32) c.as_str.ensures.value c.in_ok-check_length.ensures.short in
    record {
      raw = known.0;
      kept = known.1;
      short = lt;
      read = fragment_read c.args.reach c.args.fragment text known.0 c.goal.result lt known.1.lexed
          (c.if-not-is_solid_outside.ensures ∙ known.1.outside c.kinds.result.now c.kinds.ensures) c.goal.ensures;
    }

pub returns-in_err-written-clause-answers : goal.returns-in_err-written-clause-answers
returns-in_err-written-clause-answers c =
    let text = string_bytes c.self.inside.text in
    let is = read_is (goal.at.returns-in_err-written-clause-answers c).After-goal in
    let e = error_of c.in_err-written.field-0.0 in
    subst (λ t. Answers c.from_residual-in_err-written.result (fragment_reading_of c.args.reach c.args.fragment t) t) c.self.view_is
    (told_on e c.from_residual-in_err-written.result (fragment_reading_of c.args.reach c.args.fragment text) text
    c.from_residual-in_err-written.ensures.0 c.from_residual-in_err-written.ensures.1
    (as_refused e (tree_reading c.args.reach c.goal.result (trimmed text) is.raw) (fragment_reading_of c.args.reach c.args.fragment text) (trimmed text) text is.short is.read
    (parser_fault c.args.reach c.goal.result (trimmed text) is.raw c.deref.result.now c.in_err-written.field-0.0 c.self.invariant.short
    (c.deref.ensures.value ∙ is.kept.cut.solid_are) c.in_err-written.ensures)))

pub returns-in_err-written-clause-complete : goal.returns-in_err-written-clause-complete
returns-in_err-written-clause-complete c syntax short fits =
    fragment_complete c.args.reach c.args.fragment c.args.self.now syntax c.from_residual-in_err-written.result short fits (returns-in_err-written-clause-answers c)

-- what is written of it
copied_text : (c : In_ok-rows) → string_bytes c.in_ok-text.text ≡ trimmed (string_bytes c.self.inside.text)
copied_text c = c.in_ok-text.ensures.ok ∙ c.trim.ensures.trim ∙ ap trim c.as_str-2.ensures.value

written_is : (c : In_ok-rows) (is : ReadAs (goal.at.In_ok-rows c).After-goal)
    → IsWritten c.args.reach c.goal.result (string_bytes c.in_ok-text.text) c.in_ok-rows.rows c.in_ok-written.written is.raw
written_is c is =
    let inner = trimmed (string_bytes c.self.inside.text) in
    let reads = c.in_ok-written.ensures in
    written_of_cut c.args.reach c.goal.result (string_bytes c.in_ok-text.text) c.in_ok-rows.rows c.self.inside.solid.items c.deref.result.now is.raw reads.0
    c.in_ok-written.written c.kinds-2.result.now
    (cut_copied inner (string_bytes c.in_ok-text.text) c.self.inside.rows c.in_ok-rows.rows c.self.inside.solid.items is.raw is.kept.cut
    (copied_text c) c.in_ok-rows.ensures)
    c.deref.ensures.value reads.1 (c.kinds-2.ensures ∙ ap (map (λ row. row.kind)) (sym c.in_ok-rows.ensures)) reads.2

pub written_tree-requires : goal.written_tree-requires
written_tree-requires c =
    let is = read_is (goal.at.written_tree-requires c).After-goal in
    record {
      short = subst (λ t. length t < 2 ^ 32) (sym (copied_text (goal.at.written_tree-requires c).In_ok-rows)) c.self.invariant.short;
      written = (c.args.reach, c.goal.result, is.raw, written_is (goal.at.written_tree-requires c).In_ok-rows is);
    }

pub returns-clause-answers : goal.returns-clause-answers
returns-clause-answers c =
    let text = string_bytes c.self.inside.text in
    let source = string_bytes c.in_ok-text.text in
    let is = read_is (goal.at.returns-clause-answers c).After-goal in
    let same = copied_text (goal.at.returns-clause-answers c).In_ok-rows in
    subst (λ t. Answers c.written_tree.result (fragment_reading_of c.args.reach c.args.fragment t) t) c.self.view_is
    (fragment_answered c.args.reach c.args.fragment text source (tree_reading c.args.reach c.goal.result source is.raw) c.written_tree.result is.short same
    (is.read ∙ ap (λ t. tree_reading c.args.reach c.goal.result t is.raw) (sym same))
    (c.written_tree.ensures c.args.reach c.goal.result is.raw (written_is (goal.at.returns-clause-answers c).In_ok-rows is)))

pub returns-clause-sound : goal.returns-clause-sound
returns-clause-sound c =
    fragment_answers c.args.reach c.args.fragment c.args.self.now c.written_tree.result (subst IsUtf8 c.self.view_is (IsUtf8-string_bytes c.self.inside.text))
    (returns-clause-answers c)

pub returns-clause-complete : goal.returns-clause-complete
returns-clause-complete c syntax short fits =
    fragment_complete c.args.reach c.args.fragment c.args.self.now syntax c.written_tree.result short fits (returns-clause-answers c)
