use Rattle.std.proofs.Common.{◌≡◌, ◌∙◌, ap, refl, sym, subst, List, Some, Ok, Err, rules}
use Rattle.std.specs.Prelude.{string_bytes}
use Rattle.std.specs.Str.{IsUtf8}
use Rattle.ssr_syntax_lex.specs.Tokens.{tokens}
use Rattle.ssr_syntax_lex.specs.declared.tokens.RawToken.{RawToken}
use Rattle.ssr_syntax.specs.declared.syntax_error.SyntaxError.TheVariants as errors
use Rattle.ssr_syntax.specs.Reading.{fragment_reading_of, tree_reading, trimmed, IsLexFault}
use Rattle.ssr_syntax.proofs.TextLaws.{fragment_too_long, fragment_fault, fragment_comment, fragment_read, fragment_sound_of, trimmed_complete, trimmed_told, as_refused}
use Rattle.ssr_syntax_rows.specs.SolidKinds.{kinds_of}
use Rattle.ssr_syntax.proofs.TextRows.{known_rows, outside_same}
use Rattle.ssr_syntax.proofs.reading.fragment_of.Goals as goal
use Rattle.ssr_syntax.proofs.reading.fragment_of.Goals.{After-goal}

pub returns-in_err-check_length-clause-answers : goal.returns-in_err-check_length-clause-answers
returns-in_err-check_length-clause-answers c =
    trimmed_told c.in_err-check_length.field-0.0 c.from_residual.result (fragment_reading_of c.args.reach c.args.fragment c.args.text.now) c.args.text.now
    c.from_residual.ensures.0 c.from_residual.ensures.1
    (fragment_too_long c.args.reach c.args.fragment c.args.text.now c.in_err-check_length.field-0.0 c.in_err-check_length.ensures.long)

pub returns-in_err-rows-clause-answers : goal.returns-in_err-rows-clause-answers
returns-in_err-rows-clause-answers c =
    let e = c.in_err-rows.field-0.0 in
    trimmed_told e c.from_residual-in_err-rows.result (fragment_reading_of c.args.reach c.args.fragment c.args.text.now) c.args.text.now
    c.from_residual-in_err-rows.ensures.0 c.from_residual-in_err-rows.ensures.1
    (fragment_fault c.args.reach c.args.fragment c.args.text.now c.args.text.now e refl c.utf8.text c.in_ok-check_length.ensures.short
    (subst (λ t. IsLexFault t e) c.trim-inner.ensures.trim c.in_err-rows.ensures))

pub returns-in_err-rows-clause-complete : goal.returns-in_err-rows-clause-complete
returns-in_err-rows-clause-complete c syntax short fits =
    trimmed_complete c.args.reach c.args.fragment c.args.text.now syntax c.from_residual-in_err-rows.result short fits (returns-in_err-rows-clause-answers c)

pub returns-then-not-is_solid_outside-clause-answers : goal.returns-then-not-is_solid_outside-clause-answers
returns-then-not-is_solid_outside-clause-answers c =
    let known = known_rows c.trim-inner.result.now c.in_ok-rows.rows c.trim-inner.utf8 c.in_ok-rows.ensures.1 in
    fragment_comment c.args.reach c.args.fragment c.args.text.now known.0 c.in_ok-check_length.ensures.short
    (ap tokens (sym c.trim-inner.ensures.trim) ∙ known.1.lexed)
    (c.if-not-is_solid_outside.ensures ∙ outside_same known.0 c.kinds.result.now (c.kinds.ensures ∙ ap kinds_of known.1.are))

pub returns-then-not-is_solid_outside-clause-complete : goal.returns-then-not-is_solid_outside-clause-complete
returns-then-not-is_solid_outside-clause-complete c syntax short fits =
    trimmed_complete c.args.reach c.args.fragment c.args.text.now syntax (Err errors.NoTree) short fits (returns-then-not-is_solid_outside-clause-answers c)

-- the fragment is read as its tokens are
record ReadAs (c : After-goal) : Type 0 where
  raw : List RawToken
  lexed : tokens (string_bytes c.in_ok-source.source) ≡ Some raw
  read : fragment_reading_of c.args.reach c.args.fragment c.args.text.now ≡ tree_reading c.args.reach c.goal.result (string_bytes c.in_ok-source.source) raw

read_is : (c : After-goal) → ReadAs c
read_is c =
    let source = string_bytes c.in_ok-source.source in
    let known = known_rows c.trim-inner.result.now c.in_ok-rows.rows c.trim-inner.utf8 c.in_ok-rows.ensures.1 in
    let same : source ≡ trimmed c.args.text.now = c.in_ok-source.ensures.ok ∙ c.trim-inner.ensures.trim in
    record {
      raw = known.0;
      lexed = ap tokens c.in_ok-source.ensures.ok ∙ known.1.lexed;
      read = fragment_read c.args.reach c.args.fragment c.args.text.now known.0 c.goal.result c.in_ok-check_length.ensures.short
          (ap tokens (sym c.trim-inner.ensures.trim) ∙ known.1.lexed)
          (c.if-not-is_solid_outside.ensures ∙ outside_same known.0 c.kinds.result.now (c.kinds.ensures ∙ ap kinds_of known.1.are))
          c.goal.ensures
          ∙ ap (λ t. tree_reading c.args.reach c.goal.result t known.0) (sym same);
    }

pub returns-in_err-tree-clause-answers : goal.returns-in_err-tree-clause-answers
returns-in_err-tree-clause-answers c =
    let source = string_bytes c.in_ok-source.source in
    let is = read_is (goal.at.returns-in_err-tree-clause-answers c).After-goal in
    trimmed_told c.in_err-tree.field-0.0 c.from_residual-in_err-tree.result (fragment_reading_of c.args.reach c.args.fragment c.args.text.now) c.args.text.now
    c.from_residual-in_err-tree.ensures.0 c.from_residual-in_err-tree.ensures.1
    (as_refused c.in_err-tree.field-0.0 (tree_reading c.args.reach c.goal.result source is.raw)
    (fragment_reading_of c.args.reach c.args.fragment c.args.text.now) source c.args.text.now c.in_ok-check_length.ensures.short
    is.read (c.in_err-tree.ensures is.raw is.lexed))

pub returns-in_err-tree-clause-complete : goal.returns-in_err-tree-clause-complete
returns-in_err-tree-clause-complete c syntax short fits =
    trimmed_complete c.args.reach c.args.fragment c.args.text.now syntax c.from_residual-in_err-tree.result short fits (returns-in_err-tree-clause-answers c)

pub returns-clause-answers : goal.returns-clause-answers
returns-clause-answers c =
    let is = read_is (goal.at.returns-clause-answers c).After-goal in
    (is.read ∙ c.in_ok-tree.ensures is.raw is.lexed, search rules steps 1000000)

pub returns-clause-sound : goal.returns-clause-sound
returns-clause-sound c =
    fragment_sound_of c.args.reach c.args.fragment c.args.text.now c.in_ok-tree.tree (subst IsUtf8 c.trim-inner.ensures.trim c.trim-inner.utf8)
    (returns-clause-answers c).0

pub returns-clause-complete : goal.returns-clause-complete
returns-clause-complete c syntax short fits =
    trimmed_complete c.args.reach c.args.fragment c.args.text.now syntax (Ok (c.in_ok-tree.tree, c.saturating_sub-front.result)) short fits
    (returns-clause-answers c)
