-- Of the bytes of a facts file one thing is told.
use Rattle.std.proofs.Common.{◌≡◌, ◌≢◌, ℕ, List, [], ◌∷◌, length, map, drop, get_or, Ok, Err, Bool, true, false, refl, sym, ◌∙◌, ap, subst, arith}
use Rattle.std.specs.Prelude.{Result, string_bytes}
use Rattle.std.specs.Bool.{MatchBool}
use Rattle.std.specs.Result.{IsOkAnd}
use Rattle.ssr_syntax_kinds.specs.declared.range.TextRange.{TextRange}
use Rattle.ssr_base.specs.Building.{built}
use Rattle.ssr_base.specs.declared.workspace_error.WorkspaceError.{WorkspaceError}
use Rattle.ssr_base.proofs.Shared.{is_built}
use Rattle.ssr_base_trees.specs.Built.{IsBuilt}
use Rattle.ssr_base_trees.specs.Workspace.{Workspace, FileSpan, file_span_of}
use Rattle.ssr_base_trees.specs.declared.ids.FileRange.{FileRange}
use Rattle.ssr_facts_rows.specs.declared.rows_error.RowsError.{RowsError}
use Rattle.ssr_facts_rows.specs.declared.rows_error.RowsError.TheVariants as refused
use Rattle.ssr_facts_rows.specs.Facts.{PlainFacts}
use Rattle.ssr_facts.specs.declared.facts.Facts.{Facts}
use Rattle.ssr_facts.specs.declared.facts_error.FactsError.{FactsError}
use Rattle.ssr_facts.specs.declared.facts_error.FactsError.TheVariants as errors
use Rattle.ssr_facts.specs.Naming.{all_named}
use Rattle.ssr_facts.specs.Provider.{provided}
use Rattle.ssr_facts.specs.Reading.{AreTold, AnswersOf, AnswersRows, IsDue, Answers}
use Rattle.ssr_facts.proofs.OneWorkspace.{one_workspace, range_same}

-- two tell the same
pub record TellAlike (a b : Facts) : Type 0 where
  pub workspace : a.workspace ≡ b.workspace
  pub meanings : provided a.semantics ≡ provided b.semantics
  pub names : map string_bytes a.names.items ≡ map string_bytes b.names.items
  pub position : a.position ≡ b.position
  pub ranges : a.ranges.items ≡ b.ranges.items

-- ** Ranges.

range_alike : (a b : FileRange) → file_span_of a ≡ file_span_of b → a ≡ b
range_alike a b same =
    let made : ℕ → TextRange → FileRange = λ file range. record { file_id = record { 0 = file }; range = range } in
    ap (λ file. made file a.range) (ap (λ (r : FileSpan). r.file) same)
    ∙ ap (made b.file_id.0) (range_same a.range b.range (ap (λ (r : FileSpan). r.span.start) same) (ap (λ (r : FileSpan). r.span.end) same))

ranges_alike : (xs ys : List FileRange) → map file_span_of xs ≡ map file_span_of ys → xs ≡ ys
ranges_alike [] [] same = refl
ranges_alike [] (y ∷ ys) same = absurd (omega (arith, ap length same))
ranges_alike (x ∷ xs) [] same = absurd (omega (arith, ap length same))
ranges_alike (x ∷ xs) (y ∷ ys) same =
    ap (λ z. z ∷ xs) (range_alike x y (ap (λ rs. get_or rs 0 (file_span_of x)) same)) ∙ ap (λ zs. y ∷ zs) (ranges_alike xs ys (ap (λ rs. drop 1 rs) same))

told_alike : (rows : PlainFacts) (w : Workspace) (a b : Facts) → AreTold rows w a → AreTold rows w b → TellAlike a b
told_alike rows w a b one other = record {
  workspace = one.workspace ∙ sym other.workspace;
  meanings = one.meanings ∙ sym other.meanings;
  names = one.names ∙ sym other.names;
  position = one.position ∙ sym other.position;
  ranges = ranges_alike a.ranges.items b.ranges.items (one.ranges ∙ sym other.ranges);
}

-- ** Answers.

-- two answers are the same refusal, or tell the same
abbrev pub AnswerAlike : Result Facts FactsError → Result Facts FactsError → Type 0
AnswerAlike (Ok a) (Ok b) = TellAlike a b
AnswerAlike (Ok a) (Err e) = ⊥
AnswerAlike (Err e) (Ok b) = ⊥
AnswerAlike (Err e) (Err f) = e ≡ f

refused_alike : (a b : Result Facts FactsError) (e : FactsError) → a ≡ Err e → b ≡ Err e → AnswerAlike a b
refused_alike a b e one other =
    subst (λ (a : Result Facts FactsError). AnswerAlike a b) (sym one) (subst (AnswerAlike (Err e)) (sym other) refl)

ok_alike : (rows : PlainFacts) (w : Workspace) (a b : Result Facts FactsError) → IsOkAnd a (AreTold rows w) → IsOkAnd b (AreTold rows w) → AnswerAlike a b
ok_alike rows w (Ok a) (Ok b) one other = told_alike rows w a b one other
ok_alike rows w (Err e) b one other = absurd one
ok_alike rows w (Ok a) (Err e) one other = absurd other

named_alike : (rows : PlainFacts) (w : Workspace) (named : Bool) (a b : Result Facts FactsError)
    → MatchBool named (IsOkAnd a (AreTold rows w)) (a ≡ Err errors.Shape) → MatchBool named (IsOkAnd b (AreTold rows w)) (b ≡ Err errors.Shape) → AnswerAlike a b
named_alike rows w true a b one other = ok_alike rows w a b one other
named_alike rows w false a b one other = refused_alike a b errors.Shape one other

built_alike : (rows : PlainFacts) (made : Result Workspace WorkspaceError) (a b : Result Facts FactsError) → AnswersOf rows made a → AnswersOf rows made b → AnswerAlike a b
built_alike rows (Err refusal) a b one other = refused_alike a b (errors.Workspace refusal) one other
built_alike rows (Ok w) a b one other = named_alike rows w (all_named w rows) a b one other

rows_alike : (rows : PlainFacts) (a b : Result Facts FactsError) → AnswersRows rows a → AnswersRows rows b → AnswerAlike a b
rows_alike rows a b one other =
    built_alike rows (built other.files other.expansions) a b
    (subst (λ (made : Result Workspace WorkspaceError). AnswersOf rows made a)
    (one_workspace rows one.files other.files one.expansions other.expansions one.sources other.sources) one.answers)
    other.answers

due_alike : (due : Result PlainFacts RowsError) (a b : Result Facts FactsError) → IsDue due a → IsDue due b → AnswerAlike a b
due_alike (Err refused.NotJson) a b one other = refused_alike a b errors.NotJson one other
due_alike (Err refused.Shape) a b one other = refused_alike a b errors.Shape one other
due_alike (Err refused.Memory) a b one other = absurd one
due_alike (Ok rows) a b one other = rows_alike rows a b one other

is_due : (due : Result PlainFacts RowsError) (answer : Result Facts FactsError) → answer ≢ Err errors.Memory → Answers due answer → IsDue due answer
is_due due (Ok facts) some is = is
is_due due (Err errors.NotJson) some is = is
is_due due (Err errors.Shape) some is = is
is_due due (Err (errors.Workspace refusal)) some is = is
is_due due (Err errors.Memory) some is = absurd (some refl)

pub one_answer : (due : Result PlainFacts RowsError) (a b : Result Facts FactsError) → a ≢ Err errors.Memory → b ≢ Err errors.Memory
    → Answers due a → Answers due b → AnswerAlike a b
one_answer due a b some other is again = due_alike due a b (is_due due a some is) (is_due due b other again)

-- ** The workspace.

named_built : (rows : PlainFacts) (w : Workspace) (named : Bool) (facts : Facts)
    → MatchBool named (AreTold rows w facts) (◌≡◌ {A = Result Facts FactsError} (Ok facts) (Err errors.Shape)) → facts.workspace ≡ w
named_built rows w true facts told = told.workspace
named_built rows w false facts told = absurd (cc told)

of_built : (rows : PlainFacts) (made : Result Workspace WorkspaceError) (facts : Facts) → ((w : Workspace) → made ≡ Ok w → IsBuilt w) → AnswersOf rows made (Ok facts)
    → IsBuilt facts.workspace
of_built rows (Err refusal) facts each told = absurd (cc told)
of_built rows (Ok w) facts each told = subst IsBuilt (sym (named_built rows w (all_named w rows) facts told)) (each w refl)

-- the workspace that is told is built
pub told_built : (due : Result PlainFacts RowsError) (facts : Facts) → Answers due (Ok facts) → IsBuilt facts.workspace
told_built (Err refused.NotJson) facts told = absurd (cc told)
told_built (Err refused.Shape) facts told = absurd (cc told)
told_built (Err refused.Memory) facts told = absurd told
told_built (Ok rows) facts told =
    of_built rows (built told.files told.expansions) facts (λ w is. is_built told.files told.expansions w is) told.answers
