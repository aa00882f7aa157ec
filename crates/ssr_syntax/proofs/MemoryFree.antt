-- Reading takes no memory, so no reading tells want of it.
use Rattle.std.proofs.Common.{◌≡◌, ◌≢◌, ℕ, Bool, true, false, if◌then◌else◌, List, [], ◌∷◌, length, Option, Some, None, Result, Ok, Err, IfErr, refl}
use Rattle.std.specs.Prelude.{nat_lt, ◌^◌}
use Rattle.std.proofs.lemmas.Result.{IfErr-at_err}
use Rattle.ssr_syntax_kinds.specs.declared.reach.Reach.{Reach}
use Rattle.ssr_syntax_kinds.specs.declared.reach.Reach.TheVariants.{Stated}
use Rattle.ssr_syntax_lex.specs.declared.tokens.RawToken.{RawToken}
use Rattle.ssr_syntax_lex.specs.Tokens.{tokens}
use Rattle.ssr_syntax_tree.specs.Syntax as plain
use Rattle.ssr_syntax_tree.specs.Syntax.{Syntax, depth_of, most_deep}
use Rattle.ssr_syntax_forms.specs.declared.fault.Fault.{Fault}
use Rattle.ssr_syntax_forms.specs.declared.fault.Fault.TheVariants as faults
use Rattle.ssr_syntax_forms.specs.declared.tokens.Token.{Token}
use Rattle.ssr_syntax_forms.specs.Trees.{Forest, done, leaf, tree}
use Rattle.ssr_syntax_forms.specs.Forms.{so_far}
use Rattle.ssr_syntax_forms.specs.Levels.{read_goal}
use Rattle.ssr_syntax_types.specs.declared.goals.Goal.{Goal}
use Rattle.ssr_syntax_types.specs.declared.goals.Goal.TheVariants as goals
use Rattle.ssr_syntax.specs.declared.syntax_error.SyntaxError.{SyntaxError}
use Rattle.ssr_syntax.specs.declared.syntax_error.SyntaxError.TheVariants as errors
use Rattle.ssr_syntax.specs.Grammar.{grammar_of}
use Rattle.ssr_syntax_rows.specs.Lossless.{whole_tree}
use Rattle.ssr_syntax_rows.specs.MacroRules.{misnames_macros}
use Rattle.ssr_syntax_rows.specs.Solid.{solid_tokens, pieces}
use Rattle.ssr_syntax_forms.proofs.Shared.{IsFree, no_tree, free-bind, free-goal}
use Rattle.ssr_syntax.specs.Reading.{most_levels, whole, reading, error_of, unless_misnamed, one_tree, tree_reading, lexed_reading, file_reading, file_reading_of}

-- ** Goals.

free-rest : (made : Forest) (rest : List Token) → IsFree (whole (so_far made rest))
free-rest made [] = tt
free-rest made (t ∷ ts) = no_tree

free-reading : (reach : Reach) (goal : Goal) (ts : List Token) → IsFree (reading reach goal ts)
unfolding reading
free-reading reach goal ts =
    free-bind (read_goal (grammar_of reach) most_levels goal ts) whole (free-goal (grammar_of reach) most_levels goal ts) (λ r. free-rest r.made r.rest)

-- ** Texts.

abbrev NeedsNone : Result Syntax SyntaxError → Type 0
NeedsNone read = IfErr read (λ error. error ≢ errors.Memory)

told_as : (fault : Fault) → fault ≢ faults.Memory → error_of fault ≢ errors.Memory
told_as faults.NoTree other = λ same. cc
told_as faults.TooDeep other = λ same. cc
told_as faults.Memory other = absurd (other refl)

none-if : (b : Bool) (x y : Result Syntax SyntaxError) → NeedsNone x → NeedsNone y → NeedsNone (if b then x else y)
none-if true x y first second = first
none-if false x y first second = second

none-tree : (forest : Forest) (ts : List plain.Token) → NeedsNone (one_tree forest ts)
none-tree done ts = λ same. cc
none-tree (leaf kind us next) ts = λ same. cc
none-tree (tree kind kids done) ts =
    let syntax : Syntax = whole_tree kind kids ts in
    none-if (nat_lt most_deep (depth_of syntax)) (Err errors.TooDeep) (unless_misnamed syntax) (λ same. cc)
    (none-if (misnames_macros syntax) (Err errors.NoTree) (Ok syntax) (λ same. cc) tt)
none-tree (tree kind kids (leaf k us next)) ts = λ same. cc
none-tree (tree kind kids (tree k below next)) ts = λ same. cc

none-read : (read : Result Forest Fault) (ts : List plain.Token) → IsFree read
    → NeedsNone (elim read [ Ok forest ↦ one_tree forest ts | Err fault ↦ Err (error_of fault) ])
none-read (Ok forest) ts free = none-tree forest ts
none-read (Err fault) ts free = told_as fault free

none-tokens : (read : List RawToken → Result Syntax SyntaxError) (raw : Option (List RawToken)) → ((ts : List RawToken) → NeedsNone (read ts))
    → NeedsNone (elim raw [ None ↦ Err errors.Lex | Some ts ↦ read ts ])
none-tokens read None none = λ same. cc
none-tokens read (Some ts) none = none ts

none-file : (reach : Reach) (text : List ℕ) → NeedsNone (file_reading_of reach text)
unfolding file_reading_of
none-file reach text =
    none-if (nat_lt (length text) (2 ^ 32)) (lexed_reading (tree_reading reach goals.File text) text) (Err errors.TooLong)
    (none-tokens (tree_reading reach goals.File text) (tokens text)
    (λ raw. none-read (reading reach goals.File (solid_tokens raw)) (pieces text raw) (free-reading reach goals.File (solid_tokens raw))))
    (λ same. cc)

pub file_needs_none : (text : List ℕ) (error : SyntaxError) → file_reading text ≡ Err error → error ≢ errors.Memory
unfolding file_reading
file_needs_none text error is = IfErr-at_err (λ e. e ≢ errors.Memory) is (none-file Stated text)
