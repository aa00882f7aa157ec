-- What fits a fragment is what is read of it, unless it is too deep. `ssr_syntax` has proved this of its readers; its lemmas
-- aren't for other crates, so the last steps are told again.
use Rattle.std.proofs.Common.{◌≡◌, ℕ, ◌+◌, ◌^◌, ◌<◌, ◌≤◌, nat_lt, Bool, true, false, ◌&&◌, if◌then◌else◌, List, [], length, Some, None, Ok, Err, ◌⊎◌, inl, inr, refl, sym, ap, subst, ◌∙◌, arith}
use Rattle.std.specs.Prelude.{Result, reverse}
use Rattle.std.proofs.lemmas.List.{append-nil}
use Rattle.std.proofs.lemmas.Bool.{ltb-false, lt-ltb}
use Rattle.ssr_syntax_kinds.specs.declared.fragment.Fragment.{Fragment}
use Rattle.ssr_syntax_kinds.specs.declared.kinds.SyntaxKind.{SyntaxKind}
use Rattle.ssr_syntax_kinds.specs.declared.reach.Reach.{Reach}
use Rattle.ssr_syntax_lex.specs.declared.tokens.RawToken.{RawToken}
use Rattle.ssr_syntax_tree.specs.Syntax.{Syntax, depth_of, most_deep}
use Rattle.ssr_syntax_forms.specs.declared.fault.Fault.{Fault}
use Rattle.ssr_syntax_forms.specs.declared.fault.Fault.TheVariants as faults
use Rattle.ssr_syntax_forms.specs.declared.tokens.Token.{Token}
use Rattle.ssr_syntax_forms.specs.Fitting.{Fits}
use Rattle.ssr_syntax_forms.specs.Forms.{so_far, ◌>>=◌}
use Rattle.ssr_syntax_forms.specs.Levels.{read_goal}
use Rattle.ssr_syntax_forms.specs.Trees.{Forest, done, tree, height}
use Rattle.ssr_syntax_forms.proofs.Shared.{IsShallow, shallow_of, FitsGoal, at_some_level, cut_goals, lower_ranked, complete_goal}
use Rattle.ssr_syntax_types.specs.declared.goals.Goal.{Goal}
use Rattle.ssr_syntax_rows.specs.Lossless.{whole_tree}
use Rattle.ssr_syntax_rows.specs.MacroRules.{misnames_macros}
use Rattle.ssr_syntax_rows.specs.Solid.{begins_solid, pieces, solid_tokens}
use Rattle.ssr_syntax_rows.proofs.Shared.{whole-depth}
use Rattle.ssr_syntax.specs.Grammar.{grammar_of}
use Rattle.ssr_syntax.specs.Reading.{most_high, most_levels, whole, reading, error_of, one_tree, tree_reading, lexed_reading, trimmed, goal_of, fragment_reading_of, FitsTokens, FitsFragmentOf}
use Rattle.ssr_syntax.specs.declared.syntax_error.SyntaxError.{SyntaxError}
use Rattle.ssr_syntax.specs.declared.syntax_error.SyntaxError.TheVariants as errors
use Rattle.ssr_syntax_places.specs.LongTexts.{unless_deep}
use Rattle.ssr_syntax_places.proofs.Tables.{tables}
use Rattle.ssr_syntax_places.proofs.Delimited.{all_kept}

-- ** Forests.

at_level : (reach : Reach) (n : ℕ) (goal : Goal) (ts : List Token) (z : Forest) → FitsGoal (grammar_of reach) n goal z ts []
    → read_goal (grammar_of reach) n goal ts ≡ Ok (so_far z [])
at_level reach n goal ts z f =
    subst (λ w. read_goal (grammar_of reach) n goal w ≡ Ok (so_far z [])) (append-nil ts)
    (complete_goal (tables reach) (grammar_of reach) (λ asked. (all_kept reach asked).keeps) n goal z ts [] f (all_kept reach goal).may_end)

-- what is read at a number of levels is read at each greater one
above : (reach : Reach) (n m : ℕ) (goal : Goal) (ts : List Token) (z : Forest) → n ≤ m → FitsGoal (grammar_of reach) n goal z ts []
    → read_goal (grammar_of reach) m goal ts ≡ Ok (so_far z [])
above reach n m goal ts z le f =
    elim (cut_goals (grammar_of reach) n m le goal ts) [
      | inl e ↦ absurd (cc (at_level reach n goal ts z f, e))
      | inr e ↦ sym e ∙ at_level reach n goal ts z f
    ]

-- the levels that are read are enough for trees that aren't too deep
enough : (reach : Reach) (goal : Goal) (ts : List Token) (z : Forest) (n : ℕ) → FitsGoal (grammar_of reach) n goal z ts [] → IsShallow most_high z
    → FitsGoal (grammar_of reach) most_levels goal z ts []
enough reach goal ts z n f low =
    lower_ranked (grammar_of reach) (tables reach).rank (tables reach).ranks (λ asked. (all_kept reach asked).ranked)
    (λ asked. (all_kept reach asked).covers) n most_levels most_high goal z ts []
    (omega (arith, (all_kept reach goal).ranked)) f low

abbrev IsReadOrDeep : Reach → Goal → List Token → Forest → Type 0
IsReadOrDeep reach goal ts z = (reading reach goal ts ≡ Ok z) ⊎ ((reading reach goal ts ≡ Err faults.TooDeep) × (IsShallow most_high z → ⊥))

complete_at : (reach : Reach) (goal : Goal) (ts : List Token) (z : Forest) (n : ℕ) → FitsGoal (grammar_of reach) n goal z ts []
    → IsReadOrDeep reach goal ts z
unfolding reading
complete_at reach goal ts z n f =
    elim (cut_goals (grammar_of reach) most_levels (n + most_levels) (omega arith) goal ts) [
      | inl e ↦ inr (
        ap (λ w. w >>= whole) e,
        λ low. cc (at_level reach most_levels goal ts z (enough reach goal ts z n f low), e),
      )
      | inr e ↦ inl (ap (λ w. w >>= whole) (e ∙ above reach n (n + most_levels) goal ts z (omega arith) f))
    ]

forest_read : (reach : Reach) (goal : Goal) (ts : List Token) (z : Forest) → Fits (grammar_of reach) (grammar_of reach goal) done z ts []
    → IsReadOrDeep reach goal ts z
forest_read reach goal ts z f = let level = at_some_level (grammar_of reach) goal z ts [] f in complete_at reach goal ts z level.0 level.1

-- ** Trees.

read_as : (reach : Reach) (goal : Goal) (text : List ℕ) (raw : List RawToken) (r : Result Forest Fault) → reading reach goal (solid_tokens raw) ≡ r
    → tree_reading reach goal text raw ≡ elim r [ Ok z ↦ one_tree z (pieces text raw) | Err e ↦ Err (error_of e) ]
read_as reach goal text raw r e = ap (elim [ Ok z ↦ one_tree z (pieces text raw) | Err x ↦ Err (error_of x) ]) e

is_deep : (kind : SyntaxKind) (kids : Forest) (b : Bool) → nat_lt most_deep (height kids) ≡ b → (IsShallow most_high (tree kind kids done) → ⊥)
    → nat_lt most_deep (height kids) ≡ true
is_deep kind kids true e h = e
is_deep kind kids false e h = absurd (h (shallow_of kids most_deep (ltb-false most_deep (height kids) e), tt))

whole_read : (reach : Reach) (goal : Goal) (text : List ℕ) (raw : List RawToken) (kind : SyntaxKind) (kids : Forest)
    → misnames_macros (whole_tree kind kids (pieces text raw)) ≡ false → IsReadOrDeep reach goal (solid_tokens raw) (tree kind kids done)
    → tree_reading reach goal text raw ≡ unless_deep (whole_tree kind kids (pieces text raw))
whole_read reach goal text raw kind kids named (inl e) =
    let s : Syntax = whole_tree kind kids (pieces text raw) in
    read_as reach goal text raw (Ok (tree kind kids done)) e
    ∙ ap (λ b. if nat_lt most_deep (depth_of s) then Err errors.TooDeep else (if b then Err errors.NoTree else Ok s)) named
whole_read reach goal text raw kind kids named (inr deep) =
    let s : Syntax = whole_tree kind kids (pieces text raw) in
    let is : nat_lt most_deep (depth_of s) ≡ true =
    ap (nat_lt most_deep) (whole-depth kind kids (pieces text raw)) ∙ is_deep kind kids (nat_lt most_deep (height kids)) refl deep.1 in
    read_as reach goal text raw (Err faults.TooDeep) deep.0
    ∙ sym (ap (λ b. if b then Err errors.TooDeep else Ok s) is)

tokens_read : (reach : Reach) (goal : Goal) (text : List ℕ) (raw : List RawToken) (s : Syntax) → FitsTokens reach goal text raw s
    → tree_reading reach goal text raw ≡ unless_deep s
tokens_read reach goal text raw s (kind, kids, fits, is, named) =
    whole_read reach goal text raw kind kids (ap misnames_macros (sym is) ∙ named) (forest_read reach goal (solid_tokens raw) (tree kind kids done) fits)
    ∙ ap unless_deep (sym is)

-- ** Texts.

pub fragment_told : (reach : Reach) (fragment : Fragment) (text : List ℕ) (s : Syntax) → length text < 2 ^ 32 → FitsFragmentOf reach fragment text s
    → fragment_reading_of reach fragment text ≡ unless_deep s
unfolding fragment_reading_of
fragment_told reach fragment text s short (raw, lexes, outside, fits) =
    let inner : List ℕ = trimmed text in
    let read : List RawToken → Result Syntax SyntaxError = λ ts. if begins_solid ts && begins_solid (reverse ts) then tree_reading reach (goal_of fragment) inner ts else Err errors.NoTree in
    ap (λ b. if b then lexed_reading read inner else Err errors.TooLong) (lt-ltb (length text) (2 ^ 32) short)
    ∙ ap (elim [ None ↦ Err errors.Lex | Some ts ↦ read ts ]) lexes
    ∙ ap (λ b. if b then tree_reading reach (goal_of fragment) inner raw else Err errors.NoTree) outside
    ∙ tokens_read reach (goal_of fragment) inner raw s fits
