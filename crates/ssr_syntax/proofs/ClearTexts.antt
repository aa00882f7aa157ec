-- The trees of texts have no nodes in a token tree but token trees, and a path's arguments begin with a token that is no
-- identifier.
use Rattle.std.proofs.Common.{◌≡◌, ℕ, true, not, ◌||◌, ◌&&◌, List, [], ◌∷◌, length, refl, sym, ◌∙◌, ap, subst}
use Rattle.std.proofs.lemmas.Bool.{and_parts}
use Rattle.ssr_syntax_kinds.specs.declared.reach.Reach.{Reach}
use Rattle.ssr_syntax_kinds.specs.declared.reach.Reach.TheVariants.{Stated}
use Rattle.ssr_syntax_kinds.specs.declared.kinds.SyntaxKind.{SyntaxKind}
use Rattle.ssr_syntax_kinds.specs.declared.kinds.SyntaxKind.TheVariants.{TOKEN_TREE}
use Rattle.ssr_syntax_kinds.specs.Kinds.{same_kind}
use Rattle.ssr_syntax_lex.specs.declared.tokens.RawToken.{RawToken}
use Rattle.ssr_syntax_tree.specs.Syntax as plain
use Rattle.ssr_syntax_tree.specs.Syntax.{Syntax}
use Rattle.ssr_syntax_tree.specs.ClearPaths.{is_arguments, are_token_trees, begin_with_sign, is_clear, HaveClearPaths, HasClearPaths}
use Rattle.ssr_syntax_kinds.specs.declared.fragment.Fragment.{Fragment}
use Rattle.ssr_syntax_types.specs.declared.goals.Goal.{Goal}
use Rattle.ssr_syntax_forms.specs.Trees as solid
use Rattle.ssr_syntax.specs.Grammar.{grammar_of}
use Rattle.ssr_syntax_rows.specs.Solid.{solid_tokens, pieces}
use Rattle.ssr_syntax_rows.specs.Lossless.{gap, behind_gap, upto, past, before, lossless}
use Rattle.ssr_syntax.specs.Reading.{trimmed, goal_of, FitsTokens, FitsFragment, FitsFragmentOf}
use Rattle.ssr_syntax_forms.proofs.Shared.{at_some_level}
use Rattle.ssr_syntax.proofs.Checks.{goal_clear}
use Rattle.ssr_syntax.proofs.ClearPaths.{are_trees, begins, may_have, AllClear, in_place, both, goals_clear}
use Rattle.ssr_syntax.proofs.IdentTokens.{no_ident}
use Rattle.ssr_syntax.proofs.IdentTexts.{AreTrivia, gap_trivia, whole_of, children_are}

-- ** White space and comments beside siblings.

trees-before : (ts : List plain.Token) (x : plain.Forest) → are_token_trees (before ts x) ≡ are_token_trees x
trees-before [] x = refl
trees-before (t ∷ ts) x = trees-before ts x

clear-before : (ts : List plain.Token) (x : plain.Forest) → HaveClearPaths x → HaveClearPaths (before ts x)
clear-before [] x h = h
clear-before (t ∷ ts) x h = clear-before ts x h

sign-before : (ts : List plain.Token) (x : plain.Forest) → AreTrivia ts → begin_with_sign x ≡ true → begin_with_sign (before ts x) ≡ true
sign-before [] x trivia h = h
sign-before (t ∷ ts) x trivia h = ap not (no_ident t.kind trivia.0)

-- ** The trees with them.

trees-lossless : (f : solid.Forest) (ts : List plain.Token) → are_token_trees (lossless f ts) ≡ are_trees f
trees-lossless solid.done ts = refl
trees-lossless (solid.leaf kind us x) ts = trees-before (gap (length us) ts) _ ∙ trees-lossless x (past (length us) ts)
trees-lossless (solid.tree kind kids x) ts =
    let n = length (solid.spell kids) in
    trees-before (gap n ts) _ ∙ ap (λ b. same_kind kind TOKEN_TREE && b) (trees-lossless x (past n ts))

sign-lossless : (f : solid.Forest) (ts : List plain.Token) → begins f ≡ true → begin_with_sign (lossless f ts) ≡ true
sign-lossless solid.done ts h = cc
sign-lossless (solid.leaf kind us x) ts h = sign-before (gap (length us) ts) _ (gap_trivia (length us) ts) h
sign-lossless (solid.tree kind kids x) ts h = cc

-- a node
clear_node : (kind : SyntaxKind) (kids : solid.Forest) (ts : List plain.Token) → may_have kind kids ≡ true → is_clear kind (lossless kids ts) ≡ true
clear_node kind kids ts h =
    let x = lossless kids ts in
    let b = and_parts (not (same_kind kind TOKEN_TREE) || are_trees kids) (not (is_arguments kind) || begins kids) h in
    both (not (same_kind kind TOKEN_TREE) || are_token_trees x) (not (is_arguments kind) || begin_with_sign x)
    (in_place (not (same_kind kind TOKEN_TREE)) (are_trees kids) (are_token_trees x) b.0 (λ all. trees-lossless kids ts ∙ all))
    (in_place (not (is_arguments kind)) (begins kids) (begin_with_sign x) b.1 (sign-lossless kids ts))

clear-lossless : (f : solid.Forest) (ts : List plain.Token) → AllClear f → HaveClearPaths (lossless f ts)
clear-lossless solid.done ts h = tt
clear-lossless (solid.leaf kind us x) ts h =
    let n = length us in
    let token : plain.Token = record { kind = kind; text = plain.spelled (upto n (behind_gap n ts)) } in
    clear-before (gap n ts) (plain.leaf token (lossless x (past n ts))) (clear-lossless x (past n ts) h)
clear-lossless (solid.tree kind kids x) ts h =
    let n = length (solid.spell kids) in
    clear-before (gap n ts) (plain.branch kind (lossless kids (behind_gap n ts)) (lossless x (past n ts)))
    (clear_node kind kids (behind_gap n ts) h.0, clear-lossless kids (behind_gap n ts) h.1, clear-lossless x (past n ts) h.2)

-- ** A fragment.

solid_clear : (reach : Reach) (goal : Goal) (text : List ℕ) (raw : List RawToken) (s : Syntax) (fits : FitsTokens reach goal text raw s)
    → (may_have fits.0 fits.1 ≡ true) × AllClear fits.1
solid_clear reach goal text raw s (kind, kids, ruled, is, named) =
    let z : solid.Forest = solid.tree kind kids solid.done in
    let level = at_some_level (grammar_of reach) goal z (solid_tokens raw) [] ruled in
    let all = (goals_clear reach (goal_clear reach) level.0 goal z (solid_tokens raw) [] level.1).clear in
    (all.0, all.1)

pub fragment_clear_of : (reach : Reach) (fragment : Fragment) (text : List ℕ) (s : Syntax) → FitsFragmentOf reach fragment text s → HasClearPaths s
fragment_clear_of reach fragment text s (raw, e, outside, fits) =
    let inner : List ℕ = trimmed text in
    let whole = whole_of reach (goal_of fragment) inner raw s fits in
    let clear = solid_clear reach (goal_of fragment) inner raw s fits in
    let ts = pieces inner raw in
    let behind_front = behind_gap (length (solid.spell fits.1)) ts in
    subst HasClearPaths (sym fits.3)
    (subst (λ children. (is_clear fits.0 children ≡ true) × HaveClearPaths children) (sym (children_are inner raw fits.0 fits.1 whole outside))
    (clear_node fits.0 fits.1 behind_front clear.0, clear-lossless fits.1 behind_front clear.1))

-- of the stated language
pub fragment_clear : (fragment : Fragment) (text : List ℕ) (s : Syntax) → FitsFragment fragment text s → HasClearPaths s
fragment_clear fragment text s fits = fragment_clear_of Stated fragment text s fits
