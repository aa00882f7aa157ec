-- Expressions with commas between them fit a list of them.
use Rattle.std.proofs.Common.{◌≡◌, ◌-◌, nat_eq, Bool, true, false, not, if◌then◌else◌, List, [], ◌∷◌, ◌++◌, length, refl, sym, ap, subst, ◌∙◌, append_assoc}
use Rattle.std.proofs.lemmas.List.{append-nil}
use Rattle.std.proofs.lemmas.Bool.{and_parts}
use Rattle.ssr_syntax_kinds.specs.declared.kinds.SyntaxKind.{SyntaxKind}
use Rattle.ssr_syntax_kinds.specs.declared.kinds.SyntaxKind.TheVariants as k
use Rattle.ssr_syntax_kinds.specs.Reach.{is_whole}
use Rattle.ssr_syntax_kinds.specs.declared.reach.Reach.{Reach}
use Rattle.ssr_syntax_forms.specs.declared.tokens.Token.{Token}
use Rattle.ssr_syntax_forms.specs.Kinds.{mem, where_whole}
use Rattle.ssr_syntax_forms.specs.Trees.{Forest, done, leaf, tree, join}
use Rattle.ssr_syntax_forms.specs.Forms.{Form, next, at, a, child, seal, ◌then◌, look, comma, comma_list, comma_list_by, many}
use Rattle.ssr_syntax_forms.proofs.Shared.{apart, at_next, meets}
use Rattle.ssr_syntax_types.specs.declared.goals.Goal.{Goal}
use Rattle.ssr_syntax_types.specs.declared.goals.Goal.TheVariants.{Expr}
use Rattle.ssr_syntax_types.specs.declared.goals.ExprPlace.TheVariants.{Anywhere}
use Rattle.ssr_syntax_types.specs.Literals.{literals}
use Rattle.ssr_syntax_types.specs.Paths.{path_first}
use Rattle.ssr_syntax_types.specs.PatternSets.{ranges}
use Rattle.ssr_syntax_exprs.specs.Atoms.{expr_first, operand_first, braceless_first, operand_marks, stated_marks, leaving_first}
use Rattle.ssr_syntax_exprs.specs.Blocks.{block_words, stated_block_words}
use Rattle.ssr_syntax_exprs.specs.Expressions.{arg_list}
use Rattle.ssr_syntax.specs.Grammar.{grammar}
use Rattle.ssr_syntax_places.specs.Standing.{node, is_token, token_leaf, AreArguments, no_more, last, more, between, bracketed}
use Rattle.ssr_syntax_places.proofs.InReach.{FitsIn, token_in, child_in, seal_in, then_in, then_still, first_in, second_in, look_in, either_in, stop_in, turn_in}

-- ** Forests side by side.

pub join-done : (x : Forest) → join x done ≡ x
join-done done = refl
join-done (leaf kind us x) = ap (leaf kind us) (join-done x)
join-done (tree kind kids x) = ap (tree kind kids) (join-done x)

pub join_assoc : (x y z : Forest) → join (join x y) z ≡ join x (join y z)
join_assoc done y z = refl
join_assoc (leaf kind us x) y z = ap (leaf kind us) (join_assoc x y z)
join_assoc (tree kind kids x) y z = ap (tree kind kids) (join_assoc x y z)

-- ** The list. What may stand in it begins with one of some kinds, and the bracket behind it isn't one of these.

-- what is asked of a list: nothing that may begin an expression is a bracket that closes
abbrev NoneBegins : List SyntaxKind → List Token → Type 0
NoneBegins begin closing = (rest : List Token) → mem (next (closing ++ rest)) begin ≡ false

one_fits : (b : Bool) (begin : List SyntaxKind) (x z : Forest) (us closing rest : List Token) → NoneBegins begin closing
    → FitsIn b grammar (grammar (Expr Anywhere)) done z us (closing ++ rest)
    → FitsIn b grammar (comma_list begin (child (Expr Anywhere))) x (join x z) us (closing ++ rest)
unfolding comma_list
one_fits b begin x z us closing rest none f =
    let item : Form Goal = child (Expr Anywhere) then comma begin in
    subst (λ w. FitsIn b grammar (many (at begin) item) x (join x z) w (closing ++ rest)) (append-nil us)
    (turn_in b grammar (at begin) item x (join x z) (join x z) us [] (closing ++ rest)
    (then_still b grammar (child (Expr Anywhere)) (comma begin) x (join x z) (join x z) us (closing ++ rest)
    (child_in b grammar (Expr Anywhere) x z us (closing ++ rest) f)
    (second_in b grammar (at (k.COMMA ∷ [])) (a k.COMMA) (look false (at begin)) (join x z) (join x z) [] (closing ++ rest)
    (look_in b grammar false (at begin) (join x z) (closing ++ rest) (ap not (at_next begin (closing ++ rest) ∙ none rest)))))
    (stop_in b grammar (at begin) item (join x z) (closing ++ rest)))

-- one in front of others
more_fit : (b : Bool) (begin : List SyntaxKind) (x z y : Forest) (us separator vs rest : List Token) → is_token (k.COMMA ∷ []) separator ≡ true
    → FitsIn b grammar (grammar (Expr Anywhere)) done z us (separator ++ (vs ++ rest))
    → FitsIn b grammar (comma_list begin (child (Expr Anywhere))) (join (join x z) (token_leaf separator)) y vs rest
    → FitsIn b grammar (comma_list begin (child (Expr Anywhere))) x y (us ++ (separator ++ vs)) rest
unfolding comma_list
more_fit b begin x z y us separator vs rest is f others =
    let item : Form Goal = child (Expr Anywhere) then comma begin in
    let made : Forest = join (join x z) (token_leaf separator) in
    subst (λ w. FitsIn b grammar (many (at begin) item) x y w rest) (append_assoc us separator vs)
    (turn_in b grammar (at begin) item x made y (us ++ separator) vs rest
    (then_in b grammar (child (Expr Anywhere)) (comma begin) x (join x z) made us separator (vs ++ rest)
    (child_in b grammar (Expr Anywhere) x z us (separator ++ (vs ++ rest)) f)
    (first_in b grammar (at (k.COMMA ∷ [])) (a k.COMMA) (look false (at begin)) (join x z) made separator (vs ++ rest)
    (token_in b grammar (k.COMMA ∷ []) (join x z) separator (vs ++ rest) is)))
    others)

arguments_fit : (reach : Reach) (begin : List SyntaxKind) (closing : List Token) (y : Forest) (vs : List Token) → NoneBegins begin closing
    → AreArguments reach closing y vs → (x : Forest) (rest : List Token)
    → FitsIn (is_whole reach) grammar (comma_list begin (child (Expr Anywhere))) x (join x y) vs (closing ++ rest)
unfolding comma_list
arguments_fit reach begin closing y vs none no_more x rest =
    subst (λ w. FitsIn (is_whole reach) grammar (comma_list begin (child (Expr Anywhere))) x w [] (closing ++ rest)) (sym (join-done x))
    (stop_in (is_whole reach) grammar (at begin) (child (Expr Anywhere) then comma begin) x (closing ++ rest))
arguments_fit reach begin closing y vs none (last stands) x rest = one_fits (is_whole reach) begin x y vs closing rest none (stands rest)
arguments_fit reach begin closing _ _ none (more {z = z} {y = y} {us = us} {vs = vs} separator is stands others) x rest =
    let b : Bool = is_whole reach in
    let made : Forest = join (join x z) (token_leaf separator) in
    let same : join made y ≡ join x (join (join z (token_leaf separator)) y) =
    ap (λ w. join w y) (join_assoc x z (token_leaf separator)) ∙ join_assoc x (join z (token_leaf separator)) y in
    subst (λ w. FitsIn b grammar (comma_list begin (child (Expr Anywhere))) x w (us ++ (separator ++ vs)) (closing ++ rest)) same
    (more_fit b begin x z (join made y) us separator vs (closing ++ rest) is (stands (vs ++ (closing ++ rest)))
    (arguments_fit reach begin closing y vs none others made rest))

-- ** In brackets.

closes_none : (kind : SyntaxKind) (begin : List SyntaxKind) → meets (kind ∷ []) begin ≡ false → (closing : List Token)
    → is_token (kind ∷ []) closing ≡ true → NoneBegins begin closing
closes_none kind begin apart_from [] is rest = absurd (cc)
closes_none kind begin apart_from (t ∷ us) is rest =
    apart t.joined (kind ∷ []) begin apart_from (and_parts (mem t.joined (kind ∷ [])) (nat_eq (t.size - 1) (length us)) is).0

parenthesis_apart : (b : Bool) → meets (k.R_PAREN ∷ []) (expr_first b) ≡ false
unfolding expr_first ranges literals operand_first braceless_first path_first block_words stated_block_words operand_marks stated_marks where_whole leaving_first
parenthesis_apart true = refl
parenthesis_apart false = refl

bracket_apart : (b : Bool) → meets (k.R_BRACK ∷ []) (expr_first b) ≡ false
unfolding expr_first ranges literals operand_first braceless_first path_first block_words stated_block_words operand_marks stated_marks where_whole leaving_first
bracket_apart true = refl
bracket_apart false = refl

listed : (reach : Reach) (closing : List Token) (y : Forest) (vs : List Token) → ((b : Bool) → NoneBegins (expr_first b) closing)
    → AreArguments reach closing y vs → (x : Forest) (rest : List Token)
    → FitsIn (is_whole reach) grammar (comma_list_by expr_first (child (Expr Anywhere))) x (join x y) vs (closing ++ rest)
unfolding comma_list_by
listed reach closing y vs none are x rest =
    either_in (is_whole reach) grammar (comma_list (expr_first true) (child (Expr Anywhere))) (comma_list (expr_first false) (child (Expr Anywhere))) x (join x y) vs (closing ++ rest)
    (arguments_fit reach (expr_first true) closing y vs (none true) are x rest)
    (arguments_fit reach (expr_first false) closing y vs (none false) are x rest)

pub in_parentheses : (reach : Reach) (closing : List Token) (y : Forest) (vs : List Token) → is_token (k.R_PAREN ∷ []) closing ≡ true
    → AreArguments reach closing y vs → (x : Forest) (rest : List Token)
    → FitsIn (is_whole reach) grammar (comma_list_by expr_first (child (Expr Anywhere))) x (join x y) vs (closing ++ rest)
in_parentheses reach closing y vs is = listed reach closing y vs (λ b. closes_none k.R_PAREN (expr_first b) (parenthesis_apart b) closing is)

pub in_square_brackets : (reach : Reach) (closing : List Token) (y : Forest) (vs : List Token) → is_token (k.R_BRACK ∷ []) closing ≡ true
    → AreArguments reach closing y vs → (x : Forest) (rest : List Token)
    → FitsIn (is_whole reach) grammar (comma_list_by expr_first (child (Expr Anywhere))) x (join x y) vs (closing ++ rest)
in_square_brackets reach closing y vs is = listed reach closing y vs (λ b. closes_none k.R_BRACK (expr_first b) (bracket_apart b) closing is)

-- ** The arguments of a call.

pub arg_list_fits : (reach : Reach) (opening closing : List Token) (y : Forest) (vs rest : List Token) → is_token (k.L_PAREN ∷ []) opening ≡ true
    → is_token (k.R_PAREN ∷ []) closing ≡ true → AreArguments reach closing y vs
    → FitsIn (is_whole reach) grammar arg_list done (bracketed k.ARG_LIST opening y closing) (between opening vs closing) rest
unfolding arg_list
arg_list_fits reach opening closing y vs rest opens closes are =
    let b : Bool = is_whole reach in
    let front : Forest = token_leaf opening in
    let made : Forest = join (join front y) (token_leaf closing) in
    let args : Form Goal = comma_list_by expr_first (child (Expr Anywhere)) in
    then_in b grammar (a k.L_PAREN) (args then a k.R_PAREN then seal k.ARG_LIST) done front (node k.ARG_LIST made) opening (vs ++ closing) rest
    (token_in b grammar (k.L_PAREN ∷ []) done opening ((vs ++ closing) ++ rest) opens)
    (then_in b grammar args (a k.R_PAREN then seal k.ARG_LIST) front (join front y) (node k.ARG_LIST made) vs closing rest
    (in_parentheses reach closing y vs closes are front rest)
    (then_still b grammar (a k.R_PAREN) (seal k.ARG_LIST) (join front y) made (node k.ARG_LIST made) closing rest
    (token_in b grammar (k.R_PAREN ∷ []) (join front y) closing rest closes) (seal_in b grammar k.ARG_LIST made rest)))
