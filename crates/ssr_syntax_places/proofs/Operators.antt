-- Operators in front of an operand, and between two, make an expression of operands that bind tightly enough.
use Rattle.std.proofs.Common.{◌≡◌, ℕ, zero, suc, ◌+◌, ◌-◌, ◌<◌, ◌≤◌, nat_eq, Bool, true, false, ◌&&◌, List, [], ◌∷◌, ◌++◌, length, refl, sym, subst, arith}
use Rattle.std.proofs.lemmas.Bool.{and_parts}
use Rattle.ssr_syntax_kinds.specs.declared.kinds.SyntaxKind.{SyntaxKind}
use Rattle.ssr_syntax_kinds.specs.declared.kinds.SyntaxKind.TheVariants as k
use Rattle.ssr_syntax_kinds.specs.Reach.{is_whole}
use Rattle.ssr_syntax_kinds.specs.declared.reach.Reach.{Reach}
use Rattle.ssr_syntax_forms.specs.declared.tokens.Token.{Token}
use Rattle.ssr_syntax_forms.specs.Kinds.{mem, where_whole}
use Rattle.ssr_syntax_forms.specs.Trees.{Forest, done, leaf, join}
use Rattle.ssr_syntax_forms.specs.Forms.{passes, at, a, any, part, mark, child, seal, ◌then◌, nothing, optional}
use Rattle.ssr_syntax_forms.proofs.Shared.{every, apart}
use Rattle.ssr_syntax_types.specs.declared.goals.Goal.TheVariants.{Operand, Unary}
use Rattle.ssr_syntax_types.specs.declared.goals.ExprPlace.TheVariants.{Anywhere}
use Rattle.ssr_syntax_types.specs.Literals.{literals}
use Rattle.ssr_syntax_types.specs.Paths.{path_first}
use Rattle.ssr_syntax_types.specs.Types.{ampersands}
use Rattle.ssr_syntax_exprs.specs.Atoms.{operand_first, braceless_first, operand_marks, stated_marks, leaving_first}
use Rattle.ssr_syntax_exprs.specs.Blocks.{block_words, stated_block_words}
use Rattle.ssr_syntax_exprs.specs.Expressions.{prefix_operators, prefix_expr, ref_expr, ref_words, raw_ahead, raw_words, attributed_or_postfix, unary, ranks, row, operators, at_most, operation, operations, climb, operand}
use Rattle.ssr_syntax.specs.Grammar.{grammar}
use Rattle.ssr_syntax_places.specs.Standing.{node, is_token, token_leaf, level, begins_operand, Stands}
use Rattle.ssr_syntax_places.proofs.InReach.{FitsIn, token_in, part_in, child_in, mark_in, seal_in, then_in, then_still, nothing_in, first_in, second_in, also_decide_in, turns_go_on_in, last_goes_on_in}
use Rattle.ssr_syntax_places.proofs.Following.{begins_plainly, begins_with, begins_at, begins_behind, goes_behind, no_raw, token_follows}

-- ** In front.

prefix_fits : (b : Bool) (y : Forest) (op us rest : List Token) → is_token prefix_operators op ≡ true → FitsIn b grammar (level 2) done y us rest
    → FitsIn b grammar (level 2) done (node k.PREFIX_EXPR (join (token_leaf op) y)) (op ++ us) rest
unfolding level unary prefix_expr grammar
prefix_fits b y op us rest is f =
    let made : Forest = join (token_leaf op) y in
    second_in b grammar (at ampersands) (mark (ref_expr Anywhere)) _ done (node k.PREFIX_EXPR made) (op ++ us) rest
    (first_in b grammar (at prefix_operators) (mark (prefix_expr Anywhere)) (attributed_or_postfix Anywhere) done (node k.PREFIX_EXPR made) (op ++ us) rest
    (mark_in b grammar (prefix_expr Anywhere) done (node k.PREFIX_EXPR made) (op ++ us) rest
    (then_in b grammar (any prefix_operators) (child (Unary Anywhere) then seal k.PREFIX_EXPR) done (token_leaf op) (node k.PREFIX_EXPR made) op us rest
    (token_in b grammar prefix_operators done op (us ++ rest) is)
    (then_still b grammar (child (Unary Anywhere)) (seal k.PREFIX_EXPR) (token_leaf op) made (node k.PREFIX_EXPR made) us rest
    (child_in b grammar (Unary Anywhere) (token_leaf op) y us rest f) (seal_in b grammar k.PREFIX_EXPR made rest)))))

prefixes_begin : (b : Bool) → every (begins_plainly b) prefix_operators ≡ true
unfolding literals operand_first braceless_first path_first block_words stated_block_words operand_marks stated_marks where_whole leaving_first
prefixes_begin true = refl
prefixes_begin false = refl

pub prefix_stands : (reach : Reach) (callable : Bool) (y : Forest) (op us : List Token) → is_token prefix_operators op ≡ true
    → Stands reach 2 callable y us → Stands reach 2 callable (node k.PREFIX_EXPR (join (token_leaf op) y)) (op ++ us)
prefix_stands reach callable y op us is stands = record {
  fits = λ rest may. prefix_fits (is_whole reach) y op us rest is (stands.fits rest may);
  begins = λ rest may. begins_with (is_whole reach) prefix_operators op us rest (prefixes_begin (is_whole reach)) is;
}

-- ** References. Of `&&`, the first one alone is taken.

-- what a reference is made of: the `&`, and what stands between it and the operand
abbrev reference : Token → Forest → Forest → Forest
reference t words y = node k.REF_EXPR (join (join (leaf t.kind (t ∷ []) done) words) y)

abbrev is_ampersand : Token → Bool
is_ampersand t = mem t.joined ampersands && mem t.kind ampersands

ref_fits : (b : Bool) (y words : Forest) (t : Token) (ws us rest : List Token) → is_ampersand t ≡ true
    → FitsIn b grammar ref_words (leaf t.kind (t ∷ []) done) (join (leaf t.kind (t ∷ []) done) words) ws (us ++ rest)
    → FitsIn b grammar (level 2) done y us rest → FitsIn b grammar (level 2) done (reference t words y) (t ∷ (ws ++ us)) rest
unfolding level unary ref_expr grammar
ref_fits b y words t ws us rest is words_fit f =
    let front : Forest = leaf t.kind (t ∷ []) done in
    let made : Forest = join (join front words) y in
    first_in b grammar (at ampersands) (mark (ref_expr Anywhere)) _ done (node k.REF_EXPR made) (t ∷ (ws ++ us)) rest
    (mark_in b grammar (ref_expr Anywhere) done (node k.REF_EXPR made) (t ∷ (ws ++ us)) rest
    (then_in b grammar (part ampersands) (ref_words then child (Unary Anywhere) then seal k.REF_EXPR) done front (node k.REF_EXPR made) (t ∷ []) (ws ++ us) rest
    (part_in b grammar ampersands done t ((ws ++ us) ++ rest) is)
    (then_in b grammar ref_words (child (Unary Anywhere) then seal k.REF_EXPR) front (join front words) (node k.REF_EXPR made) ws us rest words_fit
    (then_still b grammar (child (Unary Anywhere)) (seal k.REF_EXPR) (join front words) made (node k.REF_EXPR made) us rest
    (child_in b grammar (Unary Anywhere) (join front words) y us rest f) (seal_in b grammar k.REF_EXPR made rest)))))

no_words : (b : Bool) (x : Forest) (ts : List Token) → begins_operand b ts ≡ true → FitsIn b grammar ref_words x x [] ts
unfolding ref_words
no_words b x ts begins =
    also_decide_in b grammar raw_ahead raw_words (optional (k.MUT_KW ∷ []) (a k.MUT_KW)) x x [] ts (no_raw b ts begins)
    (second_in b grammar (at (k.MUT_KW ∷ [])) (a k.MUT_KW) nothing x x [] ts (nothing_in b grammar x ts))

mut_is_no_raw : (ws ts : List Token) → is_token (k.MUT_KW ∷ []) ws ≡ true → passes raw_ahead (ws ++ ts) ≡ false
mut_is_no_raw [] ts is = absurd (cc)
mut_is_no_raw (t ∷ ws) ts is =
    let other = apart t.joined (k.MUT_KW ∷ []) (k.IDENT ∷ []) refl (and_parts (mem t.joined (k.MUT_KW ∷ [])) (nat_eq (t.size - 1) (length ws)) is).0 in
    rw other refl

mut_word : (b : Bool) (x : Forest) (ws ts : List Token) → is_token (k.MUT_KW ∷ []) ws ≡ true → FitsIn b grammar ref_words x (join x (token_leaf ws)) ws ts
unfolding ref_words
mut_word b x ws ts is =
    also_decide_in b grammar raw_ahead raw_words (optional (k.MUT_KW ∷ []) (a k.MUT_KW)) x (join x (token_leaf ws)) ws ts (mut_is_no_raw ws ts is)
    (first_in b grammar (at (k.MUT_KW ∷ [])) (a k.MUT_KW) nothing x (join x (token_leaf ws)) ws ts (token_in b grammar (k.MUT_KW ∷ []) x ws ts is))

ampersands_begin : (b : Bool) → every (begins_plainly b) ampersands ≡ true
unfolding literals operand_first braceless_first path_first block_words stated_block_words operand_marks stated_marks where_whole leaving_first
ampersands_begin true = refl
ampersands_begin false = refl

begun_by_ampersand : (b : Bool) (t : Token) (rest : List Token) → is_ampersand t ≡ true → begins_operand b (t ∷ rest) ≡ true
begun_by_ampersand b t rest is =
    begins_at b ampersands t rest (ampersands_begin b) (and_parts (mem t.joined ampersands) (mem t.kind ampersands) is).0

pub reference_stands : (reach : Reach) (callable : Bool) (y : Forest) (t : Token) (us : List Token) → is_ampersand t ≡ true
    → Stands reach 2 callable y us → Stands reach 2 callable (node k.REF_EXPR (leaf t.kind (t ∷ []) y)) (t ∷ us)
reference_stands reach callable y t us is stands = record {
  fits = λ rest may. ref_fits (is_whole reach) y done t [] us rest is
      (no_words (is_whole reach) (leaf t.kind (t ∷ []) done) (us ++ rest) (stands.begins rest may)) (stands.fits rest may);
  begins = λ rest may. begun_by_ampersand (is_whole reach) t (us ++ rest) is;
}

pub mut_reference_stands : (reach : Reach) (callable : Bool) (y : Forest) (t : Token) (ws us : List Token) → is_ampersand t ≡ true
    → is_token (k.MUT_KW ∷ []) ws ≡ true → Stands reach 2 callable y us
    → Stands reach 2 callable (node k.REF_EXPR (leaf t.kind (t ∷ []) (join (token_leaf ws) y))) (t ∷ (ws ++ us))
mut_reference_stands reach callable y t ws us is is_mut stands = record {
  fits = λ rest may. ref_fits (is_whole reach) y (token_leaf ws) t ws us rest is
      (mut_word (is_whole reach) (leaf t.kind (t ∷ []) done) ws (us ++ rest) is_mut) (stands.fits rest may);
  begins = λ rest may. begun_by_ampersand (is_whole reach) t ((ws ++ us) ++ rest) is;
}

-- ** Between two operands.

all_rows : (SyntaxKind → Bool) → List (List SyntaxKind) → Bool
all_rows p [] = true
all_rows p (ks ∷ rows) = every p ks && all_rows p rows

every_in_row : (p : SyntaxKind → Bool) (r : ℕ) (rows : List (List SyntaxKind)) → all_rows p rows ≡ true → every p (row r rows) ≡ true
unfolding all_rows
every_in_row p r [] all = refl
every_in_row p zero (ks ∷ rows) all = (and_parts (every p ks) (all_rows p rows) all).0
every_in_row p (suc r) (ks ∷ rows) all = every_in_row p r rows (and_parts (every p ks) (all_rows p rows) all).1

operators_follow : (r : ℕ) → every goes_behind (operators r) ≡ true
unfolding operators all_rows
operators_follow r = every_in_row goes_behind r ranks refl

few_rows : (r : ℕ) (rows : List (List SyntaxKind)) → r ≤ length rows → r ≡ at_most r rows
few_rows zero [] h = refl
few_rows (suc r) [] h = absurd (omega (arith, h))
few_rows zero (ks ∷ rows) h = refl
few_rows (suc r) (ks ∷ rows) h = omega (arith, few_rows r rows (omega (arith, h)))

as_goal : (b : Bool) (r : ℕ) (y : Forest) (vs rest : List Token) → r ≤ length ranks → FitsIn b grammar (level (suc (suc (suc r)))) done y vs rest
    → FitsIn b grammar (grammar (Operand Anywhere r)) done y vs rest
unfolding level grammar
as_goal b r y vs rest few f = subst (λ n. FitsIn b grammar (operand Anywhere n) done y vs rest) (few_rows r ranks few) f

operation_fits : (b : Bool) (r : ℕ) (x y : Forest) (op vs rest : List Token) → is_token (operators r) op ≡ true
    → FitsIn b grammar (grammar (Operand Anywhere r)) done y vs rest
    → FitsIn b grammar (operation Anywhere r) x (node k.BIN_EXPR (join (join x (token_leaf op)) y)) (op ++ vs) rest
unfolding operation
operation_fits b r x y op vs rest is f =
    let front : Forest = join x (token_leaf op) in
    then_in b grammar (any (operators r)) (child (Operand Anywhere r) then seal k.BIN_EXPR) x front (node k.BIN_EXPR (join front y)) op vs rest
    (token_in b grammar (operators r) x op (vs ++ rest) is)
    (then_still b grammar (child (Operand Anywhere r)) (seal k.BIN_EXPR) front (join front y) (node k.BIN_EXPR (join front y)) vs rest
    (child_in b grammar (Operand Anywhere r) front y vs rest f) (seal_in b grammar k.BIN_EXPR (join front y) rest))

one_operation_more : (b : Bool) (r : ℕ) (x z : Forest) (us vs rest : List Token) → FitsIn b grammar (level (suc (suc (suc (suc r))))) done x us (vs ++ rest)
    → FitsIn b grammar (operation Anywhere r) x z vs rest → FitsIn b grammar (level (suc (suc (suc (suc r))))) done z (us ++ vs) rest
unfolding level operand climb operations
one_operation_more b r x z us vs rest f step =
    last_goes_on_in b grammar (unary Anywhere) (climb Anywhere (suc r)) (operation Anywhere r)
    (last_goes_on_in b grammar (climb Anywhere r) (operations Anywhere r) (operation Anywhere r)
    (turns_go_on_in b grammar (at (operators r)) (operation Anywhere r)))
    done x z us (vs ++ rest) vs rest f refl step

binary_by_rank : (reach : Reach) (r : ℕ) (called callable : Bool) (x y : Forest) (us op vs : List Token) → r ≤ length ranks
    → is_token (operators r) op ≡ true → Stands reach (suc (suc (suc (suc r)))) called x us → Stands reach (suc (suc (suc r))) callable y vs
    → Stands reach (suc (suc (suc (suc r)))) callable (node k.BIN_EXPR (join (join x (token_leaf op)) y)) (us ++ (op ++ vs))
binary_by_rank reach r called callable x y us op vs few is left right = record {
  fits = λ rest may. one_operation_more (is_whole reach) r x (node k.BIN_EXPR (join (join x (token_leaf op)) y)) us (op ++ vs) rest
      (left.fits ((op ++ vs) ++ rest) (token_follows called (operators r) op vs rest (operators_follow r) is))
      (operation_fits (is_whole reach) r x y op vs rest is (as_goal (is_whole reach) r y vs rest few (right.fits rest may)));
  begins = λ rest may. begins_behind reach (suc (suc (suc (suc r)))) called x us (op ++ vs) rest left
      (token_follows called (operators r) op vs rest (operators_follow r) is);
}

pub binary_stands : (reach : Reach) (r : ℕ) (called callable : Bool) (x y : Forest) (us op vs : List Token) → r < length ranks
    → is_token (operators r) op ≡ true → Stands reach (4 + r) called x us → Stands reach (3 + r) callable y vs
    → Stands reach (4 + r) callable (node k.BIN_EXPR (join (join x (token_leaf op)) y)) (us ++ (op ++ vs))
binary_stands reach r called callable x y us op vs few is left right =
    let four : 4 + r ≡ suc (suc (suc (suc r))) = omega arith in
    let three : 3 + r ≡ suc (suc (suc r)) = omega arith in
    subst (λ n. Stands reach n callable (node k.BIN_EXPR (join (join x (token_leaf op)) y)) (us ++ (op ++ vs))) (sym four)
    (binary_by_rank reach r called callable x y us op vs (omega (arith, few)) is (subst (λ n. Stands reach n called x us) four left)
    (subst (λ n. Stands reach n callable y vs) three right))
