-- Names, and paths of them, stand wherever an expression does.
use Rattle.std.proofs.Common.{◌≡◌, ◌-◌, nat_eq, Bool, true, false, not, ◌&&◌, ◌||◌, List, [], ◌∷◌, ◌++◌, length, drop, refl, ap, ◌∙◌, eqb-true, append_assoc}
use Rattle.std.proofs.lemmas.Bool.{and_from, and_left, and_parts, and_right, or_from, or_parts, not-true}
use Rattle.ssr_syntax_kinds.specs.declared.kinds.SyntaxKind.{SyntaxKind}
use Rattle.ssr_syntax_kinds.specs.declared.kinds.SyntaxKind.TheVariants as k
use Rattle.ssr_syntax_kinds.specs.Kinds.{same_kind}
use Rattle.ssr_syntax_kinds.specs.Reach.{is_whole}
use Rattle.ssr_syntax_kinds.specs.declared.reach.Reach.{Reach}
use Rattle.ssr_syntax_forms.specs.declared.tokens.Token.{Token}
use Rattle.ssr_syntax_forms.specs.Kinds.{mem, where_whole}
use Rattle.ssr_syntax_forms.specs.Trees.{Forest, done, join}
use Rattle.ssr_syntax_forms.specs.Forms.{Form, next, are_next, passes, any, at, mark, seal, ◌then◌, look, child, nothing, a, optional, as_long_as, many}
use Rattle.ssr_syntax_forms.proofs.Shared.{apart, every, every_mem, at_next}
use Rattle.ssr_syntax_types.specs.declared.goals.Goal.{Goal}
use Rattle.ssr_syntax_types.specs.declared.goals.Goal.TheVariants.{GenericArgs}
use Rattle.ssr_syntax_types.specs.declared.goals.ExprPlace.TheVariants.{Anywhere}
use Rattle.ssr_syntax_types.specs.declared.goals.PathPlace.TheVariants.{InExpr}
use Rattle.ssr_syntax_types.specs.Literals.{literals}
use Rattle.ssr_syntax_types.specs.Paths.{path_names, path_first, path_name, path, path_segment, shortest_path, plain_path, first_segment, generics, expr_generics, colon_angle, longer_path, anchored_path, open_angle}
use Rattle.ssr_syntax_types.specs.Types.{pointer_words}
use Rattle.ssr_syntax_exprs.specs.Atoms.{path_expr, macro_expr, path_or_record, record_expr, operand_first, async_closure_ahead, braceless_first, operand_marks, stated_marks, leaving_first}
use Rattle.ssr_syntax_exprs.specs.Blocks.{block_words, stated_block_words}
use Rattle.ssr_syntax_exprs.specs.Expressions.{atom, raw_ahead}
use Rattle.ssr_syntax.specs.Grammar.{grammar}
use Rattle.ssr_syntax_places.specs.Standing.{node, is_token, token_leaf, segment, IsPath, one, longer, level, begins_operand, Stands}
use Rattle.ssr_syntax_places.proofs.InReach.{FitsIn, token_in, mark_in, seal_in, then_in, then_still, then_more_in, nothing_in, first_in, second_in, look_in, undecided_in, stop_in, turns_go_on_in, last_goes_on_in}
use Rattle.ssr_syntax_places.proofs.Following.{follows_called}

-- ** What may not follow a name.

no_word : (kind : SyntaxKind) → not (mem kind (k.COLON2 ∷ k.CONST_KW ∷ k.MUT_KW ∷ [])) ≡ true
    → (mem kind (k.COLON2 ∷ []) ≡ false) × (mem kind (k.CONST_KW ∷ k.MUT_KW ∷ []) ≡ false)
no_word kind is =
    let all = not-true (mem kind (k.COLON2 ∷ k.CONST_KW ∷ k.MUT_KW ∷ [])) is in
    let halves = or_parts (same_kind kind k.COLON2) (mem kind (k.CONST_KW ∷ k.MUT_KW ∷ [])) all in
    (ap (λ x. x || false) halves.0, halves.1)

no_generics : (rest : List Token) → mem (next rest) (k.COLON2 ∷ []) ≡ false → passes colon_angle rest ≡ false
no_generics [] none = refl
no_generics (t ∷ rest) none = rw none refl

-- the tokens behind one that is taken whole
behind_whole : (t : Token) (us rest : List Token) → t.size - 1 ≡ length us → drop (t.size - 1) (us ++ rest) ≡ rest
behind_whole t us rest size = ap (λ n. drop n (us ++ rest)) size ∙ drop_all us rest
  where
    drop_all : (us rest : List Token) → drop (length us) (us ++ rest) ≡ rest
    drop_all [] rest = refl
    drop_all (t ∷ us) rest = drop_all us rest

-- `::` and a name
no_angle : (name rest : List Token) → is_token path_names name ≡ true → are_next (open_angle ∷ []) (name ++ rest) ≡ false
no_angle [] rest is = absurd (cc)
no_angle (t ∷ us) rest is =
    and_left (mem t.joined open_angle) true
    (apart t.joined path_names open_angle refl (and_parts (mem t.joined path_names) (nat_eq (t.size - 1) (length us)) is).0)

colons_then_name : (colons name rest : List Token) → is_token (k.COLON2 ∷ []) colons ≡ true → is_token path_names name ≡ true
    → passes colon_angle ((colons ++ name) ++ rest) ≡ false
colons_then_name [] name rest is_colons is_name = absurd (cc)
colons_then_name (t ∷ us) name rest is_colons is_name =
    let size = eqb-true (t.size - 1) (length us) (and_parts (mem t.joined (k.COLON2 ∷ [])) (nat_eq (t.size - 1) (length us)) is_colons).1 in
    let last : are_next (open_angle ∷ []) (drop (t.size - 1) ((us ++ name) ++ rest)) ≡ false =
    ap (λ w. are_next (open_angle ∷ []) (drop (t.size - 1) w)) (append_assoc us name rest)
    ∙ ap (are_next (open_angle ∷ [])) (behind_whole t us (name ++ rest) size) ∙ no_angle name rest is_name in
    or_from (mem t.joined (k.COLON2 ∷ []) && are_next (open_angle ∷ []) (drop (t.size - 1) ((us ++ name) ++ rest))) false
    (and_right (mem t.joined (k.COLON2 ∷ [])) (are_next (open_angle ∷ []) (drop (t.size - 1) ((us ++ name) ++ rest))) last) refl

colons_pass : (colons name rest : List Token) → is_token (k.COLON2 ∷ []) colons ≡ true → passes (at (k.COLON2 ∷ [])) ((colons ++ name) ++ rest) ≡ true
colons_pass [] name rest is = absurd (cc)
colons_pass (t ∷ us) name rest is =
    at_next (k.COLON2 ∷ []) (t ∷ ((us ++ name) ++ rest)) ∙ (and_parts (mem t.joined (k.COLON2 ∷ [])) (nat_eq (t.size - 1) (length us)) is).0

colons_no_word : (colons name rest : List Token) → is_token (k.COLON2 ∷ []) colons ≡ true
    → mem (next ((colons ++ name) ++ rest)) (k.CONST_KW ∷ k.MUT_KW ∷ []) ≡ false
colons_no_word [] name rest is = absurd (cc)
colons_no_word (t ∷ us) name rest is =
    apart t.joined (k.COLON2 ∷ []) (k.CONST_KW ∷ k.MUT_KW ∷ []) refl (and_parts (mem t.joined (k.COLON2 ∷ [])) (nat_eq (t.size - 1) (length us)) is).0

-- ** Segments.

name_fits : (b : Bool) (us rest : List Token) → is_token path_names us ≡ true → FitsIn b grammar path_name done (node k.NAME_REF (token_leaf us)) us rest
unfolding path_name
name_fits b us rest is =
    then_still b grammar (any path_names) (seal k.NAME_REF) done (token_leaf us) (node k.NAME_REF (token_leaf us)) us rest
    (token_in b grammar path_names done us rest is) (seal_in b grammar k.NAME_REF (token_leaf us) rest)

segment_fits : (b : Bool) (us rest : List Token) → is_token path_names us ≡ true → passes colon_angle rest ≡ false
    → FitsIn b grammar (path_segment InExpr) done (segment us) us rest
unfolding path_segment generics expr_generics
segment_fits b us rest is none =
    let name : Forest = node k.NAME_REF (token_leaf us) in
    then_still b grammar (mark path_name) (generics InExpr then seal k.PATH_SEGMENT) done name (segment us) us rest
    (mark_in b grammar path_name done name us rest (name_fits b us rest is))
    (then_still b grammar (generics InExpr) (seal k.PATH_SEGMENT) name name (segment us) [] rest
    (undecided_in b grammar colon_angle (child GenericArgs) nothing name name [] rest none (nothing_in b grammar name rest))
    (seal_in b grammar k.PATH_SEGMENT name rest))

first_fits : (b : Bool) (us rest : List Token) → is_token path_names us ≡ true → passes colon_angle rest ≡ false
    → FitsIn b grammar (first_segment InExpr) done (segment us) us rest
unfolding first_segment path_segment
first_fits b us rest is none =
    then_in b grammar (optional (k.COLON2 ∷ []) (a k.COLON2)) (path_segment InExpr) done done (segment us) [] us rest
    (second_in b grammar (at (k.COLON2 ∷ [])) (a k.COLON2) nothing done done [] (us ++ rest) (nothing_in b grammar done (us ++ rest)))
    (segment_fits b us rest is none)

shortest_fits : (b : Bool) (us rest : List Token) → is_token path_names us ≡ true → passes colon_angle rest ≡ false
    → FitsIn b grammar (shortest_path InExpr) done (node k.PATH (segment us)) us rest
unfolding shortest_path plain_path
shortest_fits b us rest is none =
    second_in b grammar (at open_angle) (anchored_path InExpr) (plain_path InExpr) done (node k.PATH (segment us)) us rest
    (then_still b grammar (mark (first_segment InExpr)) (seal k.PATH) done (segment us) (node k.PATH (segment us)) us rest
    (mark_in b grammar (first_segment InExpr) done (segment us) us rest (first_fits b us rest is none))
    (seal_in b grammar k.PATH (segment us) rest))

-- one more; all since the mark is the path in front of it
abbrev one_more : Form Goal
one_more = look true (at (k.COLON2 ∷ [])) then longer_path InExpr

more_fits : (b : Bool) (z : Forest) (colons name rest : List Token) → is_token (k.COLON2 ∷ []) colons ≡ true → is_token path_names name ≡ true
    → passes colon_angle rest ≡ false → FitsIn b grammar one_more z (node k.PATH (join (join z (token_leaf colons)) (segment name))) (colons ++ name) rest
unfolding longer_path
more_fits b z colons name rest is_colons is_name none =
    let front : Forest = join z (token_leaf colons) in
    let made : Forest = node k.PATH (join front (segment name)) in
    then_in b grammar (look true (at (k.COLON2 ∷ []))) (longer_path InExpr) z z made [] (colons ++ name) rest
    (look_in b grammar true (at (k.COLON2 ∷ [])) z ((colons ++ name) ++ rest) (colons_pass colons name rest is_colons))
    (then_in b grammar (a k.COLON2) (mark (path_segment InExpr) then seal k.PATH) z front made colons name rest
    (token_in b grammar (k.COLON2 ∷ []) z colons (name ++ rest) is_colons)
    (then_still b grammar (mark (path_segment InExpr)) (seal k.PATH) front (join front (segment name)) made name rest
    (mark_in b grammar (path_segment InExpr) front (segment name) name rest (segment_fits b name rest is_name none))
    (seal_in b grammar k.PATH (join front (segment name)) rest)))

-- ** Paths.

abbrev segments : Form Goal
segments = shortest_path InExpr then many (at (k.COLON2 ∷ [])) one_more

segments_fit : (b : Bool) (z : Forest) (us : List Token) → IsPath z us → (rest : List Token) → passes colon_angle rest ≡ false
    → FitsIn b grammar segments done z us rest
segments_fit b _ _ (one name is) rest none =
    then_still b grammar (shortest_path InExpr) (many (at (k.COLON2 ∷ [])) one_more) done (node k.PATH (segment name)) (node k.PATH (segment name)) name rest
    (shortest_fits b name rest is none) (stop_in b grammar (at (k.COLON2 ∷ [])) one_more (node k.PATH (segment name)) rest)
segments_fit b _ _ (longer {z = z} {us = us} colons name front is_colons is_name) rest none =
    last_goes_on_in b grammar (shortest_path InExpr) (many (at (k.COLON2 ∷ [])) one_more) one_more (turns_go_on_in b grammar (at (k.COLON2 ∷ [])) one_more)
    done z (node k.PATH (join (join z (token_leaf colons)) (segment name))) us ((colons ++ name) ++ rest) (colons ++ name) rest
    (segments_fit b z us front ((colons ++ name) ++ rest) (colons_then_name colons name rest is_colons is_name)) refl
    (more_fits b z colons name rest is_colons is_name none)

path_fits : (b : Bool) (z : Forest) (us rest : List Token) → IsPath z us → mem (next rest) (k.COLON2 ∷ []) ≡ false
    → FitsIn b grammar (path InExpr) done z us rest
unfolding path as_long_as
path_fits b z us rest is none =
    then_more_in b grammar (shortest_path InExpr) (many (at (k.COLON2 ∷ [])) one_more) (look false (at (k.COLON2 ∷ []))) done z us rest
    (segments_fit b z us is rest (no_generics rest none))
    (look_in b grammar false (at (k.COLON2 ∷ [])) z rest (ap not (at_next (k.COLON2 ∷ []) rest ∙ none)))

path_is_atom : (b : Bool) (z : Forest) (us rest : List Token) → IsPath z us → mem (next rest) (k.COLON2 ∷ []) ≡ false
    → FitsIn b grammar (level 0) done (node k.PATH_EXPR z) us rest
unfolding level atom path_expr path_or_record
path_is_atom b z us rest is none =
    first_in b grammar (at path_first) (mark (path_expr Anywhere)) _ done (node k.PATH_EXPR z) us rest
    (mark_in b grammar (path_expr Anywhere) done (node k.PATH_EXPR z) us rest
    (then_still b grammar (mark (path InExpr)) _ done z (node k.PATH_EXPR z) us rest
    (mark_in b grammar (path InExpr) done z us rest (path_fits b z us rest is none))
    (second_in b grammar (at (k.BANG ∷ [])) macro_expr (path_or_record Anywhere) z (node k.PATH_EXPR z) [] rest
    (second_in b grammar (at (k.L_CURLY ∷ [])) record_expr (seal k.PATH_EXPR) z (node k.PATH_EXPR z) [] rest
    (seal_in b grammar k.PATH_EXPR z rest)))))

-- ** What begins with a name begins an operand, and no operator `raw` where no word follows it.

no_pointer_word : (rest : List Token) → mem (next rest) (k.CONST_KW ∷ k.MUT_KW ∷ []) ≡ false → are_next (pointer_words ∷ []) rest ≡ false
no_pointer_word [] e = refl
no_pointer_word (t ∷ rest) e = and_left (mem t.joined (k.CONST_KW ∷ k.MUT_KW ∷ [])) true e

never_raw : (t : Token) (us rest : List Token) → t.size - 1 ≡ length us → mem (next rest) (k.CONST_KW ∷ k.MUT_KW ∷ []) ≡ false
    → passes raw_ahead (t ∷ (us ++ rest)) ≡ false
never_raw t us rest size no_word_next =
    let last : are_next (pointer_words ∷ []) (drop (t.size - 1) (us ++ rest)) ≡ false =
    ap (are_next (pointer_words ∷ [])) (behind_whole t us rest size) ∙ no_pointer_word rest no_word_next in
    or_from (mem t.joined (k.IDENT ∷ []) && are_next (pointer_words ∷ []) (drop (t.size - 1) (us ++ rest))) false
    (and_right (mem t.joined (k.IDENT ∷ [])) (are_next (pointer_words ∷ []) (drop (t.size - 1) (us ++ rest))) last) refl

-- a name begins an operand, and is not `async`
abbrev begins_named : Bool → SyntaxKind → Bool
begins_named is_whole kind = mem kind (operand_first is_whole) && not (mem kind (k.ASYNC_KW ∷ []))

names_begin : (b : Bool) → every (begins_named b) path_names ≡ true
unfolding literals operand_first braceless_first path_first block_words stated_block_words operand_marks stated_marks where_whole leaving_first
names_begin true = refl
names_begin false = refl

begun_by_name : (b : Bool) (t : Token) (ts : List Token) → begins_named b t.joined ≡ true → passes raw_ahead (t ∷ ts) ≡ false
    → begins_operand b (t ∷ ts) ≡ true
begun_by_name b t ts begins raw =
    let halves = and_parts (mem t.joined (operand_first b)) (not (mem t.joined (k.ASYNC_KW ∷ []))) begins in
    let no_async : mem t.joined (k.ASYNC_KW ∷ []) ≡ false = not-true (mem t.joined (k.ASYNC_KW ∷ [])) halves.1 in
    let closure : passes async_closure_ahead (t ∷ ts) ≡ false = rw no_async refl in
    and_from (mem t.joined (operand_first b)) (not (passes async_closure_ahead (t ∷ ts) || passes raw_ahead (t ∷ ts))) halves.0
    (ap not (or_from (passes async_closure_ahead (t ∷ ts)) (passes raw_ahead (t ∷ ts)) closure raw))

named_begins : (b : Bool) (us rest : List Token) → is_token path_names us ≡ true → mem (next rest) (k.CONST_KW ∷ k.MUT_KW ∷ []) ≡ false
    → begins_operand b (us ++ rest) ≡ true
named_begins b [] rest is none = absurd (cc)
named_begins b (t ∷ us) rest is none =
    let halves = and_parts (mem t.joined path_names) (nat_eq (t.size - 1) (length us)) is in
    begun_by_name b t (us ++ rest) (every_mem (begins_named b) t.joined path_names (names_begin b) halves.0)
    (never_raw t us rest (eqb-true (t.size - 1) (length us) halves.1) none)

path_begins : (b : Bool) (z : Forest) (us : List Token) → IsPath z us → (rest : List Token) → mem (next rest) (k.CONST_KW ∷ k.MUT_KW ∷ []) ≡ false
    → begins_operand b (us ++ rest) ≡ true
path_begins b _ _ (one name is) rest none = named_begins b name rest is none
path_begins b _ _ (longer {z = z} {us = us} colons name front is_colons is_name) rest none =
    ap (begins_operand b) (append_assoc us (colons ++ name) rest)
    ∙ path_begins b z us front ((colons ++ name) ++ rest) (colons_no_word colons name rest is_colons)

pub path_stands : (reach : Reach) (z : Forest) (us : List Token) → IsPath z us → Stands reach 0 true (node k.PATH_EXPR z) us
path_stands reach z us is = record {
  fits = λ rest may. path_is_atom (is_whole reach) z us rest is (no_word (next rest) (follows_called rest may)).0;
  begins = λ rest may. path_begins (is_whole reach) z us is rest (no_word (next rest) (follows_called rest may)).1;
}
