-- Calls, fields, indices and `?` behind an expression that may be gone on with.
use Rattle.std.proofs.Common.{◌≡◌, ◌-◌, nat_eq, Bool, true, false, not, ◌&&◌, ◌||◌, List, [], ◌∷◌, ◌++◌, length, refl, ap, subst, ◌∙◌}
use Rattle.std.proofs.lemmas.List.{append-nil}
use Rattle.std.proofs.lemmas.Bool.{and_parts, not-true, or_parts}
use Rattle.ssr_syntax_kinds.specs.declared.kinds.SyntaxKind.TheVariants as k
use Rattle.ssr_syntax_kinds.specs.Kinds.{same_kind}
use Rattle.ssr_syntax_kinds.specs.Reach.{is_whole}
use Rattle.ssr_syntax_kinds.specs.declared.reach.Reach.{Reach}
use Rattle.ssr_syntax_forms.specs.declared.tokens.Token.{Token}
use Rattle.ssr_syntax_forms.specs.Kinds.{mem}
use Rattle.ssr_syntax_forms.specs.Trees.{Forest, done, join}
use Rattle.ssr_syntax_forms.specs.Forms.{passes, next, at, a, mark, child, seal, ◌then◌, choose, look, also}
use Rattle.ssr_syntax_forms.proofs.Shared.{every_mem, at_next}
use Rattle.ssr_syntax_types.specs.declared.goals.Goal.TheVariants.{Expr}
use Rattle.ssr_syntax_types.specs.declared.goals.ExprPlace.TheVariants.{Anywhere}
use Rattle.ssr_syntax_types.specs.Paths.{colon_angle, name_ref, number_ref}
use Rattle.ssr_syntax_exprs.specs.Expressions.{postfix_first, atom, arg_list, call_expr, index_expr, try_expr, field_expr, method_call_expr, generic_method_call_expr, generic_method_call_or_field, named_member, numbered_member, field_or_method, await_expr, member, postfix, postfixes, postfix_expr}
use Rattle.ssr_syntax.specs.Grammar.{grammar}
use Rattle.ssr_syntax_places.specs.Standing.{node, is_token, token_leaf, level, may_follow, Stands, StandsBefore, AreArguments, between, bracketed, with_name}
use Rattle.ssr_syntax_places.proofs.InReach.{FitsIn, token_in, child_in, mark_in, seal_in, then_in, then_still, first_in, second_in, look_in, also_in, undecided_in, turns_go_on_in, last_goes_on_in}
use Rattle.ssr_syntax_places.proofs.Following.{begins_behind, token_follows, token_alone_follows}
use Rattle.ssr_syntax_places.proofs.Arguments.{arg_list_fits}

-- ** What goes on with an expression.

gone_on : (b : Bool) (x z : Forest) (us vs rest : List Token) → FitsIn b grammar (level 1) done x us (vs ++ rest)
    → FitsIn b grammar postfix x z vs rest → FitsIn b grammar (level 1) done z (us ++ vs) rest
unfolding level postfix_expr postfixes
gone_on b x z us vs rest f step =
    last_goes_on_in b grammar (atom Anywhere) postfixes postfix (turns_go_on_in b grammar (at postfix_first) postfix) done x z us (vs ++ rest) vs rest f refl step

abbrev Follow : Bool → List Token → Type 0
Follow callable vs = (rest : List Token) → may_follow callable (vs ++ rest) ≡ true

abbrev GoesOnAs : Reach → Bool → Forest → Forest → List Token → Type 0
GoesOnAs reach callable x z vs = (rest : List Token) → may_follow callable rest ≡ true → FitsIn (is_whole reach) grammar postfix x z vs rest

stands_gone_on : (reach : Reach) (before callable : Bool) (x z : Forest) (us vs : List Token) → Stands reach 1 before x us → Follow before vs
    → GoesOnAs reach callable x z vs → Stands reach 1 callable z (us ++ vs)
stands_gone_on reach before callable x z us vs stands follow step = record {
  fits = λ rest may. gone_on (is_whole reach) x z us vs rest (stands.fits (vs ++ rest) (follow rest)) (step rest may);
  begins = λ rest may. begins_behind reach 1 before x us vs rest stands (follow rest);
}

-- ** `?` and indices.

asked : (b : Bool) (x : Forest) (op rest : List Token) → is_token (k.QUESTION ∷ []) op ≡ true
    → FitsIn b grammar postfix x (node k.TRY_EXPR (join x (token_leaf op))) op rest
unfolding postfix try_expr
asked b x op rest is =
    let z : Forest = node k.TRY_EXPR (join x (token_leaf op)) in
    second_in b grammar (at (k.L_PAREN ∷ [])) call_expr _ x z op rest
    (second_in b grammar (at (k.L_BRACK ∷ [])) index_expr _ x z op rest
    (first_in b grammar (at (k.QUESTION ∷ [])) try_expr member x z op rest
    (then_still b grammar (a k.QUESTION) (seal k.TRY_EXPR) x (join x (token_leaf op)) z op rest
    (token_in b grammar (k.QUESTION ∷ []) x op rest is) (seal_in b grammar k.TRY_EXPR (join x (token_leaf op)) rest))))

pub try_stands : (reach : Reach) (before : Bool) (x : Forest) (us op : List Token) → is_token (k.QUESTION ∷ []) op ≡ true → Stands reach 1 before x us
    → Stands reach 1 true (node k.TRY_EXPR (join x (token_leaf op))) (us ++ op)
try_stands reach before x us op is stands =
    stands_gone_on reach before true x (node k.TRY_EXPR (join x (token_leaf op))) us op stands
    (λ rest. token_alone_follows before (k.QUESTION ∷ []) op rest refl is) (λ rest may. asked (is_whole reach) x op rest is)

-- an expression and what stands behind it in brackets
abbrev indexed : Forest → List Token → Forest → List Token → Forest
indexed x opening y closing = node k.INDEX_EXPR (join (join (join x (token_leaf opening)) y) (token_leaf closing))

index_goes_on : (b : Bool) (x y : Forest) (opening vs closing rest : List Token) → is_token (k.L_BRACK ∷ []) opening ≡ true
    → is_token (k.R_BRACK ∷ []) closing ≡ true → FitsIn b grammar (grammar (Expr Anywhere)) done y vs (closing ++ rest)
    → FitsIn b grammar postfix x (indexed x opening y closing) (between opening vs closing) rest
unfolding postfix index_expr
index_goes_on b x y opening vs closing rest opens closes f =
    let front : Forest = join x (token_leaf opening) in
    let made : Forest = join (join front y) (token_leaf closing) in
    let z : Forest = node k.INDEX_EXPR made in
    second_in b grammar (at (k.L_PAREN ∷ [])) call_expr _ x z (between opening vs closing) rest
    (first_in b grammar (at (k.L_BRACK ∷ [])) index_expr _ x z (between opening vs closing) rest
    (then_in b grammar (a k.L_BRACK) (child (Expr Anywhere) then a k.R_BRACK then seal k.INDEX_EXPR) x front z opening (vs ++ closing) rest
    (token_in b grammar (k.L_BRACK ∷ []) x opening ((vs ++ closing) ++ rest) opens)
    (then_in b grammar (child (Expr Anywhere)) (a k.R_BRACK then seal k.INDEX_EXPR) front (join front y) z vs closing rest
    (child_in b grammar (Expr Anywhere) front y vs (closing ++ rest) f)
    (then_still b grammar (a k.R_BRACK) (seal k.INDEX_EXPR) (join front y) made z closing rest
    (token_in b grammar (k.R_BRACK ∷ []) (join front y) closing rest closes) (seal_in b grammar k.INDEX_EXPR made rest)))))

pub index_stands : (reach : Reach) (before : Bool) (x y : Forest) (us opening vs closing : List Token) → is_token (k.L_BRACK ∷ []) opening ≡ true
    → is_token (k.R_BRACK ∷ []) closing ≡ true → Stands reach 1 before x us → StandsBefore reach closing y vs
    → Stands reach 1 true (node k.INDEX_EXPR (join (join (join x (token_leaf opening)) y) (token_leaf closing))) (us ++ between opening vs closing)
index_stands reach before x y us opening vs closing opens closes stands inside =
    stands_gone_on reach before true x (indexed x opening y closing) us (between opening vs closing) stands
    (λ rest. token_follows before (k.L_BRACK ∷ []) opening (vs ++ closing) rest refl opens)
    (λ rest may. index_goes_on (is_whole reach) x y opening vs closing rest opens closes (inside rest))

-- ** Calls.

parenthesis_follows : (opening vs rest : List Token) → is_token (k.L_PAREN ∷ []) opening ≡ true → may_follow true ((opening ++ vs) ++ rest) ≡ true
parenthesis_follows [] vs rest is = absurd (cc)
parenthesis_follows (t ∷ us) vs rest is =
    every_mem (λ kind. not (mem kind (k.COLON2 ∷ k.CONST_KW ∷ k.MUT_KW ∷ [])) && true) t.joined (k.L_PAREN ∷ []) refl
    (and_parts (mem t.joined (k.L_PAREN ∷ [])) (nat_eq (t.size - 1) (length us)) is).0

call_goes_on : (b : Bool) (x args : Forest) (vs rest : List Token) → FitsIn b grammar arg_list done args vs rest
    → FitsIn b grammar postfix x (node k.CALL_EXPR (join x args)) vs rest
unfolding postfix call_expr
call_goes_on b x args vs rest f =
    let z : Forest = node k.CALL_EXPR (join x args) in
    first_in b grammar (at (k.L_PAREN ∷ [])) call_expr _ x z vs rest
    (then_still b grammar (mark arg_list) (seal k.CALL_EXPR) x (join x args) z vs rest
    (mark_in b grammar arg_list x args vs rest f) (seal_in b grammar k.CALL_EXPR (join x args) rest))

pub call_stands : (reach : Reach) (x y : Forest) (us opening vs closing : List Token) → is_token (k.L_PAREN ∷ []) opening ≡ true
    → is_token (k.R_PAREN ∷ []) closing ≡ true → Stands reach 1 true x us → AreArguments reach closing y vs
    → Stands reach 1 true (node k.CALL_EXPR (join x (bracketed k.ARG_LIST opening y closing))) (us ++ between opening vs closing)
call_stands reach x y us opening vs closing opens closes stands are =
    stands_gone_on reach true true x (node k.CALL_EXPR (join x (bracketed k.ARG_LIST opening y closing))) us (between opening vs closing) stands
    (λ rest. parenthesis_follows opening (vs ++ closing) rest opens)
    (λ rest may. call_goes_on (is_whole reach) x (bracketed k.ARG_LIST opening y closing) (between opening vs closing) rest
    (arg_list_fits reach opening closing y vs rest opens closes are))

-- ** Fields and methods.

dotted : (b : Bool) (x z : Forest) (dot vs rest : List Token) → is_token (k.DOT ∷ []) dot ≡ true
    → FitsIn b grammar field_or_method (join x (token_leaf dot)) z vs rest → FitsIn b grammar postfix x z (dot ++ vs) rest
unfolding postfix member
dotted b x z dot vs rest is f =
    second_in b grammar (at (k.L_PAREN ∷ [])) call_expr _ x z (dot ++ vs) rest
    (second_in b grammar (at (k.L_BRACK ∷ [])) index_expr _ x z (dot ++ vs) rest
    (second_in b grammar (at (k.QUESTION ∷ [])) try_expr member x z (dot ++ vs) rest
    (then_in b grammar (a k.DOT) (also (k.AWAIT_KW ∷ []) await_expr field_or_method) x (join x (token_leaf dot)) z dot vs rest
    (token_in b grammar (k.DOT ∷ []) x dot (vs ++ rest) is)
    (also_in b grammar (k.AWAIT_KW ∷ []) await_expr field_or_method (join x (token_leaf dot)) z vs rest f))))

named : (b : Bool) (x z : Forest) (name vs rest : List Token) → is_token (k.IDENT ∷ []) name ≡ true
    → FitsIn b grammar (choose (at (k.L_PAREN ∷ [])) method_call_expr generic_method_call_or_field) (join x (node k.NAME_REF (token_leaf name))) z vs rest
    → FitsIn b grammar field_or_method x z (name ++ vs) rest
unfolding field_or_method named_member name_ref
named b x z name vs rest is f =
    second_in b grammar (at (k.INT_NUMBER ∷ [])) numbered_member named_member x z (name ++ vs) rest
    (then_in b grammar (mark name_ref) (choose (at (k.L_PAREN ∷ [])) method_call_expr generic_method_call_or_field) x (join x (node k.NAME_REF (token_leaf name))) z name vs rest
    (mark_in b grammar name_ref x (node k.NAME_REF (token_leaf name)) name (vs ++ rest)
    (then_still b grammar (a k.IDENT) (seal k.NAME_REF) done (token_leaf name) (node k.NAME_REF (token_leaf name)) name (vs ++ rest)
    (token_in b grammar (k.IDENT ∷ []) done name (vs ++ rest) is) (seal_in b grammar k.NAME_REF (token_leaf name) (vs ++ rest))))
    f)

method_goes_on : (b : Bool) (x args : Forest) (vs rest : List Token) → FitsIn b grammar arg_list done args vs rest
    → FitsIn b grammar (choose (at (k.L_PAREN ∷ [])) method_call_expr generic_method_call_or_field) x (node k.METHOD_CALL_EXPR (join x args)) vs rest
unfolding method_call_expr
method_goes_on b x args vs rest f =
    let z : Forest = node k.METHOD_CALL_EXPR (join x args) in
    first_in b grammar (at (k.L_PAREN ∷ [])) method_call_expr generic_method_call_or_field x z vs rest
    (then_still b grammar (mark arg_list) (seal k.METHOD_CALL_EXPR) x (join x args) z vs rest
    (mark_in b grammar arg_list x args vs rest f) (seal_in b grammar k.METHOD_CALL_EXPR (join x args) rest))

pub method_call_stands : (reach : Reach) (before : Bool) (x y : Forest) (us dot name opening vs closing : List Token) → is_token (k.DOT ∷ []) dot ≡ true
    → is_token (k.IDENT ∷ []) name ≡ true → is_token (k.L_PAREN ∷ []) opening ≡ true → is_token (k.R_PAREN ∷ []) closing ≡ true
    → Stands reach 1 before x us → AreArguments reach closing y vs
    → Stands reach 1 true (node k.METHOD_CALL_EXPR (join (with_name x dot name) (bracketed k.ARG_LIST opening y closing)))
    (us ++ (dot ++ (name ++ between opening vs closing)))
method_call_stands reach before x y us dot name opening vs closing is_dot is_name opens closes stands are =
    let args : Forest = bracketed k.ARG_LIST opening y closing in
    let z : Forest = node k.METHOD_CALL_EXPR (join (with_name x dot name) args) in
    stands_gone_on reach before true x z us (dot ++ (name ++ between opening vs closing)) stands
    (λ rest. token_follows before (k.DOT ∷ []) dot (name ++ between opening vs closing) rest refl is_dot)
    (λ rest may. dotted (is_whole reach) x z dot (name ++ between opening vs closing) rest is_dot
    (named (is_whole reach) (join x (token_leaf dot)) z name (between opening vs closing) rest is_name
    (method_goes_on (is_whole reach) (with_name x dot name) args (between opening vs closing) rest
    (arg_list_fits reach opening closing y vs rest opens closes are))))

no_generics : (rest : List Token) → may_follow false rest ≡ true → passes colon_angle rest ≡ false
no_generics [] may = refl
no_generics (t ∷ rest) may =
    let words = not-true (mem t.joined (k.COLON2 ∷ k.CONST_KW ∷ k.MUT_KW ∷ []))
    (and_parts (not (mem t.joined (k.COLON2 ∷ k.CONST_KW ∷ k.MUT_KW ∷ []))) (false || not (same_kind t.joined k.L_PAREN)) may).0 in
    let no_colons : same_kind t.joined k.COLON2 ≡ false = (or_parts (same_kind t.joined k.COLON2) (mem t.joined (k.CONST_KW ∷ k.MUT_KW ∷ [])) words).0 in
    rw no_colons refl

no_parenthesis : (rest : List Token) → may_follow false rest ≡ true → passes (at (k.L_PAREN ∷ [])) rest ≡ false
no_parenthesis rest may =
    let other : same_kind (next rest) k.L_PAREN ≡ false = not-true (same_kind (next rest) k.L_PAREN)
    (and_parts (not (mem (next rest) (k.COLON2 ∷ k.CONST_KW ∷ k.MUT_KW ∷ []))) (false || not (same_kind (next rest) k.L_PAREN)) may).1 in
    at_next (k.L_PAREN ∷ []) rest ∙ ap (λ x. x || false) other

field_goes_on : (b : Bool) (x : Forest) (rest : List Token) → may_follow false rest ≡ true
    → FitsIn b grammar (choose (at (k.L_PAREN ∷ [])) method_call_expr generic_method_call_or_field) x (node k.FIELD_EXPR x) [] rest
unfolding generic_method_call_or_field field_expr
field_goes_on b x rest may =
    second_in b grammar (at (k.L_PAREN ∷ [])) method_call_expr generic_method_call_or_field x (node k.FIELD_EXPR x) [] rest
    (undecided_in b grammar colon_angle generic_method_call_expr field_expr x (node k.FIELD_EXPR x) [] rest (no_generics rest may)
    (then_still b grammar (look false (at (k.L_PAREN ∷ []))) (seal k.FIELD_EXPR) x x (node k.FIELD_EXPR x) [] rest
    (look_in b grammar false (at (k.L_PAREN ∷ [])) x rest (ap not (no_parenthesis rest may))) (seal_in b grammar k.FIELD_EXPR x rest)))

pub field_stands : (reach : Reach) (before : Bool) (x : Forest) (us dot name : List Token) → is_token (k.DOT ∷ []) dot ≡ true
    → is_token (k.IDENT ∷ []) name ≡ true → Stands reach 1 before x us
    → Stands reach 1 false (node k.FIELD_EXPR (with_name x dot name)) (us ++ (dot ++ name))
field_stands reach before x us dot name is_dot is_name stands =
    let z : Forest = node k.FIELD_EXPR (with_name x dot name) in
    let b : Bool = is_whole reach in
    stands_gone_on reach before false x z us (dot ++ name) stands
    (λ rest. token_follows before (k.DOT ∷ []) dot name rest refl is_dot)
    (λ rest may. dotted b x z dot name rest is_dot
    (subst (λ w. FitsIn b grammar field_or_method (join x (token_leaf dot)) z w rest) (append-nil name)
    (named b (join x (token_leaf dot)) z name [] rest is_name (field_goes_on b (with_name x dot name) rest may))))

number_goes_on : (b : Bool) (x : Forest) (number rest : List Token) → is_token (k.INT_NUMBER ∷ []) number ≡ true
    → FitsIn b grammar field_or_method x (node k.FIELD_EXPR (join x (node k.NAME_REF (token_leaf number)))) number rest
unfolding field_or_method numbered_member number_ref
number_goes_on b x number rest is =
    let name : Forest = node k.NAME_REF (token_leaf number) in
    let z : Forest = node k.FIELD_EXPR (join x name) in
    first_in b grammar (at (k.INT_NUMBER ∷ [])) numbered_member named_member x z number rest
    (then_still b grammar (mark number_ref) (seal k.FIELD_EXPR) x (join x name) z number rest
    (mark_in b grammar number_ref x name number rest
    (then_still b grammar (a k.INT_NUMBER) (seal k.NAME_REF) done (token_leaf number) name number rest
    (token_in b grammar (k.INT_NUMBER ∷ []) done number rest is) (seal_in b grammar k.NAME_REF (token_leaf number) rest)))
    (seal_in b grammar k.FIELD_EXPR (join x name) rest))

pub number_stands : (reach : Reach) (before : Bool) (x : Forest) (us dot number : List Token) → is_token (k.DOT ∷ []) dot ≡ true
    → is_token (k.INT_NUMBER ∷ []) number ≡ true → Stands reach 1 before x us
    → Stands reach 1 true (node k.FIELD_EXPR (with_name x dot number)) (us ++ (dot ++ number))
number_stands reach before x us dot number is_dot is stands =
    let z : Forest = node k.FIELD_EXPR (with_name x dot number) in
    stands_gone_on reach before true x z us (dot ++ number) stands
    (λ rest. token_follows before (k.DOT ∷ []) dot number rest refl is_dot)
    (λ rest may. dotted (is_whole reach) x z dot number rest is_dot (number_goes_on (is_whole reach) (join x (token_leaf dot)) number rest is))
