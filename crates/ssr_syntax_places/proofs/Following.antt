-- What may follow an expression, and what an operand begins with, told by one token.
use Rattle.std.proofs.Common.{◌≡◌, ℕ, ◌-◌, nat_eq, Bool, true, false, not, ◌&&◌, ◌||◌, List, [], ◌∷◌, ◌++◌, length, refl, sym, subst, append_assoc}
use Rattle.std.proofs.lemmas.Bool.{and_parts, and_from, not-true}
use Rattle.ssr_syntax_kinds.specs.declared.kinds.SyntaxKind.{SyntaxKind}
use Rattle.ssr_syntax_kinds.specs.declared.kinds.SyntaxKind.TheVariants as k
use Rattle.ssr_syntax_kinds.specs.Kinds.{same_kind}
use Rattle.ssr_syntax_kinds.specs.Reach.{is_whole}
use Rattle.ssr_syntax_kinds.specs.declared.reach.Reach.{Reach}
use Rattle.ssr_syntax_forms.specs.declared.tokens.Token.{Token}
use Rattle.ssr_syntax_forms.specs.Kinds.{mem}
use Rattle.ssr_syntax_forms.specs.Trees.{Forest}
use Rattle.ssr_syntax_forms.specs.Forms.{next, passes}
use Rattle.ssr_syntax_forms.proofs.Shared.{every, every_mem}
use Rattle.ssr_syntax_exprs.specs.Atoms.{async_closure_ahead, operand_first}
use Rattle.ssr_syntax_exprs.specs.Expressions.{raw_ahead}
use Rattle.ssr_syntax_places.specs.Standing.{is_token, may_follow, begins_operand, Stands}

-- ** What begins an operand.

-- a token of this kind begins one, and is neither `async` nor a name
abbrev pub begins_plainly : Bool → SyntaxKind → Bool
begins_plainly is_whole kind = mem kind (operand_first is_whole) && (not (mem kind (k.ASYNC_KW ∷ [])) && not (mem kind (k.IDENT ∷ [])))

plain_first : (b : Bool) (t : Token) (ts : List Token) → begins_plainly b t.joined ≡ true → begins_operand b (t ∷ ts) ≡ true
plain_first b t ts plain =
    let first = and_parts (mem t.joined (operand_first b)) (not (mem t.joined (k.ASYNC_KW ∷ [])) && not (mem t.joined (k.IDENT ∷ []))) plain in
    let others = and_parts (not (mem t.joined (k.ASYNC_KW ∷ []))) (not (mem t.joined (k.IDENT ∷ []))) first.1 in
    let no_async : mem t.joined (k.ASYNC_KW ∷ []) ≡ false = not-true (mem t.joined (k.ASYNC_KW ∷ [])) others.0 in
    let no_name : mem t.joined (k.IDENT ∷ []) ≡ false = not-true (mem t.joined (k.IDENT ∷ [])) others.1 in
    rw (first.0, no_async, no_name) refl

pub begins_with : (b : Bool) (ks : List SyntaxKind) (us vs rest : List Token) → every (begins_plainly b) ks ≡ true → is_token ks us ≡ true
    → begins_operand b ((us ++ vs) ++ rest) ≡ true
begins_with b ks [] vs rest all is = absurd (cc)
begins_with b ks (t ∷ us) vs rest all is =
    plain_first b t ((us ++ vs) ++ rest)
    (every_mem (begins_plainly b) t.joined ks all (and_parts (mem t.joined ks) (nat_eq (t.size - 1) (length us)) is).0)

pub begins_alone : (b : Bool) (ks : List SyntaxKind) (us rest : List Token) → every (begins_plainly b) ks ≡ true → is_token ks us ≡ true
    → begins_operand b (us ++ rest) ≡ true
begins_alone b ks [] rest all is = absurd (cc)
begins_alone b ks (t ∷ us) rest all is =
    plain_first b t (us ++ rest)
    (every_mem (begins_plainly b) t.joined ks all (and_parts (mem t.joined ks) (nat_eq (t.size - 1) (length us)) is).0)

-- a token of which the first part alone is taken
pub begins_at : (b : Bool) (ks : List SyntaxKind) (t : Token) (rest : List Token) → every (begins_plainly b) ks ≡ true → mem t.joined ks ≡ true
    → begins_operand b (t ∷ rest) ≡ true
begins_at b ks t rest all is = plain_first b t rest (every_mem (begins_plainly b) t.joined ks all is)

-- ** What follows.

-- what a token of this kind may follow, though it can't be called
abbrev pub goes_behind : SyntaxKind → Bool
goes_behind kind = not (mem kind (k.COLON2 ∷ k.CONST_KW ∷ k.MUT_KW ∷ [])) && (false || not (same_kind kind k.L_PAREN))

pub follows_any : (callable : Bool) (ts : List Token) → may_follow false ts ≡ true → may_follow callable ts ≡ true
follows_any true ts may =
    and_from (not (mem (next ts) (k.COLON2 ∷ k.CONST_KW ∷ k.MUT_KW ∷ []))) true
    (and_parts (not (mem (next ts) (k.COLON2 ∷ k.CONST_KW ∷ k.MUT_KW ∷ []))) (false || not (same_kind (next ts) k.L_PAREN)) may).0 refl
follows_any false ts may = may

pub follows_called : (ts : List Token) → may_follow true ts ≡ true → not (mem (next ts) (k.COLON2 ∷ k.CONST_KW ∷ k.MUT_KW ∷ [])) ≡ true
follows_called ts may = (and_parts (not (mem (next ts) (k.COLON2 ∷ k.CONST_KW ∷ k.MUT_KW ∷ []))) true may).0

pub token_follows : (callable : Bool) (ks : List SyntaxKind) (us vs rest : List Token) → every goes_behind ks ≡ true → is_token ks us ≡ true
    → may_follow callable ((us ++ vs) ++ rest) ≡ true
token_follows callable ks [] vs rest all is = absurd (cc)
token_follows callable ks (t ∷ us) vs rest all is =
    follows_any callable (t ∷ ((us ++ vs) ++ rest))
    (every_mem goes_behind t.joined ks all (and_parts (mem t.joined ks) (nat_eq (t.size - 1) (length us)) is).0)

pub token_alone_follows : (callable : Bool) (ks : List SyntaxKind) (us rest : List Token) → every goes_behind ks ≡ true → is_token ks us ≡ true
    → may_follow callable (us ++ rest) ≡ true
token_alone_follows callable ks [] rest all is = absurd (cc)
token_alone_follows callable ks (t ∷ us) rest all is =
    follows_any callable (t ∷ (us ++ rest))
    (every_mem goes_behind t.joined ks all (and_parts (mem t.joined ks) (nat_eq (t.size - 1) (length us)) is).0)

-- what begins with an expression begins an operand
pub begins_behind : (reach : Reach) (n : ℕ) (callable : Bool) (x : Forest) (us vs rest : List Token) → Stands reach n callable x us
    → may_follow callable (vs ++ rest) ≡ true → begins_operand (is_whole reach) ((us ++ vs) ++ rest) ≡ true
begins_behind reach n callable x us vs rest stands may =
    subst (λ w. begins_operand (is_whole reach) w ≡ true) (sym (append_assoc us vs rest)) (stands.begins (vs ++ rest) may)

-- ** What doesn't follow.

pub no_closure : (b : Bool) (ts : List Token) → begins_operand b ts ≡ true → passes async_closure_ahead ts ≡ false
no_closure b ts begins =
    let neither = not-true (passes async_closure_ahead ts || passes raw_ahead ts)
    (and_parts (mem (next ts) (operand_first b)) (not (passes async_closure_ahead ts || passes raw_ahead ts)) begins).1 in
    none_of (passes async_closure_ahead ts) (passes raw_ahead ts) neither
  where
    none_of : (x y : Bool) → (x || y) ≡ false → x ≡ false
    none_of true y e = cc
    none_of false y e = refl

pub no_raw : (b : Bool) (ts : List Token) → begins_operand b ts ≡ true → passes raw_ahead ts ≡ false
no_raw b ts begins =
    let neither = not-true (passes async_closure_ahead ts || passes raw_ahead ts)
    (and_parts (mem (next ts) (operand_first b)) (not (passes async_closure_ahead ts || passes raw_ahead ts)) begins).1 in
    none_of (passes async_closure_ahead ts) (passes raw_ahead ts) neither
  where
    none_of : (x y : Bool) → (x || y) ≡ false → y ≡ false
    none_of true y e = cc
    none_of false y e = e

pub first_told : (b : Bool) (ts : List Token) → begins_operand b ts ≡ true → mem (next ts) (operand_first b) ≡ true
first_told b ts begins = (and_parts (mem (next ts) (operand_first b)) (not (passes async_closure_ahead ts || passes raw_ahead ts)) begins).0
