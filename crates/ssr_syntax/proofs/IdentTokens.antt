-- A tree has the identifiers of its text, in order: no identifier is part of a joined token.
use Rattle.std.proofs.Common.{◌≡◌, ℕ, zero, suc, ◌-◌, ◌<◌, ◌≤◌, Bool, true, false, cond, if◌then◌else◌, List, [], ◌∷◌, ◌++◌, length, Option, Some, None, refl, sym, ◌∙◌, ap, subst, arith, append_assoc, length-append}
use Rattle.std.specs.Prelude.{⊤}
use Rattle.std.specs.Bool.{MatchBool}
use Rattle.std.proofs.lemmas.List.{append-nil}
use Rattle.std.proofs.lemmas.List.Elements.{filter-append}
use Rattle.ssr_syntax_kinds.specs.declared.kinds.SyntaxKind.{SyntaxKind}
use Rattle.ssr_syntax_kinds.specs.declared.kinds.SyntaxKind.TheVariants.{IDENT}
use Rattle.ssr_syntax_lex.specs.declared.tokens.RawToken.{RawToken}
use Rattle.ssr_syntax_kinds.specs.Kinds.{is_trivia, is_ident}
use Rattle.ssr_syntax_lex.specs.Tokens.{token_text}
use Rattle.ssr_syntax_tree.specs.Syntax as plain
use Rattle.ssr_syntax_tree.specs.Syntax.{tokens_of}
use Rattle.ssr_syntax_forms.specs.declared.tokens.Token.{Token}
use Rattle.ssr_syntax_forms.specs.Trees as solid
use Rattle.ssr_syntax_rows.specs.Leaves as written
use Rattle.ssr_syntax_forms.specs.Forms.{more, taken_as}
use Rattle.ssr_syntax_rows.specs.Lossless.{trivia, behind_trivia, gap, behind_gap, upto, past, whole_tree}
use Rattle.ssr_syntax.specs.Identifiers.{idents}
use Rattle.ssr_syntax_rows.specs.Solid.{lengthened, joined_two, joined_three, solid_token, solid_tokens, pieces}
use Rattle.ssr_syntax_rows.proofs.Shared.{AreSolid, by_kind, upto-zero, upto-add, upto-past, upto-behind_trivia, past-zero, total-leaves, laid, laid-append, IsTaken, AreTaken, is_mark, mark_solid, mark_no_ident, are_joined, kind_of, whole-tokens}

-- ** The solid tokens are those of the tokens, as far as they go.
abbrev pub AreOf : List Token → List plain.Token → Type 0
AreOf us [] = us ≡ []
AreOf [] (t ∷ ts) = ⊤
AreOf (u ∷ us) (t ∷ ts) = MatchBool (is_trivia t.kind) (AreOf (u ∷ us) ts) ((u.kind ≡ t.kind) × AreOf us ts)

none_are : (ts : List plain.Token) → AreOf [] ts
none_are [] = refl
none_are (t ∷ ts) = tt

-- the first of them
abbrev pub IsNext : Token → List Token → List plain.Token → Type 0
IsNext u us ts =
    (t : plain.Token) × (rest : List plain.Token)
    × (behind_trivia ts ≡ t ∷ rest) × (is_trivia t.kind ≡ false) × (u.kind ≡ t.kind) × AreOf us rest

pub next_is : (u : Token) (us : List Token) (ts : List plain.Token) → AreOf (u ∷ us) ts → IsNext u us ts
next_is u us [] h = cc
next_is u us (t ∷ ts) h =
    by_kind (λ b. MatchBool b (AreOf (u ∷ us) ts) ((u.kind ≡ t.kind) × AreOf us ts)
    → (v : plain.Token) × (rest : List plain.Token)
    × ((if b then behind_trivia ts else t ∷ ts) ≡ v ∷ rest) × (is_trivia v.kind ≡ false) × (u.kind ≡ v.kind) × AreOf us rest) t
    (λ e k. next_is u us ts k)
    (λ e k. (t, ts, refl, e, k.0, k.1))
    h

pub are_here : (us vs : List Token) (ts : List plain.Token) → AreOf (us ++ vs) ts → AreOf us ts
are_here [] vs ts h = none_are ts
are_here (u ∷ us) vs [] h = cc
are_here (u ∷ us) vs (t ∷ ts) h =
    by_kind (λ b. MatchBool b (AreOf (u ∷ (us ++ vs)) ts) ((u.kind ≡ t.kind) × AreOf (us ++ vs) ts)
    → MatchBool b (AreOf (u ∷ us) ts) ((u.kind ≡ t.kind) × AreOf us ts)) t
    (λ e k. are_here (u ∷ us) vs ts k)
    (λ e k. (k.0, are_here us vs ts k.1))
    h

pub are_past : (us vs : List Token) (ts : List plain.Token) → AreOf (us ++ vs) ts → AreOf vs (past (length us) ts)
are_past [] vs ts h = subst (AreOf vs) (sym (past-zero ts)) h
are_past (u ∷ us) vs [] h = cc
are_past (u ∷ us) vs (t ∷ ts) h =
    by_kind (λ b. MatchBool b (AreOf (u ∷ (us ++ vs)) ts) ((u.kind ≡ t.kind) × AreOf (us ++ vs) ts)
    → AreOf vs (past (if b then suc (length us) else length us) ts)) t
    (λ e k. are_past (u ∷ us) vs ts k)
    (λ e k. are_past us vs ts k.1)
    h

upto_one : (t : plain.Token) (rest : List plain.Token) → is_trivia t.kind ≡ false → upto 1 (t ∷ rest) ≡ t ∷ []
upto_one t rest e = ap (λ b. t ∷ upto (if b then 1 else 0) rest) e ∙ ap (λ l. t ∷ l) (upto-zero rest)

same_token : (kind : SyntaxKind) (text : List ℕ) (t : plain.Token) → kind ≡ t.kind → text ≡ t.text
    → ◌≡◌ {A = plain.Token} (record { kind = kind; text = text }) t
same_token kind text t e f =
    let token : SyntaxKind → List ℕ → plain.Token = λ k l. record { kind = k; text = l } in
    ap (λ k. token k text) e ∙ ap (token t.kind) f

token_here : (kind : SyntaxKind) (u : Token) (us : List Token) (ts : List plain.Token) → kind ≡ u.kind → IsNext u us ts
    → trivia ts ++ (record { kind = kind; text = plain.spelled (upto 1 (behind_trivia ts)) } ∷ []) ≡ upto 1 ts
token_here kind u us ts e (t, rest, at_front, no_trivia, same, are) =
    let one : upto 1 (behind_trivia ts) ≡ t ∷ [] = ap (upto 1) at_front ∙ upto_one t rest no_trivia in
    let text : plain.spelled (upto 1 (behind_trivia ts)) ≡ t.text = ap plain.spelled one ∙ append-nil t.text in
    ap (λ v. trivia ts ++ (v ∷ [])) (same_token kind (plain.spelled (upto 1 (behind_trivia ts))) t (e ∙ same) text)
    ∙ ap (λ l. trivia ts ++ l) (sym one)
    ∙ sym (upto-behind_trivia 0 ts)

-- ** Solid tokens of a text.

skip_are : (us : List Token) (p : plain.Token) (ps : List plain.Token) → is_trivia p.kind ≡ true → AreOf us ps → AreOf us (p ∷ ps)
skip_are [] p ps e h = tt
skip_are (u ∷ us) p ps e h = subst (λ b. MatchBool b (AreOf (u ∷ us) ps) ((u.kind ≡ p.kind) × AreOf us ps)) (sym e) h

take_are : (u : Token) (us : List Token) (p : plain.Token) (ps : List plain.Token) → is_trivia p.kind ≡ false → u.kind ≡ p.kind → AreOf us ps
    → AreOf (u ∷ us) (p ∷ ps)
take_are u us p ps e same h = subst (λ b. MatchBool b (AreOf (u ∷ us) ps) ((u.kind ≡ p.kind) × AreOf us ps)) (sym e) (same, h)

-- the solid tokens are those of the text's pieces
are_solid : (text : List ℕ) (raw : List RawToken) → AreOf (solid_tokens raw) (pieces text raw)
are_solid text [] = refl
are_solid text (t ∷ ts) =
    let p : plain.Token = record { kind = t.kind; text = token_text text t } in
    by_kind (λ b. AreOf (if b then solid_tokens ts else solid_token t ts ∷ solid_tokens ts) (p ∷ pieces text ts)) p
    (λ e. skip_are (solid_tokens ts) p (pieces text ts) e (are_solid text ts))
    (λ e. take_are (solid_token t ts) (solid_tokens ts) p (pieces text ts) e (kind_of t ts) (are_solid text ts))

-- the first n have no identifier
abbrev NoIdentsIn : ℕ → List Token → Type 0
NoIdentsIn zero ts = ⊤
NoIdentsIn (suc n) [] = ⊤
NoIdentsIn (suc n) (t ∷ ts) = (is_ident t.kind ≡ false) × NoIdentsIn n ts

-- a token in front of others is itself, or it is joined and has no identifier in it
abbrev IsPlain : Token → List Token → Type 0
IsPlain t ts = (t.size ≤ 1 → t.joined ≡ t.kind) × (1 < t.size → (is_ident t.joined ≡ false) × NoIdentsIn t.size (t ∷ ts))

abbrev ArePlain : List Token → Type 0
ArePlain [] = ⊤
ArePlain (t ∷ ts) = IsPlain t ts × ArePlain ts

none_here : (n : ℕ) (us vs : List Token) → NoIdentsIn n (us ++ vs) → NoIdentsIn n us
none_here zero us vs h = tt
none_here (suc n) [] vs h = tt
none_here (suc n) (u ∷ us) vs h = (h.0, none_here n us vs h.1)

plain_here : (us vs : List Token) → ArePlain (us ++ vs) → ArePlain us × ArePlain vs
plain_here [] vs h = (tt, h)
plain_here (u ∷ us) vs h =
    let r = plain_here us vs h.1 in
    (((h.0.0, λ lt. let p = h.0.1 lt in (p.0, none_here u.size (u ∷ us) vs p.1)), r.0), r.1)

first_mark : (n : ℕ) (next : RawToken) (ts : List RawToken) → is_mark next.kind ≡ true → NoIdentsIn n (solid_tokens ts)
    → NoIdentsIn (suc n) (solid_tokens (next ∷ ts))
first_mark n next ts mark h =
    let here : solid_tokens (next ∷ ts) ≡ solid_token next ts ∷ solid_tokens ts =
    ap (λ b. if b then solid_tokens ts else solid_token next ts ∷ solid_tokens ts) (mark_solid next.kind mark) in
    subst (NoIdentsIn (suc n)) (sym here) (ap is_ident (kind_of next ts) ∙ mark_no_ident next.kind mark, h)

three_plain : (kind two : SyntaxKind) (next : RawToken) (ts : List RawToken) (o : Option SyntaxKind) → lengthened two next.joint ts ≡ o
    → is_mark kind ≡ true → is_mark two ≡ true → is_mark next.kind ≡ true
    → IsPlain (joined_three kind two o) (solid_tokens (next ∷ ts))
three_plain kind two next ts None e f g h =
    (λ le. absurd (omega (arith, le)), λ lt. (mark_no_ident two g, (mark_no_ident kind f, first_mark 0 next ts h tt)))
three_plain kind two next ts (Some three) e f g h =
    let j = are_joined two three next.joint ts e in
    let last : NoIdentsIn 1 (solid_tokens ts) =
    subst (λ l. NoIdentsIn 1 (solid_tokens l)) (sym j.are) (first_mark 0 j.next j.others j.next_mark tt) in
    (λ le. absurd (omega (arith, le)), λ lt. (mark_no_ident three j.both_mark, (mark_no_ident kind f, first_mark 1 next ts h last)))

two_plain : (kind : SyntaxKind) (joint : Bool) (ts : List RawToken) (o : Option SyntaxKind) → lengthened kind joint ts ≡ o
    → IsPlain (joined_two kind ts o) (solid_tokens ts)
two_plain kind joint ts None e = (λ le. refl, λ lt. absurd (omega (arith, lt)))
two_plain kind joint ts (Some two) e =
    let j = are_joined kind two joint ts e in
    subst (λ l. IsPlain (joined_two kind l (Some two)) (solid_tokens l)) (sym j.are)
    (three_plain kind two j.next j.others (lengthened two j.next.joint j.others) refl j.first_mark j.both_mark j.next_mark)

all_plain : (raw : List RawToken) → ArePlain (solid_tokens raw)
all_plain [] = tt
all_plain (t ∷ ts) =
    by_kind (λ b. ArePlain (if b then solid_tokens ts else solid_token t ts ∷ solid_tokens ts)) (record { kind = t.kind; text = [] })
    (λ e. all_plain ts)
    (λ e. (two_plain t.kind t.joint ts (lengthened t.kind t.joint ts) refl, all_plain ts))

-- ** White space and comments are no identifiers.

pub no_ident : (kind : SyntaxKind) → is_trivia kind ≡ true → is_ident kind ≡ false
no_ident IDENT h = cc
no_ident _ h = refl

-- a token that is none in front
without : (t : plain.Token) (ts : List plain.Token) → is_ident t.kind ≡ false → idents (t ∷ ts) ≡ idents ts
without t ts e = ap (λ b. cond b (t ∷ idents ts) (idents ts)) e

none_in_trivia : (ts : List plain.Token) → idents (trivia ts) ≡ []
none_in_trivia [] = refl
none_in_trivia (t ∷ ts) =
    by_kind (λ b. idents (if b then t ∷ trivia ts else []) ≡ []) t
    (λ e. without t (trivia ts) (no_ident t.kind e) ∙ none_in_trivia ts) (λ e. refl)

none_in_gap : (n : ℕ) (ts : List plain.Token) → idents (gap n ts) ≡ []
none_in_gap zero ts = refl
none_in_gap (suc n) ts = none_in_trivia ts

idents-append : (ss ts : List plain.Token) → idents (ss ++ ts) ≡ idents ss ++ idents ts
idents-append ss ts = filter-append (λ token. is_ident token.kind) ss ts

-- up to the last of solid tokens that are none
none_upto : (us : List Token) (ts : List plain.Token) → AreOf us ts → NoIdentsIn (length us) us → idents (upto (length us) ts) ≡ []
none_upto [] ts are h = ap idents (upto-zero ts)
none_upto (u ∷ us) [] are h = cc
none_upto (u ∷ us) (t ∷ ts) are h =
    by_kind (λ b. MatchBool b (AreOf (u ∷ us) ts) ((u.kind ≡ t.kind) × AreOf us ts)
    → idents (t ∷ upto (if b then suc (length us) else length us) ts) ≡ []) t
    (λ e k. without t (upto (suc (length us)) ts) (no_ident t.kind e) ∙ none_upto (u ∷ us) ts k h)
    (λ e k. without t (upto (length us) ts) (ap is_ident (sym k.0) ∙ h.0) ∙ none_upto us ts k.1 h.1)
    are

-- ** What is taken has the identifiers of what it stands for.

-- as the first part or whole, where it is of one token
own_kind : (whole : Bool) (t : Token) → (t.size ≤ 1 → t.joined ≡ t.kind) → more whole t ≡ 0 → taken_as whole t ≡ t.kind
own_kind true t h e = h (omega (arith, e))
own_kind false t h e = refl

joined_whole : (P : Bool → Type 0) (whole : Bool) (t : Token) (n : ℕ) → more whole t ≡ suc n → P true → P whole
joined_whole P true t n e h = h
joined_whole P false t n e h = absurd (omega (arith, e))

one_taken : (kind : SyntaxKind) (n : ℕ) (ts : List plain.Token) → is_ident kind ≡ false
    → idents (gap n ts ++ (record { kind = kind; text = plain.spelled (upto n (behind_gap n ts)) } ∷ [])) ≡ []
one_taken kind n ts none =
    let token : plain.Token = record { kind = kind; text = plain.spelled (upto n (behind_gap n ts)) } in
    idents-append (gap n ts) (token ∷ []) ∙ ap (λ l. l ++ idents (token ∷ [])) (none_in_gap n ts) ∙ without token [] none

taken_alike : (kind : SyntaxKind) (t : Token) (vs rest : List Token) (whole : Bool) (ts : List plain.Token) → kind ≡ taken_as whole t
    → more whole t ≡ length vs → IsPlain t (vs ++ rest) → AreOf (t ∷ vs) ts
    → idents (gap (length (t ∷ vs)) ts ++ (record { kind = kind; text = plain.spelled (upto (length (t ∷ vs)) (behind_gap (length (t ∷ vs)) ts)) } ∷ []))
    ≡ idents (upto (length (t ∷ vs)) ts)
taken_alike kind t [] rest whole ts same count h are =
    ap idents (token_here kind t [] ts (same ∙ own_kind whole t h.0 count) (next_is t [] ts are))
taken_alike kind t (v ∷ vs) rest whole ts same count h are =
    let n = length (t ∷ v ∷ vs) in
    let whole_one : (kind ≡ t.joined) × (t.size - 1 ≡ length (v ∷ vs)) =
    joined_whole (λ b. kind ≡ taken_as b t → more b t ≡ length (v ∷ vs) → (kind ≡ t.joined) × (t.size - 1 ≡ length (v ∷ vs)))
    whole t (length vs) count (λ e f. (e, f)) same count in
    let size : t.size ≡ n = omega (arith, whole_one.1) in
    let p = h.1 (omega (arith, size)) in
    let none : NoIdentsIn n (t ∷ v ∷ vs) = subst (λ m. NoIdentsIn m (t ∷ v ∷ vs)) size (none_here t.size (t ∷ v ∷ vs) rest p.1) in
    one_taken kind n ts (ap is_ident whole_one.0 ∙ p.0) ∙ sym (none_upto (t ∷ v ∷ vs) ts are none)

leaf_alike : (kind : SyntaxKind) (us rest : List Token) (ts : List plain.Token) → IsTaken kind us → ArePlain (us ++ rest) → AreOf us ts
    → idents (gap (length us) ts ++ (record { kind = kind; text = plain.spelled (upto (length us) (behind_gap (length us) ts)) } ∷ []))
    ≡ idents (upto (length us) ts)
leaf_alike kind us rest ts (whole, t, vs, is, same, count) h are =
    let P : List Token → Type 0 = λ l. ArePlain (l ++ rest) → AreOf l ts
    → idents (gap (length l) ts ++ (record { kind = kind; text = plain.spelled (upto (length l) (behind_gap (length l) ts)) } ∷ []))
    ≡ idents (upto (length l) ts) in
    subst P (sym is) (λ p a. taken_alike kind t vs rest whole ts same count p.0 a) h are

idents_laid : (f : solid.Forest) (ts : List plain.Token) → AreTaken f → ArePlain (solid.spell f) → AreOf (solid.spell f) ts
    → idents (laid (written.leaves f) ts) ≡ idents (upto (length (solid.spell f)) ts)
idents_laid solid.done ts taken h are = ap idents (sym (upto-zero ts))
idents_laid (solid.leaf kind us x) ts taken h are =
    let n = length us in
    let m = length (solid.spell x) in
    let token : plain.Token = record { kind = kind; text = plain.spelled (upto n (behind_gap n ts)) } in
    ap idents (sym (append_assoc (gap n ts) (token ∷ []) (laid (written.leaves x) (past n ts))))
    ∙ idents-append (gap n ts ++ (token ∷ [])) (laid (written.leaves x) (past n ts))
    ∙ ap (λ l. l ++ idents (laid (written.leaves x) (past n ts))) (leaf_alike kind us (solid.spell x) ts taken.0 h (are_here us (solid.spell x) ts are))
    ∙ ap (λ l. idents (upto n ts) ++ l)
    (idents_laid x (past n ts) taken.1 (plain_here us (solid.spell x) h).1 (are_past us (solid.spell x) ts are))
    ∙ sym (idents-append (upto n ts) (upto m (past n ts)))
    ∙ ap idents (sym (upto-add n m ts) ∙ ap (λ k. upto k ts) (sym (length-append us (solid.spell x))))
idents_laid (solid.tree kind kids x) ts taken h are =
    let us = solid.spell kids in
    let n = length us in
    let m = length (solid.spell x) in
    let parts = plain_here us (solid.spell x) h in
    ap idents (laid-append (written.leaves kids) (written.leaves x) ts
    ∙ ap (λ k. laid (written.leaves kids) ts ++ laid (written.leaves x) (past k ts)) (total-leaves kids))
    ∙ idents-append (laid (written.leaves kids) ts) (laid (written.leaves x) (past n ts))
    ∙ ap (λ l. l ++ idents (laid (written.leaves x) (past n ts))) (idents_laid kids ts taken.0 parts.0 (are_here us (solid.spell x) ts are))
    ∙ ap (λ l. idents (upto n ts) ++ l) (idents_laid x (past n ts) taken.1 parts.1 (are_past us (solid.spell x) ts are))
    ∙ sym (idents-append (upto n ts) (upto m (past n ts)))
    ∙ ap idents (sym (upto-add n m ts) ∙ ap (λ k. upto k ts) (sym (length-append us (solid.spell x))))

-- a tree of all solid tokens has the text's identifiers
pub whole_idents : (text : List ℕ) (raw : List RawToken) (kind : SyntaxKind) (kids : solid.Forest) → AreSolid (written.leaves kids) → AreTaken kids
    → solid.spell kids ≡ solid_tokens raw → idents (tokens_of (whole_tree kind kids (pieces text raw))) ≡ idents (pieces text raw)
whole_idents text raw kind kids are_taken_solid taken spells =
    let ts = pieces text raw in
    let us = written.leaves kids in
    let n = length (solid.spell kids) in
    ap idents (whole-tokens kind kids ts are_taken_solid)
    ∙ ap (λ k. idents (laid us ts ++ past k ts)) (total-leaves kids)
    ∙ idents-append (laid us ts) (past n ts)
    ∙ ap (λ l. l ++ idents (past n ts))
    (idents_laid kids ts taken (subst ArePlain (sym spells) (all_plain raw)) (subst (λ l. AreOf l ts) (sym spells) (are_solid text raw)))
    ∙ sym (idents-append (upto n ts) (past n ts))
    ∙ ap idents (upto-past n ts)
