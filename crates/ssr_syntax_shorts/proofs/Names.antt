-- Which tokens are names.
use Rattle.std.proofs.Common.{◌≡◌, ◌≢◌, ℕ, suc, ◌+◌, ◌-◌, ◌<◌, ◌≤◌, ◌==◌, nat_eq, Bool, true, false, not, ◌&&◌, ◌||◌, List, [], ◌∷◌, All, length, Option, Some, None, inl, inr, refl, sym, ap, subst, ◌∙◌, arith}
use Rattle.std.specs.Prelude.{is_some, replicate}
use Rattle.std.specs.List.{list_any}
use Rattle.std.proofs.lemmas.Bool.{and_from, eqb-true, eq-eqb, cases_lt, or_cases}
use Rattle.std.proofs.lemmas.List.{length-replicate}
use Rattle.std.proofs.lemmas.List.Elements.{All-head, All-tail}
use Rattle.ssr_syntax_kinds.specs.Kinds.{is_trivia, same_kind}
use Rattle.ssr_syntax_kinds.specs.declared.kinds.SyntaxKind.{SyntaxKind}
use Rattle.ssr_syntax_kinds.specs.declared.kinds.SyntaxKind.TheVariants as k
use Rattle.ssr_syntax_kinds.proofs.Shared.{same_kind-equal, equal-same_kind}
use Rattle.ssr_syntax_tree.specs.Syntax.{Syntax, token_count, tokens_in}
use Rattle.ssr_syntax_tree.specs.Places.{HasNode, HasToken, node_of, token_of}
use Rattle.ssr_syntax_tree.specs.declared.number.TokenNo.{TokenNo}
use Rattle.ssr_syntax_forms.specs.declared.tokens.Token.{Token}
use Rattle.ssr_syntax_forms.specs.Kinds.{mem}
use Rattle.ssr_syntax_forms.specs.Trees.{spell}
use Rattle.ssr_syntax_places.specs.Core.{Hole, Holes, are_spelled, is_no_hole, is_single}
use Rattle.ssr_syntax_places.specs.PlainCore.{forest_in, size_of_kind, solid_size, tokens_like}
use Rattle.ssr_syntax_places.proofs.Shared.{forest_size}
use Rattle.ssr_syntax_shorts.specs.Names.{place_of}
use Rattle.ssr_syntax_shorts.specs.Private.Marks.{IsOwn, IsMark, IsHeld}
use Rattle.ssr_syntax_shorts.proofs.Places.{some_size, like_length, place_grows, place_step, node_lies, only_token}

-- ** Tokens that are no names.

-- no other solid token has its place among those that one is joined from
apart : (s : Syntax) (t u i : ℕ) → HasToken s t → is_trivia (token_of s t).kind ≡ false → is_trivia (token_of s u).kind ≡ false
    → u ≢ t → i < size_of_kind (token_of s t).kind → place_of s u ≢ place_of s t + i
apart s t u i has solid other_solid other within same =
    elim (cases_lt u t) [
      | inl before ↦
          let grows = place_grows s (1 + u) t (omega arith) in
          let step = place_step s u (omega (arith, has, before)) other_solid in
          let some = some_size (token_of s u).kind in
          omega (arith, grows, step, some, same)
      | inr behind ↦
          let grows = place_grows s (1 + t) u (strictly behind) in
          let step = place_step s t has solid in
          omega (arith, grows, step, within, same)
    ] where
      strictly : t ≤ u → 1 + t ≤ u
      strictly le = elim (cases_lt t u) [ inl more ↦ omega (arith, more) | inr less ↦ absurd (other (omega (arith, le, less))) ]

false_by : (b : Bool) → (b ≡ true → ⊥) → b ≡ false
false_by true lacks = absurd (lacks refl)
false_by false _ = refl

or_false : (a b : Bool) → (a || b) ≡ false → (a ≡ false) × (b ≡ false)
or_false true b e = absurd (cc)
or_false false b e = (refl, e)

nat_same : (n : ℕ) → nat_eq n n ≡ true
nat_same n = eq-eqb n n refl

eqb_same : (a b : ℕ) → a ≡ b → (a == b) ≡ true
eqb_same a b e = eq-eqb a b e

none_there : (s : Syntax) (t i : ℕ) (names : List TokenNo) → HasToken s t → is_trivia (token_of s t).kind ≡ false
    → i < size_of_kind (token_of s t).kind → All (λ (name : TokenNo). is_trivia (token_of s name.0).kind ≡ false) names
    → list_any (λ (name : TokenNo). name.0 == t) names ≡ false → list_any (λ (name : TokenNo). place_of s name.0 == place_of s t + i) names ≡ false
none_there s t i [] has solid within all lacks = refl
none_there s t i (name ∷ names) has solid within all lacks =
    let parts = or_false (name.0 == t) (list_any (λ (name : TokenNo). name.0 == t) names) lacks in
    let P : TokenNo → Type 0 = λ (name : TokenNo). is_trivia (token_of s name.0).kind ≡ false in
    let other : name.0 ≢ t = λ e. clash (sym (eqb_same name.0 t e) ∙ parts.0) in
    let here : (place_of s name.0 == place_of s t + i) ≡ false =
    false_by (place_of s name.0 == place_of s t + i)
    (λ e. apart s t name.0 i has solid (All-head P name names all) other within (eqb-true (place_of s name.0) (place_of s t + i) e)) in
    ap (λ b. b || list_any (λ (name : TokenNo). place_of s name.0 == place_of s t + i) names) here
    ∙ none_there s t i names has solid within (All-tail P name names all) parts.1 where
      clash : true ≡ false → ⊥
      clash e = absurd (cc)

no_hole : (o : Option Hole) → is_some o ≡ false → is_no_hole o ≡ true
no_hole None e = refl
no_hole (Some hole) e = absurd (cc)

spelled_by : (holes : Holes) (at : ℕ) (us : List Token) → ((i : ℕ) → i < length us → is_no_hole (holes (at + i)) ≡ true) → are_spelled holes at us ≡ true
spelled_by holes at [] none = refl
spelled_by holes at (u ∷ us) none =
    and_from (is_no_hole (holes at)) (are_spelled holes (at + 1) us)
    (subst (λ n. is_no_hole (holes n) ≡ true) (let e : at + 0 ≡ at = omega arith in e) (none 0 (omega arith)))
    (spelled_by holes (at + 1) us
    (λ i h. subst (λ n. is_no_hole (holes n) ≡ true) (let e : at + suc i ≡ (at + 1) + i = omega arith in e) (none (suc i) (omega (arith, h)))))

pub own_by : (s : Syntax) (names : List TokenNo) (t : ℕ) → HasToken s t → is_trivia (token_of s t).kind ≡ false
    → list_any (λ (name : TokenNo). name.0 == t) names ≡ false → IsOwn s names t
own_by s names t has solid lacks holes are =
    spelled_by holes (place_of s t) (tokens_like (token_of s t).kind)
    (λ i h. no_hole (holes (place_of s t + i))
    (are.stand (place_of s t + i)
    ∙ none_there s t i names has solid (let e : i < size_of_kind (token_of s t).kind = omega (arith, h, like_length (token_of s t).kind) in e) are.solid lacks))

-- ** Marks.

any_mem : (kind : SyntaxKind) (kinds : List SyntaxKind) → list_any (λ own. same_kind kind own) kinds ≡ mem kind kinds
any_mem kind [] = refl
any_mem kind (own ∷ kinds) = ap (λ b. same_kind kind own || b) (any_mem kind kinds)

pub mark_of_kinds : (s : Syntax) (names : List TokenNo) (kinds : List SyntaxKind) (t : ℕ) → mem (token_of s t).kind kinds ≡ true
    → IsOwn s names t → IsMark s names kinds t
mark_of_kinds s names kinds t is own holes are =
    let kind : SyntaxKind = (token_of s t).kind in
    let more : List Token = replicate (size_of_kind kind - 1) (record { kind = kind; joined = kind; size = size_of_kind kind }) in
    let count : nat_eq (size_of_kind kind - 1) (length more) ≡ true =
    ap (nat_eq (size_of_kind kind - 1)) (length-replicate (size_of_kind kind - 1) (record { kind = kind; joined = kind; size = size_of_kind kind }))
    ∙ nat_same (size_of_kind kind - 1) in
    and_from ((mem kind kinds && nat_eq (size_of_kind kind - 1) (length more)) && same_kind kind kind) (are_spelled holes (place_of s t) (tokens_like kind))
    (and_from (mem kind kinds && nat_eq (size_of_kind kind - 1) (length more)) (same_kind kind kind)
    (and_from (mem kind kinds) (nat_eq (size_of_kind kind - 1) (length more)) is count)
    (equal-same_kind kind kind refl))
    (own holes are)

pub mark_by : (s : Syntax) (names : List TokenNo) (kinds : List SyntaxKind) (t : ℕ) → list_any (λ own. same_kind (token_of s t).kind own) kinds ≡ true
    → IsOwn s names t → IsMark s names kinds t
mark_by s names kinds t is own = mark_of_kinds s names kinds t (sym (any_mem (token_of s t).kind kinds) ∙ is) own

-- ** Names.

any_there : (s : Syntax) (t : ℕ) (names : List TokenNo) → list_any (λ (name : TokenNo). name.0 == t) names ≡ true
    → list_any (λ (name : TokenNo). place_of s name.0 == place_of s t) names ≡ true
any_there s t [] is = absurd (cc)
any_there s t (name ∷ names) is =
    elim (or_cases (name.0 == t) (list_any (λ (name : TokenNo). name.0 == t) names) is) [
      | inl here ↦
          ap (λ b. b || list_any (λ (name : TokenNo). place_of s name.0 == place_of s t) names)
          (eqb_same (place_of s name.0) (place_of s t) (ap (place_of s) (eqb-true name.0 t here)))
      | inr later ↦
          ap (λ b. (place_of s name.0 == place_of s t) || b) (any_there s t names later) ∙ or_true (place_of s name.0 == place_of s t)
    ] where
      or_true : (b : Bool) → (b || true) ≡ true
      or_true true = refl
      or_true false = refl

some_hole : (o : Option Hole) → is_some o ≡ true → not (is_no_hole o) ≡ true
some_hole None e = absurd (cc)
some_hole (Some hole) e = refl

single_by : (us : List Token) → length us ≡ 1 → is_single us ≡ true
single_by [] e = absurd (omega (arith, e))
single_by (u ∷ []) e = refl
single_by (u ∷ v ∷ us) e = absurd (omega (arith, e))

pub held_by : (s : Syntax) (names : List TokenNo) (n : ℕ) → HasNode s n → same_kind (node_of s n).kind k.PATH_EXPR ≡ true
    → token_count (node_of s n).children ≡ 1 → same_kind (token_of s (node_of s n).first).kind k.IDENT ≡ true
    → list_any (λ (name : TokenNo). name.0 == (node_of s n).first) names ≡ true → IsHeld s names n
held_by s names n has kind one ident is holes are =
    let node = node_of s n in
    let only = only_token s node.first node.children (node_lies s n has) one in
    let size : solid_size (tokens_in node.children) ≡ 1 =
    ap solid_size only ∙ ap (λ kind. size_so kind) (same_kind-equal (token_of s node.first).kind k.IDENT ident) in
    and_from (same_kind node.kind k.PATH_EXPR) (is_single (spell (forest_in node.children)) && not (is_no_hole (holes (place_of s node.first)))) kind
    (and_from (is_single (spell (forest_in node.children))) (not (is_no_hole (holes (place_of s node.first))))
    (single_by (spell (forest_in node.children)) (forest_size node.children ∙ size))
    (some_hole (holes (place_of s node.first)) (are.stand (place_of s node.first) ∙ any_there s node.first names is))) where
      size_so : SyntaxKind → ℕ
      size_so kind = solid_size (record { kind = kind; text = [] } ∷ [])
