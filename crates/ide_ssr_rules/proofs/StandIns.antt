-- Elements beside the tokens that are read for them.
use Rattle.std.proofs.Common.{◌≡◌, ℕ, zero, suc, ◌+◌, ◌<◌, Bool, cond, List, [], ◌∷◌, length, drop, get_or, Option, Some, None, refl, ap, ◌∙◌, sym, arith, true, false}
use Rattle.std.proofs.Math.Seq.{drop-nil}
use Rattle.std.proofs.lemmas.List.{drop_more}
use Rattle.std.specs.List.{slice_get}
use Rattle.std.specs.Option.{option_map_or}
use Rattle.std.specs.Str.{trim}
use Rattle.ssr_syntax_tree.specs.Syntax.{Token, same_token}
use Rattle.ide_ssr_rules.specs.declared.elements.Element.{Element}
use Rattle.ide_ssr_rules.specs.Elements.{lexed}
use Rattle.ide_ssr_rules.specs.StandIns.{code_of, read_as, glued_placeholder, first_glued, first_name}

-- ** The placeholders of a text that is lexed.

first_left : {X : Type 0} (xs : List X) (n : ℕ) → slice_get (drop n xs) 0 ≡ slice_get xs n
first_left [] n = ap (λ l. slice_get l 0) (drop-nil n)
first_left (x ∷ xs) zero = refl
first_left (x ∷ xs) (suc n) = first_left xs n

others_left : {X : Type 0} (xs : List X) (n : ℕ) → drop 1 (drop n xs) ≡ drop (n + 1) xs
others_left [] n = ap (drop 1) (drop-nil n) ∙ sym (drop-nil (n + 1))
others_left (x ∷ xs) zero = refl
others_left (x ∷ xs) (suc n) =
    let same : suc n + 1 ≡ suc (n + 1) = omega arith in
    others_left xs n ∙ ap (λ m. drop m (x ∷ xs)) (sym same)

-- whether an element is read as the token, if there is one
abbrev pub is_read : Element → Option Token → Bool
is_read element token = option_map_or (same_token (read_as element)) token false

glued_first : (e : Element) (es : List Element) (ts : List Token)
    → first_glued (e ∷ es) ts ≡ cond (is_read e (slice_get ts 0)) (first_glued es (drop 1 ts)) (Some (first_name (e ∷ es)))
glued_first e es [] = refl
glued_first e es (t ∷ ts) = refl

-- from one place on
pub glued_at : (es : List Element) (ts : List Token) (place : ℕ) (d : Element) → place < length es
    → first_glued (drop place es) (drop place ts)
    ≡ cond (is_read (get_or es place d) (slice_get ts place)) (first_glued (drop (place + 1) es) (drop (place + 1) ts)) (Some (first_name (drop place es)))
glued_at es ts place d small =
    let more = drop_more es place d small in
    ap (λ l. first_glued l (drop place ts)) more
    ∙ glued_first (get_or es place d) (drop (place + 1) es) (drop place ts)
    ∙ ap (λ t. cond (is_read (get_or es place d) t) (first_glued (drop (place + 1) es) (drop 1 (drop place ts)))
    (Some (first_name (get_or es place d ∷ drop (place + 1) es)))) (first_left ts place)
    ∙ ap (λ l. cond (is_read (get_or es place d) (slice_get ts place)) (first_glued (drop (place + 1) es) l)
    (Some (first_name (get_or es place d ∷ drop (place + 1) es)))) (others_left ts place)
    ∙ ap (λ l. cond (is_read (get_or es place d) (slice_get ts place)) (first_glued (drop (place + 1) es) (drop (place + 1) ts)) (Some (first_name l))) (sym more)

-- it stops at an element that isn't read
pub glued_here : (es : List Element) (ts : List Token) (place : ℕ) (e : Element) → place < length es → e ≡ get_or es place e → is_read e (slice_get ts place) ≡ false
    → first_glued (drop place es) (drop place ts) ≡ Some (first_name (drop place es))
glued_here es ts place e small is unread =
    glued_at es ts place e small
    ∙ ap (λ b. cond b (first_glued (drop (place + 1) es) (drop (place + 1) ts)) (Some (first_name (drop place es))))
    (ap (λ x. is_read x (slice_get ts place)) (sym is) ∙ unread)

-- and goes on behind one that is
pub glued_behind : (es : List Element) (ts : List Token) (place : ℕ) (e : Element) → place < length es → e ≡ get_or es place e → is_read e (slice_get ts place) ≡ true
    → first_glued (drop place es) (drop place ts) ≡ first_glued (drop (place + 1) es) (drop (place + 1) ts)
glued_behind es ts place e small is read =
    glued_at es ts place e small
    ∙ ap (λ b. cond b (first_glued (drop (place + 1) es) (drop (place + 1) ts)) (Some (first_name (drop place es))))
    (ap (λ x. is_read x (slice_get ts place)) (sym is) ∙ read)

pub glued_lexed : (es : List Element) (code : List ℕ) (ts : List Token) → code ≡ code_of es → lexed (trim code) ≡ Some ts → first_glued es ts ≡ glued_placeholder es
unfolding glued_placeholder
glued_lexed es code ts is lexes =
    ap (λ o. option_map_or (first_glued es) o (Some (first_name es))) (sym lexes ∙ ap (λ t. lexed (trim t)) is)

pub glued_fault : (es : List Element) (code : List ℕ) → code ≡ code_of es → lexed (trim code) ≡ None → Some (first_name es) ≡ glued_placeholder es
unfolding glued_placeholder
glued_fault es code is fault =
    ap (λ o. option_map_or (first_glued es) o (Some (first_name es))) (sym fault ∙ ap (λ t. lexed (trim t)) is)
