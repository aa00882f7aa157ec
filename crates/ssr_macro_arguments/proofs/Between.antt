-- Tokens between brackets, number by number, and where tokens begin that are handed in.
use Rattle.std.proofs.Common.{◌≡◌, ℕ, Bool, true, false, not, cond, if◌then◌else◌, zero, suc, ◌+◌, ◌-◌, ◌<◌, ◌≤◌, List, [], ◌∷◌, ◌++◌, length, map, take, drop, get_or, slice_range, string_bytes, refl, ap, sym, ◌∙◌, subst, arith, zero-add, append-nil, length-append}
use Rattle.std.proofs.lemmas.Grind.{flat_map-append}
use Rattle.std.proofs.lemmas.List.{map-append, take_all, take_more, take-append-drop}
use Rattle.std.proofs.lemmas.List.FromFn.{length-map-range_with_len, get_or-map-range_with_len}
use Rattle.std.proofs.lemmas.Option.{slice_get_read}
use Rattle.std.specs.Cmp.{ranked}
use Rattle.std.proofs.lemmas.List.Elements.{All-get_or, All-push, filter-append}
use Rattle.std.specs.List.{All, AllZip, HoldsAt, filter, range_with_len}
use Rattle.std.specs.Option.{IsSomeAnd}
use Rattle.std.specs.Ordering.{nat_cmp}
use Rattle.std.specs.declared.cmp.Ordering.TheVariants.{Equal}
use Rattle.ssr_syntax.specs.Expansions.{expansion_text}
use Rattle.ssr_syntax.specs.declared.expansions.ExpToken.{ExpToken}
use Rattle.ssr_macro_arguments.specs.Arguments.{Piece, Spells, piece_of}
use Rattle.ssr_macro_arguments.specs.Calls.{IsHandedIn}
use Rattle.ssr_macro_arguments.specs.Private.Tokens.{AreSpelled}
use Rattle.ssr_macro_arguments.specs.Private.Starts.{start_at, starts_of}

range_suc : (a n : ℕ) → range_with_len a (suc n) ≡ range_with_len a n ++ (a + n) ∷ []
range_suc a zero = ap (λ m. m ∷ []) (let same : a ≡ a + 0 = omega arith in same)
range_suc a (suc n) =
    ap (λ (ns : List ℕ). a ∷ ns) (range_suc (a + 1) n ∙ ap (λ m. range_with_len (a + 1) n ++ m ∷ []) (let same : a + 1 + n ≡ a + suc n = omega arith in same))

range_more : (a n : ℕ) → range_with_len a (n + 1) ≡ range_with_len a n ++ (a + n) ∷ []
range_more a n = ap (range_with_len a) (let same : n + 1 ≡ suc n = omega arith in same) ∙ range_suc a n

-- ** Numbers of tokens, without those of white space and comments.

kept : (trivia : Bool) (ns : List ℕ) (n : ℕ) → (if trivia then ns else ns ++ n ∷ []) ≡ ns ++ cond (not trivia) (n ∷ []) []
kept true ns n = sym (append-nil ns)
kept false ns n = refl

-- one number more
pub solid_next : (trivia : ℕ → Bool) (ns later : List ℕ) (first n : ℕ) → first ≤ n → later ≡ (if trivia n then ns else ns ++ n ∷ [])
    → ns ≡ filter (λ t. not (trivia t)) (range_with_len first (n - first)) → later ≡ filter (λ t. not (trivia t)) (range_with_len first (n + 1 - first))
solid_next trivia ns later first n behind put is =
    let solid : ℕ → Bool = λ t. not (trivia t) in
    let before : List ℕ = range_with_len first (n - first) in
    let range : range_with_len first (n + 1 - first) ≡ before ++ n ∷ [] =
    ap (range_with_len first) (let same : n + 1 - first ≡ n - first + 1 = omega arith in same)
    ∙ range_more first (n - first) ∙ ap (λ m. before ++ m ∷ []) (let same : first + (n - first) ≡ n = omega arith in same) in
    put ∙ kept (trivia n) ns n ∙ ap (λ (front : List ℕ). front ++ cond (not (trivia n)) (n ∷ []) []) is
    ∙ sym (ap (filter solid) range ∙ filter-append solid before (n ∷ []))

pub had_next : (P : ℕ → Type 0) (trivia : Bool) (ns later : List ℕ) (n : ℕ) → later ≡ (if trivia then ns else ns ++ n ∷ []) → P n → All P ns → All P later
had_next P true ns later n put one all = subst (All P) (sym put) all
had_next P false ns later n put one all = subst (All P) (sym put) (All-push P ns n all one)

-- ** Arguments.

zip_more : {A B : Type 0} (R : A → B → Type 0) (xs : List A) (ys : List B) (x : A) (y : B) → AllZip R xs ys → R x y
    → AllZip R (xs ++ x ∷ []) (ys ++ y ∷ [])
zip_more R [] [] x y all one = (one, tt)
zip_more R [] (b ∷ ys) x y all one = absurd all
zip_more R (a ∷ xs) [] x y all one = absurd all
zip_more R (a ∷ xs) (b ∷ ys) x y all one = (all.0, zip_more R xs ys x y all.1 one)

-- one argument more, that of the next number
pub zip_next : {B : Type 0} (R : ℕ → B → Type 0) (ns : List ℕ) (ys later : List B) (i : ℕ) (y : B) → i < length ns → later ≡ ys ++ y ∷ []
    → AllZip R (take i ns) ys → R (get_or ns i 0) y → AllZip R (take (i + 1) ns) later
zip_next R ns ys later i y within put all one =
    subst (λ zs. AllZip R (take (i + 1) ns) zs) (sym put)
    (subst (λ zs. AllZip R zs (ys ++ y ∷ [])) (sym (take_more ns i 0 within)) (zip_more R (take i ns) ys (get_or ns i 0) y all one))

-- all numbers are gone over
pub all_taken : {B : Type 0} (R : ℕ → B → Type 0) (ns wanted : List ℕ) (ys : List B) (i : ℕ) → length ns ≤ i → ns ≡ wanted → AllZip R (take i ns) ys
    → AllZip R wanted ys
all_taken R ns wanted ys i whole is all = subst (λ zs. AllZip R zs ys) (take_all i ns whole ∙ is) all

-- ** Where tokens begin.

-- one start more
pub start_next : (tokens : List ExpToken) (starts later : List ℕ) (i start : ℕ) → later ≡ starts ++ start ∷ [] → start ≡ start_at tokens i
    → starts ≡ map (start_at tokens) (range_with_len 0 i) → later ≡ map (start_at tokens) (range_with_len 0 (i + 1))
start_next tokens starts later i start put at is =
    put ∙ ap (λ (xs : List ℕ). xs ++ start ∷ []) is
    ∙ ap (λ n. map (start_at tokens) (range_with_len 0 i) ++ n ∷ []) (at ∙ ap (start_at tokens) (sym (zero-add i)))
    ∙ sym (ap (map (start_at tokens)) (range_more 0 i) ∙ map-append (start_at tokens) (range_with_len 0 i) ((0 + i) ∷ []))

pub start_more : (tokens : List ExpToken) (i : ℕ) (token : ExpToken) → i < length tokens → token ≡ get_or tokens i token
    → start_at tokens (i + 1) ≡ start_at tokens i + length (string_bytes token.text)
start_more tokens i token within is =
    let front : take (i + 1) tokens ≡ take i tokens ++ token ∷ [] = take_more tokens i token within ∙ ap (λ t. take i tokens ++ t ∷ []) (sym is) in
    ap (λ ts. length (expansion_text ts)) front
    ∙ ap length (flat_map-append (λ (t : ExpToken). string_bytes t.text) (take i tokens) (token ∷ []) ∙ ap (λ (bs : List ℕ). expansion_text (take i tokens) ++ bs) (append-nil (string_bytes token.text)))
    ∙ length-append (expansion_text (take i tokens)) (string_bytes token.text)

pub start_within : (tokens : List ExpToken) (i : ℕ) → start_at tokens i ≤ length (expansion_text tokens)
start_within tokens i =
    let both : expansion_text tokens ≡ expansion_text (take i tokens) ++ expansion_text (drop i tokens) =
    ap expansion_text (sym (take-append-drop i tokens)) ∙ flat_map-append (λ (t : ExpToken). string_bytes t.text) (take i tokens) (drop i tokens) in
    omega (arith, ap length both, length-append (expansion_text (take i tokens)) (expansion_text (drop i tokens)))

-- ** A token that begins at a byte.

pub as_many : (tokens : List ExpToken) (starts : List ℕ) → starts ≡ starts_of tokens → length starts ≡ length tokens
as_many tokens starts are = ap length are ∙ length-map-range_with_len (start_at tokens) 0 (length tokens)

-- the one that a search for its start finds, once more
pub found_there : (tokens : List ExpToken) (starts : List ℕ) (place start : ℕ) (token copy : ExpToken) → starts ≡ starts_of tokens → place < length tokens
    → HoldsAt (λ y. nat_cmp y start ≡ Equal) starts place → token ≡ get_or tokens place token → piece_of copy ≡ piece_of token → IsHandedIn tokens start copy
found_there tokens starts place start token copy are within found is same = record {
  place = place;
  there =
      subst (λ o. IsSomeAnd o (λ own. piece_of own ≡ piece_of copy)) (sym (slice_get_read tokens (length tokens) place token refl within is)) (sym same);
  begins =
      sym (get_or-map-range_with_len (start_at tokens) 0 (length tokens) place place 0 within (zero-add place))
      ∙ ap (λ (ns : List ℕ). get_or ns place 0) (sym are) ∙ ranked (get_or starts place 0) start Equal (sym (found 0));
}

-- the text of a token that was handed in for one of the tree
pub text_there : (source own part handed bytes copied : List ℕ) (start end first past : ℕ) → own ≡ source → start ≡ first → end ≡ past
    → part ≡ slice_range own start end → handed ≡ part → handed ≡ bytes → copied ≡ bytes → slice_range source first past ≡ copied
text_there source own part handed bytes copied start end first past same at to there alike read again = cc

pub spelled_there : (text : List ℕ) (tokens : List ExpToken) (place : ℕ) (token : ExpToken) (piece : Piece) → place < length tokens
    → token ≡ get_or tokens place token → piece ≡ piece_of token → AreSpelled text tokens → Spells text piece
spelled_there text tokens place token piece within is same all =
    subst (Spells text) (sym same)
    (subst (λ (t : ExpToken). Spells text (piece_of t)) (sym is) (All-get_or (λ (t : ExpToken). Spells text (piece_of t)) tokens place token within all))
