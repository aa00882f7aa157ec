-- Short texts behind one another.
use Rattle.std.proofs.Common.{◌≡◌, ℕ, ◌+◌, ◌-◌, ◌<◌, ◌≤◌, nat_lt, Bool, true, false, if◌then◌else◌, List, [], ◌∷◌, ◌++◌, length, map, refl, sym, ap, subst, ◌∙◌, arith, append_assoc}
use Rattle.std.specs.Prelude.{max}
use Rattle.std.proofs.lemmas.List.{length-append}
use Rattle.std.proofs.lemmas.Str.{IsUtf8-append, IsUtf8-nil, encode_ascii}
use Rattle.std.specs.Str.{IsUtf8, all_scalars}
use Rattle.ssr_syntax_kinds.specs.declared.fragment.Fragment.TheVariants as fragments
use Rattle.ssr_syntax_kinds.specs.declared.reach.Reach.{Reach}
use Rattle.ssr_syntax.specs.Reading.{trimmed}
use Rattle.ssr_syntax.proofs.Shared.{fragment_sound_of}
use Rattle.ssr_syntax_places.specs.Insides.{with_inside}
use Rattle.ssr_syntax_shorts.specs.Shorts.{Inside, Stretch, ShortText, ShortRead, the_name, opening, closes, short_text, long_text, names_from, AreStretches, IsShort, as_it_is, moved, joined, in_parentheses, long_place, IsOutside, IsReadOf}
use Rattle.ssr_syntax_shorts.specs.declared.stand_ins.Name.{Name}

-- ** The texts of both.

-- stretches behind a text
abbrev behind : List ℕ → List Stretch → List Stretch
behind last [] = []
behind last (t ∷ ts) = record { front = last ++ t.front; inside = t.inside } ∷ ts

abbrev last_of : List ℕ → List Stretch → List ℕ → List ℕ
last_of last [] more = last ++ more
last_of last (t ∷ ts) more = more

inside_append : (front : List ℕ) (c : ℕ) (inside a b : List ℕ) → with_inside front c inside (a ++ b) ≡ with_inside front c inside a ++ b
inside_append front c inside a b =
    ap (λ l. front ++ (c ∷ l)) (sym (append_assoc inside a b)) ∙ sym (append_assoc front (c ∷ (inside ++ a)) b)

short_behind : (last : List ℕ) (ts : List Stretch) (more : List ℕ) → short_text (behind last ts) (last_of last ts more) ≡ last ++ short_text ts more
short_behind last [] more = refl
short_behind last (t ∷ ts) more = append_assoc last t.front (opening ∷ (the_name ++ short_text ts more))

long_behind : (last : List ℕ) (ts : List Stretch) (more : List ℕ) → long_text (behind last ts) (last_of last ts more) ≡ last ++ long_text ts more
long_behind last [] more = refl
long_behind last (t ∷ ts) more = append_assoc last t.front (opening ∷ (t.inside.text ++ long_text ts more))

short_joined : (ss ts : List Stretch) (last more : List ℕ)
    → short_text (ss ++ behind last ts) (last_of last ts more) ≡ short_text ss last ++ short_text ts more
short_joined [] ts last more = short_behind last ts more
short_joined (s ∷ ss) ts last more =
    ap (with_inside s.front opening the_name) (short_joined ss ts last more)
    ∙ inside_append s.front opening the_name (short_text ss last) (short_text ts more)

long_joined : (ss ts : List Stretch) (last more : List ℕ)
    → long_text (ss ++ behind last ts) (last_of last ts more) ≡ long_text ss last ++ long_text ts more
long_joined [] ts last more = long_behind last ts more
long_joined (s ∷ ss) ts last more =
    ap (with_inside s.front opening s.inside.text) (long_joined ss ts last more)
    ∙ inside_append s.front opening s.inside.text (long_text ss last) (long_text ts more)

inside_length : (front : List ℕ) (c : ℕ) (inside rest : List ℕ)
    → length (with_inside front c inside rest) ≡ ((length front + 1) + length inside) + length rest
inside_length front c inside rest =
    omega (arith, length-append front (c ∷ (inside ++ rest)), length-append inside rest)

-- ** The names of both.

pub name_cons : (a b bytes : ℕ) (x y : List Name) → a ≡ b → x ≡ y
    → record { at = a; bytes = bytes } ∷ x ≡ record { at = b; bytes = bytes } ∷ y
name_cons a b bytes x y e f =
    ap (λ n. record { at = n; bytes = bytes } ∷ x) e ∙ ap (λ (l : List Name). record { at = b; bytes = bytes } ∷ l) f

pub names_moved : (n m : ℕ) (ts : List Stretch) → names_from (n + m) ts ≡ map (moved n) (names_from m ts)
names_moved n m [] = refl
names_moved n m (t ∷ ts) =
    let size : ℕ = (length t.front + 1) + 1 in
    name_cons ((n + m) + (length t.front + 1)) (n + (m + (length t.front + 1))) (length t.inside.text)
    (names_from ((n + m) + size) ts) (map (moved n) (names_from (m + size) ts)) (omega arith)
    (ap (λ k. names_from k ts) (omega arith) ∙ names_moved n (m + size) ts)

names_behind : (at : ℕ) (last : List ℕ) (ts : List Stretch)
    → names_from at (behind last ts) ≡ map (moved (at + length last)) (names_from 0 ts)
names_behind at last [] = refl
names_behind at last (t ∷ ts) =
    let size : ℕ = (length t.front + 1) + 1 in
    let all : ℕ = at + length last in
    let long : length (last ++ t.front) ≡ length last + length t.front = length-append last t.front in
    name_cons (at + (length (last ++ t.front) + 1)) (all + (0 + (length t.front + 1))) (length t.inside.text)
    (names_from (at + ((length (last ++ t.front) + 1) + 1)) ts) (map (moved all) (names_from (0 + size) ts)) (omega (arith, long))
    (ap (λ k. names_from k ts) (omega (arith, long)) ∙ names_moved all (0 + size) ts)

name_first : (name : Name) (x y z : List Name) → x ≡ y ++ z → name ∷ x ≡ (name ∷ y) ++ z
name_first name x y z e = ap (λ l. name ∷ l) e

names_joined : (at : ℕ) (ss ts : List Stretch) (last : List ℕ)
    → names_from at (ss ++ behind last ts) ≡ names_from at ss ++ map (moved (at + length (short_text ss last))) (names_from 0 ts)
names_joined at [] ts last = names_behind at last ts
names_joined at (s ∷ ss) ts last =
    let next : ℕ = at + ((length s.front + 1) + 1) in
    let sum : next + length (short_text ss last) ≡ at + length (short_text (s ∷ ss) last) =
    omega (arith, inside_length s.front opening the_name (short_text ss last)) in
    name_first (record { at = at + (length s.front + 1); bytes = length s.inside.text }) (names_from next (ss ++ behind last ts)) (names_from next ss)
    (map (moved (at + length (short_text (s ∷ ss) last))) (names_from 0 ts))
    (names_joined next ss ts last ∙ ap (λ n. names_from next ss ++ map (moved n) (names_from 0 ts)) sum)

-- ** What is known of both.

deeper : (reach : Reach) (d e : ℕ) (ss : List Stretch) (last : List ℕ) → d ≤ e → AreStretches reach d ss last → AreStretches reach e ss last
deeper reach d e [] last le are = tt
deeper reach d e (s ∷ ss) last le (utf8, shut, inside, are) = (
  utf8,
  shut,
  record { utf8 = inside.utf8; alone = inside.alone; some = inside.some; fits = inside.fits; deep = omega (arith, inside.deep, le) },
  deeper reach d e ss last le are,
)

closes_append : (a b : List ℕ) → closes a ≡ true → closes (a ++ b) ≡ true
closes_append [] b is = absurd (cc)
closes_append (c ∷ cs) b is = is

are_joined : (reach : Reach) (d : ℕ) (ss ts : List Stretch) (last more : List ℕ) → AreStretches reach d ss last → IsUtf8 last
    → AreStretches reach d ts more → AreStretches reach d (ss ++ behind last ts) (last_of last ts more)
are_joined reach d [] [] last more are utf8 others = tt
are_joined reach d [] (t ∷ ts) last more are utf8 (front, shut, inside, others) = (IsUtf8-append last t.front utf8 front, shut, inside, others)
are_joined reach d (s ∷ ss) ts last more (front, shut, inside, are) utf8 others = (
  front,
  ap closes (short_joined ss ts last more) ∙ closes_append (short_text ss last) (short_text ts more) shut,
  inside,
  are_joined reach d ss ts last more are utf8 others,
)

utf8_joined : (ts : List Stretch) (last more : List ℕ) → IsUtf8 last → IsUtf8 more → IsUtf8 (last_of last ts more)
utf8_joined [] last more utf8 others = IsUtf8-append last more utf8 others
utf8_joined (t ∷ ts) last more utf8 others = others

-- ** The laws.

-- a character below 128
pub utf8_ascii : (c : ℕ) → all_scalars (c ∷ []) ≡ true → c < 128 → IsUtf8 (c ∷ [])
utf8_ascii c scalar low = (c ∷ [], (scalar, ap (λ l. l ++ []) (encode_ascii c low)))

both : (x y z w : List ℕ) → x ≡ y → z ≡ w → x ++ z ≡ y ++ w
both x y z w e f = ap (λ l. l ++ z) e ∙ ap (λ l. y ++ l) f

joined_names : (x y : List Name) (n m : ℕ) (z w : List Name) → x ≡ y → n ≡ m → z ≡ w → x ++ map (moved n) z ≡ y ++ map (moved m) w
joined_names x y n m z w e f g = ap (λ l. l ++ map (moved n) z) e ∙ ap (λ k. y ++ map (moved k) z) f ∙ ap (λ l. y ++ map (moved m) l) g

pub is_joined : (reach : Reach) (a b : ShortText) (long more : List ℕ) → IsShort reach a long → IsShort reach b more
    → IsShort reach (joined a b) (long ++ more)
is_joined reach a b long more is other =
    let ss : List Stretch = is.stretches in
    let ts : List Stretch = other.stretches in
    record {
      stretches = ss ++ behind is.last ts;
      last = last_of is.last ts other.last;
      text_is = both a.text (short_text ss is.last) b.text (short_text ts other.last) is.text_is other.text_is ∙ sym (short_joined ss ts is.last other.last);
      names_are = joined_names a.names (names_from 0 ss) (length a.text) (0 + length (short_text ss is.last)) b.names (names_from 0 ts) is.names_are
          (omega (arith, ap length is.text_is)) other.names_are ∙ sym (names_joined 0 ss ts is.last);
      long_is = both long (long_text ss is.last) more (long_text ts other.last) is.long_is other.long_is ∙ sym (long_joined ss ts is.last other.last);
      are = are_joined reach (max a.depth b.depth) ss ts is.last other.last (deeper reach a.depth (max a.depth b.depth) ss is.last (omega arith) is.are) is.utf8
          (deeper reach b.depth (max a.depth b.depth) ts other.last (omega arith) other.are);
      utf8 = utf8_joined ts is.last other.last is.utf8 other.utf8;
    }

pub is_as_it_is : (reach : Reach) (text : List ℕ) → IsUtf8 text → IsShort reach (as_it_is text) text
is_as_it_is reach text utf8 =
    record { stretches = []; last = text; text_is = refl; names_are = refl; long_is = refl; are = tt; utf8 = utf8 }

pub is_in_parentheses : (reach : Reach) (read : ShortRead) (long : List ℕ) → IsReadOf reach read long
    → IsShort reach (in_parentheses read.bytes read.depth) (opening ∷ (long ++ (41 ∷ [])))
is_in_parentheses reach read long is =
    let inside : Inside = record { text = long; syntax = is.syntax } in
    let utf8 : IsUtf8 (trimmed long) = subst IsUtf8 (sym is.alone) is.utf8 in
    record {
      stretches = record { front = []; inside = inside } ∷ [];
      last = 41 ∷ [];
      text_is = refl;
      names_are = ap (λ (n : ℕ). record { at = 1; bytes = n } ∷ []) is.counted;
      long_is = refl;
      are = (
        IsUtf8-nil,
        refl,
        record {
          utf8 = is.utf8;
          alone = is.alone;
          some = is.some;
          fits = (fragment_sound_of reach fragments.Expr long is.syntax utf8 is.reads).fits;
          deep = is.deep;
        },
        tt,
      );
      utf8 = utf8_ascii 41 refl (omega arith);
    }

-- ** Where they meet.

outside_append : (xs ys : List Name) (n : ℕ) → IsOutside xs n → IsOutside ys n → IsOutside (xs ++ ys) n
outside_append [] ys n is other = other
outside_append (x ∷ xs) ys n (begins, ends, is) other = (begins, ends, outside_append xs ys n is other)

closed_some : (text : List ℕ) → closes text ≡ true → 0 < length text
closed_some [] is = absurd (cc)
closed_some (c ∷ cs) is = omega arith

outside_end : (reach : Reach) (d at n : ℕ) (ss : List Stretch) (last : List ℕ) → AreStretches reach d ss last
    → n ≡ at + length (short_text ss last) → IsOutside (names_from at ss) n
outside_end reach d at n [] last are e = tt
outside_end reach d at n (s ∷ ss) last (utf8, shut, inside, are) e =
    let some : 0 < length (short_text ss last) = closed_some (short_text ss last) shut in
    let long : length (short_text (s ∷ ss) last) ≡ ((length s.front + 1) + 1) + length (short_text ss last) =
    inside_length s.front opening the_name (short_text ss last) in (
      λ same. omega (arith, same, e, some, long),
      λ same. omega (arith, same, e, some, long),
      outside_end reach d (at + ((length s.front + 1) + 1)) n ss last are (omega (arith, e, long)),
    )

outside_begin : (n m : ℕ) (ts : List Stretch) → IsOutside (map (moved n) (names_from m ts)) n
outside_begin n m [] = tt
outside_begin n m (t ∷ ts) = (λ same. omega (arith, same), λ same. omega (arith, same), outside_begin n (m + ((length t.front + 1) + 1)) ts)

pub joined_outside : (reach : Reach) (a b : ShortText) (long more : List ℕ) → IsShort reach a long → IsShort reach b more
    → IsOutside (joined a b).names (length a.text)
joined_outside reach a b long more is other =
    let n : ℕ = length a.text in
    outside_append a.names (map (moved n) b.names) n
    (subst (λ l. IsOutside l n) (sym is.names_are) (outside_end reach a.depth 0 n is.stretches is.last is.are (omega (arith, ap length is.text_is))))
    (subst (λ l. IsOutside (map (moved n) l) n) (sym other.names_are) (outside_begin n 0 other.stretches))

-- so many bytes that the long text has more are in front
place_begin : (n m : ℕ) (ts : List Stretch) → long_place (map (moved n) (names_from m ts)) n ≡ n
place_begin n m [] = refl
place_begin n m (t ∷ ts) =
    let at : ℕ = n + (m + (length t.front + 1)) in
    not_yet (nat_lt at n) (length t.inside.text) (long_place (map (moved n) (names_from (m + ((length t.front + 1) + 1)) ts)) n) n (grind arith) where
      not_yet : (b : Bool) (bytes more n : ℕ) → b ≡ false → (if b then (bytes - 1) + more else n) ≡ n
      not_yet true bytes more n e = absurd (cc)
      not_yet false bytes more n e = refl

place_end : (reach : Reach) (d at n : ℕ) (ss ts : List Stretch) (last : List ℕ) → AreStretches reach d ss last
    → n ≡ at + length (short_text ss last)
    → long_place (names_from at ss ++ map (moved n) (names_from 0 ts)) n + length (short_text ss last) ≡ n + length (long_text ss last)
place_end reach d at n [] ts last are e = ap (λ k. k + length last) (place_begin n 0 ts)
place_end reach d at n (s ∷ ss) ts last (utf8, shut, inside, are) e =
    let next : ℕ = at + ((length s.front + 1) + 1) in
    let rest : ℕ = long_place (names_from next ss ++ map (moved n) (names_from 0 ts)) n in
    let bytes : ℕ = length s.inside.text in
    let short_is : length (short_text (s ∷ ss) last) ≡ ((length s.front + 1) + 1) + length (short_text ss last) =
    inside_length s.front opening the_name (short_text ss last) in
    let long_is : length (long_text (s ∷ ss) last) ≡ ((length s.front + 1) + bytes) + length (long_text ss last) =
    inside_length s.front opening s.inside.text (long_text ss last) in
    let further : rest + length (short_text ss last) ≡ n + length (long_text ss last) =
    place_end reach d next n ss ts last are (omega (arith, e, short_is)) in
    let past : nat_lt (at + (length s.front + 1)) n ≡ true = grind (arith, e, short_is) in
    let here : (if nat_lt (at + (length s.front + 1)) n then (bytes - 1) + rest else n) ≡ (bytes - 1) + rest =
    ap (λ (b : Bool). if b then (bytes - 1) + rest else n) past in
    omega (arith, here, further, short_is, long_is, inside.some)

pub joined_places : (reach : Reach) (a b : ShortText) (long more : List ℕ) → IsShort reach a long → IsShort reach b more
    → long_place (joined a b).names (length a.text) ≡ length long
joined_places reach a b long more is other =
    let n : ℕ = length a.text in
    let size : n ≡ 0 + length (short_text is.stretches is.last) = omega (arith, ap length is.text_is) in
    let same : long_place (joined a b).names n ≡ long_place (names_from 0 is.stretches ++ map (moved n) (names_from 0 other.stretches)) n =
    ap (λ l. long_place l n) (joined_names a.names (names_from 0 is.stretches) n n b.names (names_from 0 other.stretches) is.names_are refl other.names_are) in
    omega (arith, same, size, place_end reach a.depth 0 n is.stretches other.stretches is.last is.are size, ap length is.long_is)
