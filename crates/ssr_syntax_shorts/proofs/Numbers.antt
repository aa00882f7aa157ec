-- The numbers that names have among the tokens of a short text.
use Rattle.std.proofs.Common.{◌≡◌, ℕ, ◌+◌, ◌≤◌, nat_lt, Bool, true, false, not, ◌&&◌, if◌then◌else◌, List, [], ◌∷◌, ◌++◌, length, map, Some, refl, sym, ap, subst, ◌∙◌, arith, cond}
use Rattle.std.specs.Str.{IsUtf8}
use Rattle.std.proofs.lemmas.Bool.Decides.{nat_tests}
use Rattle.std.proofs.lemmas.List.{length-append}
use Rattle.std.proofs.lemmas.List.Sums.{sum_by-cons}
use Rattle.ssr_syntax_kinds.specs.Kinds.{is_trivia}
use Rattle.ssr_syntax_lex.specs.Seams.{moved as token_moved, all_in_front, side_by_side}
use Rattle.ssr_syntax_lex.specs.Tokens.{tokens, begins_with_punctuation, TilesFrom}
use Rattle.ssr_syntax_lex.specs.declared.tokens.RawToken.{RawToken}
use Rattle.ssr_syntax_lex.proofs.Shared.{tokens_tile, before_seam, behind_seam}
use Rattle.ssr_syntax_forms.specs.declared.tokens.Token.{Token}
use Rattle.ssr_syntax_rows.specs.Solid.{solid_token, solid_tokens}
use Rattle.ssr_syntax_places.specs.Core.{is_single}
use Rattle.ssr_syntax_places.specs.Insides.{with_inside, IsLexed}
use Rattle.ssr_syntax_places.specs.Woven.{Part, woven, AreWoven}
use Rattle.ssr_syntax_places.proofs.Shared.{woven_lexes}
use Rattle.ssr_syntax_shorts.specs.Names.{name_places}
use Rattle.ssr_syntax_shorts.specs.Shorts.{Stretch, names_from}
use Rattle.ssr_syntax_shorts.specs.Told.{solid_before}
use Rattle.ssr_syntax_shorts.specs.declared.stand_ins.Name.{Name}
use Rattle.ssr_syntax_shorts.proofs.PutNames.{AreMatched}

-- ** Tokens in front of a byte.

abbrev counts : ℕ → RawToken → Bool
counts byte t = not (is_trivia t.kind) && nat_lt t.range.start byte

before_cons : (byte : ℕ) (t : RawToken) (ts : List RawToken) → solid_before byte (t ∷ ts) ≡ cond (counts byte t) 1 0 + solid_before byte ts
before_cons byte t ts = sum_by-cons (λ (u : RawToken). cond (counts byte u) 1 0) t ts

-- those of a text that is in front of the byte are all of its solid ones
all_before : (text : List ℕ) (start byte : ℕ) (ts us : List RawToken) → TilesFrom text start ts → length text ≤ byte
    → solid_before byte (all_in_front ts us) ≡ length (solid_tokens ts) + solid_before byte us
all_before text start byte [] us tiles le = omega arith
all_before text start byte (t ∷ ts) us tiles le =
    let rest : solid_before byte (all_in_front ts us) ≡ length (solid_tokens ts) + solid_before byte us =
    all_before text t.range.end byte ts us tiles.3 le in
    let low : nat_lt t.range.start byte ≡ true = low_enough start t ts tiles in
    let first : solid_before byte (all_in_front (t ∷ ts) us) ≡ cond (counts byte t) 1 0 + solid_before byte (all_in_front ts us) =
    before_cons byte (record { kind = t.kind; range = t.range; joint = begins_with_punctuation (all_in_front ts us) }) (all_in_front ts us) in
    first ∙ one (is_trivia t.kind) (nat_lt t.range.start byte) low rest where
      within : (start : ℕ) (ts : List RawToken) → TilesFrom text start ts → start ≤ length text
      within start [] tiles = omega (arith, tiles)
      within start (t ∷ ts) tiles = omega (arith, tiles.1, within t.range.end ts tiles.3)

      low_enough : (start : ℕ) (t : RawToken) (ts : List RawToken) → TilesFrom text start (t ∷ ts) → nat_lt t.range.start byte ≡ true
      low_enough start t ts tiles = grind (arith, nat_tests, tiles.0, tiles.1, within t.range.end ts tiles.3, le)

      one : (trivia low : Bool) → low ≡ true → solid_before byte (all_in_front ts us) ≡ length (solid_tokens ts) + solid_before byte us
          → cond (not trivia && low) 1 0 + solid_before byte (all_in_front ts us)
          ≡ length (if trivia then solid_tokens ts else solid_token t ts ∷ solid_tokens ts) + solid_before byte us
      one true low e rest = omega (arith, rest)
      one false true e rest = omega (arith, rest)
      one false false e rest = absurd (cc)

-- those of a text so many bytes further on
moved_before : (n byte : ℕ) (us : List RawToken) → solid_before (n + byte) (map (token_moved n) us) ≡ solid_before byte us
moved_before n byte [] = refl
moved_before n byte (u ∷ us) =
    before_cons (n + byte) (token_moved n u) (map (token_moved n) us)
    ∙ ap (λ b. cond (not (is_trivia u.kind) && b) 1 0 + solid_before (n + byte) (map (token_moved n) us)) (same_less n u.range.start byte)
    ∙ ap (λ m. cond (counts byte u) 1 0 + m) (moved_before n byte us)
    ∙ sym (before_cons byte u us) where
      same_less : (n a b : ℕ) → nat_lt (n + a) (n + b) ≡ nat_lt a b
      same_less n a b = grind (arith, nat_tests)

pub side_before : (text : List ℕ) (byte : ℕ) (ts us : List RawToken) → IsUtf8 text → tokens text ≡ Some ts
    → solid_before (length text + byte) (side_by_side (length text) ts us) ≡ length (solid_tokens ts) + solid_before byte us
side_before text byte ts us utf8 lexes =
    all_before text 0 (length text + byte) ts (map (token_moved (length text)) us) (tokens_tile text ts utf8 lexes) (omega arith)
    ∙ ap (λ m. length (solid_tokens ts) + m) (moved_before (length text) byte us)

-- ** Parts.

-- the tokens of a part in front of others
front_raw : (p : Part) (rest : List ℕ) (raw after : List RawToken) → AreWoven (p ∷ []) rest → tokens rest ≡ Some after
    → tokens (with_inside p.front p.opening p.inside rest) ≡ Some raw
    → raw ≡ side_by_side (length p.front + 1) p.before (side_by_side (length p.inside) p.within after)
front_raw p [] raw after (utf8, opens, front_is, inside_is, seam, all) rest_is lexes = absurd (cc)
front_raw p (c ∷ rest) raw after (utf8, opens, front_is, inside_is, seam, all) rest_is lexes =
    let inner : List RawToken = side_by_side (length p.inside) p.within after in
    let inner_is = before_seam p.inside rest c p.within after inside_is.utf8 seam inside_is.lexes rest_is inside_is.ended in
    some_is raw (side_by_side (length p.front + 1) p.before inner)
    (sym lexes ∙ behind_seam p.front (p.inside ++ c ∷ rest) p.opening p.before inner utf8 opens front_is.lexes inner_is front_is.ended) where
      some_is : (x y : List RawToken) → Some x ≡ Some y → x ≡ y
      some_is x y e = cc

-- so many tokens are in front of a byte that far behind, and as many as the part has of a byte behind it
pub part_before : (p : Part) (byte : ℕ) (after : List RawToken) → IsLexed (p.front ++ p.opening ∷ []) p.before → IsLexed p.inside p.within
    → solid_before ((length p.front + 1) + (length p.inside + byte)) (side_by_side (length p.front + 1) p.before (side_by_side (length p.inside) p.within after))
    ≡ length (solid_tokens p.before) + (length (solid_tokens p.within) + solid_before byte after)
part_before p byte after front_is inside_is =
    let size : length (p.front ++ p.opening ∷ []) ≡ length p.front + 1 = length-append p.front (p.opening ∷ []) in
    let inner : List RawToken = side_by_side (length p.inside) p.within after in
    subst (λ n. solid_before (n + (length p.inside + byte)) (side_by_side n p.before inner) ≡ length (solid_tokens p.before) + solid_before (length p.inside + byte) inner) size
    (side_before (p.front ++ p.opening ∷ []) (length p.inside + byte) p.before inner front_is.utf8 front_is.lexes)
    ∙ ap (λ m. length (solid_tokens p.before) + m) (side_before p.inside byte p.within after inside_is.utf8 inside_is.lexes)

none_before : (ts : List RawToken) → solid_before 0 ts ≡ 0
none_before [] = refl
none_before (t ∷ ts) = before_cons 0 t ts ∙ nothing (is_trivia t.kind) (nat_lt t.range.start 0) (solid_before 0 ts) (none_before ts) (grind (arith, nat_tests)) where
  nothing : (trivia low : Bool) (n : ℕ) → n ≡ 0 → low ≡ false → cond (not trivia && low) 1 0 + n ≡ 0
  nothing true low n none e = omega (arith, none)
  nothing false false n none e = omega (arith, none)
  nothing false true n none e = absurd (cc)

pub name_before : (p : Part) (after : List RawToken) → IsLexed (p.front ++ p.opening ∷ []) p.before
    → solid_before (length p.front + 1) (side_by_side (length p.front + 1) p.before after) ≡ length (solid_tokens p.before)
name_before p after front_is =
    let size : length (p.front ++ p.opening ∷ []) ≡ length p.front + 1 = length-append p.front (p.opening ∷ []) in
    let none : (length p.front + 1) + 0 ≡ length p.front + 1 = omega arith in
    let count : solid_before ((length p.front + 1) + 0) (side_by_side (length p.front + 1) p.before after) ≡ length (solid_tokens p.before) + solid_before 0 after =
    subst (λ n. solid_before (n + 0) (side_by_side n p.before after) ≡ length (solid_tokens p.before) + solid_before 0 after) size
    (side_before (p.front ++ p.opening ∷ []) 0 p.before after front_is.utf8 front_is.lexes) in
    ap (λ n. solid_before n (side_by_side (length p.front + 1) p.before after)) (sym none) ∙ count
    ∙ omega (arith, none_before after)

-- ** All names.

single_one : (us : List Token) → is_single us ≡ true → length us ≡ 1
single_one [] is = absurd (cc)
single_one (t ∷ []) is = refl
single_one (t ∷ u ∷ us) is = absurd (cc)

-- so many tokens are in front of a byte of all tokens as of the same byte of those that are left, and `base` ones more
abbrev AreBehind : ℕ → ℕ → List RawToken → List RawToken → Type 0
AreBehind at base all raw = (byte : ℕ) → solid_before (at + byte) all ≡ base + solid_before byte raw

number_cons : (n m : ℕ) (ns ms : List ℕ) → n ≡ m → ns ≡ ms → n ∷ ns ≡ m ∷ ms
number_cons n m ns ms e f = ap (λ k. k ∷ ns) e ∙ ap (λ l. m ∷ l) f

pub names_numbered : (at base : ℕ) (all raw : List RawToken) (ps qs : List Part) (ss : List Stretch) (last : List ℕ) (after : List RawToken)
    → AreWoven ps last → tokens last ≡ Some after → AreMatched ps qs ss → tokens (woven ps last) ≡ Some raw → AreBehind at base all raw
    → map (λ (name : Name). solid_before name.at all) (names_from at ss) ≡ name_places base ps
names_numbered at base all raw [] [] [] last after woven_is lexes matched raw_is behind = refl
names_numbered at base all raw (p ∷ ps) (q ∷ qs) (s ∷ ss) last after (utf8, opens, front_is, name_is, seam, are) lexes (here, matched) raw_is behind =
    let (rest, rest_lexes, rest_solid, rest_pieces) = woven_lexes ps last after are lexes in
    let a : ℕ = length p.front + 1 in
    let front : length s.front + 1 ≡ a = ap (λ l. length l + 1) (sym here.front) in
    let inner : List RawToken = side_by_side (length p.inside) p.within rest in
    let whole : raw ≡ side_by_side a p.before inner =
    front_raw p (woven ps last) raw rest (utf8, opens, front_is, name_is, seam, tt) rest_lexes raw_is in
    let name : solid_before a raw ≡ length (solid_tokens p.before) = ap (solid_before a) whole ∙ name_before p inner front_is in
    let one : length p.inside ≡ 1 = ap length here.name in
    let single : length (solid_tokens p.within) ≡ 1 = single_one (solid_tokens p.within) here.single in
    let next : ℕ = at + ((length s.front + 1) + 1) in
    let next_base : ℕ = (base + length (solid_tokens p.before)) + 1 in
    let further : AreBehind next next_base all rest =
    λ byte. let place : next + byte ≡ at + (a + (length p.inside + byte)) = omega (arith, front, one) in
    let part : solid_before (a + (length p.inside + byte)) raw ≡ length (solid_tokens p.before) + (length (solid_tokens p.within) + solid_before byte rest) =
    ap (solid_before (a + (length p.inside + byte))) whole ∙ part_before p byte rest front_is name_is in
    ap (λ n. solid_before n all) place ∙ behind (a + (length p.inside + byte)) ∙ omega (arith, part, single) in
    number_cons (solid_before (at + (length s.front + 1)) all) (base + length (solid_tokens p.before))
    (map (λ (n : Name). solid_before n.at all) (names_from next ss)) (name_places next_base ps)
    (ap (λ n. solid_before (at + n) all) front ∙ behind a ∙ ap (λ n. base + n) name)
    (names_numbered next next_base all rest ps qs ss last after are lexes matched rest_lexes further)
names_numbered at base all raw _ _ _ last after woven_is lexes matched raw_is behind = absurd matched
