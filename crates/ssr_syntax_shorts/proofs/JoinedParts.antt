-- The short text of parts behind one another, and where they stand in it.
use Rattle.std.proofs.Common.{◌≡◌, ℕ, zero, suc, ◌+◌, ◌<◌, ◌&&◌, not, Bool, true, List, [], ◌∷◌, ◌++◌, length, map, take, get_or, refl, sym, ap, subst, ◌∙◌, arith, append_assoc}
use Rattle.std.specs.Prelude.{Result, Ok, Err, Option, Some, None, IfOk, IfSome}
use Rattle.std.specs.Str.{IsUtf8}
use Rattle.std.proofs.lemmas.List.{append-nil, flat_map_more, length-append, map-append, take_more}
use Rattle.std.proofs.lemmas.List.Concat.{flat_map-cons}
use Rattle.std.proofs.lemmas.Str.{IsUtf8-nil}
use Rattle.ssr_syntax_kinds.specs.declared.fragment.Fragment.TheVariants as fragments
use Rattle.ssr_syntax_kinds.specs.declared.reach.Reach.{Reach}
use Rattle.ssr_syntax_tree.specs.Syntax.{Syntax}
use Rattle.ssr_syntax.specs.Reading.{fragment_reading_of, trimmed_front}
use Rattle.ssr_syntax_places.specs.Spans.{has_node_at}
use Rattle.ssr_syntax_shorts.specs.Made.{ArePutTogether, is_loose, is_piece, plain_of, put_together, text_of, unless_tight}
use Rattle.ssr_syntax_shorts.specs.Private.Joining.{AreJoined, ArePlaced, IsAt, IsPushed, IsSeam, parts_of}
use Rattle.ssr_syntax_shorts.specs.Shorts.{ShortRead, ShortText, IsOutside, IsReadOf, IsShort, as_it_is, in_parentheses, joined, long_place, moved, opening}
use Rattle.ssr_syntax_shorts.specs.declared.joining.Placed.{Placed}
use Rattle.ssr_syntax_shorts.specs.declared.parts.Part.{Part}
use Rattle.ssr_syntax_shorts.specs.declared.stand_ins.Name.{Name}
use Rattle.ssr_syntax_shorts.proofs.Joined.{is_as_it_is, is_in_parentheses, is_joined, joined_outside, joined_places, name_cons, utf8_ascii}

-- ** Short texts behind one another.

abbrev short_of : List ℕ → List Name → ℕ → ShortText
short_of text names depth = record { text = text; names = names; depth = depth }

short_same : (a b : ShortText) → a.text ≡ b.text → a.names ≡ b.names → a.depth ≡ b.depth → a ≡ b
short_same a b texts names depths =
    ap (λ t. short_of t a.names a.depth) texts ∙ ap (λ l. short_of b.text l a.depth) names ∙ ap (λ d. short_of b.text b.names d) depths

moved_twice : (n m k : ℕ) (ns : List Name) → k ≡ n + m → map (moved n) (map (moved m) ns) ≡ map (moved k) ns
moved_twice n m k [] e = refl
moved_twice n m k (x ∷ xs) e =
    name_cons (n + (m + x.at)) (k + x.at) x.bytes (map (moved n) (map (moved m) xs)) (map (moved k) xs) (omega (arith, e)) (moved_twice n m k xs e)

names_assoc : (n m k : ℕ) (xs ys zs : List Name) → k ≡ n + m
    → (xs ++ map (moved n) ys) ++ map (moved k) zs ≡ xs ++ map (moved n) (ys ++ map (moved m) zs)
names_assoc n m k xs ys zs e =
    append_assoc xs (map (moved n) ys) (map (moved k) zs)
    ∙ ap (λ l. xs ++ (map (moved n) ys ++ l)) (sym (moved_twice n m k zs e))
    ∙ ap (λ l. xs ++ l) (sym (map-append (moved n) ys (map (moved m) zs)))

joined_assoc : (a b c : ShortText) → joined (joined a b) c ≡ joined a (joined b c)
joined_assoc a b c =
    short_same (joined (joined a b) c) (joined a (joined b c)) (append_assoc a.text b.text c.text)
    (names_assoc (length a.text) (length b.text) (length (a.text ++ b.text)) a.names b.names c.names (length-append a.text b.text))
    (omega arith)

joined_nil : (a : ShortText) → joined a (as_it_is []) ≡ a
joined_nil a = short_same (joined a (as_it_is [])) a (append-nil a.text) (append-nil a.names) (omega arith)

-- ** What is pushed.

pub pushed_more : (reach : Reach) (t u : List ℕ) (a b c : ShortText) → IsPushed reach t a b → IsPushed reach u b c → IsPushed reach (t ++ u) a c
pushed_more reach t u a b c first second = record {
  more = joined first.more second.more;
  is = is_joined reach first.more second.more t u first.is second.is;
  becomes = second.becomes ∙ ap (λ s. joined s second.more) first.becomes ∙ joined_assoc a first.more second.more;
}

pub as_pushed : (reach : Reach) (t : List ℕ) (a b : ShortText) → IsUtf8 t → b ≡ joined a (as_it_is t) → IsPushed reach t a b
as_pushed reach t a b utf8 e = record { more = as_it_is t; is = is_as_it_is reach t utf8; becomes = e }

-- a name in parentheses, for what was read
pub name_pushed : (reach : Reach) (read : ShortRead) (long : List ℕ) (a b : ShortText) → IsReadOf reach read long
    → b ≡ joined a (in_parentheses read.bytes read.depth) → IsPushed reach (opening ∷ (long ++ 41 ∷ [])) a b
name_pushed reach read long a b is e =
    record { more = in_parentheses read.bytes read.depth; is = is_in_parentheses reach read long is; becomes = e }

-- a short text between parentheses
pub between_pushed : (reach : Reach) (long : List ℕ) (own a b c d : ShortText) → IsShort reach own long → b ≡ joined a (as_it_is (opening ∷ []))
    → c ≡ joined b own → d ≡ joined c (as_it_is (41 ∷ [])) → IsPushed reach (opening ∷ (long ++ 41 ∷ [])) a d
between_pushed reach long own a b c d is opens inside closes =
    let first : IsPushed reach (opening ∷ []) a b = as_pushed reach (opening ∷ []) a b (utf8_ascii opening refl (omega arith)) opens in
    let last : IsPushed reach (41 ∷ []) c d = as_pushed reach (41 ∷ []) c d (utf8_ascii 41 refl (omega arith)) closes in
    pushed_more reach (opening ∷ long) (41 ∷ []) a c d
    (pushed_more reach (opening ∷ []) long a b c first (record { more = own; is = is; becomes = inside })) last

pub short_pushed : (reach : Reach) (t old : List ℕ) (a b : ShortText) → IsShort reach a old → IsPushed reach t a b → IsShort reach b (old ++ t)
short_pushed reach t old a b is pushed =
    subst (λ s. IsShort reach s (old ++ t)) (sym pushed.becomes) (is_joined reach a pushed.more old t is pushed.is)

-- ** Places where two halves meet.

seam_kept : (reach : Reach) (t long : List ℕ) (a b : ShortText) (m n : ℕ) → IsSeam reach a long m n → IsPushed reach t a b
    → IsSeam reach b (long ++ t) m n
seam_kept reach t long a b m n seam pushed = record {
  front = seam.front;
  behind = joined seam.behind pushed.more;
  long_front = seam.long_front;
  long_behind = seam.long_behind ++ t;
  short_is = pushed.becomes ∙ ap (λ s. joined s pushed.more) seam.short_is ∙ joined_assoc seam.front seam.behind pushed.more;
  long_is = ap (λ l. l ++ t) seam.long_is ∙ append_assoc seam.long_front seam.long_behind t;
  is_front = seam.is_front;
  is_behind = is_joined reach seam.behind pushed.more seam.long_behind t seam.is_behind pushed.is;
  short_at = seam.short_at;
  long_at = seam.long_at;
}

seam_before : (reach : Reach) (t long : List ℕ) (a b : ShortText) (m : ℕ) → IsShort reach a long → IsPushed reach t a b → m ≡ length a.text
    → IsSeam reach b (long ++ t) m (length long)
seam_before reach t long a b m is pushed e = record {
  front = a;
  behind = pushed.more;
  long_front = long;
  long_behind = t;
  short_is = pushed.becomes;
  long_is = refl;
  is_front = is;
  is_behind = pushed.is;
  short_at = e;
  long_at = refl;
}

seam_behind : (reach : Reach) (long : List ℕ) (a : ShortText) (m n : ℕ) → IsShort reach a long → m ≡ length a.text → n ≡ length long
    → IsSeam reach a long m n
seam_behind reach long a m n is e f = record {
  front = a;
  behind = as_it_is [];
  long_front = long;
  long_behind = [];
  short_is = sym (joined_nil a);
  long_is = sym (append-nil long);
  is_front = is;
  is_behind = is_as_it_is reach [] IsUtf8-nil;
  short_at = e;
  long_at = f;
}

seam_at : (reach : Reach) (a : ShortText) (long : List ℕ) (m n : ℕ) → IsSeam reach a long m n → IsAt a.names m n
seam_at reach a long m n seam =
    let front : ShortText = seam.front in
    let at : ℕ = length front.text in
    record {
      outside = subst (λ k. IsOutside a.names k) (sym seam.short_at)
          (subst (λ (s : ShortText). IsOutside s.names at) (sym seam.short_is)
          (joined_outside reach front seam.behind seam.long_front seam.long_behind seam.is_front seam.is_behind));
      place = ap (λ k. long_place a.names k) seam.short_at
          ∙ ap (λ (s : ShortText). long_place s.names at) seam.short_is
          ∙ joined_places reach front seam.behind seam.long_front seam.long_behind seam.is_front seam.is_behind
          ∙ sym seam.long_at;
    }

-- ** Parts with their places.

placed_by : (At Bt : ℕ → ℕ → Type 0) → ((m n : ℕ) → At m n → Bt m n) → (at : ℕ) (ps : List Placed) → ArePlaced At at ps → ArePlaced Bt at ps
placed_by At Bt h at [] are = tt
placed_by At Bt h at (p ∷ ps) (from, to, are) =
    let end : ℕ = at + length (text_of p.part) in (h p.from at from, h p.to end to, placed_by At Bt h end ps are)

length_cons : (p : Placed) (ps : List Placed) → length (plain_of (parts_of (p ∷ ps))) ≡ length (text_of p.part) + length (plain_of (parts_of ps))
length_cons p ps = ap length (flat_map-cons text_of p.part (parts_of ps)) ∙ length-append (text_of p.part) (plain_of (parts_of ps))

placed_more : (At : ℕ → ℕ → Type 0) (at end : ℕ) (ps : List Placed) (p : Placed) → ArePlaced At at ps
    → end ≡ at + length (plain_of (parts_of ps)) → At p.from end → At p.to (end + length (text_of p.part)) → ArePlaced At at (ps ++ p ∷ [])
placed_more At at end [] p are e from to = (
  subst (λ n. At p.from n) (omega (arith, e)) from,
  subst (λ n. At p.to n) (omega (arith, e)) to,
  tt,
)
placed_more At at end (q ∷ qs) p (begins, ends, are) e from to =
    (begins, ends, placed_more At (at + length (text_of q.part)) end qs p are (omega (arith, e, length_cons q qs)) from to)

pub placed_at : (At : ℕ → ℕ → Type 0) (at n : ℕ) (ps : List Placed) (i : ℕ) (p : Placed) → ArePlaced At at ps → i < length ps → p ≡ get_or ps i p
    → n ≡ at + length (plain_of (parts_of (take i ps))) → At p.from n × At p.to (n + length (text_of p.part))
placed_at At at n [] i p are less is e = absurd (omega (arith, less))
placed_at At at n (q ∷ qs) zero p (begins, ends, are) less is e = (
  subst (λ (o : Placed). At o.from n) (sym is) (subst (λ k. At q.from k) (omega (arith, e)) begins),
  subst (λ (o : Placed). At o.to (n + length (text_of o.part))) (sym is) (subst (λ k. At q.to k) (omega (arith, e)) ends),
)
placed_at At at n (q ∷ qs) (suc i) p (begins, ends, are) less is e =
    placed_at At (at + length (text_of q.part)) n qs i p are (omega (arith, less)) is (omega (arith, e, length_cons q (take i qs)))

pub joined_none : (reach : Reach) (a : ShortText) → a ≡ as_it_is [] → AreJoined reach [] a []
joined_none reach a e =
    record { is = subst (λ s. IsShort reach s []) (sym e) (is_as_it_is reach [] IsUtf8-nil); parts_are = refl; places = tt }

joined_more : (reach : Reach) (ps : List Part) (old new : ShortText) (placed : List Placed) (p : Part) (from to : ℕ)
    → AreJoined reach ps old placed → IsPushed reach (text_of p) old new → from ≡ length old.text → to ≡ length new.text
    → AreJoined reach (ps ++ p ∷ []) new (placed ++ record { part = p; from = from; to = to } ∷ [])
joined_more reach ps old new placed p from to are pushed begins ends =
    let text : List ℕ = text_of p in
    let long : List ℕ = plain_of ps in
    let one : Placed = record { part = p; from = from; to = to } in
    let plain : plain_of (ps ++ p ∷ []) ≡ long ++ text = sym (flat_map_more text_of [] ps p) in
    let all : IsShort reach new (long ++ text) = short_pushed reach text long old new are.is pushed in
    record {
      is = subst (λ t. IsShort reach new t) (sym plain) all;
      parts_are = map-append (λ (p : Placed). p.part) placed (one ∷ []) ∙ ap (λ l. l ++ p ∷ []) are.parts_are;
      places = subst (λ t. ArePlaced (IsSeam reach new t) 0 (placed ++ one ∷ [])) (sym plain)
          (placed_more (IsSeam reach new (long ++ text)) 0 (length long) placed one
          (placed_by (IsSeam reach old long) (IsSeam reach new (long ++ text)) (λ m n seam. seam_kept reach text long old new m n seam pushed) 0 placed are.places)
          (omega (arith, ap (λ l. length (plain_of l)) are.parts_are))
          (seam_before reach text long old new from are.is pushed begins)
          (seam_behind reach (long ++ text) new to (length long + length text) all ends (sym (length-append long text))));
    }

pub joined_next : (reach : Reach) (ps next : List Part) (old new : ShortText) (placed after : List Placed) (p : Part) (from to : ℕ)
    → AreJoined reach ps old placed → IsPushed reach (text_of p) old new → from ≡ length old.text → to ≡ length new.text → next ≡ ps ++ p ∷ []
    → after ≡ placed ++ record { part = p; from = from; to = to } ∷ [] → AreJoined reach next new after
joined_next reach ps next old new placed after p from to are pushed begins ends e f =
    subst (λ l. AreJoined reach l new after) (sym e)
    (subst (λ l. AreJoined reach (ps ++ p ∷ []) new l) (sym f) (joined_more reach ps old new placed p from to are pushed begins ends))

all_at : (reach : Reach) (ps : List Part) (a : ShortText) (placed : List Placed) (names : List Name) → AreJoined reach ps a placed → names ≡ a.names
    → ArePlaced (IsAt names) 0 placed
all_at reach ps a placed names are e =
    subst (λ l. ArePlaced (IsAt l) 0 placed) (sym e)
    (placed_by (IsSeam reach a (plain_of ps)) (IsAt a.names) (seam_at reach a (plain_of ps)) 0 placed are.places)

-- ** What is written.

put_more : (syntax : Syntax) (at end : ℕ) (ps : List Part) (p : Part) → end ≡ at + length (plain_of ps)
    → put_together syntax at (ps ++ p ∷ []) ≡ put_together syntax at ps ++ unless_tight (is_loose syntax end p) (text_of p)
put_more syntax at end [] p e =
    append-nil (unless_tight (is_loose syntax at p) (text_of p))
    ∙ ap (λ n. unless_tight (is_loose syntax n p) (text_of p)) (omega (arith, e))
put_more syntax at end (q ∷ qs) p e =
    let first : List ℕ = unless_tight (is_loose syntax at q) (text_of q) in
    let next : ℕ = at + length (text_of q) in
    let sum : length (plain_of (q ∷ qs)) ≡ length (text_of q) + length (plain_of qs) =
    ap length (flat_map-cons text_of q qs) ∙ length-append (text_of q) (plain_of qs) in
    ap (λ l. first ++ l) (put_more syntax next end qs p (omega (arith, e, sum)))
    ∙ sym (append_assoc first (put_together syntax next qs) (unless_tight (is_loose syntax end p) (text_of p)))

pub wrote_more : (syntax : Syntax) (all : List Placed) (i : ℕ) (p : Placed) (old : List ℕ) (loose : Bool) → i < length all → p ≡ get_or all i p
    → old ≡ put_together syntax 0 (parts_of (take i all)) → loose ≡ is_loose syntax (length (plain_of (parts_of (take i all)))) p.part
    → old ++ unless_tight loose (text_of p.part) ≡ put_together syntax 0 (parts_of (take (i + 1) all))
wrote_more syntax all i p old loose less is was e =
    let ps : List Part = parts_of (take i all) in
    let end : ℕ = length (plain_of ps) in
    let taken : take (i + 1) all ≡ take i all ++ p ∷ [] = take_more all i p less ∙ ap (λ (q : Placed). take i all ++ q ∷ []) (sym is) in
    let parts_are : parts_of (take (i + 1) all) ≡ ps ++ p.part ∷ [] =
    ap parts_of taken ∙ map-append (λ (p : Placed). p.part) (take i all) (p ∷ []) in
    ap (λ l. l ++ unless_tight loose (text_of p.part)) was
    ∙ ap (λ b. put_together syntax 0 ps ++ unless_tight b (text_of p.part)) e
    ∙ sym (put_more syntax 0 end ps p.part (omega arith))
    ∙ ap (λ l. put_together syntax 0 l) (sym parts_are)

pub loose_told : (syntax : Syntax) (at : ℕ) (p : Part) (m n : ℕ) (piece node : Bool) → piece ≡ is_piece p → piece ≡ true → m ≡ at
    → n ≡ at + length (text_of p) → node ≡ has_node_at syntax 0 m n → not node ≡ is_loose syntax at p
loose_told syntax at p m n piece node is told begins ends e =
    let is_node : Bool = has_node_at syntax 0 at (at + length (text_of p)) in
    let same : node ≡ is_node = e ∙ ap (λ k. has_node_at syntax 0 k n) begins ∙ ap (λ k. has_node_at syntax 0 at k) ends in
    let yes : is_piece p ≡ true = sym is ∙ told in
    ap not same ∙ sym (ap (λ b. b && not is_node) yes)

pub put_told : (reach : Reach) (ps : List Part) (plain : List ℕ) (short : ShortText) (placed shown : List Placed) (tree : ShortRead) (text : List ℕ)
    → plain ≡ plain_of ps → AreJoined reach ps short placed → shown ≡ placed → (IsShort reach short plain → IsReadOf reach tree plain)
    → tree.names ≡ short.names
    → ((r : Reach) (long : List ℕ) (read : IsReadOf r tree long) → ArePlaced (IsAt tree.names) 0 shown
    → text ≡ put_together read.syntax 0 (parts_of shown)) → ArePutTogether reach ps text
put_told reach ps plain short placed shown tree text e are same reads names written =
    let is : IsShort reach short plain = subst (λ t. IsShort reach short t) (sym e) are.is in
    let read : IsReadOf reach tree plain = reads is in
    let places : ArePlaced (IsAt tree.names) 0 shown =
    subst (λ l. ArePlaced (IsAt tree.names) 0 l) (sym same) (all_at reach ps short placed tree.names are names) in
    record {
      syntax = read.syntax;
      front = ap (λ t. trimmed_front t) (sym e) ∙ read.front;
      reads = ap (λ t. fragment_reading_of reach fragments.Expr t) (sym e) ∙ read.reads;
      text_is = written reach plain read places ∙ ap (λ l. put_together read.syntax 0 l) (ap parts_of same ∙ are.parts_are);
    }

pub if_some_weaker : {E : Type 0} (r : Result (Option (List ℕ)) E) (P Q : List ℕ → Type 0) → ((t : List ℕ) → P t → Q t)
    → IfOk r (λ answer. IfSome answer P) → IfOk r (λ answer. IfSome answer Q)
if_some_weaker (Ok (Some t)) P Q h is = h t is
if_some_weaker (Ok None) P Q h is = tt
if_some_weaker (Err e) P Q h is = tt
