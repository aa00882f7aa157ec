-- What is read of a short text tells what is read of the long one.
use Rattle.std.proofs.Common.{◌≡◌, ℕ, zero, suc, ◌+◌, ◌<◌, ◌≤◌, ◌^◌, ◌==◌, nat_lt, false, if◌then◌else◌, List, [], ◌∷◌, length, map, Some, None, refl, sym, ap, subst, ◌∙◌, arith}
use Rattle.std.specs.Prelude.{All, IfOk, IfSome, Option, Result, Ok, Err}
use Rattle.std.specs.Str.{IsUtf8}
use Rattle.std.proofs.lemmas.Bool.Decides.{nat_tests}
use Rattle.ssr_syntax_kinds.specs.declared.fragment.Fragment.TheVariants as fragments
use Rattle.ssr_syntax_kinds.specs.declared.reach.Reach.{Reach}
use Rattle.ssr_syntax_lex.specs.Tokens.{tokens}
use Rattle.ssr_syntax_lex.specs.declared.tokens.RawToken.{RawToken}
use Rattle.ssr_syntax_tree.specs.Syntax.{Syntax, depth_of, most_deep}
use Rattle.ssr_syntax_forms.specs.Trees.{tree}
use Rattle.ssr_syntax.specs.Reading.{fragment_reading_of, trimmed, trimmed_front}
use Rattle.ssr_syntax.specs.declared.syntax_error.SyntaxError.TheVariants as errors
use Rattle.ssr_syntax_places.specs.Core.{Hole, Holes}
use Rattle.ssr_syntax_places.specs.Insides.{with_inside}
use Rattle.ssr_syntax_places.specs.LongTexts.{AreNamed, ArePaired, holes_in, unless_deep}
use Rattle.ssr_syntax_places.specs.Spans.{has_node_at}
use Rattle.ssr_syntax_places.specs.Woven.{Part, AreCut, cut_text, cuts_of, woven, AreWoven}
use Rattle.ssr_syntax_places.proofs.Shared.{many_cut, woven_replaced, named_paired, long_read, read_nodes}
use Rattle.ssr_syntax_shorts.specs.Names.{name_places, AreNames}
use Rattle.ssr_syntax_shorts.specs.Shorts.{Stretch, ShortText, ShortRead, names_from, IsShort, IsOutside, IsReadOf, long_place}
use Rattle.ssr_syntax_shorts.specs.Told.{IsCut, IsTold, solid_before}
use Rattle.ssr_syntax_shorts.specs.declared.stand_ins.Name.{Name}
use Rattle.ssr_syntax_shorts.proofs.FilledLow.{long_low}
use Rattle.ssr_syntax_shorts.proofs.Numbers.{names_numbered}
use Rattle.ssr_syntax_shorts.proofs.NamedByParts.{named_by_parts}
use Rattle.ssr_syntax_shorts.proofs.PutNames.{ArePut, cuts_are, cuts_from, cuts_spell, holes_low, put}
use Rattle.ssr_syntax_shorts.proofs.SamePlaces.{same_bytes}

shallow_read : (syntax : Syntax) → depth_of syntax ≤ most_deep → unless_deep syntax ≡ Ok syntax
shallow_read syntax le =
    let is : nat_lt most_deep (depth_of syntax) ≡ false = grind (arith, nat_tests, le) in
    ap (λ b. if b then Err errors.TooDeep else Ok syntax) is

-- ** As many holes as names.

named_count : (reach : Reach) (ps qs : List Part) (hs : List Hole) → AreNamed reach ps qs hs → length ps ≡ length hs
named_count reach [] [] [] named = refl
named_count reach (p ∷ ps) (q ∷ qs) (h ∷ hs) (here, named) = omega (arith, named_count reach ps qs hs named)
named_count reach _ _ _ named = absurd named

-- ** What is read.

-- the parts of both texts
record HasParts (reach : Reach) (short : ShortText) (long : List ℕ) (raw : List RawToken) (is : IsShort reach short long) : Type 0 where
  pub cut : AreCut (cuts_from is.stretches) is.last
  pub put_is : ArePut reach short.depth cut.parts is.stretches is.last
  pub paired : ArePaired reach (holes_in 0 cut.parts put_is.holes) cut.parts put_is.long is.last cut.after
  pub short_is : short.text ≡ woven cut.parts is.last
  pub long_is : long ≡ woven put_is.long is.last

woven_text : (ps : List Part) (last : List ℕ) → woven ps last ≡ cut_text (cuts_of ps) last
woven_text [] last = refl
woven_text (p ∷ ps) last = ap (with_inside p.front p.opening p.inside) (woven_text ps last)

parts_of : (reach : Reach) (short : ShortText) (long : List ℕ) (read : ShortRead) (is : IsShort reach short long) (told : IsTold short read)
    → HasParts reach short long told.raw is
parts_of reach short long read is told =
    let ss : List Stretch = is.stretches in
    let cuts = cuts_are reach short.depth 0 told.raw ss is.last is.are
    (subst (λ l. All (IsCut told.raw) l) is.names_are told.are.cuts) in
    let spells : cut_text (cuts_from ss) is.last ≡ short.text = cuts_spell ss is.last ∙ sym is.text_is in
    let cut = many_cut (cuts_from ss) is.last told.raw (ap tokens spells ∙ told.lexes) cuts in
    let made = put reach short.depth cut.parts ss is.last cut.texts cut.are is.are in
    let long_woven : AreWoven made.long is.last = woven_replaced cut.parts made.long is.last cut.are made.replaced in
    record {
      cut = cut;
      put_is = made;
      paired = named_paired reach cut.parts made.long made.holes is.last cut.after cut.are long_woven cut.lexes made.named;
      short_is = sym spells ∙ ap (λ l. cut_text l is.last) (sym cut.texts) ∙ sym (woven_text cut.parts is.last);
      long_is = is.long_is ∙ sym made.text;
    }

behind_none : (raw : List RawToken) (byte : ℕ) → solid_before (0 + byte) raw ≡ 0 + solid_before byte raw
behind_none raw byte =
    let same : 0 + byte ≡ byte = omega arith in
    let count : solid_before byte raw ≡ 0 + solid_before byte raw = omega arith in
    ap (λ n. solid_before n raw) same ∙ count

pub read_told : (reach : Reach) (short : ShortText) (long : List ℕ) (read : ShortRead) → IsUtf8 short.text → IsUtf8 long
    → trimmed short.text ≡ short.text → trimmed long ≡ long → trimmed_front long ≡ 0 → 0 < length long → length long < 2 ^ 32
    → fragment_reading_of reach fragments.Expr short.text ≡ Ok read.tree → IsTold short read → read.bytes ≡ length long
    → IsShort reach short long → IsReadOf reach read long
read_told reach short long read utf8 long_utf8 alone long_alone front some few reads told counted is =
    let ss : List Stretch = is.stretches in
    let d : ℕ = short.depth in
    let parts = parts_of reach short long read is told in
    let ps : List Part = parts.cut.parts in
    let holes : Holes = holes_in 0 ps parts.put_is.holes in
    let numbered : map (λ (name : Name). solid_before name.at told.raw) (names_from 0 ss) ≡ name_places 0 ps =
    names_numbered 0 0 told.raw told.raw ps parts.put_is.long ss is.last parts.cut.after parts.cut.are parts.cut.lexes parts.put_is.matched
    (ap tokens (sym parts.short_is) ∙ told.lexes) (behind_none told.raw) in
    let held : AreNames read.tree told.numbers holes =
    named_by_parts read.tree told.numbers ps parts.put_is.holes told.are.solid (named_count reach ps parts.put_is.long parts.put_is.holes parts.put_is.named)
    (told.are.same ∙ ap (map (λ (name : Name). solid_before name.at told.raw)) is.names_are ∙ numbered) in
    let filled = long_read reach holes ps parts.put_is.long is.last parts.cut.after short.text long read.tree parts.paired (alone ∙ parts.short_is)
    (long_alone ∙ parts.long_is) (subst IsUtf8 (sym alone) utf8) few reads (told.is_core holes held) in
    let deep : depth_of filled.long ≤ read.depth =
    long_low reach holes d read.depth short.text long read.tree filled
    (λ number hole e. holes_low d 0 ps parts.put_is.holes number hole parts.put_is.low e) told.deep in
    let names : read.names ≡ names_from 0 ss = told.names_are ∙ is.names_are in
    record {
      syntax = filled.long;
      utf8 = long_utf8;
      alone = long_alone;
      front = front;
      some = some;
      reads = filled.read ∙ shallow_read filled.long (omega (arith, deep, told.shallow));
      deep = deep;
      counted = counted;
      nodes = λ from to less outside other.
          subst (λ l. has_node_at read.tree 0 from to ≡ has_node_at filled.long 0 (long_place l from) (long_place l to)) (sym names)
          (no_front read.tree filled.long from to (long_place (names_from 0 ss) from) (long_place (names_from 0 ss) to)
          (read_nodes reach holes ps parts.put_is.long is.last parts.cut.after short.text long read.tree parts.paired (alone ∙ parts.short_is)
          (long_alone ∙ parts.long_is) filled 0 0 from to (long_place (names_from 0 ss) from) (long_place (names_from 0 ss) to)
          (same_bytes reach d ps parts.put_is.long ss is.last parts.put_is.matched is.are from to less (subst (λ l. IsOutside l from) names outside)
          (subst (λ l. IsOutside l to) names other))));
    } where
      no_front : (x y : Syntax) (from to long_from long_to : ℕ)
          → has_node_at x 0 (0 + from) (0 + to) ≡ has_node_at y 0 (0 + long_from) (0 + long_to) → has_node_at x 0 from to ≡ has_node_at y 0 long_from long_to
      no_front x y from to long_from long_to e =
          let zero : (n : ℕ) → n ≡ 0 + n = λ n. omega arith in
          ap (λ n. has_node_at x 0 n to) (zero from) ∙ ap (has_node_at x 0 (0 + from)) (zero to) ∙ e
          ∙ ap (λ n. has_node_at y 0 n (0 + long_to)) (sym (zero long_from)) ∙ ap (has_node_at y 0 long_from) (sym (zero long_to))

pub some_left : (n : ℕ) → false ≡ (n == 0) → 0 < n
some_left zero e = absurd (cc)
some_left (suc n) e = omega arith

-- the same of an answer, if there is one
pub all_told : {E : Type 0} → (reach : Reach) (short : ShortText) (long : List ℕ) (syntax : Syntax) (r : Result (Option ShortRead) E) → IsUtf8 short.text
    → IsUtf8 long → trimmed short.text ≡ short.text → trimmed long ≡ long → trimmed_front long ≡ 0 → 0 < length long → length long < 2 ^ 32
    → fragment_reading_of reach fragments.Expr short.text ≡ Ok syntax → IfOk r (λ answer. IfSome answer (λ read. IsTold short read))
    → IfOk r (λ answer. IfSome answer (λ read. read.tree ≡ syntax)) → IfOk r (λ answer. IfSome answer (λ read. read.bytes ≡ length long))
    → IfOk r (λ answer. IfSome answer (λ read. IsShort reach short long → IsReadOf reach read long))
all_told reach short long syntax (Err e) utf8 long_utf8 alone long_alone front some few reads told same counted = tt
all_told reach short long syntax (Ok None) utf8 long_utf8 alone long_alone front some few reads told same counted = tt
all_told reach short long syntax (Ok (Some read)) utf8 long_utf8 alone long_alone front some few reads told same counted =
    read_told reach short long read utf8 long_utf8 alone long_alone front some few (reads ∙ ap (λ t. Ok t) (sym same)) told counted
