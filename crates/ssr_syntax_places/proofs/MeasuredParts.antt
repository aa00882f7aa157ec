-- The pieces of texts of parts are measured by the places that are the same in both texts.
use Rattle.std.proofs.Common.{◌≡◌, ℕ, zero, suc, ◌+◌, ◌<◌, ◌≤◌, ◌==◌, true, false, if◌then◌else◌, List, [], ◌∷◌, ◌++◌, length, Some, None, ◌⊎◌, inl, inr, refl, sym, ap, subst, ◌∙◌, arith, append_assoc}
use Rattle.std.specs.Prelude.{Option, reverse}
use Rattle.std.specs.Str.{IsUtf8}
use Rattle.std.proofs.lemmas.Bool.{and_parts, not-true}
use Rattle.std.proofs.lemmas.List.{append-nil, length-append}
use Rattle.ssr_syntax_kinds.specs.Kinds.{is_trivia}
use Rattle.ssr_syntax_kinds.specs.declared.reach.Reach.{Reach}
use Rattle.ssr_syntax_lex.specs.Tokens.{tokens, token_text}
use Rattle.ssr_syntax_lex.specs.declared.tokens.RawToken.{RawToken}
use Rattle.ssr_syntax_lex.proofs.Shared.{tokens_tile, tiles_spell}
use Rattle.ssr_syntax_tree.specs.Syntax as plain
use Rattle.ssr_syntax_tree.specs.Syntax.{begins_with_trivia}
use Rattle.ssr_syntax_forms.specs.declared.tokens.Token.{Token}
use Rattle.ssr_syntax_rows.specs.Solid.{begins_solid, solid_token, solid_tokens, pieces}
use Rattle.ssr_syntax_rows.proofs.Shared.{spelled-pieces, tiles_count}
use Rattle.ssr_syntax_places.specs.Core.{Hole, Holes, is_no_hole, are_spelled}
use Rattle.ssr_syntax_places.specs.LongTexts.{IsInside, AreInsides}
use Rattle.ssr_syntax_places.specs.Spans.{inside_at, IsSamePlace, BeginsHere, EndsHere}
use Rattle.ssr_syntax_places.specs.Woven.{Part, AreWoven, solid_parts, pieces_parts, StandFor}
use Rattle.ssr_syntax_places.proofs.Aligned.{IsFor, is_for_itself, append_trivia}
use Rattle.ssr_syntax_places.proofs.AlignedParts.{IsAlone, alone, same_front}
use Rattle.ssr_syntax_places.proofs.Insides.{some_same}
use Rattle.ssr_syntax_places.proofs.Measured.{Ends, IsOutside, IsApart, IsApartFor, AreMeasured}
use Rattle.ssr_syntax_places.proofs.Misnamed.{AllTrivia}
use Rattle.ssr_syntax_places.proofs.Outside.{last_of, reversed_pieces}
use Rattle.ssr_syntax_places.proofs.PutInside.{IsPutOf, inside_put}
use Rattle.ssr_syntax_places.proofs.Spans.{bytes, bytes_append, bytes_first, same_tests, both_fail}
use Rattle.ssr_syntax_places.proofs.Woven.{single_length}

-- the pieces of a text have its bytes
pub text_bytes : (text : List ℕ) (raw : List RawToken) → IsUtf8 text → tokens text ≡ Some raw → bytes (pieces text raw) ≡ length text
text_bytes text raw utf8 lexes = ap length (spelled-pieces text raw ∙ tiles_spell text raw (tokens_tile text raw utf8 lexes))

-- ** Where places may be.

-- for so many bytes on, a place is reached in both texts or in neither
abbrev pub Agree : ℕ → ℕ → ℕ → ℕ → ℕ → Type 0
Agree at long many place other = (x : ℕ) → x ≤ many → (at + x == place) ≡ (long + x == other)

-- a place is in front of so many bytes, or behind them, in both texts
abbrev pub IsFar : ℕ → ℕ → ℕ → ℕ → ℕ → ℕ → Type 0
IsFar at many long long_many place other = ((place < at) × (other < long)) ⊎ ((at + many < place) × (long + long_many < other))

agree_further : (at long b many place other : ℕ) → Agree at long (b + many) place other → Agree (at + b) (long + b) many place other
agree_further at long b many place other agree x few =
    let short : (at + b) + x ≡ at + (b + x) = omega arith in
    let longer : (long + b) + x ≡ long + (b + x) = omega arith in
    ap (λ l. l == place) short ∙ agree (b + x) (omega (arith, few)) ∙ sym (ap (λ l. l == other) longer)

agree_fewer : (at long few many place other : ℕ) → few ≡ many → Agree at long many place other → Agree at long few place other
agree_fewer at long few many place other e agree x less = agree x (omega (arith, less, e))

-- ** White space and comments in front.

pub measured_lead : (holes : Holes) (e : Ends) (number n at long : ℕ) (lead long_lead ts us : List plain.Token) → AllTrivia lead → AllTrivia long_lead
    → AreMeasured holes e number n (at + bytes lead) (long + bytes long_lead) ts us → AreMeasured holes e number n at long (lead ++ ts) (long_lead ++ us)
measured_lead holes e number zero at long lead long_lead ts us all long_all are = tt
measured_lead holes e number (suc n) at long lead long_lead ts us all long_all are =
    let step = are.step in
    let x : (at + bytes lead) + bytes step.lead ≡ at + bytes (lead ++ step.lead) = omega (arith, bytes_append lead step.lead) in
    let y : (long + bytes long_lead) + bytes step.long_lead ≡ long + bytes (long_lead ++ step.long_lead) = omega (arith, bytes_append long_lead step.long_lead) in
    let size : ℕ = length step.token.text in
    let put : ℕ = bytes step.put in
    let first : ℕ = (at + bytes lead) + bytes step.lead in
    let b : ℕ = long + bytes (long_lead ++ step.long_lead) in
    record {
      step = record {
        lead = lead ++ step.lead;
        long_lead = long_lead ++ step.long_lead;
        token = step.token;
        put = step.put;
        short_rest = step.short_rest;
        long_rest = step.long_rest;
        short = ap (λ l. lead ++ l) step.short ∙ sym (append_assoc lead step.lead (step.token ∷ step.short_rest));
        long = ap (λ l. long_lead ++ l) step.long ∙ sym (append_assoc long_lead step.long_lead (step.put ++ step.long_rest));
        leads = append_trivia lead step.lead all step.leads;
        long_leads = append_trivia long_lead step.long_lead long_all step.long_leads;
        solid = step.solid;
        is = step.is;
        rest = tt;
      };
      starts = ap (λ l. l == e.from) (sym x) ∙ are.starts ∙ ap (λ l. l == e.long_from) y;
      ends = ap (λ l. l + size == e.to) (sym x) ∙ are.ends ∙ ap (λ l. l + put == e.long_to) y;
      apart =
          subst (λ l. IsApartFor (holes number) e l (l + size) b (b + put)) x
          (subst (λ l. IsApartFor (holes number) e first (first + size) l (l + put)) y are.apart);
      rest =
          subst (λ l. AreMeasured holes e (number + 1) n (l + size) (b + put) step.short_rest step.long_rest) x
          (subst (λ l. AreMeasured holes e (number + 1) n (first + size) (l + put) step.short_rest step.long_rest) y are.rest);
    }

-- ** Tokens that stand for themselves.

own_apart : (o : Option Hole) (e : Ends) (a b c d : ℕ) → is_no_hole o ≡ true → IsApartFor o e a b c d
own_apart None e a b c d is = tt
own_apart (Some hole) e a b c d is = absurd (cc)

own_measure : (holes : Holes) (e : Ends) (number m k at long many : ℕ) (piece : plain.Token) (ts us : List plain.Token) → k ≡ suc m
    → is_trivia piece.kind ≡ false → is_no_hole (holes number) ≡ true
    → Agree at long (length piece.text + many) e.from e.long_from → Agree at long (length piece.text + many) e.to e.long_to
    → AreMeasured holes e (number + 1) m (at + length piece.text) (long + length piece.text) ts us
    → AreMeasured holes e number k at long (piece ∷ ts) (piece ∷ us)
own_measure holes e number m k at long many piece ts us count solid own from to are =
    let size : ℕ = length piece.text in
    let whole : bytes (piece ∷ []) ≡ size = omega (arith, bytes_first piece []) in
    let x : (at + bytes []) + size ≡ at + size = omega arith in
    let y : (long + bytes []) + bytes (piece ∷ []) ≡ long + size = omega (arith, whole) in
    let made : AreMeasured holes e number (suc m) at long (piece ∷ ts) (piece ∷ us) =
    record {
      step = record {
        lead = [];
        long_lead = [];
        token = piece;
        put = piece ∷ [];
        short_rest = ts;
        long_rest = us;
        short = refl;
        long = refl;
        leads = tt;
        long_leads = tt;
        solid = solid;
        is = is_for_itself (holes number) piece own;
        rest = tt;
      };
      starts = from 0 (omega arith);
      ends = ap (λ l. l == e.to) x ∙ to size (omega arith) ∙ sym (ap (λ l. l == e.long_to) y);
      apart = own_apart (holes number) e (at + bytes []) ((at + bytes []) + size) (long + bytes []) ((long + bytes []) + bytes (piece ∷ [])) own;
      rest =
          subst (λ l. AreMeasured holes e (number + 1) m l ((long + bytes []) + bytes (piece ∷ [])) ts us) (sym x)
          (subst (λ l. AreMeasured holes e (number + 1) m (at + size) l ts us) (sym y) are);
    } in
    subst (λ l. AreMeasured holes e number l at long (piece ∷ ts) (piece ∷ us)) (sym count) made

pub measured_own : (holes : Holes) (e : Ends) (number n k at long : ℕ) (text : List ℕ) (raw : List RawToken) (ts us : List plain.Token)
    → k ≡ length (solid_tokens raw) + n → are_spelled holes number (solid_tokens raw) ≡ true
    → Agree at long (bytes (pieces text raw)) e.from e.long_from → Agree at long (bytes (pieces text raw)) e.to e.long_to
    → AreMeasured holes e (number + length (solid_tokens raw)) n (at + bytes (pieces text raw)) (long + bytes (pieces text raw)) ts us
    → AreMeasured holes e number k at long (pieces text raw ++ ts) (pieces text raw ++ us)
measured_own holes e number n k at long text [] ts us count own from to are =
    let same : n ≡ k = omega (arith, count) in
    let here : number + 0 ≡ number = omega arith in
    let x : at + bytes [] ≡ at = omega arith in
    let y : long + bytes [] ≡ long = omega arith in
    subst (λ l. AreMeasured holes e number l at long ts us) same
    (subst (λ l. AreMeasured holes e l n at long ts us) here
    (subst (λ l. AreMeasured holes e (number + 0) n l long ts us) x
    (subst (λ l. AreMeasured holes e (number + 0) n (at + bytes []) l ts us) y are)))
measured_own holes e number n k at long text (r ∷ raw) ts us count own from to are =
    let piece : plain.Token = record { kind = r.kind; text = token_text text r } in
    let size : ℕ = length piece.text in
    let many : ℕ = bytes (pieces text raw) in
    let all : bytes (pieces text (r ∷ raw)) ≡ size + many = bytes_first piece (pieces text raw) in
    let one : bytes (piece ∷ []) ≡ size = omega (arith, bytes_first piece []) in
    let short : List plain.Token = pieces text raw ++ ts in
    let longer : List plain.Token = pieces text raw ++ us in
    let from_all : Agree at long (size + many) e.from e.long_from = agree_fewer at long (size + many) (bytes (pieces text (r ∷ raw))) e.from e.long_from (sym all) from in
    let to_all : Agree at long (size + many) e.to e.long_to = agree_fewer at long (size + many) (bytes (pieces text (r ∷ raw))) e.to e.long_to (sym all) to in
    let from_next : Agree (at + size) (long + size) many e.from e.long_from = agree_further at long size many e.from e.long_from from_all in
    let to_next : Agree (at + size) (long + size) many e.to e.long_to = agree_further at long size many e.to e.long_to to_all in
    let x : at + bytes (pieces text (r ∷ raw)) ≡ (at + size) + many = omega (arith, all) in
    let y : long + bytes (pieces text (r ∷ raw)) ≡ (long + size) + many = omega (arith, all) in
    elim (is_trivia r.kind)
    as (λ b. is_trivia r.kind ≡ b
    → k ≡ length (if b then solid_tokens raw else solid_token r raw ∷ solid_tokens raw) + n
    → are_spelled holes number (if b then solid_tokens raw else solid_token r raw ∷ solid_tokens raw) ≡ true
    → AreMeasured holes e (number + length (if b then solid_tokens raw else solid_token r raw ∷ solid_tokens raw)) n
    (at + bytes (pieces text (r ∷ raw))) (long + bytes (pieces text (r ∷ raw))) ts us
    → AreMeasured holes e number k at long (piece ∷ short) (piece ∷ longer)) [
      | true ↦ λ is total kept rest.
          let behind : AreMeasured holes e (number + length (solid_tokens raw)) n ((at + size) + many) ((long + size) + many) ts us =
          subst (λ l. AreMeasured holes e (number + length (solid_tokens raw)) n l ((long + size) + many) ts us) x
          (subst (λ l. AreMeasured holes e (number + length (solid_tokens raw)) n (at + bytes (pieces text (r ∷ raw))) l ts us) y rest) in
          let inner : AreMeasured holes e number k (at + size) (long + size) short longer =
          measured_own holes e number n k (at + size) (long + size) text raw ts us total kept from_next to_next behind in
          measured_lead holes e number k at long (piece ∷ []) (piece ∷ []) short longer (is, tt) (is, tt)
          (subst (λ l. AreMeasured holes e number k (at + l) (long + l) short longer) (sym one) inner)
      | false ↦ λ is total kept rest.
          let halves = and_parts (is_no_hole (holes number)) (are_spelled holes (number + 1) (solid_tokens raw)) kept in
          let here : number + length (solid_token r raw ∷ solid_tokens raw) ≡ (number + 1) + length (solid_tokens raw) = omega arith in
          let behind : AreMeasured holes e ((number + 1) + length (solid_tokens raw)) n ((at + size) + many) ((long + size) + many) ts us =
          subst (λ l. AreMeasured holes e l n ((at + size) + many) ((long + size) + many) ts us) here
          (subst (λ l. AreMeasured holes e (number + length (solid_token r raw ∷ solid_tokens raw)) n l ((long + size) + many) ts us) x
          (subst (λ l. AreMeasured holes e (number + length (solid_token r raw ∷ solid_tokens raw)) n (at + bytes (pieces text (r ∷ raw))) l ts us) y rest)) in
          own_measure holes e number (length (solid_tokens raw) + n) k at long many piece short longer (omega (arith, total)) is halves.0 from_all to_all
          (measured_own holes e (number + 1) n (length (solid_tokens raw) + n) (at + size) (long + size) text raw ts us refl halves.1 from_next to_next behind)
    ] refl count own are

-- ** A name, and what stands for it.

far_outside : (at many long long_many place other first last : ℕ) → IsFar at many long long_many place other → at ≤ first → last ≤ at + many
    → IsOutside first last place
far_outside at many long long_many place other first last (inl before) low high = inl (omega (arith, before.0, low))
far_outside at many long long_many place other first last (inr behind) low high = inr (omega (arith, behind.0, high))

far_turned : (at many long long_many place other : ℕ) → IsFar at many long long_many place other → IsFar long long_many at many other place
far_turned at many long long_many place other (inl before) = inl (before.1, before.0)
far_turned at many long long_many place other (inr behind) = inr (behind.1, behind.0)

-- neither place is one of these
far_tests : (at many long long_many place other x y : ℕ) → IsFar at many long long_many place other → at ≤ x → x ≤ at + many → long ≤ y
    → y ≤ long + long_many → (x == place) ≡ (y == other)
far_tests at many long long_many place other x y (inl before) low high long_low long_high =
    both_fail x place y other (λ e. omega (arith, e, before.0, low)) (λ e. omega (arith, e, before.1, long_low))
far_tests at many long long_many place other x y (inr behind) low high long_low long_high =
    both_fail x place y other (λ e. omega (arith, e, behind.0, high)) (λ e. omega (arith, e, behind.1, long_high))

-- a place is far from what is put there, or is where that begins
abbrev IsFirst : ℕ → ℕ → ℕ → ℕ → ℕ → ℕ → ℕ → Type 0
IsFirst at many long long_many lead place other = IsFar at many long long_many place other ⊎ ((place ≡ at) × (other ≡ long) × (lead ≡ 0))

-- or where that ends
abbrev IsLast : ℕ → ℕ → ℕ → ℕ → ℕ → ℕ → ℕ → Type 0
IsLast at many long long_many trail place other =
    IsFar at many long long_many place other ⊎ ((place ≡ at + many) × (other ≡ long + long_many) × (trail ≡ 0))

-- what is told of a place by that: whether it is this one, in both texts or in neither, and that it isn't inside
record IsTold (place other test long_test first last long_first long_last : ℕ) : Type 0 where
  tests : (test == place) ≡ (long_test == other)
  out : IsOutside first last place
  long_out : IsOutside long_first long_last other

first_told : (at many long long_many lead place other first last long_first long_last : ℕ) → IsFirst at many long long_many lead place other
    → first ≡ at → last ≡ at + many → long_first ≡ long + lead → long_first ≤ long_last → long_last ≤ long + long_many
    → IsTold place other first long_first first last long_first long_last
first_told at many long long_many lead place other first last long_first long_last (inl far) a b c d f = record {
  tests = far_tests at many long long_many place other first long_first far (omega (arith, a)) (omega (arith, a)) (omega (arith, c)) (omega (arith, d, f));
  out = far_outside at many long long_many place other first last far (omega (arith, a)) (omega (arith, b));
  long_out = far_outside long long_many at many other place long_first long_last (far_turned at many long long_many place other far) (omega (arith, c)) f;
}
first_told at many long long_many lead place other first last long_first long_last (inr here) a b c d f = record {
  tests = same_tests first place long_first other (λ e. omega (arith, c, here.1, here.2)) (λ e. omega (arith, a, here.0));
  out = inl (omega (arith, a, here.0));
  long_out = inl (omega (arith, c, here.1));
}

last_told : (at many long long_many trail place other first last long_first long_last : ℕ) → IsLast at many long long_many trail place other
    → first ≡ at → last ≡ at + many → long ≤ long_first → long_first ≤ long_last → long_last + trail ≡ long + long_many
    → IsTold place other last long_last first last long_first long_last
last_told at many long long_many trail place other first last long_first long_last (inl far) a b c d f = record {
  tests = far_tests at many long long_many place other last long_last far (omega (arith, b)) (omega (arith, b)) (omega (arith, c, d)) (omega (arith, f));
  out = far_outside at many long long_many place other first last far (omega (arith, a)) (omega (arith, b));
  long_out = far_outside long long_many at many other place long_first long_last (far_turned at many long long_many place other far) c (omega (arith, f));
}
last_told at many long long_many trail place other first last long_first long_last (inr here) a b c d f = record {
  tests = same_tests last place long_last other (λ e. omega (arith, f, here.1, here.2)) (λ e. omega (arith, b, here.0));
  out = inr (omega (arith, b, here.0));
  long_out = inr (omega (arith, f, here.1, here.2));
}

measured_name : (holes : Holes) (e : Ends) (hole : Hole) (number n at long many long_many : ℕ) (text : List ℕ) (name : List RawToken) (inside ts us : List plain.Token)
    → IsAlone name → holes number ≡ Some hole → (put : IsPutOf hole inside) → bytes (pieces text name) ≡ many → bytes inside ≡ long_many
    → IsFirst at many long long_many (bytes put.lead) e.from e.long_from → IsLast at many long long_many (bytes put.trail) e.to e.long_to
    → AreMeasured holes e (number + 1) n (at + many) (long + long_many) ts us
    → AreMeasured holes e number (suc n) at long (pieces text name ++ ts) (inside ++ us)
measured_name holes e hole number n at long many long_many text name inside ts us is held put count long_count from to are =
    let piece : plain.Token = record { kind = is.token.kind; text = token_text text is.token } in
    let size : ℕ = length piece.text in
    let first : ℕ = at + bytes [] in
    let long_first : ℕ = long + bytes put.lead in
    let one : many ≡ size = sym count ∙ ap (λ l. bytes (pieces text l)) is.all ∙ trimmed_sum size piece in
    let total : long_many ≡ bytes put.lead + (bytes put.put + bytes put.trail) =
    sym long_count ∙ ap bytes put.all ∙ bytes_append put.lead (put.put ++ put.trail) ∙ ap (λ l. bytes put.lead + l) (bytes_append put.put put.trail) in
    let x : at + many ≡ (first + size) + bytes [] = omega (arith, one) in
    let y : long + long_many ≡ (long_first + bytes put.put) + bytes put.trail = omega (arith, total) in
    let rest : AreMeasured holes e (number + 1) n ((first + size) + bytes []) ((long_first + bytes put.put) + bytes put.trail) ts us =
    subst (λ l. AreMeasured holes e (number + 1) n l ((long_first + bytes put.put) + bytes put.trail) ts us) x
    (subst (λ l. AreMeasured holes e (number + 1) n (at + many) l ts us) y are) in
    let starts = first_told at many long long_many (bytes put.lead) e.from e.long_from first (first + size) long_first (long_first + bytes put.put) from
    (omega arith) (omega (arith, one)) (omega arith) (omega arith) (omega (arith, total)) in
    let ends = last_told at many long long_many (bytes put.trail) e.to e.long_to first (first + size) long_first (long_first + bytes put.put) to
    (omega arith) (omega (arith, one)) (omega arith) (omega arith) (omega (arith, total)) in
    let apart : IsApart e first (first + size) long_first (long_first + bytes put.put) =
    record { from = starts.out; to = ends.out; long_from = starts.long_out; long_to = ends.long_out } in
    record {
      step = record {
        lead = [];
        long_lead = put.lead;
        token = piece;
        put = put.put;
        short_rest = ts;
        long_rest = put.trail ++ us;
        short = ap (λ l. pieces text l ++ ts) is.all;
        long =
            ap (λ l. l ++ us) put.all
            ∙ append_assoc put.lead (put.put ++ put.trail) us
            ∙ ap (λ l. put.lead ++ l) (append_assoc put.put put.trail us);
        leads = tt;
        long_leads = put.leads;
        solid = is.solid;
        is = subst (λ o. IsFor o piece put.put) (sym held) put.is;
        rest = tt;
      };
      starts = starts.tests;
      ends = ends.tests;
      apart = subst (λ o. IsApartFor o e first (first + size) long_first (long_first + bytes put.put)) (sym held) apart;
      rest = measured_lead holes e (number + 1) n (first + size) (long_first + bytes put.put) [] put.trail ts us tt put.trails rest;
    } where
      trimmed_sum : (size : ℕ) (piece : plain.Token) → bytes (piece ∷ []) ≡ length piece.text
      trimmed_sum size piece = omega (arith, bytes_first piece [])

-- ** Insides that begin or end with solid tokens.

lead_none : (lead rest us : List plain.Token) → us ≡ lead ++ rest → AllTrivia lead → begins_with_trivia us ≡ false → bytes lead ≡ 0
lead_none [] rest us e all none = refl
lead_none (t ∷ lead) rest us e all none = absurd (cc (sym none ∙ ap begins_with_trivia e ∙ all.0))

ends_trivia : (t : plain.Token) (ts : List plain.Token) → AllTrivia (t ∷ ts) → begins_with_trivia (reverse (t ∷ ts)) ≡ true
ends_trivia t [] all = all.0
ends_trivia t (u ∷ us) all = last_of (t ∷ []) (u ∷ us) (omega arith) ∙ ends_trivia u us all.1

trail_none : (front trail us : List plain.Token) → us ≡ front ++ trail → AllTrivia trail → begins_with_trivia (reverse us) ≡ false → bytes trail ≡ 0
trail_none front [] us e all none = refl
trail_none front (t ∷ trail) us e all none =
    absurd (cc (sym none ∙ ap (λ l. begins_with_trivia (reverse l)) e ∙ last_of front (t ∷ trail) (omega arith) ∙ ends_trivia t trail all))

begins_told : (text : List ℕ) (raw : List RawToken) → begins_solid raw ≡ true → begins_with_trivia (pieces text raw) ≡ false
begins_told text [] is = refl
begins_told text (t ∷ ts) is = not-true (is_trivia t.kind) is

inside_begins : (hole : Hole) (text : List ℕ) (raw : List RawToken) (put : IsPutOf hole (pieces text raw)) → begins_solid raw ≡ true → bytes put.lead ≡ 0
inside_begins hole text raw put is = lead_none put.lead (put.put ++ put.trail) (pieces text raw) put.all put.leads (begins_told text raw is)

inside_ends : (hole : Hole) (text : List ℕ) (raw : List RawToken) (put : IsPutOf hole (pieces text raw)) → begins_solid (reverse raw) ≡ true → bytes put.trail ≡ 0
inside_ends hole text raw put is =
    trail_none (put.lead ++ put.put) put.trail (pieces text raw) (put.all ∙ sym (append_assoc put.lead put.put put.trail)) put.trails
    (ap begins_with_trivia (reversed_pieces text raw) ∙ begins_told text (reverse raw) is)

-- a text that has tokens has bytes
some_bytes : (text : List ℕ) (raw : List RawToken) → IsUtf8 text → tokens text ≡ Some raw → 0 < length raw → 0 < length text
some_bytes text raw utf8 lexes some = omega (arith, some, tiles_count text 0 raw (tokens_tile text raw utf8 lexes))

some_raw : (raw : List RawToken) → 0 < length (solid_tokens raw) → 0 < length raw
some_raw [] some = some
some_raw (t ∷ ts) some = omega arith

-- ** Places in parts.

-- a place lies in front of these parts, in both texts, or is their beginning, or is the same place in them
abbrev pub IsAhead : (Part → Part → ℕ → ℕ → Type 0) → List Part → List Part → ℕ → ℕ → ℕ → ℕ → Type 0
IsAhead Here ps qs at long place other =
    ((place < at) × (other < long))
    ⊎ (((place ≡ at) × (other ≡ long))
    ⊎ ((n : ℕ) × (m : ℕ) × (place ≡ at + n) × (other ≡ long + m) × IsSamePlace Here ps qs n m))

pub last_agree : (Here : Part → Part → ℕ → ℕ → Type 0) (at long many place other : ℕ) → IsAhead Here [] [] at long place other → Agree at long many place other
last_agree Here at long many place other (inl before) x few =
    both_fail (at + x) place (long + x) other (λ e. omega (arith, e, before.0)) (λ e. omega (arith, e, before.1))
last_agree Here at long many place other (inr (inl here)) x few =
    same_tests (at + x) place (long + x) other (λ e. omega (arith, e, here.0, here.1)) (λ e. omega (arith, e, here.0, here.1))
last_agree Here at long many place other (inr (inr (n, m, short, longer, same))) x few =
    same_tests (at + x) place (long + x) other (λ e. omega (arith, e, short, longer, same)) (λ e. omega (arith, e, short, longer, same))

-- What a place is in the first part. `There` is said of one that is far neither from the inside nor from the name.
pub record InPart (Here : Part → Part → ℕ → ℕ → Type 0) (There : Type 0) (p q : Part) (ps qs : List Part) (at long place other : ℕ) : Type 0 where
  pub agree : Agree at long (inside_at p) place other
  pub near : IsFar (at + inside_at p) (length p.inside) (long + inside_at p) (length q.inside) place other ⊎ There
  pub next : IsAhead Here ps qs ((at + inside_at p) + length p.inside) ((long + inside_at p) + length q.inside) place other

-- in front of all parts, or in front of the first inside
front_part : (Here : Part → Part → ℕ → ℕ → Type 0) (There : Type 0) (p q : Part) (ps qs : List Part) (at long place other n : ℕ)
    → place ≡ at + n → other ≡ long + n → n < inside_at p → InPart Here There p q ps qs at long place other
front_part Here There p q ps qs at long place other n short longer front = record {
  agree = λ x few. same_tests (at + x) place (long + x) other (λ d. omega (arith, d, short, longer)) (λ d. omega (arith, d, short, longer));
  near = inl (inl (omega (arith, short, front), omega (arith, longer, front)));
  next = inl (omega (arith, short, front), omega (arith, longer, front));
}

passed_part : (Here : Part → Part → ℕ → ℕ → Type 0) (There : Type 0) (p q : Part) (ps qs : List Part) (at long place other : ℕ)
    → place < at → other < long → InPart Here There p q ps qs at long place other
passed_part Here There p q ps qs at long place other before long_before = record {
  agree = λ x few. both_fail (at + x) place (long + x) other (λ d. omega (arith, d, before)) (λ d. omega (arith, d, long_before));
  near = inl (inl (omega (arith, before), omega (arith, long_before)));
  next = inl (omega (arith, before), omega (arith, long_before));
}

behind_part : (Here : Part → Part → ℕ → ℕ → Type 0) (There : Type 0) (p q : Part) (ps qs : List Part) (at long place other i j : ℕ) → inside_at q ≡ inside_at p
    → place ≡ at + ((inside_at p + length p.inside) + i) → other ≡ long + ((inside_at q + length q.inside) + j) → 0 < i → 0 < j
    → IsSamePlace Here ps qs i j → InPart Here There p q ps qs at long place other
behind_part Here There p q ps qs at long place other i j e short longer some more same = record {
  agree = λ x few. both_fail (at + x) place (long + x) other (λ d. omega (arith, d, few, short, some)) (λ d. omega (arith, d, few, e, longer, more));
  near = inl (inr (omega (arith, short, some), omega (arith, e, longer, more)));
  next = inr (inr (i, j, omega (arith, short), omega (arith, e, longer), same));
}

-- where an inside begins
abbrev BeginsThere : Part → Part → ℕ → ℕ → ℕ → ℕ → Type 0
BeginsThere p q at long place other = (place ≡ at + inside_at p) × (other ≡ long + inside_at p) × (begins_solid q.within ≡ true)

begin_part : (p q : Part) (ps qs : List Part) (at long place other : ℕ) → inside_at q ≡ inside_at p → 0 < length p.inside → 0 < length q.inside
    → IsAhead BeginsHere (p ∷ ps) (q ∷ qs) at long place other → InPart BeginsHere (BeginsThere p q at long place other) p q ps qs at long place other
begin_part p q ps qs at long place other e some more (inl before) =
    passed_part BeginsHere (BeginsThere p q at long place other) p q ps qs at long place other before.0 before.1
begin_part p q ps qs at long place other e some more (inr (inl here)) =
    front_part BeginsHere (BeginsThere p q at long place other) p q ps qs at long place other 0 (omega (arith, here.0)) (omega (arith, here.1)) (omega arith)
begin_part p q ps qs at long place other e some more (inr (inr (n, m, short, longer, inl (inl front)))) =
    front_part BeginsHere (BeginsThere p q at long place other) p q ps qs at long place other n short (omega (arith, longer, front.0)) front.1
begin_part p q ps qs at long place other e some more (inr (inr (n, m, short, longer, inl (inr here)))) =
    let x : place ≡ at + inside_at p = omega (arith, short, here.0) in
    let y : other ≡ long + inside_at p = omega (arith, longer, here.1, e) in
    record {
      agree = λ i few. same_tests (at + i) place (long + i) other (λ d. omega (arith, d, x, y)) (λ d. omega (arith, d, x, y));
      near = inr (x, y, here.2);
      next = inl (omega (arith, x, some), omega (arith, y, more));
    }
begin_part p q ps qs at long place other e some more (inr (inr (n, m, short, longer, inr (i, j, first, second, behind, further, same)))) =
    behind_part BeginsHere (BeginsThere p q at long place other) p q ps qs at long place other i j e (omega (arith, short, first)) (omega (arith, longer, second))
    behind further same

-- where an inside ends
abbrev EndsThere : Part → Part → ℕ → ℕ → ℕ → ℕ → Type 0
EndsThere p q at long place other =
    (place ≡ (at + inside_at p) + length p.inside) × (other ≡ (long + inside_at p) + length q.inside) × (begins_solid (reverse q.within) ≡ true)

end_part : (p q : Part) (ps qs : List Part) (at long place other : ℕ) → inside_at q ≡ inside_at p → 0 < length p.inside → 0 < length q.inside
    → IsAhead EndsHere (p ∷ ps) (q ∷ qs) at long place other → InPart EndsHere (EndsThere p q at long place other) p q ps qs at long place other
end_part p q ps qs at long place other e some more (inl before) =
    passed_part EndsHere (EndsThere p q at long place other) p q ps qs at long place other before.0 before.1
end_part p q ps qs at long place other e some more (inr (inl here)) =
    front_part EndsHere (EndsThere p q at long place other) p q ps qs at long place other 0 (omega (arith, here.0)) (omega (arith, here.1)) (omega arith)
end_part p q ps qs at long place other e some more (inr (inr (n, m, short, longer, inl (inl front)))) =
    front_part EndsHere (EndsThere p q at long place other) p q ps qs at long place other n short (omega (arith, longer, front.0)) front.1
end_part p q ps qs at long place other e some more (inr (inr (n, m, short, longer, inl (inr here)))) =
    let x : place ≡ (at + inside_at p) + length p.inside = omega (arith, short, here.0) in
    let y : other ≡ (long + inside_at p) + length q.inside = omega (arith, longer, here.1, e) in
    record {
      agree = λ i few. both_fail (at + i) place (long + i) other (λ d. omega (arith, d, few, x, some)) (λ d. omega (arith, d, few, y, more));
      near = inr (x, y, here.2);
      next = inr (inl (x, y));
    }
end_part p q ps qs at long place other e some more (inr (inr (n, m, short, longer, inr (i, j, first, second, behind, further, same)))) =
    behind_part EndsHere (EndsThere p q at long place other) p q ps qs at long place other i j e (omega (arith, short, first)) (omega (arith, longer, second))
    behind further same

-- ** All parts.

pub measured_parts : (reach : Reach) (holes : Holes) (e : Ends) (number k at long : ℕ) (short longer : List Part) (last : List ℕ) (after : List RawToken)
    → AreWoven short last → AreWoven longer last → StandFor holes number short longer (solid_tokens after) → AreInsides reach holes number short longer
    → k ≡ length (solid_parts short (solid_tokens after))
    → IsAhead BeginsHere short longer at long e.from e.long_from → IsAhead EndsHere short longer at long e.to e.long_to
    → AreMeasured holes e number k at long (pieces_parts short (pieces last after)) (pieces_parts longer (pieces last after))
measured_parts reach holes e number k at long [] [] last after is other stand insides count from to =
    let many : ℕ = bytes (pieces last after) in
    let all : AreMeasured holes e number k at long (pieces last after ++ []) (pieces last after ++ []) =
    measured_own holes e number 0 k at long last after [] [] (omega (arith, count)) stand
    (last_agree BeginsHere at long many e.from e.long_from from) (last_agree EndsHere at long many e.to e.long_to to) tt in
    subst (λ l. AreMeasured holes e number k at long l l) (append-nil (pieces last after)) all
measured_parts reach holes e number k at long [] (q ∷ qs) last after is other stand insides count from to = absurd stand
measured_parts reach holes e number k at long (p ∷ ps) [] last after is other stand insides count from to = absurd stand
measured_parts reach holes e number k at long (p ∷ ps) (q ∷ qs) last after (utf8, opens, front_is, inside_is, seam, all) (long_utf8, long_opens, long_front, long_inside, long_seam, every)
    (hole, same, own, single, held, filling, others) (known, front, opening, one, known_held, inside, insides) count from to =
    let us : List Token = solid_tokens p.before in
    let name : List Token = solid_tokens p.within in
    let place : ℕ = number + length us in
    let rest : ℕ = length (solid_parts ps (solid_tokens after)) in
    let ts : List plain.Token = pieces_parts ps (pieces last after) in
    let ws : List plain.Token = pieces_parts qs (pieces last after) in
    let text : List ℕ = p.front ++ p.opening ∷ [] in
    let is_name : IsAlone p.within = alone p.within one single in
    let size : k ≡ length us + suc rest =
    omega (arith, count, single_length name single, length-append us (name ++ solid_parts ps (solid_tokens after)), length-append name (solid_parts ps (solid_tokens after))) in
    let put : IsPutOf hole (pieces q.inside q.within) =
    inside_put reach hole q.inside q.within (subst (λ h. IsInside reach h q.inside q.within) (some_same known hole (sym known_held ∙ held)) inside) filling in
    let many : bytes (pieces text p.before) ≡ inside_at p = text_bytes text p.before front_is.utf8 front_is.lexes ∙ length-append p.front (p.opening ∷ []) in
    let alike : inside_at q ≡ inside_at p = ap (λ l. length l + 1) (sym front) in
    let some : 0 < length p.inside = some_bytes p.inside p.within inside_is.utf8 inside_is.lexes (omega (arith, one)) in
    let more : 0 < length q.inside = some_bytes q.inside q.within long_inside.utf8 long_inside.lexes (some_raw q.within inside.some) in
    let from_is = begin_part p q ps qs at long e.from e.long_from alike some more from in
    let to_is = end_part p q ps qs at long e.to e.long_to alike some more to in
    let starts : IsFirst (at + inside_at p) (length p.inside) (long + inside_at p) (length q.inside) (bytes put.lead) e.from e.long_from = elim from_is.near [
      | inl far ↦ inl far
      | inr here ↦ inr (here.0, here.1, inside_begins hole q.inside q.within put here.2)
    ] in
    let ends : IsLast (at + inside_at p) (length p.inside) (long + inside_at p) (length q.inside) (bytes put.trail) e.to e.long_to = elim to_is.near [
      | inl far ↦ inl far
      | inr here ↦ inr (here.0, here.1, inside_ends hole q.inside q.within put here.2)
    ] in
    let behind : AreMeasured holes e (place + 1) rest ((at + inside_at p) + length p.inside) ((long + inside_at p) + length q.inside) ts ws =
    measured_parts reach holes e (place + 1) rest ((at + inside_at p) + length p.inside) ((long + inside_at p) + length q.inside) ps qs last after all every others insides refl from_is.next to_is.next in
    let named : AreMeasured holes e place (suc rest) (at + inside_at p) (long + inside_at p) (pieces p.inside p.within ++ ts) (pieces q.inside q.within ++ ws) =
    measured_name holes e hole place rest (at + inside_at p) (long + inside_at p) (length p.inside) (length q.inside) p.inside p.within (pieces q.inside q.within) ts ws
    is_name held put (text_bytes p.inside p.within inside_is.utf8 inside_is.lexes) (text_bytes q.inside q.within long_inside.utf8 long_inside.lexes)
    starts ends behind in
    subst (λ l. AreMeasured holes e number k at long (pieces text p.before ++ (pieces p.inside p.within ++ ts)) (l ++ (pieces q.inside q.within ++ ws)))
    (sym (same_front p q front_is long_front front opening))
    (measured_own holes e number (suc rest) k at long text p.before (pieces p.inside p.within ++ ts) (pieces q.inside q.within ++ ws) size own
    (agree_fewer at long (bytes (pieces text p.before)) (inside_at p) e.from e.long_from many from_is.agree)
    (agree_fewer at long (bytes (pieces text p.before)) (inside_at p) e.to e.long_to many to_is.agree)
    (subst (λ l. AreMeasured holes e place (suc rest) (at + l) (long + l) (pieces p.inside p.within ++ ts) (pieces q.inside q.within ++ ws)) (sym many) named))
