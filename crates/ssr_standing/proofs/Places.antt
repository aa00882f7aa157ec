-- Where the texts of changes stand, change by change.
use Rattle.std.proofs.Common.{◌≡◌, ◌∙◌, ℕ, ◌+◌, ◌-◌, ◌<◌, ◌≤◌, ◌^◌, List, [], ◌∷◌, ◌++◌, length, get_or, take, drop, map, sym, ap, subst, append_assoc, length-append, arith, String}
use Rattle.std.specs.Prelude.{All, slice_range}
use Rattle.std.specs.Global.{Global}
use Rattle.std.proofs.lemmas.List.{get_or-map, map-append, take_more, length-map, length-drop, length-take-le, take_at, drop_at}
use Rattle.std.proofs.lemmas.List.Elements.{All-nil, All-cons, All-head, All-tail, All-weaker}
use Rattle.ssr_syntax_kinds.specs.declared.range.TextRange.{TextRange}
use Rattle.ssr_base_trees.specs.Changes.{Change, ChangesInOrder, FitsText, replaced}
use Rattle.ssr_base_trees.specs.Applied.{change_of, changes_of}
use Rattle.ssr_base_trees.specs.Origins.{Span, span_of}
use Rattle.ssr_base_trees.proofs.Changes.{change_at}
use Rattle.ssr_standing.specs.Ranges.{AreWritten, IsShort, new_places, old_places, place_from}

length_between : (text : List ℕ) (at start : ℕ) → start ≤ length text → length (slice_range text at start) ≡ start - at
length_between text at start l = length-take-le (start - at) (drop at text) (omega (arith, length-drop at text))

-- a change more, whose bytes are seen in some way
pub one_old : (place : Change → Span) (pairs : List (TextRange × String Global)) (i : ℕ) (pair : TextRange × String Global)
    → (range : TextRange) (old new : List TextRange) → i < length pairs → pair ≡ get_or pairs i pair → new ≡ old ++ range ∷ []
    → span_of range ≡ place (change_of pair)
    → map span_of old ≡ map place (take i (changes_of pairs)) → map span_of new ≡ map place (take (i + 1) (changes_of pairs))
one_old place pairs i pair range old new h e more is so =
    ap (map span_of) more ∙ map-append span_of old (range ∷ [])
    ∙ ap (λ (front : List Span). front ++ span_of range ∷ []) so
    ∙ ap (λ (s : Span). map place (take i (changes_of pairs)) ++ s ∷ []) is
    ∙ sym (map-append place (take i (changes_of pairs)) (change_of pair ∷ []))
    ∙ ap (λ (c : Change). map place (take i (changes_of pairs) ++ c ∷ [])) (sym (change_at pairs i pair (change_of pair) h e))
    ∙ ap (map place) (sym (take_more (changes_of pairs) i (change_of pair) (omega (arith, length-map pairs change_of))))

-- a range with this start and this end is the place of a change
pub placed : (at from : ℕ) (pair : TextRange × String Global) (range : TextRange) → range.start ≡ at + (pair.0.start - from)
    → range.end ≡ at + (pair.0.end - from) → span_of range ≡ place_from at from (change_of pair)
placed at from pair range start end =
    ap (λ (n : ℕ). let span : Span = record { start = n; end = range.end } in span) start
    ∙ ap (λ (n : ℕ). let span : Span = record { start = at + (pair.0.start - from); end = n } in span) end

-- each of the places of old bytes ends before the byte 2^32
pub old_short : (at from : ℕ) (pairs : List (TextRange × String Global)) (i : ℕ) (pair : TextRange × String Global)
    → i < length pairs → pair ≡ get_or pairs i pair → All IsShort (old_places at from (changes_of pairs)) → at + (pair.0.end - from) < 2 ^ 32
old_short at from pairs i pair h e short =
    let d : Change = change_of pair in
    let less : i < length (changes_of pairs) = omega (arith, length-map pairs change_of) in
    let all : i < length (old_places at from (changes_of pairs)) = omega (arith, length-map (changes_of pairs) (place_from at from)) in
    subst IsShort
    (get_or-map (place_from at from) (changes_of pairs) i d (place_from at from d) less ∙ ap (place_from at from) (change_at pairs i pair d h e))
    (short i (place_from at from d) all)

-- a text more is put
pub one_new : (ranges more : List TextRange) (range : TextRange) (at from : ℕ) (c : Change) (cs left : List Change) (whole : List Span)
    → left ≡ c ∷ cs → more ≡ ranges ++ range ∷ [] → range.start ≡ at + (c.start - from) → range.end ≡ at + (c.start - from) + length c.text
    → map span_of ranges ++ new_places at from left ≡ whole
    → map span_of more ++ new_places (at + (c.start - from) + length c.text) c.end cs ≡ whole
one_new ranges more range at from c cs left whole e m start end so =
    let behind = new_places (at + (c.start - from) + length c.text) c.end cs in
    ap (λ (rs : List TextRange). map span_of rs ++ behind) m
    ∙ ap (λ (places : List Span). places ++ behind) (map-append span_of ranges (range ∷ []))
    ∙ append_assoc (map span_of ranges) (span_of range ∷ []) behind
    ∙ ap (λ (n : ℕ). map span_of ranges ++ record { start = n; end = range.end } ∷ behind) start
    ∙ ap (λ (n : ℕ). map span_of ranges ++ record { start = at + (c.start - from); end = n } ∷ behind) end
    ∙ ap (λ (cs : List Change). map span_of ranges ++ new_places at from cs) (sym e) ∙ so

-- a change begins in a text
abbrev pub BeginsIn : List ℕ → Change → Type 0
BeginsIn text c = c.start ≤ length text

-- none of them ends behind the new text
pub ends_within : (text : List ℕ) (at from to : ℕ) (cs : List Change) → All (BeginsIn text) cs
    → All (λ place. place.end ≤ at + length (replaced text from to cs)) (new_places at from cs)
ends_within text at from to [] begin = All-nil (λ place. place.end ≤ at + length (replaced text from to []))
ends_within text at from to (c ∷ cs) begin =
    let begins : c.start ≤ length text = All-head (BeginsIn text) c cs begin in
    let end = at + (c.start - from) + length c.text in
    let rest = replaced text c.end to cs in
    let whole : length (replaced text from to (c ∷ cs)) ≡ (c.start - from) + (length c.text + length rest) =
    omega (
      arith,
      length-append (slice_range text from c.start) (c.text ++ rest),
      length-append c.text rest,
      length_between text from c.start begins,
    ) in
    All-cons (λ place. place.end ≤ at + length (replaced text from to (c ∷ cs))) _ (new_places end c.end cs) (omega arith)
    (All-weaker (λ place. place.end ≤ end + length rest) (λ place. place.end ≤ at + length (replaced text from to (c ∷ cs)))
    (λ place h. omega arith) (new_places end c.end cs)
    (ends_within text end c.end to cs (All-tail (BeginsIn text) c cs begin)))

-- a text that stands behind others, and where it ends
stands_there : (front text behind : List ℕ) (start : ℕ) → length front ≡ start → slice_range (front ++ (text ++ behind)) start (start + length text) ≡ text
stands_there front text behind start e =
    ap (take ((start + length text) - start)) (drop_at front (text ++ behind) start e) ∙ take_at text behind ((start + length text) - start) (omega arith)

-- each text stands in its place, where what is in front of them is known
pub written : (front text : List ℕ) (at from : ℕ) (cs : List Change) → length front ≡ at → ChangesInOrder from cs → All (FitsText text) cs
    → from ≤ length text → AreWritten (front ++ replaced text from (length text) cs) (new_places at from cs) cs
written front text at from [] e order fit within = tt
written front text at from (c ∷ cs) e order fit within =
    let fits : FitsText text c = All-head (FitsText text) c cs fit in
    let kept = slice_range text from c.start in
    let start = at + (c.start - from) in
    let rest = replaced text c.end (length text) cs in
    let so_far : length (front ++ kept) ≡ start =
    omega (arith, length-append front kept, length_between text from c.start fits.0.0) in
    let same : (front ++ kept) ++ (c.text ++ rest) ≡ front ++ (kept ++ (c.text ++ rest)) = append_assoc front kept (c.text ++ rest) in
    let further : ((front ++ kept) ++ c.text) ++ rest ≡ front ++ (kept ++ (c.text ++ rest)) = append_assoc (front ++ kept) c.text rest ∙ same in (
      ap (λ (new : List ℕ). slice_range new start (start + length c.text)) (sym same) ∙ stands_there (front ++ kept) c.text rest start so_far,
      subst (λ (new : List ℕ). AreWritten new (new_places (start + length c.text) c.end cs) cs) further
          (written ((front ++ kept) ++ c.text) text (start + length c.text) c.end cs
          (omega (arith, length-append (front ++ kept) c.text, so_far)) order.2 (All-tail (FitsText text) c cs fit) fits.1.0),
    )
