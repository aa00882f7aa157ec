-- Texts that are sent in pieces.
use Rattle.std.proofs.Common.{◌≡◌, ℕ, ◌+◌, ◌-◌, ◌<◌, ◌≤◌, true, false, List, [], ◌∷◌, ◌++◌, length, take, drop, get_or, ap, sym, ◌∙◌, arith, append_assoc, length-append, append-nil, subst}
use Rattle.std.proofs.Math.Seq.{take-add, take-append-add}
use Rattle.std.proofs.lemmas.List.{drop_more, take-append-le, take-append-drop, take_more, length-drop}
use Rattle.std.specs.Prelude.{◌==◌, if◌then◌else◌}
use Rattle.std.specs.List.{flat_map}
use Rattle.std.proofs.lemmas.Grind.{flat_map-append, common_steps}
use Rattle.std.proofs.lemmas.Bool.Decides.{nat_tests}
use Rattle.std.specs.Io.KnownBytes.{Appends}
use Rattle.std.proofs.KnownBytes.{Appends-trans, Appends-kept}
use Rattle.ssr_streams.specs.Streams.{Taken, Takes, TakesNothing, Sent, whole, part}

-- what went out so far, without a failure
pub record HasSent (old mid : Taken) (text : List ℕ) : Type 0 where
  pub bytes : mid.bytes ≡ old.bytes ++ text
  pub known : Appends old.contents mid.contents text
  pub calm : mid.failures ≡ old.failures

-- two texts that went out one after the other
sent_both : (old mid new : Taken) (a b : List ℕ) → HasSent old mid a → HasSent mid new b → HasSent old new (a ++ b)
sent_both old mid new a b first second = record {
  bytes = second.bytes ∙ ap (λ s. s ++ b) first.bytes ∙ append_assoc old.bytes a b;
  known = Appends-trans old.contents mid.contents new.contents a b first.known second.known;
  calm = second.calm ∙ first.calm;
}

-- the whole of a text went out
pub sent_whole : (old new : Taken) (so_far text : List ℕ) → so_far ≡ text → HasSent old new so_far → Sent old new text true
sent_whole old new so_far text all sent =
    let P : List ℕ → Type 0 = λ s. Sent old new s true in subst P all (whole sent.bytes sent.known sent.calm)

-- the bytes behind a place, all of them
all_behind : (at : ℕ) (text : List ℕ) → take (length text - at) (drop at text) ≡ drop at text
all_behind at text = grind (arith, common_steps)

-- a write that took a byte did not fail
calm_if_some : (count f f₁ : ℕ) → (count ≡ 0 → ⊥) → f₁ ≡ f + (if count == 0 then 1 else 0) → f₁ ≡ f
calm_if_some count f f₁ some is = grind (arith, nat_tests)

module _ (old mid new : Taken) (text : List ℕ) (at : ℕ) (less : at < length text) (sent : HasSent old mid (take at text)) where
  abbrev rest : List ℕ
  rest = take (length text - at) (drop at text)

  -- a write that failed ends in a part
  pub sent_none : TakesNothing mid new → Sent old new text false
  sent_none failed =
      part at less (failed.bytes ∙ sent.bytes) (Appends-kept old.contents mid.contents new.contents _ sent.known failed.known)
      (failed.failed ∙ ap (λ n. n + 1) sent.calm)

  -- so does one that took no byte
  pub sent_no_byte : Takes mid new rest 0 → Sent old new text false
  sent_no_byte takes =
      part at less (takes.bytes ∙ append-nil mid.bytes ∙ sent.bytes)
      (let P : List ℕ → Type 0 = λ s. Appends old.contents new.contents s in
      subst P (append-nil (take at text)) (Appends-trans old.contents mid.contents new.contents _ [] sent.known takes.known))
      (takes.failed ∙ ap (λ n. n + 1) sent.calm)

  -- the bytes that a write took end in the text
  pub within : (count : ℕ) → Takes mid new rest count → at + count ≤ length text
  within count takes =
      let e : count ≤ length (drop at text) = rw (← all_behind at text) takes.within in
      omega (arith, length-drop at text)

  -- what a write took went out
  its : (count : ℕ) → (count ≡ 0 → ⊥) → Takes mid new rest count → HasSent mid new (take count (drop at text))
  its count some takes = record {
    bytes = takes.bytes ∙ ap (λ s. mid.bytes ++ take count s) (all_behind at text);
    known =
        let P : List ℕ → Type 0 = λ s. Appends mid.contents new.contents (take count s) in
        subst P (all_behind at text) takes.known;
    calm = calm_if_some count mid.failures new.failures some takes.failed;
  }

  -- what went out after a write
  pub sent_more : (count : ℕ) → (count ≡ 0 → ⊥) → Takes mid new rest count → HasSent old new (take (at + count) text)
  sent_more count some takes =
      let P : List ℕ → Type 0 = λ s. HasSent old new s in
      subst P (sym (take-add at count text)) (sent_both old mid new (take at text) (take count (drop at text)) sent (its count some takes))

-- a part of a later piece is a part of the whole
sent_later : (old mid new : Taken) (before piece behind text : List ℕ)
    → text ≡ before ++ (piece ++ behind) → HasSent old mid before → Sent mid new piece false → Sent old new text false
sent_later old mid new before piece behind text splits sent (part count less goes known more) =
    let cut : take (length before + count) text ≡ before ++ take count piece =
    ap (take (length before + count)) splits ∙ take-append-add before (piece ++ behind) count
    ∙ ap (λ s. before ++ s) (take-append-le count piece behind (omega arith)) in
    let P : List ℕ → Type 0 = λ s. Appends old.contents new.contents s in
    part (length before + count)
    (let total : length text ≡ length before + (length piece + length behind) =
    ap length splits ∙ length-append before (piece ++ behind) ∙ ap (λ n. length before + n) (length-append piece behind) in
    omega arith)
    (goes ∙ ap (λ s. s ++ take count piece) sent.bytes ∙ append_assoc old.bytes before (take count piece)
    ∙ ap (λ s. old.bytes ++ s) (sym cut))
    (subst P (sym cut) (Appends-trans old.contents mid.contents new.contents before _ sent.known known))
    (more ∙ ap (λ n. n + 1) sent.calm)

module _ {A : Type 0} (text : A → List ℕ) (pieces : List A) (i : ℕ) (d : A) (less : i < length pieces) where
  -- a piece, and the pieces behind it
  from_piece : flat_map text (drop i pieces) ≡ text (get_or pieces i d) ++ flat_map text (drop (i + 1) pieces)
  from_piece = ap (flat_map text) (drop_more pieces i d less)

  -- the pieces in front of one, the piece, and those behind it
  pieces_at : flat_map text pieces ≡ flat_map text (take i pieces) ++ (text (get_or pieces i d) ++ flat_map text (drop (i + 1) pieces))
  pieces_at =
      ap (flat_map text) (sym (take-append-drop i pieces))
      ∙ flat_map-append text (take i pieces) (drop i pieces)
      ∙ ap (λ s. flat_map text (take i pieces) ++ s) from_piece

  -- one piece more
  pieces_more : flat_map text (take (i + 1) pieces) ≡ flat_map text (take i pieces) ++ text (get_or pieces i d)
  pieces_more =
      ap (flat_map text) (take_more pieces i d less)
      ∙ flat_map-append text (take i pieces) (get_or pieces i d ∷ [])
      ∙ ap (λ s. flat_map text (take i pieces) ++ s) (append-nil _)

  module _ (old mid new : Taken) (piece : List ℕ) (its : piece ≡ text (get_or pieces i d)) (sent : HasSent old mid (flat_map text (take i pieces))) where
    -- a piece that broke off
    pub piece_part : Sent mid new piece false → Sent old new (flat_map text pieces) false
    piece_part broken =
        let P : List ℕ → Type 0 = λ s. Sent mid new s false in
        sent_later old mid new _ (text (get_or pieces i d)) _ _ pieces_at sent (subst P its broken)

    -- a piece that was sent whole
    pub piece_whole : Sent mid new piece true → HasSent old new (flat_map text (take (i + 1) pieces))
    piece_whole (whole goes known calm) =
        let P : List ℕ → Type 0 = λ s. HasSent old new s in
        let Q : List ℕ → Type 0 = λ s. HasSent mid new s in
        let piece_sent : HasSent mid new piece = record { bytes = goes; known = known; calm = calm } in
        subst P (sym pieces_more) (sent_both old mid new (flat_map text (take i pieces)) (text (get_or pieces i d)) sent (subst Q its piece_sent))
