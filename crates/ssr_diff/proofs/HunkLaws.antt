-- Laws of hunks: what they make of a text, and how an begun one grows.
use Rattle.std.proofs.Common.{◌≡◌, ℕ, ◌+◌, ◌-◌, ◌<◌, ◌≤◌, min, List, [], ◌∷◌, ◌++◌, length, map, refl, sym, ◌∙◌, ap, subst, arith, codes, string_bytes, Option, Some, None}
use Rattle.std.specs.List.{slice_range, flat_map, All, concat}
use Rattle.std.proofs.lemmas.List.{append_assoc, append-nil, length-append, flat_map_more}
use Rattle.std.proofs.lemmas.List.Elements.{All-push, All-nil}
use Rattle.std.proofs.lemmas.Grind.{flat_map-append}
use Rattle.ssr_diff.specs.declared.places.Place.{Place}
use Rattle.ssr_diff.specs.declared.hunks.OpenHunk.{OpenHunk}
use Rattle.ssr_diff.specs.Patch.{Line, Kept, Removed, Added, Hunk, old_lines, new_lines, old_end, new_end, Patches, same, next, BeginsWithChange, EndsWithChange, HasContext, line_text, hunk_text, span_text, lines_of, file_head, IsDiff}
use Rattle.ssr_diff.specs.Private.Writing.{Text, AreInOrder, SameLines, open_text, Extends, Shows, AreWritten, IsOpen, IsReady, IsWritingParts, AreHunks, AreClosed, end_of_context, origin}
use Rattle.ssr_diff.proofs.LinesOf.{concat-lines_of}
use Rattle.ssr_diff.proofs.SameLines.{slice_all, slice_join, length_slice, same_none, same_join, same_up_to, same_from}

-- the sides of lines

pub old-append : (xs ys : List Line) → old_lines (xs ++ ys) ≡ old_lines xs ++ old_lines ys
old-append [] ys = refl
old-append (Kept text ∷ xs) ys = ap (λ (r : Text). text ∷ r) (old-append xs ys)
old-append (Removed text ∷ xs) ys = ap (λ (r : Text). text ∷ r) (old-append xs ys)
old-append (Added text ∷ xs) ys = old-append xs ys

pub new-append : (xs ys : List Line) → new_lines (xs ++ ys) ≡ new_lines xs ++ new_lines ys
new-append [] ys = refl
new-append (Kept text ∷ xs) ys = ap (λ (r : Text). text ∷ r) (new-append xs ys)
new-append (Removed text ∷ xs) ys = new-append xs ys
new-append (Added text ∷ xs) ys = ap (λ (r : Text). text ∷ r) (new-append xs ys)

pub old-kept : (xs : Text) → old_lines (map Kept xs) ≡ xs
old-kept [] = refl
old-kept (x ∷ xs) = ap (λ (r : Text). x ∷ r) (old-kept xs)

pub new-kept : (xs : Text) → new_lines (map Kept xs) ≡ xs
new-kept [] = refl
new-kept (x ∷ xs) = ap (λ (r : Text). x ∷ r) (new-kept xs)

old-removed : (xs : Text) → old_lines (map Removed xs) ≡ xs
old-removed [] = refl
old-removed (x ∷ xs) = ap (λ (r : Text). x ∷ r) (old-removed xs)

new-removed : (xs : Text) → new_lines (map Removed xs) ≡ []
new-removed [] = refl
new-removed (x ∷ xs) = new-removed xs

old-added : (xs : Text) → old_lines (map Added xs) ≡ []
old-added [] = refl
old-added (x ∷ xs) = old-added xs

new-added : (xs : Text) → new_lines (map Added xs) ≡ xs
new-added [] = refl
new-added (x ∷ xs) = ap (λ (r : Text). x ∷ r) (new-added xs)

-- removed lines, and then added ones
pub old-block : (xs ys : Text) → old_lines (map Removed xs ++ map Added ys) ≡ xs
old-block xs ys = old-append (map Removed xs) (map Added ys)
    ∙ (ap (λ (r : Text). r ++ old_lines (map Added ys)) (old-removed xs) ∙ (ap (λ (r : Text). xs ++ r) (old-added ys) ∙ append-nil xs))

pub new-block : (xs ys : Text) → new_lines (map Removed xs ++ map Added ys) ≡ ys
new-block xs ys = new-append (map Removed xs) (map Added ys)
    ∙ (ap (λ (r : Text). r ++ new_lines (map Added ys)) (new-removed xs) ∙ new-added ys)

-- where lines begin and end with a change

pub begins_more : (xs ys : List Line) → BeginsWithChange xs → BeginsWithChange (xs ++ ys)
begins_more xs ys b = record {
  change = b.change;
  rest = b.rest ++ ys;
  is_change = b.is_change;
  is = ap (λ (l : List Line). l ++ ys) b.is;
}

pub ends_more : (xs ys : List Line) → EndsWithChange ys → EndsWithChange (xs ++ ys)
ends_more xs ys e = record {
  front = xs ++ e.front;
  change = e.change;
  is_change = e.is_change;
  is = ap (λ (l : List Line). xs ++ l) e.is ∙ sym (append_assoc xs e.front (e.change ∷ []));
}

pub begins_block : (xs ys : Text) → 0 < length xs + length ys → BeginsWithChange (map Removed xs ++ map Added ys)
begins_block [] [] h = absurd (omega arith)
begins_block [] (y ∷ ys) h = record { change = Added y; rest = map Added ys; is_change = tt; is = refl }
begins_block (x ∷ xs) ys h = record { change = Removed x; rest = map Removed xs ++ map Added ys; is_change = tt; is = refl }

ends_added : (y : List ℕ) (ys : Text) → EndsWithChange (map Added (y ∷ ys))
ends_added y [] = record { front = []; change = Added y; is_change = tt; is = refl }
ends_added y (z ∷ ys) = ends_more (Added y ∷ []) (map Added (z ∷ ys)) (ends_added z ys)

ends_removed : (x : List ℕ) (xs : Text) → EndsWithChange (map Removed (x ∷ xs))
ends_removed x [] = record { front = []; change = Removed x; is_change = tt; is = refl }
ends_removed x (z ∷ xs) = ends_more (Removed x ∷ []) (map Removed (z ∷ xs)) (ends_removed z xs)

pub ends_block : (xs ys : Text) → 0 < length xs + length ys → EndsWithChange (map Removed xs ++ map Added ys)
ends_block [] [] h = absurd (omega arith)
ends_block (x ∷ xs) [] h = subst EndsWithChange (sym (append-nil (map Removed (x ∷ xs)))) (ends_removed x xs)
ends_block xs (y ∷ ys) h = ends_more (map Removed xs) (map Added (y ∷ ys)) (ends_added y ys)

-- what hunks make of a text

regroup : (a b c d : Text) → (a ++ (b ++ c)) ++ d ≡ a ++ (b ++ (c ++ d))
regroup a b c d = append_assoc a (b ++ c) d ∙ ap (λ (r : Text). a ++ r) (append_assoc b c d)

-- lines behind the last hunk are kept
pub Patches-kept : (least i j : ℕ) (hs : List Hunk) (a b kept : Text) → Patches least i j hs a b → Patches least i j hs (a ++ kept) (b ++ kept)
Patches-kept _ _ _ _ _ _ kept (same l oi nj k) = same l oi nj (k ++ kept)
Patches-kept _ _ _ _ _ _ kept (next l oi nj k old new h rest enough o n p) =
    subst (λ (x : Text). Patches l oi nj (h ∷ rest) x ((k ++ (new_lines h.lines ++ new)) ++ kept)) (sym (regroup k (old_lines h.lines) old kept))
    (subst (λ (x : Text). Patches l oi nj (h ∷ rest) (k ++ (old_lines h.lines ++ (old ++ kept))) x) (sym (regroup k (new_lines h.lines) new kept))
    (next l oi nj k (old ++ kept) (new ++ kept) h rest enough o n (Patches-kept 1 (old_end h) (new_end h) rest old new kept p)))

-- one hunk more, behind kept lines
pub Patches-push : (least i j : ℕ) (hs : List Hunk) (a b kept : Text) (g : Hunk) → Patches least i j hs a b
    → least ≤ length a + length kept → (0 < length hs → 0 < length kept)
    → i + (length a + length kept) ≡ g.old_before → j + (length b + length kept) ≡ g.new_before
    → Patches least i j (hs ++ g ∷ []) (a ++ (kept ++ old_lines g.lines)) (b ++ (kept ++ new_lines g.lines))
Patches-push _ _ _ _ _ _ kept g (same l oi nj k) enough apart o n =
    let long = length-append k kept in
    let whole : (x : Text) → (k ++ kept) ++ (x ++ []) ≡ k ++ (kept ++ x) = λ x. ap (λ (r : Text). (k ++ kept) ++ r) (append-nil x) ∙ append_assoc k kept x in
    subst (λ (x : Text). Patches l oi nj (g ∷ []) x (k ++ (kept ++ new_lines g.lines))) (whole (old_lines g.lines))
    (subst (λ (x : Text). Patches l oi nj (g ∷ []) ((k ++ kept) ++ (old_lines g.lines ++ [])) x) (whole (new_lines g.lines))
    (next l oi nj (k ++ kept) [] [] g [] (omega (arith, long)) (omega (arith, long)) (omega (arith, long)) (same 1 (old_end g) (new_end g) [])))
Patches-push _ _ _ _ _ _ kept g (next l oi nj k old new h rest at_least ko kn p) enough apart o n =
    let long_old = length-append k (old_lines h.lines ++ old) in
    let long_old_part = length-append (old_lines h.lines) old in
    let long_new = length-append k (new_lines h.lines ++ new) in
    let long_new_part = length-append (new_lines h.lines) new in
    let more : 0 < length kept = apart (omega arith) in
    subst (λ (x : Text). Patches l oi nj (h ∷ (rest ++ g ∷ [])) x ((k ++ (new_lines h.lines ++ new)) ++ (kept ++ new_lines g.lines)))
    (sym (regroup k (old_lines h.lines) old (kept ++ old_lines g.lines)))
    (subst (λ (x : Text). Patches l oi nj (h ∷ (rest ++ g ∷ [])) (k ++ (old_lines h.lines ++ (old ++ (kept ++ old_lines g.lines)))) x)
    (sym (regroup k (new_lines h.lines) new (kept ++ new_lines g.lines)))
    (next l oi nj k (old ++ (kept ++ old_lines g.lines)) (new ++ (kept ++ new_lines g.lines)) h (rest ++ g ∷ []) at_least ko kn
    (Patches-push 1 (old_end h) (new_end h) rest old new kept g p (omega arith) (λ r. more)
    (omega (arith, long_old, long_old_part)) (omega (arith, long_new, long_new_part)))))

-- a text without hunks stays
pub Patches-none : (least i j : ℕ) (hs : List Hunk) (a b : Text) → Patches least i j hs a b → hs ≡ [] → a ≡ b
Patches-none _ _ _ _ _ _ (same l oi nj k) e = refl
Patches-none _ _ _ _ _ _ (next l oi nj k old new h rest enough o n p) e = cc

-- an open hunk

pub shows_more : (old new : Text) (hunk longer : OpenHunk) (lines more : List Line) (end : Place)
    → Shows old new hunk lines → Extends hunk longer more end → AreInOrder old new hunk.end end
    → old_lines more ≡ slice_range old hunk.end.old end.old → new_lines more ≡ slice_range new hunk.end.new end.new
    → Shows old new longer (lines ++ more)
shows_more old new hunk longer lines more end s e order o n = record {
  text = e.text ∙ (ap (λ (t : List ℕ). t ++ flat_map line_text more) s.text ∙ sym (flat_map-append line_text lines more));
  order = rw (e.start, e.end) (record { old_order = omega arith; new_order = omega arith; old_fits = order.old_fits; new_fits = order.new_fits });
  old_side = rw (e.start, e.end) (old-append lines more ∙ (ap (λ (r : Text). r ++ old_lines more) s.old_side
      ∙ (ap (λ (r : Text). slice_range old hunk.start.old hunk.end.old ++ r) o ∙ slice_join old hunk.start.old hunk.end.old end.old s.order.old_order order.old_order)));
  new_side = rw (e.start, e.end) (new-append lines more ∙ (ap (λ (r : Text). r ++ new_lines more) s.new_side
      ∙ (ap (λ (r : Text). slice_range new hunk.start.new hunk.end.new ++ r) n ∙ slice_join new hunk.start.new hunk.end.new end.new s.order.new_order order.new_order)));
}

-- lines that both texts have at their places
pub shows_kept : (old new : Text) (hunk longer : OpenHunk) (lines : List Line) (end : Place)
    → Shows old new hunk lines → SameLines old new hunk.end end → Extends hunk longer (map Kept (slice_range old hunk.end.old end.old)) end
    → Shows old new longer (lines ++ map Kept (slice_range old hunk.end.old end.old))
shows_kept old new hunk longer lines end s f e =
    let kept = slice_range old hunk.end.old end.old in
    shows_more old new hunk longer lines (map Kept kept) end s e f.order (old-kept kept) (new-kept kept ∙ f.lines)

-- one hunk more is written
pub written_more : (old new : Text) (text longer : List ℕ) (hunks : List Hunk) (last start end : Place) (g : Hunk)
    → AreWritten old new text hunks last → SameLines old new last start → (0 < length hunks → last.old < start.old)
    → AreInOrder old new start end → g.old_before ≡ start.old → g.new_before ≡ start.new
    → old_lines g.lines ≡ slice_range old start.old end.old → new_lines g.lines ≡ slice_range new start.new end.new
    → HasContext (length old) g → longer ≡ text ++ hunk_text g
    → AreWritten old new longer (hunks ++ g ∷ []) end
written_more old new text longer hunks last start end g w between apart order o n os ns context is =
    let kept = slice_range old last.old start.old in
    let long_kept = length_slice old last.old start.old between.order.old_order between.order.old_fits in
    let long_old : length (slice_range old 0 last.old) ≡ last.old - 0 = length_slice old 0 last.old (omega arith) (omega arith) in
    let long_new : length (slice_range new 0 last.new) ≡ last.new - 0 = length_slice new 0 last.new (omega arith) (omega arith) in
    let pushed = Patches-push 0 0 0 hunks (slice_range old 0 last.old) (slice_range new 0 last.new) kept g w.patches
    (omega arith) (λ h. let before : last.old < start.old = apart h in omega (arith, long_kept))
    (omega (arith, long_kept, long_old)) (omega (arith, long_kept, long_new)) in
    let old_whole : slice_range old 0 last.old ++ (kept ++ old_lines g.lines) ≡ slice_range old 0 end.old =
    ap (λ (r : Text). slice_range old 0 last.old ++ (kept ++ r)) os
    ∙ (ap (λ (r : Text). slice_range old 0 last.old ++ r) (slice_join old last.old start.old end.old between.order.old_order order.old_order)
    ∙ slice_join old 0 last.old end.old (omega arith) (omega arith)) in
    let new_whole : slice_range new 0 last.new ++ (kept ++ new_lines g.lines) ≡ slice_range new 0 end.new =
    ap (λ (r : Text). slice_range new 0 last.new ++ (r ++ new_lines g.lines)) between.lines
    ∙ (ap (λ (r : Text). slice_range new 0 last.new ++ (slice_range new last.new start.new ++ r)) ns
    ∙ (ap (λ (r : Text). slice_range new 0 last.new ++ r) (slice_join new last.new start.new end.new between.order.new_order order.new_order)
    ∙ slice_join new 0 last.new end.new (omega arith) (omega arith))) in
    record {
      written = is ∙ (ap (λ (t : List ℕ). t ++ hunk_text g) w.written ∙ flat_map_more hunk_text [] hunks g);
      patches = subst (λ (x : Text). Patches 0 0 0 (hunks ++ g ∷ []) x (slice_range new 0 end.new)) old_whole
          (subst (λ (x : Text). Patches 0 0 0 (hunks ++ g ∷ []) (slice_range old 0 last.old ++ (kept ++ old_lines g.lines)) x) new_whole pushed);
      context = All-push (HasContext (length old)) hunks g w.context context;
    }

-- the head of a hunk that shows lines
head_is : (old new : Text) (hunk : OpenHunk) (lines : List Line) → Shows old new hunk lines
    → open_text hunk ≡ hunk_text (record { old_before = hunk.start.old; new_before = hunk.start.new; lines = lines })
head_is old new hunk lines s =
    let old_long : length (old_lines lines) ≡ hunk.end.old - hunk.start.old = ap length s.old_side ∙ length_slice old hunk.start.old hunk.end.old s.order.old_order s.order.old_fits in
    let new_long : length (new_lines lines) ≡ hunk.end.new - hunk.start.new = ap length s.new_side ∙ length_slice new hunk.start.new hunk.end.new s.order.new_order s.order.new_fits in
    let a = codes "@@ -" in
    let b = span_text hunk.start.old (length (old_lines lines)) in
    let c = codes " +" in
    let d = span_text hunk.start.new (length (new_lines lines)) in
    let e = codes " @@\n" in
    let f = flat_map line_text lines in
    let grouped : (a ++ (b ++ (c ++ (d ++ e)))) ++ f ≡ a ++ (b ++ (c ++ (d ++ (e ++ f)))) =
    append_assoc a (b ++ (c ++ (d ++ e))) f ∙ ap (λ (r : List ℕ). a ++ r) (append_assoc b (c ++ (d ++ e)) f
    ∙ ap (λ (r : List ℕ). b ++ r) (append_assoc c (d ++ e) f ∙ ap (λ (r : List ℕ). c ++ r) (append_assoc d e f))) in
    ap (λ (n : ℕ). codes "@@ -" ++ (span_text hunk.start.old n ++ (codes " +" ++ (span_text hunk.start.new (hunk.end.new - hunk.start.new) ++ (codes " @@\n" ++ string_bytes hunk.text))))) (sym old_long)
    ∙ (ap (λ (n : ℕ). codes "@@ -" ++ (b ++ (codes " +" ++ (span_text hunk.start.new n ++ (codes " @@\n" ++ string_bytes hunk.text))))) (sym new_long)
    ∙ (ap (λ (t : List ℕ). a ++ (b ++ (c ++ (d ++ (e ++ t))))) s.text ∙ sym grouped))

-- an open hunk is closed with the context behind it
pub closed_more : (old new : Text) (text longer : List ℕ) (hunk ended : OpenHunk) (end place : Place)
    → IsOpen old new text hunk → SameLines old new hunk.end place → (place.old < hunk.end.old + 3 → place.old ≡ length old)
    → end ≡ end_of_context hunk.end place → Extends hunk ended (map Kept (slice_range old hunk.end.old end.old)) end
    → longer ≡ text ++ open_text ended
    → AreClosed old new longer hunk.end place
closed_more old new text longer hunk ended end place begun f rest ends e is =
    let from = hunk.end in
    let context = slice_range old from.old end.old in
    let old_at : end.old ≡ from.old + min (place.old - from.old) 3 = ap (λ (p : Place). p.old) ends in
    let new_at : end.new ≡ from.new + min (place.old - from.old) 3 = ap (λ (p : Place). p.new) ends in
    let kept = same_up_to old new from end place f (omega arith) (omega arith) (omega arith) in
    let shown = shows_kept old new hunk ended begun.lines end begun.shows kept e in
    let lines = begun.lines ++ map Kept context in
    let g : Hunk = record { old_before = ended.start.old; new_before = ended.start.new; lines = lines } in
    let long : length context ≡ end.old - from.old = length_slice old from.old end.old kept.order.old_order kept.order.old_fits in
    let started = e.start in
    let at_end = e.end in
    let shown_long : length (old_lines lines) ≡ ended.end.old - ended.start.old = ap length shown.old_side ∙ length_slice old ended.start.old ended.end.old shown.order.old_order shown.order.old_fits in
    let ended_at : ended.end.old ≡ end.old = ap (λ (p : Place). p.old) at_end in
    let has : HasContext (length old) g = record {
      before = begun.begins.before;
      changed = begun.begins.changed;
      behind = context;
      lines = ap (λ (l : List Line). l ++ map Kept context) begun.begins.is ∙ append_assoc (map Kept begun.begins.before) begun.begins.changed (map Kept context);
      begins = begun.begins.begins;
      ends = begun.begins.ends;
      context_before = rw started begun.begins.context;
      context_behind = (omega arith, λ few. let all : place.old ≡ length old = rest (omega arith) in omega (arith, shown.order.old_order));
    } in
    let between : SameLines old new begun.last ended.start = rw started begun.between in
    let apart : 0 < length begun.hunks → begun.last.old < ended.start.old = rw started begun.apart in
    let all : AreWritten old new longer (begun.hunks ++ g ∷ []) ended.end =
    written_more old new text longer begun.hunks begun.last ended.start ended.end g begun.closed between apart shown.order refl refl shown.old_side shown.new_side has
    (is ∙ ap (λ (t : List ℕ). text ++ t) (head_is old new ended lines shown)) in
    record { hunks = begun.hunks ++ g ∷ []; written = subst (λ (p : Place). AreWritten old new longer (begun.hunks ++ g ∷ []) p) (at_end ∙ ends) all }

-- a new hunk begins with the context before a place
pub ready_new : (old new : Text) (text : List ℕ) (hunks : List Hunk) (last place : Place) (hunk : OpenHunk)
    → AreWritten old new text hunks last → SameLines old new last place → (0 < length hunks → last.old < place.old - 3) → last.old ≤ place.old - 3
    → hunk.start ≡ record { old = place.old - 3; new = place.new - min place.old 3 } → hunk.end ≡ place
    → string_bytes hunk.text ≡ flat_map line_text (map Kept (slice_range old (place.old - 3) place.old))
    → IsReady old new text hunk place
ready_new old new text hunks last place hunk w f apart behind starts ends is =
    let context = slice_range old (place.old - 3) place.old in
    let start : Place = record { old = place.old - 3; new = place.new - min place.old 3 } in
    let before = same_up_to old new last start place f behind (omega arith) (omega arith) in
    let kept = same_from old new last start place f behind (omega arith) (omega arith) in
    let long : length context ≡ place.old - (place.old - 3) = length_slice old (place.old - 3) place.old kept.order.old_order kept.order.old_fits in
    record {
      hunks = hunks;
      last = last;
      lines = map Kept context;
      closed = w;
      apart = rw starts apart;
      between = rw starts before;
      shows = record {
        text = is;
        order = rw (starts, ends) kept.order;
        old_side = rw (starts, ends) (old-kept context);
        new_side = rw (starts, ends) (new-kept context ∙ kept.lines);
      };
      at = ends;
      before = context;
      changed = [];
      is = sym (append-nil (map Kept context));
      context = (omega arith, λ few. rw starts (let none : place.old - 3 ≡ 0 = omega arith in none));
      begins = λ more b. b;
    }

-- where nothing is written yet
pub ready_first : (old new : Text) (text : List ℕ) (place : Place) (hunk : OpenHunk) → text ≡ [] → SameLines old new origin place
    → hunk.start ≡ record { old = place.old - 3; new = place.new - min place.old 3 } → hunk.end ≡ place
    → string_bytes hunk.text ≡ flat_map line_text (map Kept (slice_range old (place.old - 3) place.old))
    → IsReady old new text hunk place
ready_first old new text place hunk none f =
    ready_new old new text [] origin place hunk
    (record { written = none; patches = same 0 0 0 []; context = All-nil (HasContext (length old)) }) f (λ h. absurd (omega arith)) (omega arith)

-- behind a hunk that is closed
pub ready_next : (old new : Text) (text : List ℕ) (from place : Place) (hunk : OpenHunk) → AreClosed old new text from place
    → SameLines old new from place → from.old + 6 < place.old
    → hunk.start ≡ record { old = place.old - 3; new = place.new - min place.old 3 } → hunk.end ≡ place
    → string_bytes hunk.text ≡ flat_map line_text (map Kept (slice_range old (place.old - 3) place.old))
    → IsReady old new text hunk place
ready_next old new text from place hunk closed f far =
    let last = end_of_context from place in
    ready_new old new text closed.hunks last place hunk closed.written
    (same_from old new from last place f (omega arith) (omega arith) (omega arith)) (λ h. omega arith) (omega arith)

-- an open hunk goes on up to a place that is near
pub ready_near : (old new : Text) (text : List ℕ) (hunk longer : OpenHunk) (place : Place) → IsOpen old new text hunk → SameLines old new hunk.end place
    → Extends hunk longer (map Kept (slice_range old hunk.end.old place.old)) place → IsReady old new text longer place
ready_near old new text hunk longer place begun f e =
    let kept = map Kept (slice_range old hunk.end.old place.old) in
    record {
      hunks = begun.hunks;
      last = begun.last;
      lines = begun.lines ++ kept;
      closed = begun.closed;
      apart = rw e.start begun.apart;
      between = rw e.start begun.between;
      shows = shows_kept old new hunk longer begun.lines place begun.shows f e;
      at = e.end;
      before = begun.begins.before;
      changed = begun.begins.changed ++ kept;
      is = ap (λ (l : List Line). l ++ kept) begun.begins.is ∙ append_assoc (map Kept begun.begins.before) begun.begins.changed kept;
      context = rw e.start begun.begins.context;
      begins = λ more b. begins_more (begun.begins.changed ++ kept) more (begins_more begun.begins.changed kept begun.begins.begins);
    }

-- a block behind what is ready
pub open_block : (old new : Text) (text : List ℕ) (hunk longer : OpenHunk) (from to : Place) → IsReady old new text hunk from
    → AreInOrder old new from to → from.old + from.new < to.old + to.new
    → Extends hunk longer (map Removed (slice_range old from.old to.old) ++ map Added (slice_range new from.new to.new)) to
    → IsOpen old new text longer × SameLines old new longer.end to
open_block old new text hunk longer from to ready order some e =
    let removed = slice_range old from.old to.old in
    let added = slice_range new from.new to.new in
    let block = map Removed removed ++ map Added added in
    let reached = ready.at in
    let long_old = length_slice old from.old to.old order.old_order order.old_fits in
    let long_new = length_slice new from.new to.new order.new_order order.new_fits in
    let any : 0 < length removed + length added = omega (arith, long_old, long_new) in
    let shown : Shows old new longer (ready.lines ++ block) =
    shows_more old new hunk longer ready.lines block to ready.shows e (rw reached order) (rw reached (old-block removed added)) (rw reached (new-block removed added)) in (
      record {
        hunks = ready.hunks;
        last = ready.last;
        lines = ready.lines ++ block;
        closed = ready.closed;
        apart = rw e.start ready.apart;
        between = rw e.start ready.between;
        shows = shown;
        begins = record {
          before = ready.before;
          changed = ready.changed ++ block;
          is = ap (λ (l : List Line). l ++ block) ready.is ∙ append_assoc (map Kept ready.before) ready.changed block;
          context = rw e.start ready.context;
          begins = ready.begins block (begins_block removed added any);
          ends = ends_more ready.changed block (ends_block removed added any);
        };
      },
      rw e.end (same_none old new to order.old_fits order.new_fits),
    )

-- the end of two texts

pub hunks_none : (old new : Text) (text : List ℕ) (end : Place) → text ≡ [] → SameLines old new origin end → end.old ≡ length old → end.new ≡ length new
    → AreHunks old new text
hunks_none old new text end none f o n =
    let alike : old ≡ new = sym (slice_all old) ∙ (ap (slice_range old 0) (sym o) ∙ (f.lines ∙ (ap (slice_range new 0) n ∙ slice_all new))) in
    record { hunks = []; written = none; patches = subst (λ (x : Text). Patches 0 0 0 [] old x) alike (same 0 0 0 old); context = All-nil (HasContext (length old)) }

pub hunks_closed : (old new : Text) (text : List ℕ) (from end : Place) → AreClosed old new text from end → SameLines old new from end
    → end.old ≡ length old → end.new ≡ length new → AreHunks old new text
hunks_closed old new text from end closed f o n =
    let last = end_of_context from end in
    let rest = same_from old new from last end f (omega arith) (omega arith) (omega arith) in
    let kept = slice_range old last.old end.old in
    let old_whole : slice_range old 0 last.old ++ kept ≡ old =
    slice_join old 0 last.old end.old (omega arith) rest.order.old_order ∙ (ap (slice_range old 0) o ∙ slice_all old) in
    let new_whole : slice_range new 0 last.new ++ kept ≡ new =
    ap (λ (r : Text). slice_range new 0 last.new ++ r) rest.lines
    ∙ (slice_join new 0 last.new end.new (omega arith) rest.order.new_order ∙ (ap (slice_range new 0) n ∙ slice_all new)) in
    record {
      hunks = closed.hunks;
      written = closed.written.written;
      patches = subst (λ (x : Text). Patches 0 0 0 closed.hunks x new) old_whole
          (subst (λ (x : Text). Patches 0 0 0 closed.hunks (slice_range old 0 last.old ++ kept) x) new_whole
          (Patches-kept 0 0 0 closed.hunks (slice_range old 0 last.old) (slice_range new 0 last.new) kept closed.written.patches));
      context = closed.written.context;
    }

-- what is written up to a place, up to another one behind the same lines
pub writing_on : (old new : Text) (text : List ℕ) (current : Option OpenHunk) (at to : Place) → IsWritingParts old new text current at
    → SameLines old new at to → IsWritingParts old new text current to
writing_on old new text None at to w f = (w.0, same_join old new origin at to w.1 f)
writing_on old new text (Some hunk) at to w f = (w.0, same_join old new hunk.end at to w.1 f)

-- the place of writing lies in the texts
pub writing_fits : (old new : Text) (text : List ℕ) (current : Option OpenHunk) (at : Place) → IsWritingParts old new text current at
    → AreInOrder old new at (record { old = length old; new = length new })
writing_fits old new text None at w = record { old_order = w.1.order.old_fits; new_order = w.1.order.new_fits; old_fits = omega arith; new_fits = omega arith }
writing_fits old new text (Some hunk) at w = record { old_order = w.1.order.old_fits; new_order = w.1.order.new_fits; old_fits = omega arith; new_fits = omega arith }

-- a diff of hunks

cons_not_nil : (x : ℕ) (xs : List ℕ) → x ∷ xs ≡ [] → ⊥
cons_not_nil x xs e = cc

is_diff_of : (name old new diff text : List ℕ) (hunks : List Hunk) → text ≡ flat_map hunk_text hunks → Patches 0 0 0 hunks (lines_of old) (lines_of new)
    → All (HasContext (length (lines_of old))) hunks → (old ≡ new → ⊥) → diff ≡ file_head name ++ text → IsDiff name old new diff
is_diff_of name old new diff text [] w p context differ is =
    absurd (differ (sym (concat-lines_of old) ∙ (ap concat (Patches-none 0 0 0 [] (lines_of old) (lines_of new) p refl) ∙ concat-lines_of new)))
is_diff_of name old new diff text (g ∷ gs) w p context differ is = record {
  hunks = g ∷ gs;
  written = is ∙ ap (λ (t : List ℕ). file_head name ++ t) w;
  patches = p;
  context = context;
  empty = (λ none. absurd (cons_not_nil _ _ (sym is ∙ none)), λ alike. absurd (differ alike));
}

pub is_diff : (name old new diff text : List ℕ) → AreHunks (lines_of old) (lines_of new) text → (old ≡ new → ⊥) → diff ≡ file_head name ++ text
    → IsDiff name old new diff
is_diff name old new diff text h = is_diff_of name old new diff text h.hunks h.written h.patches h.context

pub no_diff : (name old new diff : List ℕ) → old ≡ new → diff ≡ [] → IsDiff name old new diff
no_diff name old new diff alike none = record {
  hunks = [];
  written = none;
  patches = subst (λ (x : List ℕ). Patches 0 0 0 [] (lines_of old) (lines_of x)) alike (same 0 0 0 (lines_of old));
  context = All-nil (HasContext (length (lines_of old)));
  empty = (λ _. alike, λ _. none);
}
