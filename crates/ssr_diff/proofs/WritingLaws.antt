-- Laws of lines that are written one by one.
use Rattle.std.proofs.Common.{◌≡◌, ℕ, ◌+◌, ◌-◌, ◌≤◌, ◌==◌, false, List, ◌++◌, length, map, slice_get, slice_index, Some, sym, ◌∙◌, ap, codes, append_assoc}
use Rattle.std.specs.List.{slice_range, flat_map}
use Rattle.std.proofs.lemmas.List.{flat_map_more}
use Rattle.std.proofs.lemmas.List.Folds.{flat_map-map}
use Rattle.std.proofs.lemmas.Grind.{flat_map-append}
use Rattle.ssr_diff.specs.Patch.{Kept, Removed, Added, line_text, signed_line}
use Rattle.ssr_diff.specs.Private.Writing.{Text}
use Rattle.ssr_diff.proofs.SameLines.{slice_more}

-- a line without its line break
pub signed_unended : (start signed lined text sign line : List ℕ) → signed ≡ start ++ sign → lined ≡ signed ++ line
    → text ≡ lined ++ codes "\n\\ No newline at end of file\n" → (slice_index line (length line - 1) == 10) ≡ false → text ≡ start ++ signed_line sign line
signed_unended start signed lined text sign line s l t not_ended =
    let remark = codes "\n\\ No newline at end of file\n" in
    rw not_ended (t ∙ (ap (λ (x : List ℕ). x ++ remark) (l ∙ ap (λ (x : List ℕ). x ++ line) s)
    ∙ (append_assoc (start ++ sign) line remark ∙ append_assoc start sign (line ++ remark))))

-- one line more
pub lines_more : (f : List ℕ → List ℕ) (xs : Text) (a b : ℕ) (x start so_far text : List ℕ) → a ≤ b → slice_get xs b ≡ Some x
    → so_far ≡ start ++ flat_map f (slice_range xs a b) → text ≡ so_far ++ f x → text ≡ start ++ flat_map f (slice_range xs a (b + 1))
lines_more f xs a b x start so_far text h e s t =
    t ∙ (ap (λ (r : List ℕ). r ++ f x) s ∙ (flat_map_more f start (slice_range xs a b) x
    ∙ ap (λ (ys : Text). start ++ flat_map f ys) (slice_more xs a b x h e)))

-- lines with one sign
pub kept_text : (xs : Text) → flat_map (signed_line (codes " ")) xs ≡ flat_map line_text (map (λ (x : List ℕ). Kept x) xs)
kept_text xs = sym (flat_map-map line_text (λ (x : List ℕ). Kept x) xs)

removed_text : (xs : Text) → flat_map (signed_line (codes "-")) xs ≡ flat_map line_text (map (λ (x : List ℕ). Removed x) xs)
removed_text xs = sym (flat_map-map line_text (λ (x : List ℕ). Removed x) xs)

added_text : (xs : Text) → flat_map (signed_line (codes "+")) xs ≡ flat_map line_text (map (λ (x : List ℕ). Added x) xs)
added_text xs = sym (flat_map-map line_text (λ (x : List ℕ). Added x) xs)

-- removed lines, and then added ones
pub block_text : (start removed text : List ℕ) (xs ys : Text) → removed ≡ start ++ flat_map (signed_line (codes "-")) xs
    → text ≡ removed ++ flat_map (signed_line (codes "+")) ys
    → text ≡ start ++ flat_map line_text (map (λ (x : List ℕ). Removed x) xs ++ map (λ (x : List ℕ). Added x) ys)
block_text start removed text xs ys r t =
    let gone = map (λ (x : List ℕ). Removed x) xs in
    let new = map (λ (x : List ℕ). Added x) ys in
    t ∙ (ap (λ (x : List ℕ). x ++ flat_map (signed_line (codes "+")) ys) (r ∙ ap (λ (x : List ℕ). start ++ x) (removed_text xs))
    ∙ (ap (λ (x : List ℕ). (start ++ flat_map line_text gone) ++ x) (added_text ys)
    ∙ (append_assoc start (flat_map line_text gone) (flat_map line_text new)
    ∙ ap (λ (x : List ℕ). start ++ x) (sym (flat_map-append line_text gone new)))))
