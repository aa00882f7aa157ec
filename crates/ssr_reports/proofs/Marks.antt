-- Laws of first lines.
use Rattle.std.proofs.Common.{◌≡◌, ℕ, ◌<◌, ◌==◌, true, false, List, [], length, take, refl, sym, ◌∙◌, ap, codes, arith, take_all}
use Rattle.std.specs.List.{position_or_len}
use Rattle.std.proofs.lemmas.Bool.Decides.{nat_tests}
use Rattle.ssr_reports.specs.Places.{is_line_break, first_line, mark_of}

apart : (a b : ℕ) → a < b → (a == b) ≡ false
apart a b h = grind (arith, nat_tests)

alike : (a b : ℕ) → a ≡ b → (a == b) ≡ true
alike a b h = grind (arith, nat_tests)

pub mark_before_more : (text : List ℕ) → position_or_len is_line_break text < length text → codes " .." ≡ mark_of text
mark_before_more text h = rw (apart (position_or_len is_line_break text) (length text) h) refl

pub no_mark : (text : List ℕ) → position_or_len is_line_break text ≡ length text → [] ≡ mark_of text
no_mark text h = rw (alike (position_or_len is_line_break text) (length text) h) refl

pub whole_line : (text : List ℕ) → position_or_len is_line_break text ≡ length text → text ≡ first_line text
whole_line text h = sym (ap (λ (n : ℕ). take n text) h ∙ take_all (length text) text (omega arith))
