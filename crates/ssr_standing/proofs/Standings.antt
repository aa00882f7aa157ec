-- The places of an edit's texts in a text that is read.
use Rattle.std.proofs.Common.{◌≡◌, ◌<◌, ◌^◌, ◌∙◌, ℕ, ◌+◌, ◌≤◌, Bool, List, length, arith}
use Rattle.std.specs.Prelude.{All, IfOk, Result, Ok, Err}
use Rattle.std.proofs.lemmas.List.Elements.{All-weaker}
use Rattle.ssr_base_trees.specs.Changes.{Change, FitsText, replaced}
use Rattle.ssr_standing.specs.Ranges.{IsShort, new_places}
use Rattle.ssr_standing.proofs.Places.{BeginsIn, ends_within}

-- in a text shorter than 2^32 bytes 32 bits count all of them
pub all_short : (text : List ℕ) (cs : List Change) → All (FitsText text) cs
    → length (replaced text 0 (length text) cs) < 2 ^ 32 → All IsShort (new_places 0 0 cs)
all_short text cs fit short =
    All-weaker (λ place. place.end ≤ 0 + length (replaced text 0 (length text) cs)) IsShort (λ place h. omega arith) (new_places 0 0 cs)
    (ends_within text 0 0 (length text) cs (All-weaker (FitsText text) (BeginsIn text) (λ c fits. fits.0.0) cs fit))

-- and in a part of a text with changes made, behind so many bytes
pub part_short : (text : List ℕ) (at from to : ℕ) (cs : List Change) → All (BeginsIn text) cs
    → at + length (replaced text from to cs) < 2 ^ 32 → All IsShort (new_places at from cs)
part_short text at from to cs begin short =
    All-weaker (λ place. place.end ≤ at + length (replaced text from to cs)) IsShort (λ place h. omega arith) (new_places at from cs)
    (ends_within text at from to cs begin)

-- an answer that is one value is any value that is the same
pub if_ok_same : {E : Type 0} (answer : Result Bool E) (x y : Bool) → IfOk answer (λ v. v ≡ x) → x ≡ y → IfOk answer (λ v. v ≡ y)
if_ok_same (Ok v) x y h e = h ∙ e
if_ok_same (Err error) x y h e = tt
