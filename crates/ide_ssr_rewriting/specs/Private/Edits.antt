-- Private: which texts are known while the matches are gone through from the last to the first.
use Rattle.std.specs.Prelude.{ℕ, Contains, ◌+◌, ◌≡◌, ◌<◌, ◌≤◌, ◌==◌, if◌then◌else◌, zero, suc, List, length, slice_get, slice_index_or, drop, Option, None, flat_map}
use Rattle.std.specs.List.{enumerate_from}
use Rattle.std.specs.Option.{option_and_then}
use Rattle.ide_ssr_nesting.specs.Holding.{Kept}
use Rattle.ide_ssr_nesting.specs.Lists.{Listing}
use Rattle.ide_ssr_rewriting.specs.Clashes.{Clash, IsFirst}
use Rattle.ide_ssr_rewriting.specs.Private.Nest.{under}
use Rattle.ide_ssr_rewriting.specs.Replacements.{Writing}
use Rattle.ide_ssr_rewriting.specs.Edits.{Texts, text_by, list_under, clashes_under}

-- the text that is stored for a place
abbrev pub text_in : List (Option (List ℕ)) → Texts
text_in stored n = slice_index_or stored n None

-- the texts of so many matches from a place on, from the last one to the first
abbrev pub texts_from : Kept → Listing → Writing → ℕ → ℕ → Texts
texts_from kept listing by zero from n = None
texts_from kept listing by (suc left) from n =
    let later = texts_from kept listing by left (1 + from) in
    if n == from then option_and_then (λ m. text_by kept.workspace by m (list_under kept listing later from)) (slice_get kept.matches from) else later n

unfoldable pub texts_of : Kept → Listing → Writing → Texts
texts_of kept listing by = texts_from kept listing by (length kept.matches) 0

-- the clashes of the lists under the placeholders of the matches from a place on
abbrev pub clashes_from : Kept → Listing → Texts → ℕ → List Clash
clashes_from kept listing texts n = flat_map (λ p. clashes_under p.1 (list_under kept listing texts p.0)) (enumerate_from n (drop n kept.matches))

-- the matches from the place n on are gone through: what stands for those in no list of these is known, and the first clash
-- of these lists
pub record IsRun (kept : Kept) (listing : Listing) (by : Writing) (n : ℕ) (stored : List (Option (List ℕ))) (clash : Option Clash) : Type 0 where
  pub counted : length stored ≡ length kept.matches
  pub known : (j : ℕ) → n ≤ j → j < length kept.matches → ((k i : ℕ) → n ≤ k → Contains (under listing k i) j → ⊥) → text_in stored j ≡ texts_of kept listing by j
  pub first : IsFirst (clashes_from kept listing (texts_of kept listing by) n) clash
