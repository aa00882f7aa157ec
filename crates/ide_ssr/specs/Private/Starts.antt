-- Private: bindings with the places at which they begin.
use Rattle.std.specs.Prelude.{ℕ, ◌≡◌, ◌<◌, List, [], ◌∷◌, Some, All, length, slice_index_or}
use Rattle.ssr_base_trees.specs.Workspace.{Workspace}
use Rattle.ide_ssr_bindings.specs.Found.{FoundMatch}
use Rattle.ide_ssr.specs.declared.starts.Start.{Start}
use Rattle.ide_ssr.specs.Starts.{start_at}

abbrev pub IsStartOf : Workspace → FoundMatch → Start → Type 0
IsStartOf w m start = start_at w m start.place ≡ Some start.at

-- the first n bindings of a match, in the order of the pattern
pub record AreStarts (w : Workspace) (m : FoundMatch) (n : ℕ) (starts : List Start) : Type 0 where
  pub counted : length starts ≡ n
  pub each : All (IsStartOf w m) starts
  pub places : (i : ℕ) (d : Start) → i < n → (slice_index_or starts i d).place ≡ i

-- the numbers by which bindings are sorted
abbrev pub start_key : Start → List ℕ
start_key start = start.at ∷ start.place ∷ []
