-- Private: a list whose end is taken off, file by file.
use Rattle.std.specs.Prelude.{ℕ, ◌≡◌, ◌-◌, ◌<◌, List, ◌++◌, All, length, slice_index_or}
use Rattle.ide_ssr_rewriting.specs.Clashes.{Rewrite}

-- the last one of a list, if there is one, lies in another file
abbrev pub LastElsewhere : ℕ → List Rewrite → Type 0
LastElsewhere f rs = (d : Rewrite) → 0 < length rs → (slice_index_or rs (length rs - 1) d).range.file ≡ f → ⊥

-- the last part of a list is all of one file, and what stands directly in front of it lies in another file
pub record IsGroup (f : ℕ) (old left group : List Rewrite) : Type 0 where
  pub is : old ≡ left ++ group
  pub file : All (λ r. r.range.file ≡ f) group
  pub last : LastElsewhere f left
