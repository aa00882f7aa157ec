-- Private: the paths that a set has.
use Rattle.std.specs.Prelude.{◌≡◌, ℕ, Bool, List, ◌++◌, ◌⊎◌, bytes_eq}
use Rattle.std.specs.Borrow.{Bor}
use Rattle.std.specs.BTreeSet.{BTreeSet, contains_by}
use Rattle.std.specs.Cmp.Lexicographic.{slice_cmp}
use Rattle.std.specs.List.{list_any}
use Rattle.std.specs.Ordering.{nat_cmp}
use Rattle.ssr_writing.specs.declared.faults.WriteFault.{WriteFault}
use Rattle.ssr_writing.specs.declared.faults.WriteFault.TheVariants.{Clash, Memory}
use Rattle.ssr_writing.specs.Disk.{AreDistinct}

-- the paths that are taken
abbrev pub Paths : Type 0
Paths = BTreeSet (Bor (List ℕ))

-- whether this one is among them
abbrev pub has : Paths → List ℕ → Bool
has taken path = contains_by (λ other. slice_cmp nat_cmp path other.now) taken

-- these ones are taken, and no two of them are the same
abbrev pub AreTaken : Paths → List (List ℕ) → Type 0
AreTaken taken paths = ((path : List ℕ) → has taken path ≡ list_any (bytes_eq path) paths) × AreDistinct paths

-- more of them are taken now
abbrev pub AreAdded : Paths → Paths → List (List ℕ) → Type 0
AreAdded old new more = (paths : List (List ℕ)) → AreTaken old paths → AreTaken new (paths ++ more)

-- no more of them can be taken: there is no memory, or with these two would be the same
abbrev pub AreRefused : Paths → List (List ℕ) → WriteFault → Type 0
AreRefused taken more why =
    (why ≡ Memory) ⊎ ((why ≡ Clash) × ((paths : List (List ℕ)) → AreTaken taken paths → ¬ AreDistinct (paths ++ more)))
