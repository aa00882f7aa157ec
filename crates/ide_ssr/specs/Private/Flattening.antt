-- Private: matches are flattened from the last to the first.
use Rattle.std.specs.Prelude.{◌≡◌, List, [], ◌∷◌, ◌++◌, Bool, true, false}
use Rattle.ide_ssr.specs.declared.matches.Match.{Match}
use Rattle.ide_ssr.specs.Flattened.{inside, IsAlone}

-- the last one of the matches that are left is a further flat one, and those in it are left in its place
pub record MovesLast (old left flat longer : List Match) : Type 0 where
  pub others : List Match
  pub m : Match
  pub alone : Match
  pub is_last : old ≡ others ++ m ∷ []
  pub in_its_place : left ≡ others ++ inside m
  pub is_alone : IsAlone m alone
  pub added : longer ≡ flat ++ alone ∷ []

-- a last one was moved, or none is left
abbrev pub FlattensLast : List Match → List Match → List Match → List Match → Bool → Type 0
FlattensLast old left flat longer true = MovesLast old left flat longer
FlattensLast old left flat longer false = (old ≡ []) × (longer ≡ flat)
