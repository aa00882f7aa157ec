-- Texts that are read in parts.
use Rattle.std.proofs.Common.{◌≡◌, ℕ, List, ◌++◌}
use Rattle.std.specs.Io.KnownBytes.{Consumes}
use Rattle.ssr_streams.specs.Streams.{Given}

-- what came so far, without a failure
pub record HasRead (old mid : Given) (input : List ℕ) : Type 0 where
  pub bytes : mid.bytes ≡ old.bytes ++ input
  pub known : Consumes old.remaining mid.remaining input
  pub calm : mid.failures ≡ old.failures
