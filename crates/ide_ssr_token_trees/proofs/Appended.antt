-- Bindings that come behind those that are recorded.
use Rattle.std.proofs.Common.{◌≡◌, List, [], ◌++◌, Some, None, refl, ap, append_assoc, append-nil}
use Rattle.ide_ssr_bindings.specs.declared.bindings.Binding.{Binding}
use Rattle.ide_ssr_token_trees.specs.Recording.{Recorded, recorded}

pub recorded-nil : (old : Recorded) → recorded old [] ≡ old
recorded-nil None = refl
recorded-nil (Some before) = ap Some (append-nil before)

pub recorded-append : (old : Recorded) (bs more : List Binding) → recorded (recorded old bs) more ≡ recorded old (bs ++ more)
recorded-append None bs more = refl
recorded-append (Some before) bs more = ap Some (append_assoc before bs more)
