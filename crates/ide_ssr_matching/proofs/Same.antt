-- A used path stands for what is told of a node exactly where the test says so.
use Rattle.std.proofs.Common.{◌≡◌, Bool, true, false, Option, Some, None, refl}
use Rattle.ssr_base_trees.specs.declared.semantics.Res.{Res}
use Rattle.ssr_base_trees.proofs.Shared.{same_res-equal, same_res-itself}
use Rattle.ide_ssr_matching.specs.Bindings.{stands_for, stands_if}

pub stands_for-told : (r : Res) (told : Option Res) → stands_for r told ≡ true → told ≡ Some r
stands_for-told r None stands = cc
stands_for-told r (Some other) stands = let same : r ≡ other = same_res-equal r other stands in cc

pub told-stands_for : (r : Res) (told : Option Res) → told ≡ Some r → stands_for r told ≡ true
told-stands_for r told is = rw is (same_res-itself r)

pub stands_if-told : (names : Bool) (r : Res) (told : Option Res) → stands_if names r told ≡ true → names ≡ true → told ≡ Some r
stands_if-told true r told stands asked = stands_for-told r told stands
stands_if-told false r told stands asked = let e : false ≡ true = asked in cc

pub told-stands_if : (names : Bool) (r : Res) (told : Option Res) → (names ≡ true → told ≡ Some r) → stands_if names r told ≡ true
told-stands_if true r told is = told-stands_for r told (is refl)
told-stands_if false r told is = refl
