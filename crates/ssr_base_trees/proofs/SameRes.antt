-- Things are the same exactly where the test says so.
use Rattle.std.proofs.Common.{◌≡◌, true, refl, ap}
use Rattle.std.proofs.lemmas.Bool.{eqb-true, eq-eqb}
use Rattle.ssr_base_trees.specs.declared.semantics.Res.{Res}
use Rattle.ssr_base_trees.specs.declared.semantics.Res.TheVariants as res
use Rattle.ssr_base_trees.specs.Meanings.{same_res}

pub same_res-equal : (a b : Res) → same_res a b ≡ true → a ≡ b
same_res-equal (res.Def a) (res.Def b) same = ap (λ n. res.Def (record { 0 = n })) (eqb-true a.0 b.0 same)
same_res-equal (res.Local a) (res.Local b) same = ap res.Local (eqb-true a b same)
same_res-equal (res.TypeParam a) (res.TypeParam b) same = ap res.TypeParam (eqb-true a b same)
same_res-equal (res.ConstParam a) (res.ConstParam b) same = ap res.ConstParam (eqb-true a b same)
same_res-equal (res.SelfType a) (res.SelfType b) same = ap res.SelfType (eqb-true a b same)
same_res-equal (res.Other a) (res.Other b) same = ap res.Other (eqb-true a b same)
same_res-equal a b same = cc

pub same_res-itself : (r : Res) → same_res r r ≡ true
same_res-itself (res.Def d) = eq-eqb d.0 d.0 refl
same_res-itself (res.Local n) = eq-eqb n n refl
same_res-itself (res.TypeParam n) = eq-eqb n n refl
same_res-itself (res.ConstParam n) = eq-eqb n n refl
same_res-itself (res.SelfType n) = eq-eqb n n refl
same_res-itself (res.Other n) = eq-eqb n n refl
