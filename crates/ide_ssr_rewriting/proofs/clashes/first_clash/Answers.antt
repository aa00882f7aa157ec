use Rattle.std.proofs.Common.{refl}
use Rattle.std.proofs.lemmas.List.{nil_from_length}
use Rattle.ide_ssr_rewriting.proofs.FirstClashes.{IsFirst-list}
use Rattle.ide_ssr_rewriting.proofs.clashes.first_clash.Goals as goal

pub returns-in_err-first : goal.returns-in_err-first
returns-in_err-first c = rw (c.from_residual.ensures, nil_from_length c.args.list.now c.in_err-first.ensures.cases) refl

pub returns : goal.returns
returns c = IsFirst-list c.args.list.now c.in_ok-first.first.now c.in_ok-first.behind.now _ c.requires c.in_ok-first.ensures.cases.0 c.first_behind.ensures
