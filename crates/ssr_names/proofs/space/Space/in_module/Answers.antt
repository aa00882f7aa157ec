use Rattle.ssr_names.proofs.LookingUp.{declared_alone, declared_first}
use Rattle.ssr_names.proofs.space.Space.in_module.Goals as goal

pub returns-then-hides_all : goal.returns-then-hides_all
returns-then-hides_all c = declared_alone c.args.self.now c.args.«module» c.args.question c.explicit-explicit.result c.explicit-explicit.ensures

pub returns : goal.returns
returns c =
    declared_first c.args.self.now c.args.«module» c.args.question c.explicit-explicit.result c.in_ok-globs.globs c.hiding.result c.explicit-explicit.ensures c.in_ok-globs.ensures
    c.hiding.ensures
