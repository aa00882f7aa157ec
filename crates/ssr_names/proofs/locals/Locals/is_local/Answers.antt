use Rattle.std.proofs.lemmas.Result.{IfOk-weaker}
use Rattle.ssr_names.proofs.Binding.{local_is_bound}
use Rattle.ssr_names.proofs.locals.Locals.is_local.Goals as goal

pub returns-in-Some-number : goal.returns-in-Some-number
returns-in-Some-number c =
    let locals = c.args.self.now in
    IfOk-weaker c.is_bound_around.result _ _
    (λ is around free. local_is_bound locals.trees.now c.args.path c.in-Some.tree.now c.in-Some.ensures locals.words.now locals.bound.now c.in-Some-value_name.text.now
    c.in-Some-number.name c.in-Some-value_name.ensures c.in-Some-number.ensures c.requires.collected c.requires.bound (around free))
    c.is_bound_around.ensures
