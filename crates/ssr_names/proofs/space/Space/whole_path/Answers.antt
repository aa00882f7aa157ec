use Rattle.std.proofs.lemmas.Result.{IfOk-weaker}
use Rattle.ssr_names.proofs.WholePaths.{whole_of_macro}
use Rattle.ssr_names.proofs.space.Space.whole_path.Goals as goal

pub returns-in-Some : goal.returns-in-Some
returns-in-Some c =
    let lone = c.in-Some.ensures in
    IfOk-weaker c.macro_answer.result _ _
    (λ answer means d is. whole_of_macro c.args.self.now c.args.path c.in-Some.name d lone.0 lone.1 lone.2 (means d is))
    c.macro_answer.ensures
