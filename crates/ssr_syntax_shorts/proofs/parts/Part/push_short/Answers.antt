use Rattle.std.proofs.Common.{subst}
use Rattle.std.proofs.lemmas.Result.{on_ok_weaker}
use Rattle.ssr_syntax_shorts.specs.Private.Joining.{IsPushed}
use Rattle.ssr_syntax_shorts.proofs.JoinedParts.{as_pushed}
use Rattle.ssr_syntax_shorts.proofs.parts.Part.push_short.Goals as goal

pub returns-in-None : goal.returns-in-None
returns-in-None c =
    let old = c.args.short.now in
    let new = c.push_str.new.self in
    on_ok_weaker c.push_str.result
    (λ e. subst (λ t. IsPushed c.args.reach t old new) c.as_str.ensures (as_pushed c.args.reach c.as_str.result.now old new c.as_str.utf8 e))
    c.push_str.ensures
