use Rattle.std.proofs.Common.{sym, subst}
use Rattle.ssr_syntax_shorts.specs.Shorts.{IsShort}
use Rattle.ssr_syntax_shorts.proofs.Joined.{is_as_it_is}
use Rattle.ssr_syntax_shorts.proofs.parts.Part.push_loose.Goals as goal

pub push_in_parentheses-requires-2 : goal.push_in_parentheses-requires-2
push_in_parentheses-requires-2 c =
    let text = c.as_str-text.result.now in
    subst (λ s. IsShort c.args.reach s text) (sym c.in_ok-own.ensures) (is_as_it_is c.args.reach text c.as_str-text.utf8)
