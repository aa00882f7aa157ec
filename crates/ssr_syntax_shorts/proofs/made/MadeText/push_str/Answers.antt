use Rattle.std.proofs.Common.{string_bytes, rules}
use Rattle.ssr_syntax_shorts.specs.Shorts.{IsShort, as_it_is}
use Rattle.ssr_syntax_shorts.proofs.Joined.{is_as_it_is, is_joined}
use Rattle.ssr_syntax_shorts.proofs.made.MadeText.push_str.Goals as goal

pub invariant_of-self-in_ok-push_str-2-2 : goal.invariant_of-self-in_ok-push_str-2-2
invariant_of-self-in_ok-push_str-2-2 c =
    let reach = c.self.inside.reach in
    let long = string_bytes c.self.inside.text in
    let was : IsShort reach c.in-Some.short long = search rules in
    let is = is_joined reach c.in-Some.short (as_it_is c.args.text.now) long c.args.text.now was (is_as_it_is reach c.args.text.now c.utf8.text) in
    search rules
