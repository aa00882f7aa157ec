use Rattle.std.proofs.lemmas.Result.{on_ok_weaker}
use Rattle.std.proofs.Common.{rules}
use Rattle.ssr_syntax_shorts.specs.Shorts.{IsReadOf, IsShort}
use Rattle.ssr_syntax_shorts.proofs.JoinedParts.{name_pushed, between_pushed}
use Rattle.ssr_syntax_shorts.proofs.parts.push_in_parentheses.Goals as goal

pub returns-in-Some : goal.returns-in-Some
returns-in-Some c =
    let reach = c.args.reach in
    let long = c.args.long.now in
    let told : IsShort reach c.args.own.now long → IsReadOf reach c.in-Some.tree long = search rules in
    on_ok_weaker c.push_in_parentheses.result (name_pushed reach c.in-Some.tree long c.args.short.now c.push_in_parentheses.new.self (told c.requires))
    c.push_in_parentheses.ensures

pub returns : goal.returns
returns c =
    on_ok_weaker c.push_str-2.result
    (between_pushed c.args.reach c.args.long.now c.args.own.now c.args.short.now c.push_str.new.self c.push.new.self c.push_str-2.new.self c.requires
    c.in_ok-push_str.ensures c.in_ok-push.ensures)
    c.push_str-2.ensures
