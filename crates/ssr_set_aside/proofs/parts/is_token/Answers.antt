use Rattle.std.proofs.Common.{sym, ◌∙◌}
use Rattle.ssr_set_aside.proofs.PartLaws.{got_token, ok_map}
use Rattle.ssr_set_aside.proofs.parts.is_token.Goals as goal

pub returns-in-Some : goal.returns-in-Some
returns-in-Some c = ok_map _ _ c.is_filled.result (λ yes filled holds.
    let same = c.is_range_of.ensures c.if-is_range_of.true in
    let start = same.0 in
    let end = same.1 in
    let text = c.as_str.ensures.value in
    let word = c.word.ensures in
    let fills = filled holds in
    record {
      token = c.in-Some.token.now;
      stands = got_token c.args.cut.now.tokens.now c.args.place c.in-Some.token.now c.in-Some.ensures.lookup.0 c.in-Some.ensures.lookup.1;
      may_go = sym c.is_of.ensures ∙ c.if-is_of.true;
      start = start;
      end = end;
      filled = cc;
    }) c.is_filled.ensures
