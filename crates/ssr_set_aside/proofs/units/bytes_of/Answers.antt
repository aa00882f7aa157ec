use Rattle.std.proofs.Common.{rules}
use Rattle.ssr_set_aside.proofs.PartLaws.{got_token}
use Rattle.ssr_set_aside.proofs.units.bytes_of.Goals as goal

pub returns-in-Some-Some : goal.returns-in-Some-Some
returns-in-Some-Some c = record {
  first = c.in-Some-Some.first.now;
  begins = got_token c.args.tokens.now c.args.from c.in-Some-Some.first.now c.in-Some-Some.ensures.lookup.0 c.in-Some-Some.ensures.lookup.1;
  start = c.new.ensures.start;
  before = c.in_ok-last.last;
  follows = search rules;
  last = c.in-Some-Some.last.now;
  ends = got_token c.args.tokens.now c.in_ok-last.last c.in-Some-Some.last.now c.in-Some-Some.ensures'.lookup.0 c.in-Some-Some.ensures'.lookup.1;
  end = c.new.ensures.end;
}
