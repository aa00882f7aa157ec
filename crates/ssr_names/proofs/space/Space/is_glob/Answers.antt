use Rattle.std.proofs.Common.{sym}
use Rattle.ssr_names.proofs.space.Space.is_glob.Goals as goal

pub returns-in-Glob : goal.returns-in-Glob
returns-in-Glob c = λ yes. record {
  row = c.in-Some.import.now;
  is = sym c.in-Some.ensures;
  within = c.is_same.ensures.yes c.if-not-is_same.false;
  brings = c.in-Glob.is;
  seen = c.is_seen.ensures.seen yes;
  asked = c.is_left_out.ensures.asked c.if-is_left_out.false;
}
