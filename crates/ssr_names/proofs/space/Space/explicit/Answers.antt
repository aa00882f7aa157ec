use Rattle.std.proofs.Common.{true≢false, sym, ◌∙◌, inl, inr}
use Rattle.ssr_names.proofs.LookingUp.{declared_in, sure_in, free_in}
use Rattle.ssr_names.proofs.space.Space.explicit.Goals as goal

pub returns-then-declared : goal.returns-then-declared
returns-then-declared c =
    let space = c.args.self.now in
    let m = c.args.«module» in
    let es = c.entries-entries.result.now in
    let among = c.entries-entries.ensures.among in
    record {
      means = λ d is. declared_in space m c.args.question es among d (c.declared-declared.ensures.means d is);
      sure = λ sure. sure_in space m c.args.question es among (c.declared-declared.ensures.sure sure);
      free = λ unsure. absurd (true≢false (sym c.if-declared.true ∙ unsure));
    }

pub returns : goal.returns
returns c =
    let space = c.args.self.now in
    let m = c.args.«module» in
    let q = c.args.question in
    let es = c.entries-entries.result.now in
    let among = c.entries-entries.ensures.among in
    record {
      means = λ d is. elim (c.join.ensures.means d is) [
        | inl one ↦ declared_in space m q es among d (c.declared-declared.ensures.means d one)
        | inr two ↦ declared_in space m q es among d (c.imported.ensures.means d two)
      ];
      sure = λ sure. elim (c.join.ensures.sure sure) [
        | inl one ↦ sure_in space m q es among (c.declared-declared.ensures.sure one)
        | inr two ↦ sure_in space m q es among (c.imported.ensures.sure two)
      ];
      free = λ unsure. free_in space m q es among c.entries-entries.ensures.complete c.declared-declared.result c.imported.result c.declared-declared.ensures c.imported.ensures
          (c.join.ensures.unsure unsure).0 (c.join.ensures.unsure unsure).1;
    }
