use Rattle.std.proofs.Common.{All, sym, subst}
use Rattle.std.proofs.lemmas.List.Elements.{All-nil}
use Rattle.ssr_names.specs.Lookup.{Reaches, reaches_directly}
use Rattle.ssr_names.proofs.LookingUp.{brought_none, brought_more, all_at}
use Rattle.ssr_names.proofs.space.Space.from_globs.Goals as goal

pub loop-place-init : goal.loop-place-init
loop-place-init c =
    let space = c.args.self.now in
    let m = c.args.«module» in
    let q = c.args.question in
    record {
      reached = c.in_ok-add_globs.ensures m q (subst (All (Reaches space m q)) (sym c.new-walk.ensures) (All-nil (Reaches space m q))) (λ i glob. reaches_directly i glob);
      brought = brought_none space m q c.if_open-found.result c.if_open-found.ensures;
    }

pub loop-place-preserved : goal.loop-place-preserved
loop-place-preserved c =
    let space = c.args.self.now in
    let m = c.args.«module» in
    let q = c.args.question in
    let l = c.loop-place in
    let here = all_at (Reaches space m q) l.walk.imports.items l.place c.in-Some.import l.invariant.reached c.in-Some.ensures in
    record {
      reached = c.in_ok-brought.ensures.reached m l.invariant.reached here;
      brought = brought_more space m q c.in-Some.import l.found c.in_ok-brought.brought c.join-found.result here l.invariant.brought c.in_ok-brought.ensures.brought c.join-found.ensures;
    }

pub returns : goal.returns
returns c = c.loop-place.invariant.brought
