use Rattle.std.proofs.Common.{◌∙◌, length, ap}
use Rattle.ssr_syntax_kinds.specs.declared.reach.Reach.{Reach}
use Rattle.ssr_standing.specs.Expansions.{first_stand, stands_in}
use Rattle.ssr_standing.specs.Standing.{stands_of}
use Rattle.ssr_standing.proofs.Calls.{calls_decide, text_falls}
use Rattle.ssr_standing.proofs.Standings.{if_ok_same}
use Rattle.ssr_standing.proofs.expansions.SearchedFile.stands.Goals as goal

pub returns-then-not-text_stands : goal.returns-then-not-text_stands
returns-then-not-text_stands c =
    text_falls c.args.self.now.trees.now c.args.self.now.number c.args.self.now.tree.now c.args.edit.now c.in_ok-text_stands.text_stands
    c.args.self.now.there
    (c.in_ok-text_stands.ensures ∙ ap (λ (r : Reach). stands_of r c.args.self.now.tree.now c.args.edit.now) c.reach.ensures) (cc)

pub returns : goal.returns
returns c =
    let w = c.args.self.now.trees.now in
    let n = c.args.self.now.number in
    let file = c.args.self.now.tree.now in
    let cs = c.args.edit.now in
    if_ok_same c.calls_stand.result (first_stand w n file cs (length w.expansions)) (stands_in w n cs) c.calls_stand.ensures
    (calls_decide w n file cs c.in_ok-text_stands.text_stands c.args.self.now.there
    (c.in_ok-text_stands.ensures ∙ ap (λ (r : Reach). stands_of r c.args.self.now.tree.now c.args.edit.now) c.reach.ensures) (cc))
