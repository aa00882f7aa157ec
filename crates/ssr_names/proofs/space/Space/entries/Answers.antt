use Rattle.std.proofs.Common.{◌≡◌, ◌≤◌, ◌-◌, List, length, take, drop, All, Contains, subst, sym, ap, ◌∙◌}
use Rattle.ssr_names_items.specs.declared.table.Entry.{Entry}
use Rattle.ssr_names.specs.Lookup.{rank, rank_of}
use Rattle.ssr_names.proofs.LookingUp.{part_all, first_past, among_ranked}
use Rattle.ssr_names.proofs.space.Space.entries.Goals as goal

pub returns-clause-among : goal.returns-clause-among
returns-clause-among c =
    let part = c.between.ensures.part in
    subst (λ (es : List Entry). All (Contains es) c.between.result.now) c.deref.ensures.value (part_all _ _ part.0 part.1 part.2)

pub returns-clause-complete : goal.returns-clause-complete
returns-clause-complete c = λ ordered entry had ranked.
    let es = c.args.self.now.table.now.entries.items in
    let first = c.first_ranked-first.result in
    let past = c.past_ranked-past.result in
    let before = c.first_ranked-first.ensures.point ordered in
    let behind = c.past_ranked-past.ensures.point ordered in
    let bound = c.past_ranked-past.ensures.bound in
    let at : rank_of entry ≡ c.rank-rank.result =
    ap (λ m. rank m entry.name) ranked.0 ∙ ap (rank c.args.«module») ranked.1 ∙ sym c.rank-rank.ensures in
    let ups = first_past es _ first past before behind bound entry had at in
    let is = among_ranked es _ first past before behind bound entry had at in
    let v = c.deref.ensures.value in
    subst (λ (xs : List Entry). Contains xs entry)
    (sym (c.between.ensures.whole ups (subst (λ (xs : List Entry). past ≤ length xs) (sym v) bound) ∙ ap (λ (xs : List Entry). take (past - first) (drop first xs)) v)) is
