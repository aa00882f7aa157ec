use Rattle.std.proofs.Common.{◌≡◌, length, map, rules, Some, ap, arith}
use Rattle.std.proofs.lemmas.List.{length-map}
use Rattle.std.specs.List.{position_from}
use Rattle.ssr_base_trees.specs.Private.Stored.{expanded_of}
use Rattle.ssr_base_trees.specs.Workspace.{same_id}
use Rattle.ssr_base_trees.proofs.StoredLaws.{position_within}
use Rattle.ssr_base_trees.proofs.trees.Trees.expansion_of.Goals as goal

pub overflow_add-result : goal.overflow_add-result
overflow_add-result c =
    let expansions = map expanded_of c.self.inside.expansions.items in
    let found : position_from (λ e. same_id c.args.call e.call) 0 expansions ≡ Some c.in-Some.number.now = search rules steps 200000 in
    let files = ap (λ w. length w.files) c.self.view_is in
    omega (arith, files, position_within (λ e. same_id c.args.call e.call) 0 c.in-Some.number.now expansions found, c.self.invariant.few, length-map c.self.inside.expansions.items expanded_of)

pub returns-in-Some : goal.returns-in-Some
returns-in-Some c = search rules steps 1000000
