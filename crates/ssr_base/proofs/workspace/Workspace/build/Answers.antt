use Rattle.std.proofs.Common.{◌+◌, ◌≤◌, length, sym, ap, ◌∙◌, arith}
use Rattle.ssr_base_trees.specs.Built.{most_trees}
use Rattle.ssr_base.specs.Building.{in_turn, with_expansion}
use Rattle.ssr_base.proofs.Turns.{answers_many, answers_files, answers_by, left_first}
use Rattle.ssr_base.proofs.workspace.Workspace.build.Goals as goal

pub returns-in_err-check_count : goal.returns-in_err-check_count
returns-in_err-check_count c =
    let files = c.args.files.items in
    let expansions = c.args.expansions.items in
    let e = c.in_err-check_count.field-0.0 in
    let many = c.in_err-check_count.ensures.many in
    let count : most_trees + 1 ≤ length files + length expansions =
    omega (arith, c.len.ensures, c.len-2.ensures, c.args.files.ok.0, c.args.expansions.ok.0, many.1) in
    answers_by files expansions c.from_residual.result e c.from_residual.ensures.1 (answers_many files expansions e many.0 count)

pub returns-in_err-workspace : goal.returns-in_err-workspace
returns-in_err-workspace c =
    let files = c.args.files.items in
    let expansions = c.args.expansions.items in
    let e = c.in_err-workspace.field-0.0 in
    let few : length files + length expansions ≤ most_trees =
    omega (arith, c.len.ensures, c.len-2.ensures, c.args.files.ok.0, c.args.expansions.ok.0, c.in_ok-check_count.ensures.few) in
    answers_by files expansions c.from_residual-in_err-workspace.result e c.from_residual-in_err-workspace.ensures.1
    (answers_files files expansions e few c.in_err-workspace.ensures.gives)

pub loop-expansion-init : goal.loop-expansion-init
loop-expansion-init c =
    let files = c.args.files.items in
    let expansions = c.args.expansions.items in
    let w = c.in_ok-workspace.workspace in
    let all = c.into_iter-expansion-iterator.ensures.into_iter_gives.0 in
    let few : length files + length expansions ≤ most_trees =
    omega (arith, c.len.ensures, c.len-2.ensures, c.args.files.ok.0, c.args.expansions.ok.0, c.in_ok-check_count.ensures.few) in
    let counted = c.in_ok-workspace.ensures.counted in
    record {
      room = omega (arith, few, counted.0, counted.1, ap length all);
      left = left_first files expansions w few c.in_ok-workspace.ensures.gives ∙ ap (in_turn with_expansion w) (sym all);
    }
