use Rattle.std.proofs.Common.{◌≡◌, ◌<◌, ◌^◌, List, ℕ, subst, length, rules, string_bytes}
use Rattle.std.specs.Prelude.{IfOk, IfSome}
use Rattle.std.specs.Result.{result_ok}
use Rattle.ssr_syntax.specs.Reading.{file_reading_of}
use Rattle.ssr_standing.specs.Standing.{changed_text}
use Rattle.ssr_standing.proofs.standing.read_with.Goals as goal

pub returns-in-Ok-clause-tree : goal.returns-in-Ok-clause-tree
returns-in-Ok-clause-tree c =
    let made : string_bytes c.in-Ok.new ≡ changed_text c.args.tree.now c.args.edit.now = search rules in
    subst (λ (text : List ℕ). IfOk c.read.result (λ new. new ≡ result_ok (file_reading_of c.args.reach text))) made c.read.ensures.tree

pub returns-in-Ok-clause-short : goal.returns-in-Ok-clause-short
returns-in-Ok-clause-short c =
    let made : string_bytes c.in-Ok.new ≡ changed_text c.args.tree.now c.args.edit.now = search rules in
    subst (λ (text : List ℕ). IfOk c.read.result (λ new. IfSome new (λ _. length text < 2 ^ 32))) made c.read.ensures.short
