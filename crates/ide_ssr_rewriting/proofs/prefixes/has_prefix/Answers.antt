use Rattle.std.proofs.Common.{ℕ, ◌≤◌, ◌++◌, ap, ◌∙◌, arith}
use Rattle.std.specs.Prelude.{replicate}
use Rattle.std.proofs.lemmas.Bool.Decides.{nat_tests}
use Rattle.ssr_base_trees.specs.declared.semantics.SelfKind.{SelfKind}
use Rattle.ide_ssr_rewriting.specs.Replacements.{taken_as}
use Rattle.ide_ssr_rewriting.proofs.NoPrefix.{no_stars}
use Rattle.ide_ssr_rewriting.proofs.prefixes.has_prefix.Goals as goal

pub returns-in-Owned : goal.returns-in-Owned
returns-in-Owned c = λ off.
    let n : ℕ = c.args.binding.deref_count in
    let none : n ≤ 0 = grind (arith, nat_tests) in
    ap (λ (kind : SelfKind). taken_as kind ++ replicate {A = ℕ} n 42) c.in-Owned.is ∙ no_stars n none
