use Rattle.std.proofs.Common.{◌≡◌, ℕ, option_map, refl, subst, arith}
use Rattle.ide_ssr_rewriting.specs.Clashes.{clash_of}
use Rattle.ide_ssr_rewriting.specs.Replacements.{writing}
use Rattle.ide_ssr_rewriting.specs.Private.Edits.{IsRun}
use Rattle.ide_ssr_rewriting.proofs.Nests.{is_nest}
use Rattle.ide_ssr_rewriting.proofs.Runs.{run-starts}
use Rattle.ide_ssr_rewriting.proofs.editing.run.Goals as goal

pub returns-in_err-texts-clause-nest : goal.returns-in_err-texts-clause-nest
returns-in_err-texts-clause-nest g c = is_nest c.args.kept.now c.args.lists.now c.len-count.ensures.kept c.requires

pub rewrite_at-requires-clause-nest : goal.rewrite_at-requires-clause-nest
rewrite_at-requires-clause-nest g c = is_nest c.args.kept.now c.args.lists.now c.len-count.ensures.kept c.requires

pub returns-in_err-rewrite_at-clause-nest : goal.returns-in_err-rewrite_at-clause-nest
returns-in_err-rewrite_at-clause-nest g c = is_nest c.args.kept.now c.args.lists.now c.len-count.ensures.kept c.requires

pub returns-clause-nest : goal.returns-clause-nest
returns-clause-nest g c = is_nest c.args.kept.now c.args.lists.now c.len-count.ensures.kept c.requires

pub loop-place-init : goal.loop-place-init
loop-place-init g c =
    run-starts c.args.kept.now c.args.lists.now (writing (g.S.Semantics.meanings c.args.writer.now.semantics.now) c.args.writer.now.rules.now) c.len-count.result c.in_ok-texts.texts.items _ c.len-count.ensures.count c.in_ok-texts.ensures refl

pub returns-clause-run : goal.returns-clause-run
returns-clause-run g c =
    let all : c.loop-place.place ≡ 0 = omega arith in
    subst (λ (n : ℕ). IsRun c.args.kept.now c.args.lists.now (writing (g.S.Semantics.meanings c.args.writer.now.semantics.now) c.args.writer.now.rules.now) n c.loop-place.pending.texts.items (option_map clash_of c.loop-place.pending.clash)) all c.loop-place.invariant
