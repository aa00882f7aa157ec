-- A finder's search comes to an outcome, and so to edits or a clash.
use Rattle.std.proofs.Common.{inl, inr}
use Rattle.ssr_base_trees.specs.Built.{IsBuilt}
use Rattle.ide_ssr_nesting.proofs.Shared.{kept_exist, lists_exist}
use Rattle.ide_ssr_rewriting.specs.Replacements.{writing}
use Rattle.ide_ssr_rewriting.proofs.Shared.{answer_exists}
use Rattle.ide_ssr_search.proofs.Shared.{are_matches, some_found}
use Rattle.ide_ssr.specs.Finder.{Finder}
use Rattle.ide_ssr.specs.Laws.{AnswerExists, OutcomeExists}

pub outcome_exists : (finder : Finder) → IsBuilt finder.workspace → OutcomeExists finder
outcome_exists finder built =
    let w = finder.workspace in
    let found = some_found w built finder.meanings finder.context finder.rules in
    let kept = kept_exist w built found.0 (are_matches w finder.meanings finder.context finder.rules found.0 found.1) in
    let lists = lists_exist kept.0 kept.3 in (
      kept.0,
      lists.0,
      record { found = found.0; are_found = found.1; workspace = kept.1; are_kept = kept.2; is_kept = kept.3; are_lists = lists.1 },
    )

pub answer_exists_each : (finder : Finder) → IsBuilt finder.workspace → AnswerExists finder
answer_exists_each finder built templates =
    let outcome = outcome_exists finder built in
    let kept = outcome.0 in
    let lists = outcome.1 in
    elim (answer_exists kept outcome.2.is_kept lists (writing finder.meanings finder.rules) outcome.2.are_lists) [
      | inl edits ↦ inl (edits.0, (templates, (kept, lists, outcome.2, edits.1)))
      | inr clash ↦ inr (clash.0, clash.1, (templates, (kept, lists, outcome.2, clash.2)))
    ]
