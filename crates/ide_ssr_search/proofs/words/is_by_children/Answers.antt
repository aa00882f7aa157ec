use Rattle.std.proofs.Common.{◌≡◌, ◌∙◌, ap, sym, refl, Bool, true, false, not}
use Rattle.std.specs.Prelude.{IsTrue}
use Rattle.ssr_syntax_tree.specs.Places.{node_of}
use Rattle.ssr_syntax_tree.proofs.Shared.{node_of-number}
use Rattle.ide_ssr_resolved_rule.specs.QualifiedCalls.{call_at}
use Rattle.ide_ssr_resolved_rule.specs.UsedPaths.{res_at}
use Rattle.ide_ssr_search.specs.Private.Words.{pairs_otherwise}
use Rattle.ide_ssr_search.proofs.Asked.{not_some}
use Rattle.ide_ssr_search.proofs.words.is_by_children.Goals as goal

not_so : (b : Bool) → IsTrue (not b) → b ≡ false
not_so true is = let e : false ≡ true = is in cc
not_so false is = refl

pub returns : goal.returns
returns c =
    let rule = c.args.rule.now in
    let number = node_of-number rule.pattern c.args.node.0 c.requires in
    λ other. record {
      no_placeholder = sym c.placeholder.ensures ∙ not_some c.placeholder.result (sym c.is_some.ensures ∙ c.if-is_some.false);
      no_call = ap (λ n. call_at rule.qualified_calls (record { 0 = n })) number ∙ sym c.qualified_call.ensures
          ∙ not_some c.qualified_call.result (sym c.is_some-2.ensures ∙ c.if-is_some-2.false);
      no_path = ap (λ n. res_at rule.pattern_paths (record { 0 = n })) number ∙ sym c.pattern_res.ensures
          ∙ not_some c.pattern_res.result (sym c.is_some-3.ensures ∙ c.if-is_some-3.false);
      each = ap pairs_otherwise (sym (c.kind.ensures ∙ ap (λ s. (node_of s c.args.node.0).kind) c.pattern.ensures)) ∙ sym c.pairs_otherwise.ensures
          ∙ not_so c.pairs_otherwise.result other;
    }
