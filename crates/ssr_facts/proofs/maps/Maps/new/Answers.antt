use Rattle.std.proofs.Common.{refl, ap, ◌∙◌}
use Rattle.std.specs.Map.{lookup, keys_of}
use Rattle.ssr_base_trees.specs.Workspace.{same_id}
use Rattle.ssr_facts.specs.Tables.{callee}
use Rattle.ssr_facts.proofs.Same.{index_made}
use Rattle.ssr_facts.proofs.maps.Maps.new.Goals as goal

pub returns : goal.returns
returns c = record {
  definitions = refl;
  scopes = c.in_ok-first_rows.ensures;
  names = c.in_ok-first_rows-2.ensures;
  members = c.in_ok-first_rows-3.ensures;
  paths = c.in_ok-paths.ensures;
  methods = c.in_ok-methods.ensures;
  types = c.in_ok-first_rows-4.ensures;
  printed = c.in_ok-first_rows-5.ensures;
  usages =
      index_made c.new-usages.result c.add_paths.new.usages c.add_calls.new.usages
      (λ node. lookup (same_id node) c.in_ok-paths.paths.entries) (λ node. callee (lookup (same_id node) c.in_ok-methods.methods.entries))
      c.in_ok-named.named.items c.in_ok-called.called.items c.args.tables c.new-usages.ensures.empty c.in_ok-add_paths.ensures c.in_ok-add_calls.ensures
      (c.in_ok-named.ensures ∙ ap keys_of c.deref.ensures.value) (c.in_ok-called.ensures ∙ ap keys_of c.deref-2.ensures.value);
}
