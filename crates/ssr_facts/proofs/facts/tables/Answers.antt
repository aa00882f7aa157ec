use Rattle.std.proofs.Common.{refl, ap, ◌∙◌}
use Rattle.std.specs.Option.{option_and_then}
use Rattle.ssr_syntax_kinds.specs.declared.kinds.SyntaxKind.TheVariants as k
use Rattle.ssr_facts.specs.declared.tables.Tables.{Tables}
use Rattle.ssr_facts.specs.Nodes.{node_at, place_of}
use Rattle.ssr_facts.specs.Scopes.{scope_of}
use Rattle.ssr_facts.specs.Private.Nodes.{at_place}
use Rattle.ssr_facts.proofs.Told.{same_meanings, named_rows, named_alike}
use Rattle.ssr_facts.proofs.facts.tables.Goals as goal

pub returns : goal.returns
returns c =
    let w = c.args.workspace.now in
    let rows = c.args.rows in
    let made : Tables = record {
      definitions = rows.definitions;
      scopes = c.in_ok-scopes_of_nodes.field-0;
      names = rows.names;
      members = rows.members;
      paths = c.in_ok-at_nodes.field-0;
      methods = c.in_ok-at_nodes-2.field-0;
      types = c.in_ok-types_by_nodes.field-0;
      printed = rows.printed;
    } in
    same_meanings w rows made (record {
      definitions = refl;
      scopes = λ x. c.in_ok-scopes_of_nodes.ensures x ∙ ap (λ scopes. option_and_then (scope_of scopes) (place_of w x)) c.deref.ensures.value;
      names = refl;
      members = refl;
      paths =
          c.in_ok-at_nodes.ensures ∙ ap (named_rows (at_place c.args.path_nodes.now)) c.deref-2.ensures.value
          ∙ named_alike (at_place c.args.path_nodes.now) (node_at w k.PATH) c.requires.paths rows.paths.items;
      methods =
          c.in_ok-at_nodes-2.ensures ∙ ap (named_rows (at_place c.args.call_nodes.now)) c.deref-3.ensures.value
          ∙ named_alike (at_place c.args.call_nodes.now) (node_at w k.METHOD_CALL_EXPR) c.requires.calls rows.methods.items;
      types = c.in_ok-types_by_nodes.ensures;
      printed = refl;
    })
