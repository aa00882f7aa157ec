use Rattle.std.proofs.Common.{ap, ◌∙◌}
use Rattle.ssr_base_trees.specs.Workspace.{trees}
use Rattle.ssr_names.proofs.Telling.{tells_rows}
use Rattle.ssr_names.proofs.reading.read_names.Goals as goal

pub returns-clause-local : goal.returns-clause-local
returns-clause-local c = c.names_of.ensures.local (trees c.args.trees.now) c.in_ok-rows.ensures.local

pub returns-clause-stands : goal.returns-clause-stands
returns-clause-stands c =
    tells_rows _ _ _ (trees c.args.trees.now) _ _ _ _ _ _ _ c.in_ok-manifests.ensures c.in_ok-special.ensures.declared
    (ap (λ t. t.now) (c.in_ok-impls.ensures.table ∙ c.in_ok-space.ensures.table)) c.in_ok-special.ensures.stranger c.in_ok-impls.ensures.ready
    (ap (λ s. s.trees.items) c.names_of.ensures.scopes) c.names_of.ensures.known c.in_ok-rows.ensures.told
    c.names_of.ensures.printed c.in_ok-printed.ensures
