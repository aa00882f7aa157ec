use Rattle.std.proofs.Common.{◌≡◌, length, map, Option, List, sym, ap, subst, ◌∙◌}
use Rattle.std.proofs.lemmas.List.{length-map}
use Rattle.ssr_syntax_tree.specs.Syntax.{tokens_of}
use Rattle.ssr_syntax_tree.proofs.Shared.{length-tokens_in}
use Rattle.ssr_base_trees.specs.Workspace.{Workspace}
use Rattle.ssr_base_trees.specs.Origins.{plain_origin, Span}
use Rattle.ssr_base_trees.specs.Growth.{IsFree, IsOfCall}
use Rattle.ssr_base.specs.Building.{joined_origins}
use Rattle.ssr_base.proofs.Adding.{still_read}
use Rattle.ssr_base.proofs.Built.{read_of_call}
use Rattle.ssr_base.proofs.Calls.{checked_free}
use Rattle.ssr_base.proofs.Joining.{length-joined_origins}
use Rattle.ssr_base.proofs.workspace.Workspace.add_at.Goals as goal

pub add_tree-requires-clause-free : goal.add_tree-requires-clause-free
add_tree-requires-clause-free c =
    subst (λ (w : Workspace). IsFree w c.args.call) (sym c.self.view_is) (checked_free c.args.self.now c.args.expansion.now c.args.call (sym c.requires.call))

pub add_tree-requires-clause-counted : goal.add_tree-requires-clause-counted
add_tree-requires-clause-counted c =
    sym (length-map c.in_ok-origins.origins.items plain_origin)
    ∙ ap length c.in_ok-origins.ensures
    ∙ length-joined_origins (tokens_of c.args.tree) c.deref.result.now
    ∙ length-tokens_in c.args.tree.children

pub add_tree-requires-clause-of_call : goal.add_tree-requires-clause-of_call
add_tree-requires-clause-of_call c =
    let w = c.args.self.now in
    let x = c.args.expansion.now in
    let call = c.args.call in
    let tree = c.args.tree in
    let origins : map plain_origin c.in_ok-origins.origins.items ≡ joined_origins (tokens_of tree) x.tokens.items =
    c.in_ok-origins.ensures ∙ ap (joined_origins (tokens_of tree)) c.deref.ensures.value in
    subst (λ (w : Workspace). IsOfCall w (record { call = call; syntax = tree; origins = map plain_origin c.in_ok-origins.origins.items })) (sym c.self.view_is)
    (subst (λ (origins : List (Option Span)). IsOfCall w (record { call = call; syntax = tree; origins = origins })) (sym origins)
    (read_of_call w x call tree c.requires.call c.requires.read))

pub invariant_of-self : goal.invariant_of-self
invariant_of-self c =
    still_read c.add_tree.result c.self.inside.trees c.add_tree.new.self c.args.call c.args.tree (map plain_origin c.in_ok-origins.origins.items)
    c.add_tree.ensures.added c.add_tree.ensures.unchanged c.self.invariant
