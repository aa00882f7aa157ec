use Rattle.std.proofs.Common.{◌+◌, ◌++◌, ◌∷◌, [], List, map, refl, ap, ◌∙◌, subst}
use Rattle.ssr_base_trees.specs.declared.trees.Expanded.{Expanded as Stored}
use Rattle.ssr_base_trees.specs.Origins.{plain_origin}
use Rattle.ssr_base_trees.specs.Private.Covers.{AreCovers}
use Rattle.ssr_base_trees.proofs.Growing.{stored_more, stored_same}
use Rattle.ssr_base_trees.proofs.trees.Trees.add_tree.Goals as goal

pub invariant_of-self : goal.invariant_of-self
invariant_of-self c =
    stored_same c.self.inside (record { reach = c.self.inside.reach; files = c.self.inside.files; expansions = c.reserve.new.self; calls = c.self.inside.calls })
    c.self.invariant refl refl c.in_err-reserve.ensures.items refl

pub invariant_of-self-in_err-insert : goal.invariant_of-self-in_err-insert
invariant_of-self-in_err-insert c =
    stored_same c.self.inside (record { reach = c.self.inside.reach; files = c.self.inside.files; expansions = c.reserve.new.self; calls = c.insert.new.self })
    c.self.invariant refl refl c.in_ok-reserve.ensures.items c.in_err-insert.ensures.err

pub invariant_of-self-2 : goal.invariant_of-self-2
invariant_of-self-2 c =
    let new : Stored =
    record {
      tree = c.args.tree;
      call = c.args.call;
      origins = c.args.origins;
      covers = c.in_ok-covers.covers;
      file = c.file_of.result;
      nesting = c.nesting.result + 1;
    } in
    let covers : AreCovers c.args.tree (map plain_origin c.args.origins.items) c.in_ok-covers.covers.items =
    subst (λ os. AreCovers c.args.tree (map plain_origin os) c.in_ok-covers.covers.items) c.deref.ensures.value c.in_ok-covers.ensures in
    stored_more c.self.inside (record { reach = c.self.inside.reach; files = c.self.inside.files; expansions = c.push.new.self; calls = c.insert.new.self }) c.args.self.now new
    c.expansion_count-number.result c.self.invariant c.self.view_is refl refl
    (c.in-Ok.ensures.items ∙ ap (λ (es : List Stored). es ++ new ∷ []) c.in_ok-reserve.ensures.items) c.in_ok-insert.ensures.updates.0 c.requires.room
    c.requires.free.free c.requires.free.nested c.requires.of_call covers c.file_of.ensures (ap (λ n. n + 1) c.nesting.ensures) c.expansion_count-number.ensures
