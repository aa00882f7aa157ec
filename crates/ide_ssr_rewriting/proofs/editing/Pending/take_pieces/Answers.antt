use Rattle.std.proofs.Common.{◌≡◌, ◌≢◌, ◌&&◌, ◌++◌, ◌<◌, Bool, List, Option, ℕ, All, get_or, length, option_map, is_some, string_bytes, sym, ◌∙◌, ap, subst, arith}
use Rattle.ide_ssr_rewriting.specs.Private.Pieces.{piece_bytes}
use Rattle.std.specs.Prelude.{AllPairs, Contains, None, Some, if◌then◌else◌}
use Rattle.std.proofs.lemmas.List.{get_or_default}
use Rattle.std.proofs.lemmas.Option.{slice_get-get_or}
use Rattle.ssr_base_trees.specs.declared.ids.NodeId.{NodeId}
use Rattle.ssr_base_trees.specs.Workspace.{FileSpan, Workspace, file_span_of, trees}
use Rattle.ide_ssr_resolved_rule.specs.Resolved.{ResolvedRule}
use Rattle.ide_ssr_bindings.specs.declared.bindings.Binding.{Binding}
use Rattle.ide_ssr_bindings.specs.Found.{FoundMatch, held_range, node_binding}
use Rattle.ide_ssr_nesting.specs.Holding.{Kept}
use Rattle.ide_ssr_rewriting.specs.Clashes.{IsFirst, Rewrite, clash_of, clashes, is_clean}
use Rattle.ide_ssr_rewriting.specs.Private.Clashes.{AreInOrder}
use Rattle.ide_ssr_rewriting.specs.Replacements.{held_text, prefix_by}
use Rattle.ide_ssr_rewriting.specs.Edits.{list_at, list_under}
use Rattle.ide_ssr_rewriting.specs.Private.Edits.{text_in}
use Rattle.ide_ssr_rewriting.proofs.Fits.{list_fits}
use Rattle.ide_ssr_rewriting.proofs.Pieces.{list_in_order, list_left, left-more, written-more, noted-more, piece_of_held, taken_pieces, taken_clashes}
use Rattle.ide_ssr_rewriting.proofs.editing.Pending.take_pieces.Goals as goal
use Rattle.ide_ssr_rewriting.proofs.editing.Pending.take_pieces.Goals.{then-branch, else-branch}

abbrev nobody : Binding
nobody = node_binding 0 0

-- what is written in front of it, as it is read
prefix_read : (rules : List ResolvedRule) (m : FoundMatch) (r : ℕ) (bs : List Binding) (i : ℕ) → r ≡ m.rule → bs ≡ m.bindings
    → prefix_by rules r (get_or bs i nobody) ≡ prefix_by rules m.rule (get_or m.bindings i nobody)
prefix_read rules m r bs i same_rule same_bs =
    ap (λ (r : ℕ). prefix_by rules r (get_or bs i nobody)) same_rule
    ∙ ap (λ (bs : List Binding). prefix_by rules m.rule (get_or bs i nobody)) same_bs

-- where what the binding of a place holds comes from, as it is read
held_read : (kept : Kept) (m : FoundMatch) (w : Workspace) (x : NodeId) (bs : List Binding) (i : ℕ) (range : Option FileSpan) → w ≡ kept.workspace → x ≡ m.node → bs ≡ m.bindings
    → range ≡ held_range (trees w) x.tree (get_or bs i nobody) → range ≡ held_range (trees kept.workspace) m.node.tree (get_or m.bindings i nobody)
held_read kept m w x bs i range same_w same_x same_bs is =
    is
    ∙ ap (λ (w : Workspace). held_range (trees w) x.tree (get_or bs i nobody)) same_w
    ∙ ap (λ (x : NodeId). held_range (trees kept.workspace) x.tree (get_or bs i nobody)) same_x
    ∙ ap (λ (bs : List Binding). held_range (trees kept.workspace) m.node.tree (get_or bs i nobody)) same_bs

pub take_list-requires-clause-within : goal.take_list-requires-clause-within
take_list-requires-clause-within g c =
    subst (All (λ n. n < length c.args.nest.now.kept.now.matches)) (sym c.under.ensures) (c.requires.nest.lists (Some (record { place = c.args.place; binding = c.loop-index.index }))).within

pub take_list-requires-clause-once : goal.take_list-requires-clause-once
take_list-requires-clause-once g c = subst (λ (xs : List ℕ). AllPairs ◌≢◌ xs) (sym c.under.ensures) (c.requires.nest.lists (Some (record { place = c.args.place; binding = c.loop-index.index }))).once

pub take_list-requires-clause-order : goal.take_list-requires-clause-order
take_list-requires-clause-order g c =
    subst (λ (xs : List ℕ). AreInOrder (list_at c.args.nest.now.kept.now (text_in c.loop-index.self.texts.items) xs)) (sym c.under.ensures)
    (list_in_order c.args.nest.now.kept.now c.args.nest.now.lists.now c.requires.nest (Some (record { place = c.args.place; binding = c.loop-index.index })) (text_in c.loop-index.self.texts.items))

pub held_if_clean-requires-clause-list : goal.held_if_clean-requires-clause-list
held_if_clean-requires-clause-list g c =
    let m = c.args.m.now in
    let i = c.loop-index.index in
    let b = get_or m.bindings i nobody in
    let lt : i < length m.bindings = omega (arith, ap (λ (bs : List Binding). length bs) c.bindings-binding-items.ensures) in
    rw c.workspace-in-loop-index.ensures
    (list_fits c.args.nest.now.kept.now c.args.nest.now.lists.now c.requires.nest c.args.place i m b (text_in c.loop-index.self.texts.items) c.in_ok-list.list.items _
    c.requires.m (slice_get-get_or m.bindings i nobody lt)
    (c.in_ok-list.ensures.list ∙ ap (list_at c.args.nest.now.kept.now (text_in c.loop-index.self.texts.items)) c.under.ensures)
    (held_read c.args.nest.now.kept.now m c.workspace.result.now c.node.result c.bindings-binding-items.result.now i _ c.workspace.ensures c.node.ensures c.bindings-binding-items.ensures
    c.original_range-range.ensures))

pub loop-index-preserved : goal.loop-index-preserved
loop-index-preserved g c =
    let kept = c.args.nest.now.kept.now in
    let rules = c.args.writer.now.rules.now in
    let m = c.args.m.now in
    let i = c.loop-index.index in
    let b = get_or m.bindings i nobody in
    let list = c.in_ok-list.list.items in
    let lt : i < length m.bindings = omega (arith, ap (λ (bs : List Binding). length bs) c.bindings-binding-items.ensures) in
    let held =
    held_read kept m c.workspace.result.now c.node.result c.bindings-binding-items.result.now i (option_map file_span_of c.original_range-range.result) c.workspace.ensures c.node.ensures
    c.bindings-binding-items.ensures c.original_range-range.ensures in
    let made : c.if-branch.are_all ≡ (is_some (option_map piece_bytes c.in_ok-piece.piece) && c.loop-index.are_all) =
    elim c.if-branch.branch [
      | then-branch w ↦ w.are_all-is ∙ ap (λ (t : Bool). t && c.loop-index.are_all) (sym (sym c.in_ok-are_all.ensures.there ∙ w.if-branch.true))
      | else-branch w ↦ w.are_all-is ∙ (w.if-branch.false ∙ ap (λ (t : Bool). t && c.loop-index.are_all) (sym (sym c.in_ok-are_all.ensures.there ∙ w.if-branch.false)))
    ] in
    let here : list ≡ list_under kept c.args.nest.now.lists.now (text_in c.args.self.now.texts.items) c.args.place i =
    c.in_ok-list.ensures.list
    ∙ (ap (list_at kept (text_in c.loop-index.self.texts.items)) c.under.ensures
    ∙ list_left kept c.args.nest.now.lists.now c.requires.nest c.args.place i _ _ c.loop-index.invariant.texts.left) in
    let lists = list_under kept c.args.nest.now.lists.now (text_in c.args.self.now.texts.items) c.args.place in
    let at = get_or_default m.bindings i nobody b lt in
    let prefixed : string_bytes c.in_ok-prefix.prefix ≡ prefix_by rules m.rule b =
    c.in_ok-prefix.ensures ∙ prefix_read rules m c.rule.result c.bindings-binding-items.result.now i c.rule.ensures c.bindings-binding-items.ensures in
    record {
      texts = left-more c.args.nest.now.lists.now c.args.place i _ _ _ c.loop-index.invariant.texts c.in_ok-list.ensures.counted
          (λ j none. c.in_ok-list.ensures.others j (λ h. none (subst (λ (xs : List ℕ). Contains xs j) c.under.ensures h)));
      written = written-more kept.workspace rules m _ i _ _ _ _ c.loop-index.invariant.written b lt at (option_map piece_bytes c.in_ok-piece.piece)
          (c.in_ok-piece.ensures
          ∙ ap (λ (prefix : List ℕ). option_map (λ text. prefix ++ text) (option_map piece_bytes c.in_ok-held.held)) prefixed
          ∙ ap (option_map (λ text. prefix_by rules m.rule b ++ text)) (c.in_ok-held.ensures
          ∙ (ap (λ (front : List ℕ). if is_clean list then Some (held_text c.workspace-in-loop-index.result.now front (option_map file_span_of c.original_range-range.result) list) else None)
          (c.as_str.ensures.value ∙ prefixed)
          ∙ (ap (λ (w : Workspace). if is_clean list then Some (held_text w (prefix_by rules m.rule b) (option_map file_span_of c.original_range-range.result) list) else None) c.workspace-in-loop-index.ensures
          ∙ (ap (λ (range : Option FileSpan). if is_clean list then Some (held_text kept.workspace (prefix_by rules m.rule b) range list) else None) held
          ∙ ap (λ (list : List Rewrite). if is_clean list then Some (held_text kept.workspace (prefix_by rules m.rule b) (held_range (trees kept.workspace) m.node.tree b) list) else None) here))))
          ∙ piece_of_held (is_clean (lists i)) (prefix_by rules m.rule b) (held_text kept.workspace (prefix_by rules m.rule b) (held_range (trees kept.workspace) m.node.tree b) (lists i)))
          made c.in_ok-are_all.ensures.pieces;
      noted = noted-more m _ i _ _ _ c.loop-index.invariant.noted b lt at (option_map clash_of c.in_ok-list.first)
          (subst (λ (list : List Rewrite). IsFirst (clashes list) (option_map clash_of c.in_ok-list.first)) here c.in_ok-list.ensures.first) c.in_ok-list.ensures.clash;
    }

pub returns-clause-pieces : goal.returns-clause-pieces
returns-clause-pieces g c =
    taken_pieces _ _ _ _ _ _ _ _ _ _ _ _ c.loop-index.invariant (omega (arith, ap (λ (bs : List Binding). length bs) c.bindings-binding-items.ensures))

pub returns-clause-clash : goal.returns-clause-clash
returns-clause-clash g c =
    taken_clashes _ _ _ _ _ _ _ _ _ _ _ _ c.loop-index.invariant (omega (arith, ap (λ (bs : List Binding). length bs) c.bindings-binding-items.ensures))

pub returns-clause-left : goal.returns-clause-left
returns-clause-left g c = λ j none. c.loop-index.invariant.texts.left j (λ k _ h. none k h)
