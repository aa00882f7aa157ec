use Rattle.std.proofs.Common.{◌∙◌, ap, map, option_map}
use Rattle.std.specs.Prelude.{None, Some, List, if◌then◌else◌}
use Rattle.ide_ssr_rewriting.specs.Private.Pieces.{piece_bytes}
use Rattle.ide_ssr_rewriting.specs.declared.piece.Piece.{Piece}
use Rattle.ssr_base_trees.specs.Workspace.{Workspace}
use Rattle.ide_ssr_rewriting.specs.Edits.{list_under}
use Rattle.ide_ssr_rewriting.specs.Replacements.{text_of_match, writing}
use Rattle.ide_ssr_rewriting.specs.Private.Edits.{text_in}
use Rattle.ide_ssr_rewriting.proofs.Runs.{run-more}
use Rattle.ide_ssr_rewriting.proofs.Pieces.{text_of_pieces}
use Rattle.ide_ssr_rewriting.proofs.editing.Pending.rewrite_at.Goals as goal

pub returns : goal.returns
returns g c =
    let kept = c.args.nest.now.kept.now in
    let by = writing (g.S.Semantics.meanings c.args.writer.now.semantics.now) c.args.writer.now.rules.now in
    let m = c.get-m.result.now in
    run-more kept c.args.nest.now.lists.now by c.requires.nest c.args.place m _ c.take_pieces.new.self.texts.items c.in_ok-text.text _ _
    c.get-m.ensures c.requires.run c.in_ok-are_all.ensures.counted c.in_ok-are_all.ensures.left
    (c.in_ok-text.ensures
    ∙ (ap (λ (w : Workspace). option_map (text_of_match w by m) (if c.in_ok-are_all.are_all then Some (map piece_bytes c.as_slice.result.now) else None)) c.workspace.ensures
    ∙ (ap (λ (pieces : List Piece). option_map (text_of_match kept.workspace by m) (if c.in_ok-are_all.are_all then Some (map piece_bytes pieces) else None)) c.as_slice.ensures.value
    ∙ (ap (option_map (text_of_match kept.workspace by m)) c.in_ok-are_all.ensures.pieces
    ∙ text_of_pieces kept.workspace by m (list_under kept c.args.nest.now.lists.now (text_in c.args.self.now.texts.items) c.args.place)))))
    c.in_ok-are_all.ensures.clash
