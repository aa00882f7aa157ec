use Rattle.std.proofs.Common.{refl, sym, ◌∙◌}
use Rattle.ide_ssr_resolving.proofs.Pieces.{push_plain, push_colons}
use Rattle.ide_ssr_resolving.proofs.keys.push_pieces.Goals as goal

pub returns-then-not-begins_with_colons-clause-pieces : goal.returns-then-not-begins_with_colons-clause-pieces
returns-then-not-begins_with_colons-clause-pieces c =
    push_plain c.args.tree.now _ _ c.args.segment (sym c.begins_with_colons.ensures ∙ c.if-not-begins_with_colons.true) c.in_ok-push.ensures.items

pub returns-clause-pieces : goal.returns-clause-pieces
returns-clause-pieces c =
    push_colons c.args.tree.now _ _ _ c.args.segment _ _ c.requires.segment (sym c.begins_with_colons.ensures ∙ c.if-not-begins_with_colons.false)
    refl refl c.in_ok-push-2.ensures.items c.in_ok-push-3.ensures.items
