use Rattle.std.proofs.Common.{◌≡◌, ◌+◌, ◌∙◌, [], ◌∷◌, ◌++◌, length, take, ap, sym, subst, arith}
use Rattle.std.proofs.lemmas.List.{take_more}
use Rattle.ssr_syntax_shorts.specs.Private.Joining.{AreJoined}
use Rattle.ssr_syntax_shorts.specs.declared.parts.Part.{Part}
use Rattle.ssr_syntax_shorts.proofs.JoinedParts.{joined_none, joined_next}
use Rattle.ssr_syntax_shorts.proofs.joining.line_of.Goals as goal

pub loop-part-init : goal.loop-part-init
loop-part-init c =
    subst (λ l. AreJoined c.args.reach [] c.in_ok-short.short l) (sym c.in_ok-placed.ensures.items)
    (joined_none c.args.reach c.in_ok-short.short c.in_ok-short.ensures)

pub loop-part-preserved : goal.loop-part-preserved
loop-part-preserved c =
    let parts = c.args.parts.now in
    let i = c.loop-part.part-index in
    let part = c.part-item.result in
    let taken : take (i + 1) parts ≡ take i parts ++ part ∷ [] =
    take_more parts i part (omega arith) ∙ ap (λ (p : Part). take i parts ++ p ∷ []) (sym c.part-item.is) in
    joined_next c.args.reach (take i parts) (take (i + 1) parts) c.loop-part.short c.push_short.new.short c.loop-part.placed.items c.push.new.self.items
    part (length c.text-from.result.now) (length c.text.result.now) c.loop-part.invariant c.in_ok-push_short.ensures (ap length c.text-from.ensures)
    (ap length c.text.ensures) taken c.in_ok-push.ensures.items
