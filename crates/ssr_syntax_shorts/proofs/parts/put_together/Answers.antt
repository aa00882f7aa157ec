use Rattle.std.proofs.Common.{◌≡◌, ℕ, List, rules}
use Rattle.ssr_syntax_kinds.specs.declared.reach.Reach.{Reach}
use Rattle.ssr_syntax_shorts.specs.Made.{ArePutTogether, put_together}
use Rattle.ssr_syntax_shorts.specs.Private.Joining.{ArePlaced, IsAt, parts_of}
use Rattle.ssr_syntax_shorts.specs.Shorts.{IsReadOf, IsShort}
use Rattle.ssr_syntax_shorts.proofs.JoinedParts.{if_some_weaker, put_told}
use Rattle.ssr_syntax_shorts.proofs.parts.put_together.Goals as goal

pub returns : goal.returns
returns c =
    let reach = c.args.reach in
    let parts = c.args.parts.now in
    let plain = c.args.plain.now in
    let line = c.in_ok-line.line in
    let tree = c.in-Some.tree in
    let shown = c.as_slice.result.now in
    let told : IsShort reach line.short plain → IsReadOf reach tree plain = search rules in
    let names : tree.names ≡ line.short.names = search rules in
    if_some_weaker c.written.result
    (λ text. (r : Reach) (long : List ℕ) (read : IsReadOf r tree long) → ArePlaced (IsAt tree.names) 0 shown
    → text ≡ put_together read.syntax 0 (parts_of shown))
    (λ text. ArePutTogether reach parts text)
    (λ text is. put_told reach parts plain line.short line.parts.items shown tree text c.requires c.in_ok-line.ensures c.as_slice.ensures.value told names is)
    c.written.ensures
