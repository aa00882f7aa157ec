use Rattle.std.proofs.Common.{◌≡◌, not, map}
use Rattle.std.specs.List.{filter}
use Rattle.ssr_syntax_kinds.specs.Kinds.{is_trivia}
use Rattle.ide_ssr_resolving.specs.Private.Pieces.{tokens_between}
use Rattle.ide_ssr_resolving.proofs.keys.spaced.Given as goal

abbrev pub invariant-loop-number : goal.invariant-loop-number
invariant-loop-number l =
    map (λ text. text.now) l.texts.items
    ≡ map (λ token. token.text) (filter (λ token. not (is_trivia token.kind)) (tokens_between l.tree l.fn.piece.first l.number))
