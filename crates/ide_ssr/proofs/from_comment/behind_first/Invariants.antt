use Rattle.std.proofs.Common.{◌≡◌, drop, map}
use Rattle.ide_ssr.specs.FromComment.{behind_first}
use Rattle.ide_ssr.proofs.from_comment.behind_first.Given as goal

abbrev pub invariant-loop-prefix : goal.invariant-loop-prefix
invariant-loop-prefix l = behind_first (map (λ prefix. prefix.now) (drop l.prefix-index l.prefixes)) l.text ≡ behind_first (map (λ prefix. prefix.now) l.prefixes) l.text
