use Rattle.std.proofs.Common.{◌≡◌, ℕ, Bool, length}
use denote.Text.{Utf8}
use denote.Shadow.{shadow}
use Rattle.std.specs.Str.{chars}
use Rattle.ssr_syntax_lex.specs.Cursor.{past}
use Rattle.ssr_syntax_lex.proofs.Eaten.{EndsIn}
use Rattle.ssr_syntax_lex.proofs.cursor.Cursor.eat_while.Given as goal

abbrev pub invariant-loop-first : goal.invariant-loop-first
invariant-loop-first g l = shadow (Utf8 l.rest) × EndsIn l.start l.rest × ((p : ℕ → Bool) → ((c : ℕ) (r : Bool) → g.P.Fn.post l.passes (c, tt {0}) r → r ≡ p c) → past p (chars l.start) ≡ past p (chars l.rest))

abbrev pub decreases-loop-first : goal.decreases-loop-first
decreases-loop-first g l = length l.rest
