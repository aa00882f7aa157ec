use Rattle.std.proofs.Common.{ap, sym, length}
use Rattle.std.proofs.lemmas.Str.{encodes-chars}
use Rattle.ssr_syntax_lex.proofs.cursor.Cursor.len.Goals as goal

pub returns-clause-bytes : goal.returns-clause-bytes
returns-clause-bytes c = rw (← c.self.view_is) (ap length (sym (encodes-chars _ c.self.invariant.0)))
