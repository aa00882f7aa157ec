use Rattle.std.proofs.Common.{ap, sym, ◌∙◌, length, ◌==◌}
use Rattle.std.proofs.lemmas.Str.{encodes-chars}
use Rattle.ssr_syntax_lex.proofs.Eaten.{nothing_left}
use Rattle.ssr_syntax_lex.proofs.cursor.Cursor.is_empty.Goals as goal

pub returns : goal.returns
returns c = rw (← c.self.view_is) (c.is_empty.ensures ∙ (ap (λ bytes. length bytes == 0) (sym (encodes-chars _ c.self.invariant.0)) ∙ nothing_left _))
