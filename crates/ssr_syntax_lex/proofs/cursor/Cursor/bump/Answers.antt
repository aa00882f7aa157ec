use Rattle.ssr_syntax_lex.proofs.Eaten.{chars_small}
use Rattle.ssr_syntax_lex.proofs.cursor.Cursor.bump.Goals as goal

pub returns-in-Some-clause-small : goal.returns-in-Some-clause-small
returns-in-Some-clause-small c = rw (← c.self.view_is) (chars_small _ _ c.self.invariant.0 c.self.invariant.1)

pub returns-in_default-clause-small : goal.returns-in_default-clause-small
returns-in_default-clause-small c = rw (← c.self.view_is) (chars_small _ _ c.self.invariant.0 c.self.invariant.1)
