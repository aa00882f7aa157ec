use Rattle.std.proofs.Common.{◌∙◌, ap, sym}
use Rattle.std.specs.Prelude.{option_copied}
use Rattle.ssr_syntax_rows.proofs.SolidLaws.{stands_alone, trivia_ends_none}
use Rattle.ssr_syntax_rows.proofs.solid.may_go_on.Goals as goal

pub returns-then-not-is_trivia : goal.returns-then-not-is_trivia
returns-then-not-is_trivia c kind e =
    stands_alone kind c.args.behind.now c.in-Some.next.now (sym c.first.ensures.value ∙ ap option_copied c.in-Some.is) (sym c.ends_joined.ensures ∙ e)

pub returns-else-not-is_trivia : goal.returns-else-not-is_trivia
returns-else-not-is_trivia c kind e =
    stands_alone kind c.args.behind.now c.in-Some.next.now (sym c.first.ensures.value ∙ ap option_copied c.in-Some.is)
    (trivia_ends_none c.in-Some.next.now (sym c.is_trivia.ensures ∙ c.if-not-is_trivia.false))
