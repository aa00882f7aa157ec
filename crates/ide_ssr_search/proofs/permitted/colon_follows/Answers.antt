use Rattle.std.proofs.Common.{◌≡◌, ◌+◌, ◌≤◌, false, ap, ◌∙◌, arith}
use Rattle.std.specs.Prelude.{nat_lt}
use Rattle.std.proofs.lemmas.Bool.Decides.{nat_tests}
use Rattle.ssr_syntax_kinds.specs.declared.kinds.SyntaxKind.TheVariants as k
use Rattle.ssr_syntax_kinds.specs.Kinds.{same_kind}
use Rattle.ssr_syntax_tree.specs.Syntax.{token_count}
use Rattle.ssr_syntax_tree.specs.Places.{HasToken}
use Rattle.ide_ssr_search.proofs.Selves.{colon_there, no_colon}
use Rattle.ide_ssr_search.proofs.permitted.colon_follows.Goals as goal

pub returns-then-next-count : goal.returns-then-next-count
returns-then-next-count c =
    let has : HasToken c.args.tree.now (c.args.token.0 + 1) = omega arith in
    c.is.ensures.same ∙ ap (λ kind. same_kind kind k.COLON) c.token_kind.ensures ∙ colon_there c.args.tree.now (c.args.token.0 + 1) has

pub returns-else-next-count : goal.returns-else-next-count
returns-else-next-count c =
    let past : token_count c.args.tree.now.children ≤ c.args.token.0 + 1 = omega arith in
    let tested : nat_lt (c.args.token.0 + 1) c.token_count-count.result ≡ false = grind (arith, nat_tests) in
    tested ∙ no_colon c.args.tree.now (c.args.token.0 + 1) past
