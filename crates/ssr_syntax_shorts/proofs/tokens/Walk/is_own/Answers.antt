use Rattle.std.proofs.Common.{sym, ◌∙◌, ◌≡◌, false}
use Rattle.std.proofs.lemmas.Bool.{not-true}
use Rattle.ssr_syntax_kinds.specs.Kinds.{is_trivia}
use Rattle.ssr_syntax_tree.specs.Places.{token_of}
use Rattle.ssr_syntax_shorts.proofs.Names.{own_by}
use Rattle.ssr_syntax_shorts.proofs.tokens.Walk.is_own.Goals as goal

pub returns-then-not-is_trivia : goal.returns-then-not-is_trivia
returns-then-not-is_trivia c is =
    let s = c.args.self.now.tree.now in
    let solid : is_trivia (token_of s c.args.token.0).kind ≡ false = cc in
    own_by s c.args.self.now.names.now c.args.token.0 c.requires solid (sym c.is_name.ensures ∙ not-true c.is_name.result is)
