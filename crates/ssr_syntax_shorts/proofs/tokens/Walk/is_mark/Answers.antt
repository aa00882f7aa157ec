use Rattle.std.proofs.Common.{sym, ◌∙◌, ◌≡◌, true, ap}
use Rattle.std.specs.List.{list_any}
use Rattle.ssr_syntax_kinds.specs.Kinds.{same_kind}
use Rattle.ssr_syntax_tree.specs.Places.{token_of}
use Rattle.ssr_syntax_shorts.proofs.Names.{mark_by}
use Rattle.ssr_syntax_shorts.proofs.tokens.Walk.is_mark.Goals as goal

pub returns-then-is_one_of : goal.returns-then-is_one_of
returns-then-is_one_of c is =
    let s = c.args.self.now.tree.now in
    let one : list_any (λ own. same_kind (token_of s c.args.token.0).kind own) c.args.kinds.now ≡ true =
    ap (λ kind. list_any (λ own. same_kind kind own) c.args.kinds.now) (sym c.token_kind.ensures) ∙ sym c.is_one_of.ensures ∙ c.if-is_one_of.true in
    mark_by s c.args.self.now.names.now c.args.kinds.now c.args.token.0 one (c.is_own.ensures is)
