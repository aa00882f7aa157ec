use Rattle.std.proofs.Common.{sym, ◌∙◌, ◌≡◌, ◌==◌, true, ap, arith}
use Rattle.std.specs.List.{list_any}
use Rattle.ssr_syntax_kinds.specs.Kinds.{same_kind}
use Rattle.ssr_syntax_kinds.specs.declared.kinds.SyntaxKind.TheVariants as k
use Rattle.ssr_syntax_tree.specs.Syntax.{token_count}
use Rattle.ssr_syntax_tree.specs.Places.{node_of, token_of}
use Rattle.ssr_syntax_tree.specs.declared.number.TokenNo.{TokenNo}
use Rattle.ssr_syntax_shorts.proofs.Names.{held_by}
use Rattle.ssr_syntax_shorts.proofs.tokens.Walk.is_held.Goals as goal

pub returns-then-is : goal.returns-then-is
returns-then-is c is =
    let s = c.args.self.now.tree.now in
    let n = c.args.node.0 in
    let first = c.tokens_below-tokens.ensures.start in
    let kind : same_kind (node_of s n).kind k.PATH_EXPR ≡ true = cc in
    let one : token_count (node_of s n).children ≡ 1 = omega arith in
    let ident : same_kind (token_of s (node_of s n).first).kind k.IDENT ≡ true =
    ap (λ t. same_kind (token_of s t).kind k.IDENT) (sym first) ∙ ap (λ w. same_kind w k.IDENT) (sym c.token_kind.ensures) ∙ sym c.is-2.ensures.same ∙ c.if-is.true in
    let named : list_any (λ (name : TokenNo). name.0 == (node_of s n).first) c.args.self.now.names.now ≡ true =
    ap (λ t. list_any (λ (name : TokenNo). name.0 == t) c.args.self.now.names.now) (sym first) ∙ sym c.is_name.ensures ∙ is in
    held_by s c.args.self.now.names.now n c.requires kind one ident named
