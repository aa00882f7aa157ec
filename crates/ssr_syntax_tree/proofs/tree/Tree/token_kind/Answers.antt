use Rattle.std.proofs.Common.{◌≡◌, ℕ, ◌<◌, List, ap, arith, length, map}
use Rattle.std.proofs.lemmas.List.{length-map}
use Rattle.std.proofs.lemmas.Option.{slice_get-get_or}
use Rattle.ssr_syntax_kinds.specs.declared.kinds.SyntaxKind.{SyntaxKind}
use Rattle.ssr_syntax_kinds.specs.declared.token_rows.TokenRow.{TokenRow}
use Rattle.ssr_syntax_tree.proofs.RowLaws.{token_within, token_kind-is}
use Rattle.ssr_syntax_tree.proofs.tree.Tree.token_kind.Goals as goal

has_kind : (rows : List TokenRow) (kinds : List SyntaxKind) (t : ℕ) → kinds ≡ map (λ row. row.kind) rows → t < length rows → t < length kinds
has_kind rows kinds t e h = omega (arith, h, ap length e, length-map rows (λ row. row.kind))

pub bounds-kinds-token : goal.bounds-kinds-token
bounds-kinds-token c =
    has_kind c.self.inside.tokens c.kinds.result.now c.args.token.0 c.kinds.ensures
    (token_within c.self.inside c.args.self.now c.self.invariant c.self.view_is c.args.token.0 c.requires)

pub returns : goal.returns
returns c =
    let has =
    has_kind c.self.inside.tokens c.kinds.result.now c.args.token.0 c.kinds.ensures
    (token_within c.self.inside c.args.self.now c.self.invariant c.self.view_is c.args.token.0 c.requires) in
    token_kind-is c.self.inside c.args.self.now c.self.invariant c.self.view_is c.args.token.0 _ c.requires
    (rw (← c.kinds.ensures) (slice_get-get_or c.kinds.result.now c.args.token.0 _ has))
