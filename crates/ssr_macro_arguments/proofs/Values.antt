-- Arguments without their names, token by token, and what stands in front of a mark.
use Rattle.std.proofs.Common.{◌≡◌, ℕ, zero, suc, Bool, if◌then◌else◌, List, [], ◌∷◌, ◌++◌, drop, refl, ap, sym, ◌∙◌, append_assoc}
use Rattle.ssr_syntax_kinds.specs.declared.kinds.SyntaxKind.TheVariants as k
use Rattle.ssr_macro_arguments.specs.declared.arguments.ArgumentToken.{ArgumentToken}
use Rattle.ssr_macro_arguments.specs.Arguments.{Piece, argument_piece, pieces}
use Rattle.ssr_macro_arguments.specs.Forms.{depth_behind, is_outer, name_length, values_from}

-- the first ones are left out
pub values_from-drop : (left depth : ℕ) (ts : List ArgumentToken) → values_from 0 depth (drop left ts) ≡ values_from left depth ts
values_from-drop zero depth ts = refl
values_from-drop (suc left) depth [] = refl
values_from-drop (suc left) depth (t ∷ ts) = values_from-drop left depth ts

-- one token more is put behind the others
pub value_step : (before after whole : List Piece) (rest others left : List ArgumentToken) (token : ArgumentToken) (depth deeper : ℕ) (comma : Bool)
    → rest ≡ token ∷ others → after ≡ before ++ argument_piece token ∷ [] → comma ≡ is_outer k.COMMA depth token.kind
    → deeper ≡ depth_behind depth token.kind → left ≡ drop (if comma then name_length others else 0) others
    → before ++ pieces (values_from 0 depth rest) ≡ whole → after ++ pieces (values_from 0 deeper left) ≡ whole
value_step before after whole rest others left token depth deeper comma is put outer deep others_left so_far =
    let skipped : ℕ = if is_outer k.COMMA depth token.kind then name_length others else 0 in
    let later : values_from 0 deeper left ≡ values_from skipped (depth_behind depth token.kind) others =
    ap (λ (d : ℕ). values_from 0 d left) deep
    ∙ (ap (λ (ts : List ArgumentToken). values_from 0 (depth_behind depth token.kind) ts)
    (others_left ∙ ap (λ (b : Bool). drop (if b then name_length others else 0) others) outer)
    ∙ values_from-drop skipped (depth_behind depth token.kind) others) in
    let all : after ++ pieces (values_from 0 deeper left) ≡ before ++ (argument_piece token ∷ pieces (values_from skipped (depth_behind depth token.kind) others)) =
    ap (λ (ps : List Piece). ps ++ pieces (values_from 0 deeper left)) put
    ∙ (append_assoc before (argument_piece token ∷ []) (pieces (values_from 0 deeper left))
    ∙ ap (λ (vs : List ArgumentToken). before ++ (argument_piece token ∷ pieces vs)) later) in
    all ∙ (ap (λ (r : List ArgumentToken). before ++ pieces (values_from 0 depth r)) (sym is) ∙ so_far)
