-- Literals stand wherever an expression does.
use Rattle.std.proofs.Common.{◌≡◌, Bool, true, false, List, refl}
use Rattle.ssr_syntax_kinds.specs.declared.kinds.SyntaxKind.TheVariants as k
use Rattle.ssr_syntax_kinds.specs.Reach.{is_whole}
use Rattle.ssr_syntax_kinds.specs.declared.reach.Reach.{Reach}
use Rattle.ssr_syntax_forms.specs.declared.tokens.Token.{Token}
use Rattle.ssr_syntax_forms.specs.Kinds.{where_whole}
use Rattle.ssr_syntax_forms.specs.Trees.{done}
use Rattle.ssr_syntax_forms.specs.Forms.{any, at, mark, seal}
use Rattle.ssr_syntax_forms.proofs.Shared.{every}
use Rattle.ssr_syntax_types.specs.declared.goals.ExprPlace.TheVariants.{Anywhere}
use Rattle.ssr_syntax_types.specs.Literals.{literal, literals}
use Rattle.ssr_syntax_types.specs.Paths.{path_first}
use Rattle.ssr_syntax_exprs.specs.Atoms.{path_expr, operand_first, braceless_first, operand_marks, stated_marks, leaving_first}
use Rattle.ssr_syntax_exprs.specs.Blocks.{block_words, stated_block_words}
use Rattle.ssr_syntax_exprs.specs.Expressions.{atom}
use Rattle.ssr_syntax.specs.Grammar.{grammar}
use Rattle.ssr_syntax_places.specs.Standing.{node, is_token, token_leaf, level, Stands}
use Rattle.ssr_syntax_places.proofs.InReach.{FitsIn, token_in, mark_in, seal_in, then_still, first_in, second_in}
use Rattle.ssr_syntax_places.proofs.Following.{begins_plainly, begins_alone}

-- ** Literals.

literal_fits : (b : Bool) (us rest : List Token) → is_token literals us ≡ true
    → FitsIn b grammar literal done (node k.LITERAL (token_leaf us)) us rest
unfolding literal
literal_fits b us rest is =
    then_still b grammar (any literals) (seal k.LITERAL) done (token_leaf us) (node k.LITERAL (token_leaf us)) us rest
    (token_in b grammar literals done us rest is) (seal_in b grammar k.LITERAL (token_leaf us) rest)

literal_is_atom : (b : Bool) (us rest : List Token) → is_token literals us ≡ true
    → FitsIn b grammar (level 0) done (node k.LITERAL (token_leaf us)) us rest
unfolding level atom
literal_is_atom b us rest is =
    second_in b grammar (at path_first) (mark (path_expr Anywhere)) _ done _ us rest
    (first_in b grammar (at literals) (mark literal) _ done _ us rest
    (mark_in b grammar literal done _ us rest (literal_fits b us rest is)))

literals_begin : (b : Bool) → every (begins_plainly b) literals ≡ true
unfolding literals operand_first braceless_first path_first block_words stated_block_words operand_marks stated_marks where_whole leaving_first
literals_begin true = refl
literals_begin false = refl

pub literal_stands : (reach : Reach) (us : List Token) → is_token literals us ≡ true → Stands reach 0 true (node k.LITERAL (token_leaf us)) us
literal_stands reach us is = record {
  fits = λ rest may. literal_is_atom (is_whole reach) us rest is;
  begins = λ rest may. begins_alone (is_whole reach) literals us rest (literals_begin (is_whole reach)) is;
}
