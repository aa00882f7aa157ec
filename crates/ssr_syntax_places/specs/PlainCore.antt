-- The forest behind a plain tree, told by the kinds of its tokens.
use Rattle.std.specs.Prelude.{ℕ, Bool, ◌+◌, ◌-◌, if◌then◌else◌, List, ◌∷◌, [], replicate}
use Rattle.ssr_syntax_kinds.specs.Kinds.{is_trivia}
use Rattle.ssr_syntax_kinds.specs.declared.kinds.SyntaxKind.{SyntaxKind}
use Rattle.ssr_syntax_kinds.specs.declared.kinds.SyntaxKind.TheVariants as k
use Rattle.ssr_syntax_tree.specs.Syntax as plain
use Rattle.ssr_syntax_tree.specs.Syntax.{Syntax}
use Rattle.ssr_syntax_forms.specs.declared.tokens.Token.{Token}
use Rattle.ssr_syntax_forms.specs.Kinds.{mem}
use Rattle.ssr_syntax_forms.specs.Trees.{Forest, done, leaf, tree}
use Rattle.ssr_syntax_places.specs.Core.{Holes, core}

-- the kinds that are joined from two tokens, and those that are joined from three
abbrev pub of_two : List SyntaxKind
of_two = k.EQ2 ∷ k.NEQ ∷ k.LTEQ ∷ k.GTEQ ∷ k.PLUSEQ ∷ k.MINUSEQ ∷ k.STAREQ ∷ k.SLASHEQ ∷ k.PERCENTEQ ∷ k.CARETEQ ∷ k.AMPEQ ∷ k.PIPEEQ
    ∷ k.THIN_ARROW ∷ k.FAT_ARROW ∷ k.COLON2 ∷ k.DOT2 ∷ k.AMP2 ∷ k.PIPE2 ∷ k.SHL ∷ k.SHR ∷ []

abbrev pub of_three : List SyntaxKind
of_three = k.DOT2EQ ∷ k.SHLEQ ∷ k.SHREQ ∷ []

-- how many tokens one of this kind is joined from
abbrev pub size_of_kind : SyntaxKind → ℕ
size_of_kind kind = if mem kind of_three then 3 else if mem kind of_two then 2 else 1

-- a token of this kind as the grammar reads it, with as many as it is joined from
abbrev pub tokens_like : SyntaxKind → List Token
tokens_like kind =
    let token : Token = record { kind = kind; joined = kind; size = size_of_kind kind } in
    token ∷ replicate (size_of_kind kind - 1) token

-- how many tokens the grammar reads of these: so many are joined to those that are neither white space nor comments
abbrev pub solid_size : List plain.Token → ℕ
solid_size [] = 0
solid_size (t ∷ ts) = (if is_trivia t.kind then 0 else size_of_kind t.kind) + solid_size ts

-- the siblings without white space and comments, each token with others of its kind
abbrev pub forest_in : plain.Forest → Forest
forest_in plain.nothing = done
forest_in (plain.leaf token x) = if is_trivia token.kind then forest_in x else leaf token.kind (tokens_like token.kind) (forest_in x)
forest_in (plain.branch kind below x) = tree kind (forest_in below) (forest_in x)

-- a tree, in which names stand for other expressions, is core by the kinds of its tokens; see `core`
abbrev pub is_core_tree : Holes → Bool → ℕ → Syntax → Bool
is_core_tree holes callable n syntax = core holes callable n 0 syntax.kind (forest_in syntax.children)
