-- Identifiers: those of a list of tokens, and trees in which they stand alone, each as the only child of its node, but
-- for the nodes that are made to mix them with other tokens.
use Rattle.std.specs.Prelude.{◌≡◌, ⊤, Bool, true, false, not, ◌||◌, List, [], ◌∷◌, filter}
use Rattle.ssr_syntax_kinds.specs.Kinds.{is_ident}
use Rattle.ssr_syntax_kinds.specs.declared.kinds.SyntaxKind.{SyntaxKind}
use Rattle.ssr_syntax_kinds.specs.declared.kinds.SyntaxKind.TheVariants.{TOKEN_TREE, MACRO_RULES}
use Rattle.ssr_syntax_tree.specs.Syntax.{Token, Forest, nothing, leaf, branch, Syntax}
use Rattle.ssr_syntax_forms.specs.Kinds.{mem}

-- the identifiers among tokens, in order
abbrev pub idents : List Token → List Token
idents tokens = filter (λ token. is_ident token.kind) tokens

-- one of the siblings themselves is an identifier
abbrev pub has_ident : Forest → Bool
has_ident nothing = false
has_ident (leaf token next) = is_ident token.kind || has_ident next
has_ident (branch kind below next) = has_ident next

-- children of a node: one token, or none of them is an identifier
abbrev pub stand_alone : Forest → Bool
stand_alone (leaf token nothing) = true
stand_alone children = not (has_ident children)

-- the nodes in which identifiers stand beside other children: lists of raw tokens, and what begins with the
-- identifier `macro_rules`
abbrev pub mixing_kinds : List SyntaxKind
mixing_kinds = TOKEN_TREE ∷ MACRO_RULES ∷ []

abbrev pub is_mixing : SyntaxKind → Bool
is_mixing kind = mem kind mixing_kinds

-- no node among the siblings or below them has an identifier beside other children, but those that are made to mix them
abbrev pub IdentsAlone : Forest → Type 0
IdentsAlone nothing = ⊤
IdentsAlone (leaf token next) = IdentsAlone next
IdentsAlone (branch kind below next) = ((is_mixing kind || stand_alone below) ≡ true) × IdentsAlone below × IdentsAlone next

-- no node of a tree, its root or one below it, has an identifier beside other children, but those that are made to mix them
abbrev pub IdentsAloneIn : Syntax → Type 0
IdentsAloneIn syntax = IdentsAlone (branch syntax.kind syntax.children nothing)
