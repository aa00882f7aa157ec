-- Trees in which nodes of a kind have others in their places.
use Rattle.std.specs.Prelude.{◌≡◌, ◌-◌, Bool, true, false, not, ◌&&◌, ◌||◌, List, [], ◌∷◌, take}
use Rattle.ssr_syntax_kinds.specs.Kinds.{same_kind}
use Rattle.ssr_syntax_kinds.specs.declared.kinds.SyntaxKind.{SyntaxKind}
use Rattle.ssr_syntax_kinds.specs.declared.kinds.SyntaxKind.TheVariants as k
use Rattle.ssr_syntax_forms.specs.declared.tokens.Token.{Token}
use Rattle.ssr_syntax_forms.specs.Fitting.{Fits}
use Rattle.ssr_syntax_forms.specs.Forms.{Condition, none_is, last_isnt, Productions, holds}
use Rattle.ssr_syntax_forms.specs.Kinds.{mem}
use Rattle.ssr_syntax_forms.specs.Trees.{Forest, done, leaf, tree, spell}
use Rattle.ssr_syntax_types.specs.declared.goals.Goal.{Goal}
use Rattle.ssr_syntax_types.specs.declared.goals.Goal.TheVariants.{StmtList}

-- ** Tokens.

-- one of the tokens opens braces
abbrev pub has_open : List Token → Bool
has_open [] = false
has_open (t ∷ ts) = same_kind t.joined k.L_CURLY || has_open ts

abbrev pub begins_open : List Token → Bool
begins_open [] = false
begins_open (t ∷ ts) = same_kind t.joined k.L_CURLY

-- no token is joined from a brace that opens
abbrev pub keeps_opens : List Token → Bool
keeps_opens [] = true
keeps_opens (t ∷ ts) = not (has_open (take (t.size - 1) ts)) && keeps_opens ts

-- ** Nodes in the places of others.

-- The nodes of a kind, the goals that make them and nothing else, and what the grammar asks of the tokens around them.
pub record Own (Goal : Type 0) : Type 0 where
  pub kind : SyntaxKind
  pub owns : Goal → Bool
  pub asks : Condition → Bool

-- The second forest is the first one with others in the places of some of these nodes. What stands there fits, whatever
-- follows, begins with a brace as the old one does, and meets each condition that the old one meets.
pub data Puts {Goal : Type 0} (grammar : Productions Goal) (own : Own Goal) : Forest → Forest → Type 0 where
  no_tree : Puts grammar own done done
  same_leaf : {a : SyntaxKind} {us : List Token} {x y : Forest} → Puts grammar own x y → Puts grammar own (leaf a us x) (leaf a us y)
  kept : {a : SyntaxKind} {kids others x y : Forest} → Puts grammar own kids others → Puts grammar own x y
      → Puts grammar own (tree a kids x) (tree a others y)
  put : {a : SyntaxKind} {old new x y : Forest} → a ≡ own.kind → begins_open (spell old) ≡ true → begins_open (spell new) ≡ true
      → ((condition : Condition) → own.asks condition ≡ true → holds condition (spell old) ≡ true → holds condition (spell new) ≡ true)
      → ((asked : Goal) (rest : List Token) → own.owns asked ≡ true → Fits grammar (grammar asked) done (tree a new done) (spell new) rest)
      → Puts grammar own x y → Puts grammar own (tree a old x) (tree a new y)

-- ** Blocks.

abbrev pub are_among : List SyntaxKind → List SyntaxKind → Bool
are_among [] ls = true
are_among (kind ∷ ks) ls = mem kind ls && are_among ks ls

-- What the grammar asks of the tokens of a node or of those in front: that no `<` and no `(` is among them, as in the path of a
-- macro, and that the last one is no brace that closes.
abbrev pub is_asked : Condition → Bool
is_asked (none_is ks) = are_among ks (k.L_ANGLE ∷ k.L_PAREN ∷ [])
is_asked (last_isnt ks) = are_among ks (k.R_CURLY ∷ [])

-- statements in braces
abbrev pub blocks : Own Goal
blocks = record { kind = k.STMT_LIST; owns = elim [ StmtList ↦ true | _ ↦ false ]; asks = is_asked }
