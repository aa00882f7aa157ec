-- Private: the word of a node by which rules of one shape mostly differ.
use Rattle.std.specs.Prelude.{ℕ, ◌≡◌, ◌&&◌, ◌||◌, not, Bool, true, false, if◌then◌else◌, List, [], ◌∷◌, Option, Some, None}
use Rattle.std.specs.Option.{option_and_then}
use Rattle.ssr_syntax_kinds.specs.declared.kinds.SyntaxKind.{SyntaxKind}
use Rattle.ssr_syntax_kinds.specs.declared.kinds.SyntaxKind.TheVariants as k
use Rattle.ssr_syntax_kinds.specs.Kinds.{same_kind, is_trivia}
use Rattle.ssr_syntax_tree.specs.Places.{Node, Part, token_part, node_part, parts_of, root_of}
use Rattle.ssr_base_trees.specs.Meanings.{Meanings}
use Rattle.ide_ssr_resolved_rule.specs.Placeholders.{placeholder_at}
use Rattle.ide_ssr_resolved_rule.specs.Resolved.{ResolvedRule}
use Rattle.ide_ssr_bindings.specs.declared.bindings.Binding.{Binding}
use Rattle.ide_ssr_matching.specs.Calls.{call_of}
use Rattle.ide_ssr_matching.specs.Matching.{Matches}
use Rattle.ide_ssr_matching.specs.UsedPaths.{pattern_res}

-- ** Of a node.

-- a token of this kind counts for a match whatever stands behind it: it is no trivia, and no comma
abbrev pub counts : SyntaxKind → Bool
counts kind = not (is_trivia kind) && not (same_kind kind k.COMMA)

-- the text of the first token among siblings that counts
abbrev pub first_text : List Part → Option (List ℕ)
first_text [] = None
first_text (token_part t token ∷ rest) = if counts token.kind then Some token.text else first_text rest
first_text (node_part node ∷ rest) = first_text rest

-- the first node among siblings behind such a token, where it is known whether one came before
abbrev pub node_behind : Bool → List Part → Option Node
node_behind counted [] = None
node_behind counted (token_part t token ∷ rest) = node_behind (counted || counts token.kind) rest
node_behind true (node_part node ∷ rest) = Some node
node_behind false (node_part node ∷ rest) = node_behind false rest

-- the word of a node: the first token of the first node behind a token of its own
abbrev pub word_of : Node → Option (List ℕ)
word_of c = option_and_then (λ node. first_text (parts_of node)) (node_behind false (parts_of c))

-- ** Of a rule.

-- whether nodes of a kind match by other things than their children, one by one: token trees by their tokens, lists of
-- record fields by names
abbrev pub pairs_otherwise : SyntaxKind → Bool
pairs_otherwise kind = same_kind kind k.TOKEN_TREE || same_kind kind k.RECORD_EXPR_FIELD_LIST

-- a node of a rule's pattern matches others by its children, one by one
pub record MatchesByChildren (rule : ResolvedRule) (p : Node) : Type 0 where
  pub no_placeholder : placeholder_at rule.names p ≡ None
  pub no_call : call_of rule p ≡ None
  pub no_path : pattern_res rule p ≡ None
  pub each : pairs_otherwise p.kind ≡ false

-- each node that matches the rule's pattern has this word, if there is one
abbrev pub IsWordOf : ResolvedRule → Option (List ℕ) → Type 0
IsWordOf rule word =
    (text : List ℕ) → word ≡ Some text
    → (m : Meanings) (tree : ℕ) (c : Node) (bindings : List Binding) → Matches m tree rule (root_of rule.pattern) c bindings → word_of c ≡ Some text

-- a word is asked for, and it isn't this one
abbrev pub LacksWord : Option (List ℕ) → Option (List ℕ) → Type 0
LacksWord asked own = (text : List ℕ) × (asked ≡ Some text) × (own ≡ Some text → ⊥)
