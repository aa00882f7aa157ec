-- Private: what rules ask of a node, so that it need not be asked whether each node matches.
use Rattle.std.specs.Prelude.{ℕ, ◌≡◌, ◌&&◌, ◌||◌, Bool, true, false, if◌then◌else◌, List, [], ◌∷◌, length, slice_get, slice_index_or, Option, Some, None}
use Rattle.std.specs.Option.{option_copied, option_map_or}
use denote.Enum.Declared.{tag_of}
use Rattle.ssr_syntax_kinds.specs.contracts.kinds.SyntaxKind.{the_type}
use Rattle.ssr_syntax_kinds.specs.declared.kinds.SyntaxKind.{SyntaxKind}
use Rattle.ssr_syntax_kinds.specs.declared.kinds.SyntaxKind.TheVariants as k
use Rattle.ssr_syntax_kinds.specs.Kinds.{same_kind}
use Rattle.ssr_syntax_tree.specs.Syntax.{Syntax, tokens_of}
use Rattle.ssr_syntax_tree.specs.Places.{Node, Part, token_part, node_part, parts_of, node_of, token_of, root_of, HasNode, HasToken}
use Rattle.ssr_base_trees.specs.Meanings.{Meanings}
use Rattle.ide_ssr_resolved_rule.specs.Resolved.{ResolvedRule}
use Rattle.ide_ssr_bindings.specs.declared.bindings.Binding.{Binding}
use Rattle.ide_ssr_matching.specs.Matching.{Matches}
use Rattle.ide_ssr_search.specs.Permitted.{names_self}
use Rattle.ide_ssr_search.specs.Found.{IsWanted}
use Rattle.ide_ssr_search.specs.Private.Words.{counts, IsWordOf}
use Rattle.ide_ssr_search.specs.declared.roots.Asked.{Asked}
use Rattle.ide_ssr_search.specs.declared.roots.Root.{Root}
use Rattle.ide_ssr_search.specs.declared.roots.Root.TheVariants as roots
use Rattle.ide_ssr_search.specs.declared.roots.KindSet.{KindSet}
use Rattle.ide_ssr_search.specs.declared.roots.Rules.{Rules}

-- ** Tokens among siblings.

-- the kind of the first token among siblings that counts for a match
abbrev pub first_counted : List Part → Option SyntaxKind
first_counted [] = None
first_counted (token_part t token ∷ rest) = if counts token.kind then Some token.kind else first_counted rest
first_counted (node_part node ∷ rest) = first_counted rest

-- whether the first token among siblings that counts for a match is of this kind
abbrev pub counts_first : SyntaxKind → List Part → Bool
counts_first kind parts = option_map_or (λ own. same_kind own kind) (first_counted parts) false

-- ** What is asked.

-- whether a node has what a root asks for
abbrev pub has_asked : Root → Node → Bool
has_asked roots.Placeholder c = true
has_asked (roots.Call kind) c = same_kind c.kind kind || same_kind c.kind k.METHOD_CALL_EXPR
has_asked (roots.Node kind token) c = same_kind c.kind kind && option_map_or (λ token. counts_first token (parts_of c)) token true

-- the kind of the token that a root asks for
abbrev pub token_asked : Root → Option SyntaxKind
token_asked roots.Placeholder = None
token_asked (roots.Call kind) = None
token_asked (roots.Node kind token) = token

-- each node of a tree that matches the rule's pattern has what the root asks for, whatever names mean
abbrev pub IsRootOf : ResolvedRule → Root → Type 0
IsRootOf rule root =
    (m : Meanings) (tree : ℕ) (c : Node) (bindings : List Binding) → Matches m tree rule (root_of rule.pattern) c bindings → has_asked root c ≡ true

-- what a rule asks
pub record IsAskedBy (rule : ResolvedRule) (asked : Asked) : Type 0 where
  pub root : IsRootOf rule asked.root
  pub word : IsWordOf rule (option_copied asked.word)
  pub in_function : asked.in_function ≡ names_self (tokens_of rule.pattern)

-- ** By kinds.

abbrev pub has_kind : KindSet → SyntaxKind → Bool
has_kind kinds kind = kinds.every || slice_index_or kinds.listed (tag_of the_type kind) false

-- all tokens of a tree have kinds of the set
abbrev pub AreTokenKinds : Syntax → KindSet → Type 0
AreTokenKinds tree kinds = (t : ℕ) → HasToken tree t → has_kind kinds (token_of tree t).kind ≡ true

-- what is known of the rules of a search
pub record AreRules (rules : Rules) : Type 0 where
  pub counted : length rules.asked.items ≡ length rules.rules.now
  pub each : (n : ℕ) (rule : ResolvedRule) (asked : Asked) → slice_get rules.rules.now n ≡ Some rule → slice_get rules.asked.items n ≡ Some asked → IsAskedBy rule asked

-- the set has the kinds of all nodes of a tree that one of the wanted rules matches, and of those that may shut in what is below them
pub record AreKindsIn (rules : Rules) (tree : Syntax) (kinds : KindSet) : Type 0 where
  pub matched : (place : ℕ) (rule : ResolvedRule) → slice_get rules.rules.now place ≡ Some rule → IsWanted rules.wanted.now place → (m : Meanings) (t n : ℕ) (bindings : List Binding)
      → HasNode tree n → Matches m t rule (root_of rule.pattern) (node_of tree n) bindings → has_kind kinds (node_of tree n).kind ≡ true
  pub uses : has_kind kinds k.USE ≡ true
  pub calls : has_kind kinds k.MACRO_CALL ≡ true
