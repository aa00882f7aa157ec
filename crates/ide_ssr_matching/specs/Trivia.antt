-- Trees that differ only in trivia outside of token trees: white space and comments there count for no match.
use Rattle.std.specs.Prelude.{ℕ, ◌≡◌, ◌&&◌, ◌||◌, Bool, if◌then◌else◌, List, map}
use Rattle.ssr_syntax_kinds.specs.declared.kinds.SyntaxKind.{SyntaxKind}
use Rattle.ssr_syntax_kinds.specs.declared.kinds.SyntaxKind.TheVariants as k
use Rattle.ssr_syntax_kinds.specs.Kinds.{same_kind, is_trivia}
use Rattle.ssr_syntax_tree.specs.Syntax.{Forest, nothing, leaf, branch, Syntax, tokens_in, begins_with_trivia}
use Rattle.ssr_base_trees.specs.Meanings.{Meanings}
use Rattle.ssr_base_trees.specs.Workspace.{node_id}
use Rattle.ide_ssr_bindings.specs.declared.bindings.Binding.{Binding}
use Rattle.ide_ssr_bindings.specs.declared.bindings.Held.{Held}
use Rattle.ide_ssr_bindings.specs.declared.bindings.Held.TheVariants as held

-- ** Trees without trivia.

-- Whether what is below a node of a kind stays as it is. That of a token tree does, since a placeholder holds its trivia too. So
-- does a name, which is one token in each tree of the grammar, and a segment of a path that begins with trivia, as none does
-- there: nothing is lost by these two.
abbrev pub stays : SyntaxKind → Forest → Bool
stays kind below =
    same_kind kind k.TOKEN_TREE || (same_kind kind k.NAME_REF || (same_kind kind k.PATH_SEGMENT && begins_with_trivia (tokens_in below)))

-- siblings without trivia
abbrev pub stripped : Forest → Forest
stripped nothing = nothing
stripped (leaf token next) = if is_trivia token.kind then stripped next else leaf token (stripped next)
stripped (branch kind below next) = branch kind (if stays kind below then below else stripped below) (stripped next)

-- what is below a node of a kind, without trivia
abbrev pub stripped_below : SyntaxKind → Forest → Forest
stripped_below kind below = if stays kind below then below else stripped below

abbrev pub stripped_tree : Syntax → Syntax
stripped_tree tree = record { kind = tree.kind; children = stripped_below tree.kind tree.children }

-- ** What is told of two trees, and bound in them.

-- Of nodes with one number the same is told in a tree and in another one.
pub record AreToldAlike (ms : Meanings) (tree : ℕ) (other_ms : Meanings) (other_tree : ℕ) : Type 0 where
  pub path : (n : ℕ) → ms.path (node_id tree n) ≡ other_ms.path (node_id other_tree n)
  pub method : (n : ℕ) → ms.method (node_id tree n) ≡ other_ms.method (node_id other_tree n)
  pub types : (n : ℕ) → ms.types (node_id tree n) ≡ other_ms.types (node_id other_tree n)
  pub self_kind : (n : ℕ) → ms.self_kind (node_id tree n) ≡ other_ms.self_kind (node_id other_tree n)

-- What is held, but for where tokens begin: trivia in front of them change their numbers.
abbrev pub held_anywhere : Held → Held
held_anywhere (held.Node node) = held.Node node
held_anywhere (held.Tokens run) = held.Tokens (record { first = 0; count = run.count })

abbrev pub bound_anywhere : Binding → Binding
bound_anywhere b = record b { held = held_anywhere b.held }

-- two matches bind the same, but for where tokens begin
abbrev pub BindAlike : List Binding → List Binding → Type 0
BindAlike bs others = map bound_anywhere bs ≡ map bound_anywhere others
