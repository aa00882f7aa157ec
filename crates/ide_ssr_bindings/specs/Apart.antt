-- Where what placeholders hold stands in the tree of a match.
use Rattle.std.specs.Prelude.{◌≡◌, ◌+◌, ◌≤◌, ◌⊎◌, true}
use Rattle.ssr_syntax_tree.specs.Syntax.{Syntax}
use Rattle.ssr_syntax_tree.specs.Places.{Node, HasNode, node_of}
use Rattle.ssr_base_trees.specs.declared.ids.TokenRun.{TokenRun}
use Rattle.ssr_base_trees.specs.Laws.{IsAmong}
use Rattle.ssr_base_trees.specs.Workspace.{run_of, has_run}
use Rattle.ide_ssr_bindings.specs.declared.bindings.Binding.{Binding}
use Rattle.ide_ssr_bindings.specs.declared.bindings.Held.{Held}
use Rattle.ide_ssr_bindings.specs.declared.bindings.Held.TheVariants as held

-- the tokens of what is held
abbrev pub tokens_held : Syntax → Held → TokenRun
tokens_held code (held.Node node) = run_of (node_of code node.0)
tokens_held code (held.Tokens run) = run

-- a tree has what is held
abbrev pub HasHeld : Syntax → Held → Type 0
HasHeld code (held.Node node) = HasNode code node.0
HasHeld code (held.Tokens run) = has_run code run ≡ true

-- what a binding holds are tokens of a node
pub record IsHeldIn (code : Syntax) (node : Node) (b : Binding) : Type 0 where
  pub has : HasHeld code b.held
  pub among : IsAmong (tokens_held code b.held) (run_of node)

-- what one binding holds ends before that of the other begins
abbrev pub ComesBefore : Syntax → Binding → Binding → Type 0
ComesBefore code a b = (tokens_held code a.held).first + (tokens_held code a.held).count ≤ (tokens_held code b.held).first

-- what one of two bindings holds ends before that of the other begins, in the one order or in the other
abbrev pub AreApart : Syntax → Binding → Binding → Type 0
AreApart code a b = ComesBefore code a b ⊎ ComesBefore code b a
