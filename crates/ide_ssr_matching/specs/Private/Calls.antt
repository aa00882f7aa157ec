-- Private: calls by the numbers of their nodes.
use Rattle.std.specs.Prelude.{ℕ, List, [], ◌∷◌, Option, option_to_list}
use Rattle.std.specs.Option.{IfSome, option_map_or}
use Rattle.ssr_syntax_tree.specs.Syntax.{Syntax}
use Rattle.ssr_syntax_tree.specs.Places.{HasNode, Node, node_of}
use Rattle.ide_ssr_matching.specs.declared.calls.CalledNodes.{CalledNodes}
use Rattle.ide_ssr_matching.specs.declared.calls.MethodNodes.{MethodNodes}
use Rattle.ide_ssr_matching.specs.declared.calls.MethodSides.{MethodSides}
use Rattle.ide_ssr_matching.specs.Calls.{PathCall, Method, child_nodes, alike_pairs}
use Rattle.ide_ssr_matching.specs.Sides.{Sides}
use Rattle.ide_ssr_matching.specs.Private.ChildNodes.{nodes_at, IsNodeBelow}

-- the nodes behind the first one
abbrev pub behind_first : List Node → List Node
behind_first [] = []
behind_first (first ∷ behind) = behind

-- a call of the pattern
abbrev pub called_at : Syntax → CalledNodes → PathCall
called_at tree call = record { path = node_of tree call.path.0; arguments = child_nodes (node_of tree call.list.0) }

pub record AreCalledBelow (tree : Syntax) (n : ℕ) (call : CalledNodes) : Type 0 where
  pub path : IsNodeBelow tree n call.path
  pub list : IsNodeBelow tree n call.list

-- a method call of the code
abbrev pub method_at : Syntax → MethodNodes → Method
method_at tree method = record {
  receiver = node_of tree method.receiver.0;
  generics = nodes_at tree (option_to_list method.generics);
  arguments = option_map_or (λ list. child_nodes (node_of tree list.0)) method.list [];
}

-- the receiver of a method call and the arguments behind it
abbrev pub arguments_at : Syntax → MethodNodes → List Node
arguments_at tree method = (method_at tree method).receiver ∷ (method_at tree method).arguments

pub record HasMethodNodes (tree : Syntax) (method : MethodNodes) : Type 0 where
  pub receiver : HasNode tree method.receiver.0
  pub generics : IfSome method.generics (λ node. HasNode tree node.0)
  pub list : IfSome method.list (λ node. HasNode tree node.0)

-- what has to pair of both calls, if that can
abbrev pub sides_at : Syntax → Syntax → MethodSides → Option Sides
sides_at pattern code sides = alike_pairs (called_at pattern sides.called) (method_at code sides.method) sides.receiver

pub record AreSidesBelow (pattern code : Syntax) (p : ℕ) (sides : MethodSides) : Type 0 where
  pub called : AreCalledBelow pattern p sides.called
  pub method : HasMethodNodes code sides.method
