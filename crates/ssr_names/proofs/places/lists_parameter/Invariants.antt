use Rattle.std.proofs.Common.{Contains, take}
use Rattle.ssr_syntax_tree.specs.declared.number.Element.{Element}
use Rattle.ssr_syntax_tree.specs.Places.{node_of, elements_of}
use Rattle.ssr_names.specs.Locals.{IsParameter}
use Rattle.ssr_names.proofs.places.lists_parameter.Given as goal

abbrev pub invariant-loop-place : goal.invariant-loop-place
invariant-loop-place l = (child : Element) → Contains (take l.place (elements_of (node_of l.tree l.list.0))) child → IsParameter l.tree child l.name → ⊥
