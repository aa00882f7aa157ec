-- Private: what parts of two nodes bind.
use Rattle.std.specs.Prelude.{List, Option, map}
use Rattle.ssr_syntax_tree.specs.Places.{Node, node_part}
use Rattle.ssr_base_trees.specs.declared.semantics.Res.{Res}
use Rattle.ide_ssr_bindings.specs.declared.bindings.Binding.{Binding}
use Rattle.ide_ssr_matching.specs.Bindings.{Binder, counted_sides, pairs_by}
use Rattle.ide_ssr_matching.specs.Children.{bare}
use Rattle.ide_ssr_matching.specs.UsedPaths.{arguments_of}

-- what counts of both
abbrev pub counted_by : Binder → Option Res → Node → Node → Option (List Binding)
counted_by inner used p c = pairs_by inner (counted_sides used p c).pattern (counted_sides used p c).code

-- the bare arguments of a callee against the generic arguments of a method call
abbrev pub generics_by : Binder → Node → List Node → Option (List Binding)
generics_by inner path generics = pairs_by inner (bare (arguments_of path)) (map node_part generics)

-- the arguments of a call against the receiver of a method call and the arguments behind it
abbrev pub arguments_by : Binder → List Node → List Node → Option (List Binding)
arguments_by inner arguments nodes = pairs_by inner (map node_part arguments) (map node_part nodes)
