-- Private: what is read with changes made, as it is kept.
use Rattle.std.specs.Prelude.{List, map}
use Rattle.ssr_syntax_tree.specs.Syntax.{Syntax}
use Rattle.ssr_base_trees.specs.Origins.{Span, span_of}
use Rattle.ssr_standing.specs.declared.expansions.ReadWith.{ReadWith}

abbrev pub read_of : ReadWith → Syntax × List Span
read_of r = (r.tree, map span_of r.places.items)
