-- The text of a file with changes made.
use Rattle.std.specs.Prelude.{ℕ, List, length}
use Rattle.ssr_syntax_tree.specs.Syntax.{Syntax, source_of}
use Rattle.ssr_base_trees.specs.Changes.{Change, replaced}

abbrev pub new_text : Syntax → List Change → List ℕ
new_text code changes = replaced (source_of code) 0 (length (source_of code)) changes
