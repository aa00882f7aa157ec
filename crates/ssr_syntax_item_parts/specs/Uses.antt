-- Forms of what is used, and by which names.
use Rattle.std.specs.Prelude.{List, [], ◌∷◌}
use Rattle.ssr_syntax_kinds.specs.declared.kinds.SyntaxKind.{SyntaxKind}
use Rattle.ssr_syntax_kinds.specs.declared.kinds.SyntaxKind.TheVariants as k
use Rattle.ssr_syntax_types.specs.declared.goals.Goal.{Goal}
use Rattle.ssr_syntax_types.specs.declared.goals.Goal.TheVariants.{UseTree}
use Rattle.ssr_syntax_forms.specs.Forms.{Form, Test, ◌then◌, child, mark, seal, choose, decide, a, at, optional, comma_list}
use Rattle.ssr_syntax_types.specs.Paths.{name, path_names, simple_path}

-- what a path without an anchor begins with
unfoldable pub macro_path_first : List SyntaxKind
macro_path_first = k.COLON2 ∷ path_names

unfoldable pub use_first : List SyntaxKind
use_first = k.STAR ∷ k.L_CURLY ∷ macro_path_first

abbrev pub path_or_colon_name : Test
path_or_colon_name = (path_names ∷ []) ∷ ((k.COLON2 ∷ []) ∷ path_names ∷ []) ∷ []

unfoldable pub name_or_underscore : Form Goal
name_or_underscore = choose (at (k.UNDERSCORE ∷ [])) (a k.UNDERSCORE) (mark name)

unfoldable pub rename : Form Goal
rename = a k.AS_KW then name_or_underscore then seal k.RENAME

unfoldable pub use_tree_list : Form Goal
use_tree_list = a k.L_CURLY then comma_list use_first (child UseTree) then a k.R_CURLY then seal k.USE_TREE_LIST

unfoldable pub star_or_list : Form Goal
star_or_list = choose (at (k.STAR ∷ [])) (a k.STAR) (mark use_tree_list)

unfoldable pub further_use : Form Goal
further_use = a k.COLON2 then star_or_list

unfoldable pub use_tree_end : Form Goal
use_tree_end = choose (at (k.COLON2 ∷ [])) further_use (optional (k.AS_KW ∷ []) (mark rename))

unfoldable pub use_tree_of_path : Form Goal
use_tree_of_path = mark simple_path then use_tree_end then seal k.USE_TREE

unfoldable pub use_tree_of_all : Form Goal
use_tree_of_all = optional (k.COLON2 ∷ []) (a k.COLON2) then star_or_list then seal k.USE_TREE

unfoldable pub use_tree : Form Goal
use_tree = decide path_or_colon_name (mark use_tree_of_path) (mark use_tree_of_all)

unfoldable pub use_item : Form Goal
use_item = a k.USE_KW then child UseTree then a k.SEMICOLON then seal k.USE
