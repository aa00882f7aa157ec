-- Lists of record fields, which match by the names of the fields and not by their order.
use Rattle.std.specs.Prelude.{ℕ, ◌==◌, ◌&&◌, Bool, true, false, not, if◌then◌else◌, List, [], ◌∷◌, ◌++◌, length, map, filter, bytes_eq, Option, Some, None, is_some, is_none}
use Rattle.std.specs.Cmp.Lexicographic.{pointwise}
use Rattle.std.specs.List.{find, list_all, list_any}
use Rattle.std.specs.Option.{option_map, option_map_or, option_and_then}
use Rattle.ssr_syntax_kinds.specs.declared.kinds.SyntaxKind.TheVariants as k
use Rattle.ssr_syntax_kinds.specs.Kinds.{same_kind, is_trivia}
use Rattle.ssr_syntax_tree.specs.Syntax.{Token, tokens_in}
use Rattle.ssr_syntax_tree.specs.Places.{Node, node_part}
use Rattle.ide_ssr_resolved_rule.specs.Placeholders.{placeholder_at}
use Rattle.ide_ssr_resolved_rule.specs.Resolved.{ResolvedRule}
use Rattle.ide_ssr_matching.specs.Children.{bare}
use Rattle.ide_ssr_matching.specs.UsedPaths.{arguments_of}
use Rattle.ide_ssr_matching.specs.Sides.{Sides}
use Rattle.ide_ssr_matching.specs.Calls.{child_nodes, first_among, first_node}

-- ** Names.

-- a path of one segment without arguments is a name, with `::` in front if that stands there
abbrev pub is_name : Node → Bool
is_name path = is_none (first_node k.PATH (child_nodes path)) && length (bare (arguments_of path)) == 0

-- the name that an expression is, if it is only one
abbrev pub only_name : List Node → Option Node
only_name (path ∷ []) = if is_name path then Some path else None
only_name _ = None

abbrev pub name_in : Node → Option Node
name_in expr = if same_kind expr.kind k.PATH_EXPR then only_name (child_nodes expr) else None

-- what a field is named by: its name, or else its expression
abbrev pub named_by : Option Node → List Node → Option Node
named_by (Some name) nodes = Some name
named_by None nodes = first_among nodes

-- what names a field: its name, or else its expression, if that is one
abbrev pub name_by : Option Node → List Node → Option Node
name_by (Some name) nodes = Some name
name_by None nodes = option_and_then name_in (first_among nodes)

abbrev pub field_name : Node → Option Node
field_name field = name_by (first_node k.NAME_REF (child_nodes field)) (child_nodes field)

abbrev pub is_field : Node → Bool
is_field node = same_kind node.kind k.RECORD_EXPR_FIELD

-- whether a field of a pattern is named by a placeholder
abbrev pub is_open : ResolvedRule → Node → Bool
is_open rule node =
    is_field node
    && option_map_or (λ by. is_some (placeholder_at rule.names by)) (named_by (first_node k.NAME_REF (child_nodes node)) (child_nodes node)) false

-- ** Labels.

-- the texts of tokens but for trivia
abbrev pub solid_texts : List Token → List (List ℕ)
solid_texts tokens = map (λ token. token.text) (filter (λ token. not (is_trivia token.kind)) tokens)

abbrev pub texts_of : Node → List (List ℕ)
texts_of node = solid_texts (tokens_in node.children)

-- Each node in a list of fields has a label: a field the texts of its name, if it has one, and the base no text.
abbrev pub label_of : Node → Option (List (List ℕ))
label_of node = if is_field node then option_map texts_of (field_name node) else Some []

-- whether all nodes have labels
abbrev pub are_labelled : List Node → Bool
are_labelled nodes = list_all (λ node. is_some (label_of node)) nodes

abbrev pub has_label : List (List ℕ) → Node → Bool
has_label label node = option_map_or (pointwise bytes_eq label) (label_of node) false

-- whether two nodes have the same label
abbrev pub have_same_label : Node → Node → Bool
have_same_label a b = option_map_or (λ label. has_label label b) (label_of a) false

-- whether no node has the label of one that was seen, or of one in front of it
abbrev pub are_new : List Node → List Node → Bool
are_new seen [] = true
are_new seen (node ∷ rest) = not (list_any (have_same_label node) seen) && are_new (seen ++ node ∷ []) rest

-- whether no two nodes have the same label
abbrev pub are_different : List Node → Bool
are_different nodes = are_new [] nodes

-- ** Lists that match by labels.

-- whether two lists of fields match by names: where all fields have some, those of the pattern other ones than placeholders
abbrev pub is_named : ResolvedRule → Node → Node → Bool
is_named rule p c =
    same_kind p.kind k.RECORD_EXPR_FIELD_LIST
    && (not (list_any (is_open rule) (child_nodes p)) && (are_labelled (child_nodes p) && are_labelled (child_nodes c)))

-- all elements of a list, if each is there
abbrev pub all_some : {A : Type 0} → List (Option A) → Option (List A)
all_some [] = Some []
all_some (None ∷ rest) = None
all_some (Some x ∷ rest) = option_map (λ xs. x ∷ xs) (all_some rest)

-- the nodes of the code that have the labels of the pattern's, in their order, if both have as many, and no label is there twice
abbrev pub arranged : List Node → List Node → Option (List Node)
arranged ps cs =
    if are_different ps && (are_different cs && length ps == length cs) then all_some (map (λ p. find (have_same_label p) cs) ps) else None

abbrev pub named_nodes : Node → Node → Option (List Node)
named_nodes p c = arranged (child_nodes p) (child_nodes c)

abbrev pub named_pairs : Node → List Node → Sides
named_pairs p nodes = record { pattern = map node_part (child_nodes p); code = map node_part nodes; receiver = None }
