-- Locals: names of the code that a function around them binds. They stand for nothing that is declared.
use Rattle.std.specs.Prelude.{ℕ, ◌≡◌, ◌⊎◌, ◌==◌, ◌&&◌, ◌+◌, ◌<◌, ◌≤◌, Bool, true, false, not, nat_le, nat_lt, is_some, List, [], ◌∷◌, Option, Some, None, if◌then◌else◌, Contains}
use Rattle.std.specs.Option.{IsSomeAnd, option_map, option_map_or}
use Rattle.ssr_syntax_kinds.specs.Kinds.{same_kind}
use Rattle.ssr_syntax_kinds.specs.declared.kinds.SyntaxKind.{SyntaxKind}
use Rattle.ssr_syntax_kinds.specs.declared.kinds.SyntaxKind.TheVariants as k
use Rattle.ssr_syntax_tree.specs.Syntax.{Forest, Syntax, token_count, tokens_in, spelled}
use Rattle.ssr_syntax_tree.specs.Places.{Node, node_of, token_of, parts_of, elements_of, HasNode}
use Rattle.ssr_syntax_tree.specs.declared.number.Element.{Element}
use Rattle.ssr_syntax_tree.specs.declared.number.Element.TheVariants as element
use Rattle.ssr_base_trees.specs.declared.ids.NodeId.{NodeId}
use Rattle.ssr_base_trees.specs.Workspace.{PlacedTree, with_number, told_of}
use Rattle.ssr_base_trees.specs.Laws.{IsBelow}
use Rattle.ide_ssr_resolved_rule.specs.Paths.{below_first, first_of_kind, qualifier, last_name}
use Rattle.ssr_names_items.specs.Names.{bare}
use Rattle.ssr_names.specs.declared.provider.Names.{Names}
use Rattle.ssr_names.specs.Provider.{told}

-- the kind of a node, if there is one of this number
abbrev pub kind_at : List PlacedTree → NodeId → Option SyntaxKind
kind_at trees x = told_of (λ p. Some (node_of p.syntax x.node.0).kind) trees x

-- what binds names for all that is below it
abbrev pub is_function : SyntaxKind → Bool
is_function k.FN = true
is_function k.CONST = true
is_function k.STATIC = true
is_function _ = false

abbrev pub is_function_at : List PlacedTree → NodeId → Bool
is_function_at trees x = option_map_or is_function (kind_at trees x) false

-- the text of the first node of a kind below another one
abbrev pub text_of_first : SyntaxKind → Forest → Option (List ℕ)
text_of_first kind below = option_map (λ name. spelled (tokens_in name)) (below_first kind below)

-- ** A path that is a name.

-- what a path stands in that is a value
abbrev pub is_value : SyntaxKind → Bool
is_value k.PATH_EXPR = true
is_value k.PATH_PAT = true
is_value k.TUPLE_STRUCT_PAT = true
is_value _ = false

-- whether a node that isn't the root stands in a value
abbrev pub is_in_value : Syntax → ℕ → Bool
is_in_value tree n = nat_lt 0 n && is_value (node_of tree (node_of tree n).parent).kind

abbrev pub begins_with_colons : Syntax → Node → Bool
begins_with_colons tree path = nat_lt 0 (token_count path.children) && same_kind (token_of tree path.first).kind k.COLON2

-- whether a path has one segment, with no `::` in front
abbrev pub is_alone : Syntax → Node → Bool
is_alone tree path = not (is_some (qualifier path.children)) && not (begins_with_colons tree path)

-- the name that a path is alone
unfoldable pub lone_name : Syntax → ℕ → Option (List ℕ)
lone_name tree n = let path = node_of tree n in if is_alone tree path then option_map bare (last_name path.children) else None

-- the name that a path is alone in the place of a value
abbrev pub value_name : Syntax → ℕ → Option (List ℕ)
value_name tree n = if is_in_value tree n then lone_name tree n else None

-- whether a node that isn't the root stands in the call of a macro, as the macro's name does
abbrev pub is_in_call : Syntax → ℕ → Bool
is_in_call tree n = nat_lt 0 n && same_kind (node_of tree (node_of tree n).parent).kind k.MACRO_CALL

-- the name that a path is alone, but for that of a macro
abbrev pub plain_name : Syntax → ℕ → Option (List ℕ)
plain_name tree n = if is_in_call tree n then None else lone_name tree n

-- ** A function without a body: the type of a pointer, one that a trait requires, or a foreign one.

-- by its kind, and by whether it has a block
abbrev pub is_bodiless : SyntaxKind → Bool → Bool
is_bodiless k.FN_PTR_TYPE has_block = true
is_bodiless k.FN has_block = not has_block
is_bodiless _ _ = false

abbrev pub lacks_body : Syntax → ℕ → Bool
lacks_body tree n = let item = node_of tree n in is_bodiless item.kind (is_some (below_first k.BLOCK_EXPR item.children))

-- whether a node that isn't the root is the list of such a function's parameters
abbrev pub lists_arguments : Syntax → ℕ → Bool
lists_arguments tree n = nat_lt 0 n && lacks_body tree (node_of tree n).parent

-- whether it is one of these parameters
abbrev pub is_argument : Syntax → ℕ → Bool
is_argument tree n = nat_lt 0 n && lists_arguments tree (node_of tree n).parent

-- whether it is the pattern of such a parameter: that tells what the argument is, and no code has the name
abbrev pub names_argument : Syntax → ℕ → Bool
names_argument tree n = nat_lt 0 n && is_argument tree (node_of tree n).parent

-- ** A name that a pattern binds.

-- whether a name begins with a capital letter
abbrev pub is_capital : List ℕ → Bool
is_capital [] = false
is_capital (byte ∷ rest) = nat_le 65 byte && nat_le byte 90

-- Whether a pattern may be compared with a constant in place of binding a name: nothing but the name stands in it, and that
-- begins with a capital letter.
abbrev pub may_be_constant : Forest → List ℕ → Bool
may_be_constant below name = (token_count below == 1) && is_capital name

-- the name that a pattern binds for sure, as `x`, `ref mut x` and `x @ ..` do
unfoldable pub bound_name : Syntax → ℕ → Option (List ℕ)
bound_name tree n =
    let pattern = node_of tree n in
    let name = option_map bare (text_of_first k.NAME pattern.children) in
    let is_binding = same_kind pattern.kind k.IDENT_PAT && not (names_argument tree n) in
    if is_binding && not (option_map_or (may_be_constant pattern.children) name false) then name else None

-- a token is a word that is no constant, as its small letter shows
pub record IsBindingWord (tree : Syntax) (token : ℕ) (name : List ℕ) : Type 0 where
  pub is_word : same_kind (token_of tree token).kind k.IDENT ≡ true
  pub named : bare (token_of tree token).text ≡ name
  pub is_small : is_capital name ≡ false

-- a macro call in the place of a pattern has this word: the macro may make a pattern of it that binds it
pub record HasBindingWord (tree : Syntax) (n : ℕ) (name : List ℕ) : Type 0 where
  pub is_call : same_kind (node_of tree n).kind k.MACRO_PAT ≡ true
  pub token : ℕ
  pub from : (node_of tree n).first ≤ token
  pub to : token < (node_of tree n).first + token_count (node_of tree n).children
  pub is : IsBindingWord tree token name

-- a pattern binds a name, or may
abbrev pub Binds : Syntax → ℕ → List ℕ → Type 0
Binds tree n name = (bound_name tree n ≡ Some name) ⊎ HasBindingWord tree n name

abbrev pub BindsAt : List PlacedTree → NodeId → List ℕ → Type 0
BindsAt trees x name = IsSomeAnd (with_number trees x.tree) (λ p. HasNode p.syntax x.node.0 × Binds p.syntax x.node.0 name)

-- ** A name that is a generic parameter.

abbrev pub is_parameter : SyntaxKind → Bool
is_parameter k.TYPE_PARAM = true
is_parameter k.CONST_PARAM = true
is_parameter _ = false

-- a node is a generic parameter of this name
pub record IsParameter (tree : Syntax) (node : Element) (name : List ℕ) : Type 0 where
  pub number : ℕ
  pub is : node ≡ element.Node (record { 0 = number })
  pub kind : is_parameter (node_of tree number).kind ≡ true
  pub named : option_map bare (text_of_first k.NAME (node_of tree number).children) ≡ Some name

-- an item has a generic parameter of this name
pub record HasParameter (tree : Syntax) (item : ℕ) (name : List ℕ) : Type 0 where
  pub list : Node
  pub listed : first_of_kind k.GENERIC_PARAM_LIST (parts_of (node_of tree item)) ≡ Some list
  pub parameter : Element
  pub among : Contains (elements_of list) parameter
  pub is : IsParameter tree parameter name

abbrev pub HasParameterAt : List PlacedTree → NodeId → List ℕ → Type 0
HasParameterAt trees x name =
    IsSomeAnd (with_number trees x.tree) (λ p. HasNode p.syntax x.node.0 × HasParameter p.syntax x.node.0 name)

-- ** Locals.

-- A path is a name alone in the place of a value, and a function around it has a pattern that binds the name, or a macro call in the
-- place of a pattern that may.
pub record IsLocal (trees : List PlacedTree) (path : NodeId) : Type 0 where
  pub name : List ℕ
  pub function : NodeId
  pub pattern : NodeId
  pub is_function : is_function_at trees function ≡ true
  pub named : told_of (λ p. value_name p.syntax path.node.0) trees path ≡ Some name
  pub binds : BindsAt trees pattern name
  pub around_path : IsBelow trees path function
  pub around_pattern : IsBelow trees pattern function

-- A path is a name alone, and an item around it has a generic parameter of that name.
pub record IsOfGenerics (trees : List PlacedTree) (path : NodeId) : Type 0 where
  pub name : List ℕ
  pub item : NodeId
  pub named : told_of (λ p. plain_name p.syntax path.node.0) trees path ≡ Some name
  pub around : IsBelow trees path item
  pub has : HasParameterAt trees item name

-- a path is the name of what is bound where it stands
abbrev pub IsBoundName : List PlacedTree → NodeId → Type 0
IsBoundName trees path = IsLocal trees path ⊎ IsOfGenerics trees path

-- of such a path nothing is told
abbrev pub TellsNoLocal : List PlacedTree → Names → Type 0
TellsNoLocal trees names = (path : NodeId) → IsBoundName trees path → (told names).path path ≡ None
