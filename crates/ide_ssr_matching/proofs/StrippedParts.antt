-- What counts of two nodes that are alike: their bare children, arguments, child nodes, and the parts of calls.
use Rattle.std.proofs.Common.{◌≡◌, ℕ, Bool, true, false, ◌&&◌, ◌||◌, cond, List, [], ◌∷◌, map, option_to_list, Option, Some, None, refl, sym, ◌∙◌, ap}
use Rattle.std.specs.Option.{option_map, option_map_or}
use Rattle.std.proofs.lemmas.Bool.{cond_both}
use Rattle.std.proofs.lemmas.Option.{none-some, same_Some}
use Rattle.ssr_syntax_kinds.specs.declared.kinds.SyntaxKind.{SyntaxKind}
use Rattle.ssr_syntax_kinds.specs.declared.kinds.SyntaxKind.TheVariants as k
use Rattle.ssr_syntax_kinds.specs.Kinds.{same_kind, is_trivia}
use Rattle.ssr_syntax_tree.specs.Syntax.{Token}
use Rattle.ssr_syntax_tree.specs.Places.{Node, Part, token_part, node_part, parts_of}
use Rattle.ide_ssr_resolved_rule.specs.Paths.{first_of_kind, is_arguments}
use Rattle.ide_ssr_token_trees.specs.Elements.{is_closing, closes}
use Rattle.ide_ssr_matching.specs.Calls.{nodes_among, child_nodes, first_node, generics_among, arguments_among, Method, method_in, method_call}
use Rattle.ide_ssr_matching.specs.Children.{bare}
use Rattle.ide_ssr_matching.specs.UsedPaths.{from_arguments, arguments_of}
use Rattle.ide_ssr_matching.proofs.CallParts.{first_among_nodes}
use Rattle.ide_ssr_matching.proofs.StrippedNodes.{stripped_node, stripped_part, stripped_parts, AreAlike, parts_alike}

-- ** Siblings.

-- a token among siblings without trivia
token_in : (t : ℕ) (token : Token) (rest : List Part) (P : List Part → Type 0)
    → (is_trivia token.kind ≡ true → P (stripped_parts rest)) → (is_trivia token.kind ≡ false → P (token_part 0 token ∷ stripped_parts rest))
    → P (stripped_parts (token_part t token ∷ rest))
token_in t token rest P trivia solid = cond_both (is_trivia token.kind) (stripped_parts rest) (token_part 0 token ∷ stripped_parts rest) P trivia solid

closes_left : (parts : List Part) → closes (stripped_parts parts) ≡ closes parts
closes_left [] = refl
closes_left (node_part node ∷ rest) = refl
closes_left (token_part t token ∷ rest) =
    token_in t token rest (λ left. closes left ≡ closes (token_part t token ∷ rest))
    (λ is. closes_left rest ∙ ap (λ b. cond b (closes rest) (is_closing token.kind)) (sym is))
    (λ _. ap (λ b. cond (is_trivia token.kind) b (is_closing token.kind)) (closes_left rest))

map_cond : {A B : Type 0} (f : A → B) (b : Bool) (x : A) (xs : List A) → cond b (map f xs) (f x ∷ map f xs) ≡ map f (cond b xs (x ∷ xs))
map_cond f true x xs = refl
map_cond f false x xs = refl

bare_left : (parts : List Part) → bare (stripped_parts parts) ≡ map stripped_part (bare parts)
bare_left [] = refl
bare_left (node_part node ∷ rest) = ap (λ parts. node_part (stripped_node node) ∷ parts) (bare_left rest)
bare_left (token_part t token ∷ rest) =
    token_in t token rest (λ left. bare left ≡ map stripped_part (bare (token_part t token ∷ rest)))
    (λ is.
    bare_left rest
    ∙ ap (λ b. map stripped_part (cond (b || (same_kind token.kind k.COMMA && closes rest)) (bare rest) (token_part t token ∷ bare rest))) (sym is))
    (λ _.
    let comma = same_kind token.kind k.COMMA in
    let left_out = is_trivia token.kind || (comma && closes rest) in
    let behind = bare (stripped_parts rest) in
    ap (λ b. cond (is_trivia token.kind || (comma && b)) behind (token_part 0 token ∷ behind)) (closes_left rest)
    ∙ ap (λ parts. cond left_out parts (token_part 0 token ∷ parts)) (bare_left rest)
    ∙ map_cond stripped_part left_out (token_part t token) (bare rest))

nodes_among_left : (parts : List Part) → nodes_among (stripped_parts parts) ≡ map stripped_node (nodes_among parts)
nodes_among_left [] = refl
nodes_among_left (node_part node ∷ rest) = ap (λ nodes. stripped_node node ∷ nodes) (nodes_among_left rest)
nodes_among_left (token_part t token ∷ rest) =
    token_in t token rest (λ left. nodes_among left ≡ map stripped_node (nodes_among rest)) (λ _. nodes_among_left rest) (λ _. nodes_among_left rest)

from_arguments_left : (parts : List Part) → from_arguments (stripped_parts parts) ≡ stripped_parts (from_arguments parts)
from_arguments_left [] = refl
from_arguments_left (node_part node ∷ rest) =
    ap (cond (is_arguments node.kind) (node_part (stripped_node node) ∷ stripped_parts rest)) (from_arguments_left rest)
    ∙ by (is_arguments node.kind) (from_arguments rest)
  where
    by : (b : Bool) (parts : List Part)
        → cond b (stripped_parts (node_part node ∷ rest)) (stripped_parts parts) ≡ stripped_parts (cond b (node_part node ∷ rest) parts)
    by true parts = refl
    by false parts = refl
from_arguments_left (token_part t token ∷ rest) =
    token_in t token rest (λ left. from_arguments left ≡ stripped_parts (from_arguments rest)) (λ _. from_arguments_left rest) (λ _. from_arguments_left rest)

-- ** What is told of nodes that are alike.

-- what is the same of nodes that are alike is the same of those that may be there
pub either_alike : {A : Type 0} (f : Node → A) (d : A) → ((a b : Node) → AreAlike a b → f a ≡ f b) → (o p : Option Node)
    → option_map stripped_node o ≡ option_map stripped_node p → option_map_or f o d ≡ option_map_or f p d
either_alike f d same None None alike = refl
either_alike f d same None (Some b) alike = absurd (none-some (stripped_node b) alike)
either_alike f d same (Some a) None alike = absurd (none-some (stripped_node a) (sym alike))
either_alike f d same (Some a) (Some b) alike = same a b (same_Some (stripped_node a) (stripped_node b) alike)

-- and of each of a list
pub each_alike : {A : Type 0} (f : Node → A) → ((a b : Node) → AreAlike a b → f a ≡ f b) → (xs ys : List Node)
    → map stripped_node xs ≡ map stripped_node ys → map f xs ≡ map f ys
each_alike f same [] [] alike = refl
each_alike f same [] (y ∷ ys) alike = let e : [] ≡ stripped_node y ∷ map stripped_node ys = alike in cc
each_alike f same (x ∷ xs) [] alike = let e : stripped_node x ∷ map stripped_node xs ≡ [] = alike in cc
each_alike f same (x ∷ xs) (y ∷ ys) alike =
    let e : stripped_node x ∷ map stripped_node xs ≡ stripped_node y ∷ map stripped_node ys = alike in
    let first : stripped_node x ≡ stripped_node y = cc in
    let rest : map stripped_node xs ≡ map stripped_node ys = cc in
    ap (λ z. z ∷ map f xs) (same x y first) ∙ ap (λ zs. f y ∷ zs) (each_alike f same xs ys rest)

pub child_nodes_alike : (a b : Node) → AreAlike a b → map stripped_node (child_nodes a) ≡ map stripped_node (child_nodes b)
child_nodes_alike a b alike = sym (nodes_among_left (parts_of a)) ∙ ap nodes_among (parts_alike a b alike) ∙ nodes_among_left (parts_of b)

first_node_map : (kind : SyntaxKind) (nodes : List Node) → first_node kind (map stripped_node nodes) ≡ option_map stripped_node (first_node kind nodes)
first_node_map kind [] = refl
first_node_map kind (node ∷ rest) =
    ap (cond (same_kind node.kind kind) (Some (stripped_node node))) (first_node_map kind rest)
    ∙ by (same_kind node.kind kind) (first_node kind rest)
  where
    by : (b : Bool) (o : Option Node) → cond b (Some (stripped_node node)) (option_map stripped_node o) ≡ option_map stripped_node (cond b (Some node) o)
    by true o = refl
    by false o = refl

pub first_node_alike : (xs ys : List Node) → map stripped_node xs ≡ map stripped_node ys → (kind : SyntaxKind)
    → option_map stripped_node (first_node kind xs) ≡ option_map stripped_node (first_node kind ys)
first_node_alike xs ys alike kind = sym (first_node_map kind xs) ∙ ap (first_node kind) alike ∙ first_node_map kind ys

pub first_alike : (kind : SyntaxKind) (a b : Node) → AreAlike a b
    → option_map stripped_node (first_of_kind kind (parts_of a)) ≡ option_map stripped_node (first_of_kind kind (parts_of b))
first_alike kind a b alike =
    ap (option_map stripped_node) (first_among_nodes kind (parts_of a))
    ∙ first_node_alike (child_nodes a) (child_nodes b) (child_nodes_alike a b alike) kind
    ∙ sym (ap (option_map stripped_node) (first_among_nodes kind (parts_of b)))

pub arguments_alike : (a b : Node) → AreAlike a b → stripped_parts (arguments_of a) ≡ stripped_parts (arguments_of b)
arguments_alike a b alike =
    sym (told (first_of_kind k.PATH_SEGMENT (parts_of a)))
    ∙ either_alike (λ segment. stripped_parts (from_arguments (parts_of segment))) [] own (first_of_kind k.PATH_SEGMENT (parts_of a))
    (first_of_kind k.PATH_SEGMENT (parts_of b)) (first_alike k.PATH_SEGMENT a b alike)
    ∙ told (first_of_kind k.PATH_SEGMENT (parts_of b))
  where
    told : (o : Option Node)
        → option_map_or (λ segment. stripped_parts (from_arguments (parts_of segment))) o []
        ≡ stripped_parts (option_map_or (λ segment. from_arguments (parts_of segment)) o [])
    told None = refl
    told (Some segment) = refl

    own : (c d : Node) → AreAlike c d → stripped_parts (from_arguments (parts_of c)) ≡ stripped_parts (from_arguments (parts_of d))
    own c d alike = sym (from_arguments_left (parts_of c)) ∙ ap from_arguments (parts_alike c d alike) ∙ from_arguments_left (parts_of d)

-- parts that are the same but for trivia have the same bare parts
pub bare_alike : (xs ys : List Part) → stripped_parts xs ≡ stripped_parts ys → map stripped_part (bare xs) ≡ map stripped_part (bare ys)
bare_alike xs ys alike = sym (bare_left xs) ∙ ap bare alike ∙ bare_left ys

pub bare_arguments_alike : (a b : Node) → AreAlike a b → map stripped_part (bare (arguments_of a)) ≡ map stripped_part (bare (arguments_of b))
bare_arguments_alike a b alike = bare_alike (arguments_of a) (arguments_of b) (arguments_alike a b alike)

-- ** Nodes in lists that are alike.

module _ (xs ys : List Node) (alike : map stripped_node xs ≡ map stripped_node ys) where
  pub generics_alike : map stripped_node (generics_among xs) ≡ map stripped_node (generics_among ys)
  generics_alike =
      sym (listed (first_node k.GENERIC_ARG_LIST xs)) ∙ ap option_to_list (first_node_alike xs ys alike k.GENERIC_ARG_LIST) ∙ listed (first_node k.GENERIC_ARG_LIST ys)
    where
      listed : (o : Option Node) → option_to_list (option_map stripped_node o) ≡ map stripped_node (option_to_list o)
      listed None = refl
      listed (Some node) = refl

  pub arguments_among_alike : map stripped_node (arguments_among xs) ≡ map stripped_node (arguments_among ys)
  arguments_among_alike =
      sym (told (first_node k.ARG_LIST xs))
      ∙ either_alike (λ list. map stripped_node (child_nodes list)) [] child_nodes_alike (first_node k.ARG_LIST xs) (first_node k.ARG_LIST ys)
      (first_node_alike xs ys alike k.ARG_LIST)
      ∙ told (first_node k.ARG_LIST ys)
    where
      told : (o : Option Node) → option_map_or (λ list. map stripped_node (child_nodes list)) o [] ≡ map stripped_node (option_map_or child_nodes o [])
      told None = refl
      told (Some list) = refl

-- ** Method calls.

abbrev pub stripped_method : Method → Method
stripped_method method = record {
  receiver = stripped_node method.receiver;
  generics = map stripped_node method.generics;
  arguments = map stripped_node method.arguments;
}

same_method : (x y : Node) (gs hs xs ys : List Node) → x ≡ y → gs ≡ hs → xs ≡ ys
    → ◌≡◌ {A = Option Method} (Some (record { receiver = x; generics = gs; arguments = xs })) (Some (record { receiver = y; generics = hs; arguments = ys }))
same_method x y gs hs xs ys receiver generics arguments = rw (receiver, generics, arguments) refl

method_in_alike : (xs ys : List Node) → map stripped_node xs ≡ map stripped_node ys
    → option_map stripped_method (method_in xs) ≡ option_map stripped_method (method_in ys)
method_in_alike [] [] alike = refl
method_in_alike [] (y ∷ ys) alike = let e : [] ≡ stripped_node y ∷ map stripped_node ys = alike in cc
method_in_alike (x ∷ xs) [] alike = let e : stripped_node x ∷ map stripped_node xs ≡ [] = alike in cc
method_in_alike (x ∷ xs) (y ∷ ys) alike =
    let e : stripped_node x ∷ map stripped_node xs ≡ stripped_node y ∷ map stripped_node ys = alike in
    let first : stripped_node x ≡ stripped_node y = cc in
    let rest : map stripped_node xs ≡ map stripped_node ys = cc in
    same_method (stripped_node x) (stripped_node y) (map stripped_node (generics_among xs)) (map stripped_node (generics_among ys))
    (map stripped_node (arguments_among xs)) (map stripped_node (arguments_among ys)) first (generics_alike xs ys rest) (arguments_among_alike xs ys rest)

pub method_alike : (a b : Node) → AreAlike a b → option_map stripped_method (method_call a) ≡ option_map stripped_method (method_call b)
method_alike a b alike = method_in_alike (child_nodes a) (child_nodes b) (child_nodes_alike a b alike)
