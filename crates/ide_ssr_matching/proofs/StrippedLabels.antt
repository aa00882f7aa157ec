-- Labels of record fields in nodes that are alike.
use Rattle.std.proofs.Common.{◌≡◌, Bool, true, false, ◌&&◌, not, cond, List, [], ◌∷◌, ◌++◌, length, map, Option, Some, None, is_some, bytes_eq, refl, sym, ◌∙◌, ap}
use Rattle.std.specs.Cmp.Lexicographic.{pointwise}
use Rattle.std.specs.Prelude.{◌==◌, is_none}
use Rattle.std.specs.List.{find, list_any, list_all}
use Rattle.std.specs.Option.{option_map, option_map_or}
use Rattle.std.proofs.lemmas.List.{length-map, map-append}
use Rattle.ssr_syntax_kinds.specs.declared.kinds.SyntaxKind.TheVariants as k
use Rattle.ssr_syntax_kinds.specs.Kinds.{same_kind}
use Rattle.ssr_syntax_tree.specs.Places.{Node}
use Rattle.ssr_syntax_tree.specs.Syntax.{Token, tokens_in}
use Rattle.ide_ssr_matching.specs.Calls.{child_nodes, first_node}
use Rattle.ide_ssr_matching.specs.Children.{bare}
use Rattle.ide_ssr_matching.specs.Records.{is_name, only_name, name_in, name_by, field_name, is_field, texts_of, label_of, are_labelled, has_label, have_same_label, are_new, are_different, all_some, arranged, named_nodes}
use Rattle.ide_ssr_matching.specs.UsedPaths.{arguments_of}
use Rattle.ide_ssr_matching.proofs.Stripped.{solid_tokens, tokens_left, stripped_below_again, either_below}
use Rattle.ide_ssr_matching.proofs.StrippedNodes.{stripped_node, stripped_part, AreAlike, kinds_alike}
use Rattle.ide_ssr_matching.proofs.StrippedParts.{each_alike, child_nodes_alike, first_node_alike, bare_arguments_alike}

-- ** Names.

none_alike : (o p : Option Node) → option_map stripped_node o ≡ option_map stripped_node p → is_none o ≡ is_none p
none_alike o p alike = sym (same o) ∙ ap is_none alike ∙ same p
  where
    same : (o : Option Node) → is_none (option_map stripped_node o) ≡ is_none o
    same None = refl
    same (Some node) = refl

names_told : (a b : Node) → AreAlike a b → is_name a ≡ is_name b
names_told a b alike =
    ap (λ single. single && length (bare (arguments_of a)) == 0)
    (none_alike (first_node k.PATH (child_nodes a)) (first_node k.PATH (child_nodes b))
    (first_node_alike (child_nodes a) (child_nodes b) (child_nodes_alike a b alike) k.PATH))
    ∙ ap (λ count. is_none (first_node k.PATH (child_nodes b)) && count == 0)
    (sym (length-map (bare (arguments_of a)) stripped_part) ∙ ap length (bare_arguments_alike a b alike) ∙ length-map (bare (arguments_of b)) stripped_part)

abbrev AreBoth : Option Node → Option Node → Type 0
AreBoth o p = option_map stripped_node o ≡ option_map stripped_node p

only_alike : (xs ys : List Node) → map stripped_node xs ≡ map stripped_node ys → AreBoth (only_name xs) (only_name ys)
only_alike [] [] alike = refl
only_alike [] (y ∷ ys) alike = let e : [] ≡ stripped_node y ∷ map stripped_node ys = alike in cc
only_alike (x ∷ xs) [] alike = let e : stripped_node x ∷ map stripped_node xs ≡ [] = alike in cc
only_alike (x ∷ []) (y ∷ []) alike =
    let e : stripped_node x ∷ [] ≡ stripped_node y ∷ [] = alike in
    let same : stripped_node x ≡ stripped_node y = cc in
    ap (λ b. option_map stripped_node (cond b (Some x) None)) (names_told x y same) ∙ by (is_name y) same
  where
    by : (b : Bool) → stripped_node x ≡ stripped_node y → AreBoth (cond b (Some x) None) (cond b (Some y) None)
    by true same = ap Some same
    by false same = refl
only_alike (x ∷ []) (y ∷ z ∷ ys) alike =
    let e : stripped_node x ∷ [] ≡ stripped_node y ∷ stripped_node z ∷ map stripped_node ys = alike in
    let rest : [] ≡ stripped_node z ∷ map stripped_node ys = cc in cc
only_alike (x ∷ z ∷ xs) (y ∷ []) alike =
    let e : stripped_node x ∷ stripped_node z ∷ map stripped_node xs ≡ stripped_node y ∷ [] = alike in
    let rest : stripped_node z ∷ map stripped_node xs ≡ [] = cc in cc
only_alike (x ∷ w ∷ xs) (y ∷ z ∷ ys) alike = refl

exprs_alike : (a b : Node) → AreAlike a b → AreBoth (name_in a) (name_in b)
exprs_alike a b alike =
    ap (λ kind. option_map stripped_node (cond (same_kind kind k.PATH_EXPR) (only_name (child_nodes a)) None)) (kinds_alike a b alike)
    ∙ by (same_kind b.kind k.PATH_EXPR)
  where
    by : (c : Bool) → AreBoth (cond c (only_name (child_nodes a)) None) (cond c (only_name (child_nodes b)) None)
    by true = only_alike (child_nodes a) (child_nodes b) (child_nodes_alike a b alike)
    by false = refl

names_alike : (xs ys : List Node) → map stripped_node xs ≡ map stripped_node ys → (o p : Option Node) → AreBoth o p → AreBoth (name_by o xs) (name_by p ys)
names_alike [] [] alike None None same = refl
names_alike [] (y ∷ ys) alike None None same = let e : [] ≡ stripped_node y ∷ map stripped_node ys = alike in cc
names_alike (x ∷ xs) [] alike None None same = let e : stripped_node x ∷ map stripped_node xs ≡ [] = alike in cc
names_alike (x ∷ xs) (y ∷ ys) alike None None same =
    let e : stripped_node x ∷ map stripped_node xs ≡ stripped_node y ∷ map stripped_node ys = alike in
    let first : stripped_node x ≡ stripped_node y = cc in
    exprs_alike x y first
names_alike xs ys alike None (Some b) same = let e : None ≡ Some (stripped_node b) = same in cc
names_alike xs ys alike (Some a) None same = let e : Some (stripped_node a) ≡ None = same in cc
names_alike xs ys alike (Some a) (Some b) same = same

fields_alike : (a b : Node) → AreAlike a b → AreBoth (field_name a) (field_name b)
fields_alike a b alike =
    let nodes = child_nodes_alike a b alike in
    names_alike (child_nodes a) (child_nodes b) nodes (first_node k.NAME_REF (child_nodes a)) (first_node k.NAME_REF (child_nodes b))
    (first_node_alike (child_nodes a) (child_nodes b) nodes k.NAME_REF)

-- ** Labels.

texts_left : (node : Node) → texts_of (stripped_node node) ≡ texts_of node
texts_left node =
    ap (map (λ (token : Token). token.text))
    (either_below (λ rest. solid_tokens (tokens_in rest) ≡ solid_tokens (tokens_in node.children)) node.kind node.children refl (tokens_left node.children))

texts_alike : (o p : Option Node) → AreBoth o p → option_map texts_of o ≡ option_map texts_of p
texts_alike None None same = refl
texts_alike None (Some b) same = let e : None ≡ Some (stripped_node b) = same in cc
texts_alike (Some a) None same = let e : Some (stripped_node a) ≡ None = same in cc
texts_alike (Some a) (Some b) same =
    let e : Some (stripped_node a) ≡ Some (stripped_node b) = same in
    let alike : stripped_node a ≡ stripped_node b = cc in
    ap Some (sym (texts_left a) ∙ ap texts_of alike ∙ texts_left b)

label_alike : (a b : Node) → AreAlike a b → label_of a ≡ label_of b
label_alike a b alike =
    ap (λ kind. cond (same_kind kind k.RECORD_EXPR_FIELD) (option_map texts_of (field_name a)) (Some [])) (kinds_alike a b alike)
    ∙ ap (λ name. cond (is_field b) name (Some [])) (texts_alike (field_name a) (field_name b) (fields_alike a b alike))

pub labelled_alike : (a b : Node) → AreAlike a b → are_labelled (child_nodes a) ≡ are_labelled (child_nodes b)
labelled_alike a b alike =
    sym (told (child_nodes a))
    ∙ ap (list_all is_some) (each_alike label_of label_alike (child_nodes a) (child_nodes b) (child_nodes_alike a b alike))
    ∙ told (child_nodes b)
  where
    told : (nodes : List Node) → list_all is_some (map label_of nodes) ≡ are_labelled nodes
    told [] = refl
    told (node ∷ rest) = ap (λ b. is_some (label_of node) && b) (told rest)

-- ** What is arranged by labels.

label_left : (node : Node) → label_of (stripped_node node) ≡ label_of node
label_left node =
    label_alike (stripped_node node) node (ap (λ rest. record node { first = 0; children = rest }) (stripped_below_again node.kind node.children))

like_left : (p c : Node) → have_same_label p (stripped_node c) ≡ have_same_label p c
like_left p c = ap (λ o. option_map_or (λ label. option_map_or (pointwise bytes_eq label) o false) (label_of p) false) (label_left c)

any_left : (p : Node) (cs : List Node) → list_any (have_same_label p) (map stripped_node cs) ≡ list_any (have_same_label p) cs
any_left p [] = refl
any_left p (c ∷ cs) = rw (like_left p c, any_left p cs) refl

any_like : (c : Node) (seen : List Node) → list_any (have_same_label (stripped_node c)) (map stripped_node seen) ≡ list_any (have_same_label c) seen
any_like c seen =
    ap (λ o. list_any (λ b. option_map_or (λ label. has_label label b) o false) (map stripped_node seen)) (label_left c) ∙ any_left c seen

new_left : (seen cs : List Node) → are_new (map stripped_node seen) (map stripped_node cs) ≡ are_new seen cs
new_left seen [] = refl
new_left seen (c ∷ cs) =
    ap (λ b. not b && are_new (map stripped_node seen ++ stripped_node c ∷ []) (map stripped_node cs)) (any_like c seen)
    ∙ ap (λ seen. not any && are_new seen (map stripped_node cs)) (sym (map-append stripped_node seen (c ∷ [])))
    ∙ ap (λ b. not any && b) (new_left (seen ++ c ∷ []) cs)
  where
    any : Bool
    any = list_any (have_same_label c) seen

find_left : (p : Node) (cs : List Node) → find (have_same_label p) (map stripped_node cs) ≡ option_map stripped_node (find (have_same_label p) cs)
find_left p [] = refl
find_left p (c ∷ cs) =
    ap (λ b. cond b (Some (stripped_node c)) (find (have_same_label p) (map stripped_node cs))) (like_left p c)
    ∙ ap (cond (have_same_label p c) (Some (stripped_node c))) (find_left p cs)
    ∙ by (have_same_label p c) (find (have_same_label p) cs)
  where
    by : (b : Bool) (o : Option Node) → cond b (Some (stripped_node c)) (option_map stripped_node o) ≡ option_map stripped_node (cond b (Some c) o)
    by true o = refl
    by false o = refl

all_left : (cs ps : List Node)
    → all_some (map (λ p. find (have_same_label p) (map stripped_node cs)) ps) ≡ option_map (map stripped_node) (all_some (map (λ p. find (have_same_label p) cs) ps))
all_left cs [] = refl
all_left cs (p ∷ ps) =
    ap (λ o. all_some (o ∷ map (λ p. find (have_same_label p) (map stripped_node cs)) ps)) (find_left p cs)
    ∙ by (find (have_same_label p) cs) (all_left cs ps)
  where
    by : (o : Option Node)
        → all_some (map (λ p. find (have_same_label p) (map stripped_node cs)) ps) ≡ option_map (map stripped_node) (all_some (map (λ p. find (have_same_label p) cs) ps))
        → all_some (option_map stripped_node o ∷ map (λ p. find (have_same_label p) (map stripped_node cs)) ps)
        ≡ option_map (map stripped_node) (all_some (o ∷ map (λ p. find (have_same_label p) cs) ps))
    by None later = refl
    by (Some c) later = ap (option_map (λ nodes. stripped_node c ∷ nodes)) later ∙ moved (all_some (map (λ p. find (have_same_label p) cs) ps))
      where
        moved : (o : Option (List Node)) → option_map (λ nodes. stripped_node c ∷ nodes) (option_map (map stripped_node) o)
            ≡ option_map (map stripped_node) (option_map (λ nodes. c ∷ nodes) o)
        moved None = refl
        moved (Some nodes) = refl

arranged_left : (ps cs : List Node) → arranged ps (map stripped_node cs) ≡ option_map (map stripped_node) (arranged ps cs)
arranged_left ps cs =
    ap (λ b. cond (are_different ps && (b && length ps == length (map stripped_node cs))) (all_some (map (λ p. find (have_same_label p) (map stripped_node cs)) ps)) None)
    (new_left [] cs)
    ∙ ap (λ n. cond (are_different ps && (are_different cs && length ps == n)) (all_some (map (λ p. find (have_same_label p) (map stripped_node cs)) ps)) None)
    (length-map cs stripped_node)
    ∙ by (are_different ps && (are_different cs && length ps == length cs))
  where
    by : (b : Bool) → cond b (all_some (map (λ p. find (have_same_label p) (map stripped_node cs)) ps)) None
        ≡ option_map (map stripped_node) (cond b (all_some (map (λ p. find (have_same_label p) cs) ps)) None)
    by true = all_left cs ps
    by false = refl

pub named_alike : (p a b : Node) → AreAlike a b → option_map (map stripped_node) (named_nodes p a) ≡ option_map (map stripped_node) (named_nodes p b)
named_alike p a b alike =
    sym (arranged_left (child_nodes p) (child_nodes a))
    ∙ ap (arranged (child_nodes p)) (child_nodes_alike a b alike)
    ∙ arranged_left (child_nodes p) (child_nodes b)
