-- The nodes of a tree one by one, and what stands in them alone.
use Rattle.std.proofs.Common.{append-nil, ◌≡◌, ℕ, ◌+◌, ◌<◌, ◌≤◌, List, [], ◌∷◌, ◌++◌, map, length, take, get_or, Option, Some, None, slice_get, refl, ap, ◌∙◌, sym, arith}
use Rattle.std.proofs.lemmas.Option.{unwrap_or-slice_get}
use Rattle.std.specs.Option.{IfSome, IsSomeAnd}
use Rattle.std.proofs.lemmas.List.{take_all, length-map, get_or-map, map_more}
use Rattle.ssr_syntax_kinds.specs.declared.kinds.SyntaxKind.TheVariants as k
use Rattle.ide_ssr_resolved_rule.specs.StandIns.{name_at}
use Rattle.ssr_syntax_tree.specs.Places.{Node, Part, node_part, token_part, parts_in, parts_of, elements_of, element_of, nodes_of, node_of, root_of, HasNode, HasToken, token_of}
use Rattle.ssr_syntax_tree.specs.Syntax.{Token, Forest, nothing, leaf, branch, Syntax, node_count, token_count, tokens_in, tokens_of}
use Rattle.ssr_syntax_tree.proofs.Shared.{length-nodes_of, length-tokens_in, node_is}
use Rattle.ide_ssr_resolved_rule.specs.Placeholders.{only_token, placeholder_at, token_placeholders}
use Rattle.ide_ssr_resolved_rule.specs.Private.Placeholders.{placeholders}

-- ** Nodes by their numbers.
pub table_next : (names : List (List ℕ)) (s : Syntax) (n : ℕ) (old new : List (Option ℕ)) (found : Option ℕ) → HasNode s n → found ≡ placeholder_at names (node_of s n)
    → old ≡ map (placeholder_at names) (take n (nodes_of s)) → new ≡ old ++ found ∷ [] → new ≡ map (placeholder_at names) (take (n + 1) (nodes_of s))
table_next names s n old new found has is so_far pushed =
    pushed ∙ ap (λ t. t ++ found ∷ []) so_far
    ∙ ap (λ o. map (placeholder_at names) (take n (nodes_of s)) ++ o ∷ []) (is ∙ ap (placeholder_at names) (node_is s n has))
    ∙ sym (map_more (placeholder_at names) (nodes_of s) n (root_of s) (omega (arith, has, length-nodes_of s)))

pub table_all : (names : List (List ℕ)) (s : Syntax) (n : ℕ) (table : List (Option ℕ)) → 1 + node_count s.children ≤ n
    → table ≡ map (placeholder_at names) (take n (nodes_of s)) → table ≡ placeholders names s
table_all names s n table all so_far = so_far ∙ ap (map (placeholder_at names)) (take_all n (nodes_of s) (omega (arith, length-nodes_of s)))

pub table_long : (names : List (List ℕ)) (s : Syntax) (table : List (Option ℕ)) (n : ℕ) → table ≡ placeholders names s → HasNode s n → n < length table
table_long names s table n is has = omega (arith, has, ap length is, length-map (nodes_of s) (placeholder_at names), length-nodes_of s)

pub table_at : (names : List (List ℕ)) (s : Syntax) (table : List (Option ℕ)) (n : ℕ) (found : Option ℕ) → table ≡ placeholders names s → HasNode s n → found ≡ get_or table n found
    → found ≡ placeholder_at names (node_of s n)
table_at names s table n found is has at =
    at ∙ ap (λ t. get_or t n found) is
    ∙ get_or-map (placeholder_at names) (nodes_of s) n (root_of s) found (omega (arith, has, length-nodes_of s))
    ∙ ap (placeholder_at names) (sym (node_is s n has))

-- ** Tokens by their numbers.

abbrev pub no_token : Token
no_token = record { kind = k.WHITESPACE; text = [] }

pub token_is : (s : Syntax) (n : ℕ) → token_of s n ≡ get_or (tokens_of s) n no_token
unfolding token_of
token_is s n = unwrap_or-slice_get (tokens_of s) n no_token

pub tokens_next : (names : List (List ℕ)) (s : Syntax) (n : ℕ) (old new : List (Option ℕ)) (found : Option ℕ) → HasToken s n → found ≡ name_at names (token_of s n)
    → old ≡ map (name_at names) (take n (tokens_of s)) → new ≡ old ++ found ∷ [] → new ≡ map (name_at names) (take (n + 1) (tokens_of s))
tokens_next names s n old new found has is so_far pushed =
    pushed ∙ ap (λ t. t ++ found ∷ []) so_far
    ∙ ap (λ o. map (name_at names) (take n (tokens_of s)) ++ o ∷ []) (is ∙ ap (name_at names) (token_is s n))
    ∙ sym (map_more (name_at names) (tokens_of s) n (record { kind = k.WHITESPACE; text = [] }) (omega (arith, has, length-tokens_in s.children)))

pub tokens_all : (names : List (List ℕ)) (s : Syntax) (n : ℕ) (table : List (Option ℕ)) → token_count s.children ≤ n
    → table ≡ map (name_at names) (take n (tokens_of s)) → table ≡ token_placeholders names s
tokens_all names s n table all so_far = so_far ∙ ap (map (name_at names)) (take_all n (tokens_of s) (omega (arith, all, length-tokens_in s.children)))

-- the table of a tree, where there is one
module _ (names : List (List ℕ)) (table : List (Option ℕ)) (n : ℕ) where
  pub in_table : (template : Option Syntax) → IfSome template (λ tree. table ≡ token_placeholders names tree) → IsSomeAnd template (λ tree. HasToken tree n)
      → n < length table
  in_table None is has = absurd has
  in_table (Some tree) is has = omega (arith, has, ap length is, length-map (tokens_of tree) (name_at names), length-tokens_in tree.children)

  pub at_table : (template : Option Syntax) (found : Option ℕ) → IfSome template (λ tree. table ≡ token_placeholders names tree) → IsSomeAnd template (λ tree. HasToken tree n)
      → found ≡ get_or table n found → IfSome template (λ tree. found ≡ name_at names (token_of tree n))
  at_table None found is has at = tt
  at_table (Some tree) found is has at =
      at ∙ ap (λ t. get_or t n found) is
      ∙ get_or-map (name_at names) (tokens_of tree) n no_token found (omega (arith, has, length-tokens_in tree.children))
      ∙ ap (name_at names) (sym (token_is tree n))

-- ** Single children.
pub record IsOnly (forest : Forest) (node : Node) : Type 0 where
  pub same : only_token forest ≡ only_token node.children
  pub smaller : node_count node.children < node_count forest

node_of_part : Part → Forest
node_of_part (node_part node) = node.children
node_of_part (token_part t token) = nothing

single_node : (p m t : ℕ) (forest : Forest) (node : Node) → length (parts_in p m t forest) ≡ 1 → slice_get (parts_in p m t forest) 0 ≡ Some (node_part node) → IsOnly forest node
unfolding node_of_part
single_node p m t nothing node one is = absurd (omega (arith, one))
single_node p m t (leaf token next) node one is = absurd cc
single_node p m t (branch kind below nothing) node one is =
    let same : node_part (record { number = m; parent = p; first = t; kind = kind; children = below }) ≡ node_part node = cc in
    let children : below ≡ node.children = ap node_of_part same in
    record { same = ap only_token children; smaller = omega (arith, ap node_count children) }
single_node p m t (branch kind below (leaf token next)) node one is = absurd (omega (arith, one))
single_node p m t (branch kind below (branch other inner next)) node one is = absurd (omega (arith, one))

token_of_part : Part → Option Token
token_of_part (node_part node) = None
token_of_part (token_part t token) = Some token

single_token : (p m t : ℕ) (forest : Forest) (n : ℕ) (token : Token) → length (parts_in p m t forest) ≡ 1 → slice_get (parts_in p m t forest) 0 ≡ Some (token_part n token) → only_token forest ≡ Some token
unfolding token_of_part
single_token p m t nothing n token one is = absurd (omega (arith, one))
single_token p m t (leaf other nothing) n token one is =
    let same : token_part t other ≡ token_part n token = cc in ap token_of_part same
single_token p m t (leaf other (leaf more next)) n token one is = absurd (omega (arith, one))
single_token p m t (leaf other (branch kind below next)) n token one is = absurd (omega (arith, one))
single_token p m t (branch kind below next) n token one is = absurd cc

not_single : (p m t : ℕ) (forest : Forest) → (length (parts_in p m t forest) ≡ 1 → ⊥) → only_token forest ≡ None
not_single p m t nothing several = refl
not_single p m t (leaf token nothing) several = absurd (several refl)
not_single p m t (leaf token (leaf more next)) several = refl
not_single p m t (leaf token (branch kind below next)) several = refl
not_single p m t (branch kind below nothing) several = absurd (several refl)
not_single p m t (branch kind below (leaf token next)) several = refl
not_single p m t (branch kind below (branch other inner next)) several = refl

pub only_node : (node below : Node) → length (elements_of node) ≡ 1 → slice_get (parts_of node) 0 ≡ Some (node_part below) → IsOnly node.children below
only_node node below one is =
    single_node node.number (1 + node.number) node.first node.children below (sym (length-map (parts_of node) element_of) ∙ one) is

pub only_leaf : (node : Node) (n : ℕ) (token : Token) → length (elements_of node) ≡ 1 → slice_get (parts_of node) 0 ≡ Some (token_part n token) → only_token node.children ≡ Some token
only_leaf node n token one is =
    single_token node.number (1 + node.number) node.first node.children n token (sym (length-map (parts_of node) element_of) ∙ one) is

pub several : (node : Node) → (length (elements_of node) ≡ 1 → ⊥) → only_token node.children ≡ None
several node more =
    not_single node.number (1 + node.number) node.first node.children (λ one. more (length-map (parts_of node) element_of ∙ one))

-- what is the only token is all that is read
pub only_one : (below : Forest) (token : Token) → only_token below ≡ Some token → tokens_in below ≡ token ∷ []
only_one nothing token h = cc
only_one (leaf t nothing) token h = cc
only_one (leaf t (leaf u next)) token h = cc
only_one (leaf t (branch kind below next)) token h = cc
only_one (branch kind below nothing) token h = append-nil (tokens_in below) ∙ only_one below token h
only_one (branch kind below (leaf u next)) token h = cc
only_one (branch kind below (branch k b next)) token h = cc
