-- The solid children of a node, one after the other.
use Rattle.std.proofs.Common.{◌≡◌, ℕ, ◌+◌, ◌<◌, Bool, true, false, if◌then◌else◌, List, [], ◌∷◌, ◌++◌, All, length, map, refl, sym, ap, subst, ◌∙◌, arith, append_assoc, append-nil}
use Rattle.std.specs.Prelude.{⊤}
use Rattle.std.proofs.lemmas.List.{map-append}
use Rattle.std.proofs.lemmas.List.Elements.{All-nil, All-cons, All-append, All-head, All-tail, All-rest}
use Rattle.ssr_syntax_kinds.specs.Kinds.{is_trivia}
use Rattle.ssr_syntax_tree.specs.declared.number.Element.{Element}
use Rattle.ssr_syntax_tree.specs.Syntax as plain
use Rattle.ssr_syntax_tree.specs.Syntax.{Syntax, node_count, token_count}
use Rattle.ssr_syntax_tree.specs.Places.{Node, Part, token_part, node_part, HasElement, HasNode, node_of, part_of, parts_in, parts_of, elements_of, size_of}
use Rattle.ssr_syntax_tree.proofs.Shared.{IsChild, children_known, elements_had, parts_of-elements_of, node_of-number, smaller}
use Rattle.ssr_syntax_forms.specs.Trees.{Forest, done, leaf, tree, spell}
use Rattle.ssr_syntax_places.specs.PlainCore.{forest_in, size_of_kind, tokens_like}
use Rattle.ssr_syntax_places.proofs.Shared.{forest_size}
use Rattle.ssr_syntax_shorts.specs.Names.{place_of}
use Rattle.ssr_syntax_shorts.specs.declared.shapes.Shape.{Shape}
use Rattle.ssr_syntax_shorts.specs.declared.shapes.Shape.TheVariants as shape
use Rattle.ssr_syntax_shorts.specs.Private.Shapes.{elements_in, solid_parts, AreSolid}
use Rattle.ssr_syntax_shorts.proofs.Places.{Lies, like_length, node_lies, lies_leaf, lies_next, place_leaf, place_next}

-- ** What is known of them.

-- the siblings as a forest
abbrev pub forest_of : List Part → Forest
forest_of [] = done
forest_of (token_part t token ∷ parts) = leaf token.kind (tokens_like token.kind) (forest_of parts)
forest_of (node_part node ∷ parts) = tree node.kind (forest_in node.children) (forest_of parts)

-- each stands where those in front of it end
abbrev pub AreBehind : Syntax → ℕ → List Part → Type 0
AreBehind s at [] = ⊤
AreBehind s at (token_part t token ∷ parts) = (place_of s t ≡ at) × AreBehind s (at + length (tokens_like token.kind)) parts
AreBehind s at (node_part node ∷ parts) = (place_of s node.first ≡ at) × AreBehind s (at + length (spell (forest_in node.children))) parts

pub record Laid (s : Syntax) (n : ℕ) (parts : List Part) : Type 0 where
  pub forest : forest_in (node_of s n).children ≡ forest_of parts
  pub behind : AreBehind s (place_of s (node_of s n).first) parts
  pub children : All (IsChild s n) parts

forest_is : (p m t : ℕ) (z : plain.Forest) → forest_in z ≡ forest_of (solid_parts (parts_in p m t z))
forest_is p m t plain.nothing = refl
forest_is p m t (plain.leaf token next) =
    by_kind (is_trivia token.kind) (parts_in p m (1 + t) next) (forest_is p m (1 + t) next) where
      by_kind : (b : Bool) (parts : List Part) → forest_in next ≡ forest_of (solid_parts parts)
          → (if b then forest_in next else leaf token.kind (tokens_like token.kind) (forest_in next))
          ≡ forest_of (if b then solid_parts parts else token_part t token ∷ solid_parts parts)
      by_kind true parts e = e
      by_kind false parts e = ap (leaf token.kind (tokens_like token.kind)) e
forest_is p m t (plain.branch kind below next) =
    ap (tree kind (forest_in below)) (forest_is p (1 + m + node_count below) (t + token_count below) next)

are_behind : (s : Syntax) (p m t : ℕ) (z : plain.Forest) → Lies s t z → AreBehind s (place_of s t) (solid_parts (parts_in p m t z))
are_behind s p m t plain.nothing lies = tt
are_behind s p m t (plain.leaf token next) lies =
    by_kind (is_trivia token.kind) (are_behind s p m (1 + t) next (lies_leaf s t token next lies)) (place_leaf s t token next lies) where
      by_kind : (b : Bool) → AreBehind s (place_of s (1 + t)) (solid_parts (parts_in p m (1 + t) next))
          → place_of s (1 + t) ≡ place_of s t + ((if b then 0 else size_of_kind token.kind) + 0)
          → AreBehind s (place_of s t)
          (if b then solid_parts (parts_in p m (1 + t) next) else token_part t token ∷ solid_parts (parts_in p m (1 + t) next))
      by_kind true rest e =
          subst (λ n. AreBehind s n (solid_parts (parts_in p m (1 + t) next))) (let same : place_of s (1 + t) ≡ place_of s t = omega (arith, e) in same) rest
      by_kind false rest e = (
        refl,
        subst (λ n. AreBehind s n (solid_parts (parts_in p m (1 + t) next)))
            (let same : place_of s (1 + t) ≡ place_of s t + length (tokens_like token.kind) = omega (arith, e, like_length token.kind) in same) rest,
      )
are_behind s p m t (plain.branch kind below next) lies = (
  refl,
  subst (λ n. AreBehind s n (solid_parts (parts_in p (1 + m + node_count below) (t + token_count below) next)))
      (place_next s t kind below next lies ∙ ap (λ n. place_of s t + n) (sym (forest_size below)))
      (are_behind s p (1 + m + node_count below) (t + token_count below) next (lies_next s t kind below next lies)),
)

solid_all : (P : Part → Type 0) (parts : List Part) → All P parts → All P (solid_parts parts)
solid_all P [] all = all
solid_all P (token_part t token ∷ parts) all =
    by_kind (is_trivia token.kind) (solid_all P parts (All-tail P (token_part t token) parts all)) where
      by_kind : (b : Bool) → All P (solid_parts parts) → All P (if b then solid_parts parts else token_part t token ∷ solid_parts parts)
      by_kind true rest = rest
      by_kind false rest = All-cons P (token_part t token) (solid_parts parts) (All-head P (token_part t token) parts all) rest
solid_all P (node_part node ∷ parts) all =
    All-cons P (node_part node) (solid_parts parts) (All-head P (node_part node) parts all) (solid_all P parts (All-tail P (node_part node) parts all))

pub laid_node : (s : Syntax) (n : ℕ) → HasNode s n → Laid s n (solid_parts (parts_of (node_of s n)))
laid_node s n has =
    let node : Node = node_of s n in
    record {
      forest = forest_is node.number (1 + node.number) node.first node.children;
      behind = are_behind s node.number (1 + node.number) node.first node.children (node_lies s n has);
      children = solid_all (IsChild s n) (parts_of node) (children_known s n has);
    }

pub laid : (s : Syntax) (n : ℕ) (elements : List Element) → HasNode s n → AreSolid s n elements → Laid s n (map (part_of s) elements)
laid s n elements has solid = subst (Laid s n) (sym solid.parts) (laid_node s n has)

-- fewer nodes are below a child
pub child_smaller : (s : Syntax) (n m : ℕ) → HasNode s n → HasNode s m → IsChild s n (node_part (node_of s m)) → size_of (node_of s m) < size_of (node_of s n)
child_smaller s n m has there is =
    let number = node_of-number s m there in
    let lt = smaller s n (node_of s m).number has is.3 in
    let same : size_of (node_of s (node_of s m).number) ≡ size_of (node_of s m) = ap (λ k. size_of (node_of s k)) number in
    omega arith

-- ** How they are found.

pub record IsShaping (s : Syntax) (n : ℕ) (so_far : Shape) (left : List Element) : Type 0 where
  pub parts : map (part_of s) (elements_in so_far) ++ solid_parts (map (part_of s) left) ≡ solid_parts (parts_of (node_of s n))
  pub had : All (HasElement s) (elements_in so_far)
  pub to_come : All (HasElement s) left

pub shaping_starts : (s : Syntax) (n : ℕ) (left : List Element) → HasNode s n → left ≡ elements_of (node_of s n) → IsShaping s n shape.Empty left
shaping_starts s n left has are = record {
  parts = ap (λ es. solid_parts (map (part_of s) es)) are ∙ ap solid_parts (parts_of-elements_of s n has);
  had = All-nil (HasElement s);
  to_come = subst (All (HasElement s)) (sym are) (elements_had s n has);
}

pub shaping_first : (s : Syntax) (n : ℕ) (so_far : Shape) (left behind : List Element) (child : Element) → IsShaping s n so_far left → left ≡ child ∷ behind
    → HasElement s child
shaping_first s n so_far left behind child is steps = All-head (HasElement s) child behind (subst (All (HasElement s)) steps is.to_come)

-- a child that is passed over, or not
pub solid_step : (part : Part) (parts : List Part) → solid_parts (part ∷ parts) ≡ solid_parts (part ∷ []) ++ solid_parts parts
solid_step (token_part t token) parts = by_kind (is_trivia token.kind) where
  by_kind : (b : Bool) → (if b then solid_parts parts else token_part t token ∷ solid_parts parts)
      ≡ (if b then [] else token_part t token ∷ []) ++ solid_parts parts
  by_kind true = refl
  by_kind false = refl
solid_step (node_part node) parts = refl

pub shaping_passes : (s : Syntax) (n : ℕ) (so_far : Shape) (left behind : List Element) (child : Element) → IsShaping s n so_far left → left ≡ child ∷ behind
    → solid_parts (part_of s child ∷ []) ≡ [] → IsShaping s n so_far behind
shaping_passes s n so_far left behind child is steps none = record {
  parts = ap (λ ps. map (part_of s) (elements_in so_far) ++ ps)
      (sym (ap (λ es. solid_parts (map (part_of s) es)) steps ∙ solid_step (part_of s child) (map (part_of s) behind)
      ∙ ap (λ ps. ps ++ solid_parts (map (part_of s) behind)) none))
      ∙ is.parts;
  had = is.had;
  to_come = All-rest (HasElement s) child behind left steps is.to_come;
}

pub shaping_goes_on : (s : Syntax) (n : ℕ) (so_far longer : Shape) (left behind : List Element) (child : Element) → IsShaping s n so_far left → left ≡ child ∷ behind
    → solid_parts (part_of s child ∷ []) ≡ part_of s child ∷ [] → elements_in longer ≡ elements_in so_far ++ child ∷ [] → IsShaping s n longer behind
shaping_goes_on s n so_far longer left behind child is steps one more =
    let rest : List Part = solid_parts (map (part_of s) behind) in
    record {
      parts = ap (λ es. map (part_of s) es ++ rest) more
          ∙ ap (λ ps. ps ++ rest) (map-append (part_of s) (elements_in so_far) (child ∷ []))
          ∙ append_assoc (map (part_of s) (elements_in so_far)) (part_of s child ∷ []) rest
          ∙ ap (λ ps. map (part_of s) (elements_in so_far) ++ ps)
          (sym (ap (λ es. solid_parts (map (part_of s) es)) steps ∙ solid_step (part_of s child) (map (part_of s) behind)
          ∙ ap (λ ps. ps ++ rest) one))
          ∙ is.parts;
      had = subst (All (HasElement s)) (sym more)
          (All-append (HasElement s) (elements_in so_far) (child ∷ []) is.had
          (All-cons (HasElement s) child [] (shaping_first s n so_far left behind child is steps) (All-nil (HasElement s))));
      to_come = All-rest (HasElement s) child behind left steps is.to_come;
    }

pub shaping_ends : (s : Syntax) (n : ℕ) (so_far : Shape) (left : List Element) → IsShaping s n so_far left → left ≡ [] → AreSolid s n (elements_in so_far)
shaping_ends s n so_far left is none = record {
  parts = sym (append-nil (map (part_of s) (elements_in so_far)))
      ∙ ap (λ es. map (part_of s) (elements_in so_far) ++ solid_parts (map (part_of s) es)) (sym none) ∙ is.parts;
  had = is.had;
}
