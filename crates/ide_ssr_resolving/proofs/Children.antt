-- What is found among the children of a node, one after the other.
use Rattle.std.proofs.Common.{◌≡◌, ℕ, ◌+◌, ◌*◌, ◌<◌, ◌≤◌, Bool, true, false, List, [], ◌∷◌, ◌++◌, map, All, Some, None, refl, sym, ap, ◌∙◌, subst, arith, append_assoc}
use Rattle.std.proofs.lemmas.List.Elements.{All-head, All-tail}
use Rattle.std.specs.Prelude.{if◌then◌else◌}
use Rattle.std.specs.Option.{option_map_or}
use Rattle.ssr_syntax_kinds.specs.declared.kinds.SyntaxKind.{SyntaxKind}
use Rattle.ssr_syntax_kinds.specs.declared.kinds.SyntaxKind.TheVariants as k
use Rattle.ssr_syntax_kinds.specs.Kinds.{same_kind}
use Rattle.ssr_syntax_tree.specs.declared.number.Element.{Element}
use Rattle.ssr_syntax_tree.specs.declared.number.Element.TheVariants as element
use Rattle.ssr_syntax_tree.specs.declared.number.NodeNo.{NodeNo}
use Rattle.ssr_syntax_tree.specs.Places.{Node, Part, HasNode, HasElement, node_of, size_of, part_of, parts_in, parts_of, elements_of}
use Rattle.ssr_syntax_tree.specs.Syntax.{Token, Forest, nothing, leaf, branch, Syntax, node_count, token_count, tokens_in}
use Rattle.ssr_syntax_tree.proofs.Shared.{IsChild, children_known, elements_had, parts_of-elements_of, node_of-number, smaller}
use Rattle.ide_ssr_resolved_rule.specs.Paths.{segments, is_arguments, before_arguments}
use Rattle.ide_ssr_resolving.specs.Private.Parts.{below, segments_at, start_at}

-- the segments at the children of a path
abbrev segments_among : List Part → List Forest
segments_among [] = []
segments_among (part ∷ rest) = segments_at part ++ segments_among rest

-- where the arguments of a segment begin; `past`, where there are none
abbrev pub start_among : ℕ → List Part → ℕ
start_among past [] = past
start_among past (part ∷ rest) = option_map_or (λ start. start) (start_at part) (start_among past rest)

-- ** The segments of a path.

segments_parts : (p m t : ℕ) (forest : Forest) → segments_among (parts_in p m t forest) ≡ segments forest
segments_parts p m t nothing = refl
segments_parts p m t (leaf token next) = segments_parts p m (1 + t) next
segments_parts p m t (branch kind inner next) =
    ap (λ rest. (if same_kind kind k.PATH then segments inner else if same_kind kind k.PATH_SEGMENT then inner ∷ [] else []) ++ rest)
    (segments_parts p (1 + m + node_count inner) (t + token_count inner) next)

pub segments_children : (node : Node) → segments_among (parts_of node) ≡ segments node.children
segments_children node = segments_parts node.number (1 + node.number) node.first node.children

-- the segments that were found, where these children are left
pub record FoundSoFar (s : Syntax) (n : ℕ) (whole : List Forest) (found : List NodeNo) (left : List Element) : Type 0 where
  pub so_far : map (below s) found ++ segments_among (map (part_of s) left) ≡ whole
  pub had : All (HasElement s) left
  pub children : All (IsChild s n) (map (part_of s) left)
  pub has : All (λ (segment : NodeNo). HasNode s segment.0) found

module _ (s : Syntax) (n : ℕ) (whole : List Forest) where
  pub found_starts : (found : List NodeNo) (left : List Element) → HasNode s n → left ≡ elements_of (node_of s n) → All (λ (segment : NodeNo). HasNode s segment.0) found
      → map (below s) found ++ segments (node_of s n).children ≡ whole → FoundSoFar s n whole found left
  found_starts found left node are has is = record {
    so_far = ap (λ es. map (below s) found ++ segments_among (map (part_of s) es)) are
        ∙ ap (λ parts. map (below s) found ++ segments_among parts) (parts_of-elements_of s n node)
        ∙ ap (λ segments. map (below s) found ++ segments) (segments_children (node_of s n)) ∙ is;
    had = subst (All (HasElement s)) (sym are) (elements_had s n node);
    children = subst (All (IsChild s n)) (sym (ap (map (part_of s)) are ∙ parts_of-elements_of s n node)) (children_known s n node);
    has = has;
  }

  pub found_turns : (found new : List NodeNo) (left behind : List Element) (child : Element) → FoundSoFar s n whole found left → left ≡ child ∷ behind
      → map (below s) new ≡ map (below s) found ++ segments_at (part_of s child) → All (λ (segment : NodeNo). HasNode s segment.0) new → FoundSoFar s n whole new behind
  found_turns found new left behind child so_far steps added has =
      let rest = segments_among (map (part_of s) behind) in
      record {
        so_far = ap (λ front. front ++ rest) added
            ∙ append_assoc (map (below s) found) (segments_at (part_of s child)) rest
            ∙ ap (λ es. map (below s) found ++ segments_among (map (part_of s) es)) (sym steps) ∙ so_far.so_far;
        had = All-tail (HasElement s) child behind (subst (All (HasElement s)) steps so_far.had);
        children = All-tail (IsChild s n) (part_of s child) (map (part_of s) behind) (subst (λ es. All (IsChild s n) (map (part_of s) es)) steps so_far.children);
        has = has;
      }

  pub first_child_of : (found : List NodeNo) (left behind : List Element) (child : Element) → FoundSoFar s n whole found left → left ≡ child ∷ behind
      → HasElement s child × IsChild s n (part_of s child)
  first_child_of found left behind child so_far steps = (
    All-head (HasElement s) child behind (subst (All (HasElement s)) steps so_far.had),
    All-head (IsChild s n) (part_of s child) (map (part_of s) behind) (subst (λ es. All (IsChild s n) (map (part_of s) es)) steps so_far.children),
  )

-- how much is below an element, where more is below its node
abbrev pub element_size : Syntax → Element → ℕ
element_size s (element.Node n) = 1 + 2 * size_of (node_of s n.0)
element_size s (element.Token t) = 0

pub element_smaller : (s : Syntax) (n : ℕ) (child : Element) → HasNode s n → HasElement s child → IsChild s n (part_of s child) → element_size s child < 2 * size_of (node_of s n)
element_smaller s n (element.Node m) has there is =
    let number = node_of-number s m.0 there in
    let lt = smaller s n (node_of s m.0).number has is.3 in
    let same : size_of (node_of s (node_of s m.0).number) ≡ size_of (node_of s m.0) = ap (λ k. size_of (node_of s k)) number in
    omega arith
element_smaller s n (element.Token t) has there is = omega arith

-- ** Where arguments begin.

start_by : (b : Bool) (t inner next rest : ℕ) → rest ≡ t + inner + next
    → option_map_or (λ start. start) (if b then Some t else None) rest ≡ t + (if b then 0 else inner + next)
start_by true t inner next rest is = omega arith
start_by false t inner next rest is = omega (arith, is)

count_by : (b : Bool) (kind : SyntaxKind) (inner next : Forest)
    → (if b then 0 else token_count inner + token_count next) ≡ token_count (if b then nothing else branch kind inner next)
count_by true kind inner next = refl
count_by false kind inner next = refl

start_parts : (p m t past : ℕ) (forest : Forest) → past ≡ t + token_count forest → start_among past (parts_in p m t forest) ≡ t + token_count (before_arguments forest)
start_parts p m t past nothing is = is
start_parts p m t past (leaf token next) is = omega (arith, start_parts p m (1 + t) past next (omega (arith, is)))
start_parts p m t past (branch kind inner next) is =
    let rest = start_among past (parts_in p (1 + m + node_count inner) (t + token_count inner) next) in
    start_by (is_arguments kind) t (token_count inner) (token_count (before_arguments next)) rest
    (start_parts p (1 + m + node_count inner) (t + token_count inner) past next (omega (arith, is)))
    ∙ ap (λ count. t + count) (count_by (is_arguments kind) kind inner (before_arguments next))

pub start_children : (node : Node) (past : ℕ) → past ≡ node.first + token_count node.children
    → start_among past (parts_of node) ≡ node.first + token_count (before_arguments node.children)
start_children node past is = start_parts node.number (1 + node.number) node.first past node.children is

pub start_there : (s : Syntax) (child : Element) (n : NodeNo) → child ≡ element.Node n → is_arguments (node_of s n.0).kind ≡ true
    → Some (node_of s n.0).first ≡ start_at (part_of s child)
start_there s child n is same =
    sym (ap (λ b. if b then Some (node_of s n.0).first else None) same)
    ∙ ap (λ e. start_at (part_of s e)) (sym is)

pub start_other : (s : Syntax) (child : Element) (n : NodeNo) → child ≡ element.Node n → is_arguments (node_of s n.0).kind ≡ false
    → None ≡ start_at (part_of s child)
start_other s child n is other =
    sym (ap (λ b. if b then Some (node_of s n.0).first else None) other)
    ∙ ap (λ e. start_at (part_of s e)) (sym is)

-- what stands before the arguments are the first tokens of a segment
abbrev IsFront : List Token → Forest → Type 0
IsFront tokens front = (rest : List Token) × (tokens ≡ tokens_in front ++ rest)

front_by : (b : Bool) (kind : SyntaxKind) (inner next front : Forest) → IsFront (tokens_in next) front
    → IsFront (tokens_in inner ++ tokens_in next) (if b then nothing else branch kind inner front)
front_by true kind inner next front on = (tokens_in inner ++ tokens_in next, refl)
front_by false kind inner next front on =
    (on.0, ap (λ tokens. tokens_in inner ++ tokens) on.1 ∙ sym (append_assoc (tokens_in inner) (tokens_in front) on.0))

pub before_tokens : (forest : Forest) → (rest : List Token) × (tokens_in forest ≡ tokens_in (before_arguments forest) ++ rest)
before_tokens nothing = ([], refl)
before_tokens (leaf token next) = let on = before_tokens next in (on.0, ap (λ tokens. token ∷ tokens) on.1)
before_tokens (branch kind inner next) = front_by (is_arguments kind) kind inner next (before_arguments next) (before_tokens next)

fewer_by : (b : Bool) (kind : SyntaxKind) (inner next front : Forest) → token_count front ≤ token_count next
    → token_count (if b then nothing else branch kind inner front) ≤ token_count inner + token_count next
fewer_by true kind inner next front on = omega arith
fewer_by false kind inner next front on = omega (arith, on)

pub before_fewer : (forest : Forest) → token_count (before_arguments forest) ≤ token_count forest
before_fewer nothing = omega arith
before_fewer (leaf token next) = omega (arith, before_fewer next)
before_fewer (branch kind inner next) = fewer_by (is_arguments kind) kind inner next (before_arguments next) (before_fewer next)
