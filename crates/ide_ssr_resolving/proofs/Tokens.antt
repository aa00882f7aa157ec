-- The tokens of a tree by their numbers, and what a segment is cut to.
use Rattle.std.proofs.Common.{◌≡◌, ℕ, ◌+◌, ◌-◌, ◌<◌, ◌≤◌, true, false, List, [], ◌∷◌, ◌++◌, All, Bool, Some, append_assoc, map, take, drop, None, refl, sym, ap, ◌∙◌, subst, arith, inl, inr}
use Rattle.std.proofs.lemmas.List.{drop-drop, take_at, take-take}
use Rattle.std.proofs.lemmas.List.Elements.{All-nil, All-cons, All-head, All-tail}
use Rattle.std.proofs.lemmas.Option.{none-some, same_Some}
use Rattle.std.proofs.lemmas.Bool.{cases_Bool, cases_lt, ltb-true}
use Rattle.std.specs.Prelude.{if◌then◌else◌, nat_lt}
use Rattle.std.specs.List.{flat_map, join_by}
use Rattle.ssr_syntax_kinds.specs.declared.kinds.SyntaxKind.TheVariants as k
use Rattle.ssr_syntax_kinds.specs.Kinds.{same_kind}
use Rattle.ssr_syntax_tree.specs.Places.{Node, token_part, node_part, HasNode, HasToken, node_of, token_of, parts_in, parts_of}
use Rattle.ssr_syntax_tree.specs.Syntax.{Token, Forest, nothing, leaf, branch, Syntax, node_count, token_count, tokens_in, tokens_of}
use Rattle.ssr_syntax_tree.proofs.Shared.{IsChild, children_known, length-tokens_in}
use Rattle.ide_ssr_resolving.specs.Keys.{begins_with_colons, pieces}
use Rattle.ide_ssr_resolved_rule.specs.Paths.{first_of_kind, before_arguments, without_arguments}
use Rattle.ide_ssr_resolving.specs.Private.Pieces.{tokens_between}
use Rattle.ide_ssr_resolving.proofs.Children.{before_tokens, before_fewer}
use Rattle.ide_ssr_resolved_rule.proofs.Shared.{take_one, take_two, tokens_left, tokens_known, tokens_of_node}

module _ (s : Syntax) where
  -- ** The tokens of a node.

  -- a whole segment
  pub segment_tokens : (n past : ℕ) → HasNode s n → past ≡ (node_of s n).first + token_count (node_of s n).children
      → tokens_between s (node_of s n).first past ≡ tokens_in (node_of s n).children
  segment_tokens n past has is =
      let node = node_of s n in
      let count : past - node.first ≡ token_count node.children = omega (arith, is) in
      ap (λ k. take k (drop node.first (tokens_of s))) count ∙ tokens_of_node s n has

  -- what of it stands before its arguments
  pub name_tokens : (n past : ℕ) → HasNode s n → past ≡ (node_of s n).first + token_count (before_arguments (node_of s n).children)
      → tokens_between s (node_of s n).first past ≡ tokens_in (before_arguments (node_of s n).children)
  name_tokens n past has is =
      let node = node_of s n in
      let front = before_arguments node.children in
      let count : past - node.first ≡ token_count front = omega (arith, is) in
      let split = before_tokens node.children in
      ap (λ k. take k (drop node.first (tokens_of s))) count
      ∙ sym (take-take (token_count front) (token_count node.children) (drop node.first (tokens_of s)) (before_fewer node.children))
      ∙ ap (take (token_count front)) (tokens_of_node s n has ∙ split.1)
      ∙ take_at (tokens_in front) split.0 (token_count front) (length-tokens_in front)

  -- ** Tokens between two numbers.

  pub between_none : (a b : ℕ) → b ≤ a → tokens_between s a b ≡ []
  between_none a b none = ap (λ k. take k (drop a (tokens_of s))) (let zero : b - a ≡ 0 = omega arith in zero)

  pub between_next : (a b : ℕ) → HasToken s a → a < b → tokens_between s a b ≡ token_of s a ∷ tokens_between s (a + 1) b
  between_next a b has some =
      ap (take (b - a)) (tokens_left s a has)
      ∙ take_one (token_of s a) (drop (a + 1) (tokens_of s)) (b - (a + 1)) (b - a) (omega arith)

  pub between_last : (a b : ℕ) → HasToken s b → a ≤ b → tokens_between s a (b + 1) ≡ tokens_between s a b ++ token_of s b ∷ []
  between_last a b has le =
      let count : b + 1 - a ≡ (b - a) + 1 = omega arith in
      ap (λ k. take k (drop a (tokens_of s))) count
      ∙ take_two (drop a (tokens_of s)) (b - a) 1
      ∙ ap (λ rest. tokens_between s a b ++ take 1 rest) (drop-drop (b - a) a (tokens_of s))
      ∙ ap (λ n. tokens_between s a b ++ take 1 (drop n (tokens_of s))) (let n : a + (b - a) ≡ b = omega arith in n)
      ∙ ap (λ rest. tokens_between s a b ++ take 1 rest) (tokens_left s b has)

  between_both : (a b c : ℕ) → a ≤ b → b ≤ c → tokens_between s a c ≡ tokens_between s a b ++ tokens_between s b c
  between_both a b c le more =
      let count : c - a ≡ (b - a) + (c - b) = omega arith in
      let from : a + (b - a) ≡ b = omega arith in
      ap (λ k. take k (drop a (tokens_of s))) count
      ∙ take_two (drop a (tokens_of s)) (b - a) (c - b)
      ∙ ap (λ rest. tokens_between s a b ++ take (c - b) rest) (drop-drop (b - a) a (tokens_of s))
      ∙ ap (λ n. tokens_between s a b ++ take (c - b) (drop n (tokens_of s))) from

  -- those of siblings
  between_known : (q p m t past : ℕ) (forest : Forest) → All (IsChild s q) (parts_in p m t forest) → past ≡ t + token_count forest
      → tokens_between s t past ≡ tokens_in forest
  between_known q p m t past forest known is =
      let count : past - t ≡ token_count forest = omega (arith, is) in
      ap (λ k. take k (drop t (tokens_of s))) count ∙ tokens_known s q p m t forest known

  -- ** Around the arguments of a path.

  -- where the first segment among siblings is, which end before the number `to`, and their tokens without those of its arguments
  pub record IsAround (t to : ℕ) (without : List Token) (last : Node) : Type 0 where
    pub low : t ≤ last.first
    pub high : last.first + token_count last.children ≤ to
    pub tokens : without
        ≡ tokens_between s t (last.first + token_count (before_arguments last.children)) ++ tokens_between s (last.first + token_count last.children) to

  -- siblings more in front
  in_front : (t u past from to : ℕ) (front rest : List Token) → t ≤ u → u ≤ past → tokens_between s t u ≡ front
      → rest ≡ tokens_between s u past ++ tokens_between s from to → front ++ rest ≡ tokens_between s t past ++ tokens_between s from to
  in_front t u past from to front rest le more front_is rest_is =
      ap (λ front. front ++ rest) (sym front_is)
      ∙ ap (λ rest. tokens_between s t u ++ rest) rest_is
      ∙ sym (append_assoc (tokens_between s t u) (tokens_between s u past) (tokens_between s from to))
      ∙ ap (λ front. front ++ tokens_between s from to) (sym (between_both t u past le more))

  pub around : (q p m t to : ℕ) (forest : Forest) (last : Node) → All (IsChild s q) (parts_in p m t forest) → to ≡ t + token_count forest
      → first_of_kind k.PATH_SEGMENT (parts_in p m t forest) ≡ Some last → IsAround t to (tokens_in (without_arguments forest)) last
  around q p m t to nothing last known to_is is = absurd (none-some last is)
  around q p m t to (leaf token next) last known to_is is =
      let behind = parts_in p m (1 + t) next in
      let on = around q p m (1 + t) to next last (All-tail (IsChild s q) (token_part t token) behind known) (omega (arith, to_is)) is in
      let low = on.low in
      let high = on.high in
      record {
        low = omega arith;
        high = high;
        tokens =
            in_front t (1 + t) (last.first + token_count (before_arguments last.children)) (last.first + token_count last.children) to
            (token ∷ []) (tokens_in (without_arguments next)) (omega arith) (omega arith)
            (between_known q p m t (1 + t) (leaf token nothing)
            (All-cons (IsChild s q) (token_part t token) [] (All-head (IsChild s q) (token_part t token) behind known) (All-nil (IsChild s q))) (omega arith))
            on.tokens;
      }
  around q p m t to (branch kind inner next) last known to_is is =
      by (same_kind kind k.PATH_SEGMENT) (λ is. around q p (1 + m + node_count inner) (t + token_count inner) to next last rest (omega (arith, to_is)) is) is
    where
      child : IsChild s q (node_part (record { number = m; parent = p; first = t; kind = kind; children = inner }))
      child = All-head (IsChild s q) _ (parts_in p (1 + m + node_count inner) (t + token_count inner) next) known

      rest : All (IsChild s q) (parts_in p (1 + m + node_count inner) (t + token_count inner) next)
      rest = All-tail (IsChild s q) _ (parts_in p (1 + m + node_count inner) (t + token_count inner) next) known

      own : All (IsChild s m) (parts_in m (1 + m) t inner)
      own = subst (λ (node : Node). All (IsChild s m) (parts_of node)) child.1 (children_known s m child.0)

      here : IsAround t to (tokens_in (before_arguments inner) ++ tokens_in next) (record { number = m; parent = p; first = t; kind = kind; children = inner })
      here = record {
        low = omega arith;
        high = omega (arith, to_is);
        tokens =
            ap (λ front. front ++ tokens_in next)
            (sym (subst (λ (node : Node). tokens_between s node.first (node.first + token_count (before_arguments node.children)) ≡ tokens_in (before_arguments node.children))
            child.1 (name_tokens m ((node_of s m).first + token_count (before_arguments (node_of s m).children)) child.0 refl)))
            ∙ ap (λ tokens. tokens_between s t (t + token_count (before_arguments inner)) ++ tokens)
            (sym (between_known q p (1 + m + node_count inner) (t + token_count inner) to next rest (omega (arith, to_is))));
      }

      further : IsAround (t + token_count inner) to (tokens_in (without_arguments next)) last → IsAround t to (tokens_in inner ++ tokens_in (without_arguments next)) last
      further on =
          let low = on.low in
          record {
            low = omega arith;
            high = on.high;
            tokens =
                in_front t (t + token_count inner) (last.first + token_count (before_arguments last.children)) (last.first + token_count last.children) to
                (tokens_in inner) (tokens_in (without_arguments next)) (omega arith) (omega arith)
                (between_known m m (1 + m) t (t + token_count inner) inner own refl)
                on.tokens;
          }

      by : (b : Bool)
          → (first_of_kind k.PATH_SEGMENT (parts_in p (1 + m + node_count inner) (t + token_count inner) next) ≡ Some last
          → IsAround (t + token_count inner) to (tokens_in (without_arguments next)) last)
          → (if b then Some (record { number = m; parent = p; first = t; kind = kind; children = inner })
          else first_of_kind k.PATH_SEGMENT (parts_in p (1 + m + node_count inner) (t + token_count inner) next)) ≡ Some last
          → IsAround t to (tokens_in (if b then branch kind (before_arguments inner) next else branch kind inner (without_arguments next))) last
      by true behind is =
          subst (IsAround t to (tokens_in (before_arguments inner) ++ tokens_in next))
          (same_Some (record { number = m; parent = p; first = t; kind = kind; children = inner }) last is) here
      by false behind is = further (behind is)

  -- where there is no segment
  without_none : (p m t : ℕ) (forest : Forest) → first_of_kind k.PATH_SEGMENT (parts_in p m t forest) ≡ None → without_arguments forest ≡ forest
  without_none p m t nothing none = refl
  without_none p m t (leaf token next) none = ap (λ next. leaf token next) (without_none p m (1 + t) next none)
  without_none p m t (branch kind inner next) none =
      by (same_kind kind k.PATH_SEGMENT) (without_none p (1 + m + node_count inner) (t + token_count inner) next) none
    where
      by : (b : Bool)
          → (first_of_kind k.PATH_SEGMENT (parts_in p (1 + m + node_count inner) (t + token_count inner) next) ≡ None → without_arguments next ≡ next)
          → (if b then Some (record { number = m; parent = p; first = t; kind = kind; children = inner })
          else first_of_kind k.PATH_SEGMENT (parts_in p (1 + m + node_count inner) (t + token_count inner) next)) ≡ None
          → (if b then branch kind (before_arguments inner) next else branch kind inner (without_arguments next)) ≡ branch kind inner next
      by true behind none = absurd (none-some (record { number = m; parent = p; first = t; kind = kind; children = inner }) (sym none))
      by false behind none = ap (λ next. branch kind inner next) (behind none)

  -- the tokens of a path without those of its arguments
  pub around_arguments : (n : ℕ) (last : Node) → HasNode s n → first_of_kind k.PATH_SEGMENT (parts_of (node_of s n)) ≡ Some last
      → IsAround (node_of s n).first ((node_of s n).first + token_count (node_of s n).children) (tokens_in (without_arguments (node_of s n).children)) last
  around_arguments n last has is =
      let node = node_of s n in
      around n node.number (1 + node.number) node.first (node.first + token_count node.children) node.children last (children_known s n has) refl is

  pub no_arguments : (n : ℕ) → first_of_kind k.PATH_SEGMENT (parts_of (node_of s n)) ≡ None → without_arguments (node_of s n).children ≡ (node_of s n).children
  no_arguments n none = let node = node_of s n in without_none node.number (1 + node.number) node.first node.children none

  -- ** `::` in front.

  pub colons_at : (a b : ℕ) → HasToken s a → a < b → begins_with_colons (tokens_between s a b) ≡ same_kind (token_of s a).kind k.COLON2
  colons_at a b has some = ap begins_with_colons (between_next a b has some)

  pub colons_some : (a b : ℕ) → begins_with_colons (tokens_between s a b) ≡ true → a < b
  colons_some a b colons =
      elim (cases_lt a b) [
        | inl some ↦ some
        | inr none ↦ absurd (let never : false ≡ true = ap begins_with_colons (sym (between_none a b none)) ∙ colons in cc)
      ]

  pub pieces_plain : (a b : ℕ) → begins_with_colons (tokens_between s a b) ≡ false → pieces (tokens_between s a b) ≡ tokens_between s a b ∷ []
  pieces_plain a b plain =
      let tokens = tokens_between s a b in ap (λ c. if c then [] ∷ drop 1 tokens ∷ [] else tokens ∷ []) plain

  pub pieces_colons : (a b : ℕ) → HasToken s a → begins_with_colons (tokens_between s a b) ≡ true
      → pieces (tokens_between s a b) ≡ tokens_between s a a ∷ tokens_between s (a + 1) b ∷ []
  pieces_colons a b has colons =
      let tokens = tokens_between s a b in
      ap (λ c. if c then [] ∷ drop 1 tokens ∷ [] else tokens ∷ []) colons
      ∙ ap (λ rest. [] ∷ drop 1 rest ∷ []) (between_next a b has (colons_some a b colons))
      ∙ ap (λ none. none ∷ tokens_between s (a + 1) b ∷ []) (sym (between_none a a (omega arith)))

pub nat_lt-false : (a b : ℕ) → b ≤ a → nat_lt a b ≡ false
nat_lt-false a b le =
    elim (cases_Bool (nat_lt a b)) [
      | inl less ↦ absurd (let lt = ltb-true a b less in omega arith)
      | inr other ↦ other
    ]

-- ** Texts.

flat_mapped : {X : Type 0} (f : X → List ℕ) (sep : List ℕ) (xs : List X) → flat_map (λ x. sep ++ f x) xs ≡ flat_map (λ text. sep ++ text) (map f xs)
flat_mapped f sep [] = refl
flat_mapped f sep (x ∷ xs) = ap (λ rest. (sep ++ f x) ++ rest) (flat_mapped f sep xs)

pub joined : {X : Type 0} (f : X → List ℕ) (sep : List ℕ) (xs : List X) → join_by f sep xs ≡ join_by (λ text. text) sep (map f xs)
joined f sep [] = refl
joined f sep (x ∷ xs) = ap (λ rest. f x ++ rest) (flat_mapped f sep xs)
