-- Laws of what covers origins: of a node's tokens it is joined from what covers those of its children.
use Rattle.std.proofs.Common.{◌≡◌, ℕ, zero, suc, ◌+◌, ◌<◌, min, max, List, [], ◌∷◌, ◌++◌, All, length, map, take, drop, set, get_or, slice_get, Option, Some, None, refl, sym, ap, ◌∙◌, subst, inl, inr, arith}
use Rattle.std.proofs.Math.Seq.{take-add}
use Rattle.std.proofs.lemmas.Bool.{cases_eq}
use Rattle.std.proofs.lemmas.List.{drop-drop, drop_more}
use Rattle.std.proofs.lemmas.List.Elements.{All-head, All-tail, All-weaker, All-map}
use Rattle.std.proofs.lemmas.Option.{slice_get-map, slice_get-get_or, slice_get_within, same_Some}
use Rattle.std.specs.Option.{option_map}
use Rattle.ssr_syntax_kinds.specs.declared.range.TextRange.{TextRange}
use Rattle.ssr_syntax_tree.specs.declared.number.Element.{Element}
use Rattle.ssr_syntax_tree.specs.declared.number.Element.TheVariants as element
use Rattle.ssr_syntax_tree.specs.Syntax.{Forest, nothing, leaf, branch, Syntax, token_count, node_count}
use Rattle.ssr_syntax_tree.specs.Places.{Part, token_part, node_part, parts_in, parts_of, part_of, element_of, elements_of, node_of, HasNode, HasToken}
use Rattle.ssr_syntax_tree.proofs.Shared.{IsChild, children_known, parts_of-elements_of, node_of-number}
use Rattle.ssr_base_trees.specs.declared.covers.Cover.{Cover as Stored}
use Rattle.ssr_base_trees.specs.Origins.{Span, Cover, no_token, no_origin, covers, join, cover_of_one, cover_of, plain_cover, plain_origin}
use Rattle.ssr_base_trees.specs.Private.Covers.{CoversFrom}
use Rattle.ssr_base_trees.specs.Workspace.{cover_below}

pub join-assoc : (a b c : Cover) → join (join a b) c ≡ join a (join b c)
join-assoc no_token b c = refl
join-assoc no_origin b c = refl
join-assoc (covers a) no_token c = refl
join-assoc (covers a) no_origin c = refl
join-assoc (covers a) (covers b) no_token = refl
join-assoc (covers a) (covers b) no_origin = refl
join-assoc (covers a) (covers b) (covers c) =
    let starts : min (min a.start b.start) c.start ≡ min a.start (min b.start c.start) = omega arith in
    let ends : max (max a.end b.end) c.end ≡ max a.end (max b.end c.end) = omega arith in
    ap (λ start. covers (record { start = start; end = max (max a.end b.end) c.end })) starts
    ∙ ap (λ end. covers (record { start = min a.start (min b.start c.start); end = end })) ends

pub join-no_token : (c : Cover) → join c no_token ≡ c
join-no_token no_token = refl
join-no_token no_origin = refl
join-no_token (covers a) = refl

cover_of-append : (xs ys : List (Option Span)) → cover_of (xs ++ ys) ≡ join (cover_of xs) (cover_of ys)
cover_of-append [] ys = refl
cover_of-append (x ∷ xs) ys =
    ap (join (cover_of_one x)) (cover_of-append xs ys) ∙ sym (join-assoc (cover_of_one x) (cover_of xs) (cover_of ys))

-- ** Children.

abbrev pub cover_of_part : List (Option Span) → Part → Cover
cover_of_part origins (token_part t token) = cover_of (take 1 (drop t origins))
cover_of_part origins (node_part node) = cover_below origins node

abbrev pub cover_of_parts : List (Option Span) → List Part → Cover
cover_of_parts origins [] = no_token
cover_of_parts origins (part ∷ parts) = join (cover_of_part origins part) (cover_of_parts origins parts)

-- the tokens of siblings, those of the first one in front
pub two_runs : (origins : List (Option Span)) (t a b : ℕ) → cover_of (take (a + b) (drop t origins)) ≡ join (cover_of (take a (drop t origins))) (cover_of (take b (drop (t + a) origins)))
two_runs origins t a b =
    ap cover_of (take-add a b (drop t origins))
    ∙ cover_of-append (take a (drop t origins)) (take b (drop a (drop t origins)))
    ∙ ap (λ rest. join (cover_of (take a (drop t origins))) (cover_of (take b rest))) (drop-drop a t origins)

cover_of_siblings : (origins : List (Option Span)) (parent m t : ℕ) (forest : Forest)
    → cover_of_parts origins (parts_in parent m t forest) ≡ cover_of (take (token_count forest) (drop t origins))
cover_of_siblings origins parent m t nothing = refl
cover_of_siblings origins parent m t (leaf token next) =
    ap (join (cover_of (take 1 (drop t origins)))) (cover_of_siblings origins parent m (1 + t) next)
    ∙ ap (λ n. join (cover_of (take 1 (drop t origins))) (cover_of (take (token_count next) (drop n origins)))) (omega arith)
    ∙ sym (two_runs origins t 1 (token_count next))
cover_of_siblings origins parent m t (branch kind below next) =
    ap (join (cover_of (take (token_count below) (drop t origins))))
    (cover_of_siblings origins parent (1 + m + node_count below) (t + token_count below) next)
    ∙ sym (two_runs origins t (token_count below) (token_count next))

-- a child that is named by its element: a token, or a node behind its parent
pub data IsPartOf (syntax : Syntax) (n : ℕ) : Element → Type 0 where
  is_token : (t : ℕ) → HasToken syntax t → IsPartOf syntax n (element.Token (record { 0 = t }))
  is_node : (m : ℕ) → HasNode syntax m → n < m → IsPartOf syntax n (element.Node (record { 0 = m }))

-- the elements that are left add what is missing in the cover so far
pub record Covers (syntax : Syntax) (origins : List (Option Span)) (n : ℕ) (cover : Cover) (left : List Element) : Type 0 where
  pub parts : All (IsPartOf syntax n) left
  pub rest : join cover (cover_of_parts origins (map (part_of syntax) left)) ≡ cover_below origins (node_of syntax n)

is_part_of : (syntax : Syntax) (n : ℕ) → HasNode syntax n → (part : Part) → IsChild syntax n part → IsPartOf syntax n (element_of part)
is_part_of syntax n h (token_part t token) child = is_token t child.0
is_part_of syntax n h (node_part node) child = is_node node.number child.0 (omega (arith, child.3.0, node_of-number syntax n h))

pub covers_none : (syntax : Syntax) (origins : List (Option Span)) (n : ℕ) → HasNode syntax n → Covers syntax origins n no_token (elements_of (node_of syntax n))
covers_none syntax origins n h =
    let node = node_of syntax n in
    record {
      parts =
          All-map (IsPartOf syntax n) element_of (parts_of node)
          (All-weaker (IsChild syntax n) (λ part. IsPartOf syntax n (element_of part)) (is_part_of syntax n h) (parts_of node) (children_known syntax n h));
      rest =
          ap (cover_of_parts origins) (parts_of-elements_of syntax n h)
          ∙ cover_of_siblings origins node.number (1 + node.number) node.first node.children;
    }

pub covers_next : (syntax : Syntax) (origins : List (Option Span)) (n : ℕ) (cover next : Cover) (e : Element) (left : List Element)
    → Covers syntax origins n cover (e ∷ left) → next ≡ cover_of_part origins (part_of syntax e) → Covers syntax origins n (join cover next) left
covers_next syntax origins n cover next e left so_far is = record {
  parts = All-tail (IsPartOf syntax n) e left so_far.parts;
  rest =
      join-assoc cover next (cover_of_parts origins (map (part_of syntax) left))
      ∙ ap (λ c. join cover (join c (cover_of_parts origins (map (part_of syntax) left)))) is
      ∙ so_far.rest;
}

-- what an element that comes next is
pub first_part : (syntax : Syntax) (origins : List (Option Span)) (n : ℕ) (cover : Cover) (e : Element) (left : List Element)
    → Covers syntax origins n cover (e ∷ left) → IsPartOf syntax n e
first_part syntax origins n cover e left so_far = All-head (IsPartOf syntax n) e left so_far.parts

pub has_token : (syntax : Syntax) (n t : ℕ) → IsPartOf syntax n (element.Token (record { 0 = t })) → HasToken syntax t
has_token syntax n t (is_token t' h) = h

pub has_node : (syntax : Syntax) (n m : ℕ) → IsPartOf syntax n (element.Node (record { 0 = m })) → HasNode syntax m
has_node syntax n m (is_node m' h later) = h

pub is_later : (syntax : Syntax) (n m : ℕ) → IsPartOf syntax n (element.Node (record { 0 = m })) → n < m
is_later syntax n m (is_node m' h later) = later

-- a token's own cover
pub cover_of_token : (origins : List (Option TextRange)) (t : ℕ) (origin : Option TextRange)
    → slice_get origins t ≡ Some origin → cover_of_one (plain_origin origin) ≡ cover_of (take 1 (drop t (map plain_origin origins)))
cover_of_token origins t origin is = sym (ap (λ rest. cover_of (take 1 rest)) first ∙ join-no_token (cover_of_one (plain_origin origin)))
  where
    plain : List (Option Span)
    plain = map plain_origin origins

    at : slice_get plain t ≡ Some (plain_origin origin)
    at = slice_get-map plain_origin origins t ∙ ap (option_map plain_origin) is

    within : t < length plain
    within = slice_get_within plain t (plain_origin origin) at

    here : get_or plain t None ≡ plain_origin origin
    here = same_Some _ _ (sym (slice_get-get_or plain t None within) ∙ at)

    first : drop t plain ≡ plain_origin origin ∷ drop (t + 1) plain
    first = drop_more plain t None within ∙ ap (λ o. o ∷ drop (t + 1) plain) here

-- ** The covers of all nodes, from the last to the first.

slice_get-set_same : {A : Type 0} (xs : List A) (n : ℕ) (x : A) → n < length xs → slice_get (set xs n x) n ≡ Some x
slice_get-set_same [] n x h = absurd (omega arith)
slice_get-set_same (y ∷ xs) zero x h = refl
slice_get-set_same (y ∷ xs) (suc n) x h = slice_get-set_same xs n x (omega arith)

slice_get-set_other : {A : Type 0} (xs : List A) (n m : ℕ) (x : A) → (m ≡ n → ⊥) → slice_get (set xs n x) m ≡ slice_get xs m
slice_get-set_other [] n m x h = refl
slice_get-set_other (y ∷ xs) zero zero x h = absurd (h refl)
slice_get-set_other (y ∷ xs) zero (suc m) x h = refl
slice_get-set_other (y ∷ xs) (suc n) zero x h = refl
slice_get-set_other (y ∷ xs) (suc n) (suc m) x h = slice_get-set_other xs n m x (λ e. h (omega arith))

pub covers_more : (syntax : Syntax) (origins : List (Option Span)) (n : ℕ) (list : List Stored) (cover : Stored)
    → CoversFrom syntax origins (1 + n) list → n < length list → plain_cover cover ≡ cover_below origins (node_of syntax n)
    → CoversFrom syntax origins n (set list n cover)
covers_more syntax origins n list cover known within is m at from get =
    elim (cases_eq m n) [
      | inl here ↦
          let same : at ≡ cover = same_Some _ _ (sym get ∙ ap (slice_get (set list n cover)) here ∙ slice_get-set_same list n cover within) in
          ap plain_cover same ∙ is ∙ ap (λ k. cover_below origins (node_of syntax k)) (sym here)
      | inr other ↦ known m at (omega (arith, other)) (sym (slice_get-set_other list n m cover other) ∙ get)
    ]

-- ** The steps over the children of a node.

pub step_node : (syntax : Syntax) (origins : List (Option Span)) (n : ℕ) (cover now : Cover) (before left : List Element) (part : Element) (m : ℕ) (list : List Stored) (stored joined : Stored)
    → HasNode syntax n → Covers syntax origins n cover before → before ≡ part ∷ left → part ≡ element.Node (record { 0 = m })
    → CoversFrom syntax origins (1 + n) list → length list ≡ 1 + node_count syntax.children → stored ≡ get_or list m stored
    → joined ≡ stored → now ≡ join cover (plain_cover joined) → Covers syntax origins n now left
step_node syntax origins n cover now before left part m list stored joined has so_far steps is known counted read join-is result =
    subst (λ c. Covers syntax origins n c left) (sym (result ∙ ap (λ s. join cover (plain_cover s)) join-is))
    (covers_next syntax origins n cover (plain_cover stored) node left here own)
  where
    node : Element
    node = element.Node (record { 0 = m })

    here : Covers syntax origins n cover (node ∷ left)
    here = subst (Covers syntax origins n cover) (steps ∙ ap (λ p. p ∷ left) is) so_far

    first : IsPartOf syntax n node
    first = first_part syntax origins n cover node left here

    at : slice_get list m ≡ Some stored
    at = slice_get-get_or list m stored (omega (arith, has_node syntax n m first, counted)) ∙ ap Some (sym read)

    own : plain_cover stored ≡ cover_of_part origins (part_of syntax node)
    own = known m stored (omega (arith, is_later syntax n m first)) at

pub step_token : (syntax : Syntax) (origins : List (Option TextRange)) (n : ℕ) (cover now : Cover) (before left : List Element) (part : Element) (t : ℕ) (origin : Option TextRange) (stored joined : Stored)
    → Covers syntax (map plain_origin origins) n cover before → before ≡ part ∷ left → part ≡ element.Token (record { 0 = t })
    → length origins ≡ token_count syntax.children → origin ≡ get_or origins t origin
    → plain_cover stored ≡ cover_of_one (plain_origin origin) → joined ≡ stored → now ≡ join cover (plain_cover joined)
    → Covers syntax (map plain_origin origins) n now left
step_token syntax origins n cover now before left part t origin stored joined so_far steps is counted read own join-is result =
    subst (λ c. Covers syntax plain n c left) (sym (result ∙ ap (λ s. join cover (plain_cover s)) join-is))
    (covers_next syntax plain n cover (plain_cover stored) token left here (own ∙ cover_of_token origins t origin at))
  where
    plain : List (Option Span)
    plain = map plain_origin origins

    token : Element
    token = element.Token (record { 0 = t })

    here : Covers syntax plain n cover (token ∷ left)
    here = subst (Covers syntax plain n cover) (steps ∙ ap (λ p. p ∷ left) is) so_far

    at : slice_get origins t ≡ Some origin
    at =
        slice_get-get_or origins t origin (omega (arith, has_token syntax n t (first_part syntax plain n cover token left here), counted))
        ∙ ap Some (sym read)
