-- Trees whose nodes have the same shapes, over tokens of the same kinds and lengths in one text, are the same.
use Rattle.std.proofs.Common.{◌≡◌, ◌∙◌, ℕ, ◌+◌, ◌-◌, ◌<◌, ◌≤◌, List, [], ◌∷◌, ◌++◌, length, take, drop, map, refl, sym, ap, subst, arith}
use Rattle.std.specs.Prelude.{All}
use Rattle.std.proofs.lemmas.List.{take_at, drop_at, map-append}
use Rattle.std.proofs.lemmas.List.Elements.{All-nil, All-cons, All-head, All-tail, All-append, All-weaker, All-take, All-drop, All-map}
use Rattle.ssr_syntax_kinds.specs.declared.kinds.SyntaxKind.{SyntaxKind}
use Rattle.ssr_syntax_tree.specs.Syntax.{Forest, nothing, leaf, branch, Token, node_count, spelled, token_count, tokens_in}
use Rattle.ssr_syntax_tree.specs.Places.{Node, nodes_in}
use Rattle.ssr_syntax_tree.proofs.Shared.{length-tokens_in}
use Rattle.ssr_standing.specs.Private.Runs.{HaveSameNodes, Mould, Shape, below_of, mould_of, shape_of}

-- the shapes of the nodes of a forest, behind so many tokens
abbrev shapes : ℕ → Forest → List Shape
shapes t nothing = []
shapes t (leaf token next) = shapes (1 + t) next
shapes t (branch kind below next) =
    record { kind = kind; start = t; tokens = token_count below } ∷ (shapes t below ++ shapes (t + token_count below) next)

shapes_are : (parent m base t : ℕ) (f : Forest) → map (shape_of base) (nodes_in parent m (base + t) f) ≡ shapes t f
shapes_are parent m base t nothing = refl
shapes_are parent m base t (leaf token next) =
    let same : 1 + (base + t) ≡ base + (1 + t) = omega arith in
    ap (λ (n : ℕ). map (shape_of base) (nodes_in parent m n next)) same ∙ shapes_are parent m base (1 + t) next
shapes_are parent m base t (branch kind below next) =
    let first : (base + t) - base ≡ t = omega arith in
    let further : (base + t) + token_count below ≡ base + (t + token_count below) = omega arith in
    let inner = nodes_in m (1 + m) (base + t) below in
    let outer : ℕ → List Node = λ n. nodes_in parent (1 + m + node_count below) n next in
    ap (λ (n : ℕ). record { kind = kind; start = n; tokens = token_count below } ∷ map (shape_of base) (inner ++ outer ((base + t) + token_count below))) first
    ∙ ap (λ (shapes : List Shape). record { kind = kind; start = t; tokens = token_count below } ∷ shapes)
    (map-append (shape_of base) inner (outer ((base + t) + token_count below))
    ∙ ap (λ (shapes : List Shape). shapes ++ map (shape_of base) (outer ((base + t) + token_count below))) (shapes_are m (1 + m) base t below)
    ∙ ap (λ (n : ℕ). shapes t below ++ map (shape_of base) (outer n)) further
    ∙ ap (λ (behind : List Shape). shapes t below ++ behind) (shapes_are parent (1 + m + node_count below) base (t + token_count below) next))

abbrev HasSome : Shape → Type 0
HasSome s = 0 < s.tokens

abbrev Behind : ℕ → Shape → Type 0
Behind n s = n ≤ s.start

abbrev EndsBefore : ℕ → Shape → Type 0
EndsBefore n s = s.start + s.tokens ≤ n

all_left : {X : Type 0} (P : X → Type 0) (xs ys : List X) → All P (xs ++ ys) → All P xs
all_left P xs ys all = subst (All P) (take_at xs ys (length xs) refl) (All-take P (length xs) (xs ++ ys) all)

all_right : {X : Type 0} (P : X → Type 0) (xs ys : List X) → All P (xs ++ ys) → All P ys
all_right P xs ys all = subst (All P) (drop_at xs ys (length xs) refl) (All-drop P (length xs) (xs ++ ys) all)

all_behind : (t : ℕ) (f : Forest) → All (Behind t) (shapes t f)
all_behind t nothing = All-nil (Behind t)
all_behind t (leaf token next) = All-weaker (Behind (1 + t)) (Behind t) (λ s h. omega arith) (shapes (1 + t) next) (all_behind (1 + t) next)
all_behind t (branch kind below next) =
    All-cons (Behind t) _ (shapes t below ++ shapes (t + token_count below) next) (omega arith)
    (All-append (Behind t) (shapes t below) (shapes (t + token_count below) next) (all_behind t below)
    (All-weaker (Behind (t + token_count below)) (Behind t) (λ s h. omega arith) (shapes (t + token_count below) next) (all_behind (t + token_count below) next)))

all_end : (t : ℕ) (f : Forest) → All (EndsBefore (t + token_count f)) (shapes t f)
all_end t nothing = All-nil (EndsBefore (t + 0))
all_end t (leaf token next) =
    All-weaker (EndsBefore ((1 + t) + token_count next)) (EndsBefore (t + (1 + token_count next))) (λ s h. omega arith) (shapes (1 + t) next) (all_end (1 + t) next)
all_end t (branch kind below next) =
    let end = t + (token_count below + token_count next) in
    All-cons (EndsBefore end) _ (shapes t below ++ shapes (t + token_count below) next) (omega arith)
    (All-append (EndsBefore end) (shapes t below) (shapes (t + token_count below) next)
    (All-weaker (EndsBefore (t + token_count below)) (EndsBefore end) (λ s h. omega arith) (shapes t below) (all_end t below))
    (All-weaker (EndsBefore ((t + token_count below) + token_count next)) (EndsBefore end) (λ s h. omega arith) (shapes (t + token_count below) next)
    (all_end (t + token_count below) next)))

-- where those in front end before a place at which those behind begin, lists are the same part by part
module _ (n : ℕ) where
  parted : (xs others ys behind : List Shape) → All HasSome xs → All HasSome others → All (EndsBefore n) xs → All (EndsBefore n) others
      → All (Behind n) ys → All (Behind n) behind → xs ++ ys ≡ others ++ behind → (xs ≡ others) × (ys ≡ behind)
  parted [] [] ys behind some more low lower high higher same = (refl, same)
  parted [] (x ∷ others) ys behind some more low lower high higher same =
      let at : Behind n x = All-head (Behind n) x (others ++ behind) (subst (All (Behind n)) same high) in
      let ends : EndsBefore n x = All-head (EndsBefore n) x others lower in
      let filled : HasSome x = All-head HasSome x others more in
      absurd (omega arith)
  parted (x ∷ xs) [] ys behind some more low lower high higher same =
      let at : Behind n x = All-head (Behind n) x (xs ++ ys) (subst (All (Behind n)) (sym same) higher) in
      let ends : EndsBefore n x = All-head (EndsBefore n) x xs low in
      let filled : HasSome x = All-head HasSome x xs some in
      absurd (omega arith)
  parted (x ∷ xs) (y ∷ others) ys behind some more low lower high higher same =
      let first : x ≡ y = cc in
      let left : xs ++ ys ≡ others ++ behind = cc in
      let rest =
      parted xs others ys behind (All-tail HasSome x xs some) (All-tail HasSome y others more) (All-tail (EndsBefore n) x xs low)
      (All-tail (EndsBefore n) y others lower) high higher left in
      (ap (λ (s : Shape). s ∷ xs) first ∙ ap (λ (shapes : List Shape). y ∷ shapes) rest.0, rest.1)

same_forests : (t : ℕ) (f g : Forest) → All HasSome (shapes t f) → shapes t f ≡ shapes t g → tokens_in f ≡ tokens_in g → f ≡ g
same_forests t nothing nothing some same tokens = refl
same_forests t nothing (leaf b g) some same tokens = cc
same_forests t nothing (branch kind below next) some same tokens = cc
same_forests t (leaf a f) nothing some same tokens = cc
same_forests t (leaf a f) (leaf b g) some same tokens =
    let first : a ≡ b = cc in
    let left : tokens_in f ≡ tokens_in g = cc in
    ap (λ (token : Token). leaf token f) first ∙ ap (leaf b) (same_forests (1 + t) f g some same left)
same_forests t (leaf a f) (branch kind below next) some same tokens =
    let all : All (Behind (1 + t)) (shapes t (branch kind below next)) = subst (All (Behind (1 + t))) same (all_behind (1 + t) f) in
    let at : 1 + t ≤ t = All-head (Behind (1 + t)) _ (shapes t below ++ shapes (t + token_count below) next) all in
    absurd (omega arith)
same_forests t (branch kind below next) nothing some same tokens = cc
same_forests t (branch kind below next) (leaf b g) some same tokens =
    let all : All (Behind (1 + t)) (shapes t (branch kind below next)) = subst (All (Behind (1 + t))) (sym same) (all_behind (1 + t) g) in
    let at : 1 + t ≤ t = All-head (Behind (1 + t)) _ (shapes t below ++ shapes (t + token_count below) next) all in
    absurd (omega arith)
same_forests t (branch kind below next) (branch other under after) some same tokens =
    let here : Shape = record { kind = kind; start = t; tokens = token_count below } in
    let there : Shape = record { kind = other; start = t; tokens = token_count under } in
    let end = t + token_count below in
    let inner = shapes t below in
    let outer = shapes end next in
    let first : here ≡ there = cc in
    let kinds : kind ≡ other = ap (λ (s : Shape). s.kind) first in
    let counts : token_count below ≡ token_count under = ap (λ (s : Shape). s.tokens) first in
    let left : inner ++ outer ≡ shapes t under ++ shapes (t + token_count under) after = cc in
    let moved : inner ++ outer ≡ shapes t under ++ shapes end after =
    left ∙ ap (λ (n : ℕ). shapes t under ++ shapes (t + n) after) (sym counts) in
    let all : All HasSome (inner ++ outer) = All-tail HasSome here (inner ++ outer) some in
    let rest =
    parted end inner (shapes t under) outer (shapes end after) (all_left HasSome inner outer all)
    (all_left HasSome (shapes t under) (shapes end after) (subst (All HasSome) moved all)) (all_end t below)
    (subst (λ (n : ℕ). All (EndsBefore (t + n)) (shapes t under)) (sym counts) (all_end t under))
    (all_behind end next) (all_behind end after) moved in
    let below_tokens : tokens_in below ≡ tokens_in under =
    sym (take_at (tokens_in below) (tokens_in next) (token_count below) (length-tokens_in below))
    ∙ ap (take (token_count below)) tokens
    ∙ take_at (tokens_in under) (tokens_in after) (token_count below) (length-tokens_in under ∙ sym counts) in
    let next_tokens : tokens_in next ≡ tokens_in after =
    sym (drop_at (tokens_in below) (tokens_in next) (token_count below) (length-tokens_in below))
    ∙ ap (drop (token_count below)) tokens
    ∙ drop_at (tokens_in under) (tokens_in after) (token_count below) (length-tokens_in under ∙ sym counts) in
    let belows : below ≡ under = same_forests t below under (all_left HasSome inner outer all) rest.0 below_tokens in
    let nexts : next ≡ after = same_forests end next after (all_right HasSome inner outer all) rest.1 next_tokens in
    ap (λ (k : SyntaxKind). branch k below next) kinds ∙ ap (λ (f : Forest). branch other f next) belows ∙ ap (branch other under) nexts

-- below two nodes stands the same
pub same_below : (a b : Node) → HaveSameNodes a b → tokens_in a.children ≡ tokens_in b.children → a.children ≡ b.children
same_below a b have tokens =
    let shapes_of : (n : Node) → map (shape_of n.first) (below_of n) ≡ shapes 0 n.children =
    λ n.
    let same : n.first ≡ n.first + 0 = omega arith in
    ap (λ (t : ℕ). map (shape_of n.first) (nodes_in n.number (1 + n.number) t n.children)) same
    ∙ shapes_are n.number (1 + n.number) n.first 0 n.children in
    same_forests 0 a.children b.children
    (subst (All HasSome) (shapes_of a) (All-map HasSome (shape_of a.first) (below_of a) have.filled))
    (sym (shapes_of a) ∙ have.shapes ∙ shapes_of b) tokens

-- tokens that spell one text, of the same kinds and lengths
pub same_tokens : (xs ys : List Token) → spelled xs ≡ spelled ys → map mould_of xs ≡ map mould_of ys → xs ≡ ys
same_tokens [] [] texts moulds = refl
same_tokens [] (y ∷ ys) texts moulds = cc
same_tokens (x ∷ xs) [] texts moulds = cc
same_tokens (x ∷ xs) (y ∷ ys) texts moulds =
    let first : mould_of x ≡ mould_of y = cc in
    let left : map mould_of xs ≡ map mould_of ys = cc in
    let kinds : x.kind ≡ y.kind = ap (λ (m : Mould). m.kind) first in
    let counts : length y.text ≡ length x.text = sym (ap (λ (m : Mould). m.bytes) first) in
    let text : x.text ≡ y.text =
    sym (take_at x.text (spelled xs) (length x.text) refl) ∙ ap (take (length x.text)) texts ∙ take_at y.text (spelled ys) (length x.text) counts in
    let behind : spelled xs ≡ spelled ys =
    sym (drop_at x.text (spelled xs) (length x.text) refl) ∙ ap (drop (length x.text)) texts ∙ drop_at y.text (spelled ys) (length x.text) counts in
    let same : x ≡ y =
    ap (λ (kind : SyntaxKind). record { kind = kind; text = x.text }) kinds ∙ ap (λ (text : List ℕ). record { kind = y.kind; text = text }) text in
    ap (λ (token : Token). token ∷ xs) same ∙ ap (λ (tokens : List Token). y ∷ tokens) (same_tokens xs ys behind left)
