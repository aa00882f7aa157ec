-- What the rows of a tree tell of it.
use Rattle.std.proofs.Common.{inl, inr, ◌≡◌, ℕ, ◌+◌, ◌-◌, ◌^◌, ◌<◌, ◌≤◌, List, [], ◌∷◌, ◌++◌, All, length, map, take, drop, get_or, refl, sym, ap, ◌∙◌, subst, arith, append_assoc, length-append, take-append-drop}
use Rattle.std.proofs.lemmas.List.{get_or-map, length-map, take_all, take_at, drop_at}
use Rattle.std.proofs.lemmas.Bool.{cases_lt}
use Rattle.std.proofs.lemmas.List.Elements.{All-head, All-tail, All-drop}
use Rattle.std.proofs.lemmas.Option.{unwrap_or-slice_get, get_or_from_slice_get, slice_get-get_or, slice_get-map, slice_get_within}
use Rattle.std.proofs.lemmas.Str.{IsUtf8-append, IsUtf8-nil, IsCharBoundary-at_seam}
use Rattle.std.specs.Prelude.{Some, None, zero, suc, slice_get}
use Rattle.std.specs.Option.{option_map}
use Rattle.std.specs.Str.{IsUtf8, IsCharBoundary}
use Rattle.std.specs.String.{string_bytes}
use Rattle.ssr_syntax_tree.specs.declared.rows.NodeRow.{NodeRow}
use Rattle.ssr_syntax_kinds.specs.declared.kinds.SyntaxKind.{SyntaxKind}
use Rattle.ssr_syntax_kinds.specs.declared.token_rows.TokenRow.{TokenRow}
use Rattle.ssr_syntax_tree.specs.declared.tree.Tree.TheInside.{Inside}
use Rattle.ssr_syntax_tree.specs.Private.Flat.{syntax_of, IsFlat}
use Rattle.ssr_syntax_tree.specs.Parts.{node_row, token_rows, AreParts}
use Rattle.ssr_syntax_tree.specs.Places.{nodes_of, root_of, node_of, token_of, offset_of, HasNode, HasToken}
use Rattle.ssr_syntax_tree.specs.Syntax.{Token, Syntax, token_count, node_count, tokens_of, spelled, source_of}
use Rattle.ssr_syntax_tree.proofs.Lists.{take_between}
use Rattle.ssr_syntax_tree.proofs.Siblings.{length-nodes_in, length-tokens_in}

-- the parts of an opened tree are those of the tree that it is seen as
pub are_parts : (tree : Inside) (syntax : Syntax) → IsFlat tree → syntax_of tree ≡ syntax → AreParts (string_bytes tree.source) tree.tokens tree.nodes syntax
are_parts tree syntax flat e = subst (AreParts (string_bytes tree.source) tree.tokens tree.nodes) e flat

pub length-nodes_of : (syntax : Syntax) → length (nodes_of syntax) ≡ 1 + node_count syntax.children
length-nodes_of syntax = omega (arith, length-nodes_in 0 1 0 syntax.children)

pub length-token_rows : (start : ℕ) (tokens : List Token) → length (token_rows start tokens) ≡ length tokens
length-token_rows start [] = refl
length-token_rows start (token ∷ next) = ap suc (length-token_rows (start + length token.text) next)

spelled-append : (xs ys : List Token) → spelled (xs ++ ys) ≡ spelled xs ++ spelled ys
spelled-append [] ys = refl
spelled-append (x ∷ xs) ys = ap (λ rest. x.text ++ rest) (spelled-append xs ys) ∙ sym (append_assoc x.text (spelled xs) (spelled ys))

pub token_row-in : (start : ℕ) (tokens : List Token) (t : ℕ) (row : TokenRow) (token : Token) → t < length tokens → row ≡ get_or (token_rows start tokens) t row → (row.kind ≡ (get_or tokens t token).kind) × (row.start ≡ start + length (spelled (take t tokens)))
token_row-in start [] t row token h e = absurd (omega arith)
token_row-in start (first ∷ next) zero row token h e = (ap (λ row. row.kind) e, ap (λ row. row.start) e ∙ omega arith)
token_row-in start (first ∷ next) (suc t) row token h e =
    let later = token_row-in (start + length first.text) next t row token (omega arith) e in
    (later.0, later.1 ∙ omega (arith, length-append first.text (spelled (take t next))))

pub spelled-texts : (tokens : List Token) → All (λ token. IsUtf8 token.text) tokens → IsUtf8 (spelled tokens)
spelled-texts [] h = IsUtf8-nil
spelled-texts (token ∷ next) h =
    IsUtf8-append token.text (spelled next) (All-head (λ token. IsUtf8 token.text) token next h) (spelled-texts next (All-tail (λ token. IsUtf8 token.text) token next h))

split_at : (syntax : Syntax) (t : ℕ) → source_of syntax ≡ spelled (take t (tokens_of syntax)) ++ spelled (drop t (tokens_of syntax))
split_at syntax t = ap spelled (sym (take-append-drop t (tokens_of syntax))) ∙ spelled-append (take t (tokens_of syntax)) (drop t (tokens_of syntax))

pub offset_boundary : (syntax : Syntax) (t : ℕ) → All (λ token. IsUtf8 token.text) (tokens_of syntax) → IsCharBoundary (source_of syntax) (offset_of syntax t)
offset_boundary syntax t texts =
    IsCharBoundary-at_seam (source_of syntax) (spelled (take t (tokens_of syntax))) (spelled (drop t (tokens_of syntax))) (split_at syntax t)
    (spelled-texts (drop t (tokens_of syntax)) (All-drop (λ token. IsUtf8 token.text) t (tokens_of syntax) texts))

-- behind the tokens there is nothing more
pub offset_past : (syntax : Syntax) (t : ℕ) → token_count syntax.children ≤ t → offset_of syntax t ≡ length (source_of syntax)
offset_past syntax t h = ap (λ tokens. length (spelled tokens)) (take_all t (tokens_of syntax) (omega (arith, length-tokens_in syntax.children)))

-- where there are bytes, there is a token
pub some_token : (syntax : Syntax) → 0 < length (source_of syntax) → 0 < token_count syntax.children
some_token syntax h =
    elim (cases_lt 0 (token_count syntax.children)) [ inl some ↦ some | inr none ↦ absurd (omega (arith, offset_past syntax 0 none)) ]

-- offsets of tokens grow
pub offset_grows : (syntax : Syntax) (a b : ℕ) → a ≤ b → offset_of syntax a ≤ offset_of syntax b
offset_grows syntax a b h =
    omega (
      arith,
      ap length (ap spelled (take_between (tokens_of syntax) a b h) ∙ spelled-append (take a (tokens_of syntax)) (take (b - a) (drop a (tokens_of syntax)))),
      length-append (spelled (take a (tokens_of syntax))) (spelled (take (b - a) (drop a (tokens_of syntax)))),
    )

-- the bytes between two tokens' offsets are what the tokens between them spell
pub slice_spelled : (syntax : Syntax) (a b : ℕ) → a ≤ b → take (offset_of syntax b - offset_of syntax a) (drop (offset_of syntax a) (source_of syntax)) ≡ spelled (take (b - a) (drop a (tokens_of syntax)))
slice_spelled syntax a b h =
    let tokens = tokens_of syntax in
    let front = spelled (take a tokens) in
    let middle = spelled (take (b - a) (drop a tokens)) in
    let rest = spelled (drop (b - a) (drop a tokens)) in
    let long : length middle ≡ offset_of syntax b - offset_of syntax a =
    omega (arith, ap length (ap spelled (take_between tokens a b h) ∙ spelled-append (take a tokens) (take (b - a) (drop a tokens))), length-append front middle) in
    let dropped : drop (offset_of syntax a) (source_of syntax) ≡ middle ++ rest =
    ap (drop (offset_of syntax a)) (split_at syntax a)
    ∙ drop_at front (spelled (drop a tokens)) (offset_of syntax a) refl
    ∙ ap spelled (sym (take-append-drop (b - a) (drop a tokens)))
    ∙ spelled-append (take (b - a) (drop a tokens)) (drop (b - a) (drop a tokens)) in
    ap (take (offset_of syntax b - offset_of syntax a)) dropped ∙ take_at middle rest (offset_of syntax b - offset_of syntax a) long

-- the row of a number
pub node_row-at : (source : List ℕ) (tokens : List TokenRow) (nodes : List NodeRow) (syntax : Syntax) → AreParts source tokens nodes syntax → (n : ℕ) (row : NodeRow) → HasNode syntax n → slice_get nodes n ≡ Some row → row ≡ node_row (node_of syntax n)
unfolding node_of
node_row-at source tokens nodes syntax are n row h e =
    let within : n < length (nodes_of syntax) = omega (arith, length-nodes_of syntax) in
    sym (get_or_from_slice_get nodes n row row e)
    ∙ ap (λ nodes. get_or nodes n row) are.nodes_are
    ∙ get_or-map node_row (nodes_of syntax) n (root_of syntax) row within
    ∙ ap node_row (sym (unwrap_or-slice_get (nodes_of syntax) n (root_of syntax)))

pub token_row-at : (source : List ℕ) (tokens : List TokenRow) (nodes : List NodeRow) (syntax : Syntax) → AreParts source tokens nodes syntax → (t : ℕ) (row : TokenRow) → HasToken syntax t → slice_get tokens t ≡ Some row → (row.kind ≡ (token_of syntax t).kind) × (row.start ≡ offset_of syntax t)
unfolding token_of
token_row-at source tokens nodes syntax are t row h e =
    let within : t < length (tokens_of syntax) = omega (arith, length-tokens_in syntax.children) in
    let read : row ≡ get_or (token_rows 0 (tokens_of syntax)) t row = sym (get_or_from_slice_get tokens t row row e) ∙ ap (λ tokens. get_or tokens t row) are.tokens_are in
    let found = token_row-in 0 (tokens_of syntax) t row _ within read in
    (found.0 ∙ ap (λ token. token.kind) (sym (unwrap_or-slice_get (tokens_of syntax) t _)), found.1 ∙ omega arith)

pub nodes_counted : (source : List ℕ) (tokens : List TokenRow) (nodes : List NodeRow) (syntax : Syntax) → AreParts source tokens nodes syntax → length nodes ≡ 1 + node_count syntax.children
nodes_counted source tokens nodes syntax are = ap length are.nodes_are ∙ length-map (nodes_of syntax) node_row ∙ length-nodes_of syntax

pub tokens_counted : (source : List ℕ) (tokens : List TokenRow) (nodes : List NodeRow) (syntax : Syntax) → AreParts source tokens nodes syntax → length tokens ≡ token_count syntax.children
tokens_counted source tokens nodes syntax are = ap length are.tokens_are ∙ length-token_rows 0 (tokens_of syntax) ∙ length-tokens_in syntax.children

-- what two lists have at a place, where the second one is made from the first
same_place : {A B : Type 0} (f : A → B) (xs : List A) (n : ℕ) (x : A) (y : B) → slice_get xs n ≡ Some x → slice_get (map f xs) n ≡ Some y → y ≡ f x
same_place f xs n x y e made = let mapped = slice_get-map f xs n in let read = ap (option_map f) e in cc

-- the kind of a number
pub node_kind-at : (source : List ℕ) (tokens : List TokenRow) (nodes : List NodeRow) (syntax : Syntax) → AreParts source tokens nodes syntax → (n : ℕ) (kind : SyntaxKind) → HasNode syntax n → slice_get (map (λ row. row.kind) nodes) n ≡ Some kind → kind ≡ (node_of syntax n).kind
node_kind-at source tokens nodes syntax are n kind h e =
    let row : NodeRow = get_or nodes n (node_row (root_of syntax)) in
    let read : slice_get nodes n ≡ Some row = slice_get-get_or nodes n (node_row (root_of syntax)) (omega (arith, h, nodes_counted source tokens nodes syntax are)) in
    same_place (λ row. row.kind) nodes n row kind read e ∙ ap (λ row. row.kind) (node_row-at source tokens nodes syntax are n row h read)

pub token_kind-at : (source : List ℕ) (tokens : List TokenRow) (nodes : List NodeRow) (syntax : Syntax) → AreParts source tokens nodes syntax → (t : ℕ) (kind : SyntaxKind) → HasToken syntax t → slice_get (map (λ row. row.kind) tokens) t ≡ Some kind → kind ≡ (token_of syntax t).kind
token_kind-at source tokens nodes syntax are t kind h e =
    let none : TokenRow = record { kind = kind; start = 0 } in
    let row : TokenRow = get_or tokens t none in
    let read : slice_get tokens t ≡ Some row = slice_get-get_or tokens t none (omega (arith, h, tokens_counted source tokens nodes syntax are)) in
    same_place (λ row. row.kind) tokens t row kind read e ∙ (token_row-at source tokens nodes syntax are t row h read).0

-- the same of an opened tree
pub node_within : (tree : Inside) (syntax : Syntax) → IsFlat tree → syntax_of tree ≡ syntax → (n : ℕ) → HasNode syntax n → n < length tree.nodes
node_within tree syntax flat e n h =
    let are = are_parts tree syntax flat e in
    omega (arith, nodes_counted (string_bytes tree.source) tree.tokens tree.nodes syntax are)

pub node_row-is : (tree : Inside) (syntax : Syntax) → IsFlat tree → syntax_of tree ≡ syntax → (n : ℕ) (row : NodeRow) → HasNode syntax n → slice_get tree.nodes n ≡ Some row → row ≡ node_row (node_of syntax n)
node_row-is tree syntax flat e n row h read =
    node_row-at (string_bytes tree.source) tree.tokens tree.nodes syntax (are_parts tree syntax flat e) n row h read

pub at_boundary : (tree : Inside) (syntax : Syntax) → IsFlat tree → syntax_of tree ≡ syntax → (t start : ℕ) → start ≡ offset_of syntax t → IsCharBoundary (source_of syntax) start
at_boundary tree syntax flat e t start same =
    subst (IsCharBoundary (source_of syntax)) (sym same) (offset_boundary syntax t (are_parts tree syntax flat e).texts)

pub nodes_few : (tree : Inside) (syntax : Syntax) → IsFlat tree → syntax_of tree ≡ syntax → 1 + node_count syntax.children < 2 ^ 32
nodes_few tree syntax flat e =
    let are = are_parts tree syntax flat e in
    omega (arith, are.few, nodes_counted (string_bytes tree.source) tree.tokens tree.nodes syntax are)

pub node_kind-is : (tree : Inside) (syntax : Syntax) → IsFlat tree → syntax_of tree ≡ syntax → (n : ℕ) (kind : SyntaxKind) → HasNode syntax n → slice_get (map (λ row. row.kind) tree.nodes) n ≡ Some kind → kind ≡ (node_of syntax n).kind
node_kind-is tree syntax flat e n kind h read =
    node_kind-at (string_bytes tree.source) tree.tokens tree.nodes syntax (are_parts tree syntax flat e) n kind h read

pub token_kind-is : (tree : Inside) (syntax : Syntax) → IsFlat tree → syntax_of tree ≡ syntax → (t : ℕ) (kind : SyntaxKind) → HasToken syntax t → slice_get (map (λ row. row.kind) tree.tokens) t ≡ Some kind → kind ≡ (token_of syntax t).kind
token_kind-is tree syntax flat e t kind h read =
    token_kind-at (string_bytes tree.source) tree.tokens tree.nodes syntax (are_parts tree syntax flat e) t kind h read

pub offset-is : (tree : Inside) (syntax : Syntax) → IsFlat tree → syntax_of tree ≡ syntax → (t : ℕ) (row : TokenRow) → slice_get tree.tokens t ≡ Some row → row.start ≡ offset_of syntax t
offset-is tree syntax flat e t row read =
    let are = are_parts tree syntax flat e in
    let within : HasToken syntax t = omega (arith, slice_get_within tree.tokens t row read, tokens_counted (string_bytes tree.source) tree.tokens tree.nodes syntax are) in
    (token_row-at (string_bytes tree.source) tree.tokens tree.nodes syntax are t row within read).1

no_more : {A : Type 0} (xs : List A) (n : ℕ) → slice_get xs n ≡ None → length xs ≤ n
no_more [] n e = omega arith
no_more (x ∷ xs) zero e = cc
no_more (x ∷ xs) (suc n) e = omega (arith, no_more xs n e)

pub offset_past-is : (tree : Inside) (syntax : Syntax) → IsFlat tree → syntax_of tree ≡ syntax → (t : ℕ) → slice_get tree.tokens t ≡ None → length (string_bytes tree.source) ≡ offset_of syntax t
offset_past-is tree syntax flat e t none =
    let are = are_parts tree syntax flat e in
    let past : token_count syntax.children ≤ t = omega (arith, no_more tree.tokens t none, tokens_counted (string_bytes tree.source) tree.tokens tree.nodes syntax are) in
    ap length are.spells ∙ sym (offset_past syntax t past)

pub token_within : (tree : Inside) (syntax : Syntax) → IsFlat tree → syntax_of tree ≡ syntax → (t : ℕ) → HasToken syntax t → t < length tree.tokens
token_within tree syntax flat e t h =
    let are = are_parts tree syntax flat e in
    omega (arith, tokens_counted (string_bytes tree.source) tree.tokens tree.nodes syntax are)
