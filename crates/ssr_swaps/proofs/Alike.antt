-- Trees with the same marks are alike.
use Rattle.std.proofs.Common.{◌≡◌, ◌∙◌, true, false, if◌then◌else◌, List, [], ◌∷◌, ◌++◌, refl, ap, sym, append_assoc}
use Rattle.std.specs.Prelude.{Bool, ◌↔◌}
use Rattle.ssr_syntax_kinds.specs.Kinds.{is_trivia}
use Rattle.ssr_syntax_tree.specs.Syntax.{Token, Forest, nothing, leaf, branch, Syntax}
use Rattle.ssr_swaps.specs.Private.Marks.{PlainMark, node_mark, token_mark, child_mark, siblings, below, marks_of}
use Rattle.ssr_swaps.specs.Swapped.{AreAlike, bare}

-- the marks of siblings among which no white space and no comment is
abbrev tokens_and_nodes : Forest → List PlainMark
tokens_and_nodes nothing = []
tokens_and_nodes (leaf token next) = token_mark token ∷ tokens_and_nodes next
tokens_and_nodes (branch kind children next) = child_mark ∷ tokens_and_nodes next

abbrev all_below : Forest → List PlainMark
all_below nothing = []
all_below (leaf token next) = all_below next
all_below (branch kind children next) = node_mark kind ∷ (tokens_and_nodes children ++ (all_below children ++ all_below next))

siblings_leaf : (token : Token) (next : Forest) (trivia : Bool) → siblings next ≡ tokens_and_nodes (bare next)
    → (if trivia then siblings next else token_mark token ∷ siblings next) ≡ tokens_and_nodes (if trivia then bare next else leaf token (bare next))
siblings_leaf token next true same = same
siblings_leaf token next false same = ap (λ marks. token_mark token ∷ marks) same

siblings_bare : (forest : Forest) → siblings forest ≡ tokens_and_nodes (bare forest)
siblings_bare nothing = refl
siblings_bare (leaf token next) = siblings_leaf token next (is_trivia token.kind) (siblings_bare next)
siblings_bare (branch kind children next) = ap (λ marks. child_mark ∷ marks) (siblings_bare next)

below_leaf : (token : Token) (next : Forest) (trivia : Bool) → below next ≡ all_below (bare next)
    → below next ≡ all_below (if trivia then bare next else leaf token (bare next))
below_leaf token next true same = same
below_leaf token next false same = same

below_bare : (forest : Forest) → below forest ≡ all_below (bare forest)
below_bare nothing = refl
below_bare (leaf token next) = below_leaf token next (is_trivia token.kind) (below_bare next)
below_bare (branch kind children next) =
    ap (λ marks. node_mark kind ∷ (marks ++ (below children ++ below next))) (siblings_bare children)
    ∙ ap (λ marks. node_mark kind ∷ (tokens_and_nodes (bare children) ++ (marks ++ below next))) (below_bare children)
    ∙ ap (λ marks. node_mark kind ∷ (tokens_and_nodes (bare children) ++ (all_below (bare children) ++ marks))) (below_bare next)

-- marks that begin with a node, if there are some
abbrev BeginsANode : List PlainMark → Type 0
BeginsANode [] = Unit {0}
BeginsANode (node_mark kind ∷ marks) = Unit {0}
BeginsANode (token_mark token ∷ marks) = ⊥
BeginsANode (child_mark ∷ marks) = ⊥

begins : (forest : Forest) (behind : List PlainMark) → BeginsANode behind → BeginsANode (all_below forest ++ behind)
begins nothing behind h = h
begins (leaf token next) behind h = begins next behind h
begins (branch kind children next) behind h = tt

begins_alone : (forest : Forest) → BeginsANode (all_below forest)
begins_alone nothing = tt
begins_alone (leaf token next) = begins_alone next
begins_alone (branch kind children next) = tt

-- no token stands where a node begins
not_token : (xs ys : List PlainMark) (token : Token) → BeginsANode xs → xs ≡ token_mark token ∷ ys → ⊥
not_token [] ys token h e = cc
not_token (node_mark kind ∷ marks) ys token h e = cc
not_token (token_mark other ∷ marks) ys token h e = h
not_token (child_mark ∷ marks) ys token h e = h

not_child : (xs ys : List PlainMark) → BeginsANode xs → xs ≡ child_mark ∷ ys → ⊥
not_child [] ys h e = cc
not_child (node_mark kind ∷ marks) ys h e = cc
not_child (token_mark other ∷ marks) ys h e = h
not_child (child_mark ∷ marks) ys h e = h

-- siblings end where a node begins
parted : (a b : Forest) (x y : List PlainMark) → BeginsANode x → BeginsANode y → tokens_and_nodes a ++ x ≡ tokens_and_nodes b ++ y
    → (tokens_and_nodes a ≡ tokens_and_nodes b) × (x ≡ y)
parted nothing nothing x y h k e = (refl, e)
parted nothing (leaf token next) x y h k e = absurd (not_token x (tokens_and_nodes next ++ y) token h e)
parted nothing (branch kind children next) x y h k e = absurd (not_child x (tokens_and_nodes next ++ y) h e)
parted (leaf token next) nothing x y h k e = absurd (not_token y (tokens_and_nodes next ++ x) token k (sym e))
parted (leaf token next) (leaf other rest) x y h k e =
    let same : token ≡ other = cc in
    let behind : tokens_and_nodes next ++ x ≡ tokens_and_nodes rest ++ y = cc in
    let more = parted next rest x y h k behind in
    (ap (λ t. token_mark t ∷ tokens_and_nodes next) same ∙ ap (λ marks. token_mark other ∷ marks) more.0, more.1)
parted (leaf token next) (branch kind children rest) x y h k e = cc
parted (branch kind children next) nothing x y h k e = absurd (not_child y (tokens_and_nodes next ++ x) k (sym e))
parted (branch kind children next) (leaf other rest) x y h k e = cc
parted (branch kind children next) (branch other below rest) x y h k e =
    let behind : tokens_and_nodes next ++ x ≡ tokens_and_nodes rest ++ y = cc in
    let more = parted next rest x y h k behind in
    (ap (λ marks. child_mark ∷ marks) more.0, more.1)

regrouped : (forest next : Forest) (x : List PlainMark)
    → (tokens_and_nodes forest ++ (all_below forest ++ all_below next)) ++ x ≡ tokens_and_nodes forest ++ (all_below forest ++ (all_below next ++ x))
regrouped forest next x =
    append_assoc (tokens_and_nodes forest) (all_below forest ++ all_below next) x
    ∙ ap (λ marks. tokens_and_nodes forest ++ marks) (append_assoc (all_below forest) (all_below next) x)

-- siblings with the same marks, and the same marks below them, are the same
same_forest : (a b : Forest) (x y : List PlainMark) → BeginsANode x → BeginsANode y → tokens_and_nodes a ≡ tokens_and_nodes b
    → all_below a ++ x ≡ all_below b ++ y → (a ≡ b) × (x ≡ y)
same_forest nothing nothing x y h k s e = (refl, e)
same_forest nothing (leaf token next) x y h k s e = cc
same_forest nothing (branch kind children next) x y h k s e = cc
same_forest (leaf token next) nothing x y h k s e = cc
same_forest (leaf token next) (leaf other rest) x y h k s e =
    let same : token ≡ other = cc in
    let behind : tokens_and_nodes next ≡ tokens_and_nodes rest = cc in
    let more = same_forest next rest x y h k behind e in
    (ap (λ t. leaf t next) same ∙ ap (leaf other) more.0, more.1)
same_forest (leaf token next) (branch kind children rest) x y h k s e = cc
same_forest (branch kind children next) nothing x y h k s e = cc
same_forest (branch kind children next) (leaf other rest) x y h k s e = cc
same_forest (branch kind children next) (branch other inner rest) x y h k s e =
    let behind : tokens_and_nodes next ≡ tokens_and_nodes rest = cc in
    let kinds : kind ≡ other = cc in
    let after : (tokens_and_nodes children ++ (all_below children ++ all_below next)) ++ x ≡ (tokens_and_nodes inner ++ (all_below inner ++ all_below rest)) ++ y = cc in
    let moved = sym (regrouped children next x) ∙ after ∙ regrouped inner rest y in
    let parts =
    parted children inner (all_below children ++ (all_below next ++ x)) (all_below inner ++ (all_below rest ++ y))
    (begins children (all_below next ++ x) (begins next x h)) (begins inner (all_below rest ++ y) (begins rest y k)) moved in
    let first = same_forest children inner (all_below next ++ x) (all_below rest ++ y) (begins next x h) (begins rest y k) parts.0 parts.1 in
    let more = same_forest next rest x y h k behind first.1 in
    (ap (λ c. branch c children next) kinds ∙ ap (λ f. branch other f next) first.0 ∙ ap (branch other inner) more.0, more.1)

-- marks say all but the white space and the comments
pub alike : (one other : Syntax) → marks_of one ≡ marks_of other ↔ AreAlike one other
alike one other = (
  λ same.
      let a = bare one.children in
      let b = bare other.children in
      let kinds : one.kind ≡ other.kind = cc in
      let marks : siblings one.children ++ below one.children ≡ siblings other.children ++ below other.children = cc in
      let plain : tokens_and_nodes a ++ all_below a ≡ tokens_and_nodes b ++ all_below b =
      ap (λ ms. ms ++ all_below a) (sym (siblings_bare one.children)) ∙ ap (λ ms. siblings one.children ++ ms) (sym (below_bare one.children))
      ∙ marks ∙ ap (λ ms. ms ++ below other.children) (siblings_bare other.children) ∙ ap (λ ms. tokens_and_nodes b ++ ms) (below_bare other.children) in
      let parts = parted a b (all_below a) (all_below b) (begins_alone a) (begins_alone b) plain in
      record {
        kind = kinds;
        children = (same_forest a b [] [] tt tt parts.0 (ap (λ ms. ms ++ []) parts.1)).0;
      },
  λ same.
      ap (λ kind. node_mark kind ∷ (siblings one.children ++ below one.children)) same.kind
      ∙ ap (λ ms. node_mark other.kind ∷ (ms ++ below one.children)) (siblings_bare one.children ∙ ap tokens_and_nodes same.children ∙ sym (siblings_bare other.children))
      ∙ ap (λ ms. node_mark other.kind ∷ (siblings other.children ++ ms)) (below_bare one.children ∙ ap all_below same.children ∙ sym (below_bare other.children)),
)
