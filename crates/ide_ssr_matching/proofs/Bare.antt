-- Bare children, found from the left.
use Rattle.std.proofs.Common.{◌≡◌, ℕ, zero, suc, arith, ◌++◌, All, None, option_to_list, map, subst, Bool, true, false, ◌&&◌, ◌||◌, cond, List, [], ◌∷◌, refl, sym, ◌∙◌, ap, inl, inr}
use Rattle.std.proofs.lemmas.Bool.{cases_Bool, or_left}
use Rattle.std.proofs.lemmas.List.Elements.{All-weaker}
use Rattle.ssr_syntax_kinds.specs.declared.kinds.SyntaxKind.{SyntaxKind}
use Rattle.ssr_syntax_kinds.specs.declared.kinds.SyntaxKind.TheVariants as k
use Rattle.ssr_syntax_kinds.specs.Kinds.{same_kind, is_trivia}
use Rattle.ssr_syntax_kinds.proofs.Shared.{same_kind-equal}
use Rattle.ssr_syntax_tree.specs.declared.number.Element.{Element}
use Rattle.ssr_syntax_tree.specs.declared.number.Element.TheVariants as element
use Rattle.ssr_syntax_tree.specs.Syntax.{Syntax}
use Rattle.ssr_syntax_tree.specs.Places.{HasNode, HasElement, Part, token_part, node_part, element_of, elements_of, node_of, parts_of, part_of}
use Rattle.ssr_syntax_tree.proofs.Shared.{IsChild, children_known}
use Rattle.ide_ssr_matching.specs.declared.children.Siblings.{Siblings}
use Rattle.ide_ssr_token_trees.specs.Elements.{closes, closes_part, is_closing, is_trivia_part}
use Rattle.ide_ssr_matching.specs.Children.{leaves_out, bare}
use Rattle.ide_ssr_matching.specs.Private.Children.{has_kind, solid, siblings_left, IsElementBelow, AreKept}

-- what trivia are left out of
passed : (b : Bool) (out : List Part) (xs : List Part) (part : Part) → b ≡ true → cond b out (part ∷ xs) ≡ out
passed b out xs part is = rw is refl

pub bare-solid : (parts : List Part) → bare (solid parts) ≡ bare parts
bare-solid [] = refl
bare-solid (token_part t token ∷ rest) =
    elim (cases_Bool (is_trivia token.kind)) [
      | inl trivia ↦
          ap (λ b. bare (cond b (solid rest) (token_part t token ∷ rest))) trivia
          ∙ bare-solid rest
          ∙ sym (passed (leaves_out (token_part t token) rest) (bare rest) (bare rest) (token_part t token) (or_left (is_trivia token.kind) (same_kind token.kind k.COMMA && closes rest) trivia))
      | inr other ↦ ap (λ b. bare (cond b (solid rest) (token_part t token ∷ rest))) other
    ]
bare-solid (node_part node ∷ rest) = refl

-- the first that is no trivia
pub record IsFirst (first : Part) (rest : List Part) : Type 0 where
  pub no_trivia : is_trivia_part first ≡ false
  pub closes_is : closes rest ≡ closes_part first

pub solid-first : (rest more : List Part) (first : Part) → solid rest ≡ first ∷ more → IsFirst first rest
solid-first [] more first e = cc
solid-first (token_part t token ∷ rest) more first e =
    elim (cases_Bool (is_trivia token.kind)) [
      | inl trivia ↦
          let later : IsFirst first rest = solid-first rest more first (ap (λ b. cond b (solid rest) (token_part t token ∷ rest)) (sym trivia) ∙ e) in
          record { no_trivia = later.no_trivia; closes_is = ap (λ b. cond b (closes rest) (is_closing token.kind)) trivia ∙ later.closes_is }
      | inr other ↦
          let at : token_part t token ∷ rest ≡ first ∷ more = ap (λ b. cond b (solid rest) (token_part t token ∷ rest)) (sym other) ∙ e in
          let same : token_part t token ≡ first = cc in
          record { no_trivia = ap is_trivia_part (sym same) ∙ other; closes_is = ap (λ b. cond b (closes rest) (is_closing token.kind)) other ∙ ap closes_part same }
    ]
solid-first (node_part node ∷ rest) more first e =
    let same : node_part node ≡ first = cc in
    record { no_trivia = ap is_trivia_part (sym same); closes_is = ap closes_part same }

pub solid-none : (rest : List Part) → solid rest ≡ [] → closes rest ≡ false
solid-none [] e = refl
solid-none (token_part t token ∷ rest) e =
    elim (cases_Bool (is_trivia token.kind)) [
      | inl trivia ↦ ap (λ b. cond b (closes rest) (is_closing token.kind)) trivia ∙ solid-none rest (ap (λ b. cond b (solid rest) (token_part t token ∷ rest)) (sym trivia) ∙ e)
      | inr other ↦ let at : token_part t token ∷ rest ≡ [] = ap (λ b. cond b (solid rest) (token_part t token ∷ rest)) (sym other) ∙ e in cc
    ]
solid-none (node_part node ∷ rest) e = cc

-- ** What comes next.

stays : (b : Bool) (out : List Part) (xs : List Part) (part : Part) → b ≡ false → cond b out (part ∷ xs) ≡ part ∷ xs
stays b out xs part is = rw is refl

-- what is no trivia and no comma counts
pub bare-other : (first : Part) (rest : List Part) → is_trivia_part first ≡ false → has_kind k.COMMA first ≡ false → bare (first ∷ rest) ≡ first ∷ bare rest
bare-other (token_part t token) rest no_trivia no_comma = rw (no_trivia, no_comma) refl
bare-other (node_part node) rest no_trivia no_comma = refl

-- so does a comma, unless a bracket closes behind it
pub bare-comma : (first : Part) (rest : List Part) → is_trivia_part first ≡ false → closes rest ≡ false → bare (first ∷ rest) ≡ first ∷ bare rest
bare-comma (token_part t token) rest no_trivia unclosed = stays (leaves_out (token_part t token) rest) (bare rest) (bare rest) (token_part t token) (none (is_trivia token.kind) (same_kind token.kind k.COMMA) (closes rest) no_trivia unclosed)
  where
    none : (a b c : Bool) → a ≡ false → c ≡ false → (a || (b && c)) ≡ false
    none true b c p q = cc
    none false true c p q = q
    none false false c p q = refl
bare-comma (node_part node) rest no_trivia unclosed = refl

pub bare-closed : (first : Part) (rest : List Part) → has_kind k.COMMA first ≡ true → closes rest ≡ true → bare (first ∷ rest) ≡ bare rest
bare-closed (token_part t token) rest comma closed = passed (leaves_out (token_part t token) rest) (bare rest) (bare rest) (token_part t token) (both (is_trivia token.kind) (same_kind token.kind k.COMMA) (closes rest) comma closed)
  where
    both : (a b c : Bool) → b ≡ true → c ≡ true → (a || (b && c)) ≡ true
    both true b c p q = refl
    both false b c p q = rw (p, q) refl
bare-closed (node_part node) rest comma closed = cc

-- a closing bracket is no comma
closing-no_comma : (kind : SyntaxKind) (b : Bool) → is_closing kind ≡ true → b ≡ same_kind kind k.COMMA → b ≡ false
unfolding is_closing
closing-no_comma kind false closing is = refl
closing-no_comma kind true closing is =
    let same : kind ≡ k.COMMA = same_kind-equal kind k.COMMA (sym is) in
    let e : false ≡ true = subst (λ kind. is_closing kind ≡ true) same closing in
    cc

closes-no_comma : (first : Part) → closes_part first ≡ true → has_kind k.COMMA first ≡ false
closes-no_comma (token_part t token) closed = closing-no_comma token.kind (same_kind token.kind k.COMMA) closed refl
closes-no_comma (node_part node) closed = refl

-- ** Behind a comma.

pub comma-last : (comma : Part) (rest : List Part) → is_trivia_part comma ≡ false → solid rest ≡ [] → bare (comma ∷ rest) ≡ comma ∷ []
comma-last comma rest no_trivia none =
    bare-comma comma rest no_trivia (solid-none rest none) ∙ ap (λ xs. comma ∷ xs) (sym (bare-solid rest) ∙ ap bare none)

pub comma-closed : (comma first : Part) (rest more : List Part) → has_kind k.COMMA comma ≡ true → solid rest ≡ first ∷ more → closes_part first ≡ true
    → bare (comma ∷ rest) ≡ first ∷ bare more
comma-closed comma first rest more is_comma next closed =
    let is_first = solid-first rest more first next in
    bare-closed comma rest is_comma (is_first.closes_is ∙ closed)
    ∙ sym (bare-solid rest)
    ∙ ap bare next
    ∙ bare-other first more is_first.no_trivia (closes-no_comma first closed)

pub comma-counts : (comma first : Part) (rest more : List Part) → is_trivia_part comma ≡ false → solid rest ≡ first ∷ more → closes_part first ≡ false
    → bare (comma ∷ rest) ≡ comma ∷ bare (first ∷ more)
comma-counts comma first rest more no_trivia next not_closed =
    bare-comma comma rest no_trivia ((solid-first rest more first next).closes_is ∙ not_closed)
    ∙ ap (λ xs. comma ∷ xs) (sym (bare-solid rest) ∙ ap bare next)

pub none-counts : (parts : List Part) → solid parts ≡ [] → bare parts ≡ []
none-counts parts none = sym (bare-solid parts) ∙ ap bare none

pub first-counts : (first : Part) (parts more : List Part) → solid parts ≡ first ∷ more → has_kind k.COMMA first ≡ false → bare parts ≡ first ∷ bare more
first-counts first parts more next no_comma =
    sym (bare-solid parts) ∙ ap bare next ∙ bare-other first more (solid-first parts more first next).no_trivia no_comma

pub first-no_trivia : (first : Part) (parts more : List Part) → solid parts ≡ first ∷ more → is_trivia_part first ≡ false
first-no_trivia first parts more next = (solid-first parts more first next).no_trivia

pub comma-next : (first : Part) (parts more xs : List Part) → solid parts ≡ first ∷ more → bare (first ∷ more) ≡ xs → bare parts ≡ xs
comma-next first parts more xs next is = sym (bare-solid parts) ∙ ap bare next ∙ is

-- ** Going over siblings.

pub tail_has : (P : Element → Type 0) (x : Element) (xs : List Element) → All P (x ∷ xs) → All P xs
tail_has P x xs h i d lt = h (suc i) d (omega arith)

pub kept-then : (xs ys zs : List Element) → AreKept xs ys → AreKept ys zs → AreKept xs zs
kept-then xs ys zs a b = record {
  has = λ code h. b.has code (a.has code h);
  below = λ code n h. b.below code n (a.below code n h);
  fewer = let p = a.fewer in let q = b.fewer in omega arith;
}

-- without the first one
pub kept-rest : (x : Element) (xs : List Element) → AreKept (x ∷ xs) xs
kept-rest x xs = record {
  has = λ code h. tail_has (HasElement code) x xs h;
  below = λ code n h. tail_has (IsElementBelow code n) x xs h;
  fewer = omega arith;
}

-- with another one in front
pub kept-front : (x : Element) (xs ys : List Element) → AreKept xs ys → AreKept (x ∷ xs) (x ∷ ys)
kept-front x xs ys a = record {
  has = λ code h. front (HasElement code) (h 0 x (omega arith)) (a.has code (tail_has (HasElement code) x xs h));
  below = λ code n h. front (IsElementBelow code n) (h 0 x (omega arith)) (a.below code n (tail_has (IsElementBelow code n) x xs h));
  fewer = let p = a.fewer in omega arith;
}
  where
    front : (P : Element → Type 0) → P x → All P ys → All P (x ∷ ys)
    front P p h zero d lt = p
    front P p h (suc i) d lt = h i d (omega arith)

-- ** The answers of `behind_comma` and `next_bare`.

pub last-answer : (code : Syntax) (comma : Element) (before left : List Element) → is_trivia_part (part_of code comma) ≡ false
    → solid (map (part_of code) before) ≡ map (part_of code) left → left ≡ []
    → bare (part_of code comma ∷ map (part_of code) before) ≡ part_of code comma ∷ bare (map (part_of code) left)
last-answer code comma before left no_trivia next none =
    comma-last (part_of code comma) (map (part_of code) before) no_trivia (next ∙ ap (map (part_of code)) none)
    ∙ ap (λ xs. part_of code comma ∷ bare (map (part_of code) xs)) (sym none)

pub closed-answer : (code : Syntax) (comma first : Element) (before left : List Element) → has_kind k.COMMA (part_of code comma) ≡ true
    → solid (map (part_of code) before) ≡ part_of code first ∷ map (part_of code) left → closes_part (part_of code first) ≡ true
    → bare (part_of code comma ∷ map (part_of code) before) ≡ part_of code first ∷ bare (map (part_of code) left)
closed-answer code comma first before left is_comma next closed =
    comma-closed (part_of code comma) (part_of code first) (map (part_of code) before) (map (part_of code) left) is_comma next closed

pub not_held : (siblings : Siblings) → siblings.held ≡ None → siblings_left siblings ≡ siblings.left
not_held siblings none = ap (λ held. option_to_list held ++ siblings.left) none

pub open-answer : (code : Syntax) (comma first : Element) (before : List Element) (now : Siblings) → is_trivia_part (part_of code comma) ≡ false
    → solid (map (part_of code) before) ≡ part_of code first ∷ map (part_of code) (siblings_left now) → now.held ≡ None → closes_part (part_of code first) ≡ false
    → bare (part_of code comma ∷ map (part_of code) before) ≡ part_of code comma ∷ bare (map (part_of code) (first ∷ now.left))
open-answer code comma first before now no_trivia next none not_closed =
    comma-counts (part_of code comma) (part_of code first) (map (part_of code) before) (map (part_of code) (siblings_left now)) no_trivia next not_closed
    ∙ ap (λ xs. part_of code comma ∷ bare (part_of code first ∷ map (part_of code) xs)) (not_held now none)

pub open-kept : (comma first : Element) (before : List Element) (now : Siblings) → AreKept before (first ∷ siblings_left now) → now.held ≡ None
    → AreKept (comma ∷ before) (comma ∷ first ∷ now.left)
open-kept comma first before now kept none =
    kept-front comma before (first ∷ now.left) (subst (λ xs. AreKept before (first ∷ xs)) (not_held now none) kept)

pub closed-kept : (comma : Element) (before left : List Element) → AreKept before left → AreKept (comma ∷ before) left
closed-kept comma before left kept = kept-then (comma ∷ before) before left (kept-rest comma before) kept

pub none-answer : (code : Syntax) (before left : List Element) → solid (map (part_of code) before) ≡ map (part_of code) left → left ≡ []
    → bare (map (part_of code) before) ≡ bare (map (part_of code) left)
none-answer code before left next none =
    none-counts (map (part_of code) before) (next ∙ ap (map (part_of code)) none) ∙ ap (λ xs. bare (map (part_of code) xs)) (sym none)

pub first-answer : (code : Syntax) (first : Element) (before left : List Element) → solid (map (part_of code) before) ≡ part_of code first ∷ map (part_of code) left
    → has_kind k.COMMA (part_of code first) ≡ false → bare (map (part_of code) before) ≡ part_of code first ∷ bare (map (part_of code) left)
first-answer code first before left next no_comma = first-counts (part_of code first) (map (part_of code) before) (map (part_of code) left) next no_comma

pub first-solid : (code : Syntax) (first : Element) (before left : List Element) → solid (map (part_of code) before) ≡ part_of code first ∷ map (part_of code) left
    → is_trivia_part (part_of code first) ≡ false
first-solid code first before left next = first-no_trivia (part_of code first) (map (part_of code) before) (map (part_of code) left) next

pub comma-answer : (code : Syntax) (first came : Element) (before mid left : List Element) → solid (map (part_of code) before) ≡ part_of code first ∷ map (part_of code) mid
    → bare (part_of code first ∷ map (part_of code) mid) ≡ part_of code came ∷ bare (map (part_of code) left)
    → bare (map (part_of code) before) ≡ part_of code came ∷ bare (map (part_of code) left)
comma-answer code first came before mid left next is =
    comma-next (part_of code first) (map (part_of code) before) (map (part_of code) mid) (part_of code came ∷ bare (map (part_of code) left)) next is

-- so far only trivia were passed
pub record IsPassed (code : Syntax) (before now : List Element) : Type 0 where
  pub kept : AreKept before now
  pub has : All (HasElement code) now
  pub same : solid (map (part_of code) now) ≡ solid (map (part_of code) before)

pub passed-next : (code : Syntax) (before now left : List Element) (child : Element) → IsPassed code before now → now ≡ child ∷ left
    → is_trivia_part (part_of code child) ≡ true → IsPassed code before left
passed-next code before now left child so_far is trivia = record {
  kept = kept-then before now left so_far.kept (subst (λ xs. AreKept xs left) (sym is) (kept-rest child left));
  has = tail_has (HasElement code) child left (subst (All (HasElement code)) is so_far.has);
  same =
      ap (λ b. cond b (solid (map (part_of code) left)) (part_of code child ∷ map (part_of code) left)) (sym trivia)
      ∙ ap (λ xs. solid (map (part_of code) xs)) (sym is)
      ∙ so_far.same;
}

pub passed-kept : (code : Syntax) (before now came : List Element) → IsPassed code before now → now ≡ came → AreKept before came
passed-kept code before now came so_far is = subst (AreKept before) is so_far.kept

-- ** The elements of a node's children are below it.

element_below : (code : Syntax) (n : ℕ) (part : Part) → IsChild code n part → IsElementBelow code n (element_of part)
element_below code n (token_part t token) child = child.0
element_below code n (node_part node) child = (child.0, child.3)

below_cons : (code : Syntax) (n : ℕ) (part : Part) (rest : List Part) → IsChild code n part → All (IsElementBelow code n) (map element_of rest)
    → All (IsElementBelow code n) (element_of part ∷ map element_of rest)
below_cons code n part rest child all zero d lt = element_below code n part child
below_cons code n part rest child all (suc i) d lt = all i d (omega arith)

below_map : (code : Syntax) (n : ℕ) (parts : List Part) → All (IsChild code n) parts → All (IsElementBelow code n) (map element_of parts)
below_map code n [] h = λ i d lt. absurd (omega arith)
below_map code n (part ∷ rest) h = below_cons code n part rest (h 0 part (omega arith)) (below_map code n rest (λ i d lt. h (suc i) d (omega arith)))

pub elements_below : (code : Syntax) (n : ℕ) → HasNode code n → All (IsElementBelow code n) (elements_of (node_of code n))
elements_below code n has = below_map code n (parts_of (node_of code n)) (children_known code n has)

pub below-has : (code : Syntax) (n : ℕ) (x : Element) → IsElementBelow code n x → HasElement code x
below-has code n (element.Node m) below = below.0
below-has code n (element.Token t) below = below

pub below_has : (code : Syntax) (n : ℕ) (xs : List Element) → All (IsElementBelow code n) xs → All (HasElement code) xs
below_has code n xs h = All-weaker (IsElementBelow code n) (HasElement code) (below-has code n) xs h
