-- The rows of a forest, read from the right, give its nodes' rows in preorder.
use Rattle.std.proofs.Common.{◌≡◌, ℕ, suc, ◌+◌, ◌-◌, ◌<◌, ◌≤◌, Bool, true, false, ◌||◌, inl, inr, List, [], ◌∷◌, ◌++◌, length, map, refl, sym, ◌∙◌, ap, subst, arith, append_assoc, length-append}
use Rattle.ssr_syntax_kinds.specs.declared.kinds.SyntaxKind.{SyntaxKind}
use Rattle.std.specs.Prelude.{⊤, max, nat_le, nat_lt, reverse, Result, Ok, Err}
use Rattle.std.specs.Result.{IsErr, IsErrAnd}
use Rattle.std.proofs.lemmas.List.{append-nil, reverse-append, reverse-reverse, length-reverse}
use Rattle.std.proofs.lemmas.Bool.{ltb-true, ltb-false, lt-ltb, le-ltb, lt-leb, le-leb, or_cases, or_parts}
use Rattle.std.proofs.Math.Bool.{or-false}
use Rattle.ssr_syntax_tree.specs.declared.rows.NodeRow.{NodeRow}
use Rattle.ssr_syntax_rows.specs.declared.preorder.Open.{Open}
use Rattle.ssr_syntax_forms.specs.declared.fault.Fault.{Fault}
use Rattle.ssr_syntax_rows.proofs.Leaves.{length-rows}
use Rattle.ssr_syntax_forms.specs.Places.{Place, behind_token}
use Rattle.ssr_syntax_forms.specs.Trees.{Forest, done, leaf, tree, nodes, height}
use Rattle.ssr_syntax_rows.specs.Leaves.{leaves, after, first_in, past_in, rows}
use Rattle.ssr_syntax_rows.specs.Preorder.{node_rows, tree_rows, IsDepthFault, OkUnlessDeep}
use Rattle.ssr_syntax_rows.specs.Private.Turning.{TurningRows}
use Rattle.ssr_syntax_tree.specs.Syntax.{most_deep}
use Rattle.ssr_syntax_rows.specs.Private.OpenNodes.{still_open, closed, number_of, first_of, opened, from_right, is_deeper, IsClosed, IsFromRight}

-- Whether a node of the forest has more than `limit` others above it, where so many stand above the forest.
abbrev pub deeper_by : ℕ → ℕ → Forest → Bool
deeper_by limit above done = false
deeper_by limit above (leaf kind tokens x) = deeper_by limit above x
deeper_by limit above (tree kind kids x) = deeper_by limit above x || (nat_lt limit above || deeper_by limit (1 + above) kids)

-- the open nodes begin at a place or before it
abbrev pub BeginBy : ℕ → List Open → Type 0
BeginBy place [] = ⊤
BeginBy place (inner ∷ above) = (inner.start ≤ place) × BeginBy place above

begins_later : (place later : ℕ) (above : List Open) → place ≤ later → BeginBy place above → BeginBy later above
begins_later place later [] le h = tt
begins_later place later (inner ∷ above) le h = (omega (arith, h.0), begins_later place later above le h.1)

all_open : (place later : ℕ) (above : List Open) → place < later → BeginBy place above → still_open later above ≡ above
all_open place later [] lt h = refl
all_open place later (inner ∷ above) lt h =
    let e : nat_le later inner.start ≡ false = lt-leb later inner.start (omega (arith, h.0)) in
    rw e

none_closed : (place later : ℕ) (above : List Open) → place < later → BeginBy place above → closed later above ≡ []
none_closed place later [] lt h = refl
none_closed place later (inner ∷ above) lt h =
    let e : nat_le later inner.start ≡ false = lt-leb later inner.start (omega (arith, h.0)) in
    rw e

length-reversed : (xs more : List NodeRow) → length (reverse xs ++ more) ≡ length xs + length more
length-reversed xs more = rw (length-append, length-reverse)

pub length-reversed_rows : (x : Forest) (p : Place) (more : List NodeRow) → length (reverse (rows x p) ++ more) ≡ nodes x + length more
length-reversed_rows x p more = length-reversed (rows x p) more ∙ ap (λ n. n + length more) (length-rows x p)

-- a node that begins where the rest ends is closed first
closes_first : (inner : Open) (above : List Open) (rest : List NodeRow) → length rest ≤ inner.start
    → from_right (inner ∷ above) rest ≡ inner.node ∷ from_right above rest
closes_first inner above [] h = refl
closes_first inner above (row ∷ rest) h =
    let e : nat_le (1 + length rest) inner.start ≡ true = le-leb (1 + length rest) inner.start (omega arith) in
    rw e

-- where all open nodes stay open
stay : (above : List Open) (row : NodeRow) (rest : List NodeRow) → BeginBy (length rest) above
    → from_right above (row ∷ rest) ≡ from_right (opened row (length rest) above ∷ above) rest
stay above row rest h =
    let e = all_open (length rest) (1 + length rest) above (omega arith) h in
    let f = none_closed (length rest) (1 + length rest) above (omega arith) h in
    rw (e, f)

reversed_middle : (k x more : List NodeRow) (r : NodeRow) → reverse (k ++ (r ∷ x)) ++ more ≡ reverse x ++ (r ∷ (reverse k ++ more))
reversed_middle k x more r =
    let e : k ++ (r ∷ x) ≡ (k ++ (r ∷ [])) ++ x = sym (append_assoc k (r ∷ []) x) in
    rw (e, reverse-append, reverse-append, append_assoc)

reversed_node : (k x rest : List NodeRow) (r : NodeRow) → reverse (r ∷ (k ++ x)) ++ rest ≡ reverse x ++ (reverse k ++ (r ∷ rest))
reversed_node k x rest r =
    let e : r ∷ (k ++ x) ≡ (r ∷ []) ++ (k ++ x) = refl in
    rw (reverse-append (r ∷ []) (k ++ x), reverse-append k x, append_assoc, append_assoc)

-- ** One tree's row comes: the parser stood at p in front of what is below it.

abbrev row_of : SyntaxKind → Forest → Place → NodeRow
row_of kind kids p =
    record { kind = kind; parent = 0; first = first_in (leaves kids) p; past = past_in (leaves kids) p; below = nodes kids }

-- what comes then: the rows below it, and more
abbrev rest_of : Forest → Place → List NodeRow → List NodeRow
rest_of kids p more = reverse (rows kids p) ++ more

-- its open node: `before` rows come behind those below it
abbrev node_of : SyntaxKind → Forest → Place → ℕ → List Open → Open
node_of kind kids p before above =
    record {
      start = before;
      number = before + length above;
      node = record {
        kind = kind;
        parent = number_of above;
        first = max (first_in (leaves kids) p) (first_of above);
        past = max (past_in (leaves kids) p) (first_of above);
        below = nodes kids;
      };
    }

opened_is : (kind : SyntaxKind) (kids : Forest) (p : Place) (before place : ℕ) (above : List Open)
    → place ≡ nodes kids + before → opened (row_of kind kids p) place above ≡ node_of kind kids p before above
opened_is kind kids p before place above e =
    let start : place - nodes kids ≡ before = omega arith in
    rw start

-- what is known then
record TreeFacts (kind : SyntaxKind) (kids : Forest) (p : Place) (above : List Open) (more : List NodeRow) : Type 0 where
  count : length (rest_of kids p more) ≡ nodes kids + length more
  later : BeginBy (length (rest_of kids p more)) above
  even_later : BeginBy (suc (length (rest_of kids p more))) above
  opens_node : opened (row_of kind kids p) (length (rest_of kids p more)) above ≡ node_of kind kids p (length more) above

facts_of_tree : (kind : SyntaxKind) (kids : Forest) (p : Place) (above : List Open) (more : List NodeRow) → BeginBy (length more) above
    → TreeFacts kind kids p above more
facts_of_tree kind kids p above more b =
    let rest : List NodeRow = rest_of kids p more in
    let rest_length : length rest ≡ nodes kids + length more = length-reversed_rows kids p more in
    record {
      count = rest_length;
      later = begins_later (length more) (length rest) above (omega arith) b;
      even_later = begins_later (length more) (suc (length rest)) above (omega arith) b;
      opens_node = opened_is kind kids p (length more) (length rest) above rest_length;
    }

pub placed : (f : Forest) (p : Place) (above : List Open) (more : List NodeRow) → BeginBy (length more) above
    → from_right above (reverse (rows f p) ++ more)
    ≡ reverse (node_rows (number_of above) (first_of above) (length more + length above) p f) ++ from_right above more
placed done p above more b = refl
placed (leaf kind tokens x) p above more b = placed x (behind_token (length tokens) p) above more b
placed (tree kind kids x) p above more b =
    let us = leaves kids in
    let q : Place = after us p in
    let row : NodeRow = row_of kind kids p in
    let rest : List NodeRow = rest_of kids p more in
    let inner : Open = node_of kind kids p (length more) above in
    let now = facts_of_tree kind kids p above more b in
    let xs : List NodeRow = node_rows (number_of above) (first_of above) (1 + (length more + length above) + nodes kids) q x in
    let ks : List NodeRow = node_rows (length more + length above) (max (first_in us p) (first_of above)) (1 + (length more + length above)) p kids in
    let right : from_right above (reverse (rows x q) ++ (row ∷ rest)) ≡ reverse xs ++ from_right above (row ∷ rest) =
    placed x q above (row ∷ rest) now.even_later
    ∙ ap (λ m. reverse (node_rows (number_of above) (first_of above) m q x) ++ from_right above (row ∷ rest)) (omega (arith, now.count)) in
    let here : from_right above (row ∷ rest) ≡ from_right (inner ∷ above) rest =
    stay above row rest now.later ∙ ap (λ o. from_right (o ∷ above) rest) now.opens_node in
    let below : from_right (inner ∷ above) rest ≡ reverse ks ++ from_right (inner ∷ above) more =
    placed kids p (inner ∷ above) more (omega arith, b)
    ∙ ap (λ m. reverse (node_rows (length more + length above) (max (first_in us p) (first_of above)) m p kids) ++ from_right (inner ∷ above) more) (omega arith) in
    let last : from_right (inner ∷ above) more ≡ inner.node ∷ from_right above more =
    closes_first inner above more (omega arith) in
    ap (from_right above) (reversed_middle (rows kids p) (rows x q) more row)
    ∙ right
    ∙ ap (λ l. reverse xs ++ l) (here ∙ below ∙ ap (λ l. reverse ks ++ l) last)
    ∙ sym (reversed_node ks xs (from_right above more) inner.node)

-- ** How deep the nodes stand.

closes_unseen : (limit : ℕ) (inner : Open) (above : List Open) (rest : List NodeRow) → length rest ≤ inner.start
    → is_deeper limit (inner ∷ above) rest ≡ is_deeper limit above rest
closes_unseen limit inner above [] h = refl
closes_unseen limit inner above (row ∷ rest) h =
    let e : nat_le (1 + length rest) inner.start ≡ true = le-leb (1 + length rest) inner.start (omega arith) in
    rw e

depth_here : (limit : ℕ) (above : List Open) (row : NodeRow) (rest : List NodeRow) → BeginBy (length rest) above
    → is_deeper limit above (row ∷ rest)
    ≡ (nat_lt limit (length above) || is_deeper limit (opened row (length rest) above ∷ above) rest)
depth_here limit above row rest h =
    let e = all_open (length rest) (1 + length rest) above (omega arith) h in
    rw e

four : (a b c d : Bool) → (a || (b || (c || d))) ≡ ((a || (b || c)) || d)
four true b c d = refl
four false true c d = refl
four false false c d = refl

-- a node of the forest or of what is to its left is too deep
pub depth_told : (limit : ℕ) (f : Forest) (p : Place) (above : List Open) (more : List NodeRow) → BeginBy (length more) above
    → is_deeper limit above (reverse (rows f p) ++ more)
    ≡ (deeper_by limit (length above) f || is_deeper limit above more)
depth_told limit done p above more b = refl
depth_told limit (leaf kind tokens x) p above more b = depth_told limit x (behind_token (length tokens) p) above more b
depth_told limit (tree kind kids x) p above more b =
    let q : Place = after (leaves kids) p in
    let row : NodeRow = row_of kind kids p in
    let rest : List NodeRow = rest_of kids p more in
    let inner : Open = node_of kind kids p (length more) above in
    let now = facts_of_tree kind kids p above more b in
    let right : is_deeper limit above (reverse (rows x q) ++ (row ∷ rest)) ≡ (deeper_by limit (length above) x || is_deeper limit above (row ∷ rest)) =
    depth_told limit x q above (row ∷ rest) now.even_later in
    let here : is_deeper limit above (row ∷ rest) ≡ (nat_lt limit (length above) || is_deeper limit (inner ∷ above) rest) =
    depth_here limit above row rest now.later
    ∙ ap (λ o. nat_lt limit (length above) || is_deeper limit (o ∷ above) rest) now.opens_node in
    let below : is_deeper limit (inner ∷ above) rest ≡ (deeper_by limit (length (inner ∷ above)) kids || is_deeper limit (inner ∷ above) more) =
    depth_told limit kids p (inner ∷ above) more (omega arith, b) in
    let last : is_deeper limit (inner ∷ above) more ≡ is_deeper limit above more =
    closes_unseen limit inner above more (omega arith) in
    let deep : Bool = deeper_by limit (1 + length above) kids in
    let same : deeper_by limit (length (inner ∷ above)) kids ≡ deep = ap (λ m. deeper_by limit m kids) (omega arith) in
    ap (is_deeper limit above) (reversed_middle (rows kids p) (rows x q) more row)
    ∙ right
    ∙ ap (λ l. deeper_by limit (length above) x || l)
    (here ∙ ap (λ l. nat_lt limit (length above) || l) (below ∙ ap (λ l. l || is_deeper limit (inner ∷ above) more) same ∙ ap (λ l. deep || l) last))
    ∙ four (deeper_by limit (length above) x) (nat_lt limit (length above)) deep (is_deeper limit above more)

pub too_high : (limit above : ℕ) (f : Forest) → deeper_by limit above f ≡ true → 1 + limit < above + height f
too_high limit above done h = absurd (cc)
too_high limit above (leaf kind tokens x) h = too_high limit above x h
too_high limit above (tree kind kids x) h =
    elim (or_cases (deeper_by limit above x) (nat_lt limit above || deeper_by limit (1 + above) kids) h) [
      | inl e ↦ omega (arith, too_high limit above x e)
      | inr e ↦ elim (or_cases (nat_lt limit above) (deeper_by limit (1 + above) kids) e) [
        | inl lt ↦ omega (arith, ltb-true limit above lt)
        | inr deep ↦ omega (arith, too_high limit (1 + above) kids deep)
      ]
    ]

pub not_high : (limit above : ℕ) (f : Forest) → above ≤ 1 + limit → deeper_by limit above f ≡ false → above + height f ≤ 1 + limit
not_high limit above done le h = omega arith
not_high limit above (leaf kind tokens x) le h = not_high limit above x le h
not_high limit above (tree kind kids x) le h =
    let e = or_parts (deeper_by limit above x) (nat_lt limit above || deeper_by limit (1 + above) kids) h in
    let f = or_parts (nat_lt limit above) (deeper_by limit (1 + above) kids) e.1 in
    let here : above ≤ limit = ltb-false limit above f.0 in
    omega (arith, not_high limit above x le e.0, not_high limit (1 + above) kids (omega arith) f.1)

-- ** A whole tree.

-- the open root
abbrev pub root_open : SyntaxKind → ℕ → ℕ → Open
root_open kind tokens below =
    record { start = 0; number = 0; node = record { kind = kind; parent = 0; first = 0; past = tokens; below = below } }

same_test : (a b : Bool) → (a ≡ true → b ≡ true) → (a ≡ false → b ≡ false) → a ≡ b
same_test true b yes_case no_case = sym (yes_case refl)
same_test false b yes_case no_case = sym (no_case refl)

abbrev pub PlacedWhole : Place → ℕ → SyntaxKind → Forest → List NodeRow → NodeRow → Type 0
PlacedWhole p tokens kind kids below root =
    (from_right (root_open root.kind tokens (length below) ∷ []) (reverse below) ≡ reverse (tree_rows p tokens kind kids))
    × (is_deeper most_deep (root_open root.kind tokens (length below) ∷ []) (reverse below) ≡ nat_lt most_deep (height kids))

whole_rows : (p : Place) (tokens : ℕ) (kind : SyntaxKind) (kids : Forest) → PlacedWhole p tokens kind kids (rows kids p) (row_of kind kids p)
whole_rows p tokens kind kids =
    let root : Open = root_open kind tokens (length (rows kids p)) in
    let none : reverse (rows kids p) ++ [] ≡ reverse (rows kids p) = append-nil (reverse (rows kids p)) in
    let count : length (rows kids p) ≡ nodes kids = length-rows kids p in
    let node : ℕ → NodeRow = λ n. record { kind = kind; parent = 0; first = 0; past = tokens; below = n } in (
      ap (from_right (root ∷ [])) (sym none)
          ∙ placed kids p (root ∷ []) [] (omega arith, tt)
          ∙ sym (reverse-append (root.node ∷ []) (node_rows 0 0 1 p kids))
          ∙ ap (λ n. reverse (node n ∷ node_rows 0 0 1 p kids)) count,
      ap (is_deeper most_deep (root ∷ [])) (sym none)
          ∙ depth_told most_deep kids p (root ∷ []) [] (omega arith, tt)
          ∙ or-false (deeper_by most_deep 1 kids)
          ∙ same_test (deeper_by most_deep 1 kids) (nat_lt most_deep (height kids))
          (λ e. lt-ltb most_deep (height kids) (omega (arith, too_high most_deep 1 kids e)))
          (λ e. le-ltb most_deep (height kids) (omega (arith, not_high most_deep 1 kids (omega arith) e))),
    )

snoc_same : (xs ys : List NodeRow) (x y : NodeRow) → xs ++ (x ∷ []) ≡ ys ++ (y ∷ []) → (xs ≡ ys) × (x ≡ y)
snoc_same xs ys x y e =
    let turned : x ∷ reverse xs ≡ y ∷ reverse ys =
    sym (reverse-append xs (x ∷ [])) ∙ ap reverse e ∙ reverse-append ys (y ∷ []) in
    let front : reverse xs ≡ reverse ys = cc in
    (sym (reverse-reverse xs) ∙ ap reverse front ∙ reverse-reverse ys, cc)

pub whole_placed : (p : Place) (tokens : ℕ) (kind : SyntaxKind) (kids : Forest) (below : List NodeRow) (root : NodeRow)
    → below ++ (root ∷ []) ≡ rows (tree kind kids done) p → PlacedWhole p tokens kind kids below root
whole_placed p tokens kind kids below root e =
    let last : NodeRow = row_of kind kids p in
    let same = snoc_same below (rows kids p) root last e in
    subst (λ r. PlacedWhole p tokens kind kids below r) (sym same.1)
    (subst (λ l. PlacedWhole p tokens kind kids l last) (sym same.0) (whole_rows p tokens kind kids))

-- ** The ends of the loops.

closes_all : (above : List Open) → closed 0 above ≡ map (λ inner. inner.node) above
closes_all [] = refl
closes_all (inner ∷ above) =
    let e : nat_le 0 inner.start ≡ true = le-leb 0 inner.start (omega arith) in
    rw (e, closes_all above)

none_left : (above : List Open) → still_open 0 above ≡ []
none_left [] = refl
none_left (inner ∷ above) =
    let e : nat_le 0 inner.start ≡ true = le-leb 0 inner.start (omega arith) in
    rw (e, none_left above)

pub all_closed : (old new : List Open) → reverse new ≡ still_open 0 (reverse old) → length new ≡ 0
all_closed old new h = sym (length-reverse new) ∙ ap length (h ∙ none_left (reverse old))

pub closed_at_end : (rest rows : List NodeRow) (above old new : List Open)
    (before written : List NodeRow) (t : TurningRows)
    → rest ≡ []
    → written ++ from_right (reverse old) (reverse rest) ≡ before ++ from_right (reverse above) (reverse rows)
    → is_deeper most_deep (reverse old) (reverse rest) ≡ is_deeper most_deep (reverse above) (reverse rows)
    → IsClosed 0 old new written t.turned → IsFromRight rows above before (Ok t)
closed_at_end [] rows above old new before written t none e f h =
    (sym f, h.1 ∙ ap (λ l. written ++ l) (closes_all (reverse old)) ∙ e)
closed_at_end (row ∷ rest) rows above old new before written t none e f h = absurd (omega (arith, ap length none))

-- ** One row: `mid` are the nodes that stay open before it, `inner` is its node.
module _ (row : NodeRow) (place : ℕ) (old mid : List Open) (written kept : List NodeRow) (inner : Open)
    (open_is : reverse mid ≡ still_open (place + 1) (reverse old))
    (kept_is : kept ≡ written ++ closed (place + 1) (reverse old))
    (few : length mid ≤ most_deep)
    (inner_is : inner ≡ opened row place (reverse mid)) where
  not_too_many : nat_lt most_deep (length (still_open (1 + place) (reverse old))) ≡ false
  not_too_many =
      let count : length (still_open (1 + place) (reverse old)) ≡ length mid =
      ap (λ n. length (still_open n (reverse old))) (omega arith) ∙ ap length (sym open_is) ∙ length-reverse mid in
      le-ltb most_deep (length (still_open (1 + place) (reverse old))) (omega arith)

  abbrev Goes : List Open → List NodeRow → List NodeRow → Type 0
  Goes above nodes front =
      (nodes ++ from_right above front ≡ written ++ from_right (reverse old) (row ∷ front))
      × (is_deeper most_deep above front ≡ is_deeper most_deep (reverse old) (row ∷ front))

  goes_open : (front : List NodeRow) → length front ≡ place → Goes (inner ∷ reverse mid) kept front
  goes_open front e =
      let still : List Open = still_open (1 + length front) (reverse old) in
      let same : reverse mid ≡ still = open_is ∙ ap (λ n. still_open n (reverse old)) (omega arith) in
      let above : inner ∷ reverse mid ≡ opened row (length front) still ∷ still =
      ap (λ o. o ∷ reverse mid) (inner_is ∙ ap (λ n. opened row n (reverse mid)) (sym e))
      ∙ ap (λ s. opened row (length front) s ∷ s) same in
      let none : nat_lt most_deep (length still) ≡ false = ap (λ n. nat_lt most_deep (length (still_open (1 + n) (reverse old)))) e ∙ not_too_many in (
        ap (λ l. l ++ from_right (inner ∷ reverse mid) front) (kept_is ∙ ap (λ n. written ++ closed n (reverse old)) (omega arith))
            ∙ append_assoc written (closed (1 + length front) (reverse old)) (from_right (inner ∷ reverse mid) front)
            ∙ ap (λ s. written ++ (closed (1 + length front) (reverse old) ++ from_right s front)) above,
        ap (λ s. is_deeper most_deep s front) above
            ∙ ap (λ b. b || is_deeper most_deep (opened row (length front) still ∷ still) front) (sym none),
      )

  abbrev Went : List Open → List NodeRow → Type 0
  Went above nodes =
      (nat_lt most_deep (length (still_open (1 + place) (reverse old))) ≡ false)
      × ((front : List NodeRow) → length front ≡ place → Goes above nodes front)

  -- its node stays open
  pub goes_on : (new : List Open) → new ≡ mid ++ (inner ∷ []) → Went (reverse new) kept
  goes_on new new_is =
      let turned : reverse new ≡ inner ∷ reverse mid = ap reverse new_is ∙ reverse-append mid (inner ∷ []) in
      (not_too_many, λ front e. subst (λ s. Goes s kept front) (sym turned) (goes_open front e))

  -- its node is written at once
  goes_written : (nodes : List NodeRow) → inner.start ≡ place → nodes ≡ kept ++ (inner.node ∷ [])
      → (front : List NodeRow) → length front ≡ place → Goes (reverse mid) nodes front
  goes_written nodes here nodes_are front e =
      let le : length front ≤ inner.start = omega arith in
      let went = goes_open front e in (
        ap (λ l. l ++ from_right (reverse mid) front) nodes_are
            ∙ append_assoc kept (inner.node ∷ []) (from_right (reverse mid) front)
            ∙ ap (λ l. kept ++ l) (sym (closes_first inner (reverse mid) front le))
            ∙ went.0,
        sym (closes_unseen most_deep inner (reverse mid) front le) ∙ went.1,
      )

  pub goes_on_written : (nodes : List NodeRow) → inner.start ≡ place → nodes ≡ kept ++ (inner.node ∷ []) → Went (reverse mid) nodes
  goes_on_written nodes here nodes_are = (not_too_many, goes_written nodes here nodes_are)

-- all rows of a tree read
pub all_placed : (p : Place) (tokens : ℕ) (kind : SyntaxKind) (kids : Forest) (below : List NodeRow) (root : NodeRow) (nodes : List NodeRow)
    → below ++ (root ∷ []) ≡ rows (tree kind kids done) p
    → is_deeper most_deep (root_open root.kind tokens (length below) ∷ []) (reverse below) ≡ false
    → nodes ≡ from_right (root_open root.kind tokens (length below) ∷ []) (reverse below)
    → (nat_lt most_deep (height kids) ≡ false) × (reverse nodes ≡ tree_rows p tokens kind kids)
all_placed p tokens kind kids below root nodes e deep is =
    let whole = whole_placed p tokens kind kids below root e in
    (sym whole.1 ∙ deep, ap reverse (is ∙ whole.0) ∙ reverse-reverse (tree_rows p tokens kind kids))

pub carried : {B : Type 0} (deep same_deep : Bool) (Q : B → Type 0) (x : Fault) (r : Result B Fault)
    → IsDepthFault deep x → deep ≡ same_deep → IsErr r → IsErrAnd r (λ e. e ≡ x) → OkUnlessDeep same_deep Q r
carried deep same_deep Q x (Ok b) h same err is = cc
carried deep same_deep Q x (Err e) h same err is = subst (λ d. IsDepthFault d e) same (subst (IsDepthFault deep) (sym is) h)

module _ (p : Place) (tokens : ℕ) (kind : SyntaxKind) (kids : Forest) (below rows_now : List NodeRow) (root : NodeRow) (none opened_root : List Open)
    (split : rows_now ≡ below ++ (root ∷ []))
    (are : rows_now ≡ rows (tree kind kids done) p)
    (none_is : none ≡ [])
    (opened_is_root : opened_root ≡ none ++ (root_open root.kind tokens (length below) ∷ [])) where
  open_root : reverse opened_root ≡ root_open root.kind tokens (length below) ∷ []
  open_root = ap reverse (opened_is_root ∙ ap (λ l. l ++ (root_open root.kind tokens (length below) ∷ [])) none_is)

  pub rows_done : (before nodes : List NodeRow) → before ≡ []
      → is_deeper most_deep (reverse opened_root) (reverse below) ≡ false
      → nodes ≡ before ++ from_right (reverse opened_root) (reverse below)
      → (nat_lt most_deep (height kids) ≡ false) × (reverse nodes ≡ tree_rows p tokens kind kids)
  rows_done before nodes empty deep is =
      all_placed p tokens kind kids below root nodes (sym split ∙ are)
      (ap (λ l. is_deeper most_deep l (reverse below)) (sym open_root) ∙ deep)
      (is ∙ ap (λ l. l ++ from_right (reverse opened_root) (reverse below)) empty
      ∙ ap (λ l. from_right l (reverse below)) open_root)

  pub rows_too_deep : is_deeper most_deep (reverse opened_root) (reverse below) ≡ nat_lt most_deep (height kids)
  rows_too_deep =
      ap (λ l. is_deeper most_deep l (reverse below)) open_root
      ∙ (whole_placed p tokens kind kids below root (sym split ∙ are)).1
