-- Lists that agree up to a place, and rows that agree.
use Rattle.std.proofs.Common.{◌≡◌, ◌↔◌, IsTrue, ℕ, ◌+◌, ◌≤◌, ◌&&◌, Bool, true, List, length, map, take, Some, refl, sym, ap, ◌∙◌, arith, eq-eqb, eqb-true}
use Rattle.std.proofs.lemmas.Bool.{and_parts}
use Rattle.std.proofs.lemmas.List.{take_all, take_more_same}
use Rattle.std.proofs.lemmas.Option.{get_or_from_slice_get, slice_get_within}
use Rattle.std.specs.Prelude.{◌==◌, slice_get, string_bytes}
use Rattle.ssr_syntax_kinds.specs.declared.token_rows.TokenRow.{TokenRow}
use Rattle.ssr_syntax_tree.specs.declared.rows.NodeRow.{NodeRow}
use Rattle.ssr_syntax_tree.specs.declared.tree.Tree.TheInside.{Inside}
use Rattle.ssr_syntax_tree.specs.Private.Flat.{plain_of, syntax_of, IsFlat}
use Rattle.ssr_syntax_tree.specs.Parts.{node_row, token_rows}
use Rattle.ssr_syntax_tree.specs.Places.{nodes_of}
use Rattle.ssr_syntax_tree.specs.Syntax.{Syntax, tokens_of, source_of}
use Rattle.ssr_syntax_tree.proofs.RowLaws.{are_parts}

-- with one element more at which they agree
pub agree_more : {A : Type 0} (xs ys : List A) (n : ℕ) (x y : A) → slice_get xs n ≡ Some x → slice_get ys n ≡ Some y → x ≡ y → take n xs ≡ take n ys → take (n + 1) xs ≡ take (n + 1) ys
agree_more xs ys n x y e f same h =
    take_more_same xs ys n x (slice_get_within xs n x e) (slice_get_within ys n y f) h
    (get_or_from_slice_get xs n x x e ∙ same ∙ sym (get_or_from_slice_get ys n y x f))

-- lists that agree as far as they are long
pub agree_all : {A : Type 0} (xs ys : List A) (n : ℕ) → length xs ≤ n → length xs ≡ length ys → take n xs ≡ take n ys → xs ≡ ys
agree_all xs ys n h e same = sym (take_all n xs h) ∙ same ∙ take_all n ys (omega arith)

token_same : (one other : TokenRow) → one.kind ≡ other.kind → one.start ≡ other.start → one ≡ other
token_same one other kinds starts =
    ap (λ kind. record { kind = kind; start = one.start }) kinds ∙ ap (λ start. record { kind = other.kind; start = start }) starts

-- what a test of both parts of two rows tells
pub token_tested : (one other : TokenRow) (kinds : Bool) → (IsTrue kinds → one.kind ≡ other.kind) → (one.kind ≡ other.kind → IsTrue kinds)
    → IsTrue (kinds && (one.start == other.start)) ↔ (one ≡ other)
token_tested one other kinds told tells = (
  λ tested.
      let parts = and_parts kinds (one.start == other.start) tested in
      token_same one other (told parts.0) (eqb-true _ _ parts.1),
  λ same.
      let kind : kinds ≡ true = tells (ap (λ row. row.kind) same) in
      let start = eq-eqb one.start other.start (ap (λ row. row.start) same) in
      rw kind (rw start refl),
)

node_same : (one other : NodeRow) → one.kind ≡ other.kind → one.parent ≡ other.parent → one.first ≡ other.first → one.past ≡ other.past → one.below ≡ other.below → one ≡ other
node_same one other kinds parents firsts pasts belows =
    ap (λ kind. record { kind = kind; parent = one.parent; first = one.first; past = one.past; below = one.below }) kinds
    ∙ ap (λ parent. record { kind = other.kind; parent = parent; first = one.first; past = one.past; below = one.below }) parents
    ∙ ap (λ first. record { kind = other.kind; parent = other.parent; first = first; past = one.past; below = one.below }) firsts
    ∙ ap (λ past. record { kind = other.kind; parent = other.parent; first = other.first; past = past; below = one.below }) pasts
    ∙ ap (λ below. record { kind = other.kind; parent = other.parent; first = other.first; past = other.past; below = below }) belows

-- what a test of all parts of two rows tells
pub node_tested : (one other : NodeRow) (kinds : Bool) → (IsTrue kinds → one.kind ≡ other.kind) → (one.kind ≡ other.kind → IsTrue kinds)
    → IsTrue ((((kinds && (one.parent == other.parent)) && (one.first == other.first)) && (one.past == other.past)) && (one.below == other.below)) ↔ (one ≡ other)
node_tested one other kinds told tells = (
  λ tested.
      let below = and_parts (((kinds && (one.parent == other.parent)) && (one.first == other.first)) && (one.past == other.past)) (one.below == other.below) tested in
      let past = and_parts ((kinds && (one.parent == other.parent)) && (one.first == other.first)) (one.past == other.past) below.0 in
      let first = and_parts (kinds && (one.parent == other.parent)) (one.first == other.first) past.0 in
      let parent = and_parts kinds (one.parent == other.parent) first.0 in
      node_same one other (told parent.0) (eqb-true _ _ parent.1) (eqb-true _ _ first.1) (eqb-true _ _ past.1) (eqb-true _ _ below.1),
  λ same.
      let kind : kinds ≡ true = tells (ap (λ row. row.kind) same) in
      let parent = eq-eqb one.parent other.parent (ap (λ row. row.parent) same) in
      let first = eq-eqb one.first other.first (ap (λ row. row.first) same) in
      let past = eq-eqb one.past other.past (ap (λ row. row.past) same) in
      let below = eq-eqb one.below other.below (ap (λ row. row.below) same) in
      rw kind (rw parent (rw first (rw past (rw below refl)))),
)

-- the parts of a tree are no others
pub same_tokens : (one other : Inside) (x y : Syntax) → IsFlat one → syntax_of one ≡ x → IsFlat other → syntax_of other ≡ y → x ≡ y → one.tokens ≡ other.tokens
same_tokens one other x y flat e flat' e' same =
    (are_parts one x flat e).tokens_are ∙ ap (λ syntax. token_rows 0 (tokens_of syntax)) same ∙ sym (are_parts other y flat' e').tokens_are

pub same_nodes : (one other : Inside) (x y : Syntax) → IsFlat one → syntax_of one ≡ x → IsFlat other → syntax_of other ≡ y → x ≡ y → one.nodes ≡ other.nodes
same_nodes one other x y flat e flat' e' same =
    (are_parts one x flat e).nodes_are ∙ ap (λ syntax. map node_row (nodes_of syntax)) same ∙ sym (are_parts other y flat' e').nodes_are

-- the same parts are those of one tree
pub same_syntax : (one other : Inside) (x y : Syntax) → IsFlat one → syntax_of one ≡ x → IsFlat other → syntax_of other ≡ y → source_of x ≡ source_of y → one.tokens ≡ other.tokens → one.nodes ≡ other.nodes → x ≡ y
same_syntax one other x y flat e flat' e' sources tokens nodes =
    let texts : string_bytes one.source ≡ string_bytes other.source = (are_parts one x flat e).spells ∙ sources ∙ sym (are_parts other y flat' e').spells in
    sym e
    ∙ ap (λ source. plain_of source one.tokens one.nodes) texts
    ∙ ap (λ rows. plain_of (string_bytes other.source) rows one.nodes) tokens
    ∙ ap (plain_of (string_bytes other.source) other.tokens) nodes
    ∙ e'
