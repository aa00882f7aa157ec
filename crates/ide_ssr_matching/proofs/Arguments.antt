-- The arguments of a path's last segment, found from the left.
use Rattle.std.proofs.Common.{◌≡◌, ℕ, Bool, true, false, cond, List, [], ◌∷◌, ◌++◌, length, map, option_to_list, All, Option, Some, None, sym, ◌∙◌, ap, subst, arith}
use Rattle.std.specs.Prelude.{◌==◌, is_some, not}
use Rattle.std.specs.Option.{IfNone, option_map_or}
use Rattle.std.proofs.Math.Dec.{eqb-suc-zero}
use Rattle.std.proofs.lemmas.List.Elements.{All-weaker}
use Rattle.ssr_syntax_kinds.specs.declared.kinds.SyntaxKind.TheVariants as k
use Rattle.ssr_syntax_tree.specs.declared.number.Element.{Element}
use Rattle.ssr_syntax_tree.specs.declared.number.Element.TheVariants as element
use Rattle.ssr_syntax_tree.specs.declared.number.NodeNo.{NodeNo}
use Rattle.ssr_syntax_tree.specs.Syntax.{Syntax}
use Rattle.ssr_syntax_tree.specs.Places.{HasNode, HasElement, Part, IsAbove, elements_of, node_of, parts_of, part_of}
use Rattle.ssr_syntax_tree.proofs.Shared.{IsChild, children_known, parts_of-elements_of, node_of-number, inside}
use Rattle.ssr_base_trees.specs.declared.semantics.Res.{Res}
use Rattle.ide_ssr_resolved_rule.specs.Paths.{first_of_kind}
use Rattle.ide_ssr_matching.specs.Bindings.{counted}
use Rattle.ide_ssr_matching.specs.Children.{bare}
use Rattle.ide_ssr_matching.specs.UsedPaths.{holds_arguments, from_arguments, arguments_of}
use Rattle.ide_ssr_matching.specs.Private.Children.{IsElementBelow, AreKept}
use Rattle.ide_ssr_matching.proofs.Bare.{elements_below, kept-rest, kept-then, tail_has}
use Rattle.ide_ssr_matching.proofs.Counted.{first_has}

-- ** Up to the arguments of a segment.

-- so far only what stands in front of them was passed
pub record AreInFront (code : Syntax) (before now : List Element) : Type 0 where
  pub kept : AreKept before now
  pub has : All (HasElement code) now
  pub same : from_arguments (map (part_of code) now) ≡ from_arguments (map (part_of code) before)

pub front-next : (code : Syntax) (before now left : List Element) (child : Element) → AreInFront code before now → now ≡ child ∷ left
    → holds_arguments (part_of code child) ≡ false → AreInFront code before left
front-next code before now left child so_far is other = record {
  kept = kept-then before now left so_far.kept (subst (λ xs. AreKept xs left) (sym is) (kept-rest child left));
  has = tail_has (HasElement code) child left (subst (All (HasElement code)) is so_far.has);
  same =
      ap (λ b. cond b (part_of code child ∷ map (part_of code) left) (from_arguments (map (part_of code) left))) (sym other)
      ∙ ap (λ xs. from_arguments (map (part_of code) xs)) (sym is)
      ∙ so_far.same;
}

-- ** The last segment.

pub no_segment : (code : Syntax) (n : ℕ) (left : List Element) → None ≡ first_of_kind k.PATH_SEGMENT (parts_of (node_of code n)) → left ≡ []
    → map (part_of code) left ≡ arguments_of (node_of code n)
no_segment code n left is none =
    ap (map (part_of code)) none ∙ ap (λ o. option_map_or (λ segment. from_arguments (parts_of segment)) o []) is

pub segment_arguments : (code : Syntax) (n : ℕ) (segment : NodeNo) (all left : List Element)
    → Some (node_of code segment.0) ≡ first_of_kind k.PATH_SEGMENT (parts_of (node_of code n)) → HasNode code segment.0
    → all ≡ elements_of (node_of code segment.0) → map (part_of code) left ≡ from_arguments (map (part_of code) all)
    → map (part_of code) left ≡ arguments_of (node_of code n)
segment_arguments code n segment all left is has all_are left_are =
    left_are
    ∙ ap (λ xs. from_arguments (map (part_of code) xs)) all_are
    ∙ ap from_arguments (parts_of-elements_of code segment.0 has)
    ∙ ap (λ o. option_map_or (λ segment. from_arguments (parts_of segment)) o []) is

-- what is below a segment is below its path
pub below_path : (code : Syntax) (n s : ℕ) → HasNode code n → HasNode code s → IsAbove (node_of code n) s → (x : Element) → IsElementBelow code s x → IsElementBelow code n x
below_path code n s has there above (element.Node m) below =
    let number_n = node_of-number code n has in
    let number_s = node_of-number code s there in
    let over = below.1 in
    let within = inside code n s has (omega arith, omega arith) in
    let ends = within.ends in
    (below.0, (omega arith, omega arith))
below_path code n s has there above (element.Token t) below = below

pub segment_below : (code : Syntax) (n : ℕ) (segment : NodeNo) (all left : List Element) → HasNode code n
    → Some (node_of code segment.0) ≡ first_of_kind k.PATH_SEGMENT (parts_of (node_of code n)) → HasNode code segment.0
    → all ≡ elements_of (node_of code segment.0) → AreKept all left → All (IsElementBelow code n) left
segment_below code n segment all left has is there all_are kept =
    let child = first_has (IsChild code n) k.PATH_SEGMENT (parts_of (node_of code n)) (node_of code segment.0) (sym is) (children_known code n has) in
    let above : IsAbove (node_of code n) segment.0 = subst (IsAbove (node_of code n)) (node_of-number code segment.0 there) child.3 in
    All-weaker (IsElementBelow code segment.0) (IsElementBelow code n) (below_path code n segment.0 has there above) left
    (kept.below code segment.0 (subst (All (IsElementBelow code segment.0)) (sym all_are) (elements_below code segment.0 there)))

-- ** What counts of a node.

pub counted_used : (o : Option Res) (r : Res) (xs arguments children : List Part) → o ≡ Some r → xs ≡ arguments → xs ≡ counted o arguments children
counted_used o r xs arguments children is are = are ∙ ap (λ o. counted o arguments children) (sym is)

pub counted_other : (code : Syntax) (n : ℕ) (o : Option Res) (xs : List Element) (arguments : List Part) → HasNode code n → o ≡ None → xs ≡ elements_of (node_of code n)
    → map (part_of code) xs ≡ counted o arguments (parts_of (node_of code n))
counted_other code n o xs arguments has none are =
    ap (map (part_of code)) are ∙ parts_of-elements_of code n has ∙ ap (λ o. counted o arguments (parts_of (node_of code n))) (sym none)

pub all_below : (code : Syntax) (n : ℕ) (xs : List Element) → HasNode code n → xs ≡ elements_of (node_of code n) → All (IsElementBelow code n) xs
all_below code n xs has are = subst (All (IsElementBelow code n)) (sym are) (elements_below code n has)

-- ** Whether there are any.

pub lacking_arguments : (tree : Syntax) (found : List Part) (o : Option Element) (left : List Element) (b : Bool) → is_some o ≡ not b
    → found ≡ map (part_of tree) (option_to_list o) ++ bare (map (part_of tree) left) → IfNone o (left ≡ []) → b ≡ (length found == 0)
lacking_arguments tree found None left true is gives none =
    sym (ap (λ parts. length parts == 0) gives ∙ ap (λ left. length (bare (map (part_of tree) left)) == 0) none)
lacking_arguments tree found None left false is gives none = let e : false ≡ true = is in cc
lacking_arguments tree found (Some x) left true is gives none = let e : true ≡ false = is in cc
lacking_arguments tree found (Some x) left false is gives none =
    sym (ap (λ parts. length parts == 0) gives ∙ eqb-suc-zero (length (bare (map (part_of tree) left))))
