-- The node of a position.
use Rattle.std.proofs.Common.{◌≡◌, ℕ, suc, ◌+◌, ◌-◌, ◌*◌, ◌<◌, ◌≤◌, List, ◌∷◌, length, map, Option, Some, None, refl, sym, ap, ◌∙◌, subst, inl, inr, ◌⊎◌, arith}
use Rattle.std.specs.Prelude.{◌↔◌, IfSome, IsNone, Contains, slice_get}
use Rattle.std.specs.Option.{option_map}
use Rattle.std.proofs.lemmas.Bool.{cases_eq, cases_lt, cases_order}
use Rattle.std.proofs.lemmas.List.{take_all}
use Rattle.std.proofs.Math.Nat.{mul-le-mul_right, add-mul, one-mul}
use Rattle.ssr_syntax_tree.specs.declared.number.Element.{Element}
use Rattle.ssr_syntax_tree.specs.declared.number.Element.TheVariants as element
use Rattle.ssr_syntax_tree.specs.declared.number.TokenNo.{TokenNo}
use Rattle.ssr_syntax_tree.specs.Syntax.{Forest, nothing, leaf, branch, Syntax, node_count, token_count, tokens_of, spelled, source_of}
use Rattle.ssr_syntax_tree.specs.Places.{Node, Part, token_part, node_part, HasNode, HasToken, HoldsByte, node_of, size_of, offset_of, parts_in, parts_of, element_of}
use Rattle.ssr_syntax_tree.proofs.Lists.{all_at}
use Rattle.ssr_syntax_tree.proofs.Shared.{node_of-number, below_fits, firsts_grow, offset_grows, IsChild, children_known, IsOver, inside, below_root, root_size}
use Rattle.ide_ssr_search.specs.Positions.{EndsAt, IsNear, IsFirst, IsNextSibling, IsLeftFor, Leads, goes_on}

-- ** Tokens by their bytes.

pub one_token : (s : Syntax) (t u offset : ℕ) → HoldsByte s t offset → HoldsByte s u offset → t ≡ u
one_token s t u offset first second =
    elim (cases_order t u) [
      | inl same ↦ same
      | inr apart ↦
          elim apart [
            | inl less ↦ absurd (omega (arith, offset_grows s (1 + t) u (omega arith), first.1, second.0))
            | inr more ↦ absurd (omega (arith, offset_grows s (1 + u) t (omega arith), second.1, first.0))
          ]
    ]

-- a byte of a token is one of the source
pub byte_within : (s : Syntax) (t offset : ℕ) → HoldsByte s t offset → offset < length (source_of s)
byte_within s t offset holds =
    let all = 1 + t + length (tokens_of s) in
    let end : offset_of s all ≡ length (source_of s) = ap (λ tokens. length (spelled tokens)) (take_all all (tokens_of s) (omega arith)) in
    omega (arith, offset_grows s (1 + t) all (omega arith), holds.1)

pub near_none : (s : Syntax) (offset : ℕ) (found : Option TokenNo) → ((u : ℕ) → ¬ EndsAt s offset u) → IfSome found (λ t. HoldsByte s t.0 offset)
    → IfSome found (λ t. HasToken s t.0) → IsNone found ↔ (length (source_of s) ≤ offset) → IsNear s offset (option_map (λ t. t.0) found)
near_none s offset None none holds has past = (none, λ u at. omega (arith, byte_within s u offset at.1, past.0 refl))
near_none s offset (Some t) none holds has past = inr (none, (has, holds))

-- ** The parent of a token.

abbrev pub Spans : Syntax → ℕ → ℕ → Type 0
Spans s n t = ((node_of s n).first ≤ t) × (t < (node_of s n).first + token_count (node_of s n).children)

pub root_spans : (s : Syntax) (t : ℕ) → HasToken s t → Spans s 0 t
unfolding node_of
root_spans s t has = (omega arith, omega arith)

-- a sibling has the token below it
record Spanning (parts : List Part) (u : ℕ) : Type 0 where
  place : ℕ
  child : Node
  is : slice_get parts place ≡ Some (node_part child)
  low : child.first ≤ u
  high : u < child.first + token_count child.children

abbrev pub token_at : ℕ → Element
token_at u = element.Token (record { 0 = u })

later : (part : Part) (parts : List Part) (u : ℕ) → Contains (map element_of parts) (token_at u) ⊎ Spanning parts u
    → Contains (map element_of (part ∷ parts)) (token_at u) ⊎ Spanning (part ∷ parts) u
later part parts u (inl among) = inl (suc among.0, (let low = among.1 in omega arith), among.2)
later part parts u (inr below) = inr (record { place = suc below.place; child = below.child; is = below.is; low = below.low; high = below.high })

spanning : (parent m t u : ℕ) (forest : Forest) → t ≤ u → u < t + token_count forest
    → Contains (map element_of (parts_in parent m t forest)) (token_at u) ⊎ Spanning (parts_in parent m t forest) u
spanning parent m t u nothing low high = absurd (omega arith)
spanning parent m t u (leaf token next) low high =
    elim (cases_eq t u) [
      | inl same ↦ inl (0, omega arith, ap token_at same)
      | inr other ↦ later (token_part t token) (parts_in parent m (1 + t) next) u (spanning parent m (1 + t) u next (omega arith) (omega arith))
    ]
spanning parent m t u (branch kind below next) low high =
    let node : Node = record { number = m; parent = parent; first = t; kind = kind; children = below } in
    elim (cases_lt u (t + token_count below)) [
      | inl here ↦ inr (record { place = 0; child = node; is = refl; low = low; high = here })
      | inr behind ↦
          later (node_part node) (parts_in parent (1 + m + node_count below) (t + token_count below) next) u
          (spanning parent (1 + m + node_count below) (t + token_count below) u next behind (omega arith))
    ]

pub is_parent : (s : Syntax) (n t : ℕ) → HasNode s n → Spans s n t → ((m : ℕ) → HasNode s m → n < m → ¬ Spans s m t) → IsFirst s (Some t) n
is_parent s n t has spans last =
    let node = node_of s n in (
      has,
      elim (spanning node.number (1 + node.number) node.first t node.children spans.0 spans.1) [
        | inl among ↦ among
        | inr below ↦
            let c = below.child in
            let child : IsChild s n (node_part c) = all_at (IsChild s n) (parts_of node) below.place (node_part c) (children_known s n has) below.is in
            let above = child.3 in
            absurd (last c.number child.0 (omega (arith, above.0, node_of-number s n has))
            (subst (λ (x : Node). (x.first ≤ t) × (t < x.first + token_count x.children)) (sym child.1) (below.low, below.high)))
      ],
    )

-- the last node up to before a number that has the token
pub record IsLastSpanning (s : Syntax) (t number found : ℕ) : Type 0 where
  pub has : HasNode s found
  pub spans : Spans s found t
  pub last : (m : ℕ) → found < m → m < number → ¬ Spans s m t

pub last_here : (s : Syntax) (t number found : ℕ) → HasNode s number → Spans s number t → IsLastSpanning s t number found → IsLastSpanning s t (number + 1) number
last_here s t number found has spans so_far = record { has = has; spans = spans; last = λ m behind before. absurd (omega arith) }

pub last_before : (s : Syntax) (t number found : ℕ) → ¬ Spans s number t → IsLastSpanning s t number found → IsLastSpanning s t (number + 1) found
last_before s t number found other so_far = record {
  has = so_far.has;
  spans = so_far.spans;
  last = λ m behind before spans.
      elim (cases_lt m number) [
        | inl earlier ↦ so_far.last m behind earlier spans
        | inr late ↦ let same : m ≡ number = omega arith in other (subst (λ m. Spans s m t) same spans)
      ];
}

-- from a node on that begins behind the token no node has it
pub none_behind : (s : Syntax) (t number : ℕ) → HasNode s number → t < (node_of s number).first → (m : ℕ) → HasNode s m → number ≤ m → ¬ Spans s m t
none_behind s t number has past m has_m behind spans =
    elim (cases_lt number m) [
      | inl later ↦ omega (arith, past, firsts_grow s number m has has_m later, spans.0)
      | inr here ↦ let same : number ≡ m = omega arith in omega (arith, past, ap (λ n. (node_of s n).first) same, spans.0)
    ]

-- ** Steps to other nodes.

pub no_sibling : (s : Syntax) (n m : ℕ) → n ≡ 0 → ¬ IsNextSibling s n m
no_sibling s n m root is = omega (arith, is.0, is.1, ap (λ n. size_of (node_of s n)) root, root_size s)

-- how much is left of the way: the end of a node doesn't come before that of the one that was left, and if it is the same, the number is smaller
abbrev pub way : Syntax → ℕ → ℕ
way s n = (1 + node_count s.children - (n + size_of (node_of s n))) * (2 + node_count s.children) + n

shorter : (width ahead behind n m : ℕ) → ahead + 1 ≤ behind → m < width → ahead * width + m < behind * width + n
shorter width ahead behind n m less low =
    let more : (ahead + 1) * width ≤ behind * width = mul-le-mul_right width less in
    let step : (ahead + 1) * width ≡ ahead * width + width = add-mul ahead 1 width ∙ ap (λ n. ahead * width + n) (one-mul width) in
    omega arith

as_short : (width ahead behind n m : ℕ) → ahead ≤ behind → m < n → ahead * width + m < behind * width + n
as_short width ahead behind n m less low =
    let more : ahead * width ≤ behind * width = mul-le-mul_right width less in
    omega arith

pub way_shorter : (s : Syntax) (n m : ℕ) → HasNode s n → HasNode s m → IsLeftFor s n m → way s m < way s n
way_shorter s n m has_n has_m (inl sibling) =
    let ends = below_fits s m has_m in
    let same = sibling.1.0 in
    shorter (2 + node_count s.children) (1 + node_count s.children - (m + size_of (node_of s m))) (1 + node_count s.children - (n + size_of (node_of s n))) n m
    (omega arith) (omega arith)
way_shorter s n m has_n has_m (inr parent) =
    let over = (inside s 0 n (omega arith) (below_root s n has_n parent.1)).parent in
    let is = parent.2 in
    let up : IsOver s m n = subst (λ p. IsOver s p n) (sym is) over in
    let ends = (inside s m n has_m up).ends in
    as_short (2 + node_count s.children) (1 + node_count s.children - (m + size_of (node_of s m))) (1 + node_count s.children - (n + size_of (node_of s n))) n m
    (omega arith) (omega (arith, up.0))

pub leads_on : (s : Syntax) (node n m : ℕ) → ((last : ℕ) → Leads s n last → Leads s node last) → IsLeftFor s n m → (last : ℕ) → Leads s m last → Leads s node last
leads_on s node n m so_far left last leads = so_far last (goes_on n m last left leads)
