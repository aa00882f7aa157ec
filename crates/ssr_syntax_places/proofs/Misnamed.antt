-- Which nodes of a plain tree have an identifier other than a word among their children.
use Rattle.std.proofs.Common.{◌≡◌, ℕ, ◌+◌, Bool, true, false, not, ◌&&◌, ◌||◌, List, [], ◌∷◌, ◌++◌, inl, inr, refl, sym, ap, ◌∙◌}
use Rattle.std.specs.Prelude.{bytes_eq, codes, ⊤}
use Rattle.std.specs.List.{list_any}
use Rattle.std.proofs.Math.Bool.{or-false}
use Rattle.std.proofs.lemmas.Bool.{cases_Bool, or_from, or_parts}
use Rattle.std.proofs.lemmas.List.Folds.{list_any-append}
use Rattle.ssr_syntax_kinds.specs.Kinds.{same_kind, is_trivia}
use Rattle.ssr_syntax_kinds.specs.declared.kinds.SyntaxKind.{SyntaxKind}
use Rattle.ssr_syntax_kinds.specs.declared.kinds.SyntaxKind.TheVariants as k
use Rattle.ssr_syntax_kinds.proofs.Shared.{same_kind-equal}
use Rattle.ssr_syntax_tree.specs.Places.{nodes_in, parts_in}
use Rattle.ssr_syntax_tree.specs.Syntax as plain
use Rattle.ssr_syntax_tree.specs.Syntax.{Syntax, nothing, leaf, branch}
use Rattle.ssr_syntax_rows.specs.Lossless.{before, behind}
use Rattle.ssr_syntax_rows.specs.MacroRules.{is_other_word, is_misnamed, misnames, misnames_macros}

-- one of the siblings is an identifier other than the word
abbrev pub has_other : List ℕ → plain.Forest → Bool
has_other word nothing = false
has_other word (leaf t next) = (same_kind t.kind k.IDENT && not (bytes_eq t.text word)) || has_other word next
has_other word (branch kind below next) = has_other word next

-- a node of the kind has one as a child
abbrev pub has_misnamed : SyntaxKind → List ℕ → plain.Forest → Bool
has_misnamed kind word nothing = false
has_misnamed kind word (leaf t next) = has_misnamed kind word next
has_misnamed kind word (branch a below next) = (same_kind a kind && has_other word below) || (has_misnamed kind word below || has_misnamed kind word next)

-- ** As the reading asks.

others_are : (word : List ℕ) (parent m t : ℕ) (z : plain.Forest) → list_any (is_other_word word) (parts_in parent m t z) ≡ has_other word z
others_are word parent m t nothing = refl
others_are word parent m t (leaf token next) =
    ap (λ b. (same_kind token.kind k.IDENT && not (bytes_eq token.text word)) || b) (others_are word parent m (1 + t) next)
others_are word parent m t (branch kind below next) =
    others_are word parent (1 + m + plain.node_count below) (t + plain.token_count below) next

nodes_are : (kind : SyntaxKind) (word : List ℕ) (parent m t : ℕ) (z : plain.Forest)
    → list_any (is_misnamed kind word) (nodes_in parent m t z) ≡ has_misnamed kind word z
nodes_are kind word parent m t nothing = refl
nodes_are kind word parent m t (leaf token next) = nodes_are kind word parent m (1 + t) next
nodes_are kind word parent m t (branch a below next) =
    let inner = nodes_in m (1 + m) t below in
    let later = nodes_in parent (1 + m + plain.node_count below) (t + plain.token_count below) next in
    ap (λ b. (same_kind a kind && b) || list_any (is_misnamed kind word) (inner ++ later)) (others_are word m (1 + m) t below)
    ∙ ap (λ b. (same_kind a kind && has_other word below) || b)
    (list_any-append (is_misnamed kind word) inner later
    ∙ ap (λ b. b || list_any (is_misnamed kind word) later) (nodes_are kind word m (1 + m) t below)
    ∙ ap (λ b. has_misnamed kind word below || b)
    (nodes_are kind word parent (1 + m + plain.node_count below) (t + plain.token_count below) next))

whole_is : (kind : SyntaxKind) (word : List ℕ) (s : Syntax) → misnames kind word s ≡ has_misnamed kind word (branch s.kind s.children nothing)
unfolding misnames
whole_is kind word s =
    ap (λ b. (same_kind s.kind kind && b) || list_any (is_misnamed kind word) (nodes_in 0 1 0 s.children)) (others_are word 0 1 0 s.children)
    ∙ ap (λ b. (same_kind s.kind kind && has_other word s.children) || b)
    (nodes_are kind word 0 1 0 s.children ∙ sym (or-false (has_misnamed kind word s.children)))

-- ** The kinds that have words.

abbrev pub worded : List SyntaxKind
worded = k.MACRO_RULES ∷ k.UNION_KW ∷ k.RAW_KW ∷ k.SAFE_KW ∷ []

-- what is so of each of them, with its word
pub record OfWords (P : SyntaxKind → List ℕ → Type 0) : Type 0 where
  pub rules : P k.MACRO_RULES (codes "macro_rules")
  pub union : P k.UNION_KW (codes "union")
  pub raw : P k.RAW_KW (codes "raw")
  pub safe : P k.SAFE_KW (codes "safe")

-- no node of one of these kinds is misnamed
abbrev pub IsNamed : plain.Forest → Type 0
IsNamed z = OfWords (λ kind word. has_misnamed kind word z ≡ false)

pub named_parts : (s : Syntax) → misnames_macros s ≡ false → IsNamed (branch s.kind s.children nothing)
unfolding misnames_macros
named_parts s named =
    let rules = or_parts (misnames k.MACRO_RULES (codes "macro_rules") s) (misnames k.UNION_KW (codes "union") s || (misnames k.RAW_KW (codes "raw") s || misnames k.SAFE_KW (codes "safe") s)) named in
    let union = or_parts (misnames k.UNION_KW (codes "union") s) (misnames k.RAW_KW (codes "raw") s || misnames k.SAFE_KW (codes "safe") s) rules.1 in
    let raw = or_parts (misnames k.RAW_KW (codes "raw") s) (misnames k.SAFE_KW (codes "safe") s) union.1 in
    record {
      rules = sym (whole_is k.MACRO_RULES (codes "macro_rules") s) ∙ rules.0;
      union = sym (whole_is k.UNION_KW (codes "union") s) ∙ union.0;
      raw = sym (whole_is k.RAW_KW (codes "raw") s) ∙ raw.0;
      safe = sym (whole_is k.SAFE_KW (codes "safe") s) ∙ raw.1;
    }

pub named_whole : (s : Syntax) → IsNamed (branch s.kind s.children nothing) → misnames_macros s ≡ false
unfolding misnames_macros
named_whole s named =
    or_from (misnames k.MACRO_RULES (codes "macro_rules") s) (misnames k.UNION_KW (codes "union") s || (misnames k.RAW_KW (codes "raw") s || misnames k.SAFE_KW (codes "safe") s))
    (whole_is k.MACRO_RULES (codes "macro_rules") s ∙ named.rules)
    (or_from (misnames k.UNION_KW (codes "union") s) (misnames k.RAW_KW (codes "raw") s || misnames k.SAFE_KW (codes "safe") s)
    (whole_is k.UNION_KW (codes "union") s ∙ named.union)
    (or_from (misnames k.RAW_KW (codes "raw") s) (misnames k.SAFE_KW (codes "safe") s)
    (whole_is k.RAW_KW (codes "raw") s ∙ named.raw)
    (whole_is k.SAFE_KW (codes "safe") s ∙ named.safe)))

-- ** Beside tokens.

abbrev pub AllTrivia : List plain.Token → Type 0
AllTrivia [] = ⊤
AllTrivia (t ∷ ts) = (is_trivia t.kind ≡ true) × AllTrivia ts

pub misnamed_before : (kind : SyntaxKind) (word : List ℕ) (ts : List plain.Token) (z : plain.Forest)
    → has_misnamed kind word (before ts z) ≡ has_misnamed kind word z
misnamed_before kind word [] z = refl
misnamed_before kind word (t ∷ ts) z = misnamed_before kind word ts z

pub misnamed_behind : (kind : SyntaxKind) (word : List ℕ) (z : plain.Forest) (ts : List plain.Token)
    → has_misnamed kind word (behind z ts) ≡ has_misnamed kind word z
misnamed_behind kind word nothing ts = misnamed_before kind word ts nothing
misnamed_behind kind word (leaf t next) ts = misnamed_behind kind word next ts
misnamed_behind kind word (branch a below next) ts =
    ap (λ b. (same_kind a kind && has_other word below) || (has_misnamed kind word below || b)) (misnamed_behind kind word next ts)

-- white space and comments are no identifiers
no_ident : (kind : SyntaxKind) → is_trivia kind ≡ true → same_kind kind k.IDENT ≡ false
no_ident kind trivia = elim (cases_Bool (same_kind kind k.IDENT)) [
  | inl is ↦ absurd (cc (sym trivia ∙ ap is_trivia (same_kind-equal kind k.IDENT is)))
  | inr not_so ↦ not_so
]

pub others_before : (word : List ℕ) (ts : List plain.Token) (z : plain.Forest) → AllTrivia ts → has_other word (before ts z) ≡ has_other word z
others_before word [] z all = refl
others_before word (t ∷ ts) z all =
    ap (λ b. (b && not (bytes_eq t.text word)) || has_other word (before ts z)) (no_ident t.kind all.0) ∙ others_before word ts z all.1

-- those in front of others are fewer
pub others_front : (word : List ℕ) (z : plain.Forest) (ts : List plain.Token) → has_other word (behind z ts) ≡ false → has_other word z ≡ false
others_front word nothing ts none = refl
others_front word (leaf t next) ts none =
    let here : Bool = same_kind t.kind k.IDENT && not (bytes_eq t.text word) in
    let halves = or_parts here (has_other word (behind next ts)) none in
    or_from here (has_other word next) halves.0 (others_front word next ts halves.1)
others_front word (branch a below next) ts none = others_front word next ts none
