-- The table of what tokens of a template are, one more token or path after the other.
use Rattle.std.proofs.Common.{◌≡◌, ℕ, ◌+◌, ◌<◌, ◌≤◌, Bool, true, false, List, [], ◌∷◌, ◌++◌, Option, Some, None, map, length, take, get_or, set, inl, inr, sym, ap, ◌∙◌, subst, arith}
use Rattle.std.specs.Prelude.{if◌then◌else◌}
use Rattle.std.specs.Option.{IfSome, IsSomeAnd}
use Rattle.std.proofs.lemmas.Bool.{cases_eq}
use Rattle.std.proofs.lemmas.Bool.Decides.{nat_tests}
use Rattle.std.proofs.lemmas.List.{drop_all, drop_more, get_or-map, get_or_default, get_or-set_other, get_or-set_same, length-map, map_more, take_all}
use Rattle.ssr_syntax_tree.specs.Places.{HasToken, node_of, token_of}
use Rattle.ssr_syntax_tree.specs.Syntax.{Syntax, token_count, tokens_of}
use Rattle.ssr_syntax_tree.proofs.Shared.{length-tokens_in}
use Rattle.ide_ssr_resolved_rule.specs.declared.templates.TemplateToken.{TemplateToken}
use Rattle.ide_ssr_resolved_rule.specs.declared.templates.TemplateToken.TheVariants as t
use Rattle.ide_ssr_resolved_rule.specs.declared.used_paths.UsedPath.{UsedPath}
use Rattle.ide_ssr_resolved_rule.specs.Templates.{is_among, is_printed, printed_token, token_by, token_in, unprinted}
use Rattle.ide_ssr_resolved_rule.specs.Private.TemplateTables.{TellsFrom, unprinted_tokens}
use Rattle.ide_ssr_resolved_rule.proofs.Nodes.{token_is, no_token}

-- ** Tokens that are not printed.

pub unprinted_next : (names : List (List ℕ)) (s : Syntax) (n : ℕ) (old new : List TemplateToken) (token : TemplateToken) → HasToken s n → token ≡ unprinted names (token_of s n)
    → old ≡ map (unprinted names) (take n (tokens_of s)) → new ≡ old ++ token ∷ [] → new ≡ map (unprinted names) (take (n + 1) (tokens_of s))
unprinted_next names s n old new token has is so_far pushed =
    pushed ∙ ap (λ front. front ++ token ∷ []) so_far
    ∙ ap (λ x. map (unprinted names) (take n (tokens_of s)) ++ x ∷ []) (is ∙ ap (unprinted names) (token_is s n))
    ∙ sym (map_more (unprinted names) (tokens_of s) n no_token (omega (arith, has, length-tokens_in s.children)))

pub unprinted_all : (names : List (List ℕ)) (s : Syntax) (n : ℕ) (table : List TemplateToken) → token_count s.children ≤ n
    → table ≡ map (unprinted names) (take n (tokens_of s)) → table ≡ unprinted_tokens names s
unprinted_all names s n table all so_far = so_far ∙ ap (map (unprinted names)) (take_all n (tokens_of s) (omega (arith, all, length-tokens_in s.children)))

-- ** Tokens of one path.

before_first : (first n : ℕ) → is_among first first n ≡ false
before_first first n = grind (arith, nat_tests)

none_among : (first past n : ℕ) → past ≤ first → is_among first past n ≡ false
none_among first past n le = grind (arith, nat_tests)

is_next : (first n : ℕ) → first ≤ n → is_among first (n + 1) n ≡ true
is_next first n le = grind (arith, nat_tests)

other_next : (first m n : ℕ) → (n ≡ m → ⊥) → is_among first (m + 1) n ≡ is_among first m n
other_next first m n other = grind (arith, nat_tests)

-- what a table tells where the tokens from a first one up to before another are marked
abbrev pub marked : List TemplateToken → ℕ → ℕ → ℕ → ℕ → TemplateToken
marked old first past place n = if is_among first past n then printed_token first place n else get_or old n t.Spelled

pub none_marked : (old : List TemplateToken) (first place n : ℕ) → get_or old n t.Spelled ≡ marked old first first place n
none_marked old first place n = ap (λ (b : Bool). if b then printed_token first place n else get_or old n t.Spelled) (sym (before_first first n))

pub marked_next : (old table new : List TemplateToken) (first m place : ℕ) (token : TemplateToken) → first ≤ m → m < length table
    → ((n : ℕ) → get_or table n t.Spelled ≡ marked old first m place n) → token ≡ printed_token first place m → new ≡ set table m token
    → (n : ℕ) → get_or new n t.Spelled ≡ marked old first (m + 1) place n
marked_next old table new first m place token le lt so_far is written n =
    ap (λ xs. get_or xs n t.Spelled) written
    ∙ elim (cases_eq n m) [
      | inl same ↦
          ap (λ k. get_or (set table m token) k t.Spelled) same
          ∙ get_or-set_same table m token t.Spelled lt ∙ is
          ∙ ap (λ (b : Bool). if b then printed_token first place m else get_or old m t.Spelled) (sym (is_next first m le))
          ∙ ap (marked old first (m + 1) place) (sym same)
      | inr other ↦
          get_or-set_other table m n token t.Spelled other ∙ so_far n
          ∙ ap (λ (b : Bool). if b then printed_token first place n else get_or old n t.Spelled) (sym (other_next first m n other))
    ]

pub marked_all : (old : List TemplateToken) (first m past place n : ℕ) → past ≤ m → (first ≤ past → m ≤ past) → (past < first → m ≡ first)
    → marked old first m place n ≡ marked old first past place n
marked_all old first m past place n le ends none =
    ap (λ (b : Bool). if b then printed_token first place n else get_or old n t.Spelled) (same (is_among first m n) (is_among first past n))
  where
    same : (a b : Bool) → is_among first m n ≡ is_among first past n
    same a b = grind (arith, nat_tests)

-- ** One path more.

pub told_none : (names : List (List ℕ)) (paths : List UsedPath) (s : Syntax) (i : ℕ) (table : List TemplateToken) → length paths ≤ i → table ≡ unprinted_tokens names s
    → TellsFrom names paths s i table
told_none names paths s i table all is = record {
  long = ap length is ∙ length-map (tokens_of s) (unprinted names) ∙ length-tokens_in s.children;
  tells = λ n has.
      ap (λ xs. get_or xs n t.Spelled) is
      ∙ get_or-map (unprinted names) (tokens_of s) n no_token t.Spelled (omega (arith, has, length-tokens_in s.children))
      ∙ ap (unprinted names) (sym (token_is s n))
      ∙ ap (token_by s n (unprinted names (token_of s n)) i) (sym (drop_all i paths all));
}

pub told_more : (names : List (List ℕ)) (paths : List UsedPath) (s : Syntax) (i n : ℕ) (d : UsedPath) (old new : List TemplateToken) → i < length paths → n ≡ i + 1
    → TellsFrom names paths s n old → length new ≡ length old
    → ((n : ℕ) → get_or new n t.Spelled ≡ (if is_printed s n (get_or paths i d) then printed_token (node_of s (get_or paths i d).node.0).first i n else get_or old n t.Spelled))
    → TellsFrom names paths s i new
told_more names paths s i next d old new lt is before long marks =
    let so_far : TellsFrom names paths s (i + 1) old = subst (λ n. TellsFrom names paths s n old) is before in record {
      long = long ∙ so_far.long;
      tells = λ n has.
          marks n
          ∙ ap (λ x. if is_printed s n (get_or paths i d) then printed_token (node_of s (get_or paths i d).node.0).first i n else x) (so_far.tells n has)
          ∙ ap (token_by s n (unprinted names (token_of s n)) i) (sym (drop_more paths i d lt));
    }

-- ** The table of a template.

-- a template's table, where there is a template
module _ (names : List (List ℕ)) (paths : List UsedPath) (table : List TemplateToken) (n : ℕ) where
  pub token_within : (template : Option Syntax) → IfSome template (λ tree. TellsFrom names paths tree 0 table) → IsSomeAnd template (λ tree. HasToken tree n)
      → n < length table
  token_within None is has = absurd has
  token_within (Some tree) is has = let long = is.long in omega arith

  pub token_told : (template : Option Syntax) (found : TemplateToken) → IfSome template (λ tree. TellsFrom names paths tree 0 table) → IsSomeAnd template (λ tree. HasToken tree n)
      → found ≡ get_or table n found → IfSome template (λ tree. found ≡ token_in names paths tree n)
  token_told None found is has at = tt
  token_told (Some tree) found is has at =
      let long = is.long in
      let within : n < length table = omega arith in
      at ∙ sym (get_or_default table n t.Spelled found within) ∙ is.tells n has
