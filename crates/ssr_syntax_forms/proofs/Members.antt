-- Kinds in lists.
use Rattle.std.proofs.Common.{◌≡◌, Bool, true, false, not, ◌||◌, ◌&&◌, List, [], ◌∷◌, ◌++◌, inl, inr, refl, sym, ap, subst, ◌∙◌}
use Rattle.std.proofs.lemmas.Bool.{and_parts, cases_Bool, not-true, or_cases, or_left, or_parts, or_right}
use Rattle.std.proofs.Math.Bool.{and-true, or-false, or_assoc}
use Rattle.ssr_syntax_kinds.specs.declared.kinds.SyntaxKind.{SyntaxKind}
use Rattle.ssr_syntax_kinds.specs.Kinds.{same_kind}
use Rattle.ssr_syntax_kinds.proofs.Shared.{same_kind-equal}
use Rattle.ssr_syntax_forms.specs.declared.tokens.Token.{Token}
use Rattle.ssr_syntax_forms.specs.Kinds.{mem, where_whole}
use Rattle.ssr_syntax_forms.specs.Forms.{Test, is_one, taken_as, are_next, passes, agrees, at, next, END}
use Rattle.ssr_syntax_forms.proofs.Check.{subset, meets, every, those, must_pass, may_pass, may_be, decides_on, decides_off}

-- a test of a kind passes for equal kinds only
mem_like : (k l : SyntaxKind) (ks : List SyntaxKind) → same_kind k l ≡ true → mem l ks ≡ true → mem k ks ≡ true
mem_like k l ks e h = subst (λ w. mem w ks ≡ true) (sym (same_kind-equal k l e)) h

pub subset_mem : (k : SyntaxKind) (ks ls : List SyntaxKind) → subset ks ls ≡ true → mem k ks ≡ true → mem k ls ≡ true
subset_mem k [] ls s h = cc
subset_mem k (l ∷ ks) ls s h =
    let b = and_parts (mem l ls) (subset ks ls) s in
    elim (or_cases (same_kind k l) (mem k ks) h) [
      | inl e ↦ mem_like k l ls e b.0
      | inr m ↦ subset_mem k ks ls b.1 m
    ]

-- a token that is taken is of one of the kinds, and so is its leaf
pub one_joined : (whole : Bool) (ks : List SyntaxKind) (t : Token) → is_one whole ks t ≡ true → mem t.joined ks ≡ true
one_joined true ks t h = h
one_joined false ks t h = (and_parts (mem t.joined ks) (mem t.kind ks) h).0

pub one_taken : (whole : Bool) (ks : List SyntaxKind) (t : Token) → is_one whole ks t ≡ true → mem (taken_as whole t) ks ≡ true
one_taken true ks t h = h
one_taken false ks t h = (and_parts (mem t.joined ks) (mem t.kind ks) h).1

pub apart : (k : SyntaxKind) (ks ls : List SyntaxKind) → meets ks ls ≡ false → mem k ks ≡ true → mem k ls ≡ false
apart k [] ls s h = cc
apart k (l ∷ ks) ls s h =
    let b = or_parts (mem l ls) (meets ks ls) s in
    elim (or_cases (same_kind k l) (mem k ks) h) [
      | inl e ↦ ap (λ w. mem w ls) (same_kind-equal k l e) ∙ b.0
      | inr m ↦ apart k ks ls b.1 m
    ]

pub mem_left : (k : SyntaxKind) (ks ls : List SyntaxKind) → mem k ks ≡ true → mem k (ks ++ ls) ≡ true
mem_left k [] ls h = cc
mem_left k (l ∷ ks) ls h =
    elim (or_cases (same_kind k l) (mem k ks) h) [
      | inl e ↦ or_left (same_kind k l) (mem k (ks ++ ls)) e
      | inr m ↦ or_right (same_kind k l) (mem k (ks ++ ls)) (mem_left k ks ls m)
    ]

pub mem_right : (k : SyntaxKind) (ks ls : List SyntaxKind) → mem k ls ≡ true → mem k (ks ++ ls) ≡ true
mem_right k [] ls h = h
mem_right k (l ∷ ks) ls h = or_right (same_kind k l) (mem k (ks ++ ls)) (mem_right k ks ls h)

pub every_mem : (p : SyntaxKind → Bool) (k : SyntaxKind) (ks : List SyntaxKind) → every p ks ≡ true → mem k ks ≡ true → p k ≡ true
every_mem p k [] e h = cc
every_mem p k (l ∷ ks) e h =
    let b = and_parts (p l) (every p ks) e in
    elim (or_cases (same_kind k l) (mem k ks) h) [
      | inl s ↦ ap p (same_kind-equal k l s) ∙ b.0
      | inr m ↦ every_mem p k ks b.1 m
    ]

pub those_mem : (p : SyntaxKind → Bool) (k : SyntaxKind) (ks : List SyntaxKind) → p k ≡ true → mem k ks ≡ true
    → mem k (those p ks) ≡ true
those_mem p k [] is h = cc
those_mem p k (l ∷ ks) is h =
    elim (cases_Bool (p l)) [
      | inl hit ↦ rw hit
          (elim (or_cases (same_kind k l) (mem k ks) h) [
            | inl e ↦ or_left (same_kind k l) (mem k (those p ks)) e
            | inr m ↦ or_right (same_kind k l) (mem k (those p ks)) (those_mem p k ks is m)
          ])
      | inr miss ↦ rw miss
          (elim (or_cases (same_kind k l) (mem k ks) h) [
            | inl e ↦ absurd (cc (sym miss ∙ ap p (sym (same_kind-equal k l e)) ∙ is))
            | inr m ↦ those_mem p k ks is m
          ])
    ]

pub mem_append : (k : SyntaxKind) (ks ls : List SyntaxKind) → mem k (ks ++ ls) ≡ (mem k ks || mem k ls)
mem_append k [] ls = refl
mem_append k (l ∷ ks) ls = ap (λ b. same_kind k l || b) (mem_append k ks ls) ∙ sym (or_assoc (same_kind k l) (mem k ks) (mem k ls))

pub mem_where_whole : (k : SyntaxKind) (is_whole : Bool) (ks : List SyntaxKind) → mem k (where_whole is_whole ks) ≡ (is_whole && mem k ks)
unfolding where_whole
mem_where_whole k true ks = refl
mem_where_whole k false ks = refl

-- ** Tests, by the next token.
next_one : (ks : List SyntaxKind) (ts : List Token) → are_next (ks ∷ []) ts ≡ mem (next ts) ks
next_one ks [] = and-true (mem END ks)
next_one ks (t ∷ ts) = and-true (mem t.joined ks)

next_first : (ks : List SyntaxKind) (string : List (List SyntaxKind)) (ts : List Token) → are_next (ks ∷ string) ts ≡ true
    → mem (next ts) ks ≡ true
next_first ks string [] h = (and_parts (mem END ks) (are_next string []) h).0
next_first ks string (t ∷ ts) h = (and_parts (mem t.joined ks) _ h).0

pub at_next : (ks : List SyntaxKind) (ts : List Token) → passes (at ks) ts ≡ mem (next ts) ks
at_next ks ts = or-false (are_next (ks ∷ []) ts) ∙ next_one ks ts

must : (test : Test) (ts : List Token) → must_pass test (next ts) ≡ true → passes test ts ≡ true
must [] ts h = cc
must ([] ∷ test) ts h = refl
must ((ks ∷ []) ∷ test) ts h =
    elim (or_cases (mem (next ts) ks) (must_pass test (next ts)) h) [
      | inl hit ↦ or_left (are_next (ks ∷ []) ts) (passes test ts) (next_one ks ts ∙ hit)
      | inr m ↦ or_right (are_next (ks ∷ []) ts) (passes test ts) (must test ts m)
    ]
must ((ks ∷ ls ∷ string) ∷ test) ts h = or_right (are_next (ks ∷ ls ∷ string) ts) (passes test ts) (must test ts h)

may : (test : Test) (ts : List Token) → passes test ts ≡ true → may_pass test (next ts) ≡ true
may [] ts h = cc
may ([] ∷ test) ts h = refl
may ((ks ∷ string) ∷ test) ts h =
    elim (or_cases (are_next (ks ∷ string) ts) (passes test ts) h) [
      | inl hit ↦ or_left (mem (next ts) ks) (may_pass test (next ts)) (next_first ks string ts hit)
      | inr m ↦ or_right (mem (next ts) ks) (may_pass test (next ts)) (may test ts m)
    ]

unless : (a b : Bool) → (a ≡ true → b ≡ true) → b ≡ false → a ≡ false
unless true b h e = cc (h refl)
unless false b h e = refl

looks : (want : Bool) (test : Test) (ts : List Token) → agrees want (passes test ts) ≡ true → may_be want test (next ts) ≡ true
looks true test ts a = may test ts a
looks false test ts a = ap not (unless (must_pass test (next ts)) (passes test ts) (must test ts) (not-true (passes test ts) a))

pub looked_mem : (want : Bool) (test : Test) (ts : List Token) (ks : List SyntaxKind) → agrees want (passes test ts) ≡ true
    → mem (next ts) ks ≡ true → mem (next ts) (those (may_be want test) ks) ≡ true
looked_mem want test ts ks a h = those_mem (may_be want test) (next ts) ks (looks want test ts a) h

pub on : (test : Test) (ts : List Token) (ks : List SyntaxKind) → decides_on test ks ≡ true → mem (next ts) ks ≡ true
    → passes test ts ≡ true
on test ts ks d h = must test ts (every_mem (must_pass test) (next ts) ks d h)

pub off : (test : Test) (ts : List Token) (ks : List SyntaxKind) → decides_off test ks ≡ true → mem (next ts) ks ≡ true
    → passes test ts ≡ false
off test ts ks d h =
    unless (passes test ts) (may_pass test (next ts)) (may test ts)
    (not-true (may_pass test (next ts)) (every_mem (λ k. not (may_pass test k)) (next ts) ks d h))
