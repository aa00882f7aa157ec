-- How placeholders and their constraints are read, token by token.
use Rattle.std.proofs.Common.{◌≡◌, ℕ, zero, suc, ◌+◌, ◌-◌, ◌≤◌, Bool, true, false, cond, List, [], ◌∷◌, ◌++◌, length, Result, Ok, Err, bytes_eq, codes, refl, sym, ◌∙◌, ap, subst, arith, append_assoc, append-nil}
use Rattle.ssr_syntax_kinds.specs.Kinds.{is_ident}
use Rattle.ssr_syntax_tree.specs.Syntax.{Token}
use Rattle.ide_ssr_resolved_rule.specs.declared.constraints.Constraint.{Constraint}
use Rattle.ide_ssr_resolved_rule.specs.declared.constraints.Constraint.TheVariants as c
use Rattle.ide_ssr_refusals.specs.declared.error.SsrError.{SsrError}
use Rattle.ide_ssr_refusals.specs.declared.error.SsrError.TheVariants as errors
use Rattle.ide_ssr_refusals.specs.declared.refusals.Refusal.TheVariants as r
use Rattle.ide_ssr_resolved_rule.specs.Constraints.{contrary}
use Rattle.ide_ssr_rules.specs.Constraints.{Taken, Placeholder, bracket, kind_name, constraint_on, on_kind, by_word, on_not, worded, constraint, most_nots, is_colon, opens, closes, in_front, constraints_within, constraints, named, braced, named_placeholder}
use Rattle.ide_ssr_refusals.specs.declared.refusals.Refusal.{Refusal}
use Rattle.ide_ssr_refusals.specs.Refusals.{TellsOf, ◌>>=◌}
use Rattle.ide_ssr_refusals.proofs.Shared.{went, ok_same, tells_first, after_ok}

-- ** No reading leaves more tokens than there were.

chosen : {X : Type 0} (b : Bool) (value found : X) (refusal : Refusal) → ◌≡◌ {A = Result X Refusal} (cond b (Ok value) (Err refusal)) (Ok found) → value ≡ found
chosen true value found refusal h = ok_same value found h
chosen false value found refusal h = cc

pub bracket_shorter : (wanted : List ℕ) (tokens rest : List Token) → bracket wanted tokens ≡ Ok rest → length rest ≤ length tokens
unfolding bracket
bracket_shorter wanted [] rest h = cc
bracket_shorter wanted (token ∷ tokens) rest h =
    let same = chosen {X = List Token} (bytes_eq token.text wanted) tokens rest (r.OtherBracket wanted token.text) h in omega (arith, ap length same)

-- what is taken is read from the front
abbrev pub IsShorter : {A : Type 0} → List Token → A × List Token → Type 0
IsShorter tokens taken = length taken.1 ≤ length tokens

name_shorter : (tokens : List Token) (taken : List ℕ × List Token) → kind_name tokens ≡ Ok taken → IsShorter tokens taken
unfolding kind_name
name_shorter [] taken h = cc
name_shorter (token ∷ tokens) taken h =
    let same = chosen {X = List ℕ × List Token} (is_ident token.kind) (token.text, tokens) taken (r.NoKindName token.kind) h in
    omega (arith, ap (λ (t : List ℕ × List Token). length t.1) same)

constraint_on_same : (name : List ℕ) (tokens : List Token) (taken : Constraint × List Token) → constraint_on name tokens ≡ Ok taken → tokens ≡ taken.1
constraint_on_same name tokens taken h =
    ap (λ (t : Constraint × List Token). t.1) (chosen {X = Constraint × List Token} (bytes_eq name (codes "literal")) (c.Literal, tokens) taken (r.UnknownKind name) h)

kind_shorter : (tokens : List Token) (taken : Constraint × List Token) → on_kind tokens ≡ Ok taken → IsShorter tokens taken
unfolding on_kind
kind_shorter tokens taken h =
    let behind_name : List ℕ × List Token → Taken Constraint = λ name. bracket (codes ")") name.1 >>= (λ behind. constraint_on name.0 behind) in
    let inside = went (bracket (codes "(") tokens) (λ inside. kind_name inside >>= behind_name) taken h in
    let name = went (kind_name inside.found) behind_name taken inside.next_is in
    let behind = went (bracket (codes ")") name.found.1) (λ behind. constraint_on name.found.0 behind) taken name.next_is in
    let same = constraint_on_same name.found.0 behind.found taken behind.next_is in
    omega (
      arith,
      bracket_shorter (codes "(") tokens inside.found inside.first_is,
      name_shorter inside.found name.found name.first_is,
      bracket_shorter (codes ")") name.found.1 behind.found behind.first_is,
      ap length same,
    )

not_shorter : (inner : List Token → Taken Constraint) → ((ts : List Token) (t : Constraint × List Token) → inner ts ≡ Ok t → IsShorter ts t)
    → (tokens : List Token) (taken : Constraint × List Token) → on_not inner tokens ≡ Ok taken → IsShorter tokens taken
not_shorter inner shorter tokens taken h =
    let closed : Constraint × List Token → List Token → Taken Constraint = λ negated behind. Ok (contrary negated.0, behind) in
    let behind_inner : Constraint × List Token → Taken Constraint = λ negated. bracket (codes ")") negated.1 >>= closed negated in
    let inside = went (bracket (codes "(") tokens) (λ inside. inner inside >>= behind_inner) taken h in
    let negated = went (inner inside.found) behind_inner taken inside.next_is in
    let behind = went (bracket (codes ")") negated.found.1) (closed negated.found) taken negated.next_is in
    let same = ok_same {X = Constraint × List Token} (contrary negated.found.0, behind.found) taken behind.next_is in
    omega (
      arith,
      bracket_shorter (codes "(") tokens inside.found inside.first_is,
      shorter inside.found negated.found negated.first_is,
      bracket_shorter (codes ")") negated.found.1 behind.found behind.first_is,
      ap (λ (t : Constraint × List Token). length t.1) same,
    )

by_shorter : (kind not : Bool) (refusal : Refusal) (one other : Taken Constraint) (tokens : List Token) (taken : Constraint × List Token)
    → (one ≡ Ok taken → IsShorter tokens taken) → (other ≡ Ok taken → IsShorter tokens taken) → cond kind one (cond not other (Err refusal)) ≡ Ok taken
    → IsShorter tokens taken
by_shorter true not refusal one other tokens taken f g h = f h
by_shorter false true refusal one other tokens taken f g h = g h
by_shorter false false refusal one other tokens taken f g h = absurd cc

worded_shorter : (negated : List Token → Taken Constraint) → ((ts : List Token) (t : Constraint × List Token) → negated ts ≡ Ok t → IsShorter ts t)
    → (tokens : List Token) (taken : Constraint × List Token) → worded negated tokens ≡ Ok taken → IsShorter tokens taken
worded_shorter negated shorter [] taken h = absurd cc
worded_shorter negated shorter (word ∷ tokens) taken h =
    let less = by_shorter (bytes_eq word.text (codes "kind")) (bytes_eq word.text (codes "not")) (r.UnknownConstraint word.text)
    (on_kind tokens) (negated tokens) tokens taken (kind_shorter tokens taken) (shorter tokens taken) h in
    omega (arith, less)

pub constraint_shorter : (left : ℕ) (tokens : List Token) (taken : Constraint × List Token) → constraint left tokens ≡ Ok taken → IsShorter tokens taken
unfolding constraint
constraint_shorter zero tokens taken h = worded_shorter (λ _. Err r.DeepConstraint) (λ ts t is. absurd cc) tokens taken h
constraint_shorter (suc left) tokens taken h = worded_shorter (on_not (constraint left)) (not_shorter (constraint left) (constraint_shorter left)) tokens taken h

-- ** A constraint, by its word.

pub no_constraint : (left : ℕ) → constraint left [] ≡ Err r.NoConstraint
unfolding constraint
no_constraint zero = refl
no_constraint (suc left) = refl

-- which of the two forms follows, by whether the word is `kind` and whether it is `not`
abbrev by_tests : Bool → Bool → List ℕ → Taken Constraint → Taken Constraint → Taken Constraint
by_tests kind not word one other = cond kind one (cond not other (Err (r.UnknownConstraint word)))

tests_kind : (word : List ℕ) (one other : Taken Constraint) → bytes_eq word (codes "kind") ≡ true → by_word word one other ≡ one
tests_kind word one other kind = ap (λ b. by_tests b (bytes_eq word (codes "not")) word one other) kind

tests_not : (word : List ℕ) (one other : Taken Constraint) → bytes_eq word (codes "kind") ≡ false → bytes_eq word (codes "not") ≡ true → by_word word one other ≡ other
tests_not word one other kind not =
    ap (λ b. by_tests b (bytes_eq word (codes "not")) word one other) kind ∙ ap (λ b. by_tests false b word one other) not

tests_neither : (word : List ℕ) (one other : Taken Constraint) → bytes_eq word (codes "kind") ≡ false → bytes_eq word (codes "not") ≡ false
    → by_word word one other ≡ Err (r.UnknownConstraint word)
tests_neither word one other kind not =
    ap (λ b. by_tests b (bytes_eq word (codes "not")) word one other) kind ∙ ap (λ b. by_tests false b word one other) not

pub kind_constraint : (left : ℕ) (word : Token) (tokens : List Token) → bytes_eq word.text (codes "kind") ≡ true → constraint left (word ∷ tokens) ≡ on_kind tokens
unfolding constraint
kind_constraint zero word tokens is = tests_kind word.text (on_kind tokens) (Err r.DeepConstraint) is
kind_constraint (suc left) word tokens is = tests_kind word.text (on_kind tokens) (on_not (constraint left) tokens) is

pub unknown_constraint : (left : ℕ) (word : Token) (tokens : List Token) → bytes_eq word.text (codes "kind") ≡ false → bytes_eq word.text (codes "not") ≡ false
    → constraint left (word ∷ tokens) ≡ Err (r.UnknownConstraint word.text)
unfolding constraint
unknown_constraint zero word tokens kind not = tests_neither word.text (on_kind tokens) (Err r.DeepConstraint) kind not
unknown_constraint (suc left) word tokens kind not = tests_neither word.text (on_kind tokens) (on_not (constraint left) tokens) kind not

pub deep_constraint : (left : ℕ) (word : Token) (tokens : List Token) → left ≡ 0 → bytes_eq word.text (codes "kind") ≡ false → bytes_eq word.text (codes "not") ≡ true
    → constraint left (word ∷ tokens) ≡ Err r.DeepConstraint
unfolding constraint
deep_constraint zero word tokens none kind not = tests_not word.text (on_kind tokens) (Err r.DeepConstraint) kind not
deep_constraint (suc left) word tokens none kind not = absurd (omega (arith, none))

not_constraint : (left : ℕ) (word : Token) (tokens : List Token) → bytes_eq word.text (codes "kind") ≡ false → bytes_eq word.text (codes "not") ≡ true
    → constraint (suc left) (word ∷ tokens) ≡ on_not (constraint left) tokens
unfolding constraint
not_constraint left word tokens kind not = tests_not word.text (on_kind tokens) (on_not (constraint left) tokens) kind not

pub negated_constraint : (left less : ℕ) (word : Token) (tokens : List Token) → left ≡ less + 1 → bytes_eq word.text (codes "kind") ≡ false
    → bytes_eq word.text (codes "not") ≡ true → constraint left (word ∷ tokens) ≡ on_not (constraint less) tokens
negated_constraint left less word tokens more kind not =
    let same : left ≡ suc less = omega (arith, more) in
    ap (λ n. constraint n (word ∷ tokens)) same ∙ not_constraint less word tokens kind not

-- ** Behind a constraint's word.

module _ (tokens : List Token) where
  abbrev behind_kind : List ℕ × List Token → Taken Constraint
  behind_kind name = bracket (codes ")") name.1 >>= (λ behind. constraint_on name.0 behind)

  pub kind_unopened : (error : SsrError) → TellsOf error (bracket (codes "(") tokens) → TellsOf error (on_kind tokens)
  unfolding on_kind
  kind_unopened error tells = tells_first (bracket (codes "(") tokens) (λ inside. kind_name inside >>= behind_kind) error tells

  pub kind_unnamed : (error : SsrError) (inside : List Token) → bracket (codes "(") tokens ≡ Ok inside → TellsOf error (kind_name inside) → TellsOf error (on_kind tokens)
  unfolding on_kind
  kind_unnamed error inside opened tells =
      after_ok (λ read. TellsOf error read) (bracket (codes "(") tokens) (λ inside. kind_name inside >>= behind_kind) inside opened
      (tells_first (kind_name inside) behind_kind error tells)

  pub kind_unclosed : (error : SsrError) (inside : List Token) (name : List ℕ × List Token) → bracket (codes "(") tokens ≡ Ok inside → kind_name inside ≡ Ok name
      → TellsOf error (bracket (codes ")") name.1) → TellsOf error (on_kind tokens)
  unfolding on_kind
  kind_unclosed error inside name opened named tells =
      after_ok (λ read. TellsOf error read) (bracket (codes "(") tokens) (λ inside. kind_name inside >>= behind_kind) inside opened
      (after_ok (λ read. TellsOf error read) (kind_name inside) behind_kind name named
      (tells_first (bracket (codes ")") name.1) (λ behind. constraint_on name.0 behind) error tells))

  pub kind_read : (inside behind : List Token) (name : List ℕ × List Token) → bracket (codes "(") tokens ≡ Ok inside → kind_name inside ≡ Ok name
      → bracket (codes ")") name.1 ≡ Ok behind → on_kind tokens ≡ constraint_on name.0 behind
  unfolding on_kind
  kind_read inside behind name opened named closed =
      ap (λ read. read >>= (λ inside. kind_name inside >>= behind_kind)) opened ∙ ap (λ read. read >>= behind_kind) named
      ∙ ap (λ read. read >>= (λ behind. constraint_on name.0 behind)) closed

  pub kind_known : (inside behind : List Token) (name : List ℕ × List Token) → bracket (codes "(") tokens ≡ Ok inside → kind_name inside ≡ Ok name
      → bracket (codes ")") name.1 ≡ Ok behind → bytes_eq name.0 (codes "literal") ≡ true → on_kind tokens ≡ Ok (c.Literal, behind)
  kind_known inside behind name opened named closed is =
      kind_read inside behind name opened named closed ∙ ap (λ b. cond b (Ok (c.Literal, behind)) (Err (r.UnknownKind name.0))) is

  pub kind_unknown : (inside behind : List Token) (name : List ℕ × List Token) → bracket (codes "(") tokens ≡ Ok inside → kind_name inside ≡ Ok name
      → bracket (codes ")") name.1 ≡ Ok behind → bytes_eq name.0 (codes "literal") ≡ false → on_kind tokens ≡ Err (r.UnknownKind name.0)
  kind_unknown inside behind name opened named closed is =
      kind_read inside behind name opened named closed ∙ ap (λ b. cond b (Ok (c.Literal, behind)) (Err (r.UnknownKind name.0))) is

module _ (inner : List Token → Taken Constraint) (tokens : List Token) where
  abbrev made_contrary : Constraint × List Token → List Token → Taken Constraint
  made_contrary negated behind = Ok (contrary negated.0, behind)

  abbrev behind_inner : Constraint × List Token → Taken Constraint
  behind_inner negated = bracket (codes ")") negated.1 >>= made_contrary negated

  pub not_unopened : (error : SsrError) → TellsOf error (bracket (codes "(") tokens) → TellsOf error (on_not inner tokens)
  not_unopened error tells = tells_first (bracket (codes "(") tokens) (λ inside. inner inside >>= behind_inner) error tells

  pub not_refused : (error : SsrError) (inside : List Token) → bracket (codes "(") tokens ≡ Ok inside → TellsOf error (inner inside) → TellsOf error (on_not inner tokens)
  not_refused error inside opened tells =
      after_ok (λ read. TellsOf error read) (bracket (codes "(") tokens) (λ inside. inner inside >>= behind_inner) inside opened
      (tells_first (inner inside) behind_inner error tells)

  pub not_unclosed : (error : SsrError) (inside : List Token) (negated : Constraint × List Token) → bracket (codes "(") tokens ≡ Ok inside → inner inside ≡ Ok negated
      → TellsOf error (bracket (codes ")") negated.1) → TellsOf error (on_not inner tokens)
  not_unclosed error inside negated opened read tells =
      after_ok (λ read. TellsOf error read) (bracket (codes "(") tokens) (λ inside. inner inside >>= behind_inner) inside opened
      (after_ok (λ read. TellsOf error read) (inner inside) behind_inner negated read
      (tells_first (bracket (codes ")") negated.1) (made_contrary negated) error tells))

  pub not_read : (inside behind : List Token) (negated : Constraint × List Token) (made : Constraint) → bracket (codes "(") tokens ≡ Ok inside → inner inside ≡ Ok negated
      → bracket (codes ")") negated.1 ≡ Ok behind → made ≡ contrary negated.0 → on_not inner tokens ≡ Ok (made, behind)
  not_read inside behind negated made opened read closed is =
      ap (λ first. first >>= (λ inside. inner inside >>= behind_inner)) opened ∙ ap (λ first. first >>= behind_inner) read
      ∙ ap (λ first. first >>= made_contrary negated) closed ∙ ap (λ constraint. Ok (constraint, behind)) (sym is)

-- ** A constraint in front of other tokens.

one_less : (left : ℕ) → (left ≡ 0 → ⊥) → left ≡ left - 1 + 1
one_less zero some = absurd (some refl)
one_less (suc left) some = omega arith

pub no_word : (left : ℕ) (tokens : List Token) → tokens ≡ [] → constraint left tokens ≡ Err r.NoConstraint
no_word left tokens none = ap (constraint left) none ∙ no_constraint left

module _ (left : ℕ) (tokens rest : List Token) (word : Token) (text : List ℕ) (is : tokens ≡ word ∷ rest) (same : text ≡ word.text) where
  of_word : (other : List ℕ) (b : Bool) → bytes_eq text other ≡ b → bytes_eq word.text other ≡ b
  of_word other b test = ap (λ t. bytes_eq t other) (sym same) ∙ test

  pub at_kind : bytes_eq text (codes "kind") ≡ true → constraint left tokens ≡ on_kind rest
  at_kind kind = ap (constraint left) is ∙ kind_constraint left word rest (of_word (codes "kind") true kind)

  pub at_unknown : bytes_eq text (codes "kind") ≡ false → bytes_eq text (codes "not") ≡ false → constraint left tokens ≡ Err (r.UnknownConstraint text)
  at_unknown kind not =
      ap (constraint left) is ∙ unknown_constraint left word rest (of_word (codes "kind") false kind) (of_word (codes "not") false not)
      ∙ ap (λ t. Err (r.UnknownConstraint t)) (sym same)

  pub at_deep : left ≡ 0 → bytes_eq text (codes "kind") ≡ false → bytes_eq text (codes "not") ≡ true → constraint left tokens ≡ Err r.DeepConstraint
  at_deep none kind not =
      ap (constraint left) is ∙ deep_constraint left word rest none (of_word (codes "kind") false kind) (of_word (codes "not") true not)

  pub past_not : (P : Taken Constraint → Type 0) → (left ≡ 0 → ⊥) → bytes_eq text (codes "kind") ≡ false → bytes_eq text (codes "not") ≡ true
      → P (on_not (constraint (left - 1)) rest) → P (constraint left tokens)
  past_not P some kind not holds =
      subst P (sym (ap (constraint left) is ∙ negated_constraint left (left - 1) word rest (one_less left some) (of_word (codes "kind") false kind) (of_word (codes "not") true not)))
      holds

  pub past_tells : (error : SsrError) → (left ≡ 0 → ⊥) → bytes_eq text (codes "kind") ≡ false → bytes_eq text (codes "not") ≡ true
      → TellsOf error (on_not (constraint (left - 1)) rest) → TellsOf error (constraint left tokens)
  past_tells error some kind not tells = past_not (λ read. TellsOf error read) some kind not tells

  pub past_reads : (made : Constraint × List Token) → (left ≡ 0 → ⊥) → bytes_eq text (codes "kind") ≡ false → bytes_eq text (codes "not") ≡ true
      → on_not (constraint (left - 1)) rest ≡ Ok made → constraint left tokens ≡ Ok made
  past_reads made some kind not reads = past_not (λ read. read ≡ Ok made) some kind not reads

-- ** The constraints of a placeholder.

-- two readings that go on alike
pub same_next : {A B : Type 0} (first : Result A Refusal) (one other : A → Result B Refusal) → ((value : A) → first ≡ Ok value → one value ≡ other value)
    → (first >>= one) ≡ (first >>= other)
same_next (Ok value) one other same = same value refl
same_next (Err refusal) one other same = refl

-- one constraint in front of those behind it
abbrev rest_of : ℕ → Constraint × List Token → Taken (List Constraint)
rest_of fuel one = in_front one.0 (constraints_within fuel one.1)

-- what is read behind the name, by whether a `}` or a `:` comes
abbrev by_mark : ℕ → Bool → Bool → Token → List Token → Taken (List Constraint)
by_mark fuel close colon token tokens =
    cond close (Ok ([], tokens)) (cond colon (constraint most_nots tokens >>= rest_of fuel) (Err (r.UnexpectedToken token.text)))

constraints_same : (f g : ℕ) (tokens : List Token) → length tokens ≤ f → length tokens ≤ g → constraints_within f tokens ≡ constraints_within g tokens
constraints_same zero zero tokens a b = refl
constraints_same zero (suc g) [] a b = refl
constraints_same zero (suc g) (token ∷ tokens) a b = absurd (omega (arith, a))
constraints_same (suc f) zero [] a b = refl
constraints_same (suc f) zero (token ∷ tokens) a b = absurd (omega (arith, b))
constraints_same (suc f) (suc g) [] a b = refl
constraints_same (suc f) (suc g) (token ∷ tokens) a b =
    ap (λ taken. cond (closes token.kind) (Ok ([], tokens)) (cond (is_colon token.kind) taken (Err (r.UnexpectedToken token.text))))
    (same_next (constraint most_nots tokens) (rest_of f) (rest_of g)
    (λ taken is.
    let shorter = constraint_shorter most_nots tokens taken is in
    ap (in_front taken.0) (constraints_same f g taken.1 (omega (arith, shorter, a)) (omega (arith, shorter, b)))))

front_shorter : (constraint : Constraint) (tokens : List Token) (read : Taken (List Constraint)) (taken : List Constraint × List Token)
    → ((t : List Constraint × List Token) → read ≡ Ok t → IsShorter tokens t) → in_front constraint read ≡ Ok taken → IsShorter tokens taken
front_shorter constraint tokens (Ok rest) taken shorter h =
    let same = ok_same {X = List Constraint × List Token} (constraint ∷ rest.0, rest.1) taken h in
    omega (arith, shorter rest refl, ap (λ (t : List Constraint × List Token). length t.1) same)
front_shorter constraint tokens (Err refusal) taken shorter h = absurd cc

within_by : (close colon : Bool) (fuel : ℕ) (token : Token) (tokens : List Token) (taken : List Constraint × List Token)
    → ((ts : List Token) (t : List Constraint × List Token) → constraints_within fuel ts ≡ Ok t → IsShorter ts t)
    → by_mark fuel close colon token tokens ≡ Ok taken → IsShorter (token ∷ tokens) taken
within_by true colon fuel token tokens taken shorter h =
    let same = ok_same {X = List Constraint × List Token} ([], tokens) taken h in omega (arith, ap (λ (t : List Constraint × List Token). length t.1) same)
within_by false true fuel token tokens taken shorter h =
    let one = went (constraint most_nots tokens) (rest_of fuel) taken h in
    let less = constraint_shorter most_nots tokens one.found one.first_is in
    let rest = front_shorter one.found.0 one.found.1 (constraints_within fuel one.found.1) taken (shorter one.found.1) one.next_is in
    omega (arith, less, rest)
within_by false false fuel token tokens taken shorter h = absurd cc

within_shorter : (fuel : ℕ) (tokens : List Token) (taken : List Constraint × List Token) → constraints_within fuel tokens ≡ Ok taken → IsShorter tokens taken
within_shorter zero tokens taken h = absurd cc
within_shorter (suc fuel) [] taken h = absurd cc
within_shorter (suc fuel) (token ∷ tokens) taken h =
    within_by (closes token.kind) (is_colon token.kind) fuel token tokens taken (within_shorter fuel) h

pub constraints_shorter : (tokens : List Token) (taken : List Constraint × List Token) → constraints tokens ≡ Ok taken → IsShorter tokens taken
unfolding constraints
constraints_shorter tokens taken h = within_shorter (length tokens) tokens taken h

-- constraints read so far, and what the rest gives
abbrev pub prefixed : List Constraint → Taken (List Constraint) → Taken (List Constraint)
prefixed before (Ok rest) = Ok (before ++ rest.0, rest.1)
prefixed before (Err refusal) = Err refusal

prefixed_push : (before : List Constraint) (one : Constraint) (rest : Taken (List Constraint)) → prefixed (before ++ one ∷ []) rest ≡ prefixed before (in_front one rest)
prefixed_push before one (Ok rest) = ap (λ all. Ok (all, rest.1)) (append_assoc before (one ∷ []) rest.0)
prefixed_push before one (Err refusal) = refl

marked : (close colon : Bool) (token : Token) (tokens : List Token) → closes token.kind ≡ close → is_colon token.kind ≡ colon
    → constraints (token ∷ tokens) ≡ by_mark (length tokens) close colon token tokens
unfolding constraints
marked close colon token tokens first second =
    ap (λ b. by_mark (length tokens) b (is_colon token.kind) token tokens) first ∙ ap (λ b. by_mark (length tokens) close b token tokens) second

colon_read : (token : Token) (tokens : List Token) → closes token.kind ≡ false → is_colon token.kind ≡ true
    → constraints (token ∷ tokens) ≡ (constraint most_nots tokens >>= rest_of (length tokens))
colon_read token tokens close is = marked false true token tokens close is

fewer_read : (tokens rest : List Token) → length rest ≤ length tokens → constraints_within (length tokens) rest ≡ constraints rest
unfolding constraints
fewer_read tokens rest less = constraints_same (length tokens) (length rest) rest less (omega arith)

pub constraints_more : (all left middle rest : List Token) (found more : List Constraint) (token : Token) (one : Constraint)
    → prefixed found (constraints left) ≡ constraints all → left ≡ token ∷ middle → closes token.kind ≡ false → is_colon token.kind ≡ true
    → constraint most_nots middle ≡ Ok (one, rest)
    → more ≡ found ++ one ∷ [] → prefixed more (constraints rest) ≡ constraints all
constraints_more all left middle rest found more token one so_far is close colon read pushed =
    ap (λ f. prefixed f (constraints rest)) pushed
    ∙ prefixed_push found one (constraints rest)
    ∙ ap (λ taken. prefixed found (in_front one taken)) (sym (fewer_read middle rest (constraint_shorter most_nots middle (one, rest) read)))
    ∙ ap (λ (taken : Taken Constraint). prefixed found (taken >>= rest_of (length middle))) (sym read)
    ∙ ap (prefixed found) (sym (colon_read token middle close colon))
    ∙ ap (λ ts. prefixed found (constraints ts)) (sym is)
    ∙ so_far

pub constraints_end : (all left : List Token) (found : List Constraint) → prefixed found (constraints left) ≡ constraints all → left ≡ [] → constraints all ≡ Err r.NoClosingBrace
unfolding constraints
constraints_end all left found so_far none = sym so_far ∙ ap (λ ts. prefixed found (constraints_within (length ts) ts)) none

pub constraints_closed : (all left rest : List Token) (found : List Constraint) (token : Token) → prefixed found (constraints left) ≡ constraints all → left ≡ token ∷ rest
    → closes token.kind ≡ true → constraints all ≡ Ok (found, rest)
constraints_closed all left rest found token so_far is close =
    sym so_far ∙ ap (λ ts. prefixed found (constraints ts)) is ∙ ap (prefixed found) (marked true (is_colon token.kind) token rest close refl)
    ∙ ap (λ all. Ok (all, rest)) (append-nil found)

pub constraints_unexpected : (all left rest : List Token) (found : List Constraint) (token : Token) (text : List ℕ) → prefixed found (constraints left) ≡ constraints all
    → left ≡ token ∷ rest → closes token.kind ≡ false → is_colon token.kind ≡ false → text ≡ token.text → constraints all ≡ Err (r.UnexpectedToken text)
constraints_unexpected all left rest found token text so_far is close colon same =
    sym so_far ∙ ap (λ ts. prefixed found (constraints ts)) is ∙ ap (prefixed found) (marked false false token rest close colon)
    ∙ ap (λ t. Err (r.UnexpectedToken t)) (sym same)

pub constraints_smaller : (left middle rest : List Token) (token : Token) (one : Constraint) → left ≡ token ∷ middle → constraint most_nots middle ≡ Ok (one, rest)
    → length rest + 1 ≤ length left
constraints_smaller left middle rest token one is read =
    let less = constraint_shorter most_nots middle (one, rest) read in omega (arith, ap length is, less)

tells_prefixed : (error : SsrError) (before : List Constraint) (read : Taken (List Constraint)) → TellsOf error read → TellsOf error (prefixed before read)
tells_prefixed error before (Err refusal) tells = tells
tells_prefixed errors.Memory before (Ok rest) tells = tt
tells_prefixed (errors.Message message) before (Ok rest) tells = absurd tells

pub constraints_refused : (error : SsrError) (all left rest : List Token) (found : List Constraint) (token : Token)
    → prefixed found (constraints left) ≡ constraints all → left ≡ token ∷ rest → closes token.kind ≡ false → is_colon token.kind ≡ true
    → TellsOf error (constraint most_nots rest) → TellsOf error (constraints all)
constraints_refused error all left rest found token so_far is close colon tells =
    subst (λ reading. TellsOf error reading) (ap (prefixed found) (sym (colon_read token rest close colon)) ∙ ap (λ ts. prefixed found (constraints ts)) (sym is) ∙ so_far)
    (tells_prefixed error found _ (tells_first (constraint most_nots rest) (rest_of (length rest)) error tells))

-- ** A placeholder.

-- a placeholder without constraints
abbrev plain : Token → List Token → Taken Placeholder
plain token rest = Ok (record { name = token.text; constraints = [] }, rest)

plain_shorter : (token : Token) (rest : List Token) (taken : Placeholder × List Token) → plain token rest ≡ Ok taken → IsShorter (token ∷ rest) taken
plain_shorter token rest taken h =
    let same = ok_same {X = Placeholder × List Token} (record { name = token.text; constraints = [] }, rest) taken h in
    omega (arith, ap (λ (t : Placeholder × List Token). length t.1) same)

braced_shorter : (tokens : List Token) (taken : Placeholder × List Token) → braced tokens ≡ Ok taken → IsShorter tokens taken
unfolding braced
braced_shorter [] taken h = absurd cc
braced_shorter (token ∷ tokens) taken h =
    let read = went (constraints tokens) (λ rest. named token rest) taken h in
    let less = constraints_shorter tokens read.found read.first_is in
    let same =
    chosen {X = Placeholder × List Token} (is_ident token.kind) (record { name = token.text; constraints = read.found.0 }, read.found.1) taken r.NoName read.next_is in
    omega (arith, less, ap (λ (t : Placeholder × List Token). length t.1) same)

placed_shorter : (brace ident : Bool) (token : Token) (tokens : List Token) (taken : Placeholder × List Token)
    → cond brace (braced tokens) (cond ident (plain token tokens) (Err r.NoPlaceholder)) ≡ Ok taken → IsShorter (token ∷ tokens) taken
placed_shorter true ident token tokens taken h = let less = braced_shorter tokens taken h in omega (arith, less)
placed_shorter false true token tokens taken h = plain_shorter token tokens taken h
placed_shorter false false token tokens taken h = absurd cc

pub placeholder_shorter : (tokens : List Token) (taken : Placeholder × List Token) → named_placeholder tokens ≡ Ok taken → IsShorter tokens taken
unfolding named_placeholder
placeholder_shorter [] taken h = absurd cc
placeholder_shorter (token ∷ tokens) taken h = placed_shorter (opens token.kind) (is_ident token.kind) token tokens taken h

-- a placeholder, by its first token
module _ (token : Token) (tokens : List Token) where
  pub placeholder_braced : opens token.kind ≡ true → named_placeholder (token ∷ tokens) ≡ braced tokens
  unfolding named_placeholder
  placeholder_braced is = ap (λ b. cond b (braced tokens) (cond (is_ident token.kind) (plain token tokens) (Err r.NoPlaceholder))) is

  pub placeholder_plain : opens token.kind ≡ false → is_ident token.kind ≡ true → named_placeholder (token ∷ tokens) ≡ plain token tokens
  unfolding named_placeholder
  placeholder_plain brace ident =
      ap (λ b. cond b (braced tokens) (cond (is_ident token.kind) (plain token tokens) (Err r.NoPlaceholder))) brace
      ∙ ap (λ b. cond b (plain token tokens) (Err r.NoPlaceholder)) ident

  pub placeholder_other : opens token.kind ≡ false → is_ident token.kind ≡ false → named_placeholder (token ∷ tokens) ≡ Err r.NoPlaceholder
  unfolding named_placeholder
  placeholder_other brace ident =
      ap (λ b. cond b (braced tokens) (cond (is_ident token.kind) (plain token tokens) (Err r.NoPlaceholder))) brace
      ∙ ap (λ b. cond b (plain token tokens) (Err r.NoPlaceholder)) ident

-- a placeholder in braces, by its first token
module _ (tokens rest : List Token) (token : Token) (is : tokens ≡ token ∷ rest) where
  pub braced_refused : (error : SsrError) → TellsOf error (constraints rest) → TellsOf error (braced tokens)
  unfolding braced
  braced_refused error tells =
      subst (λ ts. TellsOf error (braced ts)) (sym is) (tells_first (constraints rest) (λ read. named token read) error tells)

  at_name : (read : List Constraint × List Token) → constraints rest ≡ Ok read → braced tokens ≡ named token read
  unfolding braced
  at_name read reads = ap braced is ∙ ap (λ first. first >>= (λ read. named token read)) reads

  pub braced_unnamed : (read : List Constraint × List Token) → constraints rest ≡ Ok read → is_ident token.kind ≡ false → braced tokens ≡ Err r.NoName
  braced_unnamed read reads ident =
      at_name read reads ∙ ap (λ b. cond b (Ok (record { name = token.text; constraints = read.0 }, read.1)) (Err r.NoName)) ident

  pub braced_read : (name : List ℕ) (read : List Constraint × List Token) → name ≡ token.text → constraints rest ≡ Ok read → is_ident token.kind ≡ true
      → braced tokens ≡ Ok (record { name = name; constraints = read.0 }, read.1)
  braced_read name read same reads ident =
      at_name read reads ∙ ap (λ b. cond b (Ok (record { name = token.text; constraints = read.0 }, read.1)) (Err r.NoName)) ident
      ∙ ap (λ text. Ok (record { name = text; constraints = read.0 }, read.1)) (sym same)

  pub opens_braces : opens token.kind ≡ true → named_placeholder tokens ≡ braced rest
  opens_braces brace = ap named_placeholder is ∙ placeholder_braced token rest brace

  pub plain_read : (name : List ℕ) (none : List Constraint) → name ≡ token.text → none ≡ [] → opens token.kind ≡ false → is_ident token.kind ≡ true
      → named_placeholder tokens ≡ Ok (record { name = name; constraints = none }, rest)
  plain_read name none same empty brace ident =
      ap named_placeholder is ∙ placeholder_plain token rest brace ident ∙ ap (λ text. Ok (record { name = text; constraints = [] }, rest)) (sym same)
      ∙ ap (λ cs. Ok (record { name = name; constraints = cs }, rest)) (sym empty)

  pub other_read : opens token.kind ≡ false → is_ident token.kind ≡ false → named_placeholder tokens ≡ Err r.NoPlaceholder
  other_read brace ident = ap named_placeholder is ∙ placeholder_other token rest brace ident

pub braced_end : (tokens : List Token) → tokens ≡ [] → braced tokens ≡ Err r.EndOfPlaceholder
unfolding braced
braced_end tokens none = ap braced none

pub placeholder_end : (tokens : List Token) → tokens ≡ [] → named_placeholder tokens ≡ Err r.NoName
unfolding named_placeholder
placeholder_end tokens none = ap named_placeholder none
