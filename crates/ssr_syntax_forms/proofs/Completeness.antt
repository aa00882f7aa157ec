-- What fits a form is read, where the look-ahead decides.
use Rattle.std.proofs.Common.{◌≡◌, ℕ, zero, suc, ◌+◌, ◌<◌, Bool, true, false, not, ◌||◌, ◌&&◌, nat_le, List, [], ◌∷◌, ◌++◌, length, take, Ok, inl, inr, refl, sym, ap, subst, ◌∙◌, append_assoc, arith}
use Rattle.std.proofs.lemmas.Bool.{le-leb, and_parts, not-true, or_cases}
use Rattle.std.proofs.lemmas.List.{length-append}
use Rattle.std.proofs.Math.Seq.{drop-append_seam, take-append_seam}
use Rattle.ssr_syntax_kinds.specs.declared.kinds.SyntaxKind.{SyntaxKind}
use Rattle.ssr_syntax_kinds.specs.Kinds.{same_kind}
use Rattle.ssr_syntax_kinds.proofs.Shared.{same_kind-equal}
use Rattle.ssr_syntax_forms.specs.declared.tokens.Token.{Token}
use Rattle.ssr_syntax_forms.specs.Kinds.{mem}
use Rattle.ssr_syntax_forms.specs.Trees.{Forest, done, leaf}
use Rattle.ssr_syntax_forms.specs.Forms.{Form, one, child, mark, seal, ◌then◌, nothing, choose, many, look, check, wide, Test, more, taken_as, is_one, next, passes, agrees, SoFar, so_far, ReadsBelow, read, past, first_leaf, repeat}
use Rattle.ssr_syntax_forms.proofs.Nested.{FitsBelow, Repeats, FitsForm}
use Rattle.ssr_syntax_forms.proofs.Check.{Tables, empty, firsts, starts, decides_on, decides_off, settles, decides_before, same_kinds, same_string, same_test, asks}
use Rattle.ssr_syntax_forms.proofs.Members.{subset_mem, on, off}
use Rattle.ssr_syntax_forms.proofs.Starts.{Claims, no_tokens, first_token, begins, ends}

-- what fits a goal is read
abbrev pub ReadBelow : {Goal : Type 0} → Tables Goal → FitsBelow Goal → ReadsBelow Goal → Type 0
ReadBelow {Goal = Goal} t fits below =
    (goal : Goal) (y : Forest) (us rest : List Token) → fits goal y us rest
    → mem (next rest) (t.follow goal) ≡ true → below goal (us ++ rest) ≡ Ok (so_far y rest)

-- one token is taken
past_token : (whole : Bool) (ks : List SyntaxKind) (t : Token) (vs rest : List Token) → is_one whole ks t ≡ true
    → more whole t ≡ length vs → past whole ks ((t ∷ vs) ++ rest) ≡ Ok rest
past_token whole ks t vs rest hit n =
    let fits : nat_le (length vs) (length (vs ++ rest)) ≡ true =
    le-leb (length vs) (length (vs ++ rest)) (omega (arith, length-append vs rest)) in
    rw (hit, n, fits, drop-append_seam vs rest) refl

leaf_token : (whole : Bool) (t : Token) (vs rest : List Token) → more whole t ≡ length vs
    → first_leaf whole ((t ∷ vs) ++ rest) ≡ leaf (taken_as whole t) (t ∷ vs) done
leaf_token whole t vs rest n = ap (λ w. leaf (taken_as whole t) (t ∷ w) done) (ap (λ k. take k (vs ++ rest)) n ∙ take-append_seam vs rest)

stay : (x z : Forest) (us rest : List Token) → us ≡ [] → z ≡ x → ◌≡◌ {A = SoFar} (so_far x (us ++ rest)) (so_far z rest)
stay x z us rest n e = ap (λ w. so_far x (w ++ rest)) n ∙ ap (λ w. so_far w rest) (sym e)

split : (us vs ws rest : List Token) → us ≡ vs ++ ws → us ++ rest ≡ vs ++ (ws ++ rest)
split us vs ws rest e = ap (λ w. w ++ rest) e ∙ append_assoc vs ws rest

-- these tokens fail each test that `stops` holds of
abbrev Stops : (Test → Bool) → List Token → Type 0
Stops stops rest = (test : Test) → stops test ≡ true → passes test rest ≡ false

-- what fits the form is read
abbrev IsComplete : {Goal : Type 0} → Tables Goal → FitsBelow Goal → ReadsBelow Goal → (Test → Bool) → Form Goal → List SyntaxKind → Type 0
IsComplete t fits below stops form follow =
    (x z : Forest) (us rest : List Token) → FitsForm fits form x z us rest → mem (next rest) follow ≡ true → Stops stops rest
    → read below form (so_far x (us ++ rest)) ≡ Ok (so_far z rest)

-- ** Forms that ask for the test themselves.
kinds_same : (ks ls : List SyntaxKind) → same_kinds ks ls ≡ true → ks ≡ ls
kinds_same [] [] e = refl
kinds_same (k ∷ ks) (l ∷ ls) e =
    let b = and_parts (same_kind k l) (same_kinds ks ls) e in rw (same_kind-equal k l b.0, kinds_same ks ls b.1) refl
kinds_same [] (l ∷ ls) e = cc
kinds_same (k ∷ ks) [] e = cc

strings_same : (s t : List (List SyntaxKind)) → same_string s t ≡ true → s ≡ t
strings_same [] [] e = refl
strings_same (ks ∷ s) (ls ∷ t) e =
    let b = and_parts (same_kinds ks ls) (same_string s t) e in rw (kinds_same ks ls b.0, strings_same s t b.1) refl
strings_same [] (ls ∷ t) e = cc
strings_same (ks ∷ s) [] e = cc

tests_same : (test other : Test) → same_test test other ≡ true → test ≡ other
tests_same [] [] e = refl
tests_same (s ∷ test) (t ∷ other) e =
    let b = and_parts (same_string s t) (same_test test other) e in rw (strings_same s t b.0, tests_same test other b.1) refl
tests_same [] (t ∷ other) e = cc
tests_same (s ∷ test) [] e = cc

both_agree : (want w p : Bool) → agrees want w ≡ true → agrees w p ≡ true → p ≡ want
both_agree true true p e f = f
both_agree false false p e f = not-true p f
both_agree true false p e f = cc
both_agree false true p e f = cc

asked : {Goal : Type 0} (fits : FitsBelow Goal) (want : Bool) (test : Test) (form : Form Goal) → asks want test form ≡ true
    → (x z : Forest) (us rest : List Token) → FitsForm fits form x z us rest → passes test (us ++ rest) ≡ want
asked fits want test (look w other) a x z us rest (no_tokens_taken, _, passed) =
    let b = and_parts (agrees want w) (same_test test other) a in
    rw (no_tokens_taken, tests_same test other b.1) (both_agree want w (passes other rest) b.0 passed)
asked fits want test (g then j) a x z us rest (y, vs, ws, us_is, before, _) =
    rw (split us vs ws rest us_is) (asked fits want test g a x y vs (ws ++ rest) before)
asked fits want test (one whole ks) a x z us rest f = cc
asked fits want test (child goal) a x z us rest f = cc
asked fits want test (mark g) a x z us rest f = cc
asked fits want test (seal kind) a x z us rest f = cc
asked fits want test nothing a x z us rest f = cc
asked fits want test (choose other g j) a x z us rest f = cc
asked fits want test (many other g) a x z us rest f = cc
asked fits want test (check condition) a x z us rest f = cc
asked fits want test (wide w v) a x z us rest f = asked fits want test v a x z us rest f

turns : {Goal : Type 0} (t : Tables Goal) (fits : FitsBelow Goal) (below : ReadsBelow Goal) → Claims t fits → (test : Test) (form : Form Goal) (follow : List SyntaxKind)
    → empty t form ≡ false → (asks true test form || decides_on test (firsts t form)) ≡ true
    → IsComplete t fits below (λ other. false) form (firsts t form ++ follow)
    → (n fuel : ℕ) (x z : Forest) (us rest : List Token) → Repeats n (FitsForm fits form) x z us rest
    → mem (next rest) follow ≡ true → passes test rest ≡ false → length us < fuel
    → repeat (λ s. s.rest) fuel test (read below form) (so_far x (us ++ rest)) ≡ Ok (so_far z rest)
turns t fits below c test form follow e o turn zero zero x z us rest f m miss lt = absurd (omega (arith, lt))
turns t fits below c test form follow e o turn zero (suc fuel) x z us rest (no_tokens_taken, z_is) m miss lt =
    subst (λ w. repeat (λ s. s.rest) (suc fuel) test (read below form) w ≡ Ok (so_far z rest)) (sym (stay x z us rest no_tokens_taken z_is))
    (rw miss refl)
turns t fits below c test form follow e o turn (suc n) zero x z us rest f m miss lt = absurd (omega (arith, lt))
turns t fits below c test form follow e o turn (suc n) (suc fuel) x z us rest (y, vs, ws, us_is, one_turn, turns_left) m miss lt =
    elim (ends vs) [
      | inl none ↦ absurd (cc (e, no_tokens t fits c form x y vs (ws ++ rest) one_turn none))
      | inr some ↦
          let first : mem some.0.joined (firsts t form) ≡ true =
          first_token t fits c form x y vs (ws ++ rest) some.0 some.1 one_turn some.2 in
          let passes_here : passes test (vs ++ (ws ++ rest)) ≡ true =
          elim (or_cases (asks true test form) (decides_on test (firsts t form)) o) [
            | inl a ↦ asked fits true test form a x y vs (ws ++ rest) one_turn
            | inr on_all ↦ rw some.2 (on test ((some.0 ∷ some.1) ++ (ws ++ rest)) (firsts t form) on_all first)
          ] in
          let behind = begins t fits c (many test form) follow y z ws rest (n, turns_left) m in
          let one = turn x y vs (ws ++ rest) one_turn behind (λ other no. absurd cc) in
          let shorter : length ws < fuel =
          omega (arith, lt, ap length us_is, length-append vs ws, ap length some.2) in
          rw (split us vs ws rest us_is, passes_here, one)
          (turns t fits below c test form follow e o turn n fuel y z ws rest turns_left m miss shorter)
    ]

settled : (wanted : Bool) (test : Test) (ts : List Token) (follow : List SyntaxKind) → settles wanted test follow ≡ true
    → mem (next ts) follow ≡ true → passes test ts ≡ wanted
settled true test ts follow d m = on test ts follow d m
settled false test ts follow d m = off test ts follow d m

-- before what fits the first form the test passes, before the second one it doesn't
told : {Goal : Type 0} (t : Tables Goal) (fits : FitsBelow Goal) → Claims t fits → (wanted : Bool) (test : Test) (g : Form Goal) (follow : List SyntaxKind)
    → (asks wanted test g || settles wanted test (starts t g follow)) ≡ true
    → (x z : Forest) (us rest : List Token) → FitsForm fits g x z us rest → mem (next rest) follow ≡ true
    → passes test (us ++ rest) ≡ wanted
told t fits c wanted test g follow d x z us rest f m =
    elim (or_cases (asks wanted test g) (settles wanted test (starts t g follow)) d) [
      | inl a ↦ asked fits wanted test g a x z us rest f
      | inr o ↦ settled wanted test (us ++ rest) (starts t g follow) o (begins t fits c g follow x z us rest f m)
    ]

pub complete : {Goal : Type 0} (t : Tables Goal) (fits : FitsBelow Goal) (below : ReadsBelow Goal) → Claims t fits → ReadBelow t fits below
    → (stops : Test → Bool) (form : Form Goal) (follow : List SyntaxKind) → decides_before t stops form follow ≡ true
    → IsComplete t fits below stops form follow
complete t fits below c k stops (one whole ks) follow d x z us rest (front, others, us_is, is, size, z_is) m s =
    rw (ap (λ w. w ++ rest) us_is, past_token whole ks front others rest is size, leaf_token whole front others rest size, z_is) refl
complete t fits below c k stops (child goal) follow d x z us rest (y, y_fits, z_is) m s =
    rw (k goal y us rest y_fits (subset_mem (next rest) follow (t.follow goal) d m), z_is) refl
complete t fits below c k stops (mark g) follow d x z us rest (y, y_fits, z_is) m s =
    rw (complete t fits below c k stops g follow d done y us rest y_fits m s, z_is) refl
complete t fits below c k stops (seal kind) follow d x z us rest (no_tokens_taken, z_is) m s = rw (no_tokens_taken, z_is) refl
complete t fits below c k stops (g then j) follow d x z us rest (y, vs, ws, us_is, before, after) m s =
    let b = and_parts (decides_before t stops j follow) (decides_before t (λ test. asks false test j) g (starts t j follow)) d in
    rw (
      split us vs ws rest us_is,
      complete t fits below c k (λ test. asks false test j) g (starts t j follow) b.1 x y vs (ws ++ rest) before (begins t fits c j follow y z ws rest after m)
          (λ test a. asked fits false test j a y z ws rest after),
    )
    (complete t fits below c k stops j follow b.0 y z ws rest after m s)
complete t fits below c k stops nothing follow d x z us rest (no_tokens_taken, z_is) m s = ap Ok (stay x z us rest no_tokens_taken z_is)
complete t fits below c k stops (choose test g j) follow d x z us rest (inl f) m s =
    let b = (and_parts (decides_before t stops g follow && (asks true test g || decides_on test (starts t g follow)))
    (decides_before t stops j follow && (asks false test j || decides_off test (starts t j follow))) d).0 in
    let v = and_parts (decides_before t stops g follow) (asks true test g || decides_on test (starts t g follow)) b in
    rw (told t fits c true test g follow v.1 x z us rest f m) (complete t fits below c k stops g follow v.0 x z us rest f m s)
complete t fits below c k stops (choose test g j) follow d x z us rest (inr f) m s =
    let b = (and_parts (decides_before t stops g follow && (asks true test g || decides_on test (starts t g follow)))
    (decides_before t stops j follow && (asks false test j || decides_off test (starts t j follow))) d).1 in
    let v = and_parts (decides_before t stops j follow) (asks false test j || decides_off test (starts t j follow)) b in
    rw (told t fits c false test j follow v.1 x z us rest f m) (complete t fits below c k stops j follow v.0 x z us rest f m s)
complete t fits below c k stops (many test g) follow d x z us rest (count, turns_taken) m s =
    let b = and_parts (stops test || decides_off test follow)
    ((decides_before t (λ other. false) g (firsts t g ++ follow) && not (empty t g)) && (asks true test g || decides_on test (firsts t g))) d in
    let miss : passes test rest ≡ false =
    elim (or_cases (stops test) (decides_off test follow) b.0) [ inl ends_here ↦ s test ends_here | inr o ↦ off test rest follow o m ] in
    let enough : length us < length (us ++ rest) + 1 = omega (arith, length-append us rest) in
    let v = and_parts (decides_before t (λ other. false) g (firsts t g ++ follow) && not (empty t g)) (asks true test g || decides_on test (firsts t g)) b.1 in
    let u = and_parts (decides_before t (λ other. false) g (firsts t g ++ follow)) (not (empty t g)) v.0 in
    turns t fits below c test g follow (not-true (empty t g) u.1) v.1
    (complete t fits below c k (λ other. false) g (firsts t g ++ follow) u.0)
    count (length (us ++ rest) + 1) x z us rest turns_taken m miss enough
complete t fits below c k stops (look want test) follow d x z us rest (no_tokens_taken, z_is, passed) m s =
    subst (λ w. read below (look want test) w ≡ Ok (so_far z rest)) (sym (stay x z us rest no_tokens_taken z_is)) (rw passed refl)
complete t fits below c k stops (check condition) follow d x z us rest (no_tokens_taken, z_is, passed) m s =
    rw (passed, no_tokens_taken, z_is) refl
complete t fits below c k stops (wide f g) follow d x z us rest fit m s = complete t fits below c k stops g follow d x z us rest fit m s
