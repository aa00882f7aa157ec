-- With which token begins what fits a form.
use Rattle.std.proofs.Common.{◌≡◌, ℕ, zero, suc, true, List, [], ◌∷◌, ◌++◌, ◌⊎◌, inl, inr, refl, sym, ap, subst, ◌∙◌}
use Rattle.std.proofs.lemmas.Bool.{and_from, or_left, or_right}
use Rattle.ssr_syntax_kinds.specs.declared.kinds.SyntaxKind.{SyntaxKind}
use Rattle.ssr_syntax_forms.specs.declared.tokens.Token.{Token}
use Rattle.ssr_syntax_forms.specs.Kinds.{mem}
use Rattle.ssr_syntax_forms.specs.Trees.{Forest, done}
use Rattle.ssr_syntax_forms.specs.Forms.{Form, one, child, mark, seal, ◌then◌, nothing, choose, many, look, check, wide, next}
use Rattle.ssr_syntax_forms.proofs.Nested.{FitsBelow, Repeats, FitsForm}
use Rattle.ssr_syntax_forms.proofs.Check.{Tables, empty, firsts, passing, starts}
use Rattle.ssr_syntax_forms.proofs.Members.{mem_left, mem_right, looked_mem, one_joined}

-- the claims of the tables on the goals below
pub record Claims {Goal : Type 0} (t : Tables Goal) (fits : FitsBelow Goal) : Type 0 where
  pub empty : (goal : Goal) (y : Forest) (us rest : List Token) → fits goal y us rest → us ≡ [] → t.is_empty goal ≡ true
  pub first : (goal : Goal) (y : Forest) (us rest : List Token) (v : Token) (vs : List Token) → fits goal y us rest
      → us ≡ v ∷ vs → mem v.joined (t.first goal) ≡ true

no_left : (vs ws us : List Token) → us ≡ vs ++ ws → us ≡ [] → vs ≡ []
no_left [] ws us e n = refl
no_left (v ∷ vs) ws us e n = cc

no_right : (vs ws us : List Token) → us ≡ vs ++ ws → us ≡ [] → ws ≡ []
no_right [] ws us e n = sym e ∙ n
no_right (v ∷ vs) ws us e n = cc

pub no_tokens : {Goal : Type 0} (t : Tables Goal) (fits : FitsBelow Goal) → Claims t fits → (form : Form Goal) (x z : Forest) (us rest : List Token)
    → FitsForm fits form x z us rest → us ≡ [] → empty t form ≡ true
no_tokens t fits c (one whole ks) x z us rest (_, _, us_is, _, _, _) n = cc (us_is, n)
no_tokens t fits c (child goal) x z us rest (y, y_fits, _) n = c.empty goal y us rest y_fits n
no_tokens t fits c (mark g) x z us rest (y, y_fits, _) n = no_tokens t fits c g done y us rest y_fits n
no_tokens t fits c (seal kind) x z us rest f n = refl
no_tokens t fits c (g then k) x z us rest (mid, taken, left, us_is, before, after) n =
    and_from (empty t g) (empty t k)
    (no_tokens t fits c g x mid taken (left ++ rest) before (no_left taken left us us_is n))
    (no_tokens t fits c k mid z left rest after (no_right taken left us us_is n))
no_tokens t fits c nothing x z us rest f n = refl
no_tokens t fits c (choose test g k) x z us rest (inl f) n = or_left (empty t g) (empty t k) (no_tokens t fits c g x z us rest f n)
no_tokens t fits c (choose test g k) x z us rest (inr f) n = or_right (empty t g) (empty t k) (no_tokens t fits c k x z us rest f n)
no_tokens t fits c (many test g) x z us rest f n = refl
no_tokens t fits c (look want test) x z us rest f n = refl
no_tokens t fits c (check condition) x z us rest f n = refl
no_tokens t fits c (wide w v) x z us rest f n = no_tokens t fits c v x z us rest f n

-- none, or a first one
pub ends : (us : List Token) → (us ≡ []) ⊎ ((v : Token) × (vs : List Token) × (us ≡ v ∷ vs))
ends [] = inl refl
ends (v ∷ vs) = inr (v, vs, refl)

pub drops : (vs ws us : List Token) → vs ≡ [] → us ≡ vs ++ ws → ws ≡ us
drops vs ws us none e = sym (e ∙ ap (λ w. w ++ ws) none)

pub heads : (w : Token) (ws' vs ws us : List Token) (v : Token) (us' : List Token) → vs ≡ w ∷ ws' → us ≡ vs ++ ws → us ≡ v ∷ us' → w ≡ v
heads w ws' vs ws us v us' some e n =
    let d : ◌≡◌ {A = List Token} (w ∷ (ws' ++ ws)) (v ∷ us') = sym (e ∙ ap (λ u. u ++ ws) some) ∙ n in
    cc

-- the first token of two parts
pub next_passes : {Goal : Type 0} (t : Tables Goal) (fits : FitsBelow Goal) → Claims t fits → (form : Form Goal) (follow : List SyntaxKind)
    (x z : Forest) (us rest : List Token) → FitsForm fits form x z us rest → us ≡ []
    → mem (next rest) follow ≡ true → mem (next rest) (passing t form follow) ≡ true
next_passes t fits c (one whole ks) follow x z us rest (_, _, us_is, _, _, _) n m = cc (us_is, n)
next_passes t fits c (child goal) follow x z us rest (y, y_fits, _) n m = rw (c.empty goal y us rest y_fits n) m
next_passes t fits c (mark g) follow x z us rest (y, y_fits, _) n m = next_passes t fits c g follow done y us rest y_fits n m
next_passes t fits c (seal kind) follow x z us rest f n m = m
next_passes t fits c (g then k) follow x z us rest (mid, taken, left, us_is, before, after) n m =
    let next_after = next_passes t fits c k follow mid z left rest after (no_right taken left us us_is n) m in
    let none : left ++ rest ≡ rest = ap (λ w. w ++ rest) (no_right taken left us us_is n) in
    next_passes t fits c g (passing t k follow) x mid taken rest (subst (λ w. FitsForm fits g x mid taken w) none before)
    (no_left taken left us us_is n) next_after
next_passes t fits c nothing follow x z us rest f n m = m
next_passes t fits c (choose test g k) follow x z us rest (inl f) n m =
    mem_left (next rest) (passing t g follow) (passing t k follow) (next_passes t fits c g follow x z us rest f n m)
next_passes t fits c (choose test g k) follow x z us rest (inr f) n m =
    mem_right (next rest) (passing t g follow) (passing t k follow) (next_passes t fits c k follow x z us rest f n m)
next_passes t fits c (many test g) follow x z us rest f n m = m
next_passes t fits c (look want test) follow x z us rest (_, _, passed) n m = looked_mem want test rest follow passed m
next_passes t fits c (check condition) follow x z us rest f n m = m
next_passes t fits c (wide w v) follow x z us rest f n m = next_passes t fits c v follow x z us rest f n m

two_parts : (v : Token) (first second : List SyntaxKind) (vs ws us us' : List Token) → us ≡ vs ++ ws → us ≡ v ∷ us'
    → ((w : Token) (ws' : List Token) → vs ≡ w ∷ ws' → mem w.joined first ≡ true)
    → (vs ≡ [] → ws ≡ v ∷ us' → mem v.joined second ≡ true)
    → mem v.joined (first ++ second) ≡ true
two_parts v first second [] ws us us' d n left right = mem_right v.joined first second (right refl (sym d ∙ n))
two_parts v first second (w ∷ vs) ws us us' d n left right =
    let same : w ≡ v = cc in
    mem_left v.joined first second (subst (λ u. mem u.joined first ≡ true) same (left w vs refl))

repeats_first : {Goal : Type 0} (t : Tables Goal) (fits : FitsBelow Goal) → Claims t fits → (form : Form Goal)
    → ((x z : Forest) (us rest : List Token) (v : Token) (vs : List Token) → FitsForm fits form x z us rest
    → us ≡ v ∷ vs → mem v.joined (firsts t form) ≡ true)
    → (n : ℕ) (x z : Forest) (us rest : List Token) (v : Token) (vs : List Token) → Repeats n (FitsForm fits form) x z us rest
    → us ≡ v ∷ vs → mem v.joined (firsts t form) ≡ true
repeats_first t fits c form found zero x z us rest v vs (no_tokens_taken, _) n = cc (no_tokens_taken, n)
repeats_first t fits c form found (suc m) x z us rest v vs (mid, taken, left, us_is, one_turn, turns_left) n =
    elim (ends taken) [
      | inl none ↦ repeats_first t fits c form found m mid z left rest v vs turns_left (drops taken left us none us_is ∙ n)
      | inr some ↦
          let same : some.0 ≡ v = heads some.0 some.1 taken left us v vs some.2 us_is n in
          subst (λ u. mem u.joined (firsts t form) ≡ true) same
          (found x mid taken (left ++ rest) some.0 some.1 one_turn some.2)
    ]

pub first_token : {Goal : Type 0} (t : Tables Goal) (fits : FitsBelow Goal) → Claims t fits → (form : Form Goal) (x z : Forest) (us rest : List Token)
    (v : Token) (vs : List Token) → FitsForm fits form x z us rest → us ≡ v ∷ vs → mem v.joined (firsts t form) ≡ true
first_token t fits c (one whole ks) x z us rest v vs (front, _, us_is, is, _, _) n =
    let same : front ≡ v = cc (us_is, n) in
    subst (λ u. mem u.joined ks ≡ true) same (one_joined whole ks front is)
first_token t fits c (child goal) x z us rest v vs (y, y_fits, _) n = c.first goal y us rest v vs y_fits n
first_token t fits c (mark g) x z us rest v vs (y, y_fits, _) n = first_token t fits c g done y us rest v vs y_fits n
first_token t fits c (seal kind) x z us rest v vs (no_tokens_taken, _) n = cc (no_tokens_taken, n)
first_token t fits c (g then k) x z us rest v vs (mid, taken, left, us_is, before, after) n =
    two_parts v (firsts t g) (passing t g (firsts t k)) taken left us vs us_is n
    (λ w ws. first_token t fits c g x mid taken (left ++ rest) w ws before)
    (λ none e.
    subst (λ ws. mem (next (ws ++ rest)) (passing t g (firsts t k)) ≡ true) e
    (next_passes t fits c g (firsts t k) x mid taken (left ++ rest) before none
    (subst (λ ws. mem (next (ws ++ rest)) (firsts t k) ≡ true) (sym e) (first_token t fits c k mid z left rest v vs after e))))
first_token t fits c nothing x z us rest v vs (no_tokens_taken, _) n = cc (no_tokens_taken, n)
first_token t fits c (choose test g k) x z us rest v vs (inl f) n =
    mem_left v.joined (firsts t g) (firsts t k) (first_token t fits c g x z us rest v vs f n)
first_token t fits c (choose test g k) x z us rest v vs (inr f) n =
    mem_right v.joined (firsts t g) (firsts t k) (first_token t fits c k x z us rest v vs f n)
first_token t fits c (many test g) x z us rest v vs (count, turns_taken) n =
    repeats_first t fits c g (first_token t fits c g) count x z us rest v vs turns_taken n
first_token t fits c (look want test) x z us rest v vs (no_tokens_taken, _, _) n = cc (no_tokens_taken, n)
first_token t fits c (check condition) x z us rest v vs (no_tokens_taken, _, _) n = cc (no_tokens_taken, n)
first_token t fits c (wide f g) x z us rest v vs fit n = first_token t fits c g x z us rest v vs fit n

-- the next token, before what fits the form
pub begins : {Goal : Type 0} (t : Tables Goal) (fits : FitsBelow Goal) → Claims t fits → (form : Form Goal) (follow : List SyntaxKind)
    (x z : Forest) (us rest : List Token) → FitsForm fits form x z us rest
    → mem (next rest) follow ≡ true → mem (next (us ++ rest)) (starts t form follow) ≡ true
begins t fits c form follow x z [] rest f m =
    mem_right (next rest) (firsts t form) (passing t form follow) (next_passes t fits c form follow x z [] rest f refl m)
begins t fits c form follow x z (v ∷ vs) rest f m =
    mem_left v.joined (firsts t form) (passing t form follow) (first_token t fits c form x z (v ∷ vs) rest v vs f refl)
