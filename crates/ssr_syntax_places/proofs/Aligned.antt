-- The pieces of a short text and those of a long one, token by token of the template that both are read by.
use Rattle.std.proofs.Common.{◌≡◌, ℕ, zero, suc, ◌+◌, true, false, if◌then◌else◌, List, [], ◌∷◌, ◌++◌, length, Some, None, refl, sym, ap, subst, ◌∙◌, arith, append_assoc}
use Rattle.std.specs.Prelude.{Option, ⊤}
use Rattle.std.proofs.lemmas.List.{length-append}
use Rattle.std.proofs.lemmas.Bool.{and_parts}
use Rattle.ssr_syntax_kinds.specs.Kinds.{is_trivia}
use Rattle.ssr_syntax_kinds.specs.declared.kinds.SyntaxKind.{SyntaxKind}
use Rattle.ssr_syntax_lex.specs.declared.tokens.RawToken.{RawToken}
use Rattle.ssr_syntax_lex.specs.Tokens.{token_text}
use Rattle.ssr_syntax_tree.specs.Syntax as plain
use Rattle.ssr_syntax_forms.specs.declared.tokens.Token.{Token}
use Rattle.ssr_syntax_forms.specs.Trees.{Forest, spell}
use Rattle.ssr_syntax_rows.specs.Lossless.{behind_gap, past, lossless}
use Rattle.ssr_syntax_rows.specs.Solid.{solid_token, solid_tokens, pieces}
use Rattle.ssr_syntax_rows.proofs.Shared.{past-zero}
use Rattle.ssr_syntax_places.specs.Core.{Hole, Holes, is_no_hole, are_spelled, token_filled, tokens_filled}
use Rattle.ssr_syntax_places.specs.Standing.{node}
use Rattle.ssr_syntax_places.proofs.Filling.{spelled}
use Rattle.ssr_syntax_places.proofs.Misnamed.{AllTrivia, IsNamed}
use Rattle.ssr_syntax_places.proofs.Pieces.{behind_lead, past_lead, past_more, IsRun, one_run}

-- ** What stands in the place of a token.

-- the pieces of what a name stands for, from the first solid one to the last
pub record IsPut (hole : Hole) (us : List plain.Token) : Type 0 where
  pub kind : SyntaxKind
  pub kids : Forest
  pub tree : hole.tree ≡ node kind kids
  pub spells : spell kids ≡ hole.tokens
  pub run : IsRun (length hole.tokens) us
  pub named : IsNamed (plain.branch kind (lossless kids us) plain.nothing)

abbrev pub IsFor : Option Hole → plain.Token → List plain.Token → Type 0
IsFor None t us = us ≡ t ∷ []
IsFor (Some hole) t us = IsPut hole us

-- One token of the template: the white space and comments in front, in either text; the token, and what stands for it. `Rest`
-- is said of the pieces behind.
pub record Step (hole : Option Hole) (Rest : List plain.Token → List plain.Token → Type 0) (ts us : List plain.Token) : Type 0 where
  pub lead : List plain.Token
  pub long_lead : List plain.Token
  pub token : plain.Token
  pub put : List plain.Token
  pub short_rest : List plain.Token
  pub long_rest : List plain.Token
  pub short : ts ≡ lead ++ (token ∷ short_rest)
  pub long : us ≡ long_lead ++ (put ++ long_rest)
  pub leads : AllTrivia lead
  pub long_leads : AllTrivia long_lead
  pub solid : is_trivia token.kind ≡ false
  pub is : IsFor hole token put
  pub rest : Rest short_rest long_rest

-- so many tokens of the template, from the number `at` on
abbrev pub AreAligned : Holes → ℕ → ℕ → List plain.Token → List plain.Token → Type 0
AreAligned holes at zero ts us = ⊤
AreAligned holes at (suc n) ts us = Step (holes at) (λ vs ws. AreAligned holes (at + 1) n vs ws) ts us

-- ** How many solid pieces stand for some tokens.

abbrev pub size_of : Option Hole → ℕ
size_of None = 1
size_of (Some hole) = length hole.tokens

abbrev pub filled_size : Holes → ℕ → ℕ → ℕ
filled_size holes at zero = 0
filled_size holes at (suc n) = size_of (holes at) + filled_size holes (at + 1) n

token_size : (o : Option Hole) (t : Token) → length (token_filled o t) ≡ size_of o
token_size None t = refl
token_size (Some hole) t = refl

pub tokens_size : (holes : Holes) (at : ℕ) (us : List Token) → length (tokens_filled holes at us) ≡ filled_size holes at (length us)
tokens_size holes at [] = refl
tokens_size holes at (t ∷ us) =
    length-append (token_filled (holes at) t) (tokens_filled holes (at + 1) us)
    ∙ ap (λ n. n + length (tokens_filled holes (at + 1) us)) (token_size (holes at) t)
    ∙ ap (λ n. size_of (holes at) + n) (tokens_size holes (at + 1) us)
    ∙ counted holes at (length us) (length (t ∷ us)) (omega arith) where
      counted : (holes : Holes) (at n m : ℕ) → m ≡ suc n → size_of (holes at) + filled_size holes (at + 1) n ≡ filled_size holes at m
      counted holes at n m same = ap (filled_size holes at) (sym same)

pub put_run : (o : Option Hole) (t : plain.Token) (us : List plain.Token) → is_trivia t.kind ≡ false → IsFor o t us → IsRun (size_of o) us
put_run None t us solid is = subst (IsRun 1) (sym is) (one_run t solid)
put_run (Some hole) t us solid is = is.run

-- ** Behind white space and comments in front.

pub run_behind : (n m : ℕ) (lead put rest : List plain.Token) → AllTrivia lead → IsRun n put → behind_gap (suc m) (lead ++ (put ++ rest)) ≡ put ++ rest
run_behind n m lead put rest all run = behind_lead lead (put ++ rest) all ∙ run.behind rest

pub run_past : (n m : ℕ) (lead put rest : List plain.Token) → AllTrivia lead → IsRun n put → past (n + m) (lead ++ (put ++ rest)) ≡ past m rest
run_past zero m lead put rest all run = absurd (omega (arith, run.some))
run_past (suc n) m lead put rest all run =
    let same : suc n + m ≡ suc (n + m) = omega arith in
    ap (λ l. past l (lead ++ (put ++ rest))) same
    ∙ past_lead (n + m) lead (put ++ rest) all
    ∙ ap (λ l. past l (put ++ rest)) (sym same)
    ∙ past_more (suc n) m (put ++ rest)
    ∙ ap (past m) (run.past rest)

-- the white space and comments in front of a node are none of its own
pub aligned_behind : (holes : Holes) (at n c d : ℕ) (ts us : List plain.Token) → AreAligned holes at n ts us
    → AreAligned holes at n (behind_gap (suc c) ts) (behind_gap (suc d) us)
aligned_behind holes at zero c d ts us are = tt
aligned_behind holes at (suc n) c d ts us are =
    let one = one_run are.token are.solid in
    let run = put_run (holes at) are.token are.put are.solid are.is in
    record {
      lead = [];
      long_lead = [];
      token = are.token;
      put = are.put;
      short_rest = are.short_rest;
      long_rest = are.long_rest;
      short = ap (behind_gap (suc c)) are.short ∙ run_behind 1 c are.lead (are.token ∷ []) are.short_rest are.leads one;
      long = ap (behind_gap (suc d)) are.long ∙ run_behind (size_of (holes at)) d are.long_lead are.put are.long_rest are.long_leads run;
      leads = tt;
      long_leads = tt;
      solid = are.solid;
      is = are.is;
      rest = are.rest;
    }

-- ** Past some tokens.

pub aligned_past : (holes : Holes) (at c n k : ℕ) (ts us : List plain.Token) → k ≡ c + n → AreAligned holes at k ts us
    → AreAligned holes (at + c) n (past c ts) (past (filled_size holes at c) us)
aligned_past holes at zero n k ts us e are =
    let same : k ≡ n = omega (arith, e) in
    let here : at ≡ at + zero = omega arith in
    subst (λ l. AreAligned holes l n (past zero ts) (past zero us)) here
    (subst (λ l. AreAligned holes at n l (past zero us)) (sym (past-zero ts))
    (subst (λ l. AreAligned holes at n ts l) (sym (past-zero us))
    (subst (λ l. AreAligned holes at l ts us) same are)))
aligned_past holes at (suc c) n zero ts us e are = absurd (omega (arith, e))
aligned_past holes at (suc c) n (suc k) ts us e are =
    let m : ℕ = filled_size holes (at + 1) c in
    let one = one_run are.token are.solid in
    let run = put_run (holes at) are.token are.put are.solid are.is in
    let count : 1 + c ≡ suc c = omega arith in
    let here : (at + 1) + c ≡ at + suc c = omega arith in
    let shorter : past (suc c) ts ≡ past c are.short_rest =
    ap (λ l. past l ts) (sym count) ∙ ap (past (1 + c)) are.short ∙ run_past 1 c are.lead (are.token ∷ []) are.short_rest are.leads one in
    let longer : past (size_of (holes at) + m) us ≡ past m are.long_rest =
    ap (past (size_of (holes at) + m)) are.long ∙ run_past (size_of (holes at)) m are.long_lead are.put are.long_rest are.long_leads run in
    subst (λ l. AreAligned holes l n (past (suc c) ts) (past (size_of (holes at) + m) us)) here
    (subst (λ l. AreAligned holes ((at + 1) + c) n l (past (size_of (holes at) + m) us)) (sym shorter)
    (subst (λ l. AreAligned holes ((at + 1) + c) n (past c are.short_rest) l) (sym longer)
    (aligned_past holes (at + 1) c n k are.short_rest are.long_rest (omega (arith, e)) are.rest)))

-- tokens that stand for themselves are as many as they are
pub spelled_size : (holes : Holes) (at : ℕ) (us : List Token) → are_spelled holes at us ≡ true → filled_size holes at (length us) ≡ length us
spelled_size holes at us is = sym (tokens_size holes at us) ∙ ap length (spelled holes at us is)

-- ** More white space and comments in front.

pub append_trivia : (ts us : List plain.Token) → AllTrivia ts → AllTrivia us → AllTrivia (ts ++ us)
append_trivia [] us h k = k
append_trivia (t ∷ ts) us h k = (h.0, append_trivia ts us h.1 k)

pub aligned_lead : (holes : Holes) (at n : ℕ) (lead long_lead ts us : List plain.Token) → AllTrivia lead → AllTrivia long_lead
    → AreAligned holes at n ts us → AreAligned holes at n (lead ++ ts) (long_lead ++ us)
aligned_lead holes at zero lead long_lead ts us all long_all are = tt
aligned_lead holes at (suc n) lead long_lead ts us all long_all are = record {
  lead = lead ++ are.lead;
  long_lead = long_lead ++ are.long_lead;
  token = are.token;
  put = are.put;
  short_rest = are.short_rest;
  long_rest = are.long_rest;
  short = ap (λ l. lead ++ l) are.short ∙ sym (append_assoc lead are.lead (are.token ∷ are.short_rest));
  long = ap (λ l. long_lead ++ l) are.long ∙ sym (append_assoc long_lead are.long_lead (are.put ++ are.long_rest));
  leads = append_trivia lead are.lead all are.leads;
  long_leads = append_trivia long_lead are.long_lead long_all are.long_leads;
  solid = are.solid;
  is = are.is;
  rest = are.rest;
}

-- ** The pieces of tokens that stand for themselves.

pub is_for_itself : (o : Option Hole) (t : plain.Token) → is_no_hole o ≡ true → IsFor o t (t ∷ [])
is_for_itself None t is = refl
is_for_itself (Some hole) t is = absurd (cc)

own_step : (holes : Holes) (at m k : ℕ) (piece : plain.Token) (ts us : List plain.Token) → k ≡ suc m → is_trivia piece.kind ≡ false
    → is_no_hole (holes at) ≡ true → AreAligned holes (at + 1) m ts us → AreAligned holes at k (piece ∷ ts) (piece ∷ us)
own_step holes at m k piece ts us e is own are =
    let step : AreAligned holes at (suc m) (piece ∷ ts) (piece ∷ us) =
    record {
      lead = [];
      long_lead = [];
      token = piece;
      put = piece ∷ [];
      short_rest = ts;
      long_rest = us;
      short = refl;
      long = refl;
      leads = tt;
      long_leads = tt;
      solid = is;
      is = is_for_itself (holes at) piece own;
      rest = are;
    } in
    subst (λ l. AreAligned holes at l (piece ∷ ts) (piece ∷ us)) (sym e) step

pub aligned_own : (holes : Holes) (at n k : ℕ) (text : List ℕ) (raw : List RawToken) (ts us : List plain.Token)
    → k ≡ length (solid_tokens raw) + n → are_spelled holes at (solid_tokens raw) ≡ true
    → AreAligned holes (at + length (solid_tokens raw)) n ts us → AreAligned holes at k (pieces text raw ++ ts) (pieces text raw ++ us)
aligned_own holes at n k text [] ts us e own are =
    let same : n ≡ k = omega (arith, e) in
    let here : at + 0 ≡ at = omega arith in
    subst (λ l. AreAligned holes at l ts us) same (subst (λ l. AreAligned holes l n ts us) here are)
aligned_own holes at n k text (r ∷ raw) ts us e own are =
    let piece : plain.Token = record { kind = r.kind; text = token_text text r } in
    let short : List plain.Token = pieces text raw ++ ts in
    let long : List plain.Token = pieces text raw ++ us in
    elim (is_trivia r.kind)
    as (λ b. is_trivia r.kind ≡ b
    → k ≡ length (if b then solid_tokens raw else solid_token r raw ∷ solid_tokens raw) + n
    → are_spelled holes at (if b then solid_tokens raw else solid_token r raw ∷ solid_tokens raw) ≡ true
    → AreAligned holes (at + length (if b then solid_tokens raw else solid_token r raw ∷ solid_tokens raw)) n ts us
    → AreAligned holes at k (piece ∷ short) (piece ∷ long)) [
      | true ↦ λ is count kept rest.
          aligned_lead holes at k (piece ∷ []) (piece ∷ []) short long (is, tt) (is, tt) (aligned_own holes at n k text raw ts us count kept rest)
      | false ↦ λ is count kept rest.
          let halves = and_parts (is_no_hole (holes at)) (are_spelled holes (at + 1) (solid_tokens raw)) kept in
          let here : at + length (solid_token r raw ∷ solid_tokens raw) ≡ (at + 1) + length (solid_tokens raw) = omega arith in
          own_step holes at (length (solid_tokens raw) + n) k piece short long (omega (arith, count)) is halves.0
          (aligned_own holes (at + 1) n (length (solid_tokens raw) + n) text raw ts us refl halves.1 (subst (λ l. AreAligned holes l n ts us) here rest))
    ] refl e own are
