-- The pieces of texts of parts, of which the one has names for the insides of the other, are aligned.
use Rattle.std.proofs.Common.{◌≡◌, ℕ, suc, ◌+◌, true, false, if◌then◌else◌, List, [], ◌∷◌, ◌++◌, length, Some, refl, sym, ap, subst, ◌∙◌, arith, append_assoc}
use Rattle.std.proofs.lemmas.List.{append-nil, length-append}
use Rattle.ssr_syntax_kinds.specs.Kinds.{is_trivia}
use Rattle.ssr_syntax_kinds.specs.declared.reach.Reach.{Reach}
use Rattle.ssr_syntax_lex.specs.Tokens.{tokens, token_text}
use Rattle.ssr_syntax_lex.specs.declared.tokens.RawToken.{RawToken}
use Rattle.ssr_syntax_tree.specs.Syntax as plain
use Rattle.ssr_syntax_forms.specs.declared.tokens.Token.{Token}
use Rattle.ssr_syntax_rows.specs.Solid.{solid_token, solid_tokens, pieces}
use Rattle.ssr_syntax_places.specs.Core.{Hole, Holes, is_single}
use Rattle.ssr_syntax_places.specs.Insides.{IsLexed}
use Rattle.ssr_syntax_places.specs.LongTexts.{IsInside, AreInsides}
use Rattle.ssr_syntax_places.specs.Woven.{Part, AreWoven, solid_parts, pieces_parts, StandFor}
use Rattle.ssr_syntax_places.proofs.Aligned.{IsFor, AreAligned, aligned_lead, aligned_own}
use Rattle.ssr_syntax_places.proofs.Insides.{some_same}
use Rattle.ssr_syntax_places.proofs.Woven.{single_length}
use Rattle.ssr_syntax_places.proofs.PutInside.{IsPutOf, inside_put}

-- ** A name, and what stands for it.

-- one token that isn't white space or a comment
pub record IsAlone (raw : List RawToken) : Type 0 where
  pub token : RawToken
  pub all : raw ≡ token ∷ []
  pub solid : is_trivia token.kind ≡ false

pub alone : (raw : List RawToken) → length raw ≡ 1 → is_single (solid_tokens raw) ≡ true → IsAlone raw
alone [] one single = absurd (omega (arith, one))
alone (r ∷ s ∷ raw) one single = absurd (omega (arith, one))
alone (r ∷ []) one single = record { token = r; all = refl; solid = is_solid r single } where
  is_solid : (r : RawToken) → is_single (solid_tokens (r ∷ [])) ≡ true → is_trivia r.kind ≡ false
  is_solid r is =
      elim (is_trivia r.kind) as (λ b. is_single (if b then [] else solid_token r [] ∷ []) ≡ true → b ≡ false)
      [ true ↦ λ none. absurd (cc) | false ↦ λ one. refl ] is

aligned_name : (holes : Holes) (hole : Hole) (at n : ℕ) (text : List ℕ) (name : List RawToken) (inside ts us : List plain.Token) → IsAlone name
    → holes at ≡ Some hole → IsPutOf hole inside → AreAligned holes (at + 1) n ts us
    → AreAligned holes at (suc n) (pieces text name ++ ts) (inside ++ us)
aligned_name holes hole at n text name inside ts us is held put are =
    let piece : plain.Token = record { kind = is.token.kind; text = token_text text is.token } in
    record {
      lead = [];
      long_lead = put.lead;
      token = piece;
      put = put.put;
      short_rest = ts;
      long_rest = put.trail ++ us;
      short = ap (λ l. pieces text l ++ ts) is.all;
      long =
          ap (λ l. l ++ us) put.all
          ∙ append_assoc put.lead (put.put ++ put.trail) us
          ∙ ap (λ l. put.lead ++ l) (append_assoc put.put put.trail us);
      leads = tt;
      long_leads = put.leads;
      solid = is.solid;
      is = subst (λ o. IsFor o piece put.put) (sym held) put.is;
      rest = aligned_lead holes (at + 1) n [] put.trail ts us tt put.trails are;
    }

-- ** All parts.

front_text : (p q : Part) → p.front ≡ q.front → p.opening ≡ q.opening → p.front ++ p.opening ∷ [] ≡ q.front ++ q.opening ∷ []
front_text p q front opening = ap (λ l. l ++ p.opening ∷ []) front ∙ ap (λ c. q.front ++ c ∷ []) opening

-- what stands in front is lexed alike
pub same_before : (p q : Part) → IsLexed (p.front ++ p.opening ∷ []) p.before → IsLexed (q.front ++ q.opening ∷ []) q.before → p.front ≡ q.front
    → p.opening ≡ q.opening → p.before ≡ q.before
same_before p q lexed other front opening =
    some_same p.before q.before (sym lexed.lexes ∙ ap tokens (front_text p q front opening) ∙ other.lexes)

pub same_front : (p q : Part) → IsLexed (p.front ++ p.opening ∷ []) p.before → IsLexed (q.front ++ q.opening ∷ []) q.before → p.front ≡ q.front
    → p.opening ≡ q.opening → pieces (q.front ++ q.opening ∷ []) q.before ≡ pieces (p.front ++ p.opening ∷ []) p.before
same_front p q lexed other front opening =
    ap (λ l. pieces l q.before) (sym (front_text p q front opening))
    ∙ ap (pieces (p.front ++ p.opening ∷ [])) (sym (same_before p q lexed other front opening))

pub aligned_parts : (reach : Reach) (holes : Holes) (at k : ℕ) (short long : List Part) (last : List ℕ) (after : List RawToken)
    → AreWoven short last → AreWoven long last → StandFor holes at short long (solid_tokens after) → AreInsides reach holes at short long
    → k ≡ length (solid_parts short (solid_tokens after))
    → AreAligned holes at k (pieces_parts short (pieces last after)) (pieces_parts long (pieces last after))
aligned_parts reach holes at k [] [] last after is other stand insides e =
    let all : AreAligned holes at k (pieces last after ++ []) (pieces last after ++ []) =
    aligned_own holes at 0 k last after [] [] (omega (arith, e)) stand tt in
    subst (λ l. AreAligned holes at k l l) (append-nil (pieces last after)) all
aligned_parts reach holes at k [] (q ∷ qs) last after is other stand insides e = absurd stand
aligned_parts reach holes at k (p ∷ ps) [] last after is other stand insides e = absurd stand
aligned_parts reach holes at k (p ∷ ps) (q ∷ qs) last after (utf8, opens, front_is, inside_is, seam, all) (long_utf8, long_opens, long_front, long_inside, long_seam, every)
    (hole, same, own, single, held, filling, others) (known, front, opening, one, known_held, inside, insides) e =
    let us : List Token = solid_tokens p.before in
    let name : List Token = solid_tokens p.within in
    let place : ℕ = at + length us in
    let rest : ℕ = length (solid_parts ps (solid_tokens after)) in
    let ts : List plain.Token = pieces_parts ps (pieces last after) in
    let ws : List plain.Token = pieces_parts qs (pieces last after) in
    let is_name : IsAlone p.within = alone p.within one single in
    let count : length name ≡ 1 = single_length name single in
    let size : k ≡ length us + suc rest =
    omega (arith, e, count, length-append us (name ++ solid_parts ps (solid_tokens after)), length-append name (solid_parts ps (solid_tokens after))) in
    let put : IsPutOf hole (pieces q.inside q.within) =
    inside_put reach hole q.inside q.within (subst (λ h. IsInside reach h q.inside q.within) (some_same known hole (sym known_held ∙ held)) inside) filling in
    let behind : AreAligned holes (place + 1) rest ts ws = aligned_parts reach holes (place + 1) rest ps qs last after all every others insides refl in
    subst (λ l. AreAligned holes at k (pieces (p.front ++ p.opening ∷ []) p.before ++ (pieces p.inside p.within ++ ts)) (l ++ (pieces q.inside q.within ++ ws)))
    (sym (same_front p q front_is long_front front opening))
    (aligned_own holes at (suc rest) k (p.front ++ p.opening ∷ []) p.before (pieces p.inside p.within ++ ts) (pieces q.inside q.within ++ ws) size own
    (aligned_name holes hole place rest p.inside p.within (pieces q.inside q.within) ts ws is_name held put behind))
