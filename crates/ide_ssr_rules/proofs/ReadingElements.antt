-- The elements of a side, read one by one from the left.
use Rattle.std.proofs.Common.{◌≡◌, ℕ, zero, suc, List, [], ◌∷◌, ◌++◌, Result, Ok, Err, refl, ap, subst, ◌∙◌, sym, Bool, cond, true, false, append_assoc, append-nil, ◌+◌, ◌≤◌, length, length-append, arith}
use Rattle.ssr_syntax_tree.specs.Syntax.{Token}
use Rattle.ide_ssr_rules.specs.declared.elements.Element.{Element}
use Rattle.ide_ssr_rules.specs.declared.elements.Element.TheVariants as e
use Rattle.ide_ssr_refusals.specs.declared.error.SsrError.{SsrError}
use Rattle.ide_ssr_refusals.specs.declared.error.SsrError.TheVariants as errors
use Rattle.ide_ssr_refusals.specs.declared.refusals.Refusal.TheVariants as r
use Rattle.ide_ssr_rules.specs.Constraints.{Placeholder, named_placeholder}
use Rattle.ide_ssr_rules.specs.Elements.{is_dollar, with_new_name, new_placeholder, after, elements_within, elements}
use Rattle.ide_ssr_resolved_rule.specs.Names.{has}
use Rattle.ide_ssr_refusals.specs.declared.refusals.Refusal.{Refusal}
use Rattle.ide_ssr_refusals.specs.Refusals.{TellsOf, ◌>>=◌}
use Rattle.ide_ssr_rules.proofs.ReadingConstraints.{IsShorter, placeholder_shorter, same_next}
use Rattle.ide_ssr_refusals.proofs.Shared.{went, ok_same, tells_first}

new_shorter : (names : List (List ℕ)) (tokens : List Token) (taken : Placeholder × List Token) → new_placeholder names tokens ≡ Ok taken → IsShorter tokens taken
new_shorter names tokens taken h =
    let read = went (named_placeholder tokens) (λ read. with_new_name names read) taken h in
    let same = kept (has names read.found.0.name) read.found read.next_is in
    omega (arith, placeholder_shorter tokens read.found read.first_is, ap (λ (t : Placeholder × List Token). length t.1) same) where
      kept : (known : Bool) (read : Placeholder × List Token) → cond known (Err (r.Repeated read.0.name)) (Ok read) ≡ Ok taken → read ≡ taken
      kept true read h = cc
      kept false read h = ok_same read taken h

abbrev pub behind_dollar : ℕ → List (List ℕ) → Placeholder × List Token → Result (List Element) Refusal
behind_dollar fuel names taken = after (e.Placeholder taken.0) (elements_within fuel (names ++ taken.0.name ∷ []) taken.1)

-- more fuel than tokens changes nothing
elements_same : (f g : ℕ) (names : List (List ℕ)) (tokens : List Token) → length tokens ≤ f → length tokens ≤ g → elements_within f names tokens ≡ elements_within g names tokens
elements_same zero zero names tokens a b = refl
elements_same zero (suc g) names [] a b = refl
elements_same zero (suc g) names (token ∷ tokens) a b = absurd (omega (arith, a))
elements_same (suc f) zero names [] a b = refl
elements_same (suc f) zero names (token ∷ tokens) a b = absurd (omega (arith, b))
elements_same (suc f) (suc g) names [] a b = refl
elements_same (suc f) (suc g) names (token ∷ tokens) a b =
    ap (λ read. cond (is_dollar token.kind) (new_placeholder names tokens >>= behind_dollar f names) (after (e.Token token) read))
    (elements_same f g names tokens (omega (arith, a)) (omega (arith, b)))
    ∙ ap (λ read. cond (is_dollar token.kind) read (after (e.Token token) (elements_within g names tokens)))
    (same_next (new_placeholder names tokens) (behind_dollar f names) (behind_dollar g names)
    (λ taken is.
    let shorter = new_shorter names tokens taken is in
    ap (after (e.Placeholder taken.0))
    (elements_same f g (names ++ taken.0.name ∷ []) taken.1 (omega (arith, shorter, a)) (omega (arith, shorter, b)))))

-- elements read so far, and what the rest gives
abbrev pub joined : List Element → Result (List Element) Refusal → Result (List Element) Refusal
joined before (Ok rest) = Ok (before ++ rest)
joined before (Err refusal) = Err refusal

joined-push : (before : List Element) (element : Element) (rest : Result (List Element) Refusal) → joined (before ++ element ∷ []) rest ≡ joined before (after element rest)
joined-push before element (Ok rest) = ap Ok (append_assoc before (element ∷ []) rest)
joined-push before element (Err refusal) = refl

read_token : (names : List (List ℕ)) (token : Token) (rest : List Token) → is_dollar token.kind ≡ false → elements names (token ∷ rest) ≡ after (e.Token token) (elements names rest)
unfolding elements
read_token names token rest plain =
    ap (λ b. cond b (new_placeholder names rest >>= behind_dollar (length rest) names) (after (e.Token token) (elements_within (length rest) names rest))) plain

read_name : (names : List (List ℕ)) (token : Token) (rest : List Token) → is_dollar token.kind ≡ true
    → elements names (token ∷ rest) ≡ (new_placeholder names rest >>= behind_dollar (length rest) names)
unfolding elements
read_name names token rest dollar =
    ap (λ b. cond b (new_placeholder names rest >>= behind_dollar (length rest) names) (after (e.Token token) (elements_within (length rest) names rest))) dollar

fewer_left : (names : List (List ℕ)) (tokens rest : List Token) → length rest ≤ length tokens → elements_within (length tokens) names rest ≡ elements names rest
unfolding elements
fewer_left names tokens rest less = elements_same (length tokens) (length rest) names rest less (omega arith)

-- what the loop over the tokens keeps
pub record Reads (all : List Token) (found : List Element) (names : List (List ℕ)) (left : List Token) : Type 0 where
  pub reads : joined found (elements names left) ≡ elements [] all
  pub few : length found + length left ≤ length all

pub reads_all : (all left : List Token) (found : List Element) (names : List (List ℕ)) → Reads all found names left → left ≡ [] → elements [] all ≡ Ok found
unfolding elements
reads_all all left found names so_far none =
    sym so_far.reads ∙ ap (λ ts. joined found (elements_within (length ts) names ts)) none ∙ ap Ok (append-nil found)

pub reads_token : (all left rest : List Token) (found next : List Element) (names : List (List ℕ)) (token : Token)
    → Reads all found names left → left ≡ token ∷ rest → is_dollar token.kind ≡ false → next ≡ found ++ e.Token token ∷ [] → Reads all next names rest
reads_token all left rest found next names token so_far is plain pushed = record {
  reads = ap (λ f. joined f (elements names rest)) pushed
      ∙ joined-push found (e.Token token) (elements names rest)
      ∙ ap (joined found) (sym (read_token names token rest plain))
      ∙ ap (λ ts. joined found (elements names ts)) (sym is)
      ∙ so_far.reads;
  few = omega (arith, so_far.few, ap length is, ap length pushed, length-append found (e.Token token ∷ []));
}

at_dollar : (all left rest : List Token) (found : List Element) (names : List (List ℕ)) (token : Token)
    → Reads all found names left → left ≡ token ∷ rest → is_dollar token.kind ≡ true
    → elements [] all ≡ joined found (new_placeholder names rest >>= behind_dollar (length rest) names)
at_dollar all left rest found names token so_far is dollar =
    sym so_far.reads ∙ ap (λ ts. joined found (elements names ts)) is ∙ ap (joined found) (read_name names token rest dollar)

pub reads_name : (all left middle rest : List Token) (found more : List Element) (names known wider : List (List ℕ)) (token : Token) (one : Placeholder) (text : List ℕ)
    → Reads all found names left → left ≡ token ∷ middle → is_dollar token.kind ≡ true → known ≡ names → new_placeholder known middle ≡ Ok (one, rest)
    → text ≡ one.name → wider ≡ names ++ text ∷ [] → more ≡ found ++ e.Placeholder one ∷ [] → Reads all more wider rest
reads_name all left middle rest found more names known wider token one text so_far is dollar same named called widened pushed =
    let names_are : wider ≡ names ++ one.name ∷ [] = widened ∙ ap (λ n. names ++ n ∷ []) called in
    let read : new_placeholder names middle ≡ Ok (one, rest) = ap (λ ns. new_placeholder ns middle) (sym same) ∙ named in
    let shorter = new_shorter names middle (one, rest) read in
    record {
      reads = ap (λ f. joined f (elements wider rest)) pushed
          ∙ joined-push found (e.Placeholder one) (elements wider rest)
          ∙ ap (λ ns. joined found (after (e.Placeholder one) (elements ns rest))) names_are
          ∙ ap (λ tail. joined found (after (e.Placeholder one) tail)) (sym (fewer_left (names ++ one.name ∷ []) middle rest shorter))
          ∙ ap (λ taken. joined found (taken >>= behind_dollar (length middle) names)) (sym read)
          ∙ sym (at_dollar all left middle found names token so_far is dollar);
      few = omega (arith, so_far.few, ap length is, shorter, ap length pushed, length-append found (e.Placeholder one ∷ []));
    }

pub shorter_left : (names : List (List ℕ)) (left middle rest : List Token) (token : Token) (one : Placeholder) → left ≡ token ∷ middle
    → new_placeholder names middle ≡ Ok (one, rest) → length rest + 1 ≤ length left
shorter_left names left middle rest token one is named = omega (arith, ap length is, new_shorter names middle (one, rest) named)

tells_joined : (error : SsrError) (before : List Element) (rest : Result (List Element) Refusal) → TellsOf error rest → TellsOf error (joined before rest)
tells_joined error before (Err refusal) tells = tells
tells_joined errors.Memory before (Ok rest) tells = tt
tells_joined (errors.Message message) before (Ok rest) tells = absurd tells

pub reads_refused : (error : SsrError) (all left middle : List Token) (found : List Element) (names known : List (List ℕ)) (token : Token)
    → Reads all found names left → left ≡ token ∷ middle → is_dollar token.kind ≡ true → known ≡ names → TellsOf error (new_placeholder known middle)
    → TellsOf error (elements [] all)
reads_refused error all left middle found names known token so_far is dollar same tells =
    let P : Result (List Element) Refusal → Type 0 = λ reading. TellsOf error reading in
    subst P (sym (at_dollar all left middle found names token so_far is dollar))
    (tells_joined error found _ (tells_first (new_placeholder names middle) (behind_dollar (length middle) names) error
    (subst (λ ns. TellsOf error (new_placeholder ns middle)) same tells)))
