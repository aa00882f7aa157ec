-- Laws of the reading of what a macro call stands for: its trees fit and spell the tokens, and what fits is read.
use Rattle.std.proofs.Common.{◌≡◌, ◌≢◌, ℕ, ◌^◌, ◌<◌, ◌≤◌, Bool, true, false, if◌then◌else◌, List, length, refl, sym, ◌∙◌, ap, subst}
use Rattle.std.specs.Prelude.{nat_lt, Result, Ok, Err, IfOk}
use Rattle.std.proofs.lemmas.Bool.{ltb-true}
use Rattle.ssr_syntax_kinds.specs.declared.reach.Reach.{Reach}
use Rattle.ssr_syntax_kinds.specs.declared.reach.Reach.TheVariants.{Stated}
use Rattle.ssr_syntax_lex.specs.declared.tokens.RawToken.{RawToken}
use Rattle.ssr_syntax_tree.specs.Syntax.{Syntax, nothing, branch}
use Rattle.ssr_syntax_types.specs.declared.goals.Goal.{Goal}
use Rattle.ssr_syntax.specs.declared.expansions.ExpToken.{ExpToken}
use Rattle.ssr_syntax.specs.declared.expansions.ExpansionKind.{ExpansionKind}
use Rattle.ssr_syntax.specs.declared.syntax_error.SyntaxError.{SyntaxError}
use Rattle.ssr_syntax.specs.declared.syntax_error.SyntaxError.TheVariants as errors
use Rattle.ssr_syntax_rows.specs.Lossless.{IsTrimmed}
use Rattle.ssr_syntax.specs.Reading.{tree_reading, Answers, Refuses, FitsTokens, IsThatOrTooDeep}
use Rattle.ssr_syntax.specs.Expansions.{expansion_text, raw_from, goal_of_expansion, unless_refused, expansion_reading, expansion_reading_of, FitsExpansionOf, IsTreeOfExpansion, IsTreeOfExpansionOf}
use Rattle.ssr_syntax.proofs.ExpansionTokens.{expansion_spells, expansion_outside}
use Rattle.ssr_syntax.proofs.TextLaws.{Told, tokens_sound, tokens_complete, told_ok, told_err, too_long, short_is, one_tokens}
use Rattle.ssr_syntax_rows.proofs.Shared.{trimmed-root}

raw_ok : (read : List RawToken → Result Syntax SyntaxError) (r : Result (List RawToken) SyntaxError) (s : Syntax) → unless_refused read r ≡ Ok s
    → (raw : List RawToken) × (r ≡ Ok raw) × (read raw ≡ Ok s)
raw_ok read (Err e) s h = cc
raw_ok read (Ok raw) s h = (raw, refl, h)

short_was : (read : Result Syntax SyntaxError) (text : List ℕ) (s : Syntax) (b : Bool) → nat_lt (length text) (2 ^ 32) ≡ b
    → ◌≡◌ {A = Result Syntax SyntaxError} (if b then read else Err errors.TooLong) (Ok s) → (length text < 2 ^ 32) × (read ≡ Ok s)
short_was read text s true e h = (ltb-true (length text) (2 ^ 32) e, h)
short_was read text s false e h = cc

pub expansion_sound_of : (reach : Reach) (kind : ExpansionKind) (tokens : List ExpToken) (s : Syntax) → expansion_reading_of reach kind tokens ≡ Ok s → IsTreeOfExpansionOf reach kind tokens s
unfolding expansion_reading_of
expansion_sound_of reach kind tokens s e =
    let text : List ℕ = expansion_text tokens in
    let read : List RawToken → Result Syntax SyntaxError = tree_reading reach (goal_of_expansion kind) text in
    let was = short_was (unless_refused read (raw_from 0 tokens)) text s (nat_lt (length text) (2 ^ 32)) refl e in
    let r = raw_ok read (raw_from 0 tokens) s was.1 in
    let raw : List RawToken = r.0 in
    let t = tokens_sound reach (goal_of_expansion kind) text raw s (expansion_spells tokens raw r.1) r.2 in
    record {
      short = was.0;
      fits = (raw, r.1, t.0);
      spells = t.1;
      shallow = t.2;
      trimmed_nodes = subst (λ v. IsTrimmed (branch v.kind v.children nothing)) t.3.3
          (trimmed-root text raw t.3.0 t.3.1 t.3.2 (expansion_outside tokens raw r.1));
    }

pub expansion_answers : (reach : Reach) (kind : ExpansionKind) (tokens : List ExpToken) (r : Result Syntax SyntaxError)
    → Answers r (expansion_reading_of reach kind tokens) (expansion_text tokens) → IfOk r (IsTreeOfExpansionOf reach kind tokens)
expansion_answers reach kind tokens (Ok s) h = expansion_sound_of reach kind tokens s h
expansion_answers reach kind tokens (Err e) h = tt

-- short tokens are read as their raw ones are
expansion_read : (reach : Reach) (kind : ExpansionKind) (tokens : List ExpToken) (r : Result (List RawToken) SyntaxError) → length (expansion_text tokens) < 2 ^ 32
    → raw_from 0 tokens ≡ r
    → expansion_reading_of reach kind tokens ≡ unless_refused (tree_reading reach (goal_of_expansion kind) (expansion_text tokens)) r
unfolding expansion_reading_of
expansion_read reach kind tokens r lt e =
    let read : List RawToken → Result Syntax SyntaxError = tree_reading reach (goal_of_expansion kind) (expansion_text tokens) in
    short_is (unless_refused read (raw_from 0 tokens)) (expansion_text tokens) lt ∙ ap (unless_refused read) e

expansion_told : (reach : Reach) (kind : ExpansionKind) (tokens : List ExpToken) (s : Syntax) → length (expansion_text tokens) < 2 ^ 32
    → FitsExpansionOf reach kind tokens s → Told (expansion_reading_of reach kind tokens) s
expansion_told reach kind tokens s lt (raw, e, fits) =
    subst (λ w. Told w s) (sym (expansion_read reach kind tokens (Ok raw) lt e))
    (tokens_complete reach (goal_of_expansion kind) (expansion_text tokens) raw s fits)

pub expansion_complete : (reach : Reach) (kind : ExpansionKind) (tokens : List ExpToken) (s : Syntax) (r : Result Syntax SyntaxError)
    → length (expansion_text tokens) < 2 ^ 32 → FitsExpansionOf reach kind tokens s
    → Answers r (expansion_reading_of reach kind tokens) (expansion_text tokens) → IsThatOrTooDeep (λ v. v) s r
expansion_complete reach kind tokens s (Ok v) lt fits h =
    told_ok (expansion_reading_of reach kind tokens) s v (expansion_told reach kind tokens s lt fits) h
expansion_complete reach kind tokens s (Err x) lt fits h =
    λ m. told_err (expansion_reading_of reach kind tokens) s x (expansion_told reach kind tokens s lt fits) (h.1 m)

pub expansion_too_long : (reach : Reach) (kind : ExpansionKind) (tokens : List ExpToken) (e : SyntaxError)
    → (e ≡ errors.TooLong) × (2 ^ 32 ≤ length (expansion_text tokens)) → Refuses e (expansion_reading_of reach kind tokens) (expansion_text tokens)
unfolding expansion_reading_of
expansion_too_long reach kind tokens e h =
    too_long (unless_refused (tree_reading reach (goal_of_expansion kind) (expansion_text tokens)) (raw_from 0 tokens)) (expansion_text tokens) e h

-- one of the texts is refused
pub expansion_fault : (reach : Reach) (kind : ExpansionKind) (tokens : List ExpToken) (e : SyntaxError) → length (expansion_text tokens) < 2 ^ 32
    → (e ≢ errors.Memory → raw_from 0 tokens ≡ Err e)
    → Refuses e (expansion_reading_of reach kind tokens) (expansion_text tokens)
expansion_fault reach kind tokens e lt h =
    (λ is. lt, λ no. expansion_read reach kind tokens (Err e) lt (h no))

-- what was read of the text that they spell
pub expansion_given : (reach : Reach) (kind : ExpansionKind) (tokens : List ExpToken) (goal : Goal) (text : List ℕ) (raw : List RawToken) (r : Result Syntax SyntaxError)
    → length (expansion_text tokens) < 2 ^ 32 → raw_from 0 tokens ≡ Ok raw → goal ≡ goal_of_expansion kind → text ≡ expansion_text tokens
    → Answers r (tree_reading reach goal text raw) text → Answers r (expansion_reading_of reach kind tokens) (expansion_text tokens)
expansion_given reach kind tokens goal text raw r lt e f g h =
    subst (λ w. Answers r w (expansion_text tokens)) (sym (expansion_read reach kind tokens (Ok raw) lt e))
    (subst (λ l. Answers r (tree_reading reach (goal_of_expansion kind) l raw) l) g (subst (λ x. Answers r (tree_reading reach x text raw) text) f h))

-- ** At most one tree fits.

pub one_expansion : (reach : Reach) (kind : ExpansionKind) (tokens : List ExpToken) (a b : Syntax)
    → FitsExpansionOf reach kind tokens a → FitsExpansionOf reach kind tokens b → a ≡ b
one_expansion reach kind tokens a b (raw, e, f) (raws, d, g) =
    let same : raws ≡ raw = cc (d, e) in
    one_tokens reach (goal_of_expansion kind) (expansion_text tokens) raw a b f
    (subst (λ ts. FitsTokens reach (goal_of_expansion kind) (expansion_text tokens) ts b) same g)

-- ** Of the stated language.

pub expansion_sound : (kind : ExpansionKind) (tokens : List ExpToken) (s : Syntax) → expansion_reading kind tokens ≡ Ok s → IsTreeOfExpansion kind tokens s
unfolding expansion_reading
expansion_sound kind tokens s e = expansion_sound_of Stated kind tokens s e
