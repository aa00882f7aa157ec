-- No node below the root begins or ends with white space or a comment.
use Rattle.std.proofs.Common.{◌≡◌, ℕ, zero, suc, ◌+◌, true, false, ◌&&◌, if◌then◌else◌, List, [], ◌∷◌, ◌++◌, length, refl, sym, ◌∙◌, ap, arith}
use Rattle.std.proofs.lemmas.Bool.{and_parts, not-true}
use Rattle.std.specs.Prelude.{reverse}
use Rattle.std.proofs.lemmas.List.{append-nil, reverse-append, reverse-reverse, map-append}
use Rattle.ssr_syntax_kinds.specs.declared.kinds.SyntaxKind.{SyntaxKind}
use Rattle.ssr_syntax_kinds.specs.Kinds.{is_trivia}
use Rattle.ssr_syntax_lex.specs.Tokens.{token_text}
use Rattle.ssr_syntax_lex.specs.declared.tokens.RawToken.{RawToken}
use Rattle.ssr_syntax_tree.specs.Syntax as plain
use Rattle.ssr_syntax_rows.specs.Leaves.{Taken}
use Rattle.ssr_syntax_forms.specs.Trees as solid
use Rattle.ssr_syntax_rows.specs.Leaves as written
use Rattle.ssr_syntax_rows.specs.Lossless.{trivia, gap, behind_gap, upto, past, before, behind, lossless, whole_tree, IsTrimmed}
use Rattle.ssr_syntax_tree.specs.Syntax.{begins_with_trivia}
use Rattle.ssr_syntax_rows.specs.Solid.{pieces, begins_solid}
use Rattle.ssr_syntax_rows.proofs.Laid.{AreSolid, total, total-leaves, token_of, laid, all_laid, solid-append, gap-behind, past-zero, upto-past, tokens-lossless}
use Rattle.ssr_syntax_rows.proofs.Wholes.{whole-tokens}

trimmed-before : (ts : List plain.Token) (x : plain.Forest) → IsTrimmed x → IsTrimmed (before ts x)
trimmed-before [] x h = h
trimmed-before (t ∷ ts) x h = trimmed-before ts x h

trimmed-behind : (x : plain.Forest) (ts : List plain.Token) → IsTrimmed x → IsTrimmed (behind x ts)
trimmed-behind plain.nothing ts h = trimmed-before ts plain.nothing tt
trimmed-behind (plain.leaf t x) ts h = trimmed-behind x ts h
trimmed-behind (plain.branch kind below x) ts h = (h.0, h.1, h.2, trimmed-behind x ts h.3)

-- of a token in front of others, read from the right
from_right : (t : plain.Token) (l r : List plain.Token) → reverse l ≡ r → begins_with_trivia r ≡ false → (l ≡ [] → is_trivia t.kind ≡ false)
    → begins_with_trivia (r ++ (t ∷ [])) ≡ false
from_right t l [] e h alone = alone (sym (reverse-reverse l) ∙ ap reverse e)
from_right t l (x ∷ r) e h alone = h

ends_solid : (t : plain.Token) (l : List plain.Token) → begins_with_trivia (reverse l) ≡ false → (l ≡ [] → is_trivia t.kind ≡ false)
    → begins_with_trivia (reverse (t ∷ l)) ≡ false
ends_solid t l h alone =
    ap begins_with_trivia (reverse-append (t ∷ []) l) ∙ from_right t l (reverse l) refl h alone

-- others in front change nothing
last_behind : (front : List plain.Token) (t : plain.Token) (ts : List plain.Token) → begins_with_trivia (reverse (t ∷ ts)) ≡ false
    → begins_with_trivia (reverse (front ++ (t ∷ ts))) ≡ false
last_behind [] t ts h = h
last_behind (s ∷ front) t ts h = ends_solid s (front ++ (t ∷ ts)) (last_behind front t ts h) (λ none. absurd (some front none)) where
  some : (front : List plain.Token) → front ++ (t ∷ ts) ≡ [] → ⊥
  some [] e = cc
  some (s ∷ front) e = cc

-- the last and the first token that is taken
last_solid : (us : List Taken) (ts : List plain.Token) → AreSolid us → begins_with_trivia (reverse (laid us ts)) ≡ false
last_solid [] ts h = refl
last_solid (u ∷ us) ts h =
    let rest = laid us (past u.size ts) in
    last_behind (gap u.size ts) (token_of u ts) rest
    (ends_solid (token_of u ts) rest (last_solid us (past u.size ts) h.2) (λ none. h.1))

first_solid : (n : ℕ) (us : List Taken) (ts : List plain.Token) → AreSolid us → n ≡ total us
    → begins_with_trivia (laid us (behind_gap n ts)) ≡ false
first_solid n [] ts h e = refl
first_solid n (u ∷ us) ts h e =
    let b = behind_gap n ts in
    ap (λ g. begins_with_trivia (g ++ (token_of u b ∷ laid us (past u.size b)))) (gap-behind u.size n ts h.0 (omega (arith, h.0)))
    ∙ h.1

pub trimmed-lossless : (f : solid.Forest) (ts : List plain.Token) → AreSolid (written.leaves f) → IsTrimmed (lossless f ts)
trimmed-lossless solid.done ts h = tt
trimmed-lossless (solid.leaf kind tokens x) ts h =
    let n = length tokens in
    let token : plain.Token = record { kind = kind; text = plain.spelled (upto n (behind_gap n ts)) } in
    trimmed-before (gap n ts) (plain.leaf token (lossless x (past n ts))) (trimmed-lossless x (past n ts) h.2)
trimmed-lossless (solid.tree kind kids x) ts h =
    let us = written.leaves kids in
    let n = length (solid.spell kids) in
    let inner = behind_gap n ts in
    let parts = solid-append us (written.leaves x) h in
    let tokens = tokens-lossless kids inner parts.0 in
    trimmed-before (gap n ts) (plain.branch kind (lossless kids inner) (lossless x (past n ts))) (
      ap begins_with_trivia tokens ∙ first_solid n us ts parts.0 (sym (total-leaves kids)),
      ap (λ l. begins_with_trivia (reverse l)) tokens ∙ last_solid us inner parts.0,
      trimmed-lossless kids inner parts.0,
      trimmed-lossless x (past n ts) parts.1,
    )

pub trimmed-whole : (kind : SyntaxKind) (kids : solid.Forest) (ts : List plain.Token) → AreSolid (written.leaves kids)
    → IsTrimmed (plain.Syntax.children (whole_tree kind kids ts))
trimmed-whole kind kids ts are =
    trimmed-behind (lossless kids ts) (past (length (solid.spell kids)) ts) (trimmed-lossless kids ts are)

-- ** The root of a fragment.

reversed_pieces : (text : List ℕ) (raw : List RawToken) → reverse (pieces text raw) ≡ pieces text (reverse raw)
reversed_pieces text [] = refl
reversed_pieces text (t ∷ ts) =
    let p : plain.Token = record { kind = t.kind; text = token_text text t } in
    reverse-append (p ∷ []) (pieces text ts)
    ∙ ap (λ l. l ++ (p ∷ [])) (reversed_pieces text ts)
    ∙ sym (map-append (λ (u : RawToken). let q : plain.Token = record { kind = u.kind; text = token_text text u } in q) (reverse ts) (t ∷ []))
    ∙ ap (pieces text) (sym (reverse-append (t ∷ []) ts))

begins : (text : List ℕ) (raw : List RawToken) → begins_solid raw ≡ true → begins_with_trivia (pieces text raw) ≡ false
begins text [] h = refl
begins text (t ∷ ts) h = not-true (is_trivia t.kind) h

-- the text's tokens begin and end with solid ones
pub solid_sides : (text : List ℕ) (raw : List RawToken) → (begins_solid raw && begins_solid (reverse raw)) ≡ true
    → (begins_with_trivia (pieces text raw) ≡ false) × (begins_with_trivia (reverse (pieces text raw)) ≡ false)
solid_sides text raw outside =
    let sides = and_parts (begins_solid raw) (begins_solid (reverse raw)) outside in
    (begins text raw sides.0, ap begins_with_trivia (reversed_pieces text raw) ∙ begins text (reverse raw) sides.1)

no_trivia : (n : ℕ) (ts : List plain.Token) → begins_with_trivia ts ≡ false → gap n ts ≡ []
no_trivia zero ts h = refl
no_trivia (suc n) [] h = refl
no_trivia (suc n) (t ∷ ts) h = ap (λ b. if b then t ∷ trivia ts else []) h

all_begin : (us : List Taken) (ts : List plain.Token) → AreSolid us → begins_with_trivia ts ≡ false → begins_with_trivia (all_laid us ts) ≡ false
all_begin [] ts h e = ap begins_with_trivia (past-zero ts) ∙ e
all_begin (u ∷ us) ts h e =
    ap (λ g. begins_with_trivia ((g ++ (token_of u ts ∷ laid us (past u.size ts))) ++ past (u.size + total us) ts)) (no_trivia u.size ts e)
    ∙ h.1

-- the last of some tokens is that of those at the end
last_alike : (front : List plain.Token) (t : plain.Token) (ts : List plain.Token)
    → begins_with_trivia (reverse (front ++ (t ∷ ts))) ≡ begins_with_trivia (reverse (t ∷ ts))
last_alike front t ts =
    let turned : reverse (t ∷ ts) ≡ reverse ts ++ (t ∷ []) = reverse-append (t ∷ []) ts in
    ap begins_with_trivia (reverse-append front (t ∷ ts) ∙ ap (λ l. l ++ reverse front) turned)
    ∙ first (reverse ts) (reverse front)
    ∙ ap begins_with_trivia (sym turned) where
      first : (l r : List plain.Token) → begins_with_trivia ((l ++ (t ∷ [])) ++ r) ≡ begins_with_trivia (l ++ (t ∷ []))
      first [] r = refl
      first (s ∷ l) r = refl

all_end : (us : List Taken) (ts outside : List plain.Token) → AreSolid us → past (total us) ts ≡ outside
    → begins_with_trivia (reverse ts) ≡ false → begins_with_trivia (reverse (all_laid us ts)) ≡ false
all_end us ts [] h e end =
    ap (λ l. begins_with_trivia (reverse (laid us ts ++ l))) e
    ∙ ap (λ l. begins_with_trivia (reverse l)) (append-nil (laid us ts)) ∙ last_solid us ts h
all_end us ts (t ∷ outside) h e end =
    let n = total us in
    let all : upto n ts ++ (t ∷ outside) ≡ ts = ap (λ l. upto n ts ++ l) (sym e) ∙ upto-past n ts in
    ap (λ l. begins_with_trivia (reverse (laid us ts ++ l))) e
    ∙ last_behind (laid us ts) t outside
    (sym (last_alike (upto n ts) t outside) ∙ ap (λ l. begins_with_trivia (reverse l)) all ∙ end)

pub trimmed-root : (text : List ℕ) (raw : List RawToken) (kind : SyntaxKind) (kids : solid.Forest) → AreSolid (written.leaves kids)
    → (begins_solid raw && begins_solid (reverse raw)) ≡ true
    → IsTrimmed (plain.branch kind (plain.Syntax.children (whole_tree kind kids (pieces text raw))) plain.nothing)
trimmed-root text raw kind kids are outside =
    let us = written.leaves kids in
    let ts = pieces text raw in
    let sides = solid_sides text raw outside in
    let tokens = whole-tokens kind kids ts are in (
      ap begins_with_trivia tokens ∙ all_begin us ts are sides.0,
      ap (λ l. begins_with_trivia (reverse l)) tokens ∙ all_end us ts (past (total us) ts) are refl sides.1,
      trimmed-whole kind kids ts are,
      tt,
    )
