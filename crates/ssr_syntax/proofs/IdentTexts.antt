-- Identifiers in the trees of texts: they are the text's, and they stand alone but in the nodes that mix them.
use Rattle.std.proofs.Common.{◌≡◌, ℕ, zero, suc, Bool, true, false, not, ◌||◌, ◌&&◌, if◌then◌else◌, List, [], ◌∷◌, ◌++◌, length, Some, refl, sym, ◌∙◌, ap, subst, append_assoc}
use Rattle.std.specs.Prelude.{⊤, reverse}
use Rattle.std.proofs.lemmas.Bool.{not-true}
use Rattle.std.proofs.lemmas.List.{append-nil, reverse-append}
use Rattle.ssr_syntax_kinds.specs.declared.reach.Reach.{Reach}
use Rattle.ssr_syntax_kinds.specs.declared.reach.Reach.TheVariants.{Stated}
use Rattle.ssr_syntax_kinds.specs.declared.kinds.SyntaxKind.{SyntaxKind}
use Rattle.ssr_syntax_kinds.specs.Kinds.{is_trivia, is_ident}
use Rattle.ssr_syntax_lex.specs.declared.tokens.RawToken.{RawToken}
use Rattle.ssr_syntax_lex.specs.Tokens.{tokens, token_text}
use Rattle.ssr_syntax_tree.specs.Syntax as plain
use Rattle.ssr_syntax_tree.specs.Syntax.{Syntax, tokens_of, begins_with_trivia}
use Rattle.ssr_syntax_kinds.specs.declared.fragment.Fragment.{Fragment}
use Rattle.ssr_syntax_types.specs.declared.goals.Goal.{Goal}
use Rattle.ssr_syntax_forms.specs.Trees as solid
use Rattle.ssr_syntax.specs.Grammar.{grammar_of}
use Rattle.ssr_syntax_rows.specs.Solid.{solid_token, solid_tokens, pieces, begins_solid}
use Rattle.ssr_syntax_rows.specs.Lossless.{trivia, behind_trivia, gap, behind_gap, upto, past, before, behind, lossless, whole_tree}
use Rattle.ssr_syntax.specs.Identifiers.{idents, has_ident, stand_alone, is_mixing, IdentsAlone, IdentsAloneIn}
use Rattle.ssr_syntax.specs.Reading.{trimmed, goal_of, FitsTokens, FitsFragment, FitsFragmentOf}
use Rattle.ssr_syntax_forms.proofs.Shared.{at_some_level, goals_spell}
use Rattle.ssr_syntax_rows.proofs.Shared.{AreTaken, goals_taken, AllSolid, leaves_solid, all_solid, by_kind, upto-past, trivia-behind, solid_sides}
use Rattle.ssr_syntax.proofs.Checks.{goal_clean}
use Rattle.ssr_syntax.proofs.Identifiers.{shows, lone, AllLone, goals_alone}
use Rattle.ssr_syntax.proofs.IdentTokens.{no_ident, whole_idents}

abbrev pub AreTrivia : List plain.Token → Type 0
AreTrivia [] = ⊤
AreTrivia (t ∷ ts) = (is_trivia t.kind ≡ true) × AreTrivia ts

are_trivia : (ts : List plain.Token) → AreTrivia (trivia ts)
are_trivia [] = tt
are_trivia (t ∷ ts) = by_kind (λ b. AreTrivia (if b then t ∷ trivia ts else [])) t (λ e. (e, are_trivia ts)) (λ e. tt)

pub gap_trivia : (n : ℕ) (ts : List plain.Token) → AreTrivia (gap n ts)
gap_trivia zero ts = tt
gap_trivia (suc n) ts = are_trivia ts

-- ** White space and comments beside siblings.

has-before : (ts : List plain.Token) (x : plain.Forest) → AreTrivia ts → has_ident (before ts x) ≡ has_ident x
has-before [] x h = refl
has-before (t ∷ ts) x h = ap (λ b. b || has_ident (before ts x)) (no_ident t.kind h.0) ∙ has-before ts x h.1

alone-before : (ts : List plain.Token) (x : plain.Forest) → IdentsAlone x → IdentsAlone (before ts x)
alone-before [] x h = h
alone-before (t ∷ ts) x h = alone-before ts x h

behind-nothing : (x : plain.Forest) → behind x [] ≡ x
behind-nothing plain.nothing = refl
behind-nothing (plain.leaf t x) = ap (plain.leaf t) (behind-nothing x)
behind-nothing (plain.branch kind below x) = ap (plain.branch kind below) (behind-nothing x)

gap-behind : (n : ℕ) (ts : List plain.Token) → gap n (behind_gap n ts) ≡ []
gap-behind zero ts = refl
gap-behind (suc n) ts = trivia-behind ts

-- ** The trees with them.

has-lossless : (f : solid.Forest) (ts : List plain.Token) → has_ident (lossless f ts) ≡ shows f
has-lossless solid.done ts = refl
has-lossless (solid.leaf kind us x) ts =
    let n = length us in
    has-before (gap n ts) _ (gap_trivia n ts) ∙ ap (λ b. is_ident kind || b) (has-lossless x (past n ts))
has-lossless (solid.tree kind kids x) ts =
    let n = length (solid.spell kids) in
    has-before (gap n ts) _ (gap_trivia n ts) ∙ has-lossless x (past n ts)

alone_without : (x : plain.Forest) → has_ident x ≡ false → stand_alone x ≡ true
alone_without plain.nothing h = refl
alone_without (plain.leaf t plain.nothing) h = refl
alone_without (plain.leaf t (plain.leaf u x)) h = ap not h
alone_without (plain.leaf t (plain.branch kind below x)) h = ap not h
alone_without (plain.branch kind below x) h = ap not h

alone_clean : (f : solid.Forest) (ts : List plain.Token) → not (shows f) ≡ true → stand_alone (lossless f ts) ≡ true
alone_clean f ts h = alone_without (lossless f ts) (has-lossless f ts ∙ not-true (shows f) h)

-- the children of a node
alone_inside : (f : solid.Forest) (ts : List plain.Token) → lone f ≡ true → stand_alone (lossless f (behind_gap (length (solid.spell f)) ts)) ≡ true
alone_inside solid.done ts h = refl
alone_inside (solid.leaf kind us solid.done) ts h =
    let n = length us in
    let same : length (us ++ []) ≡ n = ap length (append-nil us) in
    subst (λ m. stand_alone (lossless (solid.leaf kind us solid.done) (behind_gap m ts)) ≡ true) (sym same)
    (let token : plain.Token = record { kind = kind; text = plain.spelled (upto n (behind_gap n (behind_gap n ts))) } in
    ap (λ l. stand_alone (before l (plain.leaf token plain.nothing))) (gap-behind n ts))
alone_inside (solid.leaf kind us (solid.leaf k vs x)) ts h = alone_clean (solid.leaf kind us (solid.leaf k vs x)) _ h
alone_inside (solid.leaf kind us (solid.tree k kids x)) ts h = alone_clean (solid.leaf kind us (solid.tree k kids x)) _ h
alone_inside (solid.tree kind kids x) ts h = alone_clean (solid.tree kind kids x) _ h

-- of a node that mixes or doesn't
alone_in : (mixing : Bool) (f : solid.Forest) (ts : List plain.Token) → (mixing || lone f) ≡ true
    → (mixing || stand_alone (lossless f (behind_gap (length (solid.spell f)) ts))) ≡ true
alone_in true f ts h = refl
alone_in false f ts h = alone_inside f ts h

alone-lossless : (f : solid.Forest) (ts : List plain.Token) → AllLone f → IdentsAlone (lossless f ts)
alone-lossless solid.done ts h = tt
alone-lossless (solid.leaf kind us x) ts h =
    let n = length us in
    let token : plain.Token = record { kind = kind; text = plain.spelled (upto n (behind_gap n ts)) } in
    alone-before (gap n ts) (plain.leaf token (lossless x (past n ts))) (alone-lossless x (past n ts) h)
alone-lossless (solid.tree kind kids x) ts h =
    let n = length (solid.spell kids) in
    alone-before (gap n ts) (plain.branch kind (lossless kids (behind_gap n ts)) (lossless x (past n ts)))
    (alone_in (is_mixing kind) kids ts h.0, alone-lossless kids (behind_gap n ts) h.1, alone-lossless x (past n ts) h.2)

-- ** The root of a fragment: nothing stands around its solid tokens.

past_trivia : (n : ℕ) (p : plain.Token) (ps : List plain.Token) → is_trivia p.kind ≡ true → AreTrivia (past n ps) → AreTrivia (past n (p ∷ ps))
past_trivia zero p [] e h = (e, tt)
past_trivia zero p (q ∷ ps) e h = (e, h)
past_trivia (suc n) p ps e h = subst (λ b. AreTrivia (past (if b then suc n else n) ps)) (sym e) h

past_solid : (n : ℕ) (p : plain.Token) (ps : List plain.Token) → is_trivia p.kind ≡ false → AreTrivia (past n ps) → AreTrivia (past (suc n) (p ∷ ps))
past_solid n p ps e h = subst (λ b. AreTrivia (past (if b then suc n else n) ps)) (sym e) h

past_all : (text : List ℕ) (raw : List RawToken) → AreTrivia (past (length (solid_tokens raw)) (pieces text raw))
past_all text [] = tt
past_all text (t ∷ ts) =
    let p : plain.Token = record { kind = t.kind; text = token_text text t } in
    by_kind (λ b. AreTrivia (past (length (if b then solid_tokens ts else solid_token t ts ∷ solid_tokens ts)) (p ∷ pieces text ts))) p
    (λ e. past_trivia (length (solid_tokens ts)) p (pieces text ts) e (past_all text ts))
    (λ e. past_solid (length (solid_tokens ts)) p (pieces text ts) e (past_all text ts))

last_trivia : (front : List plain.Token) (t : plain.Token) (ts : List plain.Token) → AreTrivia (t ∷ ts) → begins_with_trivia (reverse (front ++ (t ∷ ts))) ≡ true
last_trivia front t [] h = ap begins_with_trivia (reverse-append front (t ∷ [])) ∙ h.0
last_trivia front t (u ∷ ts) h =
    ap (λ l. begins_with_trivia (reverse l)) (sym (append_assoc front (t ∷ []) (u ∷ ts))) ∙ last_trivia (front ++ (t ∷ [])) u ts h.1

none_last : (front back : List plain.Token) → AreTrivia back → begins_with_trivia (reverse (front ++ back)) ≡ false → back ≡ []
none_last front [] h e = refl
none_last front (t ∷ ts) h e = absurd (cc (e, last_trivia front t ts h))

none_first : (n : ℕ) (ts : List plain.Token) → begins_with_trivia ts ≡ false → behind_gap n ts ≡ ts
none_first zero ts e = refl
none_first (suc n) [] e = refl
none_first (suc n) (t ∷ ts) e = ap (λ b. if b then behind_trivia ts else t ∷ ts) e

-- what is known of a tree that fits
pub record WholeTree (text : List ℕ) (raw : List RawToken) (kind : SyntaxKind) (kids : solid.Forest) : Type 0 where
  pub spells : solid.spell kids ≡ solid_tokens raw
  pub taken : AreTaken kids
  pub children_alone : (is_mixing kind || lone kids) ≡ true
  pub all_alone : AllLone kids

pub whole_of : (reach : Reach) (goal : Goal) (text : List ℕ) (raw : List RawToken) (s : Syntax) (fits : FitsTokens reach goal text raw s) → WholeTree text raw fits.0 fits.1
whole_of reach goal text raw s (kind, kids, ruled, is, named) =
    let us = solid_tokens raw in
    let z : solid.Forest = solid.tree kind kids solid.done in
    let level = at_some_level (grammar_of reach) goal z us [] ruled in
    let n = level.0 in
    let fits = level.1 in
    let kids_spell : solid.spell kids ≡ us = sym (append-nil (solid.spell kids)) ∙ goals_spell (grammar_of reach) n goal z us [] fits in
    let alone = goals_alone reach (goal_clean reach) n goal z us [] fits in
    record {
      spells = kids_spell;
      taken = (goals_taken (grammar_of reach) n goal z us [] fits).0;
      children_alone = alone.1.0;
      all_alone = alone.1.1;
    }

-- the children of the root are those of its solid tokens
pub children_are : (text : List ℕ) (raw : List RawToken) (kind : SyntaxKind) (kids : solid.Forest) → WholeTree text raw kind kids
    → (begins_solid raw && begins_solid (reverse raw)) ≡ true
    → plain.Syntax.children (whole_tree kind kids (pieces text raw)) ≡ lossless kids (behind_gap (length (solid.spell kids)) (pieces text raw))
children_are text raw kind kids whole outside =
    let ts = pieces text raw in
    let n = length (solid.spell kids) in
    let sides = solid_sides text raw outside in
    let trivia_past : AreTrivia (past n ts) = subst (λ us. AreTrivia (past (length us) ts)) (sym whole.spells) (past_all text raw) in
    let none : past n ts ≡ [] =
    none_last (upto n ts) (past n ts) trivia_past
    (ap (λ l. begins_with_trivia (reverse l)) (upto-past n ts) ∙ sides.1) in
    ap (behind (lossless kids ts)) none ∙ behind-nothing (lossless kids ts)
    ∙ ap (lossless kids) (sym (none_first n ts sides.0))

pub fragment_alone_of : (reach : Reach) (fragment : Fragment) (text : List ℕ) (s : Syntax) → FitsFragmentOf reach fragment text s → IdentsAloneIn s
fragment_alone_of reach fragment text s (raw, e, outside, fits) =
    let inner : List ℕ = trimmed text in
    let whole = whole_of reach (goal_of fragment) inner raw s fits in
    let ts = pieces inner raw in
    let behind_front = behind_gap (length (solid.spell fits.1)) ts in
    subst IdentsAloneIn (sym fits.3)
    (subst (λ children. ((is_mixing fits.0 || stand_alone children) ≡ true) × IdentsAlone children × ⊤) (sym (children_are inner raw fits.0 fits.1 whole outside))
    (alone_in (is_mixing fits.0) fits.1 ts whole.children_alone, alone-lossless fits.1 behind_front whole.all_alone, tt))

-- the identifiers of a fragment's tree
pub fragment_idents_of : (reach : Reach) (fragment : Fragment) (text : List ℕ) (s : Syntax) → FitsFragmentOf reach fragment text s
    → (raw : List RawToken) × (tokens (trimmed text) ≡ Some raw) × (idents (tokens_of s) ≡ idents (pieces (trimmed text) raw))
fragment_idents_of reach fragment text s (raw, e, outside, fits) =
    let inner : List ℕ = trimmed text in
    let whole = whole_of reach (goal_of fragment) inner raw s fits in
    let are = leaves_solid fits.1 whole.taken (subst AllSolid (sym whole.spells) (all_solid raw)) in
    (raw, e, ap (λ t. idents (tokens_of t)) fits.3 ∙ whole_idents inner raw fits.0 fits.1 are whole.taken whole.spells)

-- ** Of the stated language.

pub fragment_alone : (fragment : Fragment) (text : List ℕ) (s : Syntax) → FitsFragment fragment text s → IdentsAloneIn s
fragment_alone fragment text s fits = fragment_alone_of Stated fragment text s fits

pub fragment_idents : (fragment : Fragment) (text : List ℕ) (s : Syntax) → FitsFragment fragment text s
    → (raw : List RawToken) × (tokens (trimmed text) ≡ Some raw) × (idents (tokens_of s) ≡ idents (pieces (trimmed text) raw))
fragment_idents fragment text s fits = fragment_idents_of Stated fragment text s fits
