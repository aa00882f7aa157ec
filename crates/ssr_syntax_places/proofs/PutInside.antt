-- An inside that is read alone is put in the place of a name: its pieces, from the first solid one to the last.
use Rattle.std.proofs.Common.{◌≡◌, ℕ, zero, suc, ◌<◌, Bool, true, false, not, ◌&&◌, ◌||◌, if◌then◌else◌, List, [], ◌∷◌, ◌++◌, length, refl, sym, ap, subst, ◌∙◌, arith}
use Rattle.std.specs.Prelude.{bytes_eq, codes}
use Rattle.std.proofs.lemmas.List.{append-nil}
use Rattle.std.proofs.lemmas.Bool.{or_from, or_parts}
use Rattle.ssr_syntax_kinds.specs.Kinds.{same_kind, is_trivia}
use Rattle.ssr_syntax_kinds.specs.declared.kinds.SyntaxKind.{SyntaxKind}
use Rattle.ssr_syntax_kinds.specs.declared.kinds.SyntaxKind.TheVariants as k
use Rattle.ssr_syntax_kinds.specs.declared.reach.Reach.{Reach}
use Rattle.ssr_syntax_lex.specs.declared.tokens.RawToken.{RawToken}
use Rattle.ssr_syntax_tree.specs.Syntax as plain
use Rattle.ssr_syntax_tree.specs.Syntax.{nothing, branch}
use Rattle.ssr_syntax_forms.specs.Trees as solid
use Rattle.ssr_syntax_forms.specs.Trees.{Forest, done, spell}
use Rattle.ssr_syntax_types.specs.declared.goals.Goal.TheVariants.{Expr}
use Rattle.ssr_syntax_types.specs.declared.goals.ExprPlace.TheVariants.{Anywhere}
use Rattle.ssr_syntax_rows.specs.Lossless.{behind_trivia, gap, behind_gap, upto, past, before, behind, lossless, whole_tree}
use Rattle.ssr_syntax_rows.specs.Solid.{solid_token, solid_tokens, pieces}
use Rattle.ssr_syntax_rows.proofs.Shared.{upto-zero, past-zero}
use Rattle.ssr_syntax.specs.Grammar.{grammar_of}
use Rattle.ssr_syntax_places.specs.Core.{Hole}
use Rattle.ssr_syntax_places.specs.LongTexts.{IsInside}
use Rattle.ssr_syntax_places.proofs.Misnamed.{AllTrivia, has_other, has_misnamed, IsNamed, named_parts, misnamed_before, misnamed_behind, others_before, others_front}
use Rattle.ssr_syntax_places.proofs.Placed.{goal_spelled}
use Rattle.ssr_syntax_places.proofs.Pieces.{solid_count, gap_all, behind_lead, past_lead, lossless_front, Split, split}
use Rattle.ssr_syntax_places.proofs.Aligned.{IsPut}

pub count_pieces : (text : List ℕ) (raw : List RawToken) → solid_count (pieces text raw) ≡ length (solid_tokens raw)
count_pieces text [] = refl
count_pieces text (t ∷ ts) =
    elim (is_trivia t.kind)
    as (λ b. (if b then solid_count (pieces text ts) else suc (solid_count (pieces text ts))) ≡ length (if b then solid_tokens ts else solid_token t ts ∷ solid_tokens ts))
    [ true ↦ count_pieces text ts | false ↦ let same = count_pieces text ts in omega (arith, same) ]

-- ** White space and comments in front change nothing of what is misnamed.

-- two forests have the same identifiers among their siblings, and below
record Alike (kind : SyntaxKind) (word : List ℕ) (x y : plain.Forest) : Type 0 where
  pub others : has_other word x ≡ has_other word y
  pub below : has_misnamed kind word x ≡ has_misnamed kind word y

alike_before : (kind : SyntaxKind) (word : List ℕ) (ts us : List plain.Token) (x y : plain.Forest) → AllTrivia ts → AllTrivia us → Alike kind word x y
    → Alike kind word (before ts x) (before us y)
alike_before kind word ts us x y all every alike = record {
  others = others_before word ts x all ∙ alike.others ∙ sym (others_before word us y every);
  below = misnamed_before kind word ts x ∙ alike.below ∙ sym (misnamed_before kind word us y);
}

alike_leaf : (kind : SyntaxKind) (word : List ℕ) (t u : plain.Token) (x y : plain.Forest) → t ≡ u → Alike kind word x y
    → Alike kind word (plain.leaf t x) (plain.leaf u y)
alike_leaf kind word t u x y e alike = record {
  others =
      ap (λ l. has_other word (plain.leaf l x)) e
      ∙ ap (λ b. (same_kind u.kind k.IDENT && not (bytes_eq u.text word)) || b) alike.others;
  below = alike.below;
}

alike_branch : (kind : SyntaxKind) (word : List ℕ) (a : SyntaxKind) (z w x y : plain.Forest) → Alike kind word z w → Alike kind word x y
    → Alike kind word (branch a z x) (branch a w y)
alike_branch kind word a z w x y inner alike = record {
  others = alike.others;
  below =
      ap (λ b. (same_kind a kind && b) || (has_misnamed kind word z || has_misnamed kind word x)) inner.others
      ∙ ap (λ b. (same_kind a kind && has_other word w) || (b || has_misnamed kind word x)) inner.below
      ∙ ap (λ b. (same_kind a kind && has_other word w) || (has_misnamed kind word w || b)) alike.below;
}

upto_lead : (n : ℕ) (lead ts : List plain.Token) → AllTrivia lead → upto n (behind_gap n (lead ++ ts)) ≡ upto n (behind_gap n ts)
upto_lead zero lead ts all = upto-zero (lead ++ ts) ∙ sym (upto-zero ts)
upto_lead (suc n) lead ts all = ap (upto (suc n)) (behind_lead lead ts all)

same_alike : (kind : SyntaxKind) (word : List ℕ) (z : Forest) (ts us : List plain.Token) → ts ≡ us → Alike kind word (lossless z ts) (lossless z us)
same_alike kind word z ts us e = record { others = ap (λ l. has_other word (lossless z l)) e; below = ap (λ l. has_misnamed kind word (lossless z l)) e }

past_alike : (kind : SyntaxKind) (word : List ℕ) (z : Forest) (n : ℕ) (lead ts : List plain.Token) → AllTrivia lead
    → Alike kind word (lossless z (lead ++ ts)) (lossless z ts) → Alike kind word (lossless z (past n (lead ++ ts))) (lossless z (past n ts))
past_alike kind word z zero lead ts all alike = record {
  others = ap (λ l. has_other word (lossless z l)) (past-zero (lead ++ ts)) ∙ alike.others ∙ sym (ap (λ l. has_other word (lossless z l)) (past-zero ts));
  below = ap (λ l. has_misnamed kind word (lossless z l)) (past-zero (lead ++ ts)) ∙ alike.below ∙ sym (ap (λ l. has_misnamed kind word (lossless z l)) (past-zero ts));
}
past_alike kind word z (suc n) lead ts all alike = same_alike kind word z (past (suc n) (lead ++ ts)) (past (suc n) ts) (past_lead n lead ts all)

gap_alike : (kind : SyntaxKind) (word : List ℕ) (z : Forest) (n : ℕ) (lead ts : List plain.Token) → AllTrivia lead
    → Alike kind word (lossless z (lead ++ ts)) (lossless z ts) → Alike kind word (lossless z (behind_gap n (lead ++ ts))) (lossless z (behind_gap n ts))
gap_alike kind word z zero lead ts all alike = alike
gap_alike kind word z (suc n) lead ts all alike = same_alike kind word z (behind_trivia (lead ++ ts)) (behind_trivia ts) (behind_lead lead ts all)

lossless_lead : (kind : SyntaxKind) (word : List ℕ) (z : Forest) (lead ts : List plain.Token) → AllTrivia lead
    → Alike kind word (lossless z (lead ++ ts)) (lossless z ts)
lossless_lead kind word done lead ts all = record { others = refl; below = refl }
lossless_lead kind word (solid.leaf a us x) lead ts all =
    let n : ℕ = length us in
    let token : List plain.Token → plain.Token = λ l. record { kind = a; text = plain.spelled l } in
    let here : plain.Token = token (upto n (behind_gap n (lead ++ ts))) in
    let same : plain.Token = token (upto n (behind_gap n ts)) in
    alike_before kind word (gap n (lead ++ ts)) (gap n ts) (plain.leaf here (lossless x (past n (lead ++ ts)))) (plain.leaf same (lossless x (past n ts)))
    (gap_all n (lead ++ ts)) (gap_all n ts)
    (alike_leaf kind word here same (lossless x (past n (lead ++ ts))) (lossless x (past n ts)) (ap token (upto_lead n lead ts all))
    (past_alike kind word x n lead ts all (lossless_lead kind word x lead ts all)))
lossless_lead kind word (solid.tree a kids x) lead ts all =
    let n : ℕ = length (spell kids) in
    alike_before kind word (gap n (lead ++ ts)) (gap n ts)
    (branch a (lossless kids (behind_gap n (lead ++ ts))) (lossless x (past n (lead ++ ts)))) (branch a (lossless kids (behind_gap n ts)) (lossless x (past n ts)))
    (gap_all n (lead ++ ts)) (gap_all n ts)
    (alike_branch kind word a (lossless kids (behind_gap n (lead ++ ts))) (lossless kids (behind_gap n ts)) (lossless x (past n (lead ++ ts))) (lossless x (past n ts))
    (gap_alike kind word kids n lead ts all (lossless_lead kind word kids lead ts all))
    (past_alike kind word x n lead ts all (lossless_lead kind word x lead ts all)))

-- ** The root.

and_less : (a b c : Bool) → (c ≡ false → b ≡ false) → (a && c) ≡ false → (a && b) ≡ false
and_less true b c less is = less is
and_less false b c less is = refl

-- what the whole tree doesn't misname, its inner pieces don't
root_free : (kind : SyntaxKind) (word : List ℕ) (a : SyntaxKind) (kids : Forest) (lead inner trail tail : List plain.Token) → AllTrivia lead
    → lossless kids (inner ++ trail) ≡ lossless kids inner
    → has_misnamed kind word (branch a (behind (lossless kids (lead ++ (inner ++ trail))) tail) nothing) ≡ false
    → has_misnamed kind word (branch a (lossless kids inner) nothing) ≡ false
root_free kind word a kids lead inner trail tail all front free =
    let z : plain.Forest = lossless kids (lead ++ (inner ++ trail)) in
    let alike = lossless_lead kind word kids lead (inner ++ trail) all in
    let halves = or_parts (same_kind a kind && has_other word (behind z tail)) (has_misnamed kind word (behind z tail) || false) free in
    let others : has_other word z ≡ has_other word (lossless kids inner) = alike.others ∙ ap (has_other word) front in
    let below : has_misnamed kind word z ≡ has_misnamed kind word (lossless kids inner) = alike.below ∙ ap (has_misnamed kind word) front in
    or_from (same_kind a kind && has_other word (lossless kids inner)) (has_misnamed kind word (lossless kids inner) || false)
    (and_less (same_kind a kind) (has_other word (lossless kids inner)) (has_other word (behind z tail))
    (λ none. sym others ∙ others_front word z tail none) halves.0)
    (or_from (has_misnamed kind word (lossless kids inner)) false
    (sym below ∙ sym (misnamed_behind kind word z tail) ∙ (or_parts (has_misnamed kind word (behind z tail)) false halves.1).0) refl)

root_named : (a : SyntaxKind) (kids : Forest) (lead inner trail tail : List plain.Token) → AllTrivia lead
    → lossless kids (inner ++ trail) ≡ lossless kids inner
    → IsNamed (branch a (behind (lossless kids (lead ++ (inner ++ trail))) tail) nothing) → IsNamed (branch a (lossless kids inner) nothing)
root_named a kids lead inner trail tail all front named = record {
  rules = root_free k.MACRO_RULES (codes "macro_rules") a kids lead inner trail tail all front named.rules;
  union = root_free k.UNION_KW (codes "union") a kids lead inner trail tail all front named.union;
  raw = root_free k.RAW_KW (codes "raw") a kids lead inner trail tail all front named.raw;
  safe = root_free k.SAFE_KW (codes "safe") a kids lead inner trail tail all front named.safe;
}

-- ** An inside, put there.

pub record IsPutOf (hole : Hole) (us : List plain.Token) : Type 0 where
  pub lead : List plain.Token
  pub put : List plain.Token
  pub trail : List plain.Token
  pub all : us ≡ lead ++ (put ++ trail)
  pub leads : AllTrivia lead
  pub trails : AllTrivia trail
  pub is : IsPut hole put

pub inside_put : (reach : Reach) (hole : Hole) (text : List ℕ) (raw : List RawToken) → IsInside reach hole text raw → hole.tokens ≡ solid_tokens raw
    → IsPutOf hole (pieces text raw)
inside_put reach hole text raw inside same =
    let ts : List plain.Token = pieces text raw in
    let kids : Forest = inside.kids in
    let n : ℕ = length hole.tokens in
    let count : n ≡ solid_count ts = ap length same ∙ sym (count_pieces text raw) in
    let some : 0 < n = omega (arith, inside.some, ap length same) in
    let cut : Split n ts = split n ts some (omega (arith, count)) in
    let spells : spell kids ≡ hole.tokens =
    sym (append-nil (spell kids)) ∙ ap spell (sym inside.tree) ∙ goal_spelled (grammar_of reach) (Expr Anywhere) hole.tree (solid_tokens raw) [] inside.fits ∙ sym same in
    let front : lossless kids (cut.inner ++ cut.trail) ≡ lossless kids cut.inner =
    lossless_front kids cut.inner cut.trail (omega (arith, ap length spells, cut.run.enough)) in
    let whole : IsNamed (branch inside.kind (behind (lossless kids ts) (past (length (spell kids)) ts)) nothing) =
    named_parts (whole_tree inside.kind kids ts) inside.named in
    record {
      lead = cut.lead;
      put = cut.inner;
      trail = cut.trail;
      all = cut.all;
      leads = cut.leads;
      trails = cut.trails count;
      is = record {
        kind = inside.kind;
        kids = kids;
        tree = inside.tree;
        spells = spells;
        run = cut.run;
        named =
            root_named inside.kind kids cut.lead cut.inner cut.trail (past (length (spell kids)) ts) cut.leads front
            (subst (λ l. IsNamed (branch inside.kind (behind (lossless kids l) (past (length (spell kids)) ts)) nothing)) cut.all whole);
      };
    }
