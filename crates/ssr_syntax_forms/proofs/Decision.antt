-- The decision is right, and answers for all that fits.
use Rattle.std.proofs.Common.{◌≡◌, ℕ, zero, suc, ◌+◌, ◌*◌, ◌<◌, ◌≤◌, Bool, true, false, List, [], ◌∷◌, ◌++◌, length, Option, Some, None, Decides, ◌⊎◌, inl, inr, refl, sym, ap, subst, ◌∙◌, append_assoc, arith}
use Rattle.std.proofs.lemmas.Bool.{true≢false, and_parts, and_from, or_cases, eqb-true, eq-eqb, or_left, or_right}
use Rattle.std.proofs.lemmas.Bool.Decides.{same_from_decides}
use Rattle.std.proofs.lemmas.List.{append-nil}
use Rattle.ssr_syntax_kinds.specs.declared.kinds.SyntaxKind.{SyntaxKind}
use Rattle.ssr_syntax_kinds.proofs.Shared.{same_kind-equal, equal-same_kind}
use Rattle.ssr_syntax_forms.specs.declared.tokens.Token.{Token}
use Rattle.ssr_syntax_forms.specs.Trees.{Forest, done, leaf, tree, join, spell, height}
use Rattle.ssr_syntax_forms.specs.Forms.{Productions, Form, one, child, mark, seal, ◌then◌, nothing, choose, many, look, check, wide, is_one, more, taken_as, holds, SoFar, so_far}
use Rattle.ssr_syntax_forms.specs.Fitting as rules
use Rattle.ssr_syntax_forms.specs.Decision.{size, behind_first, last_cut, Stages, is_empty, is_token, at_cut, cut_off, unsealed, steps_back, reached, decide_at}
use Rattle.ssr_syntax_forms.proofs.Check.{makes_node, lone_marks}
use Rattle.ssr_syntax_forms.proofs.Depth.{shallow_of, covered, lower_ranks, lower_ranked}
use Rattle.ssr_syntax_forms.proofs.Levels.{goals_spell}
use Rattle.ssr_syntax_forms.proofs.Lone.{IsNode, AreNodes, makes, goals_lone}
use Rattle.ssr_syntax_forms.proofs.Nested.{FitsBelow, Step, Repeats, FitsForm, FitsGoal, by_rules, goals_by_rules, widen, at_some_level}
use Rattle.ssr_syntax_forms.proofs.Spelling.{Spells, spelled}
use Rattle.ssr_syntax_forms.proofs.Walks.{IsKept, walk}

-- ** The last tree of a forest.
abbrev IsCut : Forest → Option (Forest × Forest) → Type 0
IsCut z None = z ≡ done
IsCut z (Some c) = z ≡ join c.0 c.1

abbrev IsAlone : Forest → Type 0
IsAlone y = last_cut y ≡ Some (done, y)

leaf_cut : (kind : SyntaxKind) (us : List Token) (x : Forest) (o : Option (Forest × Forest)) → IsCut x o
    → IsCut (leaf kind us x) (Some (behind_first (leaf kind us done) o))
leaf_cut kind us x None e = ap (leaf kind us) e
leaf_cut kind us x (Some c) e = ap (leaf kind us) e

tree_cut : (kind : SyntaxKind) (kids x : Forest) (o : Option (Forest × Forest)) → IsCut x o
    → IsCut (tree kind kids x) (Some (behind_first (tree kind kids done) o))
tree_cut kind kids x None e = ap (tree kind kids) e
tree_cut kind kids x (Some c) e = ap (tree kind kids) e

is_cut : (z : Forest) → IsCut z (last_cut z)
is_cut done = refl
is_cut (leaf kind us x) = leaf_cut kind us x (last_cut x) (is_cut x)
is_cut (tree kind kids x) = tree_cut kind kids x (last_cut x) (is_cut x)

cut_join : (x y : Forest) → IsAlone y → last_cut (join x y) ≡ Some (x, y)
cut_join done y alone = alone
cut_join (leaf kind us x) y alone = ap (λ o. Some (behind_first (leaf kind us done) o)) (cut_join x y alone)
cut_join (tree kind kids x) y alone = ap (λ o. Some (behind_first (tree kind kids done) o)) (cut_join x y alone)

node_alone : (y : Forest) → IsNode y → IsAlone y
node_alone y (kind, kids, y_is) = subst IsAlone (sym y_is) refl

-- ** One step back.
-- the step leads here from a start
record CameFrom (step : Step) (start : Stages) (r : SoFar) : Type 0 where
  from : Forest
  taken : List Token
  leads : step from r.made taken r.rest
  starts : start (so_far from (taken ++ r.rest)) ≡ true

record CutThere (test : Forest → Bool) (start : Stages) (z : Forest) (rest : List Token) : Type 0 where
  front : Forest
  last : Forest
  joined : z ≡ join front last
  passed : test last ≡ true
  starts : start (so_far front (spell last ++ rest)) ≡ true

at_cut_there : (test : Forest → Bool) (start : Stages) (z : Forest) (rest : List Token) (o : Option (Forest × Forest)) → IsCut z o
    → at_cut test start rest o ≡ true → CutThere test start z rest
at_cut_there test start z rest None e h = cc
at_cut_there test start z rest (Some c) e h =
    let b = and_parts _ _ h in record { front = c.0; last = c.1; joined = e; passed = b.0; starts = b.1 }

cut_there : (test : Forest → Bool) (start : Stages) (r : SoFar) → cut_off test start r ≡ true → CutThere test start r.made r.rest
cut_there test start r h = at_cut_there test start r.made r.rest (last_cut r.made) (is_cut r.made) h

cut_found : (test : Forest → Bool) (start : Stages) (x y z : Forest) (us rest : List Token)
    → z ≡ join x y → IsAlone y → spell y ≡ us → test y ≡ true → start (so_far x (us ++ rest)) ≡ true
    → cut_off test start (so_far z rest) ≡ true
cut_found test start x y z us rest z_is alone spells passed starts =
    subst (λ o. at_cut test start rest o ≡ true) (sym (ap last_cut z_is ∙ cut_join x y alone))
    (and_from _ _ passed (subst (λ w. start (so_far x (w ++ rest)) ≡ true) (sym spells) starts))

record TokenThere (whole : Bool) (ks : List SyntaxKind) (y : Forest) : Type 0 where
  front : Token
  others : List Token
  is : is_one whole ks front ≡ true
  size : more whole front ≡ length others
  made : y ≡ leaf (taken_as whole front) (front ∷ others) done

token_there : (whole : Bool) (ks : List SyntaxKind) (y : Forest) → is_token whole ks y ≡ true → TokenThere whole ks y
token_there whole ks done h = cc
token_there whole ks (leaf kind [] x) h = cc
token_there whole ks (leaf kind (t ∷ us) done) h =
    let b = and_parts _ _ h in
    let d = and_parts _ _ b.1 in
    record {
      front = t;
      others = us;
      is = b.0;
      size = eqb-true (more whole t) (length us) d.0;
      made = ap (λ k. leaf k (t ∷ us) done) (same_kind-equal kind (taken_as whole t) d.1);
    }
token_there whole ks (leaf kind (t ∷ us) (leaf k vs x)) h = cc
token_there whole ks (leaf kind (t ∷ us) (tree k kids x)) h = cc
token_there whole ks (tree kind kids x) h = cc

token_found : (whole : Bool) (ks : List SyntaxKind) (t : Token) (us : List Token) → is_one whole ks t ≡ true
    → more whole t ≡ length us → is_token whole ks (leaf (taken_as whole t) (t ∷ us) done) ≡ true
token_found whole ks t us is size =
    and_from _ _ is
    (and_from _ _ (eq-eqb (more whole t) (length us) size) (equal-same_kind (taken_as whole t) (taken_as whole t) refl))

unsealed_there : {Goal : Type 0} (fit : FitsBelow Goal) (kind : SyntaxKind) (start : Stages) (z : Forest) (rest : List Token)
    → unsealed kind start (so_far z rest) ≡ true → CameFrom (FitsForm fit (seal kind)) start (so_far z rest)
unsealed_there fit kind start done rest h = cc
unsealed_there fit kind start (leaf k us x) rest h = cc
unsealed_there fit kind start (tree k kids done) rest h =
    let b = and_parts _ _ h in
    record { from = kids; taken = []; leads = (refl, ap (λ w. tree w kids done) (same_kind-equal k kind b.0)); starts = b.1 }
unsealed_there fit kind start (tree k kids (leaf l us x)) rest h = cc
unsealed_there fit kind start (tree k kids (tree l below x)) rest h = cc

nothing_made : (x : Forest) (ts : List Token) → is_empty (so_far x ts) ≡ true → x ≡ done
nothing_made done ts h = refl
nothing_made (leaf kind us x) ts h = cc
nothing_made (tree kind kids x) ts h = cc

-- two steps, one after another
came_over : (first second both : Step) (start middle : Stages) (r : SoFar)
    → ((x y : Forest) (us vs : List Token) → first x y us (vs ++ r.rest) → second y r.made vs r.rest → both x r.made (us ++ vs) r.rest)
    → ((q : SoFar) → middle q ≡ true → CameFrom first start q) → CameFrom second middle r → CameFrom both start r
came_over first second both start middle r over there late =
    let early = there (so_far late.from (late.taken ++ r.rest)) late.starts in
    record {
      from = early.from;
      taken = early.taken ++ late.taken;
      leads = over early.from late.from early.taken late.taken early.leads late.leads;
      starts = subst (λ us. start (so_far early.from us) ≡ true) (sym (append_assoc early.taken late.taken r.rest)) early.starts;
    }

-- ** Loops: each form takes nothing, or makes what is made larger.
join-done : (x : Forest) → join x done ≡ x
join-done done = refl
join-done (leaf kind us x) = ap (leaf kind us) (join-done x)
join-done (tree kind kids x) = ap (tree kind kids) (join-done x)

size-join : (x y : Forest) → size (join x y) ≡ size x + size y
size-join done y = omega arith
size-join (leaf kind us x) y = omega (arith, size-join x y)
size-join (tree kind kids x) y = omega (arith, size-join x y)

abbrev Grows : Step
Grows x z us rest = ((x ≡ z) × (us ≡ [])) ⊎ (size x < size z)

not_smaller : (x z : Forest) (us rest : List Token) → Grows x z us rest → size x ≤ size z
not_smaller x z us rest (inl (same, none)) = omega (arith, ap size same)
not_smaller x z us rest (inr lt) = omega arith

grows_beside : (x y : Forest) (us rest : List Token) → Grows done y us rest → Grows x (join x y) us rest
grows_beside x y us rest (inl (same, none)) = inl (sym (join-done x) ∙ ap (join x) same, none)
grows_beside x y us rest (inr lt) = inr (omega (arith, size-join x y))

grows_over : (x y z : Forest) (us vs rest : List Token) → Grows x y us (vs ++ rest) → Grows y z vs rest → Grows x z (us ++ vs) rest
grows_over x y z us vs rest (inl (same, none)) (inl (alike, nor)) = inl (same ∙ alike, ap (λ w. w ++ vs) none ∙ nor)
grows_over x y z us vs rest (inl (same, none)) (inr lt) = inr (omega (arith, ap size same))
grows_over x y z us vs rest (inr lt) late = inr (omega (arith, not_smaller y z vs rest late))

grows_from_nothing : (y : Forest) (us rest : List Token) → spell y ≡ us → Grows done y us rest
grows_from_nothing done us rest e = inl (refl, sym e)
grows_from_nothing (leaf kind ts x) us rest e = inr (omega arith)
grows_from_nothing (tree kind kids x) us rest e = inr (omega arith)

keeps_growth : IsKept Grows
keeps_growth = record {
  token = λ whole ks t us rest is m. inr (omega arith);
  node = λ kind x rest. inr (omega arith);
  beside = grows_beside;
  stay = λ x rest. inl (refl, refl);
  over = grows_over;
}

growth : {Goal : Type 0} (fit : FitsBelow Goal) → Spells fit → (form : Form Goal) (x z : Forest) (us rest : List Token) → FitsForm fit form x z us rest → Grows x z us rest
growth fit spells form =
    walk Grows keeps_growth fit (λ asked y us rest y_fits. grows_from_nothing y us rest (spells asked y us rest y_fits)) form

abbrev Loops : Step → Step
Loops step x z us rest = (n : ℕ) × Repeats n step x z us rest

no_turn : (step : Step) (start : Stages) (r : SoFar) → start r ≡ true → CameFrom (Loops step) start r
no_turn step start r h = record { from = r.made; taken = []; leads = (zero, (refl, refl)); starts = h }

steps_there : (step : Step) (back : Stages → Stages)
    → ((start : Stages) (r : SoFar) → back start r ≡ true → CameFrom step start r)
    → (n : ℕ) (start : Stages) (r : SoFar) → steps_back back n start r ≡ true → CameFrom (Loops step) start r
steps_there step back there zero start r h = no_turn step start r h
steps_there step back there (suc n) start r h =
    elim (or_cases (start r) (steps_back back n (back start) r) h) [
      | inl e ↦ no_turn step start r e
      | inr e ↦ came_over step (Loops step) (Loops step) start (back start) r
          (λ x y us vs f turns. (suc turns.0, (y, us, vs, refl, f, turns.1))) (there start)
          (steps_there step back there n (back start) r e)
    ]

no_step : (back : Stages → Stages) (n : ℕ) (start : Stages) (r : SoFar) → start r ≡ true → steps_back back n start r ≡ true
no_step back zero start r h = h
no_step back (suc n) start r h = or_left (start r) (steps_back back n (back start) r) h

-- what leads here from a start is found
abbrev Finds : Step → (Stages → Stages) → Type 0
Finds step back =
    (start : Stages) (x z : Forest) (us rest : List Token) → step x z us rest → start (so_far x (us ++ rest)) ≡ true
    → back start (so_far z rest) ≡ true

stays_start : (start : Stages) (x z : Forest) (us rest : List Token) → us ≡ [] → z ≡ x → start (so_far x (us ++ rest)) ≡ true
    → start (so_far z rest) ≡ true
stays_start start x z us rest none z_is s =
    subst (λ w. start (so_far w rest) ≡ true) (sym z_is) (subst (λ w. start (so_far x (w ++ rest)) ≡ true) none s)

parted : (start : Stages) (x : Forest) (us vs ws rest : List Token) → us ≡ vs ++ ws → start (so_far x (us ++ rest)) ≡ true
    → start (so_far x (vs ++ (ws ++ rest))) ≡ true
parted start x us vs ws rest e s =
    subst (λ w. start (so_far x w) ≡ true) (ap (λ w. w ++ rest) e ∙ append_assoc vs ws rest) s

steps_found : (step : Step) (back : Stages → Stages) → Finds step back
    → ((x z : Forest) (us rest : List Token) → step x z us rest → Grows x z us rest)
    → ((x z : Forest) (us rest : List Token) → Loops step x z us rest → Grows x z us rest)
    → (m n : ℕ) (start : Stages) (x z : Forest) (us rest : List Token) → Repeats m step x z us rest
    → start (so_far x (us ++ rest)) ≡ true → size z ≤ size x + n → steps_back back n start (so_far z rest) ≡ true
steps_found step back found one_grows all_grow zero n start x z us rest (none, z_is) s le =
    no_step back n start (so_far z rest) (stays_start start x z us rest none z_is s)
steps_found step back found one_grows all_grow (suc m) n start x z us rest (y, vs, ws, us_is, f, turns) s le =
    let s' : start (so_far x (vs ++ (ws ++ rest))) ≡ true = parted start x us vs ws rest us_is s in
    elim (one_grows x y vs (ws ++ rest) f) [
      | inl idle ↦ steps_found step back found one_grows all_grow m n start y z ws rest turns
          (stays_start start x y vs (ws ++ rest) idle.1 (sym idle.0) s') (omega (arith, ap size idle.0))
      | inr lt ↦ elim n as (λ k. size z ≤ size x + k → steps_back back k start (so_far z rest) ≡ true) [
        | zero ↦ λ le'. absurd (omega (arith, not_smaller y z ws rest (all_grow y z ws rest (m, turns))))
        | suc k ↦ λ le'. or_right (start (so_far z rest)) _
            (steps_found step back found one_grows all_grow m k (back start) y z ws rest turns
            (found start x y vs (ws ++ rest) f s') (omega arith))
      ] le
    ]

-- what fits a goal is decided
record IsDecided {Goal : Type 0} (fit : FitsBelow Goal) (below : Goal → Stages) : Type 0 where
  right : (asked : Goal) (y : Forest) (rest : List Token) → below asked (so_far y rest) ≡ true → fit asked y (spell y) rest
  whole : (asked : Goal) (y : Forest) (us rest : List Token) → fit asked y us rest → below asked (so_far y rest) ≡ true
  spells : Spells fit
  nodes : AreNodes fit

module _ {Goal : Type 0} (fit : FitsBelow Goal) (below : Goal → Stages) (d : IsDecided fit below) where
  -- what fits, by what it spells
  all_spelled : (f : Form Goal) (r : SoFar) → CameFrom (FitsForm fit f) is_empty r → FitsForm fit f done r.made (spell r.made) r.rest
  all_spelled f r c =
      let f_fits : FitsForm fit f done r.made c.taken r.rest =
      subst (λ x. FitsForm fit f x r.made c.taken r.rest) (nothing_made c.from (c.taken ++ r.rest) c.starts) c.leads in
      subst (λ us. FitsForm fit f done r.made us r.rest) (sym (spelled fit d.spells f done r.made c.taken r.rest f_fits)) f_fits

  was_there : (form : Form Goal) (start : Stages) (r : SoFar) → reached below form start r ≡ true → CameFrom (FitsForm fit form) start r
  was_there (one whole ks) start r h =
      let c = cut_there (is_token whole ks) start r h in
      let t = token_there whole ks c.last c.passed in
      record {
        from = c.front;
        taken = spell c.last;
        leads = (t.front, t.others, ap spell t.made ∙ append-nil (t.front ∷ t.others), t.is, t.size, c.joined ∙ ap (join c.front) t.made);
        starts = c.starts;
      }
  was_there (child asked) start r h =
      let c = cut_there (λ y. below asked (so_far y r.rest)) start r h in
      record {
        from = c.front;
        taken = spell c.last;
        leads = (c.last, d.right asked c.last r.rest c.passed, c.joined);
        starts = c.starts;
      }
  was_there (mark f) start r h =
      let c = cut_there (λ y. reached below f is_empty (so_far y r.rest)) start r h in
      let inside : SoFar = so_far c.last r.rest in
      record {
        from = c.front;
        taken = spell c.last;
        leads = (c.last, all_spelled f inside (was_there f is_empty inside c.passed), c.joined);
        starts = c.starts;
      }
  was_there (seal kind) start r h = unsealed_there fit kind start r.made r.rest h
  was_there (f then g) start r h =
      came_over (FitsForm fit f) (FitsForm fit g) (FitsForm fit (f then g)) start (reached below f start) r
      (λ x y us vs early late. (y, us, vs, refl, early, late)) (was_there f start) (was_there g (reached below f start) r h)
  was_there nothing start r h = record { from = r.made; taken = []; leads = (refl, refl); starts = h }
  was_there (choose test f g) start r h =
      elim (or_cases (reached below f start r) (reached below g start r) h) [
        | inl e ↦ let c = was_there f start r e in record { from = c.from; taken = c.taken; leads = inl c.leads; starts = c.starts }
        | inr e ↦ let c = was_there g start r e in record { from = c.from; taken = c.taken; leads = inr c.leads; starts = c.starts }
      ]
  was_there (many test f) start r h =
      steps_there (FitsForm fit f) (reached below f) (was_there f) (size r.made) start r h
  was_there (look want test) start r h =
      let b = and_parts _ _ h in record { from = r.made; taken = []; leads = (refl, refl, b.0); starts = b.1 }
  was_there (check condition) start r h =
      let b = and_parts _ _ h in record { from = r.made; taken = []; leads = (refl, refl, b.0); starts = b.1 }
  was_there (wide f g) start r h = was_there g start r h

  mark_alone : (f : Form Goal) → makes_node (mark f) ≡ true → (y : Forest) (us rest : List Token) → FitsForm fit f done y us rest → IsAlone y
  mark_alone f m y us rest y_fits = node_alone y (makes fit d.nodes (mark f) m y us rest (y, y_fits, refl))

  is_found : (form : Form Goal) → lone_marks form ≡ true → Finds (FitsForm fit form) (reached below form)
  is_found (one whole ks) l start x z us rest (t, others, us_is, is, size, z_is) s =
      cut_found (is_token whole ks) start x (leaf (taken_as whole t) (t ∷ others) done) z us rest z_is refl
      (append-nil (t ∷ others) ∙ sym us_is) (token_found whole ks t others is size) s
  is_found (child asked) l start x z us rest (y, y_fits, z_is) s =
      cut_found (λ y. below asked (so_far y rest)) start x y z us rest z_is (node_alone y (d.nodes asked y us rest y_fits))
      (d.spells asked y us rest y_fits) (d.whole asked y us rest y_fits) s
  is_found (mark f) l start x z us rest (y, y_fits, z_is) s =
      let b = and_parts _ _ l in
      cut_found (λ y. reached below f is_empty (so_far y rest)) start x y z us rest z_is (mark_alone f b.0 y us rest y_fits)
      (spelled fit d.spells f done y us rest y_fits) (is_found f b.1 is_empty done y us rest y_fits refl) s
  is_found (seal kind) l start x z us rest (none, z_is) s =
      subst (λ w. unsealed kind start (so_far w rest) ≡ true) (sym z_is)
      (and_from _ _ (equal-same_kind kind kind refl) (subst (λ w. start (so_far x (w ++ rest)) ≡ true) none s))
  is_found (f then g) l start x z us rest (y, vs, ws, us_is, early, late) s =
      let b = and_parts _ _ l in
      is_found g b.1 (reached below f start) y z ws rest late
      (is_found f b.0 start x y vs (ws ++ rest) early (parted start x us vs ws rest us_is s))
  is_found nothing l start x z us rest (none, z_is) s = stays_start start x z us rest none z_is s
  is_found (choose test f g) l start x z us rest (inl f_fits) s =
      or_left _ _ (is_found f (and_parts _ _ l).0 start x z us rest f_fits s)
  is_found (choose test f g) l start x z us rest (inr g_fits) s =
      or_right _ _ (is_found g (and_parts _ _ l).1 start x z us rest g_fits s)
  is_found (many test f) l start x z us rest (count, turns) s =
      steps_found (FitsForm fit f) (reached below f) (is_found f l) (growth fit d.spells f) (growth fit d.spells (many test f))
      count (size z) start x z us rest turns s (omega arith)
  is_found (look want test) l start x z us rest (none, z_is, looked) s =
      and_from _ _ looked (stays_start start x z us rest none z_is s)
  is_found (check condition) l start x z us rest (none, z_is, checked) s =
      and_from _ _ (subst (λ w. holds condition (spell w) ≡ true) (sym z_is) checked) (stays_start start x z us rest none z_is s)
  is_found (wide f g) l start x z us rest fit s = is_found g l start x z us rest fit s

  -- a goal's form is decided
  form_right : (form : Form Goal) (r : SoFar) → reached below form is_empty r ≡ true → FitsForm fit form done r.made (spell r.made) r.rest
  form_right form r h = all_spelled form r (was_there form is_empty r h)

  form_whole : (form : Form Goal) → lone_marks form ≡ true → (z : Forest) (us rest : List Token) → FitsForm fit form done z us rest
      → reached below form is_empty (so_far z rest) ≡ true
  form_whole form l z us rest f = is_found form l is_empty done z us rest f refl

-- ** Goals.
-- What a grammar has to keep: each goal makes one node, each mark does, and each goal that a form asks for is put into a
-- node, or is of a lower rank.
pub record IsLone {Goal : Type 0} (grammar : Productions Goal) (rank : Goal → ℕ) (ranks : ℕ) : Type 0 where
  pub goals : (asked : Goal) → makes_node (grammar asked) ≡ true
  pub marks : (asked : Goal) → lone_marks (grammar asked) ≡ true
  pub covers : (asked : Goal) → covered (lower_ranks rank asked) false (grammar asked) ≡ true
  pub few : (asked : Goal) → rank asked < ranks

-- what fits a goal, by the rules
abbrev pub ByRules : {Goal : Type 0} → Productions Goal → FitsBelow Goal
ByRules grammar asked z us rest = rules.Fits grammar (grammar asked) done z us rest

module _ {Goal : Type 0} (grammar : Productions Goal) (rank : Goal → ℕ) (ranks : ℕ) (k : IsLone grammar rank ranks) where
  goals_nodes : (n : ℕ) → AreNodes (FitsGoal grammar n)
  goals_nodes = goals_lone grammar k.goals

  -- at each number of levels
  decided_at : (n : ℕ) → IsDecided (FitsGoal grammar n) (decide_at grammar n)
  unfolding FitsGoal
  decided_at zero = record {
    right = λ asked y rest h. absurd (true≢false (sym h));
    whole = λ asked y us rest f. absurd f;
    spells = goals_spell grammar zero;
    nodes = goals_nodes zero;
  }
  decided_at (suc n) = record {
    right = λ asked y rest h. form_right (FitsGoal grammar n) (decide_at grammar n) (decided_at n) (grammar asked) (so_far y rest) h;
    whole = λ asked y us rest f. form_whole (FitsGoal grammar n) (decide_at grammar n) (decided_at n) (grammar asked) (k.marks asked) y us rest f;
    spells = goals_spell grammar (suc n);
    nodes = goals_nodes (suc n);
  }

  pub fits_right : (n : ℕ) (asked : Goal) (r : SoFar) → decide_at grammar n asked r ≡ true
      → FitsGoal grammar n asked r.made (spell r.made) r.rest
  fits_right n asked r h = (decided_at n).right asked r.made r.rest h

  pub fits_whole : (n : ℕ) (asked : Goal) (y : Forest) (us rest : List Token) → FitsGoal grammar n asked y us rest
      → decide_at grammar n asked (so_far y rest) ≡ true
  fits_whole n asked y us rest f = (decided_at n).whole asked y us rest f

  -- ** At as many levels as a forest has: these are enough.
  abbrev decide_here : Goal → Stages
  decide_here asked r = decide_at grammar (height r.made * ranks + ranks) asked r

  enough : (asked : Goal) (z : Forest) (us rest : List Token) → ByRules grammar asked z us rest
      → FitsGoal grammar (height z * ranks + ranks) asked z us rest
  enough asked z us rest f =
      let some = at_some_level grammar asked z us rest f in
      lower_ranked grammar rank ranks k.few k.covers some.0 (height z * ranks + ranks) (height z) asked z us rest
      (omega (arith, k.few asked)) some.1 (shallow_of z (height z) (omega arith))

  decided_here : IsDecided (ByRules grammar) decide_here
  decided_here = record {
    right = λ asked y rest h.
        goals_by_rules grammar (height y * ranks + ranks) asked y (spell y) rest
        (fits_right (height y * ranks + ranks) asked (so_far y rest) h);
    whole = λ asked y us rest f. fits_whole (height y * ranks + ranks) asked y us rest (enough asked y us rest f);
    spells = λ asked y us rest f. goals_spell grammar (height y * ranks + ranks) asked y us rest (enough asked y us rest f);
    nodes = λ asked y us rest f. goals_nodes (height y * ranks + ranks) asked y us rest (enough asked y us rest f);
  }

  pub decided : (asked : Goal) (r : SoFar) → Decides (decide_at grammar (height r.made * ranks + ranks) asked r) (ByRules grammar asked r.made (spell r.made) r.rest)
  decided asked r = (decided_here.right asked r.made r.rest, decided_here.whole asked r.made (spell r.made) r.rest)

  one_form : (n : ℕ) (asked : Goal) (z : Forest) (us rest : List Token) → FitsGoal grammar n asked z us rest
      → FitsForm (ByRules grammar) (grammar asked) done z us rest
  unfolding FitsGoal
  one_form zero asked z us rest f = absurd f
  one_form (suc n) asked z us rest f = widen (FitsGoal grammar n) (ByRules grammar) (goals_by_rules grammar n) (grammar asked) done z us rest f

  pub answers : (asked : Goal) (r : SoFar) → decide_at grammar (height r.made * ranks + ranks) asked r
      ≡ reached (λ goal q. decide_at grammar (height q.made * ranks + ranks) goal q) (grammar asked) is_empty r
  answers asked r =
      same_from_decides (decide_here asked r) (reached decide_here (grammar asked) is_empty r) (decided asked r) (
        λ h. by_rules grammar (ByRules grammar) (λ goal y us rest f. f) (grammar asked) done r.made (spell r.made) r.rest
            (form_right (ByRules grammar) decide_here decided_here (grammar asked) r h),
        λ f. form_whole (ByRules grammar) decide_here decided_here (grammar asked) (k.marks asked) r.made (spell r.made) r.rest
            (one_form (height r.made * ranks + ranks) asked r.made (spell r.made) r.rest (enough asked r.made (spell r.made) r.rest f)),
      )
