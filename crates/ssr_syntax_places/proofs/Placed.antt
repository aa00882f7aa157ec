-- A node that some goals own is replaced wherever it stands by another one that fits them, if both begin with a brace.
use Rattle.std.proofs.Common.{◌≡◌, Bool, true, false, not, ◌&&◌, List, [], ◌∷◌, ◌++◌, ◌⊎◌, inl, inr, refl, sym, ap, subst, ◌∙◌, append_assoc}
use Rattle.std.proofs.lemmas.List.{append-nil}
use Rattle.std.proofs.lemmas.Bool.{and_parts, cases_Bool, not-true}
use Rattle.ssr_syntax_kinds.specs.declared.kinds.SyntaxKind.{SyntaxKind}
use Rattle.ssr_syntax_kinds.specs.Kinds.{same_kind}
use Rattle.ssr_syntax_kinds.proofs.Shared.{same_kind-equal, equal-same_kind}
use Rattle.ssr_syntax_forms.specs.declared.tokens.Token.{Token}
use Rattle.ssr_syntax_forms.specs.Trees.{Forest, done, leaf, tree, join, spell}
use Rattle.ssr_syntax_forms.specs.Forms.{Form, Condition, one, child, mark, seal, ◌then◌, nothing, choose, many, look, check, wide, Productions, agrees, taken_as}
use Rattle.ssr_syntax_forms.specs.Fitting.{Fits, token, goal, marked, sealed, behind, none, first, second, stop, turn, looked, checked, stated}
use Rattle.ssr_syntax_forms.proofs.Shared.{at_some_level, goals_spell}
use Rattle.ssr_syntax_places.specs.Placing.{Own, Puts, no_tree, same_leaf, kept, put, begins_open, keeps_opens}
use Rattle.ssr_syntax_places.proofs.Alike.{Alike, keeps_opens_behind, alike_front, alike_open, stops_open, test_alike}
use Rattle.ssr_syntax_places.proofs.Conditions.{condition_kept}

-- ** What is asked of the grammar.

-- the form doesn't seal the kind; its looks stop at a brace, and its checks are among some
abbrev pub is_clear : {Goal : Type 0} → SyntaxKind → (Condition → Bool) → Form Goal → Bool
is_clear kind safe (one whole ks) = true
is_clear kind safe (child asked) = true
is_clear kind safe (mark f) = is_clear kind safe f
is_clear kind safe (seal a) = not (same_kind a kind)
is_clear kind safe (f then g) = is_clear kind safe f && is_clear kind safe g
is_clear kind safe nothing = true
is_clear kind safe (choose test f g) = is_clear kind safe f && is_clear kind safe g
is_clear kind safe (many test f) = is_clear kind safe f
is_clear kind safe (look want test) = stops_open test
is_clear kind safe (check condition) = safe condition
is_clear kind safe (wide f g) = is_clear kind safe g

-- the form seals the kind at its end alone
abbrev pub is_owner : {Goal : Type 0} → SyntaxKind → (Condition → Bool) → Form Goal → Bool
is_owner kind safe (seal a) = same_kind a kind
is_owner kind safe (f then g) = is_clear kind safe f && is_owner kind safe g
is_owner kind safe _ = false

pub record Owned {Goal : Type 0} (grammar : Productions Goal) (own : Own Goal) : Type 0 where
  pub owners : (asked : Goal) → own.owns asked ≡ true → is_owner own.kind own.asks (grammar asked) ≡ true
  pub others : (asked : Goal) → own.owns asked ≡ false → is_clear own.kind own.asks (grammar asked) ≡ true

-- ** Parts of forests.

record Split {Goal : Type 0} (grammar : Productions Goal) (own : Own Goal) (x y w : Forest) : Type 0 where
  front : Forest
  last : Forest
  is : w ≡ join front last
  front_put : Puts grammar own x front
  last_put : Puts grammar own y last

split : {Goal : Type 0} (grammar : Productions Goal) (own : Own Goal) (x y w : Forest) → Puts grammar own (join x y) w
    → Split grammar own x y w
split grammar own done y w p = record { front = done; last = w; is = refl; front_put = no_tree; last_put = p }
split grammar own (leaf a us x) y _ (same_leaf {y = w} p) =
    let s = split grammar own x y w p in
    record { front = leaf a us s.front; last = s.last; is = ap (leaf a us) s.is; front_put = same_leaf s.front_put; last_put = s.last_put }
split grammar own (tree a kids x) y _ (kept {others = others} {y = w} q p) =
    let s = split grammar own x y w p in
    record { front = tree a others s.front; last = s.last; is = ap (tree a others) s.is; front_put = kept q s.front_put; last_put = s.last_put }
split grammar own (tree a kids x) y _ (put {new = new} {y = w} is old_open new_open meets fits p) =
    let s = split grammar own x y w p in
    record { front = tree a new s.front; last = s.last; is = ap (tree a new) s.is; front_put = put is old_open new_open meets fits s.front_put; last_put = s.last_put }

same_token : {Goal : Type 0} (grammar : Productions Goal) (own : Own Goal) (a : SyntaxKind) (us : List Token) (w : Forest)
    → Puts grammar own (leaf a us done) w → w ≡ leaf a us done
same_token grammar own a us _ (same_leaf no_tree) = refl

same_nothing : {Goal : Type 0} (grammar : Productions Goal) (own : Own Goal) (w : Forest) → Puts grammar own done w → w ≡ done
same_nothing grammar own _ no_tree = refl

-- a node of another kind keeps its place
record Kept {Goal : Type 0} (grammar : Productions Goal) (own : Own Goal) (a : SyntaxKind) (x w : Forest) : Type 0 where
  inner : Forest
  is : w ≡ tree a inner done
  inner_put : Puts grammar own x inner

record Replaced {Goal : Type 0} (grammar : Productions Goal) (own : Own Goal) (a : SyntaxKind) (x w : Forest) : Type 0 where
  new : Forest
  is : w ≡ tree a new done
  old_open : begins_open (spell x) ≡ true
  new_open : begins_open (spell new) ≡ true
  fits : (asked : Goal) (rest : List Token) → own.owns asked ≡ true → Fits grammar (grammar asked) done (tree a new done) (spell new) rest

node_cases : {Goal : Type 0} (grammar : Productions Goal) (own : Own Goal) (a : SyntaxKind) (x w : Forest)
    → Puts grammar own (tree a x done) w → Kept grammar own a x w ⊎ ((a ≡ own.kind) × Replaced grammar own a x w)
node_cases grammar own a x _ (kept {others = others} q no_tree) = inl (record { inner = others; is = refl; inner_put = q })
node_cases grammar own a x _ (put {new = new} is old_open new_open meets fits no_tree) =
    inr (is, record { new = new; is = refl; old_open = old_open; new_open = new_open; fits = fits })

other_kept : {Goal : Type 0} (grammar : Productions Goal) (own : Own Goal) (a : SyntaxKind) (x w : Forest) → not (same_kind a own.kind) ≡ true
    → Puts grammar own (tree a x done) w → Kept grammar own a x w
other_kept grammar own a x w other p =
    elim (node_cases grammar own a x w p) [
      | inl kept_node ↦ kept_node
      | inr (is, replaced) ↦ absurd (cc (not-true (same_kind a own.kind) other, equal-same_kind a own.kind is))
    ]

-- ** What is made anew.

pub record IsPlaced {Goal : Type 0} (grammar : Productions Goal) (own : Own Goal) (form : Form Goal) (x w : Forest) (us rest ahead : List Token)
    : Type 0 where
  pub before : Forest
  pub tokens : List Token
  pub puts : Puts grammar own x before
  pub fits : Fits grammar form before w tokens ahead
  pub alike : Alike (us ++ rest) (tokens ++ ahead)

owner_seals : {Goal : Type 0} (grammar : Productions Goal) (own : Own Goal) (form : Form Goal) (x z : Forest) (us rest : List Token)
    → is_owner own.kind own.asks form ≡ true → Fits grammar form x z us rest → (o : Forest) × (z ≡ tree own.kind o done)
owner_seals grammar own (seal a) x _ _ rest is sealed = (x, ap (λ w. tree w x done) (same_kind-equal a own.kind is))
owner_seals grammar own (f then g) x z _ rest is (behind {y = y} {us = us} {vs = vs} h t) =
    owner_seals grammar own g y z vs rest (and_parts (is_clear own.kind own.asks f) (is_owner own.kind own.asks g) is).1 t
owner_seals grammar own _ x z us rest is f = absurd (cc)

pub goal_spelled : {Goal : Type 0} (grammar : Productions Goal) (asked : Goal) (y : Forest) (us rest : List Token) → Fits grammar (grammar asked) done y us rest → spell y ≡ us
goal_spelled grammar asked y us rest f = let a = at_some_level grammar asked y us rest f in goals_spell grammar a.0 asked y us rest a.1

-- a replaced node, asked for by a goal that owns it
put_anew : {Goal : Type 0} (grammar : Productions Goal) (own : Own Goal) (asked : Goal) (o w : Forest) (us rest ahead : List Token)
    → own.owns asked ≡ true → spell (tree own.kind o done) ≡ us → Replaced grammar own own.kind o w → IsPlaced grammar own (grammar asked) done w us rest ahead
put_anew grammar own asked o w us rest ahead owned spelling r =
    let opens : begins_open us ≡ true = ap begins_open (sym spelling ∙ append-nil (spell o)) ∙ r.old_open in
    record {
      before = done;
      tokens = spell r.new;
      puts = no_tree;
      fits = subst (λ v. Fits grammar (grammar asked) done v (spell r.new) ahead) (sym r.is) (r.fits asked ahead owned);
      alike = alike_open us (spell r.new) rest ahead opens r.new_open;
    }

-- what a goal makes is put beside what is made
beside : {Goal : Type 0} (grammar : Productions Goal) (own : Own Goal) (form : Form Goal) (step : Form Goal) (x y w : Forest) (us rest ahead : List Token)
    → ((v u : Forest) (vs : List Token) → Fits grammar form done u vs ahead → Fits grammar step v (join v u) vs ahead)
    → (s : Split grammar own x y w) → IsPlaced grammar own form done s.last us rest ahead → IsPlaced grammar own step x w us rest ahead
beside grammar own form step x y w us rest ahead rule s r = record {
  before = s.front;
  tokens = r.tokens;
  puts = s.front_put;
  fits = subst (λ v. Fits grammar step s.front v r.tokens ahead) (sym s.is)
      (rule s.front s.last r.tokens
      (subst (λ v. Fits grammar form v s.last r.tokens ahead) (same_nothing grammar own r.before r.puts) r.fits));
  alike = r.alike;
}

-- one step behind another
after : {Goal : Type 0} (grammar : Productions Goal) (own : Own Goal) (f g step : Form Goal) (x w : Forest) (us vs rest ahead : List Token)
    → ((v y : Forest) (ts ws : List Token) → Fits grammar f v y ts (ws ++ ahead) → Fits grammar g y w ws ahead → Fits grammar step v w (ts ++ ws) ahead)
    → (r : IsPlaced grammar own g x w vs rest ahead) → (y : Forest) → IsPlaced grammar own f y r.before us (vs ++ rest) (r.tokens ++ ahead)
    → IsPlaced grammar own step y w (us ++ vs) rest ahead
after grammar own f g step x w us vs rest ahead rule r y q = record {
  before = q.before;
  tokens = q.tokens ++ r.tokens;
  puts = q.puts;
  fits = rule q.before r.before q.tokens r.tokens q.fits r.fits;
  alike = subst (λ m. Alike m ((q.tokens ++ r.tokens) ++ ahead)) (sym (append_assoc us vs rest))
      (subst (λ m. Alike (us ++ (vs ++ rest)) m) (sym (append_assoc q.tokens r.tokens ahead)) q.alike);
}

-- a step that takes nothing and makes nothing
stays : {Goal : Type 0} (grammar : Productions Goal) (own : Own Goal) (form : Form Goal) (x w : Forest) (rest ahead : List Token)
    → Puts grammar own x w → Alike rest ahead → Fits grammar form w w [] ahead → IsPlaced grammar own form x w [] rest ahead
stays grammar own form x w rest ahead p alike f = record { before = w; tokens = []; puts = p; fits = f; alike = alike }

as_step : {Goal : Type 0} (grammar : Productions Goal) (own : Own Goal) (form step : Form Goal) (x w : Forest) (us rest ahead : List Token)
    → ((v : Forest) (ts : List Token) → Fits grammar form v w ts ahead → Fits grammar step v w ts ahead)
    → IsPlaced grammar own form x w us rest ahead → IsPlaced grammar own step x w us rest ahead
as_step grammar own form step x w us rest ahead rule r =
    record { before = r.before; tokens = r.tokens; puts = r.puts; fits = rule r.before r.tokens r.fits; alike = r.alike }

mutual
  pub placed : {Goal : Type 0} (grammar : Productions Goal) (own : Own Goal) → Owned grammar own
      → (form : Form Goal) (x z : Forest) (us rest : List Token) → is_clear own.kind own.asks form ≡ true → keeps_opens (us ++ rest) ≡ true → (w : Forest)
      → Puts grammar own z w → (ahead : List Token) → Alike rest ahead → Fits grammar form x z us rest → IsPlaced grammar own form x w us rest ahead
  placed grammar own owned (one whole ks) x _ _ rest clear keeps w p ahead alike (token {t = t} {us = us} is n) =
      let l : Forest = leaf (taken_as whole t) (t ∷ us) done in
      let s = split grammar own x l w p in
      record {
        before = s.front;
        tokens = t ∷ us;
        puts = s.front_put;
        fits = subst (λ v. Fits grammar (one whole ks) s.front v (t ∷ us) ahead)
            (sym (s.is ∙ ap (join s.front) (same_token grammar own (taken_as whole t) (t ∷ us) s.last s.last_put))) (token is n);
        alike = alike_front (t ∷ us) rest ahead keeps alike;
      }
  placed grammar own owned (child asked) x _ us rest clear keeps w p ahead alike (goal {y = y} f) =
      let s = split grammar own x y w p in
      let inner : IsPlaced grammar own (grammar asked) done s.last us rest ahead = elim (cases_Bool (own.owns asked)) [
        | inl mine ↦
            let seal_is = owner_seals grammar own (grammar asked) done y us rest (owned.owners asked mine) f in
            elim (node_cases grammar own own.kind seal_is.0 s.last (subst (λ v. Puts grammar own v s.last) seal_is.1 s.last_put)) [
              | inl stay ↦
                  subst (λ v. IsPlaced grammar own (grammar asked) done v us rest ahead) (sym stay.is)
                  (owned_placed grammar own owned (grammar asked) done y us rest (owned.owners asked mine) keeps seal_is.0 seal_is.1 stay.inner stay.inner_put ahead alike f)
              | inr (same, new) ↦
                  put_anew grammar own asked seal_is.0 s.last us rest ahead mine (ap spell (sym seal_is.1) ∙ goal_spelled grammar asked y us rest f) new
            ]
        | inr other ↦ placed grammar own owned (grammar asked) done y us rest (owned.others asked other) keeps s.last s.last_put ahead alike f
      ] in
      beside grammar own (grammar asked) (child asked) x y w us rest ahead (λ v u vs h. goal h) s inner
  placed grammar own owned (mark f) x _ us rest clear keeps w p ahead alike (marked {y = y} h) =
      let s = split grammar own x y w p in
      beside grammar own f (mark f) x y w us rest ahead (λ v u vs g. marked g) s
      (placed grammar own owned f done y us rest clear keeps s.last s.last_put ahead alike h)
  placed grammar own owned (seal a) x _ _ rest clear keeps w p ahead alike sealed =
      let stay = other_kept grammar own a x w clear p in
      record {
        before = stay.inner;
        tokens = [];
        puts = stay.inner_put;
        fits = subst (λ v. Fits grammar (seal a) stay.inner v [] ahead) (sym stay.is) sealed;
        alike = alike;
      }
  placed grammar own owned (f then g) x z _ rest clear keeps w p ahead alike (behind {y = y} {us = us} {vs = vs} h t) =
      let halves = and_parts (is_clear own.kind own.asks f) (is_clear own.kind own.asks g) clear in
      let all : keeps_opens (us ++ (vs ++ rest)) ≡ true = ap keeps_opens (sym (append_assoc us vs rest)) ∙ keeps in
      let r = placed grammar own owned g y z vs rest halves.1 (keeps_opens_behind us (vs ++ rest) all) w p ahead alike t in
      after grammar own f g (f then g) y w us vs rest ahead (λ v m ts ws a b. behind a b) r x
      (placed grammar own owned f x y us (vs ++ rest) halves.0 all r.before r.puts (r.tokens ++ ahead) r.alike h)
  placed grammar own owned nothing x _ _ rest clear keeps w p ahead alike none = stays grammar own nothing x w rest ahead p alike none
  placed grammar own owned (choose test f g) x z us rest clear keeps w p ahead alike (first h) =
      as_step grammar own f (choose test f g) x w us rest ahead (λ v ts a. first a)
      (placed grammar own owned f x z us rest (and_parts (is_clear own.kind own.asks f) (is_clear own.kind own.asks g) clear).0 keeps w p ahead alike h)
  placed grammar own owned (choose test f g) x z us rest clear keeps w p ahead alike (second h) =
      as_step grammar own g (choose test f g) x w us rest ahead (λ v ts a. second a)
      (placed grammar own owned g x z us rest (and_parts (is_clear own.kind own.asks f) (is_clear own.kind own.asks g) clear).1 keeps w p ahead alike h)
  placed grammar own owned (many test f) x _ _ rest clear keeps w p ahead alike stop = stays grammar own (many test f) x w rest ahead p alike stop
  placed grammar own owned (many test f) x z _ rest clear keeps w p ahead alike (turn {y = y} {us = us} {vs = vs} h t) =
      let all : keeps_opens (us ++ (vs ++ rest)) ≡ true = ap keeps_opens (sym (append_assoc us vs rest)) ∙ keeps in
      let r = placed grammar own owned (many test f) y z vs rest clear (keeps_opens_behind us (vs ++ rest) all) w p ahead alike t in
      after grammar own f (many test f) (many test f) y w us vs rest ahead (λ v m ts ws a b. turn a b) r x
      (placed grammar own owned f x y us (vs ++ rest) clear all r.before r.puts (r.tokens ++ ahead) r.alike h)
  placed grammar own owned (look want test) x _ _ rest clear keeps w p ahead alike (looked h) =
      stays grammar own (look want test) x w rest ahead p alike
      (looked (ap (λ b. agrees want b) (sym (test_alike test rest ahead clear alike)) ∙ h))
  placed grammar own owned (check condition) x _ _ rest clear keeps w p ahead alike (checked h) =
      stays grammar own (check condition) x w rest ahead p alike (checked (condition_kept grammar own condition x w clear p h))
  placed grammar own owned (wide f g) x z us rest clear keeps w p ahead alike (stated h) =
      as_step grammar own g (wide f g) x w us rest ahead (λ v ts a. stated a)
      (placed grammar own owned g x z us rest clear keeps w p ahead alike h)

  pub owned_placed : {Goal : Type 0} (grammar : Productions Goal) (own : Own Goal) → Owned grammar own
      → (form : Form Goal) (x z : Forest) (us rest : List Token) → is_owner own.kind own.asks form ≡ true → keeps_opens (us ++ rest) ≡ true → (o : Forest)
      → z ≡ tree own.kind o done → (inner : Forest) → Puts grammar own o inner → (ahead : List Token) → Alike rest ahead → Fits grammar form x z us rest
      → IsPlaced grammar own form x (tree own.kind inner done) us rest ahead
  owned_placed grammar own owned (seal a) x _ _ rest is keeps o e inner p ahead alike sealed =
      let same : x ≡ o = cc in
      record {
        before = inner;
        tokens = [];
        puts = subst (λ v. Puts grammar own v inner) (sym same) p;
        fits = subst (λ b. Fits grammar (seal a) inner (tree b inner done) [] ahead) (same_kind-equal a own.kind is) sealed;
        alike = alike;
      }
  owned_placed grammar own owned (f then g) x z _ rest is keeps o e inner p ahead alike (behind {y = y} {us = us} {vs = vs} h t) =
      let halves = and_parts (is_clear own.kind own.asks f) (is_owner own.kind own.asks g) is in
      let all : keeps_opens (us ++ (vs ++ rest)) ≡ true = ap keeps_opens (sym (append_assoc us vs rest)) ∙ keeps in
      let r = owned_placed grammar own owned g y z vs rest halves.1 (keeps_opens_behind us (vs ++ rest) all) o e inner p ahead alike t in
      after grammar own f g (f then g) y (tree own.kind inner done) us vs rest ahead (λ v m ts ws a b. behind a b) r x
      (placed grammar own owned f x y us (vs ++ rest) halves.0 all r.before r.puts (r.tokens ++ ahead) r.alike h)
  owned_placed grammar own owned _ x z us rest is keeps o e inner p ahead alike f = absurd (cc)

-- ** Goals.

-- a goal that owns none of the nodes, or none in whose place another one stands at the top
pub goal_placed : {Goal : Type 0} (grammar : Productions Goal) (own : Own Goal) → Owned grammar own → (asked : Goal) (z w : Forest) (us rest ahead : List Token)
    → keeps_opens (us ++ rest) ≡ true → Alike rest ahead → Fits grammar (grammar asked) done z us rest → Puts grammar own z w
    → IsPlaced grammar own (child asked) done w us rest ahead
goal_placed grammar own owned asked z w us rest ahead keeps alike f p =
    placed grammar own owned (child asked) done z us rest refl keeps w p ahead alike (goal f)

asked_of : {Goal : Type 0} (grammar : Productions Goal) (asked : Goal) (x z : Forest) (us rest : List Token) → x ≡ done → Fits grammar (child asked) x z us rest
    → Fits grammar (grammar asked) done z us rest
asked_of grammar asked x _ us rest e (goal {y = y} f) = subst (λ v. Fits grammar (grammar asked) done (join v y) us rest) (sym e) f

pub made_anew : {Goal : Type 0} (grammar : Productions Goal) (own : Own Goal) → Owned grammar own → (asked : Goal) (z w : Forest) (us rest ahead : List Token)
    → keeps_opens (us ++ rest) ≡ true → Alike rest ahead → Fits grammar (grammar asked) done z us rest → Puts grammar own z w
    → Fits grammar (grammar asked) done w (spell w) ahead
made_anew grammar own owned asked z w us rest ahead keeps alike f p =
    let r = goal_placed grammar own owned asked z w us rest ahead keeps alike f p in
    let fits = asked_of grammar asked r.before w r.tokens ahead (same_nothing grammar own r.before r.puts) r.fits in
    subst (λ m. Fits grammar (grammar asked) done w m ahead) (sym (goal_spelled grammar asked w r.tokens ahead fits)) fits
