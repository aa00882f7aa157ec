-- Identifiers stand alone in what fits a goal, but for the nodes that mix them with other tokens.
use Rattle.std.proofs.Common.{◌≡◌, ℕ, zero, suc, Bool, true, false, not, ◌||◌, ◌&&◌, if◌then◌else◌, List, [], ◌∷◌, ◌++◌, Option, Some, None, inl, inr, refl, sym, ap, subst, ◌∙◌}
use Rattle.std.specs.Prelude.{⊤}
use Rattle.std.specs.Option.{option_and_then}
use Rattle.std.proofs.lemmas.Bool.{cases_Bool, and_parts, or_parts}
use Rattle.ssr_syntax_kinds.specs.declared.reach.Reach.{Reach}
use Rattle.ssr_syntax_kinds.specs.declared.kinds.SyntaxKind.{SyntaxKind}
use Rattle.ssr_syntax_kinds.specs.declared.kinds.SyntaxKind.TheVariants.{IDENT}
use Rattle.ssr_syntax_forms.specs.Kinds.{mem}
use Rattle.ssr_syntax_forms.specs.declared.tokens.Token.{Token}
use Rattle.ssr_syntax_types.specs.declared.goals.Goal.{Goal}
use Rattle.ssr_syntax_forms.specs.Trees.{Forest, done, leaf, tree, join}
use Rattle.ssr_syntax_forms.specs.Forms.{Form, one, child, mark, seal, ◌then◌, nothing, choose, many, look, check, wide, taken_as}
use Rattle.ssr_syntax.proofs.Operands.{went}
use Rattle.ssr_syntax.specs.Grammar.{grammar_of}
use Rattle.ssr_syntax_kinds.specs.Kinds.{is_ident}
use Rattle.ssr_syntax.specs.Identifiers.{is_mixing}
use Rattle.ssr_syntax_forms.proofs.Shared.{FitsBelow, Step, Repeats, FitsForm, FitsGoal, meets, apart, one_taken}

-- one of the trees is an identifier
abbrev pub shows : Forest → Bool
shows done = false
shows (leaf kind us x) = is_ident kind || shows x
shows (tree kind kids x) = shows x

-- one token, or no identifier
abbrev pub lone : Forest → Bool
lone (leaf kind us done) = true
lone x = not (shows x)

-- below each node but the mixing ones
abbrev pub AllLone : Forest → Type 0
AllLone done = ⊤
AllLone (leaf kind us x) = AllLone x
AllLone (tree kind kids x) = ((is_mixing kind || lone kids) ≡ true) × AllLone kids × AllLone x

shows_join : (x y : Forest) → shows x ≡ false → shows y ≡ false → shows (join x y) ≡ false
shows_join done y h k = k
shows_join (leaf kind us x) y h k =
    let n = or_parts (is_ident kind) (shows x) h in ap (λ b. b || shows (join x y)) n.0 ∙ shows_join x y n.1 k
shows_join (tree kind kids x) y h k = shows_join x y h k

lone_join : (x y : Forest) → AllLone x → AllLone y → AllLone (join x y)
lone_join done y h k = k
lone_join (leaf kind us x) y h k = lone_join x y h k
lone_join (tree kind kids x) y h k = (h.0, h.1, lone_join x y h.2 k)

lone_clean : (x : Forest) → shows x ≡ false → lone x ≡ true
lone_clean done h = refl
lone_clean (leaf kind us done) h = refl
lone_clean (leaf kind us (leaf k vs x)) h = ap not h
lone_clean (leaf kind us (tree k kids x)) h = ap not h
lone_clean (tree kind kids x) h = ap not h

-- A sketch of what is made since the mark: nothing; no identifier; one token, or no identifier; anything.
pub data Sketch : Type 0 where
  empty : Sketch
  clean : Sketch
  either : Sketch
  crowded : Sketch

abbrev Stands : Sketch → Forest → Type 0
Stands empty x = x ≡ done
Stands clean x = shows x ≡ false
Stands either x = lone x ≡ true
Stands crowded x = ⊤

abbrev IsAt : Sketch → Forest → Type 0
IsAt p x = Stands p x × AllLone x

-- behind a node, or a token that is no identifier, that is put beside it
abbrev behind_other : Sketch → Sketch
behind_other empty = clean
behind_other clean = clean
behind_other either = crowded
behind_other crowded = crowded

-- behind a token that may be an identifier or may not
abbrev behind_token : Bool → Sketch → Sketch
behind_token true empty = either
behind_token true clean = crowded
behind_token true either = crowded
behind_token true crowded = crowded
behind_token false p = behind_other p

-- put into a node, which mixes or doesn't
abbrev sealed : Bool → Sketch → Option Sketch
sealed true p = Some clean
sealed false empty = Some clean
sealed false clean = Some clean
sealed false either = Some clean
sealed false crowded = None

abbrev wider : Sketch → Sketch → Sketch
wider empty q = q
wider clean empty = clean
wider clean q = q
wider either crowded = crowded
wider either q = either
wider crowded q = crowded

abbrev wider_of : Option Sketch → Option Sketch → Option Sketch
wider_of (Some p) (Some q) = Some (wider p q)
wider_of (Some p) None = None
wider_of None q = None

abbrev pub is_clean : Option Sketch → Bool
is_clean None = false
is_clean (Some empty) = true
is_clean (Some clean) = true
is_clean (Some either) = false
is_clean (Some crowded) = false

-- behind any number of turns: no identifier, if that stays so; else anything, if no turn fails
abbrev turned : Bool → Option Sketch → Option Sketch
turned true o = Some clean
turned false None = None
turned false (Some p) = Some crowded

abbrev pub sketch_behind : Form Goal → Sketch → Option Sketch
sketch_behind (one whole ks) p = Some (behind_token (meets ks (IDENT ∷ [])) p)
sketch_behind (child goal) p = Some (behind_other p)
sketch_behind (mark f) p = if is_clean (sketch_behind f empty) then Some (behind_other p) else None
sketch_behind (seal kind) p = sealed (is_mixing kind) p
sketch_behind (f then g) p = option_and_then (sketch_behind g) (sketch_behind f p)
sketch_behind nothing p = Some p
sketch_behind (choose test f g) p = wider_of (sketch_behind f p) (sketch_behind g p)
sketch_behind (many test f) p = turned (is_clean (Some p) && is_clean (sketch_behind f clean)) (sketch_behind f crowded)
sketch_behind (look want test) p = Some p
sketch_behind (check condition) p = Some p
sketch_behind (wide f g) p = sketch_behind g p

one_sketch : {p q : Sketch} → ◌≡◌ {A = Option Sketch} (Some p) (Some q) → p ≡ q
one_sketch e = cc

at_sketch : (p q : Sketch) (x : Forest) → ◌≡◌ {A = Option Sketch} (Some p) (Some q) → IsAt p x → IsAt q x
at_sketch p q x e at = subst (λ r. IsAt r x) (one_sketch e) at

beside : (p : Sketch) (x y z : Forest) → z ≡ join x y → IsAt p x → shows y ≡ false → AllLone y → IsAt (behind_other p) z
beside empty x y z same at none all =
    subst (IsAt clean) (sym same) (shows_join x y (ap shows at.0) none, lone_join x y at.1 all)
beside clean x y z same at none all = subst (IsAt clean) (sym same) (shows_join x y at.0 none, lone_join x y at.1 all)
beside either x y z same at none all = subst (IsAt crowded) (sym same) (tt, lone_join x y at.1 all)
beside crowded x y z same at none all = subst (IsAt crowded) (sym same) (tt, lone_join x y at.1 all)

pub not_ident : (kind : SyntaxKind) → mem kind (IDENT ∷ []) ≡ false → is_ident kind ≡ false
not_ident IDENT h = cc
not_ident _ h = refl

token_beside : (b : Bool) (p : Sketch) (x z : Forest) (kind : SyntaxKind) (us : List Token) → (b ≡ false → is_ident kind ≡ false)
    → z ≡ join x (leaf kind us done) → IsAt p x → IsAt (behind_token b p) z
token_beside true empty x z kind us none same at =
    subst (IsAt either) (sym (same ∙ ap (λ w. join w (leaf kind us done)) at.0)) (refl, tt)
token_beside true clean x z kind us none same at = subst (IsAt crowded) (sym same) (tt, lone_join x (leaf kind us done) at.1 tt)
token_beside true either x z kind us none same at = subst (IsAt crowded) (sym same) (tt, lone_join x (leaf kind us done) at.1 tt)
token_beside true crowded x z kind us none same at = subst (IsAt crowded) (sym same) (tt, lone_join x (leaf kind us done) at.1 tt)
token_beside false p x z kind us none same at =
    beside p x (leaf kind us done) z same at (ap (λ b. b || false) (none refl)) tt

-- a node may be made of it
may_seal : (mixing : Bool) (p q : Sketch) (x : Forest) → sealed mixing p ≡ Some q → Stands p x → (clean ≡ q) × ((mixing || lone x) ≡ true)
may_seal true p q x e s = (one_sketch e, refl)
may_seal false empty q x e s = (one_sketch e, ap lone s)
may_seal false clean q x e s = (one_sketch e, lone_clean x s)
may_seal false either q x e s = (one_sketch e, s)
may_seal false crowded q x e s = cc

cleaned : (o : Option Sketch) → is_clean o ≡ true → (p : Sketch) × (o ≡ Some p) × ((x : Forest) → Stands p x → shows x ≡ false)
cleaned None e = cc
cleaned (Some empty) e = (empty, refl, λ x s. ap shows s)
cleaned (Some clean) e = (clean, refl, λ x s. s)
cleaned (Some either) e = cc
cleaned (Some crowded) e = cc

clean_at : (p : Sketch) (x : Forest) → is_clean (Some p) ≡ true → IsAt p x → IsAt clean x
clean_at empty x e at = (ap shows at.0, at.1)
clean_at clean x e at = at
clean_at either x e at = cc
clean_at crowded x e at = cc

pub under : {X : Type 0} (b : Bool) (o : Option X) (q : X) → (if b then o else None) ≡ Some q → (b ≡ true) × (o ≡ Some q)
under true o q e = (refl, e)
under false o q e = cc

abbrev AreBoth : Option Sketch → Option Sketch → Sketch → Type 0
AreBoth o u q = (a : Sketch) × (b : Sketch) × (o ≡ Some a) × (u ≡ Some b) × (wider a b ≡ q)

are_both : (o u : Option Sketch) (q : Sketch) → wider_of o u ≡ Some q → AreBoth o u q
are_both (Some a) (Some b) q e = (a, b, refl, refl, one_sketch e)
are_both (Some a) None q e = cc
are_both None u q e = cc

from_empty : (b : Sketch) (x : Forest) → x ≡ done → Stands b x
from_empty empty x s = s
from_empty clean x s = ap shows s
from_empty either x s = ap lone s
from_empty crowded x s = tt

from_clean : (b : Sketch) (x : Forest) → shows x ≡ false → Stands (wider clean b) x
from_clean empty x s = s
from_clean clean x s = s
from_clean either x s = lone_clean x s
from_clean crowded x s = tt

wider_left : (a b : Sketch) (x : Forest) → Stands a x → Stands (wider a b) x
wider_left empty b x s = from_empty b x s
wider_left clean b x s = from_clean b x s
wider_left either empty x s = s
wider_left either clean x s = s
wider_left either either x s = s
wider_left either crowded x s = tt
wider_left crowded b x s = tt

wider_right : (a b : Sketch) (x : Forest) → Stands b x → Stands (wider a b) x
wider_right empty b x s = s
wider_right clean empty x s = ap shows s
wider_right clean clean x s = s
wider_right clean either x s = s
wider_right clean crowded x s = tt
wider_right either empty x s = ap lone s
wider_right either clean x s = lone_clean x s
wider_right either either x s = s
wider_right either crowded x s = tt
wider_right crowded b x s = tt

-- what each turn keeps
pub repeats_at : (P : Forest → Type 0) (step : Step) → ((x z : Forest) (us rest : List Token) → step x z us rest → P x → P z)
    → (n : ℕ) (x z : Forest) (us rest : List Token) → Repeats n step x z us rest → P x → P z
repeats_at P step on zero x z us rest f at = subst P (sym f.1) at
repeats_at P step on (suc n) x z us rest f at =
    repeats_at P step on n f.0 z f.2 rest f.5 (on x f.0 f.1 (f.2 ++ rest) f.4 at)

some_turn : (b : Bool) (o : Option Sketch) (q : Sketch) → b ≡ false → turned b o ≡ Some q → (m : Sketch) × (o ≡ Some m) × (crowded ≡ q)
some_turn true o q off e = cc
some_turn false None q off e = cc
some_turn false (Some m) q off e = (m, refl, one_sketch e)

-- what fits a goal is no identifier, and has them alone
abbrev pub AloneBelow : FitsBelow Goal → Type 0
AloneBelow fits = (goal : Goal) (y : Forest) (us rest : List Token) → fits goal y us rest → (shows y ≡ false) × AllLone y

keeps : (fits : FitsBelow Goal) → AloneBelow fits → (form : Form Goal) (p q : Sketch) → sketch_behind form p ≡ Some q
    → (x z : Forest) (us rest : List Token) → FitsForm fits form x z us rest → IsAt p x → IsAt q z
keeps fits h (one whole ks) p q e x z us rest f at =
    let b = meets ks (IDENT ∷ []) in
    let kind = taken_as whole f.0 in
    at_sketch (behind_token b p) q z e
    (token_beside b p x z kind (f.0 ∷ f.1) (λ none. not_ident kind (apart kind ks (IDENT ∷ []) none (one_taken whole ks f.0 f.3))) f.5 at)
keeps fits h (child goal) p q e x z us rest f at =
    let y = h goal f.0 us rest f.1 in at_sketch (behind_other p) q z e (beside p x f.0 z f.2 at y.0 y.1)
keeps fits h (mark g) p q e x z us rest f at =
    let w = under (is_clean (sketch_behind g empty)) (Some (behind_other p)) q e in
    let c = cleaned (sketch_behind g empty) w.0 in
    let y = keeps fits h g empty c.0 c.1 done f.0 us rest f.1 (refl, tt) in
    at_sketch (behind_other p) q z w.1 (beside p x f.0 z f.2 at (c.2 f.0 y.0) y.1)
keeps fits h (seal kind) p q e x z us rest f at =
    let s = may_seal (is_mixing kind) p q x e at.0 in
    subst (λ r. IsAt r z) s.0 (subst (IsAt clean) (sym f.1) (refl, (s.1, at.1, tt)))
keeps fits h (g then k) p q e x z us rest f at =
    let w = went (sketch_behind g p) (sketch_behind k) q e in
    keeps fits h k w.0 q w.2 f.0 z f.2 rest f.5 (keeps fits h g p w.0 w.1 x f.0 f.1 (f.2 ++ rest) f.4 at)
keeps fits h nothing p q e x z us rest f at = at_sketch p q z e (subst (IsAt p) (sym f.1) at)
keeps fits h (choose test g k) p q e x z us rest (inl f) at =
    let w = are_both (sketch_behind g p) (sketch_behind k p) q e in
    let y = keeps fits h g p w.0 w.2 x z us rest f at in
    subst (λ r. IsAt r z) w.4 (wider_left w.0 w.1 z y.0, y.1)
keeps fits h (choose test g k) p q e x z us rest (inr f) at =
    let w = are_both (sketch_behind g p) (sketch_behind k p) q e in
    let y = keeps fits h k p w.1 w.3 x z us rest f at in
    subst (λ r. IsAt r z) w.4 (wider_right w.0 w.1 z y.0, y.1)
keeps fits h (many test g) p q e x z us rest f at =
    elim (cases_Bool (is_clean (Some p) && is_clean (sketch_behind g clean))) [
      | inl stays ↦
          let both = and_parts (is_clean (Some p)) (is_clean (sketch_behind g clean)) stays in
          let c = cleaned (sketch_behind g clean) both.1 in
          let turn : (x z : Forest) (us rest : List Token) → FitsForm fits g x z us rest → IsAt clean x → IsAt clean z =
          λ x z us rest f at. (let y = keeps fits h g clean c.0 c.1 x z us rest f at in (c.2 z y.0, y.1)) in
          at_sketch clean q z (sym (ap (λ b. turned b (sketch_behind g crowded)) stays) ∙ e)
          (repeats_at (IsAt clean) (FitsForm fits g) turn f.0 x z us rest f.1 (clean_at p x both.0 at))
      | inr other ↦
          let m = some_turn (is_clean (Some p) && is_clean (sketch_behind g clean)) (sketch_behind g crowded) q other e in
          let turn : (x z : Forest) (us rest : List Token) → FitsForm fits g x z us rest → IsAt crowded x → IsAt crowded z =
          λ x z us rest f at. (tt, (keeps fits h g crowded m.0 m.1 x z us rest f at).1) in
          subst (λ r. IsAt r z) m.2 (repeats_at (IsAt crowded) (FitsForm fits g) turn f.0 x z us rest f.1 (tt, at.1))
    ]
keeps fits h (look want test) p q e x z us rest f at = at_sketch p q z e (subst (IsAt p) (sym f.1) at)
keeps fits h (check condition) p q e x z us rest f at = at_sketch p q z e (subst (IsAt p) (sym f.1) at)
keeps fits h (wide w v) p q e x z us rest f at = keeps fits h v p q e x z us rest f at

abbrev pub AllClean : Reach → Type 0
AllClean reach = (goal : Goal) → is_clean (sketch_behind (grammar_of reach goal) empty) ≡ true

pub goals_alone : (reach : Reach) → AllClean reach → (n : ℕ) → AloneBelow (FitsGoal (grammar_of reach) n)
unfolding FitsGoal
goals_alone reach all zero goal y us rest f = absurd f
goals_alone reach all (suc n) goal y us rest f =
    let c = cleaned (sketch_behind (grammar_of reach goal) empty) (all goal) in
    let z = keeps (FitsGoal (grammar_of reach) n) (goals_alone reach all n) (grammar_of reach goal) empty c.0 c.1 done y us rest f (refl, tt) in
    (c.2 y z.0, z.1)
