-- What fits a goal has no nodes in a token tree but token trees, and a path's arguments begin with a token that is no
-- identifier.
use Rattle.std.proofs.Common.{◌≡◌, ℕ, zero, suc, Bool, true, false, not, ◌||◌, ◌&&◌, if◌then◌else◌, List, [], ◌∷◌, ◌++◌, Option, Some, None, inl, inr, refl, sym, ap, subst, ◌∙◌}
use Rattle.std.specs.Prelude.{⊤}
use Rattle.std.specs.Option.{option_and_then}
use Rattle.std.proofs.lemmas.Bool.{and_parts}
use Rattle.ssr_syntax_kinds.specs.declared.reach.Reach.{Reach}
use Rattle.ssr_syntax_kinds.specs.declared.kinds.SyntaxKind.{SyntaxKind}
use Rattle.ssr_syntax_kinds.specs.declared.kinds.SyntaxKind.TheVariants.{IDENT, TOKEN_TREE}
use Rattle.ssr_syntax_kinds.specs.Kinds.{same_kind, is_ident}
use Rattle.ssr_syntax_tree.specs.ClearPaths.{is_arguments}
use Rattle.ssr_syntax_forms.specs.declared.tokens.Token.{Token}
use Rattle.ssr_syntax_types.specs.declared.goals.Goal.{Goal}
use Rattle.ssr_syntax_types.specs.declared.goals.Goal.TheVariants.{TokenTree}
use Rattle.ssr_syntax_forms.specs.Trees.{Forest, done, leaf, tree, join}
use Rattle.ssr_syntax_forms.specs.Forms.{Form, one, child, mark, seal, ◌then◌, nothing, choose, many, look, check, wide, taken_as}
use Rattle.ssr_syntax.proofs.Operands.{went}
use Rattle.ssr_syntax.proofs.Identifiers.{under, not_ident, repeats_at}
use Rattle.ssr_syntax.specs.Grammar.{grammar_of}
use Rattle.ssr_syntax_forms.proofs.Shared.{FitsBelow, FitsForm, FitsGoal, meets, apart, one_taken}

-- each node among the trees is a token tree
abbrev pub are_trees : Forest → Bool
are_trees done = true
are_trees (leaf kind us x) = are_trees x
are_trees (tree kind kids x) = same_kind kind TOKEN_TREE && are_trees x

-- the first of the trees is a token that is no identifier
abbrev pub begins : Forest → Bool
begins done = false
begins (leaf kind us x) = not (is_ident kind)
begins (tree kind kids x) = false

-- or there is none
abbrev may_begin : Forest → Bool
may_begin done = true
may_begin (leaf kind us x) = not (is_ident kind)
may_begin (tree kind kids x) = false

-- a node of this kind may have these trees
abbrev pub may_have : SyntaxKind → Forest → Bool
may_have kind kids = (not (same_kind kind TOKEN_TREE) || are_trees kids) && (not (is_arguments kind) || begins kids)

-- each node has what it may have
abbrev pub AllClear : Forest → Type 0
AllClear done = ⊤
AllClear (leaf kind us x) = AllClear x
AllClear (tree kind kids x) = (may_have kind kids ≡ true) × AllClear kids × AllClear x

trees_join : (x y : Forest) → are_trees x ≡ true → are_trees y ≡ true → are_trees (join x y) ≡ true
trees_join done y h k = k
trees_join (leaf kind us x) y h k = trees_join x y h k
trees_join (tree kind kids x) y h k =
    let b = and_parts (same_kind kind TOKEN_TREE) (are_trees x) h in
    ap (λ b. b && are_trees (join x y)) b.0 ∙ trees_join x y b.1 k

clear_join : (x y : Forest) → AllClear x → AllClear y → AllClear (join x y)
clear_join done y h k = k
clear_join (leaf kind us x) y h k = clear_join x y h k
clear_join (tree kind kids x) y h k = (h.0, h.1, clear_join x y h.2 k)

-- ** A sketch of what is made since the mark.

-- What it begins with: such a token, if there is something; such a token; anything.
pub data Beginning : Type 0 where
  bare : Beginning
  signed : Beginning
  unknown : Beginning

-- and whether all its nodes are token trees
pub record Sketch : Type 0 where
  pub front : Beginning
  pub trees : Bool

abbrev sketch_of : Beginning → Bool → Sketch
sketch_of front trees = record { front = front; trees = trees }

abbrev pub nothing_yet : Sketch
nothing_yet = sketch_of bare true

abbrev HasFront : Beginning → Forest → Type 0
HasFront bare x = may_begin x ≡ true
HasFront signed x = begins x ≡ true
HasFront unknown x = ⊤

pub record IsAt (p : Sketch) (x : Forest) : Type 0 where
  pub fronts : HasFront p.front x
  pub trees : p.trees ≡ true → are_trees x ≡ true
  pub clear : AllClear x

-- one beside another
abbrev front_beside : Beginning → Beginning → Beginning
front_beside bare b = b
front_beside signed b = signed
front_beside unknown b = unknown

abbrev beside : Sketch → Sketch → Sketch
beside p q = sketch_of (front_beside p.front q.front) (p.trees && q.trees)

-- a token, which may be an identifier or may not
abbrev of_token : Bool → Sketch
of_token true = sketch_of unknown true
of_token false = sketch_of signed true

abbrev pub is_tree_goal : Goal → Bool
is_tree_goal TokenTree = true
is_tree_goal _ = false

abbrev of_goal : Goal → Sketch
of_goal goal = sketch_of unknown (is_tree_goal goal)

abbrev is_signed : Beginning → Bool
is_signed bare = false
is_signed signed = true
is_signed unknown = false

-- a node of this kind may have it
abbrev may_seal : SyntaxKind → Sketch → Bool
may_seal kind p = (not (same_kind kind TOKEN_TREE) || p.trees) && (not (is_arguments kind) || is_signed p.front)

abbrev wider_front : Beginning → Beginning → Beginning
wider_front bare bare = bare
wider_front bare signed = bare
wider_front bare unknown = unknown
wider_front signed bare = bare
wider_front signed signed = signed
wider_front signed unknown = unknown
wider_front unknown b = unknown

abbrev wider : Sketch → Sketch → Sketch
wider p q = sketch_of (wider_front p.front q.front) (p.trees && q.trees)

abbrev wider_of : Option Sketch → Option Sketch → Option Sketch
wider_of (Some p) (Some q) = Some (wider p q)
wider_of (Some p) None = None
wider_of None q = None

abbrev front_within : Beginning → Beginning → Bool
front_within bare bare = true
front_within bare signed = false
front_within bare unknown = true
front_within signed b = true
front_within unknown bare = false
front_within unknown signed = false
front_within unknown unknown = true

abbrev is_within : Sketch → Sketch → Bool
is_within p q = front_within p.front q.front && (not q.trees || p.trees)

-- behind any number of turns, if one more turn leaves it so
abbrev stays : Sketch → Option Sketch → Option Sketch
stays p None = None
stays p (Some q) = if is_within q p then Some p else None

abbrev pub sketch_behind : Form Goal → Sketch → Option Sketch
sketch_behind (one whole ks) p = Some (beside p (of_token (meets ks (IDENT ∷ []))))
sketch_behind (child goal) p = Some (beside p (of_goal goal))
sketch_behind (mark f) p = option_and_then (λ q. Some (beside p q)) (sketch_behind f nothing_yet)
sketch_behind (seal kind) p = if may_seal kind p then Some (sketch_of unknown (same_kind kind TOKEN_TREE)) else None
sketch_behind (f then g) p = option_and_then (sketch_behind g) (sketch_behind f p)
sketch_behind nothing p = Some p
sketch_behind (choose test f g) p = wider_of (sketch_behind f p) (sketch_behind g p)
sketch_behind (many test f) p =
    option_and_then (λ q. stays (wider p q) (sketch_behind f (wider p q))) (sketch_behind f p)
sketch_behind (look want test) p = Some p
sketch_behind (check condition) p = Some p
sketch_behind (wide f g) p = sketch_behind g p

-- what is asked of a goal: its form is clear, and it makes token trees alone, if it is said to
abbrev pub keeps_goal : Goal → Option Sketch → Bool
keeps_goal goal None = false
keeps_goal goal (Some p) = not (is_tree_goal goal) || p.trees

abbrev pub AllKept : Reach → Type 0
AllKept reach = (goal : Goal) → keeps_goal goal (sketch_behind (grammar_of reach goal) nothing_yet) ≡ true

-- ** The sketch is right.

one_sketch : {p q : Sketch} → ◌≡◌ {A = Option Sketch} (Some p) (Some q) → p ≡ q
one_sketch e = cc

at_sketch : (p q : Sketch) (x : Forest) → ◌≡◌ {A = Option Sketch} (Some p) (Some q) → IsAt p x → IsAt q x
at_sketch p q x e at = subst (λ r. IsAt r x) (one_sketch e) at

pub both : (a b : Bool) → a ≡ true → b ≡ true → (a && b) ≡ true
both a b h k = ap (λ c. c && b) h ∙ k

pub in_place : (a b c : Bool) → (a || b) ≡ true → (b ≡ true → c ≡ true) → (a || c) ≡ true
in_place true b c h on = refl
in_place false b c h on = on h

needed : (a b : Bool) → (not a || b) ≡ true → a ≡ true → b ≡ true
needed true b h e = h
needed false b h e = cc

nothing_at : IsAt nothing_yet done
nothing_at = record { fronts = refl; trees = λ h. refl; clear = tt }

with_sign : (a : Beginning) (kind : SyntaxKind) (us : List Token) (x : Forest) → not (is_ident kind) ≡ true → HasFront a (leaf kind us x)
with_sign bare kind us x h = h
with_sign signed kind us x h = h
with_sign unknown kind us x h = tt

fronts_beside : (a b : Beginning) (x y : Forest) → HasFront a x → HasFront b y → HasFront (front_beside a b) (join x y)
fronts_beside bare b done y h k = k
fronts_beside bare b (leaf kind us x) y h k = with_sign b kind us (join x y) h
fronts_beside bare b (tree kind kids x) y h k = cc
fronts_beside signed b done y h k = cc
fronts_beside signed b (leaf kind us x) y h k = h
fronts_beside signed b (tree kind kids x) y h k = cc
fronts_beside unknown b x y h k = tt

at_beside : (p q : Sketch) (x y z : Forest) → z ≡ join x y → IsAt p x → IsAt q y → IsAt (beside p q) z
at_beside p q x y z same at other =
    subst (IsAt (beside p q)) (sym same)
    (record {
      fronts = fronts_beside p.front q.front x y at.fronts other.fronts;
      trees = λ h. (let b = and_parts p.trees q.trees h in trees_join x y (at.trees b.0) (other.trees b.1));
      clear = clear_join x y at.clear other.clear;
    })

token_at : (b : Bool) (kind : SyntaxKind) (us : List Token) → (b ≡ false → is_ident kind ≡ false) → IsAt (of_token b) (leaf kind us done)
token_at true kind us none = record { fronts = tt; trees = λ h. refl; clear = tt }
token_at false kind us none = record { fronts = ap not (none refl); trees = λ h. refl; clear = tt }

signed_begins : (a : Beginning) (x : Forest) → HasFront a x → is_signed a ≡ true → begins x ≡ true
signed_begins bare x h is = cc
signed_begins signed x h is = h
signed_begins unknown x h is = cc

-- a node that may be made of it
sealed_at : (kind : SyntaxKind) (p : Sketch) (x : Forest) → may_seal kind p ≡ true → IsAt p x
    → IsAt (sketch_of unknown (same_kind kind TOKEN_TREE)) (tree kind x done)
sealed_at kind p x may at =
    let b = and_parts (not (same_kind kind TOKEN_TREE) || p.trees) (not (is_arguments kind) || is_signed p.front) may in
    let trees = in_place (not (same_kind kind TOKEN_TREE)) p.trees (are_trees x) b.0 at.trees in
    let front = in_place (not (is_arguments kind)) (is_signed p.front) (begins x) b.1 (signed_begins p.front x at.fronts) in
    record {
      fronts = tt;
      trees = λ h. ap (λ b. b && true) h;
      clear = (both (not (same_kind kind TOKEN_TREE) || are_trees x) (not (is_arguments kind) || begins x) trees front, at.clear, tt);
    }

sign_may_begin : (x : Forest) → begins x ≡ true → may_begin x ≡ true
sign_may_begin done h = refl
sign_may_begin (leaf kind us x) h = h
sign_may_begin (tree kind kids x) h = h

fronts_within : (a b : Beginning) (x : Forest) → front_within a b ≡ true → HasFront a x → HasFront b x
fronts_within bare bare x h is = is
fronts_within bare signed x h is = cc
fronts_within bare unknown x h is = tt
fronts_within signed bare x h is = sign_may_begin x is
fronts_within signed signed x h is = is
fronts_within signed unknown x h is = tt
fronts_within unknown bare x h is = cc
fronts_within unknown signed x h is = cc
fronts_within unknown unknown x h is = tt

at_within : (p q : Sketch) (x : Forest) → is_within p q ≡ true → IsAt p x → IsAt q x
at_within p q x h at =
    let b = and_parts (front_within p.front q.front) (not q.trees || p.trees) h in
    record {
      fronts = fronts_within p.front q.front x b.0 at.fronts;
      trees = λ is. at.trees (needed q.trees p.trees b.1 is);
      clear = at.clear;
    }

front_left : (a b : Beginning) → front_within a (wider_front a b) ≡ true
front_left bare bare = refl
front_left bare signed = refl
front_left bare unknown = refl
front_left signed b = refl
front_left unknown b = refl

front_right : (a b : Beginning) → front_within b (wider_front a b) ≡ true
front_right a signed = refl
front_right bare bare = refl
front_right bare unknown = refl
front_right signed bare = refl
front_right signed unknown = refl
front_right unknown bare = refl
front_right unknown unknown = refl

at_left : (p q : Sketch) (x : Forest) → IsAt p x → IsAt (wider p q) x
at_left p q x at = record {
  fronts = fronts_within p.front (wider_front p.front q.front) x (front_left p.front q.front) at.fronts;
  trees = λ h. at.trees (and_parts p.trees q.trees h).0;
  clear = at.clear;
}

at_right : (p q : Sketch) (x : Forest) → IsAt q x → IsAt (wider p q) x
at_right p q x at = record {
  fronts = fronts_within q.front (wider_front p.front q.front) x (front_right p.front q.front) at.fronts;
  trees = λ h. at.trees (and_parts p.trees q.trees h).1;
  clear = at.clear;
}

abbrev AreBoth : Option Sketch → Option Sketch → Sketch → Type 0
AreBoth o u q = (a : Sketch) × (b : Sketch) × (o ≡ Some a) × (u ≡ Some b) × (wider a b ≡ q)

are_both : (o u : Option Sketch) (q : Sketch) → wider_of o u ≡ Some q → AreBoth o u q
are_both (Some a) (Some b) q e = (a, b, refl, refl, one_sketch e)
are_both (Some a) None q e = cc
are_both None u q e = cc

stayed : (p : Sketch) (o : Option Sketch) (q : Sketch) → stays p o ≡ Some q
    → (r : Sketch) × (o ≡ Some r) × (is_within r p ≡ true) × (p ≡ q)
stayed p None q e = cc
stayed p (Some r) q e = let w = under (is_within r p) (Some p) q e in (r, refl, w.0, one_sketch w.1)

-- what fits a goal is clear, and a token tree where it is said to
abbrev pub ClearBelow : FitsBelow Goal → Type 0
ClearBelow fits = (goal : Goal) (y : Forest) (us rest : List Token) → fits goal y us rest → IsAt (of_goal goal) y

keeps : (fits : FitsBelow Goal) → ClearBelow fits → (form : Form Goal) (p q : Sketch) → sketch_behind form p ≡ Some q
    → (x z : Forest) (us rest : List Token) → FitsForm fits form x z us rest → IsAt p x → IsAt q z
keeps fits h (one whole ks) p q e x z us rest f at =
    let b = meets ks (IDENT ∷ []) in
    let kind = taken_as whole f.0 in
    let y = token_at b kind (f.0 ∷ f.1) (λ none. not_ident kind (apart kind ks (IDENT ∷ []) none (one_taken whole ks f.0 f.3))) in
    at_sketch (beside p (of_token b)) q z e (at_beside p (of_token b) x (leaf kind (f.0 ∷ f.1) done) z f.5 at y)
keeps fits h (child goal) p q e x z us rest f at =
    at_sketch (beside p (of_goal goal)) q z e (at_beside p (of_goal goal) x f.0 z f.2 at (h goal f.0 us rest f.1))
keeps fits h (mark g) p q e x z us rest f at =
    let w = went (sketch_behind g nothing_yet) (λ r. Some (beside p r)) q e in
    let y = keeps fits h g nothing_yet w.0 w.1 done f.0 us rest f.1 nothing_at in
    at_sketch (beside p w.0) q z w.2 (at_beside p w.0 x f.0 z f.2 at y)
keeps fits h (seal kind) p q e x z us rest f at =
    let node = sketch_of unknown (same_kind kind TOKEN_TREE) in
    let w = under (may_seal kind p) (Some node) q e in
    at_sketch node q z w.1 (subst (IsAt node) (sym f.1) (sealed_at kind p x w.0 at))
keeps fits h (g then k) p q e x z us rest f at =
    let w = went (sketch_behind g p) (sketch_behind k) q e in
    keeps fits h k w.0 q w.2 f.0 z f.2 rest f.5 (keeps fits h g p w.0 w.1 x f.0 f.1 (f.2 ++ rest) f.4 at)
keeps fits h nothing p q e x z us rest f at = at_sketch p q z e (subst (IsAt p) (sym f.1) at)
keeps fits h (choose test g k) p q e x z us rest (inl f) at =
    let w = are_both (sketch_behind g p) (sketch_behind k p) q e in
    subst (λ r. IsAt r z) w.4 (at_left w.0 w.1 z (keeps fits h g p w.0 w.2 x z us rest f at))
keeps fits h (choose test g k) p q e x z us rest (inr f) at =
    let w = are_both (sketch_behind g p) (sketch_behind k p) q e in
    subst (λ r. IsAt r z) w.4 (at_right w.0 w.1 z (keeps fits h k p w.1 w.3 x z us rest f at))
keeps fits h (many test g) p q e x z us rest f at =
    let w = went (sketch_behind g p) (λ r. stays (wider p r) (sketch_behind g (wider p r))) q e in
    let wide = wider p w.0 in
    let s = stayed wide (sketch_behind g wide) q w.2 in
    let turn : (x z : Forest) (us rest : List Token) → FitsForm fits g x z us rest → IsAt wide x → IsAt wide z =
    λ x z us rest f at. at_within s.0 wide z s.2 (keeps fits h g wide s.0 s.1 x z us rest f at) in
    subst (λ r. IsAt r z) s.3 (repeats_at (IsAt wide) (FitsForm fits g) turn f.0 x z us rest f.1 (at_left p w.0 x at))
keeps fits h (look want test) p q e x z us rest f at = at_sketch p q z e (subst (IsAt p) (sym f.1) at)
keeps fits h (check condition) p q e x z us rest f at = at_sketch p q z e (subst (IsAt p) (sym f.1) at)
keeps fits h (wide w v) p q e x z us rest f at = keeps fits h v p q e x z us rest f at

kept : (goal : Goal) (o : Option Sketch) → keeps_goal goal o ≡ true
    → (p : Sketch) × (o ≡ Some p) × ((not (is_tree_goal goal) || p.trees) ≡ true)
kept goal None e = cc
kept goal (Some p) e = (p, refl, e)

pub goals_clear : (reach : Reach) → AllKept reach → (n : ℕ) → ClearBelow (FitsGoal (grammar_of reach) n)
unfolding FitsGoal
goals_clear reach all zero goal y us rest f = absurd f
goals_clear reach all (suc n) goal y us rest f =
    let c = kept goal (sketch_behind (grammar_of reach goal) nothing_yet) (all goal) in
    let z = keeps (FitsGoal (grammar_of reach) n) (goals_clear reach all n) (grammar_of reach goal) nothing_yet c.0 c.1 done y us rest f nothing_at in
    record { fronts = tt; trees = λ is. z.trees (needed (is_tree_goal goal) c.0.trees c.2 is); clear = z.clear }
