-- Which nodes have a token as a child that is only the first part of a joined one. All other nodes take their tokens whole.
use Rattle.std.proofs.Common.{◌≡◌, ◌-◌, nat_eq, Bool, true, false, not, ◌&&◌, ◌||◌, List, [], ◌∷◌, ◌++◌, length, ◌⊎◌, inl, inr, refl, sym, ap, subst, ◌∙◌, arith}
use Rattle.std.specs.Prelude.{⊤}
use Rattle.std.proofs.lemmas.Bool.{and_from, and_parts, eq-eqb, not-true, or_parts}
use Rattle.ssr_syntax_kinds.specs.declared.kinds.SyntaxKind.{SyntaxKind}
use Rattle.ssr_syntax_kinds.specs.declared.kinds.SyntaxKind.TheVariants as k
use Rattle.ssr_syntax_kinds.proofs.Shared.{equal-same_kind}
use Rattle.ssr_syntax_forms.specs.declared.tokens.Token.{Token}
use Rattle.ssr_syntax_forms.specs.Kinds.{mem}
use Rattle.ssr_syntax_forms.specs.Trees.{Forest, done, leaf, tree, join}
use Rattle.ssr_syntax_forms.specs.Forms.{Form, one, child, mark, seal, ◌then◌, nothing, choose, many, look, check, wide, Productions, is_one, more, taken_as}
use Rattle.ssr_syntax_forms.specs.Fitting.{Fits, token, goal, marked, sealed, behind, none, first, second, stop, turn, looked, checked, stated}
use Rattle.ssr_syntax_forms.proofs.Shared.{every}
use Rattle.ssr_syntax_types.specs.Types.{ampersands}
use Rattle.ssr_syntax_places.specs.Standing.{is_token}

-- ** Forms.

-- the parts that count, by the kinds that are asked for, and the nodes that may hold them
pub record Parts : Type 0 where
  pub counts : List SyntaxKind → Bool
  pub holds : SyntaxKind → Bool

-- whether what is made since the mark may have a part that counts among its siblings, where what was made before may
abbrev pub may_have : {Goal : Type 0} → Parts → Bool → Form Goal → Bool
may_have p before (one whole ks) = before || (not whole && p.counts ks)
may_have p before (child asked) = before
may_have p before (mark f) = before || may_have p false f
may_have p before (seal kind) = false
may_have p before (f then g) = may_have p (may_have p before f) g
may_have p before nothing = before
may_have p before (choose test f g) = may_have p before f || may_have p before g
may_have p before (many test f) = before || may_have p before f
may_have p before (look want test) = before
may_have p before (check condition) = before
may_have p before (wide f g) = may_have p before g

-- only nodes that may have such parts do
abbrev pub suits : {Goal : Type 0} → Parts → Bool → Form Goal → Bool
suits p before (one whole ks) = true
suits p before (child asked) = true
suits p before (mark f) = suits p false f
suits p before (seal kind) = not before || p.holds kind
suits p before (f then g) = suits p before f && suits p (may_have p before f) g
suits p before nothing = true
suits p before (choose test f g) = suits p before f && suits p before g
suits p before (many test f) = suits p (before || may_have p before f) f
suits p before (look want test) = true
suits p before (check condition) = true
suits p before (wide f g) = suits p before g

-- what is asked of each goal
abbrev pub keeps_parts : {Goal : Type 0} → Parts → Form Goal → Bool
keeps_parts p form = suits p false form && not (may_have p false form)

-- all parts count, but these nodes may hold them
abbrev pub any_part : Parts
any_part = record {
  counts = λ ks. true;
  holds = λ kind. mem kind (k.REF_EXPR ∷ k.REF_PAT ∷ k.REF_TYPE ∷ k.PARAM_LIST ∷ k.GENERIC_ARG_LIST ∷ k.GENERIC_PARAM_LIST ∷ k.USE_BOUND_GENERIC_ARGS
      ∷ k.PATH_SEGMENT ∷ k.TOKEN_TREE ∷ []);
}

-- no `&` counts
abbrev pub other_part : Parts
other_part = record {
  counts = λ ks. not (every (λ kind. mem kind ampersands) ks);
  holds = λ kind. mem kind (k.PARAM_LIST ∷ k.GENERIC_ARG_LIST ∷ k.GENERIC_PARAM_LIST ∷ k.USE_BOUND_GENERIC_ARGS ∷ k.PATH_SEGMENT ∷ k.TOKEN_TREE ∷ []);
}

-- ** Trees.

-- a token that is whole
abbrev pub IsWholeLeaf : SyntaxKind → List Token → Type 0
IsWholeLeaf kind us = is_token (kind ∷ []) us ≡ true

-- the first part of a token, of kinds that don't count
pub record IsPartLeaf (p : Parts) (kind : SyntaxKind) (us : List Token) : Type 0 where
  pub token : Token
  pub kinds : List SyntaxKind
  pub all : us ≡ token ∷ []
  pub own : kind ≡ token.kind
  pub joined : mem token.joined kinds ≡ true
  pub part : mem token.kind kinds ≡ true
  pub counts : p.counts kinds ≡ false

abbrev pub HasLeaves : Parts → Forest → Type 0
HasLeaves p done = ⊤
HasLeaves p (leaf kind us x) = (IsWholeLeaf kind us ⊎ IsPartLeaf p kind us) × HasLeaves p x
HasLeaves p (tree kind kids x) = HasLeaves p x

-- only nodes that may have parts that count do
abbrev pub HasParts : Parts → Forest → Type 0
HasParts p done = ⊤
HasParts p (leaf kind us x) = HasParts p x
HasParts p (tree kind kids x) = (p.holds kind ≡ false → HasLeaves p kids) × HasParts p kids × HasParts p x

-- ** What fits has such trees.

abbrev pub IsTold : Parts → Bool → Forest → Type 0
IsTold p may x = may ≡ false → HasLeaves p x

leaves_join : (p : Parts) (x y : Forest) → HasLeaves p x → HasLeaves p y → HasLeaves p (join x y)
leaves_join p done y h q = q
leaves_join p (leaf kind us x) y h q = (h.0, leaves_join p x y h.1 q)
leaves_join p (tree kind kids x) y h q = leaves_join p x y h q

parts_join : (p : Parts) (x y : Forest) → HasParts p x → HasParts p y → HasParts p (join x y)
parts_join p done y h q = q
parts_join p (leaf kind us x) y h q = parts_join p x y h q
parts_join p (tree kind kids x) y h q = (h.0, h.1, parts_join p x y h.2 q)

-- one token that is taken
taken_leaf : (p : Parts) (whole : Bool) (ks : List SyntaxKind) (t : Token) (us : List Token) → is_one whole ks t ≡ true → more whole t ≡ length us
    → (not whole && p.counts ks) ≡ false → IsWholeLeaf (taken_as whole t) (t ∷ us) ⊎ IsPartLeaf p (taken_as whole t) (t ∷ us)
taken_leaf p true ks t us is size e =
    inl (and_from (mem t.joined (t.joined ∷ [])) (nat_eq (t.size - 1) (length us))
    (ap (λ b. b || false) (equal-same_kind t.joined t.joined refl)) (eq-eqb (t.size - 1) (length us) size))
taken_leaf p false ks t [] is size e =
    let halves = and_parts (mem t.joined ks) (mem t.kind ks) is in
    inr (record { token = t; kinds = ks; all = refl; own = refl; joined = halves.0; part = halves.1; counts = e })
taken_leaf p false ks t (u ∷ us) is size e = absurd (omega (arith, size))

-- a loop goes on with what it may have made
loop_again : (p : Parts) {Goal : Type 0} (before : Bool) (f : Form Goal)
    → ((before || may_have p before f) || may_have p (before || may_have p before f) f) ≡ (before || may_have p before f)
loop_again p true f = refl
loop_again p false f = again (may_have p false f) refl where
  again : (b : Bool) → may_have p false f ≡ b → (b || may_have p b f) ≡ b
  again true e = refl
  again false e = e

less_told : (a b : Bool) → (a || b) ≡ false → a ≡ false
less_told a b e = (or_parts a b e).0

pub record IsMade (p : Parts) (may : Bool) (z : Forest) : Type 0 where
  pub told : IsTold p may z
  pub parts : HasParts p z

pub has_parts : {Goal : Type 0} (p : Parts) (grammar : Productions Goal) → ((asked : Goal) → keeps_parts p (grammar asked) ≡ true)
    → (before : Bool) (form : Form Goal) (x z : Forest) (us rest : List Token) → suits p before form ≡ true → IsTold p before x → HasParts p x
    → Fits grammar form x z us rest → IsMade p (may_have p before form) z
has_parts p grammar all before (one whole ks) x _ _ rest s h q (token {t = t} {us = us} is n) = record {
  told = λ e.
      let halves = or_parts before (not whole && p.counts ks) e in
      leaves_join p x (leaf (taken_as whole t) (t ∷ us) done) (h halves.0) (taken_leaf p whole ks t us is n halves.1, tt);
  parts = parts_join p x (leaf (taken_as whole t) (t ∷ us) done) q tt;
}
has_parts p grammar all before (child asked) x _ us rest s h q (goal {y = y} f) =
    let kept = and_parts (suits p false (grammar asked)) (not (may_have p false (grammar asked))) (all asked) in
    let made = has_parts p grammar all false (grammar asked) done y us rest kept.0 (λ e. tt) tt f in
    record {
      told = λ e. leaves_join p x y (h e) (made.told (not-true (may_have p false (grammar asked)) kept.1));
      parts = parts_join p x y q made.parts;
    }
has_parts p grammar all before (mark f) x _ us rest s h q (marked {y = y} m) =
    let made = has_parts p grammar all false f done y us rest s (λ e. tt) tt m in
    record {
      told = λ e. let halves = or_parts before (may_have p false f) e in leaves_join p x y (h halves.0) (made.told halves.1);
      parts = parts_join p x y q made.parts;
    }
has_parts p grammar all before (seal kind) x _ _ rest s h q sealed = record {
  told = λ e. tt;
  parts = (λ e. h (kept before kind s e), q, tt);
} where
  kept : (before : Bool) (kind : SyntaxKind) → (not before || p.holds kind) ≡ true → p.holds kind ≡ false → before ≡ false
  kept true kind is e = absurd (cc)
  kept false kind is e = refl
has_parts p grammar all before (f then g) x z _ rest s h q (behind {y = y} {us = us} {vs = vs} m n) =
    let halves = and_parts (suits p before f) (suits p (may_have p before f) g) s in
    let made = has_parts p grammar all before f x y us (vs ++ rest) halves.0 h q m in
    has_parts p grammar all (may_have p before f) g y z vs rest halves.1 made.told made.parts n
has_parts p grammar all before nothing x _ _ rest s h q none = record { told = h; parts = q }
has_parts p grammar all before (choose test f g) x z us rest s h q (first m) =
    let made = has_parts p grammar all before f x z us rest (and_parts (suits p before f) (suits p before g) s).0 h q m in
    record { told = λ e. made.told (or_parts (may_have p before f) (may_have p before g) e).0; parts = made.parts }
has_parts p grammar all before (choose test f g) x z us rest s h q (second m) =
    let made = has_parts p grammar all before g x z us rest (and_parts (suits p before f) (suits p before g) s).1 h q m in
    record { told = λ e. made.told (or_parts (may_have p before f) (may_have p before g) e).1; parts = made.parts }
has_parts p grammar all before (many test f) x _ _ rest s h q stop =
    record { told = λ e. h (less_told before (may_have p before f) e); parts = q }
has_parts p grammar all before (many test f) x z _ rest s h q (turn {y = y} {us = us} {vs = vs} m n) =
    let loop : Bool = before || may_have p before f in
    let again : (loop || may_have p loop f) ≡ loop = loop_again p before f in
    let made = has_parts p grammar all loop f x y us (vs ++ rest) s (λ e. h (less_told before (may_have p before f) e)) q m in
    let next = has_parts p grammar all loop (many test f) y z vs rest (subst (λ b. suits p b f ≡ true) (sym again) s)
    (λ e. made.told (or_parts loop (may_have p loop f) (again ∙ e)).1) made.parts n in
    record { told = λ e. next.told (again ∙ e); parts = next.parts }
has_parts p grammar all before (look want test) x _ _ rest s h q (looked m) = record { told = h; parts = q }
has_parts p grammar all before (check condition) x _ _ rest s h q (checked m) = record { told = h; parts = q }
has_parts p grammar all before (wide f g) x z us rest s h q (stated m) =
    let made = has_parts p grammar all before g x z us rest s h q m in record { told = made.told; parts = made.parts }
