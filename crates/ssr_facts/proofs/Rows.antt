-- Look-ups by keys that an order doesn't tell apart, and what a map has that is made of rows.
use Rattle.std.proofs.Common.{◌≡◌, List, [], ◌∷◌, ◌++◌, Bool, cond, true, false, Option, Some, None, refl, sym, ap, ◌∙◌, inl, inr}
use Rattle.std.proofs.lemmas.Bool.{cases_Bool}
use Rattle.std.proofs.lemmas.Map.Made.{lookup_key_passes}
use Rattle.std.specs.Prelude.{Vec, unwrap_or, if◌then◌else◌}
use Rattle.std.specs.Global.{Global}
use Rattle.std.specs.BTreeMap.{BTreeMap, get, is_at}
use Rattle.std.specs.Option.{option_or, option_map_or, is_some}
use Rattle.std.specs.Cmp.{IsTotalOrder, eq_by_cmp_equiv}
use Rattle.std.specs.Map.{lookup, lookup_key, IsKeyTest}
use Rattle.std.specs.Ordering.{is_eq, eq_by_cmp}
use Rattle.std.specs.declared.cmp.Ordering.{Ordering}
use Rattle.std.specs.declared.cmp.Ordering.TheVariants.{Less, Equal, Greater}
use Rattle.ssr_facts.specs.Grouping.{group_at}
use Rattle.ssr_facts.proofs.Lists.{option_or_none}

-- tests that agree find the same
pub lookup_alike : {K V : Type 0} (p q : K → Bool) → ((x : K) → p x ≡ q x) → (rows : List (K × V)) → lookup p rows ≡ lookup q rows
lookup_alike p q alike [] = refl
lookup_alike p q alike (row ∷ rows) =
    ap (λ b. cond b (Some row.1) (lookup p rows)) (alike row.0) ∙ ap (cond (q row.0) (Some row.1)) (lookup_alike p q alike rows)

is_eq-true : (o : Ordering) → is_eq o ≡ true → o ≡ Equal
is_eq-true Less e = cc
is_eq-true Equal e = refl
is_eq-true Greater e = cc

is_some-false : {V : Type 0} (o : Option V) → is_some o ≡ false → o ≡ None
is_some-false None e = refl
is_some-false (Some v) e = cc

option_or-some : {V : Type 0} (o other : Option V) → is_some o ≡ true → option_or o other ≡ o
option_or-some None other e = cc
option_or-some (Some v) other e = refl

-- where no key passes nothing is found
lookup_key-none : {K V : Type 0} (test : K → Bool) (rows : List (K × V)) → lookup_key test rows ≡ None → lookup test rows ≡ None
lookup_key-none test [] e = refl
lookup_key-none test (row ∷ rows) e = step (test row.0) e (lookup_key-none test rows)
  where
    step : (b : Bool) → cond b (Some row.0) (lookup_key test rows) ≡ None → (lookup_key test rows ≡ None → lookup test rows ≡ None)
        → cond b (Some row.1) (lookup test rows) ≡ None
    step true e later = cc
    step false e later = later e

-- not being told apart goes both ways
flipped : {K : Type 0} {R : K → K → Ordering} → IsTotalOrder R → (a b : K) → is_at (R a) b ≡ is_at (R b) a
flipped total a b = (eq_by_cmp_equiv total).symm a b

-- one row more: it counts where no row before it has its key
pub lookup_push : {K V : Type 0} (test : K → Bool) (rows : List (K × V)) (row : K × V)
    → lookup test (rows ++ row ∷ []) ≡ option_or (lookup test rows) (cond (test row.0) (Some row.1) None)
lookup_push test [] row = refl
lookup_push test (first ∷ rows) row =
    elim (test first.0) as (λ b. cond b (Some first.1) (lookup test (rows ++ row ∷ [])) ≡ option_or (cond b (Some first.1) (lookup test rows)) (cond (test row.0) (Some row.1) None)) [
      | true ↦ refl
      | false ↦ lookup_push test rows row
    ]

or_else_more : {V : Type 0} (found : Option V) (b : Bool) (value : V) (rest : Option V)
    → option_or found (cond b (Some value) rest) ≡ option_or (option_or found (cond b (Some value) None)) rest
or_else_more (Some first) b value rest = refl
or_else_more None true value rest = refl
or_else_more None false value rest = refl

module _ {K V : Type 0} {R : K → K → Ordering} (total : IsTotalOrder R) where
  -- keys that aren't told apart have the same value
  pub get_alike : (map : BTreeMap K V) (key other : K) → is_at (R key) other ≡ true → get R map other ≡ get R map key
  get_alike map key other same =
      lookup_alike (is_at (R other)) (is_at (R key)) (λ x. ap is_eq (sym (total.congr key other x (is_eq-true (R key other) same)))) map.entries

  -- a key that a map has goes on having what it has
  pub keeps_first : (map : BTreeMap K V) (key : K) (value : V) → is_some (get R map key) ≡ true
      → (q : K) → get R map q ≡ option_or (get R map q) (cond (is_at (R key) q) (Some value) None)
  keeps_first map key value has q =
      elim (cases_Bool (is_at (R key) q)) [
        | inl same ↦
            sym (option_or-some (get R map q) (cond (is_at (R key) q) (Some value) None) (ap is_some (get_alike map key q same) ∙ has))
        | inr other ↦
            sym (option_or_none (get R map q)) ∙ ap (λ b. option_or (get R map q) (cond b (Some value) None)) (sym other)
      ]

  -- and one that it has not is put in
  pub adds_first : (map more : BTreeMap K V) (key : K) (value : V) → is_some (get R map key) ≡ false
      → ((q : K) → get R more q ≡ cond (is_at (R key) q) (Some value) (get R map q))
      → (q : K) → get R more q ≡ option_or (get R map q) (cond (is_at (R key) q) (Some value) None)
  adds_first map more key value free puts q =
      puts q
      ∙ elim (cases_Bool (is_at (R key) q)) [
        | inl same ↦
            ap (λ b. cond b (Some value) (get R map q)) same
            ∙ ap (λ b. cond b (Some value) None) (sym same)
            ∙ ap (λ o. option_or o (cond (is_at (R key) q) (Some value) None)) (sym (get_alike map key q same ∙ is_some-false (get R map key) free))
        | inr other ↦
            ap (λ b. cond b (Some value) (get R map q)) other ∙ sym (option_or_none (get R map q))
            ∙ ap (λ b. option_or (get R map q) (cond b (Some value) None)) (sym other)
      ]

  -- what rows find first, or else the map, stays as it was where the last row is put into the map
  pub last_row_put : (map more : BTreeMap K V) (rows left all : List (K × V)) (key : K) (value : V) → rows ≡ left ++ (key, value) ∷ []
      → ((q : K) → get R more q ≡ cond (is_at (R key) q) (Some value) (get R map q))
      → ((q : K) → option_or (lookup (is_at (R q)) rows) (get R map q) ≡ lookup (is_at (R q)) all)
      → (q : K) → option_or (lookup (is_at (R q)) left) (get R more q) ≡ lookup (is_at (R q)) all
  last_row_put map more rows left all key value is puts says q =
      ap (option_or (lookup (is_at (R q)) left)) (puts q ∙ ap (λ b. cond b (Some value) (get R map q)) (flipped total key q))
      ∙ or_else_more (lookup (is_at (R q)) left) (is_at (R q) key) value (get R map q)
      ∙ ap (λ found. option_or found (get R map q)) (sym (lookup_push (is_at (R q)) left (key, value)))
      ∙ ap (λ rows. option_or (lookup (is_at (R q)) rows) (get R map q)) (sym is) ∙ says q

-- the list that a map has of each key, after the list of one key was taken out and put in again
pub group_more : {K V : Type 0} {R : K → K → Ordering} → IsTotalOrder R → (old without new : BTreeMap K (Vec V Global)) (key : K) (group : Vec V Global) (value : V)
    → ((q : K) → get R without q ≡ cond (is_at (R key) q) None (get R old q)) → ((q : K) → get R new q ≡ cond (is_at (R key) q) (Some group) (get R without q))
    → group.items ≡ group_at R old key ++ value ∷ [] → (q : K) → group_at R new q ≡ (if is_at (R key) q then group_at R old q ++ value ∷ [] else group_at R old q)
group_more {K} {V} {R} total old without new key group value takes puts is q =
    ap items (puts q) ∙ ap (λ o. items (cond (is_at (R key) q) (Some group) o)) (takes q)
    ∙ elim (cases_Bool (is_at (R key) q)) [
      | inl same ↦
          ap (λ b. items (cond b (Some group) (cond b None (get R old q)))) same
          ∙ is ∙ ap (λ o. items o ++ value ∷ []) (sym (get_alike total old key q same))
          ∙ ap (λ b. if b then group_at R old q ++ value ∷ [] else group_at R old q) (sym same)
      | inr other ↦
          ap (λ b. items (cond b (Some group) (cond b None (get R old q)))) other
          ∙ ap (λ b. if b then group_at R old q ++ value ∷ [] else group_at R old q) (sym other)
    ]
  where
    items : Option (Vec V Global) → List V
    items o = option_map_or (λ (group : Vec V Global). group.items) o []

-- a list that was taken out, or an empty one
pub items_or : {V : Type 0} (found : Option (Vec V Global)) (empty : Vec V Global) → empty.items ≡ []
    → (unwrap_or found empty).items ≡ option_map_or (λ group. group.items) found []
items_or None empty is = is
items_or (Some group) empty is = refl

-- a test of a key that rows have, or else of one that a map has, finds what the map and the rows have of that key
pub found_alike : {K V : Type 0} (R : K → K → Ordering) (map : BTreeMap K V) (rows : List (K × V)) → ((q : K) → get R map q ≡ lookup (is_at (R q)) rows)
    → (test : K → Bool) → IsKeyTest (eq_by_cmp R) test → lookup test map.entries ≡ lookup test rows
found_alike {K} {V} R map rows says test is = in_rows (lookup_key test rows) refl
  where
    at_key : (x : K) → test x ≡ true → lookup test map.entries ≡ lookup test rows
    at_key x passes =
        let agree : (y : K) → test y ≡ is_at (R x) y = λ y. is x y passes in
        lookup_alike test (is_at (R x)) agree map.entries ∙ says x ∙ sym (lookup_alike test (is_at (R x)) agree rows)

    in_map : lookup_key test rows ≡ None → (o : Option K) → lookup_key test map.entries ≡ o → lookup test map.entries ≡ lookup test rows
    in_map none None e = lookup_key-none test map.entries e ∙ sym (lookup_key-none test rows none)
    in_map none (Some x) e = at_key x (lookup_key_passes test map.entries x e)

    in_rows : (o : Option K) → lookup_key test rows ≡ o → lookup test map.entries ≡ lookup test rows
    in_rows None e = in_map e (lookup_key test map.entries) refl
    in_rows (Some x) e = at_key x (lookup_key_passes test rows x e)
