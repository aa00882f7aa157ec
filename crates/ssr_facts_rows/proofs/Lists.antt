-- Lists of values, and of the rows that they are read to.
use Rattle.std.proofs.Common.{◌≡◌, List, [], ◌∷◌, ◌++◌, map, ℕ, Bool, ◌&&◌, ◌||◌, String, Global, string_bytes, Option, Some, refl, ap}
use Rattle.std.specs.List.{list_all, list_any}
use Rattle.std.specs.Map.{keys_of}
use Rattle.serde_json.specs.Data.{Data}
use Rattle.serde_json.specs.View.{view, items_view, members_view}
use Rattle.serde_json.specs.declared.value.Value.{Value}
use Rattle.ssr_facts_rows.specs.Fields.{◌>>=◌, list_of, each, member_keys}

pub list_of_of_view : (vs : List Value) → list_of (items_view vs) ≡ map view vs
list_of_of_view [] = refl
list_of_of_view (v ∷ vs) = ap (λ ds. view v ∷ ds) (list_of_of_view vs)

-- the rows that are read so far, and those of the other values
abbrev pub continued : {A : Type 0} → (Data → Option A) → List A → List Data → Option (List A)
continued reading done ds = each reading ds >>= λ later. Some (done ++ later)

pub any_of_map : {A B : Type 0} (test : B → Bool) (f : A → B) (xs : List A) → list_any test (map f xs) ≡ list_any (λ x. test (f x)) xs
any_of_map test f [] = refl
any_of_map test f (x ∷ xs) = ap (λ rest. test (f x) || rest) (any_of_map test f xs)

-- a test of all keys of an object
pub all_of_members_view : (test : List ℕ → Bool) (es : List (String Global × Value)) → list_all test (member_keys (members_view es)) ≡ list_all (λ key. test (string_bytes key)) (keys_of es)
all_of_members_view test [] = refl
all_of_members_view test (e ∷ es) = ap (λ rest. test (string_bytes e.0) && rest) (all_of_members_view test es)
