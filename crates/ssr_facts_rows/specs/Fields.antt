-- How a value of JSON is read to what it stands for, or refused.
use Rattle.std.specs.Prelude.{ℕ, ◌^◌, nat_lt, Bool, if◌then◌else◌, List, [], ◌∷◌, Option, Some, None, bytes_eq, codes, unwrap_or}
use Rattle.std.specs.List.{list_all, list_any}
use Rattle.std.specs.Map.{lookup}
use Rattle.std.specs.Option.{option_map, option_and_then}
use Rattle.serde_json.specs.Data.{Data, Items, no_items, item, Members, no_members, member}
use Rattle.serde_json.specs.Find.{as_number, as_u64, as_str, as_array, as_object, get}
use Prim.Native.String.{String}

infixl 10 ◌>>=◌
abbrev pub ◌>>=◌ : {A B : Type 0} → Option A → (A → Option B) → Option B
given >>= next = option_and_then next given

abbrev pub when : Bool → Option (Unit {0})
when holds = if holds then Some tt else None

-- a number that fits 32 bits
abbrev pub number : Data → Option ℕ
number d = do
  n ← option_and_then as_u64 (as_number d)
  _ ← when (nat_lt n (2 ^ 32))
  Some n

-- what a word stands for by a table
abbrev pub meaning : {A : Type 0} → List (String × A) → Data → Option A
meaning table d = as_str d >>= λ word. lookup (λ key. bytes_eq word (codes key)) table

-- ** Arrays.

abbrev pub list_of : Items → List Data
list_of no_items = []
list_of (item d ds) = d ∷ list_of ds

-- the values of an array
abbrev pub items : Data → Option (List Data)
items d = option_map list_of (as_array d)

abbrev pub if_two : List Data → Option (Data × Data)
if_two (a ∷ b ∷ []) = Some (a, b)
if_two _ = None

abbrev pub if_three : List Data → Option (Data × Data × Data)
if_three (a ∷ b ∷ c ∷ []) = Some (a, b, c)
if_three _ = None

abbrev pub if_four : List Data → Option (Data × Data × Data × Data)
if_four (a ∷ b ∷ c ∷ d ∷ []) = Some (a, b, c, d)
if_four _ = None

abbrev pub if_five : List Data → Option (Data × Data × Data × Data × Data)
if_five (a ∷ b ∷ c ∷ d ∷ e ∷ []) = Some (a, b, c, d, e)
if_five _ = None

-- the values of an array of so many
abbrev pub two : Data → Option (Data × Data)
two d = items d >>= if_two

abbrev pub three : Data → Option (Data × Data × Data)
three d = items d >>= if_three

abbrev pub four : Data → Option (Data × Data × Data × Data)
four d = items d >>= if_four

abbrev pub five : Data → Option (Data × Data × Data × Data × Data)
five d = items d >>= if_five

-- what each value of a list stands for, in their order, unless one of them is refused
abbrev pub each : {A : Type 0} → (Data → Option A) → List Data → Option (List A)
each reading [] = Some []
each reading (d ∷ ds) = do
  first ← reading d
  others ← each reading ds
  Some (first ∷ others)

-- what the values of an array stand for
abbrev pub rows : {A : Type 0} → (Data → Option A) → Data → Option (List A)
rows reading d = items d >>= each reading

-- ** Objects.

abbrev pub member_keys : Members → List (List ℕ)
member_keys no_members = []
member_keys (member key d ms) = key ∷ member_keys ms

abbrev pub is_among : List (List ℕ) → List ℕ → Bool
is_among keys key = list_any (λ other. bytes_eq other key) keys

-- nothing, of an object all of whose keys are among these
abbrev pub has_only : List (List ℕ) → Data → Option (Unit {0})
has_only keys d = as_object d >>= λ ms. when (list_all (is_among keys) (member_keys ms))

-- what stands at a key that has to be there
abbrev pub required : {A : Type 0} → List ℕ → (Data → Option A) → Data → Option A
required key reading d = get key d >>= reading

abbrev pub if_found : {A : Type 0} → (Data → Option A) → Option Data → Option (Option A)
if_found reading None = Some None
if_found reading (Some d) = option_map Some (reading d)

-- what stands at a key, if it is there
abbrev pub optional : {A : Type 0} → List ℕ → (Data → Option A) → Data → Option (Option A)
optional key reading d = if_found reading (get key d)

-- what stands at a key, and `default` where it isn't there
abbrev pub defaulted : {A : Type 0} → List ℕ → (Data → Option A) → A → Data → Option A
defaulted key reading default d = option_map (λ found. unwrap_or found default) (optional key reading d)

-- the rows at a key, and none where it isn't there
abbrev pub rows_at : {A : Type 0} → List ℕ → (Data → Option A) → Data → Option (List A)
rows_at key reading = defaulted key (rows reading) []
