-- What holds of the elements that are left out of a list where a call gives nothing.
use Rattle.std.proofs.Common.{◌≡◌, List, [], ◌∷◌, All, Option, Some, None, refl}
use Rattle.std.specs.List.{cons_option, filter_map}
use Rattle.std.proofs.lemmas.List.Elements.{All-nil, All-cons}

pub all_with : {X : Type 0} (P : X → Type 0) (o : Option X) (rest : List X) → ((x : X) → o ≡ Some x → P x) → All P rest → All P (cons_option o rest)
all_with P None rest h all = all
all_with P (Some x) rest h all = All-cons P x rest (h x refl) all

pub all_given : {X Y : Type 0} (P : Y → Type 0) (f : X → Option Y) (xs : List X) → ((x : X) (y : Y) → f x ≡ Some y → P y) → All P (filter_map f xs)
all_given P f [] h = All-nil P
all_given P f (x ∷ xs) h = all_with P (f x) (filter_map f xs) (h x) (all_given P f xs h)
