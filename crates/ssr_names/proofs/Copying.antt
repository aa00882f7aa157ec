-- Items that are one, as each is told of in a list.
use Rattle.std.proofs.Common.{◌≡◌, ℕ, zero, suc, ◌+◌, ◌<◌, List, [], ◌∷◌, ◌++◌, length, length-append, slice_get, Option, Some, None, unwrap_or, refl, sym, ap, ◌∙◌, subst, inl, inr, ◌⊎◌, arith}
use Rattle.std.proofs.lemmas.Option.{none-some, same_Some}
use Rattle.ssr_names_items.specs.declared.table.Item.{Item}
use Rattle.ssr_names_items.specs.declared.table.ItemNo.{ItemNo}
use Rattle.ssr_names_items.specs.declared.table.Table.{Table}
use Rattle.ssr_names.specs.declared.copies.ItemPlace.{ItemPlace}
use Rattle.ssr_names.specs.declared.space.Space.{Space}
use Rattle.ssr_names.specs.Declarations.{AreFirst, IsOfTable, IsSameItem}
use Rattle.ssr_names.specs.Lookup.{first_of, item_at}
use Rattle.ssr_names.specs.Private.Copies.{IsItemPlace, IsSamePlace}

pub get_pushed : {A : Type 0} (xs : List A) (x : A) (i : ℕ) (y : A) → slice_get (xs ++ x ∷ []) i ≡ Some y → (slice_get xs i ≡ Some y) ⊎ ((i ≡ length xs) × (x ≡ y))
get_pushed [] x zero y is = inr (refl, same_Some x y is)
get_pushed [] x (suc i) y is = absurd (none-some y is)
get_pushed (z ∷ xs) x zero y is = inl is
get_pushed (z ∷ xs) x (suc i) y is = elim (get_pushed xs x i y is) [ inl had ↦ inl had | inr new ↦ inr (ap suc new.0, new.1) ]

pub same_number : (i j : ItemNo) → i.0 ≡ j.0 → i ≡ j
same_number i j is = let of : ℕ → ItemNo = λ n. record { 0 = n } in ap of is

-- one more
pub one_longer : {A : Type 0} (xs new : List A) (x : A) (n : ℕ) → new ≡ xs ++ x ∷ [] → length xs ≡ n → length new ≡ n + 1
one_longer xs new x n added count = ap length added ∙ length-append xs (x ∷ []) ∙ ap (λ k. k + 1) count

-- an item is the same as itself
pub itself : (table : Table) (i : ItemNo) (row : Item) → slice_get table.items.items i.0 ≡ Some row → IsSameItem table i i
itself table i row is = record { row = row; same = row; is_row = is; is_same = is; node = refl; name = refl }

-- of two places that are one the items are one
pub same_item : (table : Table) (place found : ItemPlace) → IsItemPlace table place → IsItemPlace table found → IsSamePlace place found → IsSameItem table place.item found.item
same_item table place found here there same = record {
  row = here.row;
  same = there.row;
  is_row = here.is;
  is_same = there.is;
  node = there.node ∙ sym same.node ∙ sym here.node;
  name = there.name ∙ sym same.name ∙ sym here.name;
}

-- each item so far is the first one that is the same, and one more is
pub first_pushed : (table : Table) (firsts new : List ItemNo) (number found : ItemNo) → new ≡ firsts ++ found ∷ [] → length firsts ≡ number.0 → IsSameItem table number found
    → AreFirst table firsts → AreFirst table new
first_pushed table firsts new number found added count same all i j is =
    elim (get_pushed firsts found i.0 j (subst (λ xs. slice_get xs i.0 ≡ Some j) added is)) [
      | inl had ↦ all i j had
      | inr last ↦
          let here : number ≡ i = same_number number i (sym (last.0 ∙ count)) in
          subst (IsSameItem table i) last.1 (subst (λ (k : ItemNo). IsSameItem table k found) here same)
    ]

-- of items the first one that is the same is the same
pub first_same : (space : Space) → IsOfTable space → (i : ItemNo) (row : Item) → item_at space i ≡ Some row → (first : ItemNo) → first ≡ first_of space i → IsSameItem space.table.now i first
first_same space of_table i row is first first_is = from (slice_get space.first_items.items i.0) refl first_is
  where
    from : (o : Option ItemNo) → slice_get space.first_items.items i.0 ≡ o → first ≡ unwrap_or o i → IsSameItem space.table.now i first
    from None held same = subst (IsSameItem space.table.now i) (sym same) (itself space.table.now i row is)
    from (Some j) held same = subst (IsSameItem space.table.now i) (sym same) (of_table.items i j held)
