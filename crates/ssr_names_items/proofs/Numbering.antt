-- The numbers of names, with one more.
use Rattle.std.proofs.Common.{◌≡◌, ℕ, Bool, true, false, List, Option, Some, None, refl, sym, ap, ◌∙◌, bytes_eq}
use Rattle.std.specs.Map.{update}
use Rattle.std.specs.Prelude.{cond}
use Rattle.std.proofs.lemmas.Option.{none-some}
use Rattle.std.proofs.lemmas.Slice.Eq.{bytes_eq-Decides}
use Rattle.ssr_names_items.specs.declared.table.Name.{Name}

-- a name that has a number keeps it, where a new one is added
pub still_numbered : (old new : List ℕ → Option Name) (added : List ℕ) (n : Name) → old added ≡ None → ((text : List ℕ) → new text ≡ update bytes_eq old added (Some n) text)
    → (text : List ℕ) (name : Name) → old text ≡ Some name → new text ≡ Some name
still_numbered old new added n none updates text name had = tested (bytes_eq added text) refl
  where
    tested : (b : Bool) → bytes_eq added text ≡ b → new text ≡ Some name
    tested true is = absurd (none-some name (sym none ∙ ap old ((bytes_eq-Decides added text).0 is) ∙ had))
    tested false is = updates text ∙ ap (λ b. cond b (Some n) (old text)) is ∙ had

-- a name that is added has the number that it is given
pub now_numbered : (old new : List ℕ → Option Name) (added : List ℕ) (n : Name) → ((text : List ℕ) → new text ≡ update bytes_eq old added (Some n) text) → new added ≡ Some n
now_numbered old new added n updates = updates added ∙ ap (λ b. cond b (Some n) (old added)) ((bytes_eq-Decides added added).1 refl)
