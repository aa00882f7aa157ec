-- What fits a pattern, from its end on.
use Rattle.std.proofs.Common.{◌≡◌, ℕ, ◌+◌, ◌-◌, ◌<◌, ◌&&◌, ◌||◌, if◌then◌else◌, Bool, true, false, List, [], ◌∷◌, ◌++◌, length, get_or, drop, take, Result, IfOk, refl, ap, sym, subst, ◌∙◌, below_more, arith}
use Rattle.std.proofs.lemmas.List.{drop-drop, drop_more, get_or_append_left, get_or_push, get_or_read, length-append, take_rest}
use Rattle.ssr_package.specs.Globs.{begins, fits, is_star, some_end, stands_for}
use Rattle.ssr_package.specs.Private.Globs.{AreFits, IsRow, fits_last}

-- ** One character more.

with_nothing : (b : Bool) (p : ℕ) (pattern : List ℕ) → (if b then some_end (fits pattern) [] else begins p (fits pattern) []) ≡ (b && fits pattern [])
with_nothing true p pattern = refl
with_nothing false p pattern = refl

with_more : (b : Bool) (p c : ℕ) (pattern name : List ℕ) → (if b then some_end (fits pattern) (c ∷ name) else begins p (fits pattern) (c ∷ name))
    ≡ (if b then fits pattern (c ∷ name) || (if b then some_end (fits pattern) name else begins p (fits pattern) name) else stands_for p c && fits pattern name)
with_more true p c pattern name = refl
with_more false p c pattern name = refl

fits_more : (p c : ℕ) (pattern name : List ℕ) → fits (p ∷ pattern) (c ∷ name)
    ≡ (if is_star p then fits pattern (c ∷ name) || fits (p ∷ pattern) name else stands_for p c && fits pattern name)
fits_more p c pattern name = with_more (is_star p) p c pattern name

end_more : (pattern : List ℕ) (n : ℕ) → n < length pattern
    → drop (length pattern - (n + 1)) pattern ≡ get_or pattern (length pattern - 1 - n) 0 ∷ drop (length pattern - n) pattern
end_more pattern n less =
    let i : ℕ = length pattern - 1 - n in
    let here : length pattern - (n + 1) ≡ i = omega arith in
    let next : i + 1 ≡ length pattern - n = omega arith in
    let below : i < length pattern = omega arith in
    ap (λ k. drop k pattern) here ∙ drop_more pattern i 0 below ∙ ap (λ k. get_or pattern i 0 ∷ drop k pattern) next

-- ** Rows.

-- one more of it
row_more : (pattern name : List ℕ) (row grown : List Bool) (count : ℕ) (b : Bool) → grown ≡ row ++ b ∷ [] → b ≡ fits_last count pattern name
    → AreFits count pattern name row → AreFits (count + 1) pattern name grown
row_more pattern name row grown count b more it_fits so_far = record {
  long = omega (arith, ap length more, length-append row (b ∷ []), so_far.long);
  each = below_more (λ k. get_or grown k false ≡ fits_last k pattern name) count
      (λ k less.
      let there : k < length row = omega (arith, so_far.long) in
      ap (λ r. get_or r k false) more ∙ get_or_append_left row (b ∷ []) false k there ∙ so_far.each k less)
      (ap (λ r. get_or r count false) more ∙ get_or_push row b false count so_far.long ∙ it_fits);
}

pub nothing_more : (pattern : List ℕ) (row grown : List Bool) (n p : ℕ) (b x : Bool) → n < length pattern → grown ≡ row ++ b ∷ [] → b ≡ (is_star p && x)
    → p ≡ get_or pattern (length pattern - 1 - n) p → x ≡ get_or row n x → AreFits (n + 1) pattern [] row → AreFits (n + 1 + 1) pattern [] grown
nothing_more pattern row grown n p b x less more is its_p its_x so_far =
    let here : n < n + 1 = omega arith in
    let at : length pattern - 1 - n < length pattern = omega arith in
    let in_row : n < length row = omega (arith, so_far.long) in
    let end : List ℕ = drop (length pattern - n) pattern in
    let whole : drop (length pattern - (n + 1)) pattern ≡ p ∷ end = end_more pattern n less ∙ ap (λ q. q ∷ end) (sym (get_or_read pattern (length pattern - 1 - n) p at its_p 0)) in
    row_more pattern [] row grown (n + 1) b more
    (is ∙ ap (λ x. is_star p && x) (get_or_read row n x in_row its_x false ∙ so_far.each n here) ∙ sym (ap (λ q. fits q []) whole ∙ with_nothing (is_star p) p end))
    so_far

pub name_more : (pattern name : List ℕ) (row below grown : List Bool) (n p c : ℕ) (b x : Bool) → n < length pattern → 0 < length name → grown ≡ row ++ b ∷ []
    → b ≡ (if is_star p then x || get_or below (n + 1) false else stands_for p c && get_or below n false)
    → p ≡ get_or pattern (length pattern - 1 - n) p → c ≡ get_or name 0 c → x ≡ get_or row n x
    → IsRow pattern (drop 1 name) below → AreFits (n + 1) pattern name row → AreFits (n + 1 + 1) pattern name grown
name_more pattern name row below grown n p c b x less some more is its_p its_c its_x under so_far =
    let here : n < n + 1 = omega arith in
    let next : n + 1 < length pattern + 1 = omega arith in
    let this : n < length pattern + 1 = omega arith in
    let at : length pattern - 1 - n < length pattern = omega arith in
    let in_row : n < length row = omega (arith, so_far.long) in
    let end : List ℕ = drop (length pattern - n) pattern in
    let rest : List ℕ = drop 1 name in
    let whole : drop (length pattern - (n + 1)) pattern ≡ p ∷ end = end_more pattern n less ∙ ap (λ q. q ∷ end) (sym (get_or_read pattern (length pattern - 1 - n) p at its_p 0)) in
    let both : name ≡ c ∷ rest = drop_more name 0 c some ∙ ap (λ d. d ∷ rest) (sym its_c) in
    row_more pattern name row grown (n + 1) b more
    (is
    ∙ ap (λ x. if is_star p then x || get_or below (n + 1) false else stands_for p c && get_or below n false) (get_or_read row n x in_row its_x false ∙ so_far.each n here)
    ∙ ap (λ y. if is_star p then fits end name || y else stands_for p c && get_or below n false) (under.each (n + 1) next ∙ ap (λ q. fits q rest) whole)
    ∙ ap (λ z. if is_star p then fits end name || fits (p ∷ end) rest else stands_for p c && z) (under.each n this)
    ∙ ap (λ text. if is_star p then fits end text || fits (p ∷ end) rest else stands_for p c && fits end rest) both
    ∙ sym (ap (λ q. fits q name) whole ∙ ap (fits (p ∷ end)) both ∙ fits_more p c end rest))
    so_far

-- ** Names, by their ends.

-- what is behind the first character of an end
pub behind_first : (name : List ℕ) (start : ℕ) → 0 < start → drop 1 (take (length name - (start - 1)) (drop (start - 1) name)) ≡ drop start name
behind_first name start some =
    let same : start - 1 + 1 ≡ start = omega arith in
    ap (drop 1) (take_rest name (start - 1)) ∙ drop-drop 1 (start - 1) name ∙ ap (λ k. drop k name) same

-- what is answered for the same pattern and name
pub fits_same : {E : Type 0} (r : Result Bool E) (p q name text : List ℕ) → p ≡ q → name ≡ text → IfOk r (λ it_fits. it_fits ≡ fits p name)
    → IfOk r (λ it_fits. it_fits ≡ fits q text)
fits_same r p q name text a b h = subst (λ x. IfOk r (λ it_fits. it_fits ≡ fits x text)) a (subst (λ x. IfOk r (λ it_fits. it_fits ≡ fits p x)) b h)
