-- Files in which changes are made, and which are planned.
use Rattle.std.proofs.Common.{ℕ, ◌≡◌, ◌+◌, ◌<◌, List, [], ◌∷◌, ◌++◌, length, map, take, All, Option, Some, None, slice_get, get_or, refl, sym, ap, ◌∙◌, arith, string_bytes}
use Rattle.std.specs.Option.{IsSomeAnd, option_map, option_map_or}
use Rattle.std.proofs.lemmas.List.{get_or-map, length-map, map-append, take_more}
use Rattle.std.proofs.lemmas.List.Elements.{All-get_or}
use Rattle.std.proofs.lemmas.Option.{slice_get_within}
use Rattle.ssr_base_trees.specs.Changes.{FitsText}
use Rattle.cargo_ssr_program.specs.Planned.{path_planned, text_planned}
use Rattle.ssr_changes.specs.Changing.{FitsIn}
use Rattle.ssr_changes.specs.Files.{File}
use Rattle.ssr_changes.specs.Naming.{normal}
use Rattle.ssr_changes.specs.Planning.{HasDiff}
use Rattle.ssr_changes.specs.declared.changing.FileChange.{FileChange}
use Rattle.ssr_changes.specs.declared.planning.Planned.{Planned}
use Rattle.ssr_diff.specs.Patch.{IsDiff}

within_if_some : {X : Type 0} (P : X → Type 0) (xs : List X) (n : ℕ) (o : Option X) → slice_get xs n ≡ o → IsSomeAnd o P → n < length xs
within_if_some P xs n (Some x) e h = slice_get_within xs n x e
within_if_some P xs n None e h = absurd h

-- the file of changes that fit is there
pub is_there : (files : List File) (c : FileChange) → FitsIn files c → c.file < length files
is_there files c h = within_if_some (λ file. All (FitsText file.text) c.edit) files c.file (slice_get files c.file) refl h

pub each_fits : (files : List File) (made : List FileChange) (i : ℕ) (d : FileChange) → i < length made → All (FitsIn files) made → FitsIn files (get_or made i d)
each_fits files made i d lt h = All-get_or (FitsIn files) made i d lt h

-- a file that is planned is there
planned_there : (files : List File) (p : Planned) → HasDiff files p → p.file < length files
planned_there files p h = within_if_some (λ file. IsDiff (normal file.name) file.text p.new.now (string_bytes p.diff)) files p.file (slice_get files p.file) refl h

pub each_is_there : (files : List File) (plan : List Planned) (i : ℕ) (d : Planned) → i < length plan → All (HasDiff files) plan → (get_or plan i d).file < length files
each_is_there files plan i d lt h = planned_there files (get_or plan i d) (All-get_or (HasDiff files) plan i d lt h)

-- a part of a file that is there
pub part_there : (o : Option File) (part : File → List ℕ) (text : List ℕ) → option_map part o ≡ Some text → option_map_or part o [] ≡ text
part_there (Some file) part text e = cc
part_there None part text e = let none : ⊥ = cc in absurd none

-- one item more on both sides
pub map_more : {A B C : Type 0} (f : A → C) (g : B → C) (xs : List B) (ys : List A) (i : ℕ) (d : B) (y : A) → i < length xs
    → map f ys ≡ map g (take i xs) → f y ≡ g (get_or xs i d) → map f (ys ++ y ∷ []) ≡ map g (take (i + 1) xs)
map_more f g xs ys i d y within so_far same =
    map-append f ys (y ∷ []) ∙ ap (λ front. front ++ f y ∷ []) so_far ∙ ap (λ last. map g (take i xs) ++ last ∷ []) same
    ∙ sym (ap (map g) (take_more xs i d within) ∙ map-append g (take i xs) (get_or xs i d ∷ []))

-- an item that both lists have
pub at_both : {A B C : Type 0} (f : A → C) (g : B → C) (xs : List A) (ys : List B) (i : ℕ) (d : A) (e : B) → map f xs ≡ map g ys → i < length ys
    → f (get_or xs i d) ≡ g (get_or ys i e)
at_both f g xs ys i d e same within =
    let long : length (map f xs) ≡ length (map g ys) = ap length same in
    let inside : i < length xs = omega (arith, long, length-map xs f, length-map ys g) in
    sym (get_or-map f xs i d (f d) inside) ∙ ap (λ all. get_or all i (f d)) same ∙ get_or-map g ys i e (f d) within

-- what is written for a file that is planned
pub text_there : (folder : List ℕ) (files : List File) (p : Planned) (path old : List ℕ) → path ≡ path_planned folder files p
    → option_map (λ file. file.text) (slice_get files p.file) ≡ Some old → (path, old, p.new.now) ≡ text_planned folder files p
text_there folder files p path old its there =
    let same = part_there (slice_get files p.file) (λ file. file.text) old there in
    let T : Type 0 = List ℕ × List ℕ × List ℕ in
    let a : List ℕ → T = λ q. (q, old, p.new.now) in
    let b : List ℕ → T = λ o. (path_planned folder files p, o, p.new.now) in
    ap a its ∙ ap b (sym same)
