-- The files that a `mod` item may stand for, one more.
use Rattle.std.proofs.Common.{◌≡◌, ℕ, ◌+◌, ◌<◌, List, [], ◌∷◌, ◌++◌, length, get_or, map, take, Option, Bor, refl, ap, sym, ◌∙◌}
use Rattle.std.proofs.lemmas.List.{take_more}
use Rattle.ssr_package.specs.declared.candidates.Candidate.{Candidate}
use Rattle.ssr_package.specs.Paths.{Text}
use Rattle.ssr_package.specs.Candidates.{seen, file_at}

map_more : {A B : Type 0} (f : A → B) (xs : List A) (x : A) → map f (xs ++ x ∷ []) ≡ map f xs ++ f x ∷ []
map_more f [] x = refl
map_more f (y ∷ xs) x = ap (λ rest. f y ∷ rest) (map_more f xs x)

-- one more is seen at the end
pub seen_pushed : (found : List Candidate) (more : Candidate) → map seen (found ++ more ∷ []) ≡ map seen found ++ seen more ∷ []
seen_pushed found more = map_more seen found more

-- the files at one more path
pub seen_more : (folder : Option Text) (found : List Candidate) (more : Candidate) (paths : List (Bor Text)) (i : ℕ) (path : Bor Text) → i < length paths → map seen found ≡ map (file_at folder) (map (λ p. p.now) (take i paths)) → seen more ≡ file_at folder (get_or paths i path).now → map seen (found ++ more ∷ []) ≡ map (file_at folder) (map (λ p. p.now) (take (i + 1) paths))
seen_more folder found more paths i path below so_far here =
    let p : Bor Text = get_or paths i path in
    let last : map (λ (x : Bor Text). x.now) (take (i + 1) paths) ≡ map (λ (x : Bor Text). x.now) (take i paths) ++ p.now ∷ [] = ap (map (λ x. x.now)) (take_more paths i path below) ∙ map_more (λ (x : Bor Text). x.now) (take i paths) p in
    map_more seen found more ∙ (ap (λ front. front ++ seen more ∷ []) so_far ∙ (ap (λ place. map (file_at folder) (map (λ (x : Bor Text). x.now) (take i paths)) ++ place ∷ []) here ∙ (sym (map_more (file_at folder) (map (λ (x : Bor Text). x.now) (take i paths)) p.now) ∙ ap (map (file_at folder)) (sym last))))
