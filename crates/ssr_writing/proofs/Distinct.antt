-- Paths of which no two are the same, and a set that has them.
use Rattle.std.proofs.Common.{◌≡◌, ◌≢◌, ℕ, ◌+◌, ◌<◌, Bor, List, [], ◌∷◌, ◌++◌, bytes_eq, cond, length, get_or, nat_cmp, refl, sym, true, false, ap, ◌∙◌, arith, append_assoc, subst, take, inl, inr}
use Rattle.std.proofs.lemmas.Bool.Decides.{same_from_decides}
use Rattle.std.proofs.lemmas.Grind.{common_steps}
use Rattle.std.proofs.lemmas.List.Folds.{Any-from_list_any, list_any-append, list_any_at}
use Rattle.std.proofs.lemmas.List.Quantifiers.{all_pairs_push}
use Rattle.std.proofs.lemmas.Map.Text.{is_eq-slice_cmp}
use Rattle.std.proofs.lemmas.Slice.Eq.{bytes_eq-Decides}
use Rattle.std.specs.BTreeSet.{Updates}
use Rattle.std.specs.Cmp.Lexicographic.{slice_cmp}
use Rattle.std.specs.List.{list_any}
use Rattle.std.specs.Prelude.{flat_map}
use Rattle.ssr_writing.specs.declared.faults.WriteFault.{WriteFault}
use Rattle.ssr_writing.specs.declared.faults.WriteFault.TheVariants.{Clash}
use Rattle.ssr_writing.specs.declared.writing.NewText.{NewText}
use Rattle.ssr_writing.specs.Disk.{AreDistinct, StopsAtOnce, places, temporary_of}
use Rattle.ssr_writing.specs.Private.Taken.{AreAdded, AreRefused, AreTaken, Paths, has}
use Rattle.ssr_writing.proofs.Turns.{turns_more}

bytes_eq-comm : (a b : List ℕ) → bytes_eq a b ≡ bytes_eq b a
bytes_eq-comm a b =
    same_from_decides (bytes_eq a b) (bytes_eq b a) (bytes_eq-Decides a b)
    ((λ yes. sym ((bytes_eq-Decides b a).0 yes)), (λ same. (bytes_eq-Decides b a).1 (sym same)))

-- a path that is among others isn't apart from them
pub not_distinct : (path : List ℕ) (paths : List (List ℕ)) → list_any (bytes_eq path) paths ≡ true → AreDistinct (paths ++ path ∷ []) → ⊥
not_distinct path paths known distinct =
    let found = Any-from_list_any (bytes_eq path) paths known in
    let same : path ≡ found.1 = (bytes_eq-Decides path found.1).0 found.4 in
    let inside : found.0 < length paths = found.2 in
    let at : get_or paths found.0 found.1 ≡ found.1 = found.3 in
    let before : found.0 < length (paths ++ path ∷ []) = grind (arith, common_steps) in
    distinct found.0 (length paths) found.1 inside (grind (arith, common_steps)) (grind (arith, common_steps, at, same))

other_path : (path : List ℕ) (paths : List (List ℕ)) → list_any (bytes_eq path) paths ≡ false → (k : ℕ) (d : List ℕ) → k < length paths → get_or paths k d ≢ path
other_path path paths unknown k d within same =
    let found = list_any_at (bytes_eq path) paths k d within ((bytes_eq-Decides path (get_or paths k d)).1 (sym same)) in
    cc

-- a list with two of the same stays so behind more
pub not_distinct_longer : (paths more : List (List ℕ)) → (AreDistinct paths → ⊥) → AreDistinct (paths ++ more) → ⊥
not_distinct_longer paths more clash distinct =
    clash (λ i j d before within. let p = distinct i j d before (grind (arith, common_steps)) in grind (arith, common_steps, p))

module _ (old new : Paths) (path : Bor (List ℕ)) (updates : Updates (λ x y. slice_cmp nat_cmp x.now y.now) old new path true) where
  has_more : (other : List ℕ) → has new other ≡ cond (bytes_eq path.now other) true (has old other)
  has_more other =
      updates.0 (record { ref_ptr = (0, 0); now = other })
      ∙ ap (λ here. cond here true (has old other)) (is_eq-slice_cmp path.now other)

  pub added_free : has old path.now ≡ false → AreAdded old new (path.now ∷ [])
  added_free free paths taken = (
    (λ other.
        let a = has_more other in
        let b = bytes_eq-comm path.now other in
        let c = taken.0 other in
        let d = list_any-append (bytes_eq other) paths (path.now ∷ []) in
        grind (arith, common_steps, a, b, c, d)),
    all_pairs_push (λ one two. one ≢ two) paths path.now taken.1 (other_path path.now paths (sym (taken.0 path.now) ∙ free)),
  )

pub refused_full : (taken : Paths) (path : List ℕ) → has taken path ≡ true → AreRefused taken (path ∷ []) Clash
refused_full taken path full = inr (refl, λ paths held. not_distinct path paths (sym (held.0 path) ∙ full))

module _ (old mid new : Paths) (path temporary : List ℕ) where
  pub added_both : AreAdded old mid (path ∷ []) → AreAdded mid new (temporary ∷ []) → AreAdded old new (path ∷ temporary ∷ [])
  added_both first second paths taken =
      subst (AreTaken new) (append_assoc paths (path ∷ []) (temporary ∷ [])) (second (paths ++ path ∷ []) (first paths taken))

  pub refused_first : (why : WriteFault) → AreRefused old (path ∷ []) why → AreRefused old (path ∷ temporary ∷ []) why
  refused_first why (inl none) = inl none
  refused_first why (inr clash) =
      inr (
        clash.0,
        λ paths taken distinct.
            not_distinct_longer (paths ++ path ∷ []) (temporary ∷ []) (clash.1 paths taken)
            (subst AreDistinct (sym (append_assoc paths (path ∷ []) (temporary ∷ []))) distinct),
      )

  pub refused_second : (why : WriteFault) → AreAdded old mid (path ∷ []) → AreRefused mid (temporary ∷ []) why
      → AreRefused old (path ∷ temporary ∷ []) why
  refused_second why first (inl none) = inl none
  refused_second why first (inr clash) =
      inr (
        clash.0,
        λ paths taken distinct.
            clash.1 (paths ++ path ∷ []) (first paths taken)
            (subst AreDistinct (sym (append_assoc paths (path ∷ []) (temporary ∷ []))) distinct),
      )

-- of a run's files
module _ (files : List NewText) (i : ℕ) (d : NewText) (within : i < length files) (taken : Paths) (held : AreTaken taken (flat_map places (take i files)))
    (temporary : List ℕ) (its : temporary ≡ temporary_of (get_or files i d)) where
  turn : flat_map places (take (i + 1) files) ≡ flat_map places (take i files) ++ (get_or files i d).path.now ∷ temporary ∷ []
  turn =
      turns_more places files i d within
      ∙ ap (λ beside. flat_map places (take i files) ++ (get_or files i d).path.now ∷ beside ∷ []) (sym its)

  pub taken_turn : (new : Paths) → AreAdded taken new ((get_or files i d).path.now ∷ temporary ∷ [])
      → AreTaken new (flat_map places (take (i + 1) files))
  taken_turn new added = subst (AreTaken new) (sym turn) (added _ held)

  pub stopped_at_once : (why : WriteFault) → AreRefused taken ((get_or files i d).path.now ∷ temporary ∷ []) why
      → StopsAtOnce files (record { written = 0; failed = i; why = why })
  stopped_at_once why (inl none) = (refl, inl none)
  stopped_at_once why (inr clash) =
      (refl, inr (clash.0, (held.1, λ distinct. clash.1 _ held (subst AreDistinct turn distinct))))
