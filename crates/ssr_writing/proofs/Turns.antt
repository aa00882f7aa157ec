-- Calls of a disk grow by the turns of the files, one by one.
use Rattle.std.proofs.Common.{◌≡◌, ℕ, ◌+◌, ◌-◌, ◌<◌, List, [], ◌∷◌, ◌++◌, map, take, drop, length, get_or, refl, sym, ap, ◌∙◌, arith, append_assoc, inl, inr}
use Rattle.std.proofs.lemmas.Grind.{flat_map-append}
use Rattle.std.proofs.lemmas.List.{append-nil, drop-map, get_or-map, length-drop, length-map, take-map, take_all, take_more}
use Rattle.std.proofs.lemmas.Option.{slice_get-get_or}
use Rattle.std.specs.Prelude.{flat_map}
use Rattle.ssr_writing.specs.declared.faults.WriteError.{WriteError}
use Rattle.ssr_writing.specs.declared.writing.NewText.{NewText}
use Rattle.ssr_writing.specs.Disk.{AreApart, Asks, Call, Failing, Removed, Stops, StopsAtOnce, StopsMaking, StopsReplacing, fails_to_make, fails_to_replace, makes, removes, replaces, temporary_of}

-- two stretches of calls are one
pub joined : (old mid new a b : List Call) → mid ≡ old ++ a → new ≡ mid ++ b → new ≡ old ++ (a ++ b)
joined old mid new a b p q = q ∙ ap (λ calls. calls ++ b) p ∙ append_assoc old a b

pub turns_more : {A : Type 0} (f : NewText → List A) (files : List NewText) (i : ℕ) (d : NewText) → i < length files
    → flat_map f (take (i + 1) files) ≡ flat_map f (take i files) ++ f (get_or files i d)
turns_more f files i d within =
    ap (flat_map f) (take_more files i d within) ∙ flat_map-append f (take i files) (get_or files i d ∷ [])
    ∙ ap (λ last. flat_map f (take i files) ++ last) (append-nil (f (get_or files i d)))

-- a file's turn behind those of the files in front of it
pub turn_more : (f : NewText → List Call) (files : List NewText) (i : ℕ) (d : NewText) (old mid new : List Call) → i < length files
    → mid ≡ old ++ flat_map f (take i files) → new ≡ mid ++ f (get_or files i d) → new ≡ old ++ flat_map f (take (i + 1) files)
turn_more f files i d old mid new within p q =
    joined old mid new (flat_map f (take i files)) (f (get_or files i d)) p q ∙ ap (λ turns. old ++ turns) (sym (turns_more f files i d within))

module _ {S : Type 0} (bytes : S → List ℕ) where
  pub temporary_at : (paths : List S) (files : List NewText) (i : ℕ) (d : S) (e : NewText) → map bytes paths ≡ map temporary_of files → i < length files
      → bytes (get_or paths i d) ≡ temporary_of (get_or files i e)
  temporary_at paths files i d e same within =
      let long : length (map bytes paths) ≡ length (map temporary_of files) = ap length same in
      let inside : i < length paths = omega (arith, long, length-map paths bytes, length-map files temporary_of) in
      sym (get_or-map bytes paths i d [] inside) ∙ ap (λ texts. get_or texts i []) same ∙ get_or-map temporary_of files i e [] within

  removed : (paths : List S) (files : List NewText) → map bytes paths ≡ map temporary_of files → map (λ path. Removed (bytes path)) paths ≡ map removes files
  removed [] [] same = refl
  removed [] (file ∷ files) same = absurd (cc)
  removed (path ∷ paths) [] same = absurd (cc)
  removed (path ∷ paths) (file ∷ files) same =
      let front : bytes path ≡ temporary_of file = cc in
      let rest : map bytes paths ≡ map temporary_of files = cc in
      let others = removed paths files rest in
      cc

  -- of those in front of i
  pub removed_before : (paths : List S) (files : List NewText) (i : ℕ) → map bytes paths ≡ map temporary_of files
      → map (λ path. Removed (bytes path)) (take i paths) ≡ map removes (take i files)
  removed_before paths files i same =
      removed (take i paths) (take i files) (sym (take-map bytes i paths) ∙ ap (take i) same ∙ take-map temporary_of i files)

  -- of those from i on
  pub removed_from : (paths : List S) (files : List NewText) (i : ℕ) → map bytes paths ≡ map temporary_of files
      → map (λ path. Removed (bytes path)) (take (length paths - i) (drop i paths)) ≡ map removes (drop i files)
  removed_from paths files i same =
      ap (map (λ path. Removed (bytes path))) (take_all (length paths - i) (drop i paths) (omega (arith, length-drop i paths)))
      ∙ removed (drop i paths) (drop i files) (sym (drop-map bytes i paths) ∙ ap (drop i) same ∙ drop-map temporary_of i files)

-- a failed turn behind those of the files in front of it, and what is removed then
module _ (files : List NewText) (i : ℕ) (d : NewText) (within : i < length files) (old mid failed new : List Call) where
  pub stops_making : (gone : List Call) → mid ≡ old ++ flat_map makes (take i files)
      → ((how : Failing) × (failed ≡ mid ++ fails_to_make how (get_or files i d))) → new ≡ failed ++ gone → gone ≡ map removes (take i files)
      → Asks old new (StopsMaking files i)
  stops_making gone p turn r e =
      let front = flat_map makes (take i files) ++ fails_to_make turn.0 (get_or files i d) in (
        front ++ gone,
        joined old failed new front gone (joined old mid failed (flat_map makes (take i files)) (fails_to_make turn.0 (get_or files i d)) p turn.1) r,
        (get_or files i d, turn.0, slice_get-get_or files i d within, ap (λ last. front ++ last) e),
      )

  pub stops_replacing : (gone : List Call) → mid ≡ old ++ flat_map replaces (take i files)
      → ((how : Failing) × (failed ≡ mid ++ fails_to_replace how (get_or files i d))) → new ≡ failed ++ gone → gone ≡ map removes (drop i files)
      → Asks old new (StopsReplacing files i)
  stops_replacing gone p turn r e =
      let front = flat_map replaces (take i files) ++ fails_to_replace turn.0 (get_or files i d) in (
        front ++ gone,
        joined old failed new front gone (joined old mid failed (flat_map replaces (take i files)) (fails_to_replace turn.0 (get_or files i d)) p turn.1) r,
        (get_or files i d, turn.0, slice_get-get_or files i d within, ap (λ last. front ++ last) e),
      )

-- ---- the whole run

pub stopped_early : (files : List NewText) (e : WriteError) (old : List Call) → StopsAtOnce files e → Asks old old (Stops files e)
stopped_early files e old why = ([], sym (append-nil old), inl (refl, why))

pub stopped_making : (files : List NewText) (e : WriteError) (old new : List Call) → AreApart files → e.written ≡ 0
    → Asks old new (StopsMaking files e.failed) → Asks old new (Stops files e)
stopped_making files e old new apart none h = (h.0, h.1, inr (apart, inl (none, h.2)))

pub stopped_replacing : (files : List NewText) (e : WriteError) (old mid new : List Call) → AreApart files → mid ≡ old ++ flat_map makes files
    → e.written ≡ e.failed → Asks mid new (StopsReplacing files e.failed) → Asks old new (Stops files e)
stopped_replacing files e old mid new apart made some h =
    (flat_map makes files ++ h.0, joined old mid new (flat_map makes files) h.0 made h.1, inr (apart, inr (h.0, some, refl, h.2)))
