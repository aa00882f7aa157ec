-- What calls leave on a disk to which nobody else writes.
use Rattle.std.proofs.Common.{◌≡◌, ◌≢◌, ℕ, ◌<◌, ◌⊎◌, suc, List, [], ◌∷◌, ◌++◌, Option, None, Some, bytes_eq, length, get_or, map, take, drop, refl, sym, ap, ◌∙◌, arith, subst, inl, inr}
use Rattle.std.proofs.lemmas.Bool.{cases_Bool, true≢false}
use Rattle.std.proofs.lemmas.List.{append-nil, take-append-drop}
use Rattle.std.proofs.lemmas.List.Elements.{All-cons, All-head, All-nil, All-tail}
use Rattle.std.proofs.lemmas.Map.{update_other, update_same}
use Rattle.std.proofs.lemmas.Slice.Eq.{bytes_eq-Decides}
use Rattle.std.specs.Prelude.{All, Contains, flat_map}
use Rattle.ssr_writing.specs.declared.faults.WriteError.{WriteError}
use Rattle.ssr_writing.specs.declared.writing.NewText.{NewText}
use Rattle.ssr_writing.specs.Disk.{AreApart, AreDistinct, Call, Failing, Refused, Stops, StopsMaking, StopsReplacing, Unseen, fails_to_make, fails_to_replace, makes, places, removes, replaces, temporary_of, writes}
use Rattle.ssr_writing.specs.Replay.{AreWritten, HasNoTemporaries, Texts, after, after_call, with}

after-append : (a b : List Call) (texts : Texts) → after (a ++ b) texts ≡ after b (after a texts)
after-append [] b texts = refl
after-append (call ∷ a) b texts = after-append a b (after_call call texts)

-- ---- one path

with_same : (texts : Texts) (path : List ℕ) (text : Option (List ℕ)) → with texts path text path ≡ text
with_same texts path text = update_same bytes_eq texts path text path ((bytes_eq-Decides path path).1 refl)

with_other : (texts : Texts) (path : List ℕ) (text : Option (List ℕ)) (other : List ℕ) → path ≢ other → with texts path text other ≡ texts other
with_other texts path text other differ =
    elim (cases_Bool (bytes_eq path other)) [
      | inl here ↦ absurd (differ ((bytes_eq-Decides path other).0 here))
      | inr elsewhere ↦ update_other bytes_eq texts path text other elsewhere
    ]

-- ---- lists of paths and of files

-- the path isn't among these
abbrev IsAbsent : List ℕ → List (List ℕ) → Type 0
IsAbsent path [] = Unit {0}
IsAbsent path (other ∷ others) = (other ≢ path) × IsAbsent path others

absent_at : (path : List ℕ) (paths : List (List ℕ)) → ((k : ℕ) (d : List ℕ) → k < length paths → get_or paths k d ≢ path) → IsAbsent path paths
absent_at path [] differs = tt
absent_at path (other ∷ others) differs =
    (differs 0 path (omega arith), absent_at path others (λ k d within. differs (suc k) d (omega arith)))

not_contained : (path : List ℕ) (paths : List (List ℕ)) → (Contains paths path → ⊥) → IsAbsent path paths
not_contained path [] lacks = tt
not_contained path (other ∷ others) lacks =
    ((λ same. lacks (0, omega arith, same)), not_contained path others (λ at. lacks (suc at.0, omega (arith, at.1), at.2)))

-- what holds of each file
abbrev Each : (NewText → Type 0) → List NewText → Type 0
Each P [] = Unit {0}
Each P (file ∷ files) = P file × Each P files

module _ (P : NewText → Type 0) where
  each_from_all : (files : List NewText) → All P files → Each P files
  each_from_all [] all = tt
  each_from_all (file ∷ files) all = (All-head P file files all, each_from_all files (All-tail P file files all))

  all_from_each : (files : List NewText) → Each P files → All P files
  all_from_each [] each = All-nil P
  all_from_each (file ∷ files) each = All-cons P file files each.0 (all_from_each files each.1)

  each_front : (front back : List NewText) → Each P (front ++ back) → Each P front
  each_front [] back each = tt
  each_front (file ∷ front) back each = (each.0, each_front front back each.1)

  each_back : (front back : List NewText) → Each P (front ++ back) → Each P back
  each_back [] back each = each
  each_back (file ∷ front) back each = each_back front back each.1

-- neither the path nor the temporary of a file is a place of another
abbrev Apart : List NewText → Type 0
Apart [] = Unit {0}
Apart (file ∷ files) =
    (file.path.now ≢ temporary_of file) × IsAbsent file.path.now (flat_map places files) × IsAbsent (temporary_of file) (flat_map places files) × Apart files

distinct_tail : (path : List ℕ) (paths : List (List ℕ)) → AreDistinct (path ∷ paths) → AreDistinct paths
distinct_tail path paths distinct = λ i j d before within. distinct (suc i) (suc j) d (omega (arith, before)) (omega (arith, within))

distinct_head : (path : List ℕ) (paths : List (List ℕ)) → AreDistinct (path ∷ paths) → IsAbsent path paths
distinct_head path paths distinct =
    absent_at path paths (λ k d within same. distinct 0 (suc k) d (omega arith) (omega (arith, within)) (sym same))

apart_each : (files : List NewText) → AreApart files → Apart files
apart_each [] apart = tt
apart_each (file ∷ files) apart =
    let beside = temporary_of file ∷ flat_map places files in
    let rest = distinct_tail file.path.now beside apart in
    let first : IsAbsent file.path.now beside = distinct_head file.path.now beside apart in (
      (λ same. first.0 (sym same)),
      first.1,
      distinct_head (temporary_of file) (flat_map places files) rest,
      apart_each files (distinct_tail (temporary_of file) (flat_map places files) rest),
    )

apart_front : (front back : List NewText) → Apart (front ++ back) → Apart front
apart_front [] back apart = tt
apart_front (file ∷ front) back apart = (
  apart.0,
  places_front file.path.now front back apart.1,
  places_front (temporary_of file) front back apart.2,
  apart_front front back apart.3,
)
  where
    places_front : (path : List ℕ) (front back : List NewText) → IsAbsent path (flat_map places (front ++ back)) → IsAbsent path (flat_map places front)
    places_front path [] back absent = tt
    places_front path (file ∷ front) back absent = (absent.0, (absent.1.0, places_front path front back absent.1.1))

-- the temporaries' paths
abbrev temporaries : List NewText → List (List ℕ)
temporaries files = map temporary_of files

temporaries_among : (path : List ℕ) (files : List NewText) → IsAbsent path (flat_map places files) → IsAbsent path (temporaries files)
temporaries_among path [] absent = tt
temporaries_among path (file ∷ files) absent = (absent.1.0, temporaries_among path files absent.1.1)

all_places : (path : List ℕ) (files : List NewText) → IsAbsent path (map (λ file. file.path.now) files) → IsAbsent path (temporaries files)
    → IsAbsent path (flat_map places files)
all_places path [] own beside = tt
all_places path (file ∷ files) own beside = (own.0, (beside.0, all_places path files own.1 beside.1))

both_parts : (path : List ℕ) (front back : List NewText) → IsAbsent path (temporaries front) → IsAbsent path (temporaries back)
    → IsAbsent path (temporaries (front ++ back))
both_parts path [] back first second = second
both_parts path (file ∷ front) back first second = (first.0, both_parts path front back first.1 second)

back_part : (path : List ℕ) (front back : List NewText) → IsAbsent path (temporaries (front ++ back)) → IsAbsent path (temporaries back)
back_part path [] back absent = absent
back_part path (file ∷ front) back absent = back_part path front back absent.1

-- no file in front is a temporary of one behind
front_apart : (front back : List NewText) → Apart (front ++ back) → Each (λ file. IsAbsent file.path.now (temporaries back)) front
front_apart [] back apart = tt
front_apart (file ∷ front) back apart =
    (back_part file.path.now front back (temporaries_among file.path.now (front ++ back) apart.1), front_apart front back apart.3)

-- where the temporaries are gone and were not there, each path has what it had, or is none of them
gone_or_absent : (files : List NewText) (old new : Texts) (path : List ℕ) → Each (λ file. new (temporary_of file) ≡ None) files
    → Each (λ file. old (temporary_of file) ≡ None) files → (new path ≡ old path) ⊎ IsAbsent path (temporaries files)
gone_or_absent [] old new path gone free = inr tt
gone_or_absent (file ∷ files) old new path gone free =
    elim (cases_Bool (bytes_eq (temporary_of file) path)) [
      | inl here ↦
          let same : temporary_of file ≡ path = (bytes_eq-Decides (temporary_of file) path).0 here in
          inl (ap new (sym same) ∙ gone.0 ∙ sym free.0 ∙ ap old same)
      | inr elsewhere ↦
          elim (gone_or_absent files old new path gone.1 free.1) [
            | inl kept ↦ inl kept
            | inr absent ↦ inr ((λ same. true≢false (sym ((bytes_eq-Decides (temporary_of file) path).1 same) ∙ elsewhere)), absent)
          ]
    ]

-- ---- the calls of a run

made_other : (files : List NewText) (texts : Texts) (path : List ℕ) → IsAbsent path (temporaries files)
    → after (flat_map makes files) texts path ≡ texts path
made_other [] texts path absent = refl
made_other (file ∷ files) texts path absent =
    made_other files (with texts (temporary_of file) (Some file.new.now)) path absent.1
    ∙ with_other texts (temporary_of file) (Some file.new.now) path absent.0

made_new : (files : List NewText) (texts : Texts) → Apart files
    → Each (λ file. after (flat_map makes files) texts (temporary_of file) ≡ Some file.new.now) files
made_new [] texts apart = tt
made_new (file ∷ files) texts apart = (
  made_other files (with texts (temporary_of file) (Some file.new.now)) (temporary_of file) (temporaries_among (temporary_of file) files apart.2)
      ∙ with_same texts (temporary_of file) (Some file.new.now),
  made_new files (with texts (temporary_of file) (Some file.new.now)) apart.3,
)

-- one file's temporary takes its place
abbrev replaced : Texts → NewText → Texts
replaced texts file = with (with texts (temporary_of file) None) file.path.now (texts (temporary_of file))

replaced_other : (files : List NewText) (texts : Texts) (path : List ℕ) → IsAbsent path (flat_map places files)
    → after (flat_map replaces files) texts path ≡ texts path
replaced_other [] texts path absent = refl
replaced_other (file ∷ files) texts path absent =
    replaced_other files (replaced texts file) path absent.1.1
    ∙ with_other (with texts (temporary_of file) None) file.path.now (texts (temporary_of file)) path absent.0
    ∙ with_other texts (temporary_of file) None path absent.1.0

still_made : (files : List NewText) (texts : Texts) (file : NewText) → IsAbsent file.path.now (flat_map places files)
    → IsAbsent (temporary_of file) (flat_map places files) → Each (λ other. texts (temporary_of other) ≡ Some other.new.now) files
    → Each (λ other. replaced texts file (temporary_of other) ≡ Some other.new.now) files
still_made [] texts file own beside made = tt
still_made (other ∷ files) texts file own beside made = (
  with_other (with texts (temporary_of file) None) file.path.now (texts (temporary_of file)) (temporary_of other) (λ same. own.1.0 (sym same))
      ∙ with_other texts (temporary_of file) None (temporary_of other) (λ same. beside.1.0 (sym same)) ∙ made.0,
  still_made files texts file own.1.1 beside.1.1 made.1,
)

replaced_new : (files : List NewText) (texts : Texts) → Apart files → Each (λ file. texts (temporary_of file) ≡ Some file.new.now) files
    → Each (λ file. after (flat_map replaces files) texts file.path.now ≡ Some file.new.now) files
replaced_new [] texts apart made = tt
replaced_new (file ∷ files) texts apart made = (
  replaced_other files (replaced texts file) file.path.now apart.1
      ∙ with_same (with texts (temporary_of file) None) file.path.now (texts (temporary_of file)) ∙ made.0,
  replaced_new files (replaced texts file) apart.3 (still_made files texts file apart.1 apart.2 made.1),
)

replaced_gone : (files : List NewText) (texts : Texts) → Apart files
    → Each (λ file. after (flat_map replaces files) texts (temporary_of file) ≡ None) files
replaced_gone [] texts apart = tt
replaced_gone (file ∷ files) texts apart = (
  replaced_other files (replaced texts file) (temporary_of file) apart.2
      ∙ with_other (with texts (temporary_of file) None) file.path.now (texts (temporary_of file)) (temporary_of file) apart.0
      ∙ with_same texts (temporary_of file) None,
  replaced_gone files (replaced texts file) apart.3,
)

removed_other : (files : List NewText) (texts : Texts) (path : List ℕ) → IsAbsent path (temporaries files)
    → after (map removes files) texts path ≡ texts path
removed_other [] texts path absent = refl
removed_other (file ∷ files) texts path absent =
    removed_other files (with texts (temporary_of file) None) path absent.1 ∙ with_other texts (temporary_of file) None path absent.0

removed_still : (files : List NewText) (texts : Texts) (path : List ℕ) → texts path ≡ None → after (map removes files) texts path ≡ None
removed_still [] texts path gone = gone
removed_still (file ∷ files) texts path gone =
    removed_still files (with texts (temporary_of file) None) path
    (elim (cases_Bool (bytes_eq (temporary_of file) path)) [
      | inl here ↦ update_same bytes_eq texts (temporary_of file) None path here
      | inr elsewhere ↦ update_other bytes_eq texts (temporary_of file) None path elsewhere ∙ gone
    ])

removed_gone : (files : List NewText) (texts : Texts) → Each (λ file. after (map removes files) texts (temporary_of file) ≡ None) files
removed_gone [] texts = tt
removed_gone (file ∷ files) texts = (
  removed_still files (with texts (temporary_of file) None) (temporary_of file) (with_same texts (temporary_of file) None),
  removed_gone files (with texts (temporary_of file) None),
)

-- ---- whole runs

-- temporaries that are made and removed
given_up : (files : List NewText) (texts : Texts) → Each (λ file. texts (temporary_of file) ≡ None) files
    → AreWritten [] texts (after (map removes files) (after (flat_map makes files) texts))
given_up files texts free =
    let made = after (flat_map makes files) texts in
    record {
      files_written = All-nil (λ file. after (map removes files) made file.path.now ≡ Some file.new.now);
      others_kept = λ path _.
          elim (gone_or_absent files texts (after (map removes files) made) path (removed_gone files made) free) [
            | inl kept ↦ kept
            | inr absent ↦ removed_other files made path absent ∙ made_other files texts path absent
          ];
    }

still_new : (front back : List NewText) (texts : Texts) → Each (λ file. IsAbsent file.path.now (temporaries back)) front
    → Each (λ file. texts file.path.now ≡ Some file.new.now) front
    → Each (λ file. after (map removes back) texts file.path.now ≡ Some file.new.now) front
still_new [] back texts apart written = tt
still_new (file ∷ front) back texts apart written =
    (removed_other back texts file.path.now apart.0 ∙ written.0, still_new front back texts apart.1 written.1)

-- all temporaries are made, those in front take their places, and those behind are removed
module _ (front back : List NewText) (texts : Texts) (apart : Apart (front ++ back)) (free : Each (λ file. texts (temporary_of file) ≡ None) (front ++ back)) where
  written_front : AreWritten front texts (after (map removes back) (after (flat_map replaces front) (after (flat_map makes (front ++ back)) texts)))
  written_front =
      let made = after (flat_map makes (front ++ back)) texts in
      let given = after (flat_map replaces front) made in
      let first = apart_front front back apart in
      let ready = each_front (λ file. made (temporary_of file) ≡ Some file.new.now) front back (made_new (front ++ back) texts apart) in
      let P : NewText → Type 0 = λ file. texts (temporary_of file) ≡ None in
      record {
        files_written =
            all_from_each (λ file. after (map removes back) given file.path.now ≡ Some file.new.now) front
            (still_new front back given (front_apart front back apart) (replaced_new front made first ready));
        others_kept = λ path lacks.
            elim (gone_or_absent back texts (after (map removes back) given) path (removed_gone back given) (each_back P front back free)) [
              | inl kept ↦ kept
              | inr behind ↦
                  removed_other back given path behind
                  ∙ elim (gone_or_absent front texts given path (replaced_gone front made first) (each_front P front back free)) [
                    | inl kept ↦ kept
                    | inr ahead ↦
                        replaced_other front made path (all_places path front (not_contained path (map (λ file. file.path.now) front) lacks) ahead)
                        ∙ made_other (front ++ back) texts path (both_parts path front back ahead behind)
                  ]
            ];
      }

-- the same of files that are cut in two
written_cut : (files front back : List NewText) (texts : Texts) → front ++ back ≡ files → AreApart files → HasNoTemporaries files texts
    → AreWritten front texts (after (map removes back) (after (flat_map replaces front) (after (flat_map makes files) texts)))
written_cut files front back texts cut apart free =
    let P : List NewText → Type 0 =
    λ all. Apart all → Each (λ file. texts (temporary_of file) ≡ None) all
    → AreWritten front texts (after (map removes back) (after (flat_map replaces front) (after (flat_map makes all) texts))) in
    subst P cut (written_front front back texts) (apart_each files apart) (each_from_all (λ file. texts (temporary_of file) ≡ None) files free)

pub ends_well : (files : List NewText) (texts : Texts) → AreApart files → HasNoTemporaries files texts → AreWritten files texts (after (writes files) texts)
ends_well files texts apart free =
    subst (AreWritten files texts) (sym (after-append (flat_map makes files) (flat_map replaces files) texts))
    (written_cut files files [] texts (append-nil files) apart free)

-- failing calls change nothing
idle_making : (how : Failing) (file : NewText) (texts : Texts) → after (fails_to_make how file) texts ≡ texts
idle_making Unseen file texts = refl
idle_making Refused file texts = refl

idle_replacing : (how : Failing) (file : NewText) (texts : Texts) → after (fails_to_replace how file) texts ≡ texts
idle_replacing Unseen file texts = refl
idle_replacing Refused file texts = refl

-- three stretches of calls, the second of which changes nothing
in_turn : (a b c : List Call) (texts : Texts) → after b (after a texts) ≡ after a texts → after (a ++ b ++ c) texts ≡ after c (after a texts)
in_turn a b c texts idle = after-append (a ++ b) c texts ∙ ap (after c) (after-append a b texts ∙ idle)

fails_making : (files : List NewText) (texts : Texts) (failed : ℕ) (asked : List Call) → HasNoTemporaries files texts → StopsMaking files failed asked
    → AreWritten [] texts (after asked texts)
fails_making files texts failed asked free stops =
    let front = take failed files in
    let P : NewText → Type 0 = λ file. texts (temporary_of file) ≡ None in
    let cut : front ++ drop failed files ≡ files = take-append-drop failed files in
    let all : Each P (front ++ drop failed files) = subst (Each P) (sym cut) (each_from_all P files free) in
    let left = ap (λ calls. after calls texts) stops.3
    ∙ in_turn (flat_map makes front) (fails_to_make stops.1 stops.0) (map removes front) texts (idle_making stops.1 stops.0 _) in
    subst (AreWritten [] texts) (sym left) (given_up front texts (each_front P front (drop failed files) all))

fails_replacing : (files : List NewText) (texts : Texts) (failed : ℕ) (asked replacing : List Call) → AreApart files → HasNoTemporaries files texts
    → asked ≡ flat_map makes files ++ replacing → StopsReplacing files failed replacing → AreWritten (take failed files) texts (after asked texts)
fails_replacing files texts failed asked replacing apart free both stops =
    let front = take failed files in
    let made = after (flat_map makes files) texts in
    let left = ap (λ calls. after calls texts) both ∙ after-append (flat_map makes files) replacing texts ∙ ap (λ calls. after calls made) stops.3
    ∙ in_turn (flat_map replaces front) (fails_to_replace stops.1 stops.0) (map removes (drop failed files)) made (idle_replacing stops.1 stops.0 _) in
    subst (AreWritten front texts) (sym left) (written_cut files front (drop failed files) texts (take-append-drop failed files) apart free)

nothing_asked : (files : List NewText) (texts : Texts) (asked : List Call) → asked ≡ [] → AreWritten [] texts (after asked texts)
nothing_asked files texts asked none =
    subst (λ calls. AreWritten [] texts (after calls texts)) (sym none)
    (record { files_written = All-nil (λ file. texts file.path.now ≡ Some file.new.now); others_kept = λ path _. refl })

pub fails : (files : List NewText) (texts : Texts) (e : WriteError) (asked : List Call) → HasNoTemporaries files texts → Stops files e asked
    → AreWritten (take e.written files) texts (after asked texts)
fails files texts e asked free stops =
    let P : ℕ → Type 0 = λ written. AreWritten (take written files) texts (after asked texts) in
    elim stops [
      | inl at_once ↦ subst P (sym at_once.1.0) (nothing_asked files texts asked at_once.0)
      | inr later ↦
          elim later.1 [
            | inl making ↦ subst P (sym making.0) (fails_making files texts e.failed asked free making.1)
            | inr replacing ↦ subst P (sym replacing.1) (fails_replacing files texts e.failed asked replacing.0 later.0 free replacing.2 replacing.3)
          ]
    ]
