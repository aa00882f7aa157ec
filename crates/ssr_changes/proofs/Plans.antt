-- What is planned of changes, one after the other, and the names of files that are planned.
use Rattle.std.proofs.Common.{◌≡◌, ◌≢◌, ℕ, ◌+◌, ◌<◌, ◌||◌, cond, Bool, true, false, is_some, List, [], ◌∷◌, ◌++◌, length, get_or, take, drop, map, All, Option, Some, None, string_bytes, refl, ap, sym, subst, ◌∙◌, append-nil, arith}
use Rattle.std.specs.Prelude.{Contains, String}
use Rattle.std.specs.BTreeMap.{BTreeMap, UpdatesBy, get_by_text}
use Rattle.std.specs.Cmp.Lexicographic.{slice_cmp}
use Rattle.std.specs.List.{list_any}
use Rattle.std.specs.Ordering.{nat_cmp}
use Rattle.std.specs.Str.{bytes_eq}
use Rattle.std.specs.String.{string_cmp}
use Rattle.std.specs.declared.alloc.Global.{Global}
use Rattle.std.proofs.lemmas.List.{drop_more, get_or-map, length-map, map-append, take_more, take-append-drop}
use Rattle.std.proofs.lemmas.List.Elements.{All-push, filter_more}
use Rattle.std.proofs.lemmas.List.Folds.{list_any-append, list_any_at}
use Rattle.std.proofs.lemmas.List.Quantifiers.{all_pairs_push}
use Rattle.std.proofs.lemmas.Map.Text.{btree_map_updates_text}
use Rattle.std.proofs.lemmas.Map.Views.{Contains-from_any}
use Rattle.std.proofs.lemmas.Simd.{map-map}
use Rattle.std.proofs.lemmas.Slice.Eq.{bytes_eq-Decides}
use Rattle.ssr_changes.specs.declared.changing.FileChange.{FileChange}
use Rattle.ssr_changes.specs.declared.planning.Planned.{Planned}
use Rattle.ssr_changes.specs.declared.plan_error.PlanError.{PlanError}
use Rattle.ssr_changes.specs.declared.plan_error.PlanError.TheVariants as errors
use Rattle.ssr_changes.specs.Files.{File}
use Rattle.ssr_changes.specs.Naming.{is_below_target, is_inside}
use Rattle.ssr_changes.specs.Planning.{ComesTwice, HasDiff, IsFault, giving_another, is_another, name_in, numbers, text_by, text_of}
use Rattle.ssr_changes.specs.Private.Planning.{ArePlanned, HaveNames, IsNameFault}

-- ** What is planned.

module _ (files : List File) (made : List FileChange) (i : ℕ) (c : FileChange) (less : i < length made) (its : c ≡ get_or made i c) where
  giving_more : (b : Bool) → is_another files c ≡ b → giving_another files (take (i + 1) made) ≡ giving_another files (take i made) ++ cond b (c ∷ []) []
  giving_more b is =
      filter_more (is_another files) made i c less
      ∙ ap (λ (x : FileChange). giving_another files (take i made) ++ cond (is_another files x) (x ∷ []) []) (sym its)
      ∙ ap (λ b. giving_another files (take i made) ++ cond b (c ∷ []) []) is

  -- a change by which its file keeps its text
  pub none_planned : (plan : List Planned) → is_another files c ≡ false → ArePlanned files (take i made) plan → ArePlanned files (take (i + 1) made) plan
  none_planned plan keeps so_far = record {
    texts = so_far.texts ∙ ap (map text_by) (sym (giving_more false keeps ∙ append-nil (giving_another files (take i made))));
    diffs = so_far.diffs;
  }

  -- one that gives it another
  pub one_planned : (plan grown : List Planned) (p : Planned) → grown ≡ plan ++ p ∷ [] → is_another files c ≡ true → text_of p ≡ text_by c → HasDiff files p
      → ArePlanned files (take i made) plan → ArePlanned files (take (i + 1) made) grown
  one_planned plan grown p more gives same diff so_far = record {
    texts =
        ap (map text_of) more
        ∙ map-append text_of plan (p ∷ [])
        ∙ ap (λ (ts : List (ℕ × List ℕ)). ts ++ text_of p ∷ []) so_far.texts
        ∙ ap (λ (t : ℕ × List ℕ). map text_by (giving_another files (take i made)) ++ t ∷ []) same
        ∙ sym (map-append text_by (giving_another files (take i made)) (c ∷ []))
        ∙ ap (map text_by) (sym (giving_more true gives));
    diffs = subst (All (HasDiff files)) (sym more) (All-push (HasDiff files) plan p so_far.diffs diff);
  }

-- ** Names.

-- the names of the files planned
abbrev pub names_of : List File → List Planned → List (List ℕ)
names_of files plan = map (λ p. name_in files p.file) plan

-- a name is one of these
abbrev pub is_among : List (List ℕ) → List ℕ → Bool
is_among names name = list_any (λ other. bytes_eq other name) names

-- a map has a name
abbrev pub knows : {X : Type 0} → BTreeMap (String Global) X → List ℕ → Bool
knows names name = is_some (get_by_text names name)

some_or : {X : Type 0} (b : Bool) (u : X) (o : Option X) → is_some (cond b (Some u) o) ≡ (is_some o || (b || false))
some_or true u (Some x) = refl
some_or true u None = refl
some_or false u (Some x) = refl
some_or false u None = refl

-- one name more
pub knows_more : {X : Type 0} (old new : BTreeMap (String Global) X) (u : X) (name : List ℕ) (all : List (List ℕ))
    → UpdatesBy string_cmp (λ k. slice_cmp nat_cmp name (string_bytes k)) old new (Some u)
    → ((other : List ℕ) → knows old other ≡ is_among all other) → (other : List ℕ) → knows new other ≡ is_among (all ++ name ∷ []) other
knows_more old new u name all updates so_far other =
    ap is_some (btree_map_updates_text name old new (Some u) updates other)
    ∙ some_or (bytes_eq name other) u (get_by_text old other)
    ∙ ap (λ b. b || (bytes_eq name other || false)) (so_far other)
    ∙ sym (list_any-append (λ n. bytes_eq n other) all (name ∷ []))

none_among : (files : List File) (plan : List Planned) (name : List ℕ) → is_among (names_of files plan) name ≡ false → (k : ℕ) (d : Planned) → k < length plan
    → name_in files (get_or plan k d).file ≢ name
none_among files plan name none k d below same =
    let there : bytes_eq (get_or (names_of files plan) k name) name ≡ true =
    (bytes_eq-Decides (get_or (names_of files plan) k name) name).1 (get_or-map (λ q. name_in files q.file) plan k d name below ∙ same) in
    let long : length (names_of files plan) ≡ length plan = length-map plan (λ q. name_in files q.file) in
    let found : is_among (names_of files plan) name ≡ true = list_any_at (λ other. bytes_eq other name) (names_of files plan) k name (omega arith) there in
    let wrong : true ≡ false = sym found ∙ none in
    cc

-- ** One file more.

module _ (files : List File) (plan : List Planned) (i : ℕ) (p : Planned) (less : i < length plan) (its : p ≡ get_or plan i p) where
  one_more : take (i + 1) plan ≡ take i plan ++ p ∷ []
  one_more = take_more plan i p less ∙ ap (λ (q : Planned). take i plan ++ q ∷ []) (sym its)

  cut : plan ≡ take i plan ++ p ∷ drop (i + 1) plan
  cut = sym (take-append-drop i plan) ∙ ap (λ (rest : List Planned). take i plan ++ rest) (drop_more plan i p less ∙ ap (λ (q : Planned). q ∷ drop (i + 1) plan) (sym its))

  -- its name may stand there, and isn't among the others
  pub names_more : is_inside (name_in files p.file) ≡ true → is_below_target (name_in files p.file) ≡ false
      → is_among (names_of files (take i plan)) (name_in files p.file) ≡ false → HaveNames files (take i plan) → HaveNames files (take (i + 1) plan)
  names_more inside beside new so_far = subst (HaveNames files) (sym one_more) (record {
    inside = All-push (λ q. is_inside (name_in files q.file) ≡ true) (take i plan) p so_far.inside inside;
    beside_target = All-push (λ q. is_below_target (name_in files q.file) ≡ false) (take i plan) p so_far.beside_target beside;
    once =
        all_pairs_push (λ q r. name_in files q.file ≢ name_in files r.file) (take i plan) p so_far.once
        (λ k d below. none_among files (take i plan) (name_in files p.file) new k d below);
  })

  -- the names that are known then
  pub among_more : {X : Type 0} (old new : BTreeMap (String Global) X) (u : X) (name : List ℕ) → name ≡ name_in files p.file
      → UpdatesBy string_cmp (λ k. slice_cmp nat_cmp name (string_bytes k)) old new (Some u)
      → ((other : List ℕ) → knows old other ≡ is_among (names_of files (take i plan)) other)
      → (other : List ℕ) → knows new other ≡ is_among (names_of files (take (i + 1) plan)) other
  among_more old new u name is updates so_far other =
      knows_more old new u name (names_of files (take i plan)) updates so_far other
      ∙ ap (λ (n : List ℕ). is_among (names_of files (take i plan) ++ n ∷ []) other) is
      ∙ ap (λ (names : List (List ℕ)). is_among names other) (sym (ap (names_of files) one_more ∙ map-append (λ q. name_in files q.file) (take i plan) (p ∷ [])))

  -- its name is among the others
  pub comes_twice : is_among (names_of files (take i plan)) (name_in files p.file) ≡ true → ComesTwice files (map (λ q. q.file) plan) p.file
  comes_twice known =
      let found : Contains (names_of files (take i plan)) (name_in files p.file) =
      Contains-from_any {eq = λ x y. bytes_eq y x} (λ x y same. sym ((bytes_eq-Decides y x).0 same)) (name_in files p.file) (names_of files (take i plan)) known in (
        map (λ q. q.file) (take i plan),
        map (λ q. q.file) (drop (i + 1) plan),
        ap (map (λ q. q.file)) cut ∙ map-append (λ q. q.file) (take i plan) (p ∷ drop (i + 1) plan),
        subst (λ (names : List (List ℕ)). Contains names (name_in files p.file)) (sym (map-map (name_in files) (λ q. q.file) (take i plan))) found,
      )

-- ** What is wrong with a plan is wrong with a change.

pub fault_is : (files : List File) (made : List FileChange) (plan slice : List Planned) (e : PlanError) → slice ≡ plan
    → map text_of plan ≡ map text_by (giving_another files made) → IsNameFault files slice e → IsFault files made e
fault_is files made plan slice e its texts fault = of_numbers e fault
  where
    same : map (λ p. p.file) slice ≡ numbers files made
    same =
        ap (map (λ p. p.file)) its
        ∙ sym (map-map (λ (t : ℕ × List ℕ). t.0) text_of plan)
        ∙ ap (map (λ (t : ℕ × List ℕ). t.0)) texts
        ∙ map-map (λ (t : ℕ × List ℕ). t.0) text_by (giving_another files made)

    of_numbers : (e : PlanError) → IsNameFault files slice e → IsFault files made e
    of_numbers (errors.Outside n) fault = (subst (λ (ns : List ℕ). Contains ns n) same fault.0, fault.1)
    of_numbers (errors.BelowTarget n) fault = (subst (λ (ns : List ℕ). Contains ns n) same fault.0, fault.1)
    of_numbers (errors.Twice n) fault = subst (λ (ns : List ℕ). ComesTwice files ns n) same fault
    of_numbers errors.Memory fault = tt
