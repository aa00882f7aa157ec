-- What is found among entries, what comes in by `*`, and what blocks have around them.
use Rattle.std.proofs.Common.{◌≡◌, ℕ, ◌+◌, ◌-◌, ◌<◌, ◌≤◌, Bool, true, false, ◌&&◌, true≢false, List, [], ◌∷◌, ◌++◌, length, take, drop, get_or, slice_get, Contains, All, Some, refl, sym, ap, ◌∙◌, subst, inl, inr, ◌⊎◌, arith, add-one, length-take, length-drop, get_or-take, get_or-drop}
use Rattle.std.proofs.Math.Seq.{take-suc}
use Rattle.std.proofs.lemmas.Bool.Decides.{nat_tests}
use Rattle.std.proofs.lemmas.List.Elements.{All-take, All-drop, All-same, All-push, All-contains, All-contains_itself, Contains-append_left, Contains-push}
use Rattle.std.proofs.lemmas.Option.{same_Some, slice_get_within, get_or_from_slice_get}
use Rattle.std.specs.List.Sorted.{IsNonDecreasingBy, IsPartitionedBy, IsPartitionPoint}
use Rattle.std.specs.Prelude.{not}
use Rattle.ssr_names_items.specs.declared.table.ModuleNo.{ModuleNo}
use Rattle.ssr_names_items.specs.declared.table.ImportNo.{ImportNo}
use Rattle.ssr_names_items.specs.declared.table.Thing.{Thing}
use Rattle.ssr_names_items.specs.declared.table.Thing.TheVariants as things
use Rattle.ssr_names_items.specs.declared.table.Entry.{Entry}
use Rattle.ssr_names_items.specs.declared.table.Module.{Module}
use Rattle.ssr_names.specs.declared.definitions.Definition.{Definition}
use Rattle.ssr_names.specs.declared.definitions.Meaning.TheVariants as meanings
use Rattle.ssr_names.specs.declared.lookup.Question.{Question}
use Rattle.ssr_names.specs.declared.lookup.Found.{Found}
use Rattle.ssr_names.specs.declared.space.Space.{Space}
use Rattle.ssr_names.specs.Lookup.{rank_of, Counts, IsDeclared, IsAbove, IsAmong, Finds, IsEverywhere, IsNothing, IsAroundBlock, IsFree, IsOrdered, IsOutermost, IsTop, IsWithin, within_itself, within_below, found_here, found_around, found_everywhere, has_declared, has_brought, Reaches}
use Rattle.ssr_names.specs.Private.Answered.{is_before, is_behind, is_declared, is_import, IsRanked, HasSure, IsBrought, IsBroughtIn, IsDeclaredAs, IsUnread, IsFoundAmong, IsInModule, IsSurelyAround, surely_here, surely_declared, surely_brought}
use Rattle.ssr_names_items.specs.declared.table.Namespace.TheVariants as ns
use Rattle.ssr_names_items.specs.declared.table.Visibility.TheVariants as visible
use Rattle.ssr_names.specs.declared.definitions.Meaning.{Meaning}
use Rattle.ssr_names.specs.Private.Meanings.{is_something}
use Rattle.ssr_names.specs.Private.Found.{Adds, Hides, Joins, found_of}
use Rattle.ssr_names.proofs.Climbing.{one_more, none_in}

-- ** Parts of lists.

-- what is in a part of a list is in the list
pub part_all : {X : Type 0} (xs ys : List X) (n m : ℕ) → ys ≡ take n (drop m xs) → All (Contains xs) ys
part_all xs ys n m is = All-same (Contains xs) ys (take n (drop m xs)) is (All-take (Contains xs) n (drop m xs) (All-drop (Contains xs) m xs (All-contains_itself xs)))

-- ** The entries of a rank.

-- entries that stand in order are parted by each rank
pub before_parts : (entries : List Entry) → IsNonDecreasingBy rank_of entries → (r : ℕ) → IsPartitionedBy (λ e. is_before e r) entries
before_parts entries up r i j d le within test =
    let less : rank_of (get_or entries i d) ≤ rank_of (get_or entries j d) = up i j d le within in
    grind (arith, nat_tests)

pub behind_parts : (entries : List Entry) → IsNonDecreasingBy rank_of entries → (r : ℕ) → IsPartitionedBy (λ e. not (is_behind e r)) entries
behind_parts entries up r i j d le within test =
    let less : rank_of (get_or entries i d) ≤ rank_of (get_or entries j d) = up i j d le within in
    grind (arith, nat_tests)

module _ (entries : List Entry) (r first past : ℕ)
    (before : IsPartitionPoint (λ e. is_before e r ≡ true) (λ e. is_before e r ≡ false) entries first)
    (behind : IsPartitionPoint (λ e. not (is_behind e r) ≡ true) (λ e. not (is_behind e r) ≡ false) entries past)
    (bound : past ≤ length entries) (e : Entry) (had : Contains entries e) (ranked : rank_of e ≡ r) where
  not_before : (k : ℕ) → k < length entries → get_or entries k e ≡ e → k < first → ⊥
  not_before k within is early =
      let here : is_before e r ≡ true = subst (λ x. is_before x r ≡ true) is (before.0 k e (omega arith) early) in
      absurd (grind (arith, nat_tests))

  not_behind : (k : ℕ) → k < length entries → get_or entries k e ≡ e → past ≤ k → ⊥
  not_behind k within is late =
      let here : not (is_behind e r) ≡ false = subst (λ x. not (is_behind x r) ≡ false) is (behind.1 k e late within) in
      absurd (grind (arith, nat_tests))

  pub first_past : first ≤ past
  first_past =
      let one : had.0 < first → ⊥ = not_before had.0 had.1 had.2 in
      let other : past ≤ had.0 → ⊥ = not_behind had.0 had.1 had.2 in
      omega arith

  pub among_ranked : Contains (take (past - first) (drop first entries)) e
  among_ranked =
      let one : had.0 < first → ⊥ = not_before had.0 had.1 had.2 in
      let other : past ≤ had.0 → ⊥ = not_behind had.0 had.1 had.2 in
      let at : first + (had.0 - first) ≡ had.0 = omega arith in
      let small : had.0 - first < past - first = omega arith in (
        had.0 - first,
        simp (length-take, length-drop) (omega arith),
        rw (get_or-take, get_or-drop) (ap (λ k. get_or entries k e) at ∙ had.2),
      )

-- ** Entries, one by one.

module _ (space : Space) (m : ModuleNo) (question : Question) (entries : List Entry) (picks : Thing → Bool) (i : ℕ) (entry : Entry)
    (within : i < length entries) (is : get_or entries i entry ≡ entry) where
  next : take (i + 1) entries ≡ take i entries ++ entry ∷ []
  next = ap (λ n. take n entries) (add-one i) ∙ take-suc entries i entry within ∙ ap (λ e. take i entries ++ e ∷ []) is

  still : (e : Entry) → Contains (take i entries) e → Contains (take (i + 1) entries) e
  still e had = subst (λ es. Contains es e) (sym next) (Contains-append_left (take i entries) (entry ∷ []) e had)

  last : Contains (take (i + 1) entries) entry
  last = subst (λ es. Contains es entry) (sym next) (Contains-push (take i entries) entry)

  wider : (d : Definition) → IsAmong space m question (take i entries) d → IsAmong space m question (take (i + 1) entries) d
  wider d one = record { entry = one.entry; among = still one.entry one.among; counts = one.counts; stands = one.stands }

  surer : HasSure space m question (take i entries) → HasSure space m question (take (i + 1) entries)
  surer one = record { entry = one.entry; among = still one.entry one.among; counts = one.counts; sure = one.sure; something = one.something }

  pub found_more : (old new : Found) → Adds space m question entry picks old new → IsFoundAmong space m question (take i entries) picks old
      → IsFoundAmong space m question (take (i + 1) entries) picks new
  found_more old new adds so_far = record {
    means = λ d means. elim (adds.means d means) [
      | inl had ↦ wider d (so_far.means d had)
      | inr one ↦ record { entry = entry; among = last; counts = one.0; stands = one.1 }
    ];
    sure = λ sure. elim (adds.sure sure) [
      | inl had ↦ surer (so_far.sure had)
      | inr one ↦ record { entry = entry; among = last; counts = one.0; sure = one.1; something = one.2 }
    ];
    free = λ unsure ordered e had. elim (one_more entries i entry e within is had) [
      | inl before ↦ so_far.free (adds.unsure unsure).0 ordered e before
      | inr same ↦ subst (λ (e : Entry). picks e.thing ≡ true → Counts space m question e → e.is_sure ≡ true → IsNothing space question.namespace e.thing) same
          ((adds.unsure unsure).1 ordered)
    ];
  }

pub found_nothing : (space : Space) (m : ModuleNo) (question : Question) (entries : List Entry) (picks : Thing → Bool) (found : Found)
    → found.meaning ≡ meanings.Nothing → found.is_sure ≡ false → IsFoundAmong space m question (take 0 entries) picks found
found_nothing space m question entries picks found nothing unsure = record {
  means = λ d is. cc;
  sure = λ sure. absurd (true≢false (sym sure ∙ unsure));
  free = λ _ _ e had _ _ _. absurd (none_in e had);
}

-- ** What is above.

pub above_one : (space : Space) (m up other : ModuleNo) → IsAbove space m up → IsAbove space m other → up ≡ other
above_one space m up other one two =
    let row = same_Some one.row two.row (sym one.is ∙ two.is) in
    same_Some up other (sym one.parent ∙ ap (λ (r : Module). r.parent) row ∙ two.parent)

-- a module within another one that it isn't stands below what is above it
pub within_up : (space : Space) (m up outer : ModuleNo) → IsAbove space m up → (m ≡ outer → ⊥) → IsWithin space m outer → IsWithin space up outer
within_up space m up outer above differs (within_itself _) = absurd (differs refl)
within_up space m up outer above differs (within_below _ other _ is rest) = subst (λ x. IsWithin space x outer) (above_one space m other up is above) rest

-- ** Climbing to what is around.

-- after so many steps up
abbrev pub Climbs : Space → ModuleNo → ModuleNo → ℕ → Type 0
Climbs space m at step = IsOrdered space → (at.0 + step ≤ m.0) × ((m.0 < length space.table.now.modules.items) ⊎ (at ≡ m))

above_within : (space : Space) (m up : ModuleNo) → IsAbove space m up → m.0 < length space.table.now.modules.items
above_within space m up above = slice_get_within space.table.now.modules.items m.0 above.row above.is

pub climbs_first : (space : Space) (m : ModuleNo) → Climbs space m m 0
climbs_first space m ordered = (omega arith, inr refl)

pub climbs_on : (space : Space) (m at up : ModuleNo) (step : ℕ) → IsAbove space at up → Climbs space m at step → Climbs space m up (step + 1)
climbs_on space m at up step above so_far ordered =
    let had = so_far ordered in
    let less : up.0 < at.0 = ordered.nested at up above.row above.is above.parent in
    let within = above_within space at up above in (
      omega arith,
      elim had.1 [
        | inl known ↦ inl known
        | inr same ↦ inl (subst (λ (x : ModuleNo). x.0 < length space.table.now.modules.items) same within)
      ],
    )

-- after as many steps as there are modules none is above
pub climbs_none : (space : Space) (m at : ModuleNo) (step : ℕ) → length space.table.now.modules.items ≤ step → Climbs space m at step → IsOrdered space → IsTop space at
climbs_none space m at step all so_far ordered up above =
    let had = so_far ordered in
    let within = above_within space at up above in
    elim had.1 [
      | inl known ↦ absurd (omega arith)
      | inr same ↦ (let number = ap (λ (x : ModuleNo). x.0) same in absurd (omega arith))
    ]

pub climbs_free : (space : Space) (m at : ModuleNo) (step : ℕ) (question : Question) → length space.table.now.modules.items ≤ step → Climbs space m at step
    → IsFree space at question
climbs_free space m at step question all so_far ordered entry among counts sure =
    let had = so_far ordered in
    let housed : at.0 < length space.table.now.modules.items =
    subst (λ (x : ModuleNo). x.0 < length space.table.now.modules.items) counts.within (ordered.housed entry among) in
    elim had.1 [
      | inl known ↦ absurd (omega arith)
      | inr same ↦ (let number = ap (λ (x : ModuleNo). x.0) same in absurd (omega arith))
    ]

-- above what is no block stands none in which it is one
pub block_above : (space : Space) (m up : ModuleNo) → IsAroundBlock space m up → IsAbove space m up
block_above space m up around = record { row = around.row; is = around.is; parent = around.parent }

pub top_outermost : (space : Space) (m : ModuleNo) → IsTop space m → IsOutermost space m
top_outermost space m top up around = top up (block_above space m up around)

-- what nothing is around is within itself alone
pub within_top : (space : Space) (m outer : ModuleNo) → IsTop space m → (m ≡ outer → ⊥) → IsWithin space m outer → ⊥
within_top space m outer top differs (within_itself _) = differs refl
within_top space m outer top differs (within_below _ up _ is rest) = top up is

-- ** What a module declares, of the entries that were looked at.

picked : (t : Thing) → (is_declared t ≡ true) ⊎ (is_import t ≡ true)
picked (things.Item i) = inl refl
picked (things.Module m) = inl refl
picked (things.Import i) = inr refl
picked (things.Crate name) = inl refl
picked things.Unknown = inl refl

module _ (space : Space) (m : ModuleNo) (question : Question) (entries : List Entry) (among : All (Contains space.table.now.entries.items) entries) where
  pub declared_in : (d : Definition) → IsAmong space m question entries d → IsDeclared space m question d
  declared_in d one = record {
    entry = one.entry;
    among = All-contains (Contains space.table.now.entries.items) entries one.entry among one.among;
    counts = one.counts;
    stands = one.stands;
  }

  pub sure_in : HasSure space m question entries → HasSure space m question space.table.now.entries.items
  sure_in one = record {
    entry = one.entry;
    among = All-contains (Contains space.table.now.entries.items) entries one.entry among one.among;
    counts = one.counts;
    sure = one.sure;
    something = one.something;
  }

  pub free_in : (IsOrdered space → (e : Entry) → Contains space.table.now.entries.items e → IsRanked m question.name e → Contains entries e)
      → (declared imported : Found) → IsFoundAmong space m question entries is_declared declared → IsFoundAmong space m question entries is_import imported
      → declared.is_sure ≡ false → imported.is_sure ≡ false → IsFree space m question
  free_in complete declared imported of_items of_imports one two ordered e had counts sure =
      let here = complete ordered e had (counts.within, counts.named) in
      elim (picked e.thing) [
        | inl item ↦ of_items.free one ordered e here item counts sure
        | inr import ↦ of_imports.free two ordered e here import counts sure
      ]

-- ** One block further out.

module _ (space : Space) (question : Question) (m at : ModuleNo) (old here new : Found) (in_here : IsInModule space at question here) (hides : Hides old here new)
    (means : (d : Definition) → old.meaning ≡ meanings.One d → Finds space question m d) (sure : old.is_sure ≡ true → IsSurelyAround space question m)
    (out : old.is_sure ≡ false → (d : Definition) → Finds space question at d → Finds space question m d)
    (surely : IsSurelyAround space question at → IsSurelyAround space question m) where
  pub means_on : (d : Definition) → new.meaning ≡ meanings.One d → Finds space question m d
  means_on d is =
      elim (hides.means d is) [
        | inl had ↦ means d had
        | inr one ↦ out one.0 d (found_here at d (in_here.means d one.1))
      ]

  pub sure_on : new.is_sure ≡ true → IsSurelyAround space question m
  sure_on is = elim (hides.sure is) [ inl had ↦ sure had | inr one ↦ surely (surely_here at (in_here.sure one)) ]

  pub out_on : (up : ModuleNo) → IsAroundBlock space at up → new.is_sure ≡ false → (d : Definition) → Finds space question up d → Finds space question m d
  out_on up around unsure d found =
      out (hides.unsure unsure).0 d (found_around at up d around (in_here.free (hides.unsure unsure).1) found)

  pub everywhere_on : (IsOrdered space → IsOutermost space at) → new.is_sure ≡ false → (d : Definition) → IsEverywhere space question d → Finds space question m d
  everywhere_on outermost unsure d is =
      out (hides.unsure unsure).0 d (found_everywhere at d (in_here.free (hides.unsure unsure).1) outermost is)

-- ** What comes in by `*`.

module _ (space : Space) (m : ModuleNo) (question : Question) where
  pub brought_none : (found : Found) → IsUnread found → IsBroughtIn space m question found
  brought_none found unread = record {
    means = λ d is. absurd (unread.means d is);
    sure = λ is. absurd (true≢false (sym is ∙ unread.unsure));
  }

  pub brought_more : (i : ImportNo) (old one new : Found) → Reaches space m question i → IsBroughtIn space m question old → IsBrought space question i one → Joins old one new
      → IsBroughtIn space m question new
  brought_more i old one new reaches had more joins = record {
    means = λ d is. elim (joins.means d is) [ inl before ↦ had.means d before | inr here ↦ (i, reaches, more.means d here) ];
    sure = λ is. elim (joins.sure is) [ inl before ↦ had.sure before | inr here ↦ (i, reaches, more.sure here) ];
  }

  pub declared_alone : (found : Found) → IsDeclaredAs space m question found → IsInModule space m question found
  declared_alone found is = record {
    means = λ d one. has_declared d (is.means d one);
    sure = λ sure. surely_declared (is.sure sure);
    free = is.free;
  }

  pub declared_first : (explicit globs found : Found) → IsDeclaredAs space m question explicit → IsBroughtIn space m question globs → Hides explicit globs found
      → IsInModule space m question found
  declared_first explicit globs found is brought hides = record {
    means = λ d one. elim (hides.means d one) [
      | inl here ↦ has_declared d (is.means d here)
      | inr by ↦ (let b = brought.means d by.1 in has_brought d b.0 (is.free by.0) b.1 b.2)
    ];
    sure = λ one. elim (hides.sure one) [
      | inl here ↦ surely_declared (is.sure here)
      | inr by ↦ (let b = brought.sure by in surely_brought b.0 b.1 b.2)
    ];
    free = λ unsure. is.free (hides.unsure unsure).0;
  }

-- one import more, if it is new
pub reached_more : (space : Space) (root : ModuleNo) (asked : Question) (old new : List ImportNo) (i : ImportNo) → (new ≡ old) ⊎ (new ≡ old ++ i ∷ [])
    → Reaches space root asked i → All (Reaches space root asked) old → All (Reaches space root asked) new
reached_more space root asked old new i added reaches all =
    elim added [
      | inl same ↦ subst (All (Reaches space root asked)) (sym same) all
      | inr more ↦ subst (All (Reaches space root asked)) (sym more) (All-push (Reaches space root asked) old i all reaches)
    ]

-- ** Small things.

-- an entry, where none is there
abbrev pub no_entry : Entry
no_entry = record { «module» = record { 0 = 0 }; name = record { 0 = 0 }; namespace = ns.Type; thing = things.Item (record { 0 = 0 }); visibility = visible.Public; is_sure = false }

both_left : (a b : Bool) → (a && b) ≡ true → a ≡ true
both_left true b is = refl
both_left false b is = is

pub of_means : (m : Meaning) (sure : Bool) (found : Found) (d : Definition) → found ≡ found_of m sure → found.meaning ≡ meanings.One d → m ≡ meanings.One d
of_means m sure found d is means = sym (ap (λ (f : Found). f.meaning) is) ∙ means

pub of_sure : (m : Meaning) (sure : Bool) (found : Found) → found ≡ found_of m sure → found.is_sure ≡ true → sure ≡ true
of_sure m sure found is surely = both_left sure (is_something m) (sym (ap (λ (f : Found). f.is_sure) is) ∙ surely)

pub all_at : {X : Type 0} (P : X → Type 0) (xs : List X) (k : ℕ) (x : X) → All P xs → Some x ≡ slice_get xs k → P x
all_at P xs k x all is =
    subst P (get_or_from_slice_get xs k x x (sym is)) (all k x (slice_get_within xs k x (sym is)))
