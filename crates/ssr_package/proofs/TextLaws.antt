-- Texts that were read, and more of them.
use Rattle.std.proofs.Common.{◌≡◌, List, [], ◌∷◌, ◌++◌, String, All, map, string_bytes, Result, Ok, Err, IfOk, refl, ap, sym, subst, ◌∙◌}
use Rattle.std.specs.BTreeMap.{insert_entry}
use Rattle.std.specs.Map.{keys_of}
use Rattle.std.specs.List.Sorted.{IsStrictlySortedBy}
use Rattle.std.specs.Ordering.{is_eq, match_ordering}
use Rattle.std.specs.String.{string_cmp}
use Rattle.std.specs.declared.alloc.Global.{Global}
use Rattle.std.specs.declared.cmp.Ordering.{Ordering}
use Rattle.std.specs.declared.cmp.Ordering.TheVariants.{Less, Equal, Greater}
use Rattle.std.proofs.lemmas.List.Elements.{All-nil, All-cons, All-head, All-tail, All-same, All-weaker, Contains-append_left, Contains-push}
use Rattle.std.proofs.lemmas.Map.Text.{is_eq-slice_cmp}
use Rattle.std.proofs.lemmas.Slice.Eq.{bytes_eq-Decides}
use Rattle.ssr_package.specs.declared.source_file.SourceFile.{SourceFile}
use Rattle.ssr_package.specs.declared.texts.Texts.{Texts}
use Rattle.ssr_package.specs.Paths.{Text}
use Rattle.ssr_package.specs.Reads.{AreInOrder, AreRead, Gave, WasRead, given, place}
use Rattle.ssr_package.specs.Private.Texts.{AreKept, Named, named}

-- the text was read at the place of its name
abbrev IsKept : List Gave → Text → Named → Type 0
IsKept gave folder text = WasRead gave folder (string_bytes text.0) (string_bytes text.1)

-- ** What was given.

-- it stays given
pub kept_more : (gave more grown : List Gave) (texts : Texts) → grown ≡ gave ++ more → AreKept gave texts → AreKept grown texts
kept_more gave more grown texts is kept =
    let folder : Text = string_bytes texts.folder in
    record {
      each = All-weaker (IsKept gave folder) (IsKept grown folder)
          (λ text was. subst (λ all. IsKept all folder text) (sym is) (Contains-append_left gave more _ was)) texts.by_name.entries kept.each;
    }

-- what is given last
pub given_last : {E F : Type 0} (old new : List Gave) (folder at name : Text) (r : Result (Result (String Global) E) F) → at ≡ folder → new ≡ old ++ given (place at name) r
    → IfOk r (λ read. IfOk read (λ text. WasRead new folder name (string_bytes text)))
given_last old new folder at name (Ok (Ok text)) same is =
    subst (λ f. WasRead new f name (string_bytes text)) same
    (subst (λ all. WasRead all at name (string_bytes text)) (sym is) (Contains-push old (place at name, string_bytes text)))
given_last old new folder at name (Ok (Err why)) same is = tt
given_last old new folder at name (Err why) same is = tt

-- ** One text more.

same_bytes : (one other : String Global) → Equal ≡ string_cmp one other → string_bytes other ≡ string_bytes one
same_bytes one other is =
    sym ((bytes_eq-Decides (string_bytes one) (string_bytes other)).0
    (sym (is_eq-slice_cmp (string_bytes one) (string_bytes other)) ∙ sym (ap is_eq is)))

in_place : (P : Named → Type 0) (e : Named) (es behind : List Named) (name text : String Global) (o : Ordering) → o ≡ string_cmp name e.0
    → ((other : String Global) → string_bytes other ≡ string_bytes name → P (other, text)) → All P (e ∷ es) → All P behind
    → All P (match_ordering o ((name, text) ∷ e ∷ es) ((e.0, text) ∷ es) (e ∷ behind))
in_place P e es behind name text Less is new all rest = All-cons P (name, text) (e ∷ es) (new name refl) all
in_place P e es behind name text Equal is new all rest = All-cons P (e.0, text) es (new e.0 (same_bytes name e.0 is)) (All-tail P e es all)
in_place P e es behind name text Greater is new all rest = All-cons P e behind (All-head P e es all) rest

all_inserted : (P : Named → Type 0) (es : List Named) (name text : String Global) → ((other : String Global) → string_bytes other ≡ string_bytes name → P (other, text))
    → All P es → All P (insert_entry string_cmp es name text)
all_inserted P [] name text new all = All-cons P (name, text) [] (new name refl) all
all_inserted P (e ∷ es) name text new all =
    in_place P e es (insert_entry string_cmp es name text) name text (string_cmp name e.0) refl new all
    (all_inserted P es name text new (All-tail P e es all))

pub kept_added : (gave : List Gave) (old new : Texts) (name text : String Global) → new.folder ≡ old.folder → new.by_name.entries ≡ insert_entry string_cmp old.by_name.entries name text
    → AreKept gave old → WasRead gave (string_bytes old.folder) (string_bytes name) (string_bytes text) → AreKept gave new
kept_added gave old new name text same is kept was =
    let P : Named → Type 0 = IsKept gave (string_bytes old.folder) in
    record {
      each = subst (λ folder. All (IsKept gave (string_bytes folder)) new.by_name.entries) (sym same)
          (All-same P new.by_name.entries (insert_entry string_cmp old.by_name.entries name text) is
          (all_inserted P old.by_name.entries name text (λ other alike. subst (λ n. WasRead gave (string_bytes old.folder) n (string_bytes text)) (sym alike) was) kept.each));
    }

pub kept_same : (gave : List Gave) (old new : Texts) → new.folder ≡ old.folder → new.by_name.entries ≡ old.by_name.entries → AreKept gave old → AreKept gave new
kept_same gave old new same is kept =
    record {
      each = subst (λ folder. All (IsKept gave (string_bytes folder)) new.by_name.entries) (sym same)
          (All-same (IsKept gave (string_bytes old.folder)) new.by_name.entries old.by_name.entries is kept.each);
    }

-- ** Files of texts.

all_before : {A B : Type 0} (P : B → Type 0) (f : A → B) (xs : List A) → All P (map f xs) → All (λ x. P (f x)) xs
all_before P f [] all = All-nil (λ x. P (f x))
all_before P f (x ∷ xs) all =
    All-cons (λ x. P (f x)) x xs (All-head P (f x) (map f xs) all) (all_before P f xs (All-tail P (f x) (map f xs) all))

pub files_read : (gave : List Gave) (texts : Texts) (files : List SourceFile) → map named files ≡ texts.by_name.entries → AreKept gave texts → AreRead gave (string_bytes texts.folder) files
files_read gave texts files is kept =
    let P : Named → Type 0 = IsKept gave (string_bytes texts.folder) in
    all_before P named files (All-same P (map named files) texts.by_name.entries is kept.each)

names : (files : List SourceFile) → keys_of (map named files) ≡ map (λ file. file.name) files
names [] = refl
names (file ∷ files) = ap (λ rest. file.name ∷ rest) (names files)

pub files_ordered : (files : List SourceFile) (entries : List Named) → map named files ≡ entries → IsStrictlySortedBy string_cmp (keys_of entries) → AreInOrder files
files_ordered files entries is ordered =
    subst (IsStrictlySortedBy string_cmp) (ap keys_of (sym is) ∙ names files) ordered
