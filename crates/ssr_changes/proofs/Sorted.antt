-- Files that are sorted one by one.
use Rattle.std.proofs.Common.{◌≡◌, ℕ, ◌+◌, ◌<◌, ◌≤◌, List, [], ◌∷◌, ◌++◌, length, All, Result, Ok, Err, string_bytes, refl, sym, ◌∙◌, ap, subst, append_assoc, append-nil, arith}
use Rattle.std.specs.Prelude.{◌≢◌, ◌⊎◌, OnOk}
use Rattle.std.specs.declared.alloc.AllocError.{AllocError}
use Rattle.std.proofs.lemmas.List.{length-append}
use Rattle.std.proofs.lemmas.List.Elements.{All-push}
use Rattle.ssr_syntax_kinds.specs.declared.reach.Reach.TheVariants.{Whole}
use Rattle.ssr_syntax_tree.specs.Syntax.{Syntax}
use Rattle.ssr_syntax.specs.Reading.{IsReadOf, file_reading_of}
use Rattle.ssr_syntax.specs.declared.syntax_error.SyntaxError.{SyntaxError}
use Rattle.ssr_syntax.specs.declared.syntax_error.SyntaxError.TheVariants as errors
use Rattle.ssr_base_trees.specs.Built.{most_trees}
use Rattle.ssr_base_trees.specs.Changes.{Change}
use Rattle.ssr_base_trees.specs.Origins.{Span}
use Rattle.ssr_set_aside.specs.SetAside.{SetAside, IsSetAside}
use Rattle.ssr_package.specs.declared.source_file.SourceFile.{SourceFile}
use Rattle.ssr_changes.specs.declared.sorting.Sorted.{Sorted}
use Rattle.ssr_changes.specs.declared.sorting.Unread.{Unread}
use Rattle.ssr_changes.specs.Files.{File, AreSearched, IsSearched}
use Rattle.ssr_changes.specs.Sorting.{AreSorted, IsFileOf, none, read, told}
use Rattle.ssr_changes.specs.Private.Building.{Adds, as_read, as_told}
use Rattle.ssr_changes.proofs.FileLists.{searched_more}

-- what is sorted so far, with any that are left
abbrev pub SortedSoFar : List SourceFile → List SourceFile → Sorted → Type 0
SortedSoFar all left so_far =
    (files : List File) (unread : List Unread) → AreSorted (length so_far.files.items) left files unread
    → AreSorted 0 all (so_far.files.items ++ files) (so_far.unread.items ++ unread)

pub sorted_more : (all left sources : List SourceFile) (source : SourceFile) (old new : Sorted) → left ≡ source ∷ sources → Adds old new source
    → SortedSoFar all left old → SortedSoFar all sources new
sorted_more all left sources source old new step (as_read tree file its searched is few _ grown same) so_far files unread rest =
    let n = length old.files.items in
    let more : length new.files.items ≡ n + 1 = omega (arith, ap length grown, length-append old.files.items (file ∷ [])) in
    let behind : AreSorted (n + 1) sources files unread = subst (λ k. AreSorted k sources files unread) more rest in
    let next : AreSorted n left (file ∷ files) unread =
    subst (λ (l : List SourceFile). AreSorted n l (file ∷ files) unread) (sym step) (read n source sources file files unread its behind) in
    let one : new.files.items ++ files ≡ old.files.items ++ (file ∷ files) = ap (λ (l : List File). l ++ files) grown ∙ append_assoc old.files.items (file ∷ []) files in
    subst (λ (l : List File). AreSorted 0 all l (new.unread.items ++ unread)) (sym one)
    (subst (λ (l : List Unread). AreSorted 0 all (old.files.items ++ (file ∷ files)) (l ++ unread)) (sym same) (so_far (file ∷ files) unread next))
sorted_more all left sources source old new step (as_told one its _ same grown) so_far files unread rest =
    let n = length old.files.items in
    let behind : AreSorted n sources files unread = subst (λ (l : List File). AreSorted (length l) sources files unread) same rest in
    let next : AreSorted n left files (one ∷ unread) =
    subst (λ (l : List SourceFile). AreSorted n l files (one ∷ unread)) (sym step) (told n source sources files one unread its behind) in
    let more : new.unread.items ++ unread ≡ old.unread.items ++ (one ∷ unread) = ap (λ (l : List Unread). l ++ unread) grown ∙ append_assoc old.unread.items (one ∷ []) unread in
    subst (λ (l : List Unread). AreSorted 0 all (new.files.items ++ files) l) (sym more)
    (subst (λ (l : List File). AreSorted 0 all (l ++ files) (old.unread.items ++ (one ∷ unread))) (sym same) (so_far files (one ∷ unread) next))

pub all_sorted : (all left : List SourceFile) (so_far : Sorted) → left ≡ [] → SortedSoFar all left so_far
    → AreSorted 0 all so_far.files.items so_far.unread.items
all_sorted all left so_far nothing sorted =
    let n = length so_far.files.items in
    subst (λ (l : List File). AreSorted 0 all l so_far.unread.items) (append-nil so_far.files.items)
    (subst (λ (l : List Unread). AreSorted 0 all (so_far.files.items ++ []) l) (append-nil so_far.unread.items)
    (sorted [] [] (subst (λ (l : List SourceFile). AreSorted n l [] []) (sym nothing) (none n))))

-- ** A file that is added.

pub set_aside_is : (source : SourceFile) (now : List ℕ) (made : SetAside) (tree : Syntax) (aside : List Change) (reaches unsearched : List Span) (file : File)
    → now ≡ string_bytes source.text
    → file ≡ record { name = string_bytes source.name; text = string_bytes source.text; aside = aside; reaches = reaches; unsearched = unsearched }
    → tree ≡ made.tree → aside ≡ made.aside → reaches ≡ made.reaches → unsearched ≡ made.unsearched → IsSetAside now made → IsReadOf Whole made.tree
    → ((code : Syntax) → file_reading_of Whole now ≡ Ok code → made.aside ≡ []) → IsFileOf source file × IsSearched tree file × IsReadOf Whole tree
set_aside_is source now made tree aside reaches unsearched file its is its_tree its_aside its_reaches its_unsearched set is_read whole =
    let file_text : file.text ≡ now = ap (λ (f : File). f.text) is ∙ sym its in
    let file_aside : file.aside ≡ made.aside = ap (λ (f : File). f.aside) is ∙ its_aside in
    let file_reaches : file.reaches ≡ made.reaches = ap (λ (f : File). f.reaches) is ∙ its_reaches in
    let file_unsearched : file.unsearched ≡ made.unsearched = ap (λ (f : File). f.unsearched) is ∙ its_unsearched in
    let Set : List ℕ → Syntax → List Change → List Span → List Span → Type 0 =
    λ now tree aside reaches unsearched. IsSetAside now (record { tree = tree; aside = aside; reaches = reaches; unsearched = unsearched }) in
    let one : Set file.text made.tree made.aside made.reaches made.unsearched = subst (λ now. Set now made.tree made.aside made.reaches made.unsearched) (sym file_text) set in
    let two : Set file.text tree made.aside made.reaches made.unsearched =
    subst (λ (tree : Syntax). Set file.text tree made.aside made.reaches made.unsearched) (sym its_tree) one in
    let three : Set file.text tree file.aside made.reaches made.unsearched =
    subst (λ (aside : List Change). Set file.text tree aside made.reaches made.unsearched) (sym file_aside) two in
    let four : Set file.text tree file.aside file.reaches made.unsearched =
    subst (λ (reaches : List Span). Set file.text tree file.aside reaches made.unsearched) (sym file_reaches) three in (
      record {
        name = ap (λ (f : File). f.name) is;
        text = ap (λ (f : File). f.text) is;
        as_it_stands = λ code reads. file_aside ∙ whole code (ap (file_reading_of Whole) (sym file_text) ∙ reads);
      },
      subst (Set file.text tree file.aside file.reaches) (sym file_unsearched) four,
      subst (IsReadOf Whole) (sym its_tree) is_read,
    )

-- a file that is told
pub is_told : (old new : Sorted) (source : SourceFile) (why : SyntaxError)
    → (why ≢ errors.Memory → (file_reading_of Whole (string_bytes source.text) ≡ Err why) ⊎ ((why ≡ errors.TooLong) × (most_trees ≤ length old.files.items)))
    → (result : Result (Unit {0}) AllocError) → OnOk result (why ≢ errors.Memory)
    → OnOk result (new.unread.items ≡ old.unread.items ++ record { name = source.name; text = source.text; why = why } ∷ []) → new.trees ≡ old.trees → new.files ≡ old.files
    → OnOk result (Adds old new source)
is_told old new source why reason (Ok done) other grown same_trees same =
    let trees : new.trees.items ≡ old.trees.items = ap (λ v. v.items) same_trees in
    let files : new.files.items ≡ old.files.items = ap (λ v. v.items) same in
    as_told (record { name = source.name; text = source.text; why = why }) (record { name = refl; text = refl; why = reason other }) trees files grown
is_told old new source why reason (Err e) other grown same_trees same = tt

-- ** The trees that are searched.

pub are_searched : (old new : Sorted) (source : SourceFile) → Adds old new source → AreSearched old.trees.items old.files.items
    → AreSearched new.trees.items new.files.items
are_searched old new source (as_read tree file its searched is few grown_trees grown same) so_far =
    subst (λ (l : List File). AreSearched new.trees.items l) (sym grown)
    (subst (λ (l : List Syntax). AreSearched l (old.files.items ++ file ∷ [])) (sym grown_trees)
    (searched_more old.trees.items old.files.items tree file so_far searched))
are_searched old new source (as_told one its same_trees same grown) so_far =
    subst (λ (l : List File). AreSearched new.trees.items l) (sym same)
    (subst (λ (l : List Syntax). AreSearched l old.files.items) (sym same_trees) so_far)

pub are_read : (old new : Sorted) (source : SourceFile) → Adds old new source → All (IsReadOf Whole) old.trees.items → All (IsReadOf Whole) new.trees.items
are_read old new source (as_read tree file its searched is few grown_trees grown same) so_far =
    subst (All (IsReadOf Whole)) (sym grown_trees) (All-push (IsReadOf Whole) old.trees.items tree so_far is)
are_read old new source (as_told one its same_trees same grown) so_far = subst (All (IsReadOf Whole)) (sym same_trees) so_far

pub are_few : (old new : Sorted) (source : SourceFile) → Adds old new source → length old.files.items ≤ most_trees → length new.files.items ≤ most_trees
are_few old new source (as_read tree file its searched is few grown_trees grown same) so_far =
    omega (arith, ap length grown, length-append old.files.items (file ∷ []))
are_few old new source (as_told one its same_trees same grown) so_far = omega (arith, ap length same)
