-- Trees and the files that they are searched for, one by one.
use Rattle.std.proofs.Common.{◌≡◌, ℕ, zero, suc, ◌+◌, ◌<◌, ◌≤◌, List, [], ◌∷◌, ◌++◌, length, map, drop, All, Option, Some, None, refl, sym, ◌∙◌, ap, subst, append_assoc, append-nil, arith}
use Rattle.std.specs.Prelude.{slice_get, slice_index_or}
use Rattle.std.specs.List.{enumerate_from}
use Rattle.std.proofs.lemmas.List.{drop_more, drop_all, length-map}
use Rattle.std.proofs.lemmas.List.Elements.{All-nil}
use Rattle.std.proofs.lemmas.Option.{get_or_from_slice_get, none-some, slice_get-get_or}
use Rattle.ssr_syntax_tree.specs.Syntax.{Syntax, source_of}
use Rattle.ssr_base_trees.specs.Changes.{Change, FitsText, same}
use Rattle.ssr_base_trees.specs.Origins.{Span}
use Rattle.ssr_base_trees.specs.Workspace.{Workspace, tree_of}
use Rattle.ssr_base_trees.proofs.Shared.{tree_of_file}
use Rattle.ssr_set_aside.specs.Parts.{no_parts}
use Rattle.ssr_set_aside.specs.SetAside.{IsSetAside, KeepsLength, none}
use Rattle.ssr_changes.specs.Files.{File, AreSearched, IsSearched, as_it_is, as_they_are}

-- one more
pub searched_more : (trees : List Syntax) (files : List File) (tree : Syntax) (file : File) → AreSearched trees files → IsSearched tree file
    → AreSearched (trees ++ tree ∷ []) (files ++ file ∷ [])
searched_more [] [] tree file all one = (one, tt)
searched_more [] (f ∷ fs) tree file all one = absurd all
searched_more (t ∷ ts) [] tree file all one = absurd all
searched_more (t ∷ ts) (f ∷ fs) tree file all one = (all.0, searched_more ts fs tree file all.1 one)

-- there are as many
pub searched_length : (trees : List Syntax) (files : List File) → AreSearched trees files → length trees ≡ length files
searched_length [] [] all = refl
searched_length [] (f ∷ fs) all = absurd all
searched_length (t ∷ ts) [] all = absurd all
searched_length (t ∷ ts) (f ∷ fs) all = let rest = searched_length ts fs all.1 in omega arith

-- the one of a place
pub searched_at : (trees : List Syntax) (files : List File) (n : ℕ) (file : File) → AreSearched trees files → slice_get files n ≡ Some file
    → (tree : Syntax) → slice_get trees n ≡ Some tree → IsSearched tree file
searched_at [] files n file all there tree is = cc
searched_at (t ∷ ts) [] n file all there tree is = cc
searched_at (t ∷ ts) (f ∷ fs) zero file all there tree is =
    let first : t ≡ tree = cc in
    let second : f ≡ file = cc in
    subst (λ (t : Syntax). IsSearched t file) first (subst (λ (f : File). IsSearched t f) second all.0)
searched_at (t ∷ ts) (f ∷ fs) (suc n) file all there tree is = searched_at ts fs n file all.1 there tree is

-- there is one at each place
pub file_at : (files : List File) (n : ℕ) (file : File) → n < length files → file ≡ slice_index_or files n file → slice_get files n ≡ Some file
file_at files n file less is = slice_get-get_or files n file less ∙ ap Some (sym is)

pub some_at : (files : List File) (n : ℕ) → n < length files → (file : File) × (slice_get files n ≡ Some file)
some_at [] n less = absurd (omega arith)
some_at (f ∷ fs) zero less = (f, refl)
some_at (f ∷ fs) (suc n) less = some_at fs n (omega arith)

-- ** Files of which nothing is set aside.

it_is_made : (names : List (List ℕ)) (n : ℕ) (tree : Syntax) → IsSearched tree (as_it_is names (n, tree))
it_is_made names n tree = record {
  order = tt;
  fits = All-nil (FitsText (source_of tree));
  lengths = All-nil KeepsLength;
  replaced = same 0 (source_of tree);
  covered = tt;
  blanks = none;
  parts = no_parts;
}

made_from : (names : List (List ℕ)) (n : ℕ) (trees : List Syntax) → AreSearched trees (map (as_it_is names) (enumerate_from n trees))
made_from names n [] = tt
made_from names n (tree ∷ trees) = (it_is_made names n tree, made_from names (n + 1) trees)

pub they_are_made : (names : List (List ℕ)) (trees : List Syntax) → AreSearched trees (as_they_are names trees)
they_are_made names trees = made_from names 0 trees

pub it_is : (names : List (List ℕ)) (n : ℕ) (tree : Syntax) (name text : List ℕ) (aside : List Change) (reaches unsearched : List Span) (file : File)
    → file ≡ record { name = name; text = text; aside = aside; reaches = reaches; unsearched = unsearched } → name ≡ slice_index_or names n []
    → text ≡ source_of tree → aside ≡ [] → reaches ≡ [] → unsearched ≡ [] → file ≡ as_it_is names (n, tree)
it_is names n tree name text aside reaches unsearched file is its_name its_text nothing no_reach all =
    let made : List ℕ → List ℕ → List Change → List Span → List Span → File =
    λ name text aside reaches unsearched. record { name = name; text = text; aside = aside; reaches = reaches; unsearched = unsearched } in
    is ∙ ap (λ name. made name text aside reaches unsearched) its_name ∙ ap (λ text. made (slice_index_or names n []) text aside reaches unsearched) its_text
    ∙ ap (λ (aside : List Change). made (slice_index_or names n []) (source_of tree) aside reaches unsearched) nothing
    ∙ ap (λ (reaches : List Span). made (slice_index_or names n []) (source_of tree) [] reaches unsearched) no_reach
    ∙ ap (made (slice_index_or names n []) (source_of tree) [] []) all

-- there is a tree of each file
pub tree_there : (w : Workspace) (n : ℕ) (tree : Syntax) → n < length w.files → Some tree ≡ tree_of w n → slice_get w.files n ≡ Some tree
tree_there w n tree less is = sym (is ∙ tree_of_file w n less)

pub none_there : (w : Workspace) (n : ℕ) → n < length w.files → None ≡ tree_of w n → ⊥
none_there w n less is = no_tree w.files n less (sym (is ∙ tree_of_file w n less))
  where
    no_tree : (trees : List Syntax) (n : ℕ) → n < length trees → slice_get trees n ≡ None → ⊥
    no_tree [] n less e = absurd (omega arith)
    no_tree (tree ∷ trees) n less e = none-some _ (sym e ∙ slice_get-get_or (tree ∷ trees) n tree less)

-- those from this number on
abbrev pub left_from : List (List ℕ) → List Syntax → ℕ → List File
left_from names trees n = map (as_it_is names) (enumerate_from n (drop n trees))

pub one_less : (names : List (List ℕ)) (trees : List Syntax) (n : ℕ) (tree : Syntax) (files more : List File) (file : File) → n < length trees
    → slice_get trees n ≡ Some tree → file ≡ as_it_is names (n, tree) → more ≡ files ++ file ∷ [] → files ++ left_from names trees n ≡ as_they_are names trees
    → more ++ left_from names trees (n + 1) ≡ as_they_are names trees
one_less names trees n tree files more file less there is grown so_far =
    let first : drop n trees ≡ tree ∷ drop (n + 1) trees =
    drop_more trees n tree less ∙ ap (λ (t : Syntax). t ∷ drop (n + 1) trees) (get_or_from_slice_get trees n tree tree there) in
    ap (λ (l : List File). l ++ left_from names trees (n + 1)) grown
    ∙ append_assoc files (file ∷ []) (left_from names trees (n + 1))
    ∙ ap (λ (f : File). files ++ (f ∷ left_from names trees (n + 1))) is
    ∙ ap (λ (rest : List Syntax). files ++ map (as_it_is names) (enumerate_from n rest)) (sym first)
    ∙ so_far

pub none_left : (names : List (List ℕ)) (trees : List Syntax) (n : ℕ) (files : List File) → length trees ≤ n
    → files ++ left_from names trees n ≡ as_they_are names trees → files ≡ as_they_are names trees
none_left names trees n files all so_far =
    let empty : left_from names trees n ≡ [] = ap (λ (rest : List Syntax). map (as_it_is names) (enumerate_from n rest)) (drop_all n trees all) in
    sym (append-nil files) ∙ ap (λ (rest : List File). files ++ rest) (sym empty) ∙ so_far
