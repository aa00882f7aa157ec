-- What building establishes.
use Rattle.std.proofs.Common.{◌≡◌, ℕ, ◌+◌, ◌≤◌, Bool, true, false, List, [], ◌∷◌, ◌++◌, All, length, map, Ok, String, string_bytes, refl, sym, ap, ◌∙◌, subst, arith, ltb-false, append_assoc}
use Rattle.std.proofs.lemmas.List.{append-nil, length-append}
use Rattle.std.proofs.lemmas.List.Elements.{All-head, All-tail}
use Rattle.std.proofs.lemmas.List.Folds.{list_all-map}
use Rattle.std.proofs.lemmas.List.Sums.{AllPass-from_list_all}
use Rattle.std.proofs.lemmas.Str.{IsUtf8-string_bytes}
use Rattle.std.specs.Prelude.{nat_lt}
use Rattle.std.specs.Global.{Global}
use Rattle.std.specs.List.{list_all}
use Rattle.std.specs.Str.{IsUtf8}
use Rattle.ssr_syntax_kinds.specs.declared.reach.Reach.{Reach}
use Rattle.ssr_syntax_kinds.specs.declared.reach.Reach.TheVariants.{Stated}
use Rattle.ssr_syntax_tree.specs.Syntax.{Syntax, source_of, tokens_of}
use Rattle.ssr_syntax_tree.proofs.Shared.{length-tokens_in}
use Rattle.ssr_syntax.specs.Reading.{IsReadOf, file_reading, file_reading_of}
use Rattle.ssr_syntax.specs.Expansions.{expansion_reading_of}
use Rattle.ssr_syntax.proofs.Shared.{file_sound_of, file_texts_of, expansion_sound_of}
use Rattle.ssr_base_trees.specs.declared.ids.NodeId.{NodeId}
use Rattle.ssr_base.specs.declared.building.Expansion.{Expansion}
use Rattle.ssr_base.specs.declared.workspace_error.WorkspaceError.{WorkspaceError}
use Rattle.ssr_base.specs.declared.workspace_error.WorkspaceError.TheVariants as errors
use Rattle.ssr_base_trees.specs.Workspace.{Expanded, Workspace, trees, text_at_top}
use Rattle.ssr_base_trees.specs.Built.{most_trees, IsBuilt}
use Rattle.ssr_base.specs.Building.{◌>>=◌, unless, in_turn, checked_call, origin_of, joined_origins, with_file, with_expansion, built}
use Rattle.ssr_base_trees.specs.Origins.{fits_origin}
use Rattle.ssr_base.proofs.Joining.{length-joined_origins, fit_joined}
use Rattle.ssr_base.proofs.Chosen.{IsChosen, chosen_free}
use Rattle.ssr_base.proofs.Calls.{accepted}
use Rattle.ssr_base.proofs.Adding.{in_stated}
use Rattle.ssr_base.proofs.Added.{and_then, adds_file, adds_expansion}
use Rattle.ssr_base_trees.specs.Growth.{only_files, only_files_of, no_tree, IsOfCall}
use Rattle.ssr_base_trees.proofs.Shared.{built_none, built_none_of, built_file, built_expansion}

-- ** Files.

-- one file more that is read
pub built_read_of : (reach : Reach) (files : List Syntax) (text : List ℕ) (tree : Syntax) → length files + 1 ≤ most_trees → IsUtf8 text
    → file_reading_of reach text ≡ Ok tree → IsBuilt (only_files_of reach files) → IsBuilt (only_files_of reach (files ++ tree ∷ []))
built_read_of reach files text tree room utf8 read b =
    built_file reach files tree room b (file_sound_of reach text tree utf8 read).shallow (file_texts_of reach text tree utf8 read)

-- one that is read in the stated language
pub built_read : (files : List Syntax) (text : List ℕ) (tree : Syntax) → length files + 1 ≤ most_trees → IsUtf8 text → file_reading text ≡ Ok tree
    → IsBuilt (only_files files) → IsBuilt (only_files (files ++ tree ∷ []))
unfolding file_reading
built_read files text tree room utf8 read b = built_read_of Stated files text tree room utf8 read b

built_from : (reach : Reach) (files trees : List Syntax) → length files + length trees ≤ most_trees → All (IsReadOf reach) trees
    → IsBuilt (only_files_of reach files) → IsBuilt (only_files_of reach (files ++ trees))
built_from reach files [] few read b = subst (λ (files : List Syntax). IsBuilt (only_files_of reach files)) (sym (append-nil files)) b
built_from reach files (tree ∷ trees) few read b =
    let first = All-head (IsReadOf reach) tree trees read in
    let next = built_read_of reach files (source_of tree) tree (omega arith) first.text first.reading b in
    subst (λ (files : List Syntax). IsBuilt (only_files_of reach files)) (append_assoc files (tree ∷ []) trees)
    (built_from reach (files ++ tree ∷ []) trees (omega (arith, length-append files (tree ∷ []))) (All-tail (IsReadOf reach) tree trees read) next)

-- the workspace of trees that are read
pub built_trees : (reach : Reach) (trees : List Syntax) → length trees ≤ most_trees → All (IsReadOf reach) trees → IsBuilt (only_files_of reach trees)
built_trees reach trees few read = built_from reach [] trees (omega arith) read (built_none_of reach)

-- the workspace of the files that are read
record OfFiles (count : ℕ) (w : Workspace) : Type 0 where
  is_built : IsBuilt w
  counted : length w.files + length w.expansions ≡ count

of_files : (files : List Syntax) (texts : List (String Global)) (w : Workspace) → length files + length texts ≤ most_trees → IsBuilt (only_files files)
    → in_turn with_file (only_files files) texts ≡ Ok w → OfFiles (length files + length texts) w
of_files files [] w few b is =
    let same : only_files files ≡ w = cc in
    subst (OfFiles (length files + 0)) same (record { is_built = b; counted = refl })
of_files files (text ∷ texts) w few b is =
    let step = and_then (with_file (only_files files) text) (λ grown. in_turn with_file grown texts) w is in
    let adds = adds_file (only_files files) step.0 text step.1 in
    let tree = adds.tree in
    let count = length-append files (tree ∷ []) in
    let next = built_read files (string_bytes text) tree (omega arith) (IsUtf8-string_bytes text) adds.read b in
    subst (λ n. OfFiles n w) (let same : length (files ++ tree ∷ []) + length texts ≡ length files + length (text ∷ texts) = omega arith in same)
    (of_files (files ++ tree ∷ []) texts w (omega arith) next (ap (λ grown. in_turn with_file grown texts) adds.is ∙ step.2))

-- ** Expansions.

-- what is known of an expansion whose call may be expanded and whose tokens are read
pub is_of_call : (w : Workspace) (x : Expansion) (call : NodeId) (tree : Syntax) → IsChosen w call
    → list_all (fits_origin (text_at_top (trees w) call.tree)) (map origin_of x.tokens.items) ≡ true
    → (reach : Reach) × (expansion_reading_of reach x.kind x.tokens.items ≡ Ok tree)
    → IsOfCall w (record { call = call; syntax = tree; origins = joined_origins (tokens_of tree) x.tokens.items })
is_of_call w x call tree chosen fitting read =
    let text = text_at_top (trees w) call.tree in
    let tokens = x.tokens.items in
    record {
      node = chosen.node;
      macro_call = chosen.macro_call;
      origins = record {
        counted = length-joined_origins (tokens_of tree) tokens ∙ length-tokens_in tree.children;
        fitting =
            fit_joined text (tokens_of tree) tokens
            (AllPass-from_list_all (λ token. fits_origin text (origin_of token)) tokens (sym (list_all-map (fits_origin text) origin_of tokens) ∙ fitting));
      };
      shallow = (expansion_sound_of read.0 x.kind tokens tree read.1).shallow;
    }

pub read_of_call : (w : Workspace) (x : Expansion) (call : NodeId) (tree : Syntax) → checked_call w x ≡ Ok call
    → (reach : Reach) × (expansion_reading_of reach x.kind x.tokens.items ≡ Ok tree)
    → IsOfCall w (record { call = call; syntax = tree; origins = joined_origins (tokens_of tree) x.tokens.items })
read_of_call w x call tree checked read =
    let known = accepted w x call checked in
    is_of_call w x call tree (chosen_free w x.call.0 x.call.1 call known.0).0 known.2 read

of_expansions : (w : Workspace) (xs : List Expansion) (last : Workspace) → length w.files + length w.expansions + length xs ≤ most_trees → IsBuilt w
    → in_turn with_expansion w xs ≡ Ok last → IsBuilt last
of_expansions w [] last few b is = let same : w ≡ last = cc in subst IsBuilt same b
of_expansions w (x ∷ xs) last few b is =
    let step = and_then (with_expansion w x) (λ grown. in_turn with_expansion grown xs) last is in
    let adds = adds_expansion w step.0 x step.1 in
    let e : Expanded = record { call = adds.call; syntax = adds.tree; origins = joined_origins (tokens_of adds.tree) x.tokens.items } in
    let count = length-append w.expansions (e ∷ []) in
    of_expansions (record { reach = w.reach; files = w.files; expansions = w.expansions ++ e ∷ [] }) xs last (omega arith)
    (built_expansion w e (omega arith) b (is_of_call w x adds.call adds.tree adds.chosen adds.fitting (in_stated x.kind x.tokens.items adds.tree adds.read)) adds.free adds.nested)
    (ap (λ grown. in_turn with_expansion grown xs) adds.is ∙ step.2)

-- ** All.

allowed : (refused : Bool) (e : WorkspaceError) (value : Unit {0}) → unless refused e ≡ Ok value → refused ≡ false
allowed true e value is = cc
allowed false e value is = refl

pub is_built : (files : List (String Global)) (expansions : List Expansion) (w : Workspace) → built files expansions ≡ Ok w → IsBuilt w
unfolding built
is_built files expansions w is =
    let many = nat_lt most_trees (length files + length expansions) in
    let first = and_then (unless many errors.TooManyTrees)
    (λ _. in_turn with_file no_tree files >>= (λ w. in_turn with_expansion w expansions)) w is in
    let few = ltb-false most_trees (length files + length expansions) (allowed many errors.TooManyTrees first.0 first.1) in
    let second = and_then (in_turn with_file no_tree files) (λ w. in_turn with_expansion w expansions) w first.2 in
    let read = of_files [] files second.0 (omega arith) built_none second.1 in
    of_expansions second.0 expansions w (omega (arith, read.counted)) read.is_built second.2
