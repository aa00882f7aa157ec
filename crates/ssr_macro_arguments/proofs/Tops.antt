-- The files at the top of trees, and the expansions of one tree more.
use Rattle.std.proofs.Common.{◌≡◌, ℕ, zero, suc, ◌+◌, ◌<◌, List, [], ◌∷◌, ◌++◌, length, map, get_or, slice_get, refl, ap, sym, ◌∙◌, subst, arith, append_assoc, length-append, Option, Some, IfSome, Ok}
use Rattle.std.proofs.lemmas.List.{get_or_append_left, get_or_push, map-append, get_or-map, length-map}
use Rattle.std.proofs.lemmas.Simd.{map-map}
use Rattle.std.proofs.lemmas.Option.{slice_get-map, slice_get_within, slice_get_read, get_or_from_slice_get}
use Rattle.std.proofs.lemmas.List.Elements.{All-head, All-tail, All-map, All-append, All-push, All-nil, All-weaker}
use Rattle.std.specs.List.{All}
use Rattle.std.specs.Option.{IsSomeAnd, option_map}
use Rattle.ssr_syntax_tree.proofs.Lists.{slice_get-left}
use Rattle.ssr_base.specs.declared.building.Expansion.{Expansion}
use Rattle.ssr_syntax_kinds.specs.declared.reach.Reach.TheVariants.{Whole}
use Rattle.ssr_syntax.specs.Expansions.{expansion_reading_of}
use Rattle.ssr_syntax.specs.declared.expansions.ExpToken.{ExpToken}
use Rattle.ssr_syntax.specs.declared.expansions.ExpansionKind.TheVariants.{Expr}
use Rattle.ssr_syntax_tree.specs.Syntax.{Syntax, source_of}
use Rattle.ssr_macro_arguments.specs.declared.made.Made.{Made}
use Rattle.ssr_macro_arguments.specs.declared.expanding.ReadExpansion.{ReadExpansion}
use Rattle.ssr_macro_arguments.specs.Arguments.{Spells, piece_of, IsExpansionIn, top_of, tops_behind, AreArguments, HasItsTree, expansions_of}
use Rattle.ssr_macro_arguments.specs.Calls.{Searched, file, its_tree, trees_of, IsOfCallIn, IsOfItsCall}
use Rattle.ssr_macro_arguments.specs.Private.Tokens.{AreSpelled}
use Rattle.ssr_macro_arguments.specs.Private.Made.{reads_of, expansions_made, IsMadeIn, AreMadeIn, AreMade}

-- the element behind others
slice_get_behind : {X : Type 0} (xs ys : List X) (n : ℕ) (y : X) → slice_get ys n ≡ Some y → slice_get (xs ++ ys) (length xs + n) ≡ Some y
slice_get_behind [] ys n y there = ap (slice_get ys) (let same : 0 + n ≡ n = omega arith in same) ∙ there
slice_get_behind (x ∷ xs) ys n y there =
    ap (slice_get (x ∷ (xs ++ ys))) (let same : suc (length xs) + n ≡ suc (length xs + n) = omega arith in same) ∙ slice_get_behind xs ys n y there

pub length-tops_behind : (tops : List (List ℕ)) (xs : List Expansion) → length (tops_behind tops xs) ≡ length tops + length xs
length-tops_behind tops [] = omega arith
length-tops_behind tops (x ∷ xs) =
    length-tops_behind (tops ++ top_of tops x ∷ []) xs ∙ omega (arith, length-append tops (top_of tops x ∷ []))

-- trees in front of others keep the file at their top
pub top_kept : (tops : List (List ℕ)) (xs : List Expansion) (n : ℕ) → n < length tops → get_or (tops_behind tops xs) n [] ≡ get_or tops n []
top_kept tops [] n within = refl
top_kept tops (x ∷ xs) n within =
    top_kept (tops ++ top_of tops x ∷ []) xs n (omega (arith, length-append tops (top_of tops x ∷ [])))
    ∙ get_or_append_left tops (top_of tops x ∷ []) [] n within

-- the expansions of the calls in one tree
pub of_one_tree : (tops : List (List ℕ)) (ys : List Expansion) (tree : ℕ) (text : List ℕ) → tree < length tops → get_or tops tree [] ≡ text
    → All (IsExpansionIn tree text) ys → AreArguments tops ys
of_one_tree tops [] tree text within is all = tt
of_one_tree tops (y ∷ ys) tree text within is all =
    let own : IsExpansionIn tree text y = All-head (IsExpansionIn tree text) y ys all in
    let top : top_of tops y ≡ text = ap (λ n. get_or tops n []) own.call ∙ is in (
      subst (λ (n : ℕ). n < length tops) (sym own.call) within,
      record {
        call = refl;
        expression = own.expression;
        spells = subst (λ (t : List ℕ). All (λ token. Spells t (piece_of token)) y.tokens.items) (sym top) own.spells;
      },
      of_one_tree (tops ++ top_of tops y ∷ []) ys tree text
          (omega (arith, length-append tops (top_of tops y ∷ [])))
          (get_or_append_left tops (top_of tops y ∷ []) [] tree within ∙ is)
          (All-tail (IsExpansionIn tree text) y ys all),
    )

pub with_one_tree : (tops : List (List ℕ)) (xs ys : List Expansion) (tree : ℕ) (text : List ℕ) → AreArguments tops xs
    → tree < length (tops_behind tops xs) → get_or (tops_behind tops xs) tree [] ≡ text → All (IsExpansionIn tree text) ys → AreArguments tops (xs ++ ys)
with_one_tree tops [] ys tree text are within is all = of_one_tree tops ys tree text within is all
with_one_tree tops (x ∷ xs) ys tree text are within is all =
    (are.0, are.1, with_one_tree (tops ++ top_of tops x ∷ []) xs ys tree text are.2 within is all)

-- what the tokens of an expansion spell
pub spelled_at : (tops : List (List ℕ)) (xs : List Expansion) (j : ℕ) (d : Expansion) → AreArguments tops xs → j < length xs
    → All (λ token. Spells (get_or (tops_behind tops xs) (length tops + j) []) (piece_of token)) (get_or xs j d).tokens.items
spelled_at tops [] j d are within = absurd (omega arith)
spelled_at tops (x ∷ xs) zero d are within =
    let own = top_of tops x in
    let top : get_or (tops_behind (tops ++ own ∷ []) xs) (length tops + zero) [] ≡ own =
    top_kept (tops ++ own ∷ []) xs (length tops + zero) (omega (arith, length-append tops (own ∷ [])))
    ∙ get_or_push tops own [] (length tops + zero) (omega arith) in
    subst (λ (t : List ℕ). All (λ token. Spells t (piece_of token)) x.tokens.items) (sym top) are.1.spells
spelled_at tops (x ∷ xs) (suc j) d are within =
    let own = top_of tops x in
    let place : length (tops ++ own ∷ []) + j ≡ length tops + suc j = omega (arith, length-append tops (own ∷ [])) in
    subst (λ (n : ℕ). All (λ token. Spells (get_or (tops_behind (tops ++ own ∷ []) xs) n []) (piece_of token)) (get_or xs j d).tokens.items) place
    (spelled_at (tops ++ own ∷ []) xs j d are.2 (omega arith))

-- ** Expansions with their trees.

pub one_more : (place : Searched) (tree : ℕ) (text : List ℕ) (made later : List Made) (one : Made) → later ≡ made ++ one ∷ []
    → AreMadeIn place tree text made → IsMadeIn place tree text one → AreMadeIn place tree text later
one_more place tree text made later one is all own =
    let P : Made → Type 0 = IsMadeIn place tree text in subst (All P) (sym is) (All-push P made one all own)

expansions_in : (place : Searched) (tree : ℕ) (text : List ℕ) (made : List Made) → AreMadeIn place tree text made
    → All (IsExpansionIn tree text) (expansions_made made)
expansions_in place tree text made all =
    All-map (IsExpansionIn tree text) (λ (one : Made). one.read.expansion) made
    (All-weaker (IsMadeIn place tree text) (λ (one : Made). IsExpansionIn tree text one.read.expansion) (λ one own. own.expansion) made all)

reads_in : (place : Searched) (tree : ℕ) (text : List ℕ) (made : List Made) → AreMadeIn place tree text made → All (λ one. HasItsTree one.read) made
reads_in place tree text made all =
    All-weaker (IsMadeIn place tree text) (λ (one : Made). HasItsTree one.read) (λ one own. own.read) made all

-- ** The calls of trees.

-- trees more keep the one at a place
tree_kept : (P : Searched → Type 0) (trees more : List Searched) (n : ℕ) → IsSomeAnd (slice_get trees n) P → IsSomeAnd (slice_get (trees ++ more) n) P
tree_kept P [] more n there = absurd there
tree_kept P (tree ∷ trees) more zero there = there
tree_kept P (tree ∷ trees) more (suc n) there = tree_kept P trees more n there

-- expansions more stand behind the trees
trees_more : (files : List Syntax) (made new later : List Made) → later ≡ made ++ new
    → trees_of files (reads_of later) ≡ trees_of files (reads_of made) ++ map its_tree (reads_of new)
trees_more files made new later is =
    ap (λ (all : List Made). trees_of files (reads_of all)) is
    ∙ ap (λ (all : List ReadExpansion). trees_of files all) (map-append (λ (one : Made). one.read) made new)
    ∙ ap (λ (all : List Searched). map file files ++ all) (map-append its_tree (reads_of made) (reads_of new))
    ∙ sym (append_assoc (map file files) (map its_tree (reads_of made)) (map its_tree (reads_of new)))

calls_kept : (files : List Syntax) (made new later xs : List Made) → later ≡ made ++ new
    → All (λ one. IsOfItsCall (trees_of files (reads_of made)) one.read) xs → All (λ one. IsOfItsCall (trees_of files (reads_of later)) one.read) xs
calls_kept files made new later xs is all =
    let more : List Searched = map its_tree (reads_of new) in
    subst (λ (trees : List Searched). All (λ (one : Made). IsOfItsCall trees one.read) xs) (sym (trees_more files made new later is))
    (All-weaker (λ (one : Made). IsOfItsCall (trees_of files (reads_of made)) one.read)
    (λ (one : Made). IsOfItsCall (trees_of files (reads_of made) ++ more) one.read)
    (λ one own. tree_kept (λ place. IsOfCallIn place one.read.expansion) (trees_of files (reads_of made)) more one.read.expansion.call.0 own)
    xs all)

calls_in : (trees : List Searched) (place : Searched) (tree : ℕ) (text : List ℕ) (made : List Made) → slice_get trees tree ≡ Some place
    → AreMadeIn place tree text made → All (λ one. IsOfItsCall trees one.read) made
calls_in trees place tree text made there all =
    All-weaker (IsMadeIn place tree text) (λ (one : Made). IsOfItsCall trees one.read)
    (λ one own.
    let at : slice_get trees one.read.expansion.call.0 ≡ Some place = ap (slice_get trees) own.expansion.call ∙ there in
    subst (λ (o : Option Searched). IsSomeAnd o (λ p. IsOfCallIn p one.read.expansion)) (sym at) own.call)
    made all

-- the expansions of the calls in one tree, behind others
with_made : (files : List Syntax) (made new later : List Made) (place : Searched) (tree : ℕ) (text : List ℕ) → later ≡ made ++ new
    → slice_get (trees_of files (reads_of made)) tree ≡ Some place
    → get_or (tops_behind (map source_of files) (expansions_made made)) tree [] ≡ text
    → AreMade files made → AreMadeIn place tree text new → AreMade files later
with_made files made new later place tree text is there top are all =
    let texts : List (List ℕ) = map source_of files in
    let both : expansions_made later ≡ expansions_made made ++ expansions_made new =
    ap expansions_made is ∙ map-append (λ (one : Made). one.read.expansion) made new in
    let trees : List Searched = trees_of files (reads_of made) in
    let within : tree < length trees = slice_get_within trees tree place there in
    let count : length trees ≡ length texts + length (expansions_made made) =
    length-append (map file files) (map its_tree (reads_of made))
    ∙ omega (
      arith,
      length-map files file,
      length-map files source_of,
      length-map (reads_of made) its_tree,
      length-map made (λ (one : Made). one.read),
      length-map made (λ (one : Made). one.read.expansion),
    ) in
    record {
      arguments =
          subst (AreArguments texts) (sym both)
          (with_one_tree texts (expansions_made made) (expansions_made new) tree text are.arguments
          (omega (arith, length-tops_behind texts (expansions_made made)))
          top (expansions_in place tree text new all));
      calls =
          subst (All (λ one. IsOfItsCall (trees_of files (reads_of later)) one.read)) (sym is)
          (All-append (λ (one : Made). IsOfItsCall (trees_of files (reads_of later)) one.read) made new
          (calls_kept files made new later made is are.calls)
          (calls_kept files made new later new is (calls_in trees place tree text new there all)));
      read =
          subst (All (λ one. HasItsTree one.read)) (sym is)
          (All-append (λ (one : Made). HasItsTree one.read) made new are.read (reads_in place tree text new all));
    }

pub with_file : (files : List Syntax) (made new later : List Made) (n : ℕ) (tree : Syntax) → later ≡ made ++ new → slice_get files n ≡ Some tree
    → AreMade files made → AreMadeIn (file tree) n (source_of tree) new → AreMade files later
with_file files made new later n tree is there are all =
    let texts : List (List ℕ) = map source_of files in
    let within : n < length files = slice_get_within files n tree there in
    let own : slice_get (map file files) n ≡ Some (file tree) = slice_get-map file files n ∙ ap (option_map file) there in
    let text : get_or texts n [] ≡ source_of tree =
    get_or_from_slice_get texts n (source_of tree) [] (slice_get-map source_of files n ∙ ap (option_map source_of) there) in
    with_made files made new later (file tree) n (source_of tree) is
    (slice_get-left (map file files) (map its_tree (reads_of made)) n (file tree) own)
    (top_kept texts (expansions_made made) n (omega (arith, length-map files source_of)) ∙ text)
    are all

pub with_nested : (files : List Syntax) (made new later : List Made) (count next number : ℕ) (above : Made) → later ≡ made ++ new
    → length files ≡ count → number ≡ count + next → next < length made → above ≡ get_or made next above → AreMade files made
    → ((text : List ℕ) → AreSpelled text above.read.expansion.tokens.items → AreMadeIn (its_tree above.read) number text new) → AreMade files later
with_nested files made new later count next number above is counted place within found are all =
    let texts : List (List ℕ) = map source_of files in
    let text : List ℕ = get_or (tops_behind texts (expansions_made made)) number [] in
    let at : length texts + next ≡ number = omega (arith, length-map files source_of) in
    let its : get_or (expansions_made made) next above.read.expansion ≡ above.read.expansion =
    get_or-map (λ (one : Made). one.read.expansion) made next above above.read.expansion within ∙ ap (λ (one : Made). one.read.expansion) (sym found) in
    let there : AreSpelled (get_or (tops_behind texts (expansions_made made)) (length texts + next) []) (get_or (expansions_made made) next above.read.expansion).tokens.items =
    spelled_at texts (expansions_made made) next above.read.expansion are.arguments (omega (arith, length-map made (λ (one : Made). one.read.expansion))) in
    let spelled : AreSpelled text above.read.expansion.tokens.items =
    subst (λ (n : ℕ). AreSpelled (get_or (tops_behind texts (expansions_made made)) n []) above.read.expansion.tokens.items) at
    (subst (λ (x : Expansion). AreSpelled (get_or (tops_behind texts (expansions_made made)) (length texts + next) []) x.tokens.items) its there) in
    let read : slice_get (map its_tree (reads_of made)) next ≡ Some (its_tree above.read) =
    slice_get-map its_tree (reads_of made) next
    ∙ ap (option_map its_tree) (slice_get-map (λ (one : Made). one.read) made next
    ∙ ap (option_map (λ (one : Made). one.read)) (slice_get_read made (length made) next above refl within found)) in
    let tree : slice_get (trees_of files (reads_of made)) number ≡ Some (its_tree above.read) =
    ap (slice_get (trees_of files (reads_of made))) (omega (arith, length-map files file))
    ∙ slice_get_behind (map file files) (map its_tree (reads_of made)) next (its_tree above.read) read in
    with_made files made new later (its_tree above.read) number text is tree refl are (all text spelled)

-- an expansion more, if there is one
pub call_added : (place : Searched) (tree : ℕ) (text : List ℕ) (made later : List Made) (found : Option Made) (one : Made) → found ≡ Some one
    → later ≡ made ++ one ∷ [] → AreMadeIn place tree text made → IfSome found (IsMadeIn place tree text) → AreMadeIn place tree text later
call_added place tree text made later found one is put all own =
    one_more place tree text made later one put all (subst (λ (o : Option Made). IfSome o (IsMadeIn place tree text)) is own)

-- nothing is made yet
pub none_made : (files : List Syntax) (made : List Made) → made ≡ [] → AreMade files made
none_made files made none =
    subst (AreMade files) (sym none)
    (record {
      arguments = tt;
      calls = All-nil (λ (one : Made). IsOfItsCall (trees_of files []) one.read);
      read = All-nil (λ (one : Made). HasItsTree one.read);
    })

-- the tree that tokens are read as
pub read_tree : (tokens now : List ExpToken) (found : Option Syntax) (tree : Syntax) → found ≡ Some tree → now ≡ tokens
    → IfSome found (λ tree. expansion_reading_of Whole Expr now ≡ Ok tree) → expansion_reading_of Whole Expr tokens ≡ Ok tree
read_tree tokens now found tree is same read =
    ap (expansion_reading_of Whole Expr) (sym same) ∙ subst (λ (o : Option Syntax). IfSome o (λ tree. expansion_reading_of Whole Expr now ≡ Ok tree)) is read

-- ** The expansions with their trees alone.

pub reads_arguments : (files : List Syntax) (made : List Made) (reads : List ReadExpansion) → reads ≡ reads_of made → AreMade files made
    → AreArguments (map source_of files) (expansions_of reads)
reads_arguments files made reads is are =
    subst (AreArguments (map source_of files)) (sym (ap expansions_of is ∙ map-map (λ (one : ReadExpansion). one.expansion) (λ (one : Made). one.read) made)) are.arguments

pub reads_calls : (files : List Syntax) (made : List Made) (reads : List ReadExpansion) → reads ≡ reads_of made → AreMade files made
    → All (IsOfItsCall (trees_of files reads)) reads
reads_calls files made reads is are =
    subst (λ (all : List ReadExpansion). All (IsOfItsCall (trees_of files all)) all) (sym is)
    (All-map (IsOfItsCall (trees_of files (reads_of made))) (λ (one : Made). one.read) made are.calls)

pub reads_read : (files : List Syntax) (made : List Made) (reads : List ReadExpansion) → reads ≡ reads_of made → AreMade files made
    → All HasItsTree reads
reads_read files made reads is are = subst (All HasItsTree) (sym is) (All-map HasItsTree (λ (one : Made). one.read) made are.read)
