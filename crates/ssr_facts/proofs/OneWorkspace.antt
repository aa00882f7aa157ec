-- What is built hangs on the rows of texts and expansions alone.
use Rattle.std.proofs.Common.{◌≡◌, ℕ, ◌+◌, ◌-◌, ◌≤◌, ◌==◌, if◌then◌else◌, List, [], ◌∷◌, ◌++◌, length, map, take, drop, get_or, Option, Ok, Err, refl, sym, ◌∙◌, ap, subst, arith, le-add_right}
use Rattle.std.specs.Prelude.{Result, String, string_bytes, nat_lt, not}
use Rattle.std.specs.Coded.{le_prop}
use Rattle.std.specs.Global.{Global}
use Rattle.std.specs.List.{list_all}
use Rattle.std.specs.Option.{ok_or}
use Rattle.std.proofs.lemmas.List.{length-map, take-map, drop-map}
use Rattle.ssr_syntax_kinds.specs.declared.kinds.SyntaxKind.{SyntaxKind}
use Rattle.ssr_syntax_kinds.specs.declared.range.TextRange.{TextRange}
use Rattle.ssr_syntax_tree.specs.Syntax.{Token, Syntax, tokens_of}
use Rattle.ssr_syntax.specs.declared.expansions.ExpToken.{ExpToken}
use Rattle.ssr_syntax.specs.declared.expansions.ExpansionKind.{ExpansionKind}
use Rattle.ssr_syntax.specs.declared.expansions.ExpansionKind.TheVariants as kinds
use Rattle.ssr_syntax.specs.declared.syntax_error.SyntaxError.{SyntaxError}
use Rattle.ssr_syntax_kinds.specs.declared.reach.Reach.TheVariants.{Stated}
use Rattle.ssr_syntax.specs.Expansions.{expansion_text, unless_refused, lone_kind, raw_token, raw_from, goal_of_expansion, expansion_reading, expansion_reading_of}
use Rattle.ssr_syntax.specs.Reading.{tree_reading, short_reading, file_reading}
use Rattle.ssr_base.specs.declared.building.Expansion.{Expansion}
use Rattle.ssr_base_trees.specs.declared.ids.NodeId.{NodeId}
use Rattle.ssr_base.specs.declared.workspace_error.WorkspaceError.{WorkspaceError}
use Rattle.ssr_base.specs.declared.workspace_error.WorkspaceError.TheVariants as errors
use Rattle.ssr_base_trees.specs.Origins.{Span, cover_of, covered, fits_origin}
use Rattle.ssr_base_trees.specs.Workspace.{Workspace, trees, text_at_top, nesting}
use Rattle.ssr_base_trees.specs.Built.{most_trees, most_nested}
use Rattle.ssr_base.specs.Building.{◌>>=◌, unless, read_as, in_turn, with_file, free_call, origin_of, count_in, joined_origins, checked_call, with_expansion, built}
use Rattle.ssr_base_trees.specs.Growth.{with_tree, no_tree}
use Rattle.ssr_facts_rows.specs.declared.sources.ExpansionKindRow.{ExpansionKindRow}
use Rattle.ssr_facts_rows.specs.declared.sources.ExpansionKindRow.TheVariants as rows
use Rattle.ssr_facts_rows.specs.Sources.{PlainToken, PlainExpansion}
use Rattle.ssr_facts_rows.specs.Facts.{PlainFacts}
use Rattle.ssr_facts.specs.Laws.{OneWorkspace}
use Rattle.ssr_facts.specs.Sources.{row_of_token, row_of_kind, row_of_expansion}

-- ** Lists with the same rows.

first_same : {A R : Type 0} (row : A → R) (x y : A) (xs ys : List A) → map row (x ∷ xs) ≡ map row (y ∷ ys) → row x ≡ row y
first_same row x y xs ys same = ap (λ rs. get_or rs 0 (row x)) same

others_same : {A R : Type 0} (row : A → R) (x y : A) (xs ys : List A) → map row (x ∷ xs) ≡ map row (y ∷ ys) → map row xs ≡ map row ys
others_same row x y xs ys same = ap (λ rs. drop 1 rs) same

-- ** Steps.

then_same : {A B : Type 0} (f g : A → Result B WorkspaceError) → ((x : A) → f x ≡ g x) → (r : Result A WorkspaceError) → (r >>= f) ≡ (r >>= g)
then_same f g same (Ok x) = same x
then_same f g same (Err e) = refl

in_turn_same : {A R : Type 0} (row : A → R) (step : Workspace → A → Result Workspace WorkspaceError)
    → ((w : Workspace) (x y : A) → row x ≡ row y → step w x ≡ step w y)
    → (w : Workspace) (xs ys : List A) → map row xs ≡ map row ys → in_turn step w xs ≡ in_turn step w ys
in_turn_same row step alike w [] [] same = refl
in_turn_same row step alike w [] (y ∷ ys) same = absurd (omega (arith, ap length same))
in_turn_same row step alike w (x ∷ xs) [] same = absurd (omega (arith, ap length same))
in_turn_same row step alike w (x ∷ xs) (y ∷ ys) same =
    ap (λ r. r >>= (λ grown. in_turn step grown xs)) (alike w x y (first_same row x y xs ys same))
    ∙ then_same (λ grown. in_turn step grown xs) (λ grown. in_turn step grown ys)
    (λ grown. in_turn_same row step alike grown xs ys (others_same row x y xs ys same)) (step w y)

-- ** Files.

file_same : (w : Workspace) (x y : String Global) → string_bytes x ≡ string_bytes y → with_file w x ≡ with_file w y
file_same w x y same =
    ap (λ bytes. read_as (errors.File (length w.files)) (file_reading bytes)
    >>= (λ tree. Ok (record { reach = w.reach; files = w.files ++ tree ∷ []; expansions = w.expansions }))) same

-- ** Tokens.

texts_same : (ts us : List ExpToken) → map row_of_token ts ≡ map row_of_token us → expansion_text ts ≡ expansion_text us
texts_same [] [] same = refl
texts_same [] (u ∷ us) same = absurd (omega (arith, ap length same))
texts_same (t ∷ ts) [] same = absurd (omega (arith, ap length same))
texts_same (t ∷ ts) (u ∷ us) same =
    ap (λ bytes. bytes ++ expansion_text ts) (ap (λ (r : PlainToken). r.text) (first_same row_of_token t u ts us same))
    ∙ ap (λ l. string_bytes u.text ++ l) (texts_same ts us (others_same row_of_token t u ts us same))

-- the raw tokens where one of these bytes, which is made of its kind, stands in front of the rest
abbrev with_raw : {A : Type 0} → (SyntaxKind → A) → List ℕ → Result (List A) SyntaxError → Result (List A) SyntaxError
with_raw made bytes rest = unless_refused (λ kind. unless_refused (λ raw. Ok (made kind ∷ raw)) rest) (lone_kind bytes)

raw_token_same : (start : ℕ) (t u : ExpToken) → row_of_token t ≡ row_of_token u → raw_token start t ≡ raw_token start u
raw_token_same start t u same =
    subst (λ (r : PlainToken). raw_token start t ≡ (λ kind. record {
      kind = kind;
      range = record { start = start; end = start + length r.text; ordered = le-add_right start (length r.text) };
      joint = r.joint;
    })) same refl

raw_same : (start : ℕ) (ts us : List ExpToken) → map row_of_token ts ≡ map row_of_token us → raw_from start ts ≡ raw_from start us
raw_same start [] [] same = refl
raw_same start [] (u ∷ us) same = absurd (omega (arith, ap length same))
raw_same start (t ∷ ts) [] same = absurd (omega (arith, ap length same))
raw_same start (t ∷ ts) (u ∷ us) same =
    let first = first_same row_of_token t u ts us same in
    let bytes = string_bytes t.text in
    ap (λ rest. with_raw (raw_token start t) bytes rest) (raw_same (start + length bytes) ts us (others_same row_of_token t u ts us same))
    ∙ ap (λ b. with_raw (raw_token start t) b (raw_from (start + length b) us)) (ap (λ (r : PlainToken). r.text) first)
    ∙ ap (λ made. with_raw made (string_bytes u.text) (raw_from (start + length (string_bytes u.text)) us)) (raw_token_same start t u first)

reading_same : (kind : ExpansionKind) (ts us : List ExpToken) → map row_of_token ts ≡ map row_of_token us
    → expansion_reading kind ts ≡ expansion_reading kind us
unfolding expansion_reading expansion_reading_of
reading_same kind ts us same =
    ap (λ raw. short_reading (unless_refused (tree_reading Stated (goal_of_expansion kind) (expansion_text ts)) raw) (expansion_text ts)) (raw_same 0 ts us same)
    ∙ ap (λ text. short_reading (unless_refused (tree_reading Stated (goal_of_expansion kind) text) (raw_from 0 us)) text) (texts_same ts us same)

origin_same : (t u : ExpToken) → row_of_token t ≡ row_of_token u → origin_of t ≡ origin_of u
origin_same t u same = ap (λ (r : PlainToken). r.origin) same

origins_same : (ts us : List ExpToken) → map row_of_token ts ≡ map row_of_token us → map origin_of ts ≡ map origin_of us
origins_same [] [] same = refl
origins_same [] (u ∷ us) same = absurd (omega (arith, ap length same))
origins_same (t ∷ ts) [] same = absurd (omega (arith, ap length same))
origins_same (t ∷ ts) (u ∷ us) same =
    ap (λ o. o ∷ map origin_of ts) (origin_same t u (first_same row_of_token t u ts us same))
    ∙ ap (λ os. origin_of u ∷ os) (origins_same ts us (others_same row_of_token t u ts us same))

count_same : (bytes : ℕ) (ts us : List ExpToken) → map row_of_token ts ≡ map row_of_token us → count_in bytes ts ≡ count_in bytes us
count_same bytes [] [] same = refl
count_same bytes [] (u ∷ us) same = absurd (omega (arith, ap length same))
count_same bytes (t ∷ ts) [] same = absurd (omega (arith, ap length same))
count_same bytes (t ∷ ts) (u ∷ us) same =
    ap (λ n. if bytes == 0 then 0 else 1 + count_in (bytes - n) ts) (ap (λ (r : PlainToken). length r.text) (first_same row_of_token t u ts us same))
    ∙ ap (λ n. if bytes == 0 then 0 else 1 + n)
    (count_same (bytes - length (string_bytes u.text)) ts us (others_same row_of_token t u ts us same))

joined_same : (joined : List Token) (ts us : List ExpToken) → map row_of_token ts ≡ map row_of_token us → joined_origins joined ts ≡ joined_origins joined us
joined_same [] ts us same = refl
joined_same (token ∷ later) ts us same =
    let n = count_in (length token.text) ts in
    let m = count_in (length token.text) us in
    let count : n ≡ m = count_same (length token.text) ts us same in
    let front : map row_of_token (take n ts) ≡ map row_of_token (take m us) =
    sym (take-map row_of_token n ts) ∙ ap (λ rs. take n rs) same ∙ take-map row_of_token n us ∙ ap (λ k. map row_of_token (take k us)) count in
    let rest : map row_of_token (drop n ts) ≡ map row_of_token (drop m us) =
    sym (drop-map row_of_token n ts) ∙ ap (λ rs. drop n rs) same ∙ drop-map row_of_token n us ∙ ap (λ k. map row_of_token (drop k us)) count in
    ap (λ os. covered (cover_of os) ∷ joined_origins later (drop n ts)) (origins_same (take n ts) (take m us) front)
    ∙ ap (λ os. covered (cover_of (map origin_of (take m us))) ∷ os) (joined_same later (drop n ts) (drop m us) rest)

-- ** Ranges of bytes.

bytes_from : (start end : ℕ) → start ≤ end → TextRange
bytes_from start end ordered = record { start = start; end = end; ordered = ordered }

same_end : (start e f : ℕ) (o : start ≤ e) → e ≡ f → (p : start ≤ f) → bytes_from start e o ≡ bytes_from start f p
unfolding bytes_from
same_end start e f o same =
    subst (λ (x : ℕ). (p : start ≤ x) → bytes_from start e o ≡ bytes_from start x p) same (λ p. ap (bytes_from start e) (le_prop o p))

same_ends : (s t e f : ℕ) (o : s ≤ e) → s ≡ t → e ≡ f → (p : t ≤ f) → bytes_from s e o ≡ bytes_from t f p
unfolding bytes_from
same_ends s t e f o starts ends = subst (λ (x : ℕ). (p : x ≤ f) → bytes_from s e o ≡ bytes_from x f p) starts (same_end s e f o ends)

-- a range is known by its ends
pub range_same : (a b : TextRange) → a.start ≡ b.start → a.end ≡ b.end → a ≡ b
unfolding bytes_from
range_same a b starts ends = same_ends a.start b.start a.end b.end a.ordered starts ends b.ordered

-- ** Expansions.

abbrev kind_of_row : ExpansionKindRow → ExpansionKind
kind_of_row rows.Expr = kinds.Expr
kind_of_row rows.Items = kinds.Items
kind_of_row rows.Stmts = kinds.Stmts

kind_back : (kind : ExpansionKind) → kind_of_row (row_of_kind kind) ≡ kind
kind_back kinds.Expr = refl
kind_back kinds.Items = refl
kind_back kinds.Stmts = refl

-- the call of an expansion, by what is looked at
abbrev checked : Workspace → ℕ → TextRange → List (Option Span) → Result NodeId WorkspaceError
checked w tree range origins =
    ok_or (free_call w tree range) (errors.Call (length w.expansions)) >>= (λ call.
    unless (nat_lt most_nested (1 + nesting (trees w) call.tree)) (errors.Nested (length w.expansions)) >>= (λ _.
    unless (not (list_all (fits_origin (text_at_top (trees w) call.tree)) origins)) (errors.Origin (length w.expansions)) >>= (λ _.
    Ok call)))

checked_is : (w : Workspace) (x : Expansion) → checked_call w x ≡ checked w x.call.0 x.call.1 (map origin_of x.tokens.items)
unfolding checked_call
checked_is w x = refl

checked_same : (w : Workspace) (x y : Expansion) → row_of_expansion x ≡ row_of_expansion y → checked_call w x ≡ checked_call w y
checked_same w x y same =
    let place : x.call.1 ≡ y.call.1 =
    range_same x.call.1 y.call.1 (ap (λ (r : PlainExpansion). r.call.start) same) (ap (λ (r : PlainExpansion). r.call.end) same) in
    checked_is w x
    ∙ ap (λ tree. checked w tree x.call.1 (map origin_of x.tokens.items)) (ap (λ (r : PlainExpansion). r.call.tree) same)
    ∙ ap (λ range. checked w y.call.0 range (map origin_of x.tokens.items)) place
    ∙ ap (λ origins. checked w y.call.0 y.call.1 origins) (origins_same x.tokens.items y.tokens.items (ap (λ (r : PlainExpansion). r.tokens) same))
    ∙ sym (checked_is w y)

abbrev grown : Workspace → Result NodeId WorkspaceError → Result Syntax WorkspaceError → List ExpToken → Result Workspace WorkspaceError
grown w called tree tokens = called >>= (λ call. tree >>= (λ syntax. Ok (with_tree w call syntax (joined_origins (tokens_of syntax) tokens))))

expansion_same : (w : Workspace) (x y : Expansion) → row_of_expansion x ≡ row_of_expansion y → with_expansion w x ≡ with_expansion w y
expansion_same w x y same =
    let tokens : map row_of_token x.tokens.items ≡ map row_of_token y.tokens.items = ap (λ (r : PlainExpansion). r.tokens) same in
    let kind : x.kind ≡ y.kind = sym (kind_back x.kind) ∙ ap (λ (r : PlainExpansion). kind_of_row r.kind) same ∙ kind_back y.kind in
    let why : SyntaxError → WorkspaceError = errors.Expansion (length w.expansions) in
    let tree : Expansion → Result Syntax WorkspaceError = λ z. read_as why (expansion_reading z.kind z.tokens.items) in
    let read : expansion_reading x.kind x.tokens.items ≡ expansion_reading y.kind y.tokens.items =
    ap (λ k. expansion_reading k x.tokens.items) kind ∙ reading_same y.kind x.tokens.items y.tokens.items tokens in
    ap (λ called. grown w called (tree x) x.tokens.items) (checked_same w x y same)
    ∙ ap (λ reading. grown w (checked_call w y) (read_as why reading) x.tokens.items) read
    ∙ then_same (λ call. tree y >>= (λ syntax. Ok (with_tree w call syntax (joined_origins (tokens_of syntax) x.tokens.items))))
    (λ call. tree y >>= (λ syntax. Ok (with_tree w call syntax (joined_origins (tokens_of syntax) y.tokens.items))))
    (λ call. then_same (λ syntax. Ok (with_tree w call syntax (joined_origins (tokens_of syntax) x.tokens.items)))
    (λ syntax. Ok (with_tree w call syntax (joined_origins (tokens_of syntax) y.tokens.items)))
    (λ syntax. ap (λ os. Ok (with_tree w call syntax os)) (joined_same (tokens_of syntax) x.tokens.items y.tokens.items tokens)) (tree y))
    (checked_call w y)

-- ** All.

pub one_workspace : (rows : PlainFacts) → OneWorkspace rows
unfolding built
one_workspace rows files again expansions others are same =
    let texts = are.texts ∙ sym same.texts in
    let expanded = are.rows ∙ sym same.rows in
    let count : length files + length expansions ≡ length again + length others =
    omega (
      arith,
      length-map files string_bytes,
      length-map again string_bytes,
      ap length texts,
      length-map expansions row_of_expansion,
      length-map others row_of_expansion,
      ap length expanded,
    ) in
    let rest : List (String Global) → List Expansion → Result Workspace WorkspaceError =
    λ fs xs. in_turn with_file no_tree fs >>= (λ w. in_turn with_expansion w xs) in
    ap (λ n. unless (nat_lt most_trees n) errors.TooManyTrees >>= (λ _. rest files expansions)) count
    ∙ ap (λ r. unless (nat_lt most_trees (length again + length others)) errors.TooManyTrees >>= (λ _. r))
    (ap (λ r. r >>= (λ w. in_turn with_expansion w expansions)) (in_turn_same string_bytes with_file file_same no_tree files again texts)
    ∙ then_same (λ w. in_turn with_expansion w expansions) (λ w. in_turn with_expansion w others)
    (λ w. in_turn_same row_of_expansion with_expansion expansion_same w expansions others expanded) (in_turn with_file no_tree again))
