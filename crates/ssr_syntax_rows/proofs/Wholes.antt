-- The whole tree of a text: its tokens, its depth, and the rows that its flat tree is made of.
use Rattle.std.proofs.Common.{◌≡◌, ℕ, zero, ◌+◌, ◌^◌, ◌<◌, ◌≤◌, List, [], ◌∷◌, ◌++◌, length, map, refl, sym, ◌∙◌, ap, subst, arith, length-append}
use Rattle.std.specs.Prelude.{All, max}
use Rattle.std.specs.List.{AllByRecursion}
use Rattle.std.specs.Str.{IsUtf8}
use Rattle.std.proofs.lemmas.List.Elements.{All-from_recursion}
use Rattle.std.proofs.lemmas.Str.{IsUtf8-nil, IsUtf8-append}
use Rattle.ssr_syntax_kinds.specs.declared.kinds.SyntaxKind.{SyntaxKind}
use Rattle.ssr_syntax_lex.specs.declared.tokens.RawToken.{RawToken}
use Rattle.ssr_syntax_lex.specs.Tokens.{row_of, spell, Tiles}
use Rattle.ssr_syntax_tree.specs.Syntax as plain
use Rattle.ssr_syntax_tree.specs.Syntax.{depth_of, source_of, tokens_of}
use Rattle.ssr_syntax_tree.specs.Places.{nodes_of, nodes_in, root_of}
use Rattle.ssr_syntax_tree.specs.Parts.{AreParts, node_row, token_rows}
use Rattle.ssr_syntax_tree.specs.declared.rows.NodeRow.{NodeRow}
use Rattle.ssr_syntax_kinds.specs.declared.token_rows.TokenRow.{TokenRow}
use Rattle.ssr_syntax_rows.specs.Leaves.{Taken, leaves, after, first_in}
use Rattle.ssr_syntax_forms.specs.Trees.{Forest, nodes, height}
use Rattle.ssr_syntax_rows.specs.Leaves as written
use Rattle.ssr_syntax_forms.specs.Places.{leading, behind_trivia, Place, place_at, behind_token}
use Rattle.ssr_syntax_forms.specs.Trees as solid
use Rattle.ssr_syntax_rows.specs.Lossless.{gap, behind_gap, upto, past, lossless, whole_tree}
use Rattle.ssr_syntax_rows.specs.Preorder.{tree_rows, node_rows, most_nodes}
use Rattle.ssr_syntax_rows.specs.Solid.{pieces, solid_tokens}
use Rattle.ssr_syntax_rows.proofs.Leaves.{length-rows}
use Rattle.ssr_syntax_rows.proofs.Laid.{AreSolid, total, total-leaves, token_of, laid, all_laid, spelled-laid, kinds_of, leading-kinds, behind-kinds, At, upto-zero, past-zero, upto-past, upto-behind_gap, tokens-behind, tokens-lossless, token_count-tokens, count-behind, count-lossless, nodes-behind, rows-lossless, height-behind, height-lossless}
use Rattle.ssr_syntax_rows.proofs.Tiles.{tiled_texts, spelled-pieces}
use Rattle.ssr_syntax_rows.proofs.TreeTokens.{taken_rows, all-next, rows_laid, length-token_rows}

-- the tokens of the tree are those that were taken
pub whole-tokens : (kind : SyntaxKind) (kids : Forest) (ts : List plain.Token) → AreSolid (leaves kids)
    → tokens_of (whole_tree kind kids ts) ≡ all_laid (leaves kids) ts
whole-tokens kind kids ts are =
    tokens-behind (lossless kids ts) (past (length (solid.spell kids)) ts)
    ∙ ap (λ l. l ++ past (length (solid.spell kids)) ts) (tokens-lossless kids ts are)
    ∙ ap (λ n. laid (leaves kids) ts ++ past n ts) (sym (total-leaves kids))

pub whole-depth : (kind : SyntaxKind) (kids : Forest) (ts : List plain.Token) → depth_of (whole_tree kind kids ts) ≡ height kids
whole-depth kind kids ts = height-behind (lossless kids ts) (past (length (solid.spell kids)) ts) ∙ height-lossless kids ts

root_row : (kind : SyntaxKind) (below : plain.Forest) (past count : ℕ) → plain.token_count below ≡ past → plain.node_count below ≡ count
    → node_row (root_of (record { kind = kind; children = below }))
    ≡ record { kind = kind; parent = 0; first = 0; past = past; below = count }
root_row kind below past count e f =
    let row : ℕ → ℕ → NodeRow = λ a b. record { kind = kind; parent = 0; first = 0; past = a; below = b } in
    ap (λ a. row a (plain.node_count below)) (omega arith) ∙ ap (row past) f

-- where the parser begins in a text of these tokens
abbrev pub start_of : List RawToken → Place
start_of raw = place_at 0 (map (λ row. row.kind) (map row_of raw))

kinds-pieces : (text : List ℕ) (raw : List RawToken) → map (λ row. row.kind) (map row_of raw) ≡ kinds_of (pieces text raw)
kinds-pieces text [] = refl
kinds-pieces text (t ∷ ts) = ap (λ l. t.kind ∷ l) (kinds-pieces text ts)

at_start : (text : List ℕ) (raw : List RawToken) → At (start_of raw) 0 0 (pieces text raw)
at_start text raw =
    let ts = pieces text raw in
    let same = kinds-pieces text raw in
    record {
      next = omega (arith, ap leading same, leading-kinds ts);
      kinds = ap behind_trivia same ∙ behind-kinds ts;
      here = omega arith;
    }

laid_rows : (text : List ℕ) (us : List Taken) (raw : List RawToken) → Tiles text raw → AreSolid us → total us ≤ length (solid_tokens raw)
    → taken_rows 0 us (map row_of raw) ≡ token_rows 0 (all_laid us (pieces text raw))
laid_rows text us raw tiles are few =
    let none : 0 + length (plain.spelled (upto zero (pieces text raw))) ≡ 0 =
    omega (arith, ap (λ l. length (plain.spelled l)) (upto-zero (pieces text raw))) in
    rows_laid text 0 0 us raw tiles are (omega arith)
    ∙ ap (λ n. token_rows n (all_laid us (past zero (pieces text raw)))) none
    ∙ ap (λ ts. token_rows 0 (all_laid us ts)) (past-zero (pieces text raw))

pub whole-rows : (text : List ℕ) (raw : List RawToken) (kind : SyntaxKind) (kids : Forest) → Tiles text raw
    → AreSolid (leaves kids) → total (leaves kids) ≤ length (solid_tokens raw)
    → tree_rows (start_of raw) (length (taken_rows 0 (leaves kids) (map row_of raw))) kind kids
    ≡ map node_row (nodes_of (whole_tree kind kids (pieces text raw)))
whole-rows text raw kind kids tiles are few =
    let ts = pieces text raw in
    let us = leaves kids in
    let outside = past (length (solid.spell kids)) ts in
    let below : plain.Forest = plain.Syntax.children (whole_tree kind kids ts) in
    let many : ℕ = length (taken_rows 0 us (map row_of raw)) in
    let tokens : plain.token_count below ≡ many =
    token_count-tokens below ∙ ap length (whole-tokens kind kids ts are) ∙ sym (length-token_rows 0 (all_laid us ts))
    ∙ ap length (sym (laid_rows text us raw tiles are few)) in
    let count : plain.node_count below ≡ nodes kids = count-behind (lossless kids ts) outside ∙ count-lossless kids ts in
    let root : NodeRow = record { kind = kind; parent = 0; first = 0; past = many; below = nodes kids } in
    ap (λ l. root ∷ l)
    (sym (rows-lossless 0 1 0 0 (start_of raw) kids ts are (at_start text raw))
    ∙ ap (map node_row) (sym (nodes-behind 0 1 0 (lossless kids ts) outside)))
    ∙ ap (λ r. r ∷ map node_row (nodes_in 0 1 0 below)) (sym (root_row kind below many (nodes kids) tokens count))

-- the tree spells the text
pub whole-source : (text : List ℕ) (raw : List RawToken) (kind : SyntaxKind) (kids : Forest) → AreSolid (leaves kids)
    → spell text raw ≡ text → source_of (whole_tree kind kids (pieces text raw)) ≡ text
whole-source text raw kind kids are spells =
    ap plain.spelled (whole-tokens kind kids (pieces text raw) are)
    ∙ spelled-laid (leaves kids) (pieces text raw) ∙ spelled-pieces text raw ∙ spells

-- ** Each token of the tree is a text.

abbrev pub AreTexts : List plain.Token → Type 0
AreTexts ts = AllByRecursion (λ token. IsUtf8 token.text) ts

pub texts-append : (ss ts : List plain.Token) → AreTexts ss → AreTexts ts → AreTexts (ss ++ ts)
texts-append [] ts h k = k
texts-append (s ∷ ss) ts h k = (h.0, texts-append ss ts h.1 k)

pub texts_spelled : (ts : List plain.Token) → AreTexts ts → IsUtf8 (plain.spelled ts)
texts_spelled [] h = IsUtf8-nil
texts_spelled (t ∷ ts) h = IsUtf8-append t.text (plain.spelled ts) h.0 (texts_spelled ts h.1)

pub texts_split : (ss ts : List plain.Token) → AreTexts (ss ++ ts) → AreTexts ss × AreTexts ts
texts_split [] ts h = (tt, h)
texts_split (s ∷ ss) ts h = let r = texts_split ss ts h.1 in ((h.0, r.0), r.1)

texts_laid : (us : List Taken) (ts : List plain.Token) → AreTexts ts → AreTexts (all_laid us ts)
texts_laid [] ts h = subst AreTexts (sym (past-zero ts)) h
texts_laid (u ∷ us) ts h =
    let n = u.size in
    let sides = texts_split (upto n ts) (past n ts) (subst AreTexts (sym (upto-past n ts)) h) in
    let here = texts_split (gap n ts) (upto n (behind_gap n ts)) (subst AreTexts (upto-behind_gap n ts) sides.0) in
    subst AreTexts (sym (all-next u us ts))
    (texts-append (gap n ts) (token_of u ts ∷ all_laid us (past n ts)) here.0
    (texts_spelled (upto n (behind_gap n ts)) here.1, texts_laid us (past n ts) sides.1))

pub whole-texts : (text : List ℕ) (raw : List RawToken) (kind : SyntaxKind) (kids : Forest) → IsUtf8 text → Tiles text raw → AreSolid (leaves kids)
    → All (λ token. IsUtf8 token.text) (tokens_of (whole_tree kind kids (pieces text raw)))
whole-texts text raw kind kids utf8 tiles are =
    let ts = pieces text raw in
    subst (All (λ token. IsUtf8 token.text)) (sym (whole-tokens kind kids ts are))
    (All-from_recursion (λ token. IsUtf8 token.text) (all_laid (leaves kids) ts)
    (texts_laid (leaves kids) ts (tiled_texts text 0 raw utf8 tiles)))

-- the parts of the flat tree
pub whole_parts : (text : List ℕ) (raw : List RawToken) (kind : SyntaxKind) (kids : Forest) (source : List ℕ) (tokens : List TokenRow) (rows : List NodeRow)
    → IsUtf8 text → length text < 2 ^ 32 → Tiles text raw → spell text raw ≡ text
    → AreSolid (leaves kids) → total (leaves kids) ≤ length (solid_tokens raw)
    → source ≡ text → tokens ≡ taken_rows 0 (leaves kids) (map row_of raw)
    → rows ≡ tree_rows (start_of raw) (length (taken_rows 0 (leaves kids) (map row_of raw))) kind kids → length rows < 2 ^ 32
    → AreParts source tokens rows (whole_tree kind kids (pieces text raw))
whole_parts text raw kind kids source tokens rows utf8 short tiles spells are few source_is tokens_is rows_is count =
    let ts = pieces text raw in
    let all : tokens_of (whole_tree kind kids ts) ≡ all_laid (leaves kids) ts = whole-tokens kind kids ts are in
    record {
      spells = source_is ∙ sym (whole-source text raw kind kids are spells);
      texts = whole-texts text raw kind kids utf8 tiles are;
      tokens_are = tokens_is ∙ laid_rows text (leaves kids) raw tiles are few ∙ ap (token_rows 0) (sym all);
      nodes_are = rows_is ∙ whole-rows text raw kind kids tiles are few;
      short = omega (arith, ap length source_is);
      few = count;
    }

length-node_rows : (parent low m : ℕ) (p : Place) (f : Forest) → length (node_rows parent low m p f) ≡ nodes f
length-node_rows parent low m p solid.done = refl
length-node_rows parent low m p (solid.leaf kind us x) = length-node_rows parent low m (behind_token (length us) p) x
length-node_rows parent low m p (solid.tree kind kids x) =
    let us = leaves kids in
    let first = max (first_in us p) low in
    let inside = node_rows m first (1 + m) p kids in
    let beside = node_rows parent low (1 + m + nodes kids) (after us p) x in
    omega (
      arith,
      length-append inside beside,
      length-node_rows m first (1 + m) p kids,
      length-node_rows parent low (1 + m + nodes kids) (after us p) x,
    )

pub count_fits : (p : Place) (tokens : ℕ) (kind : SyntaxKind) (kids : Forest) (rows : List NodeRow) (made : List NodeRow)
    → rows ≡ written.rows (solid.tree kind kids solid.done) p → length rows ≤ most_nodes → made ≡ tree_rows p tokens kind kids
    → length made < 2 ^ 32
count_fits p tokens kind kids rows made e le f =
    omega (arith, ap length e, length-rows (solid.tree kind kids solid.done) p, ap length f, length-node_rows 0 0 1 p kids)
