-- The plain tree that is read back from the parts of a tree is that tree.
use Rattle.std.proofs.Common.{◌≡◌, ℕ, ◌+◌, ◌-◌, ◌<◌, ◌≤◌, ◌&&◌, Bool, true, false, nat_lt, List, [], ◌∷◌, length, take, drop, map, Some, refl, ap, ◌∙◌, arith, length-append, ne_eqb, eq-eqb, ltb-true, lt-ltb, le-ltb}
use Rattle.std.specs.Prelude.{◌==◌, zero, suc, slice_get}
use Rattle.std.proofs.lemmas.List.{take_at, length-map}
use Rattle.std.proofs.lemmas.Option.{slice_get-map}
use Rattle.ssr_syntax_tree.specs.declared.rows.NodeRow.{NodeRow}
use Rattle.ssr_syntax_kinds.specs.declared.token_rows.TokenRow.{TokenRow}
use Rattle.ssr_syntax_tree.specs.Private.Flat.{next_start, tokens_from, row_at, token_in, grown, plain_of}
use Rattle.ssr_syntax_tree.specs.Parts.{node_row, token_rows, AreParts}
use Rattle.ssr_syntax_tree.specs.Places.{Node, nodes_of, root_of}
use Rattle.ssr_syntax_tree.specs.Syntax.{Token, Forest, nothing, leaf, branch, Syntax, token_count, node_count, tokens_of, spelled}
use Rattle.ssr_syntax_tree.specs.Private.Siblings.{At}
use Rattle.ssr_syntax_tree.proofs.Lists.{slice_get-drop, drop_part}
use Rattle.ssr_syntax_tree.proofs.Siblings.{at_top, at_leaf, at_below, at_next, length-nodes_in, length-tokens_in}

-- the tokens are read back
next_start-token_rows : (source : List ℕ) (start : ℕ) (tokens : List Token) → start + length (spelled tokens) ≡ length source → next_start source (token_rows start tokens) ≡ start
next_start-token_rows source start [] e = omega arith
next_start-token_rows source start (token ∷ next) e = refl

pub tokens_from-token_rows : (source : List ℕ) (start : ℕ) (tokens : List Token) → drop start source ≡ spelled tokens → start + length (spelled tokens) ≡ length source → tokens_from source (token_rows start tokens) ≡ tokens
tokens_from-token_rows source start [] e l = refl
tokens_from-token_rows source start (token ∷ next) e l =
    let after = start + length token.text in
    let far : after + length (spelled next) ≡ length source = omega (arith, length-append token.text (spelled next)) in
    let text : take (next_start source (token_rows after next) - start) (drop start source) ≡ token.text =
    ap (λ n. take n (drop start source)) (omega (arith, next_start-token_rows source after next far))
    ∙ ap (take (length token.text)) e
    ∙ take_at token.text (spelled next) (length token.text) refl in
    let rest = tokens_from-token_rows source after next (drop_part source start (length token.text) token.text (spelled next) e refl) far in
    ap (λ text. record { kind = token.kind; text = text } ∷ tokens_from source (token_rows after next)) text
    ∙ ap (λ rest. token ∷ rest) rest

-- the rows of the tree's nodes and tokens
row_is : (rows : List NodeRow) (nodes : List Node) (n : ℕ) (node : Node) → rows ≡ map node_row nodes → slice_get nodes n ≡ Some node → row_at rows n ≡ node_row node
row_is rows nodes n node e h = rw e (rw slice_get-map (rw h refl))

and_false : (a b : Bool) → (a ≡ true → b ≡ false) → (a && b) ≡ false
and_false true b h = h refl
and_false false b h = refl

-- the next node begins behind the token before it
first_later : (syntax : Syntax) (parent m t : ℕ) (forest : Forest) → At syntax parent m t forest → 0 < node_count forest → (node : Node) × (slice_get (nodes_of syntax) m ≡ Some node) × (t ≤ node.first)
first_later syntax parent m t nothing a h = absurd (omega arith)
first_later syntax parent m t (leaf token next) a h =
    let later = first_later syntax parent m (1 + t) next (at_leaf syntax parent m t token next a) h in
    (later.0, later.1, omega (arith, later.2))
first_later syntax parent m t (branch kind below next) a h =
    (record { number = m; parent = parent; first = t; kind = kind; children = below }, slice_get-drop (nodes_of syntax) m _ _ a.nodes, omega arith)

no_node : (syntax : Syntax) (rows : List NodeRow) (parent m last t : ℕ) (token : Token) (next : Forest) → rows ≡ map node_row (nodes_of syntax) → At syntax parent m t (leaf token next) → last ≡ m + node_count next → (nat_lt m last && (row_at rows m).first == t) ≡ false
no_node syntax rows parent m last t token next e a l =
    and_false _ _ (λ within.
    let some : 0 < node_count next = omega (arith, ltb-true m last within) in
    let later = first_later syntax parent m (1 + t) next (at_leaf syntax parent m t token next a) some in
    ap (λ row. row.first == t) (row_is rows (nodes_of syntax) m later.0 e later.1) ∙ ne_eqb later.0.first t (λ same. omega (arith, later.2)))

pub grown-is : (syntax : Syntax) (rows : List NodeRow) → rows ≡ map node_row (nodes_of syntax) → (fuel : ℕ) (parent m last t past : ℕ) (forest : Forest) → At syntax parent m t forest → last ≡ m + node_count forest → past ≡ t + token_count forest → node_count forest + token_count forest ≤ fuel → grown fuel (tokens_of syntax) rows m last t past ≡ forest
unfolding grown
grown-is syntax rows e zero parent m last t past nothing a l p f = refl
grown-is syntax rows e zero parent m last t past (leaf token next) a l p f = absurd (omega arith)
grown-is syntax rows e zero parent m last t past (branch kind below next) a l p f = absurd (omega arith)
grown-is syntax rows e (suc fuel) parent m last t past nothing a l p f =
    let no_more : nat_lt m last ≡ false = le-ltb m last (omega arith) in
    let none_left : nat_lt t past ≡ false = le-ltb t past (omega arith) in
    rw no_more (rw none_left refl)
grown-is syntax rows e (suc fuel) parent m last t past (leaf token next) a l p f =
    let not_here = no_node syntax rows parent m last t token next e a l in
    let one_left : nat_lt t past ≡ true = lt-ltb t past (omega arith) in
    let here : token_in (tokens_of syntax) t ≡ token = rw (slice_get-drop (tokens_of syntax) t _ _ a.tokens) refl in
    rw not_here (rw one_left (rw here (ap (leaf token) (grown-is syntax rows e fuel parent m last (1 + t) past next (at_leaf syntax parent m t token next a) l (omega arith) (omega arith)))))
grown-is syntax rows e (suc fuel) parent m last t past (branch kind below next) a l p f =
    let node : Node = record { number = m; parent = parent; first = t; kind = kind; children = below } in
    let row : row_at rows m ≡ node_row node = row_is rows (nodes_of syntax) m node e (slice_get-drop (nodes_of syntax) m _ _ a.nodes) in
    let within : nat_lt m last ≡ true = lt-ltb m last (omega arith) in
    let same : (t == t) ≡ true = eq-eqb t t refl in
    let inner = grown-is syntax rows e fuel m (1 + m) (1 + m + node_count below) t (t + token_count below) below (at_below syntax parent m t kind below next a) refl refl (omega arith) in
    let outer = grown-is syntax rows e fuel parent (1 + m + node_count below) last (t + token_count below) past next (at_next syntax parent m t kind below next a) (omega arith) (omega arith) (omega arith) in
    rw row (rw within (rw same (rw inner (ap (branch kind below) outer))))

pub read_back : (source : List ℕ) (tokens : List TokenRow) (nodes : List NodeRow) (syntax : Syntax) → AreParts source tokens nodes syntax → plain_of source tokens nodes ≡ syntax
read_back source tokens nodes syntax are =
    let read : tokens_from source tokens ≡ tokens_of syntax = ap (tokens_from source) are.tokens_are ∙ tokens_from-token_rows source 0 (tokens_of syntax) are.spells (omega (arith, ap length are.spells)) in
    let row : row_at nodes 0 ≡ node_row (root_of syntax) = row_is nodes (nodes_of syntax) 0 (root_of syntax) are.nodes_are refl in
    let count : length nodes ≡ 1 + node_count syntax.children =
    omega (arith, ap length are.nodes_are, length-map (nodes_of syntax) node_row, length-nodes_in 0 1 0 syntax.children) in
    let tokens_counted = length-tokens_in syntax.children in
    let fuel = 1 + length nodes + length (tokens_of syntax) in
    let whole =
    grown-is syntax nodes are.nodes_are fuel 0 1 (length nodes) 0 (length (tokens_of syntax)) syntax.children (at_top syntax) count (omega arith) (omega arith) in
    rw read (rw row (ap (λ children. record { kind = syntax.kind; children = children }) whole))
