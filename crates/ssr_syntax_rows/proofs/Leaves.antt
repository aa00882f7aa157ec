-- What the parser writes of a forest, in lists.
use Rattle.std.proofs.Common.{◌≡◌, ℕ, ◌-◌, if◌then◌else◌, List, [], ◌∷◌, ◌++◌, length, refl, sym, ◌∙◌, ap, arith, append_assoc, length-append}
use Rattle.std.proofs.lemmas.List.{append-nil}
use Rattle.ssr_syntax_kinds.specs.declared.kinds.SyntaxKind.{SyntaxKind}
use Rattle.ssr_syntax_tree.specs.declared.rows.NodeRow.{NodeRow}
use Rattle.ssr_syntax_forms.specs.declared.rows.Joined.{Joined}
use Rattle.ssr_syntax_forms.specs.Places.{Place, behind_token, is_alone}
use Rattle.ssr_syntax_forms.specs.Parser.{Written, token_written, node_written}
use Rattle.ssr_syntax_forms.specs.Trees.{Forest, done, leaf, tree, nodes}
use Rattle.ssr_syntax_forms.specs.Written.{writes}
use Rattle.ssr_syntax_rows.specs.Leaves.{Taken, leaves, after, first_in, past_in, rows}

-- those of the tokens that are taken that are no token of the text as it is
abbrev pub joined_of : List Taken → Place → List Joined
joined_of [] p = []
joined_of (u ∷ us) p =
    (if is_alone u.kind u.size p.kinds then [] else record { number = p.next; kind = u.kind; size = u.size } ∷ [])
    ++ joined_of us (behind_token u.size p)

pub after-append : (us vs : List Taken) (p : Place) → after (us ++ vs) p ≡ after vs (after us p)
after-append [] vs p = refl
after-append (u ∷ us) vs p = after-append us vs (behind_token u.size p)

joined-append : (us vs : List Taken) (p : Place) → joined_of (us ++ vs) p ≡ joined_of us p ++ joined_of vs (after us p)
joined-append [] vs p = refl
joined-append (u ∷ us) vs p =
    let here : List Joined = if is_alone u.kind u.size p.kinds then [] else record { number = p.next; kind = u.kind; size = u.size } ∷ [] in
    let q = behind_token u.size p in
    ap (λ l. here ++ l) (joined-append us vs q) ∙ sym (append_assoc here (joined_of us q) (joined_of vs (after us q)))

pub length-rows : (x : Forest) (p : Place) → length (rows x p) ≡ nodes x
length-rows done p = refl
length-rows (leaf kind us x) p = length-rows x (behind_token (length us) p)
length-rows (tree kind kids x) p =
    let q = after (leaves kids) p in
    omega (
      arith,
      length-append (rows kids p) (record { kind = kind; parent = 0; first = first_in (leaves kids) p; past = past_in (leaves kids) p; below = nodes kids } ∷ rows x q),
      length-rows kids p,
      length-rows x q,
    )

abbrev written_lists : List NodeRow → List Joined → Place → Written
written_lists made joints place = record { rows = made; joined = joints; place = place }

same_written : (made made' : List NodeRow) (joints joints' : List Joined) (p q : Place) → made ≡ made' → joints ≡ joints' → p ≡ q
    → written_lists made joints p ≡ written_lists made' joints' q
same_written made made' joints joints' p q e f g = rw (e, f, g) refl

-- what is written of a forest stands behind what was there
abbrev parts : Forest → Written → Written
parts z out = written_lists (out.rows ++ rows z out.place) (out.joined ++ joined_of (leaves z) out.place) (after (leaves z) out.place)

node_parts : (kind : SyntaxKind) (kids x : Forest) (out : Written)
    → parts x (node_written kind (length out.rows) out.place.next (parts kids out)) ≡ parts (tree kind kids x) out
node_parts kind kids x out =
    let p = out.place in
    let us = leaves kids in
    let q = after us p in
    let inside = rows kids p in
    let node : ℕ → NodeRow = λ n. record { kind = kind; parent = 0; first = first_in us p; past = past_in us p; below = n } in
    let count : length (out.rows ++ inside) - length out.rows ≡ nodes kids =
    omega (arith, length-append out.rows inside, length-rows kids p) in
    same_written
    (((out.rows ++ inside) ++ node (length (out.rows ++ inside) - length out.rows) ∷ []) ++ rows x q)
    (out.rows ++ (inside ++ node (nodes kids) ∷ rows x q))
    ((out.joined ++ joined_of us p) ++ joined_of (leaves x) q) (out.joined ++ joined_of (us ++ leaves x) p)
    (after (leaves x) q) (after (us ++ leaves x) p)
    (ap (λ n. ((out.rows ++ inside) ++ node n ∷ []) ++ rows x q) count
    ∙ append_assoc (out.rows ++ inside) (node (nodes kids) ∷ []) (rows x q)
    ∙ append_assoc out.rows inside (node (nodes kids) ∷ rows x q))
    (append_assoc out.joined (joined_of us p) (joined_of (leaves x) q) ∙ ap (λ l. out.joined ++ l) (sym (joined-append us (leaves x) p)))
    (sym (after-append us (leaves x) p))

pub writes_parts : (z : Forest) (out : Written) → writes z out ≡ parts z out
writes_parts done out =
    same_written out.rows (out.rows ++ []) out.joined (out.joined ++ []) out.place out.place
    (sym (append-nil out.rows)) (sym (append-nil out.joined)) refl
writes_parts (leaf kind tokens x) out =
    let p = out.place in
    let n = length tokens in
    let q = behind_token n p in
    let here : List Joined = if is_alone kind n p.kinds then [] else record { number = p.next; kind = kind; size = n } ∷ [] in
    writes_parts x (token_written kind n out)
    ∙ same_written (out.rows ++ rows x q) (out.rows ++ rows x q) ((out.joined ++ here) ++ joined_of (leaves x) q) (out.joined ++ (here ++ joined_of (leaves x) q))
    (after (leaves x) q) (after (leaves x) q) refl (append_assoc out.joined here (joined_of (leaves x) q)) refl
writes_parts (tree kind kids x) out =
    writes_parts x (node_written kind (length out.rows) out.place.next (writes kids out))
    ∙ ap (λ w. parts x (node_written kind (length out.rows) out.place.next w)) (writes_parts kids out)
    ∙ node_parts kind kids x out
