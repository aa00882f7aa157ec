-- Laws of what a template gives.
use Rattle.std.proofs.Common.{◌≡◌, ℕ, ◌+◌, ◌^◌, ◌<◌, ◌≤◌, ◌==◌, ◌&&◌, not, inl, inr, nat_le, if◌then◌else◌, Bool, true, false, List, ◌++◌, length, drop, get_or, refl, sym, ◌∙◌, ap, subst, arith, append_assoc, length-append}
use Rattle.std.specs.Prelude.{codes}
use Rattle.std.proofs.lemmas.List.{get_or_default}
use Rattle.std.proofs.lemmas.List.Folds.{list_any_at, list_any_none}
use Rattle.std.proofs.lemmas.Option.{unwrap_or-slice_get}
use Rattle.std.proofs.lemmas.Bool.Decides.{nat_tests}
use Rattle.ssr_syntax_tree.specs.Syntax.{Syntax, node_count}
use Rattle.ssr_syntax_tree.specs.Places.{Node, nodes_of, node_of, start_of, end_of, IsAbove, HasNode, HasToken}
use Rattle.ssr_syntax_tree.proofs.Shared.{node_of-number, start_of-below, end_of-below, length-nodes_of}
use Rattle.std.proofs.lemmas.Bool.{cases_lt}
use Rattle.ide_ssr_resolved_rule.specs.Resolved.{ResolvedRule}
use Rattle.ide_ssr_rewriting.specs.Rendering.{Filling, text_for, is_piece, token_numbers, plain, is_node, wrapped, wrapped_text}
use Rattle.ide_ssr_rewriting.proofs.Tokens.{numbers_from}

-- a token's text is pushed: the rest comes behind it
pub pushed : (old new text left rest whole : List ℕ) → old ++ left ≡ whole → left ≡ text ++ rest → new ≡ old ++ text → new ++ rest ≡ whole
pushed old new text left rest whole is so e = rw (e, append_assoc, ← so) is

pub plain_from : (rule : ResolvedRule) (filling : Filling) (tree : Syntax) (n : ℕ) → HasToken tree n
    → plain rule filling tree (drop n (token_numbers tree)) ≡ text_for rule filling tree n ++ plain rule filling tree (drop (n + 1) (token_numbers tree))
plain_from rule filling tree n h = ap (plain rule filling tree) (numbers_from tree n h)

pub wrapped_from : (read : Syntax) (front : ℕ) (rule : ResolvedRule) (filling : Filling) (at : ℕ) (tree : Syntax) (n : ℕ) → HasToken tree n
    → wrapped read front rule filling tree at (drop n (token_numbers tree))
    ≡ wrapped_text read front (is_piece rule tree n) at (text_for rule filling tree n)
    ++ wrapped read front rule filling tree (at + length (text_for rule filling tree n)) (drop (n + 1) (token_numbers tree))
wrapped_from read front rule filling at tree n h = ap (wrapped read front rule filling tree at) (numbers_from tree n h)

-- what is left of the template without the token is as much shorter
pub still_within : (at n : ℕ) (left text rest : List ℕ) → at + length left ≡ n → left ≡ text ++ rest → (at + length text) + length rest ≡ n
still_within at n left text rest h e = omega (arith, ap length e, length-append text rest)

pub bounded : (at n : ℕ) (left text rest other : List ℕ) → at + length left ≡ n → left ≡ text ++ rest → n < 2 ^ 64 → other ≡ text → at + length other < 2 ^ 64
bounded at n left text rest other h e b same = omega (arith, ap length e, length-append text rest, ap length same)

-- a text that is no piece, or a node, stands as it is
pub unwrapped : (read : Syntax) (front at : ℕ) (is_piece : Bool) (text : List ℕ) → (is_piece && not (is_node read front at (at + length text))) ≡ false
    → wrapped_text read front is_piece at text ≡ text
unwrapped read front at is_piece text is = ap (λ (b : Bool). if b then codes "(" ++ (text ++ codes ")") else text) is

-- if what stands behind it does so too, all does
pub stays : (left shown text behind plain_left plain_behind : List ℕ) → left ≡ shown ++ behind → shown ≡ text → plain_left ≡ text ++ plain_behind → behind ≡ plain_behind
    → left ≡ plain_left
stays left shown text behind plain_left plain_behind is same plain_is so = is ∙ (ap (λ (t : List ℕ). t ++ behind) same ∙ (ap (λ (t : List ℕ). text ++ t) so ∙ sym plain_is))

-- the node of a number, in the list of nodes
pub node_at : (tree : Syntax) (n : ℕ) (d : Node) → HasNode tree n → get_or (nodes_of tree) n d ≡ node_of tree n
unfolding node_of
node_at tree n d h = get_or_default (nodes_of tree) n d _ (omega (arith, length-nodes_of tree)) ∙ sym (unwrap_or-slice_get (nodes_of tree) n _)

-- whether a node has the bytes from one place to another
abbrev pub has_bytes : Syntax → ℕ → ℕ → ℕ → ℕ → Bool
has_bytes tree front from to n = front + start_of tree (node_of tree n) == from && front + end_of tree (node_of tree n) == to

pub is_node-found : (tree : Syntax) (front from to n : ℕ) → HasNode tree n → has_bytes tree front from to n ≡ true → is_node tree front from to ≡ true
unfolding is_node
is_node-found tree front from to n h e =
    list_any_at (λ node. front + start_of tree node == from && front + end_of tree node == to) (nodes_of tree) n (node_of tree n)
    (omega (arith, length-nodes_of tree))
    (rw (node_at tree n (node_of tree n) h) e)

pub is_node-missing : (tree : Syntax) (front from to : ℕ)
    → ((n : ℕ) → HasNode tree n → (front + start_of tree (node_of tree n) == from && front + end_of tree (node_of tree n) == to) ≡ false)
    → is_node tree front from to ≡ false
unfolding is_node
is_node-missing tree front from to none =
    list_any_none (λ node. front + start_of tree node == from && front + end_of tree node == to) (nodes_of tree)
    (λ k d h. let has : HasNode tree k = omega (arith, length-nodes_of tree) in rw (node_at tree k d has) (none k has))

outside : (s e from to : ℕ) (f : ℕ) (a b : ℕ) → (nat_le (f + s) from && nat_le to (f + e)) ≡ false → s ≤ a → b ≤ e → (f + a == from && f + b == to) ≡ false
outside s e from to f a b h g k = grind (arith, nat_tests)

looked_at : (look : Bool) (n : ℕ) → 0 < (if look then 0 else n) → look ≡ false
looked_at true n h = absurd (omega arith)
looked_at false n h = refl

-- no node up to the next one that is looked at has the bytes
pub none_up_to : (tree : Syntax) (front from to node passed : ℕ) (look : Bool) → HasNode tree node
    → look ≡ (nat_le (front + start_of tree (node_of tree node)) from && nat_le to (front + end_of tree (node_of tree node)))
    → passed ≡ (if look then 0 else node_count (node_of tree node).children) → has_bytes tree front from to node ≡ false
    → ((n : ℕ) → n < node → has_bytes tree front from to n ≡ false) → (n : ℕ) → n < node + (1 + passed) → has_bytes tree front from to n ≡ false
none_up_to tree front from to node passed look has l p here before n lt =
    elim (cases_lt n node) [
      | inl earlier ↦ before n earlier
      | inr not_before ↦
          elim (cases_lt node n) [
            | inl after ↦
                let off : look ≡ false = looked_at look (node_count (node_of tree node).children) (subst (λ (k : ℕ). 0 < k) p (omega arith)) in
                let all : passed ≡ node_count (node_of tree node).children = subst (λ (b : Bool). passed ≡ (if b then 0 else node_count (node_of tree node).children)) off p in
                let number : (node_of tree node).number ≡ node = node_of-number tree node has in
                let above : IsAbove (node_of tree node) n = (omega arith, omega arith) in
                outside (start_of tree (node_of tree node)) (end_of tree (node_of tree node)) from to front (start_of tree (node_of tree n)) (end_of tree (node_of tree n))
                (sym l ∙ off) (start_of-below tree node n has above) (end_of-below tree node n has above)
            | inr same ↦ let at : node ≡ n = omega arith in subst (λ (n : ℕ). has_bytes tree front from to n ≡ false) at here
          ]
    ]
