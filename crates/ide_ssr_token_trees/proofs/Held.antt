-- What placeholders of a token tree hold are tokens of the one that matches it, one behind the other.
use Rattle.std.proofs.Common.{◌≡◌, ℕ, ◌+◌, ◌<◌, ◌≤◌, Bool, true, false, cond, List, [], ◌∷◌, ◌++◌, All, AllPairs, Option, refl, sym, subst, inl, inr, arith, nat_lt, nat_le, ltb-true, lt-ltb, le-leb}
use Rattle.std.proofs.lemmas.Bool.{cases_lt, and_from}
use Rattle.std.proofs.lemmas.List.Elements.{All-nil, All-cons, All-head, All-tail, All-weaker}
use Rattle.std.proofs.lemmas.List.Kept.{AllPairs-cons}
use Rattle.ssr_syntax_tree.specs.Syntax.{Forest, nothing, leaf, branch, Syntax, token_count, node_count}
use Rattle.ssr_syntax_tree.specs.Places.{Node, Part, token_part, HasNode, node_of, parts_in, parts_of}
use Rattle.ssr_syntax_tree.proofs.Lists.{pairs_none}
use Rattle.ssr_syntax_tree.proofs.Shared.{IsChild, children_known}
use Rattle.ssr_base_trees.specs.declared.ids.TokenRun.{TokenRun}
use Rattle.ssr_base_trees.specs.Laws.{IsAmong}
use Rattle.ssr_base_trees.specs.Workspace.{run_of}
use Rattle.ide_ssr_bindings.specs.Apart.{IsHeldIn, ComesBefore, HasHeld, tokens_held}
use Rattle.ide_ssr_bindings.specs.declared.bindings.Binding.{Binding}
use Rattle.ide_ssr_bindings.specs.declared.bindings.Held.TheVariants as held
use Rattle.ide_ssr_token_trees.specs.Elements.{first_text, same_text, first_token, tokens_at, tokens_among, next_text, up_to, from, run_over, without_trivia, last_comma}
use Rattle.ide_ssr_token_trees.specs.TokenTrees.{ElementsMatch, ended, placeholder, trivia, comma_of_code, comma_of_pattern, tokens, trees, TreesMatch}

-- ** Elements between two tokens.

-- elements stand one behind the other, from one token up to before another
abbrev Stand : ℕ → ℕ → List Part → Type 0
Stand low high [] = low ≤ high
Stand low high (part ∷ rest) = (low ≤ first_token part) × Stand (first_token part + tokens_at part) high rest

stand_wider : (low l h high : ℕ) (parts : List Part) → low ≤ l → h ≤ high → Stand l h parts → Stand low high parts
stand_wider low l h high [] begins ends stand = omega arith
stand_wider low l h high (part ∷ rest) begins ends stand =
    let first = stand.0 in
    (omega arith, stand_wider (first_token part + tokens_at part) (first_token part + tokens_at part) h high rest (omega arith) ends stand.1)

parts_stand : (parent m t : ℕ) (forest : Forest) → Stand t (t + token_count forest) (parts_in parent m t forest)
parts_stand parent m t nothing = omega arith
parts_stand parent m t (leaf token next) = (
  omega arith,
  stand_wider (t + 1) (1 + t) (1 + t + token_count next) (t + (1 + token_count next)) (parts_in parent m (1 + t) next) (omega arith) (omega arith)
      (parts_stand parent m (1 + t) next),
)
parts_stand parent m t (branch kind below next) =
    let behind = t + token_count below in (
      omega arith,
      stand_wider behind behind (behind + token_count next) (t + (token_count below + token_count next)) (parts_in parent (1 + m + node_count below) behind next) (omega arith) (omega arith)
          (parts_stand parent (1 + m + node_count below) behind next),
    )

-- without the first one
stand_rest : (low high : ℕ) (part : Part) (rest : List Part) → Stand low high (part ∷ rest) → Stand low high rest
stand_rest low high part rest stand =
    let first = stand.0 in stand_wider low (first_token part + tokens_at part) high high rest (omega arith) (omega arith) stand.1

-- those that are not held come behind those that are
stand_from : (text : Option (List ℕ)) (low high : ℕ) (cs : List Part) → Stand low high cs → Stand (low + tokens_among (up_to text cs)) high (from text cs)
stand_from text low high [] stand = omega arith
stand_from text low high (c ∷ cs) stand = by (same_text (first_text c) text) (stand_from text (first_token c + tokens_at c) high cs stand.1) where
  by : (b : Bool) → Stand (first_token c + tokens_at c + tokens_among (up_to text cs)) high (from text cs)
      → Stand (low + tokens_among (cond b [] (c ∷ up_to text cs))) high (cond b (c ∷ cs) (from text cs))
  by true behind = let first = stand.0 in (omega arith, stand.1)
  by false behind =
      let first = stand.0 in
      stand_wider (low + (tokens_at c + tokens_among (up_to text cs))) (first_token c + tokens_at c + tokens_among (up_to text cs)) high high (from text cs)
      (omega arith) (omega arith) behind

-- ** What is held.

-- bindings hold tokens, one behind the other, from one token up to before another
abbrev HoldTokens : ℕ → ℕ → List Binding → Type 0
HoldTokens low high [] = low ≤ high
HoldTokens low high (b ∷ bs) =
    (run : TokenRun) × (b.held ≡ held.Tokens run) × (low ≤ run.first) × (0 < run.count) × HoldTokens (run.first + run.count) high bs

hold_from : (low l high : ℕ) (bs : List Binding) → low ≤ l → HoldTokens l high bs → HoldTokens low high bs
hold_from low l high [] begins hold = omega arith
hold_from low l high (b ∷ bs) begins hold = let first = hold.2 in (hold.0, hold.1, omega arith, hold.3, hold.4)

hold_both : (low mid high : ℕ) (bs more : List Binding) → HoldTokens low mid bs → HoldTokens mid high more → HoldTokens low high (bs ++ more)
hold_both low mid high [] more hold behind = hold_from low mid high more hold behind
hold_both low mid high (b ∷ bs) more hold behind =
    (hold.0, hold.1, hold.2, hold.3, hold_both (hold.0.first + hold.0.count) mid high bs more hold.4 behind)

elements_hold : (at : ℕ → Option ℕ) (x y : Option ℕ) (ps cs : List Part) (bs : List Binding) (low high : ℕ) → ElementsMatch at x y ps cs bs → Stand low high cs
    → HoldTokens low high bs
elements_hold at _ _ _ _ _ low high (ended x y) stand = stand
elements_hold at _ _ _ _ _ low high (placeholder x y t i token ps c cs bs is some rest) stand =
    let text = next_text ps in
    let behind = elements_hold at x y ps (from text cs) bs (first_token c + (tokens_at c + tokens_among (up_to text cs))) high rest
    (stand_wider (first_token c + (tokens_at c + tokens_among (up_to text cs))) (first_token c + tokens_at c + tokens_among (up_to text cs)) high high (from text cs)
    (omega arith) (omega arith) (stand_from text (first_token c + tokens_at c) high cs stand.1))
    in
    (run_over c (up_to text cs), refl, stand.0, ltb-true 0 (run_over c (up_to text cs)).count some, behind)
elements_hold at _ _ _ _ _ low high (trivia x y ps u c cs bs other is rest) stand =
    elements_hold at x y ps cs bs low high rest (stand_rest low high (token_part u c) cs stand)
elements_hold at _ _ _ _ _ low high (comma_of_code x y ps u c cs bs other is number rest) stand =
    elements_hold at x y ps cs bs low high rest (stand_rest low high (token_part u c) cs stand)
elements_hold at _ _ _ _ _ low high (comma_of_pattern x y t token ps cs bs none stops number rest) stand =
    elements_hold at x y ps cs bs low high rest stand
elements_hold at _ _ _ _ _ low high (tokens x y t u p c ps cs bs none number stops kinds texts rest) stand =
    elements_hold at x y ps cs bs low high rest (stand_rest low high (token_part u c) cs stand)
elements_hold at _ _ _ _ _ low high (trees x y p c ps cs found more here behind) stand =
    hold_both low (c.first + token_count c.children) high found more
    (hold_from low c.first (c.first + token_count c.children) found stand.0
    (elements_hold at (last_comma (parts_of p)) (last_comma (parts_of c)) (without_trivia (parts_of p)) (parts_of c) found c.first (c.first + token_count c.children) here
    (parts_stand c.number (1 + c.number) c.first c.children)))
    (elements_hold at x y ps cs more (c.first + token_count c.children) high behind stand.1)

-- ** In a tree.

module _ (code : Syntax) where
  -- the tokens of a node are those of its tree
  tokens_fit : (q p m t : ℕ) (forest : Forest) → All (IsChild code q) (parts_in p m t forest) → 0 < token_count forest → t + token_count forest ≤ token_count code.children
  tokens_fit q p m t nothing known some = absurd (omega arith)
  tokens_fit q p m t (leaf token next) known some =
      let here = All-head (IsChild code q) _ (parts_in p m (1 + t) next) known in
      let first = here.0 in
      elim (cases_lt 0 (token_count next)) [
        | inl more ↦
            let behind = tokens_fit q p m (1 + t) next (All-tail (IsChild code q) _ (parts_in p m (1 + t) next) known) more in
            omega arith
        | inr none ↦ omega arith
      ]
  tokens_fit q p m t (branch kind below next) known some =
      let rest = parts_in p (1 + m + node_count below) (t + token_count below) next in
      elim (cases_lt 0 (token_count next)) [
        | inl more ↦
            let behind = tokens_fit q p (1 + m + node_count below) (t + token_count below) next (All-tail (IsChild code q) _ rest known) more in
            omega arith
        | inr none ↦
            let child = All-head (IsChild code q) _ rest known in
            let own : All (IsChild code m) (parts_in m (1 + m) t below) =
            subst (λ (node : Node). All (IsChild code m) (parts_of node)) child.1 (children_known code m child.0)
            in
            let inside = tokens_fit m m (1 + m) t below own (omega arith) in
            omega arith
      ]

  node_fits : (n : ℕ) → HasNode code n → 0 < token_count (node_of code n).children
      → (node_of code n).first + token_count (node_of code n).children ≤ token_count code.children
  node_fits n has some =
      let node = node_of code n in tokens_fit n node.number (1 + node.number) node.first node.children (children_known code n has) some

  -- tokens among those of a node are held there
  run_held : (n low : ℕ) (b : Binding) (run : TokenRun) → HasNode code n → b.held ≡ held.Tokens run → (node_of code n).first ≤ low → low ≤ run.first → 0 < run.count
      → run.first + run.count ≤ (node_of code n).first + token_count (node_of code n).children → IsHeldIn code (node_of code n) b
  run_held n low b run has is start begins some to =
      let fits = node_fits n has (omega arith) in
      record {
        has = subst (HasHeld code) (sym is)
            (and_from (nat_lt 0 run.count) (nat_le (run.first + run.count) (token_count code.children)) (lt-ltb 0 run.count some) (le-leb (run.first + run.count) (token_count code.children) (omega arith)));
        among = subst (λ held. IsAmong (tokens_held code held) (run_of (node_of code n))) (sym is) (omega arith, omega arith);
      }

  hold_ordered : (low high : ℕ) (bs : List Binding) → HoldTokens low high bs → low ≤ high
  hold_ordered low high [] hold = hold
  hold_ordered low high (b ∷ bs) hold = let begins = hold.2 in omega (arith, hold_ordered (hold.0.first + hold.0.count) high bs hold.4)

  all_held : (n low high : ℕ) (bs : List Binding) → HasNode code n → (node_of code n).first ≤ low → high ≤ (node_of code n).first + token_count (node_of code n).children
      → HoldTokens low high bs → All (IsHeldIn code (node_of code n)) bs
  all_held n low high [] has start end hold = All-nil (IsHeldIn code (node_of code n))
  all_held n low high (b ∷ bs) has start end hold =
      let run = hold.0 in
      let begins = hold.2 in
      let ends = hold_ordered (run.first + run.count) high bs hold.4 in
      All-cons (IsHeldIn code (node_of code n)) b bs
      (run_held n low b run has hold.1 start begins hold.3 (omega arith))
      (all_held n (run.first + run.count) high bs has (omega arith) end hold.4)

  abbrev BeginsFrom : ℕ → Binding → Type 0
  BeginsFrom low b = low ≤ (tokens_held code b.held).first

  begins_from : (low : ℕ) (b : Binding) (run : TokenRun) → b.held ≡ held.Tokens run → low ≤ run.first → BeginsFrom low b
  begins_from low b run is begins = subst (λ held. low ≤ (tokens_held code held).first) (sym is) begins

  all_begin : (low high : ℕ) (bs : List Binding) → HoldTokens low high bs → All (BeginsFrom low) bs
  all_begin low high [] hold = All-nil (BeginsFrom low)
  all_begin low high (b ∷ bs) hold =
      let run = hold.0 in
      let begins = hold.2 in
      All-cons (BeginsFrom low) b bs (begins_from low b run hold.1 begins)
      (All-weaker (BeginsFrom (run.first + run.count)) (BeginsFrom low) (λ c later. omega arith) bs (all_begin (run.first + run.count) high bs hold.4))

  all_behind : (low high : ℕ) (bs : List Binding) → HoldTokens low high bs → AllPairs (ComesBefore code) bs
  all_behind low high [] hold = pairs_none (ComesBefore code)
  all_behind low high (b ∷ bs) hold =
      let run = hold.0 in
      AllPairs-cons (ComesBefore code) b bs
      (All-weaker (BeginsFrom (run.first + run.count)) (ComesBefore code b)
      (λ c later. subst (λ held. (tokens_held code held).first + (tokens_held code held).count ≤ (tokens_held code c.held).first) (sym hold.1) later)
      bs (all_begin (run.first + run.count) high bs hold.4))
      (all_behind (run.first + run.count) high bs hold.4)

tree_holds : (at : ℕ → Option ℕ) (p c : Node) (bs : List Binding) → TreesMatch at p c bs → HoldTokens c.first (c.first + token_count c.children) bs
tree_holds at p c bs match =
    elements_hold at (last_comma (parts_of p)) (last_comma (parts_of c)) (without_trivia (parts_of p)) (parts_of c) bs c.first (c.first + token_count c.children) match
    (parts_stand c.number (1 + c.number) c.first c.children)

pub trees_held : (at : ℕ → Option ℕ) (p : Node) (code : Syntax) (n : ℕ) (bs : List Binding) → HasNode code n → TreesMatch at p (node_of code n) bs
    → All (IsHeldIn code (node_of code n)) bs
trees_held at p code n bs has match =
    let node = node_of code n in
    all_held code n node.first (node.first + token_count node.children) bs has (omega arith) (omega arith) (tree_holds at p node bs match)

pub trees_behind : (at : ℕ → Option ℕ) (p : Node) (code : Syntax) (n : ℕ) (bs : List Binding) → HasNode code n → TreesMatch at p (node_of code n) bs
    → AllPairs (ComesBefore code) bs
trees_behind at p code n bs has match =
    let node = node_of code n in
    all_behind code node.first (node.first + token_count node.children) bs (tree_holds at p node bs match)
