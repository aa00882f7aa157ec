-- What the nodes of a pattern pair with.
use Rattle.std.proofs.Common.{◌≡◌, ℕ, Bool, true, false, cond, List, [], ◌∷◌, ◌++◌, length, map, Option, Some, None, refl, sym, ap, subst, inl, inr}
use Rattle.std.proofs.lemmas.Option.{none-some, same_Some}
use Rattle.std.specs.List.{find}
use Rattle.std.specs.Option.{option_map}
use Rattle.std.specs.Prelude.{◌==◌, ◌&&◌}
use Rattle.ssr_syntax_tree.specs.Places.{Node, Part, token_part, node_part}
use Rattle.ssr_base_trees.specs.Meanings.{Meanings}
use Rattle.ide_ssr_resolved_rule.specs.Resolved.{ResolvedRule}
use Rattle.ide_ssr_bindings.specs.declared.bindings.Binding.{Binding}
use Rattle.ide_ssr_matching.specs.Calls.{nodes_among, child_nodes}
use Rattle.ide_ssr_matching.specs.Children.{leaves_out, bare}
use Rattle.ide_ssr_matching.specs.Matching.{Matches, Pairs}
use Rattle.ide_ssr_matching.specs.Matching as matching
use Rattle.ide_ssr_matching.specs.Records.{all_some, named_nodes, have_same_label, are_different}
use Rattle.ide_ssr_leading.proofs.Facts.{IsAmong}

-- ** Nodes among parts.

-- none is left out
pub bare_nodes : (parts : List Part) → nodes_among (bare parts) ≡ nodes_among parts
bare_nodes [] = refl
bare_nodes (token_part t token ∷ rest) = by (leaves_out (token_part t token) rest) (bare_nodes rest)
  where
    by : (b : Bool) → nodes_among (bare rest) ≡ nodes_among rest → nodes_among (cond b (bare rest) (token_part t token ∷ bare rest)) ≡ nodes_among rest
    by true same = same
    by false same = same
bare_nodes (node_part node ∷ rest) = ap (λ nodes. node ∷ nodes) (bare_nodes rest)

pub map_nodes : (nodes : List Node) → nodes_among (map node_part nodes) ≡ nodes
map_nodes [] = refl
map_nodes (node ∷ rest) = ap (λ nodes. node ∷ nodes) (map_nodes rest)

-- ** Partners.

module _ (m : Meanings) (tree : ℕ) (rule : ResolvedRule) where
  -- a node among those of the code that a node of the pattern matches
  pub record Partner (p : Node) (cs : List Node) : Type 0 where
    pub node : Node
    pub among : IsAmong cs node
    pub bindings : List Binding
    pub matches : Matches m tree rule p node bindings

  pub partner : (ps cs : List Part) (bs : List Binding) (p : Node) → Pairs m tree rule ps cs bs → IsAmong (nodes_among ps) p → Partner p (nodes_among cs)
  partner _ _ _ p matching.end among = absurd among
  partner _ _ _ p (matching.tokens t u q d ps cs bs kinds texts behind) among = partner ps cs bs p behind among
  partner _ _ _ p (matching.nodes q d ps cs bs rest here behind) (inl same) =
      record { node = d; among = inl refl; bindings = bs; matches = subst (λ q. Matches m tree rule q d bs) (sym same) here }
  partner _ _ _ p (matching.nodes q d ps cs bs rest here behind) (inr later) =
      let found = partner ps cs rest p behind later in
      record { node = found.node; among = inr found.among; bindings = found.bindings; matches = found.matches }

  -- the parts behind the first ones pair
  pub tail : (p c : Part) (ps cs : List Part) (bs : List Binding) → Pairs m tree rule (p ∷ ps) (c ∷ cs) bs → (rest : List Binding) × Pairs m tree rule ps cs rest
  tail _ _ _ _ _ (matching.tokens t u q d ps cs bs kinds texts behind) = (bs, behind)
  tail _ _ _ _ _ (matching.nodes q d ps cs bs rest here behind) = (rest, behind)

  -- so do those behind as many
  pub past : (ps cs more_ps more_cs : List Part) (bs : List Binding) → length ps ≡ length cs → Pairs m tree rule (ps ++ more_ps) (cs ++ more_cs) bs
      → (rest : List Binding) × Pairs m tree rule more_ps more_cs rest
  past [] [] more_ps more_cs bs even pairs = (bs, pairs)
  past [] (c ∷ cs) more_ps more_cs bs even pairs = cc
  past (p ∷ ps) [] more_ps more_cs bs even pairs = cc
  past (p ∷ ps) (c ∷ cs) more_ps more_cs bs even pairs =
      let rest = tail p c (ps ++ more_ps) (cs ++ more_cs) bs pairs in
      past ps cs more_ps more_cs rest.0 (let less : length ps ≡ length cs = cc in less) rest.1

-- ** Fields in the pattern's order.

-- what is found is among those that are searched
pub found_among : (test : Node → Bool) (nodes : List Node) (found : Node) → find test nodes ≡ Some found → IsAmong nodes found
found_among test [] found is = absurd (none-some found is)
found_among test (node ∷ rest) found is = by (test node) (found_among test rest found) is
  where
    by : (b : Bool) → (find test rest ≡ Some found → IsAmong rest found) → cond b (Some node) (find test rest) ≡ Some found → IsAmong (node ∷ rest) found
    by true further here = inl (sym (same_Some node found here))
    by false further later = inr (further later)

all_among : (ps cs nodes : List Node) (node : Node) → all_some (map (λ p. find (have_same_label p) cs) ps) ≡ Some nodes → IsAmong nodes node → IsAmong cs node
all_among [] cs nodes node is among = absurd (subst (λ nodes. IsAmong nodes node) (sym (same_Some [] nodes is)) among)
all_among (p ∷ ps) cs nodes node is among = by (find (have_same_label p) cs) refl is (λ xs others. all_among ps cs xs node others)
  where
    rest : Option (List Node)
    rest = all_some (map (λ p. find (have_same_label p) cs) ps)

    by_rest : (first : Node) → find (have_same_label p) cs ≡ Some first → (o : Option (List Node)) → rest ≡ o
        → option_map (λ xs. first ∷ xs) o ≡ Some nodes → ((xs : List Node) → rest ≡ Some xs → IsAmong xs node → IsAmong cs node) → IsAmong cs node
    by_rest first found None others is further = absurd (none-some nodes is)
    by_rest first found (Some xs) others is further =
        elim (subst (λ nodes. IsAmong nodes node) (sym (same_Some (first ∷ xs) nodes is)) among) [
          | inl same ↦ subst (IsAmong cs) (sym same) (found_among (have_same_label p) cs first found)
          | inr later ↦ further xs others later
        ]

    by : (o : Option Node) → find (have_same_label p) cs ≡ o → all_some (o ∷ map (λ p. find (have_same_label p) cs) ps) ≡ Some nodes
        → ((xs : List Node) → rest ≡ Some xs → IsAmong xs node → IsAmong cs node) → IsAmong cs node
    by None none is further = absurd (none-some nodes is)
    by (Some first) found is further = by_rest first found rest refl is further

pub among_named : (p c : Node) (nodes : List Node) (node : Node) → named_nodes p c ≡ Some nodes → IsAmong nodes node → IsAmong (child_nodes c) node
among_named p c nodes node is among = by (are_different ps && (are_different cs && length ps == length cs)) is
  where
    ps : List Node
    ps = child_nodes p

    cs : List Node
    cs = child_nodes c

    by : (b : Bool) → cond b (all_some (map (λ p. find (have_same_label p) cs) ps)) None ≡ Some nodes → IsAmong cs node
    by true is = all_among ps cs nodes node is among
    by false none = absurd (none-some nodes none)
