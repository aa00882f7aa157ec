-- What is collected of the patterns that bind names.
use Rattle.std.proofs.Common.{◌≡◌, ℕ, ◌+◌, ◌<◌, ◌≤◌, Bool, true, false, true≢false, List, [], ◌∷◌, ◌++◌, Contains, Some, None, refl, sym, ap, ◌∙◌, subst, inl, inr, arith}
use Rattle.std.proofs.lemmas.Bool.{cases_eq}
use Rattle.std.proofs.lemmas.List.Elements.{Contains-append_left, Contains-push}
use Rattle.std.proofs.lemmas.Option.{none-some, same_Some}
use Rattle.std.specs.BTreeMap.{get_by_text}
use Rattle.std.specs.Option.{option_map}
use Rattle.ssr_syntax_kinds.specs.Kinds.{same_kind}
use Rattle.ssr_syntax_kinds.specs.declared.kinds.SyntaxKind.{SyntaxKind}
use Rattle.ssr_syntax_kinds.specs.declared.kinds.SyntaxKind.TheVariants as k
use Rattle.ssr_syntax_kinds.proofs.Shared.{same_kind-equal}
use Rattle.ssr_syntax_tree.specs.Syntax.{Syntax, token_count}
use Rattle.ssr_syntax_tree.specs.Places.{node_of, token_of, HasNode}
use Rattle.ssr_base_trees.specs.declared.ids.NodeId.{NodeId}
use Rattle.ssr_base_trees.specs.Workspace.{Workspace, PlacedTree, trees, tree_of, with_number, node_id}
use Rattle.ssr_base_trees.proofs.Shared.{some_and}
use Rattle.ssr_names_items.specs.declared.table.Name.{Name}
use Rattle.ssr_names_items.specs.declared.table.Namespace.TheVariants as namespace
use Rattle.ssr_names_items.specs.Names.{bare}
use Rattle.ssr_names.specs.declared.words.Words.{Words}
use Rattle.ssr_names.specs.declared.words.Binder.{Binder}
use Rattle.ssr_names.specs.Locals.{text_of_first, is_capital, may_be_constant, names_argument, bound_name, Binds, BindsAt}
use Rattle.ssr_names.specs.Private.Locals.{Keeps, Collects, CollectsAll, CollectsCall, CollectsPattern, CollectsWord, sure_binder}
use Rattle.ssr_names.proofs.Naming.{binds_surely}

pub keeps_itself : (words : Words) → Keeps words words
keeps_itself words = record { asked = refl; binders = λ b had. had }

pub keeps_on : (a b c : Words) → Keeps a b → Keeps b c → Keeps a c
keeps_on a b c first second = record {
  asked = second.asked ∙ first.asked;
  binders = λ x had. second.binders x (first.binders x had);
}

-- one binder more
pub keeps_pushed : (old new : Words) (binder : Binder) → new.asked ≡ old.asked → new.binders.items ≡ old.binders.items ++ binder ∷ [] → Keeps old new
keeps_pushed old new binder asked pushed = record {
  asked = asked;
  binders = λ b had. subst (λ xs. Contains xs b) (sym pushed) (Contains-append_left old.binders.items (binder ∷ []) b had);
}

asked_before : (old new : Words) → Keeps old new → (text : List ℕ) (name : Name) → get_by_text new.asked text ≡ Some name → get_by_text old.asked text ≡ Some name
asked_before old new keeps text name asks = ap (λ asked. get_by_text asked text) (sym keeps.asked) ∙ asks

-- what was collected of a node stays collected
pub collected_still : (tree : Syntax) (node : NodeId) (old new : Words) → Keeps old new → Collects tree old node → Collects tree new node
collected_still tree node old new keeps had = record {
  pattern = λ text name binds asks. keeps.binders (sure_binder node name) (had.pattern text name binds (asked_before old new keeps text name asks));
  call = λ text name has asks. keeps.binders (sure_binder node name) (had.call text name has (asked_before old new keeps text name asks));
}

-- a name for which a binder was added
added_surely : (node : NodeId) (old new : Words) (found name : Name) (plain : Bool) (own text : List ℕ) → own ≡ text → plain ≡ false
    → Some found ≡ get_by_text old.asked own → new.asked ≡ old.asked
    → new.binders.items ≡ old.binders.items ++ (record { node = node; name = found; namespace = namespace.Value; is_plain = plain }) ∷ []
    → get_by_text new.asked text ≡ Some name → Contains new.binders.items (sure_binder node name)
added_surely node old new found name plain own text same sure finds asked pushed asks =
    let binder : Binder = record { node = node; name = found; namespace = namespace.Value; is_plain = plain } in
    let named : found ≡ name = same_Some found name (finds ∙ ap (get_by_text old.asked) same ∙ ap (λ asked. get_by_text asked text) (sym asked) ∙ asks) in
    let had : Contains new.binders.items binder = subst (λ xs. Contains xs binder) (sym pushed) (Contains-push old.binders.items binder) in
    subst (λ (n : Name). Contains new.binders.items (record { node = node; name = n; namespace = namespace.Value; is_plain = false })) named
    (subst (λ (p : Bool). Contains new.binders.items (record { node = node; name = found; namespace = namespace.Value; is_plain = p })) sure had)

-- ** A node.

no_call_of_kind : (kind : SyntaxKind) → same_kind kind k.IDENT_PAT ≡ true → same_kind kind k.MACRO_PAT ≡ false
no_call_of_kind kind is = subst (λ (own : SyntaxKind). same_kind own k.MACRO_PAT ≡ false) (sym (same_kind-equal kind k.IDENT_PAT is)) refl

module _ (tree : Syntax) (node : NodeId) (words : Words) where
  no_pattern : same_kind (node_of tree node.node.0).kind k.IDENT_PAT ≡ false → CollectsPattern tree words node
  no_pattern other text name binds asks = absurd (true≢false (sym (binds_surely tree node.node.0 text binds).kind ∙ other))

  no_call : same_kind (node_of tree node.node.0).kind k.MACRO_PAT ≡ false → CollectsCall tree words node
  no_call other text name has asks = absurd (true≢false (sym has.is_call ∙ other))

  pub collects_other : same_kind (node_of tree node.node.0).kind k.IDENT_PAT ≡ false → same_kind (node_of tree node.node.0).kind k.MACRO_PAT ≡ false → Collects tree words node
  collects_other other no_call_either = record { pattern = no_pattern other; call = no_call no_call_either }

  pub collects_of_pattern : same_kind (node_of tree node.node.0).kind k.IDENT_PAT ≡ true → CollectsPattern tree words node → Collects tree words node
  collects_of_pattern is collected = record { pattern = collected; call = no_call (no_call_of_kind (node_of tree node.node.0).kind is) }

  pub collects_of_call : same_kind (node_of tree node.node.0).kind k.IDENT_PAT ≡ false → CollectsCall tree words node → Collects tree words node
  collects_of_call other collected = record { pattern = no_pattern other; call = collected }

-- ** A pattern.

module _ (tree : Syntax) (node : NodeId) where
  pub collects_argument : (words : Words) → names_argument tree node.node.0 ≡ true → CollectsPattern tree words node
  collects_argument words is text name binds asks = absurd (true≢false (sym is ∙ (binds_surely tree node.node.0 text binds).no_argument))

  pub collects_unnamed : (words : Words) → None ≡ text_of_first k.NAME (node_of tree node.node.0).children → CollectsPattern tree words node
  collects_unnamed words none text name binds asks =
      let surely = binds_surely tree node.node.0 text binds in
      absurd (none-some surely.text (none ∙ surely.spelled))

  module _ (spelled : List ℕ) (is : Some spelled ≡ text_of_first k.NAME (node_of tree node.node.0).children) where
    same_text : (text : List ℕ) → bound_name tree node.node.0 ≡ Some text → (bare spelled ≡ text) × (may_be_constant (node_of tree node.node.0).children (bare spelled) ≡ false)
    same_text text binds =
        let surely = binds_surely tree node.node.0 text binds in
        let same : surely.text ≡ spelled = same_Some surely.text spelled (sym surely.spelled ∙ sym is) in (
          ap bare (sym same) ∙ surely.same,
          subst (λ t. may_be_constant (node_of tree node.node.0).children (bare t) ≡ false) same surely.surely,
        )

    pub collects_unasked : (words : Words) → None ≡ get_by_text words.asked (bare spelled) → CollectsPattern tree words node
    collects_unasked words none text name binds asks =
        let same = (same_text text binds).0 in
        absurd (none-some name (none ∙ ap (get_by_text words.asked) same ∙ asks))

    pub collects_pushed : (old new : Words) (found : Name) (plain : Bool) → Some found ≡ get_by_text old.asked (bare spelled)
        → plain ≡ may_be_constant (node_of tree node.node.0).children (bare spelled) → new.asked ≡ old.asked
        → new.binders.items ≡ old.binders.items ++ (record { node = node; name = found; namespace = namespace.Value; is_plain = plain }) ∷ [] → CollectsPattern tree new node
    collects_pushed old new found plain finds tells asked pushed text name binds asks =
        let same = same_text text binds in
        added_surely node old new found name plain (bare spelled) text same.0 (tells ∙ same.1) finds asked pushed asks

-- ** The words of a macro call in the place of a pattern.

module _ (tree : Syntax) (node : NodeId) (token : ℕ) where
  pub word_other : (words : Words) → same_kind (token_of tree token).kind k.IDENT ≡ false → CollectsWord tree words node token
  word_other words other text name is asks = absurd (true≢false (sym is.is_word ∙ other))

  module _ (own : List ℕ) (spells : own ≡ (token_of tree token).text) where
    pub word_unasked : (words : Words) → None ≡ get_by_text words.asked (bare own) → CollectsWord tree words node token
    word_unasked words none text name is asks = absurd (none-some name (none ∙ ap (get_by_text words.asked) (ap bare spells ∙ is.named) ∙ asks))

    pub word_pushed : (old new : Words) (found : Name) (plain : Bool) → Some found ≡ get_by_text old.asked (bare own) → plain ≡ is_capital (bare own) → new.asked ≡ old.asked
        → new.binders.items ≡ old.binders.items ++ (record { node = node; name = found; namespace = namespace.Value; is_plain = plain }) ∷ [] → CollectsWord tree new node token
    word_pushed old new found plain finds tells asked pushed text name is asks =
        let same : bare own ≡ text = ap bare spells ∙ is.named in
        added_surely node old new found name plain (bare own) text same (tells ∙ ap is_capital same ∙ is.is_small) finds asked pushed asks

-- those of the tokens from one on to before another one
abbrev pub CollectsWords : Syntax → Words → NodeId → ℕ → Type 0
CollectsWords tree words node past = (t : ℕ) → (node_of tree node.node.0).first ≤ t → t < past → CollectsWord tree words node t

pub no_words : (tree : Syntax) (words : Words) (node : NodeId) (past : ℕ) → past ≡ (node_of tree node.node.0).first → CollectsWords tree words node past
no_words tree words node past is t from low = absurd (omega (arith, is, from, low))

pub next_word : (tree : Syntax) (node : NodeId) (old new : Words) (past : ℕ) → Keeps old new → CollectsWord tree new node past
    → CollectsWords tree old node past → CollectsWords tree new node (past + 1)
next_word tree node old new past keeps here so_far t from low =
    elim (cases_eq t past) [
      | inl same ↦ subst (λ (t : ℕ). CollectsWord tree new node t) (sym same) here
      | inr differ ↦
          (λ text name is asks. keeps.binders (sure_binder node name) (so_far t from (omega arith) text name is (asked_before old new keeps text name asks)))
    ]

pub all_words : (tree : Syntax) (node : NodeId) (words : Words) (past : ℕ) → (node_of tree node.node.0).first + token_count (node_of tree node.node.0).children ≤ past
    → CollectsWords tree words node past → CollectsCall tree words node
all_words tree node words past all collected text name has asks = collected has.token has.from (omega (arith, all, has.to)) text name has.is asks

-- ** All nodes.

-- where a node of a workspace binds a name, its tree does
binds_in : (w : Workspace) (x : NodeId) (name : List ℕ) → BindsAt (trees w) x name
    → (s : Syntax) × (tree_of w x.tree ≡ Some s) × HasNode s x.node.0 × Binds s x.node.0 name
binds_in w x name binds =
    let had = some_and (with_number (trees w) x.tree) (λ p. HasNode p.syntax x.node.0 × Binds p.syntax x.node.0 name) binds in
    (had.0.syntax, ap (option_map (λ (p : PlacedTree). p.syntax)) had.1, had.2.0, had.2.1)

-- those of trees with numbers below one
abbrev pub CollectsBelow : Workspace → Words → ℕ → Type 0
CollectsBelow w words past = (tree : Syntax) (t n : ℕ) → t < past → tree_of w t ≡ Some tree → HasNode tree n → Collects tree words (node_id t n)

pub all_collected : (w : Workspace) (words : Words) (past : ℕ) → ((t : ℕ) (tree : Syntax) → tree_of w t ≡ Some tree → t < past) → CollectsBelow w words past → CollectsAll (trees w) words
all_collected w words past all collected node text name binds asks =
    let known = binds_in w node text binds in
    let here = collected known.0 node.tree node.node.0 (all node.tree known.0 known.1) known.1 known.2 in
    elim known.3 [ inl bound ↦ here.pattern text name bound asks | inr has ↦ here.call text name has asks ]

-- one node more of a tree
pub next_node : (tree : Syntax) (number : ℕ) (old new : Words) (past : ℕ) → Keeps old new → Collects tree new (node_id number past)
    → ((n : ℕ) → n < past → Collects tree old (node_id number n)) → (n : ℕ) → n < past + 1 → Collects tree new (node_id number n)
next_node tree number old new past keeps here so_far n low =
    elim (cases_eq n past) [
      | inl same ↦ subst (λ (n : ℕ). Collects tree new (node_id number n)) (sym same) here
      | inr differ ↦ collected_still tree (node_id number n) old new keeps (so_far n (omega arith))
    ]

pub next_collected : (w : Workspace) (old new : Words) (past : ℕ) (tree : Syntax) → Some tree ≡ tree_of w past → Keeps old new
    → ((n : ℕ) → HasNode tree n → Collects tree new (node_id past n)) → CollectsBelow w old past → CollectsBelow w new (past + 1)
next_collected w old new past tree is keeps here so_far other t n low there has =
    elim (cases_eq t past) [
      | inl same ↦
          let found : tree ≡ other = same_Some tree other (is ∙ ap (tree_of w) (sym same) ∙ there) in
          subst (λ t. Collects other new (node_id t n)) (sym same)
          (subst (λ s. Collects s new (node_id past n)) found (here n (subst (λ s. HasNode s n) (sym found) has)))
      | inr differ ↦ collected_still other (node_id t n) old new keeps (so_far other t n (omega arith) there has)
    ]

pub none_collected : (w : Workspace) (words : Words) (past : ℕ) → None ≡ tree_of w past → CollectsBelow w words past → CollectsBelow w words (past + 1)
none_collected w words past none so_far tree t n low there has =
    elim (cases_eq t past) [
      | inl same ↦ absurd (none-some tree (none ∙ ap (tree_of w) (sym same) ∙ there))
      | inr differ ↦ so_far tree t n (omega arith) there has
    ]
