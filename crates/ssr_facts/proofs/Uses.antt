-- The nodes that use a thing, while one node after another is looked at, and that none is left out.
use Rattle.std.proofs.Common.{◌≡◌, List, [], ◌∷◌, ◌++◌, Bool, true, false, Option, Some, None, sym, ap, ◌∙◌, append_assoc, append-nil}
use Rattle.std.proofs.lemmas.List.Elements.{filter-append}
use Rattle.std.specs.Prelude.{if◌then◌else◌, filter}
use Rattle.std.specs.BTreeMap.{is_at}
use Rattle.ssr_base_trees.specs.declared.ids.NodeId.{NodeId}
use Rattle.ssr_base_trees.specs.declared.semantics.Res.{Res}
use Rattle.ssr_base_trees.specs.contracts.semantics.ResOrd.TheImpl as res_order
use Rattle.ssr_base_trees.specs.Meanings.{same_res}
use Rattle.ssr_facts.specs.Tables.{stands_for}
use Rattle.ssr_facts.proofs.Keys.{res_ties}

module _ (meaning : NodeId → Option Res) (r : Res) where
  abbrev pub stands : NodeId → Bool
  stands node = stands_for r (meaning node)

  -- whether or not a node stands for it
  one_more : (start done : List NodeId) (node : NodeId) (b : Bool) → stands node ≡ b
      → (if b then start ++ filter stands done ++ node ∷ [] else start ++ filter stands done) ≡ start ++ filter stands (done ++ node ∷ [])
  one_more start done node true is =
      append_assoc start (filter stands done) (node ∷ []) ∙ ap (λ (xs : List NodeId). start ++ (filter stands done ++ xs)) (ap (λ b. if b then node ∷ [] else []) (sym is))
      ∙ ap (λ xs. start ++ xs) (sym (filter-append stands done (node ∷ [])))
  one_more start done node false is =
      ap (λ xs. start ++ xs) (sym (append-nil (filter stands done)))
      ∙ ap (λ (xs : List NodeId). start ++ (filter stands done ++ xs)) (ap (λ b. if b then node ∷ [] else []) (sym is))
      ∙ ap (λ xs. start ++ xs) (sym (filter-append stands done (node ∷ [])))

  -- a node that stands for something, which was added to what uses that
  pub use_more : (res : Res) (start old new done : List NodeId) (node : NodeId) → meaning node ≡ Some res → old ≡ start ++ filter stands done
      → new ≡ (if is_at ((res_order.ghosts).cmp res) r then old ++ node ∷ [] else old) → new ≡ start ++ filter stands (done ++ node ∷ [])
  use_more res start old new done node means before added =
      added ∙ ap (λ b. if b then old ++ node ∷ [] else old) (sym (res_ties res r))
      ∙ ap (λ xs. if same_res res r then xs ++ node ∷ [] else xs) before
      ∙ one_more start done node (same_res res r) (ap (stands_for r) means)

  -- a node that stands for nothing
  pub use_none : (start old done : List NodeId) (node : NodeId) → meaning node ≡ None → old ≡ start ++ filter stands done
      → old ≡ start ++ filter stands (done ++ node ∷ [])
  use_none start old done node means before = before ∙ one_more start done node false (ap (stands_for r) means)
