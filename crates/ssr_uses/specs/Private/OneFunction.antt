-- Private: of what stands for the one function no usage is left out.
use Rattle.std.specs.Prelude.{ℕ, ◌≡◌, Bool, true, false, if◌then◌else◌, List, Some, None}
use Rattle.std.proofs.lemmas.Map.Views.{Contains-from_any}
use Rattle.std.proofs.Common.{refl}
use Rattle.ssr_base_trees.specs.declared.ids.NodeId.{NodeId}
use Rattle.ssr_base_trees.specs.declared.semantics.Res.{Res}
use Rattle.ssr_base_trees.specs.Meanings.{IsComplete}
use Rattle.ssr_base_trees.proofs.Shared.{same_nodes}
use Rattle.ssr_uses.specs.OneFunction.{known}

if_some : (b : Bool) (x r : Res) → (if b then Some x else None) ≡ Some r → b ≡ true
if_some true x r is = refl
if_some false x r is = (cc)

pub is_complete : (name : List ℕ) (uses : List NodeId) → IsComplete (known name uses)
is_complete name uses = record {
  paths = λ r node builtin named is. Contains-from_any same_nodes node uses (if_some _ _ r is);
  methods = λ d node builtin named is. (cc);
}
