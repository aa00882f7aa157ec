-- Which nodes are open to all rules.
use Rattle.std.proofs.Common.{◌≡◌, ℕ, true, false, List, Option, Some, None, refl, sym, ap, ◌∙◌, subst, inl, inr}
use Rattle.std.proofs.lemmas.Option.{same_Some}
use Rattle.std.specs.Prelude.{IsSome, is_some}
use Rattle.ssr_syntax_kinds.specs.declared.kinds.SyntaxKind.TheVariants as k
use Rattle.ssr_syntax_tree.specs.Syntax.{Syntax}
use Rattle.ssr_syntax_tree.specs.Places.{HasNode, node_of}
use Rattle.ssr_base_trees.specs.declared.ids.NodeId.{NodeId}
use Rattle.ssr_base_trees.specs.Workspace.{Workspace, PlacedTree, FileSpan, trees, node_id, original_range}
use Rattle.ide_ssr_bindings.specs.Found.{HasByte}
use Rattle.ide_ssr_search.specs.Permitted.{IsUse, arguments_range, IsSearched, IsOpen}
use Rattle.ide_ssr_search.specs.Private.Shut.{IsShutIn}
use Rattle.ssr_base_trees.proofs.Shared.{and_some, some_and}
use Rattle.ide_ssr_bindings.proofs.Shared.{IsTree, of_tree, in_tree}

some_range : (ts : List PlacedTree) (a : NodeId) (o : Option FileSpan) → arguments_range ts a ≡ o → (arguments_range ts a ≡ None → ⊥) → IsSome (arguments_range ts a)
some_range ts a None is some = absurd (some is)
some_range ts a (Some range) is some = ap is_some is

-- a node that isn't shut in is open if it is no USE and its range is searched
pub opened : (w : Workspace) (restrictions : List FileSpan) (t n : ℕ) (s : Syntax) (range : FileSpan) → IsTree (trees w) t s → HasNode s n
    → ((node_of s n).kind ≡ k.USE → ⊥) → (IsShutIn (trees w) (node_id t n) → ⊥) → original_range (trees w) (node_id t n) ≡ Some range → HasByte range → IsSearched restrictions range
    → IsOpen w restrictions (node_id t n)
opened w restrictions t n s range at has no_use free is byte searched =
    let ts = trees w in
    let x = node_id t n in
    record {
      node = of_tree ts t s (λ s. HasNode s n) at has;
      has_byte = and_some (original_range ts x) HasByte range is byte;
      searched = and_some (original_range ts x) (IsSearched restrictions) range is searched;
      outside_use = λ a up is_use.
          elim up [
            | inl same ↦
                no_use (in_tree ts t s (λ s. (node_of s n).kind ≡ k.USE) at (subst (IsUse ts) (sym same) is_use))
            | inr below ↦ free (a, below, inl is_use)
          ];
      calls_have_arguments = λ a below call.
          some_range ts a (arguments_range ts a) refl (λ none. free (a, below, inr (call, none)));
    }

-- a node that is shut in isn't
pub not_shut : (w : Workspace) (restrictions : List FileSpan) (x : NodeId) → IsOpen w restrictions x → IsShutIn (trees w) x → ⊥
not_shut w restrictions x is shut =
    elim shut.2 [
      | inl is_use ↦ is.outside_use shut.0 (inr shut.1) is_use
      | inr call ↦
          let e : false ≡ true = sym (ap is_some call.1) ∙ is.calls_have_arguments shut.0 shut.1 call.0 in
          cc
    ]

-- nor is a USE
pub not_use : (w : Workspace) (restrictions : List FileSpan) (t n : ℕ) (s : Syntax) → IsTree (trees w) t s → (node_of s n).kind ≡ k.USE → IsOpen w restrictions (node_id t n) → ⊥
not_use w restrictions t n s at is_use is =
    is.outside_use (node_id t n) (inl refl) (of_tree (trees w) t s (λ s. (node_of s n).kind ≡ k.USE) at is_use)

-- the range of an open node has a byte and is searched
pub open_range : (w : Workspace) (restrictions : List FileSpan) (x : NodeId) (range : FileSpan) → original_range (trees w) x ≡ Some range → IsOpen w restrictions x
    → HasByte range × IsSearched restrictions range
open_range w restrictions x range is known =
    let byte = some_and (original_range (trees w) x) HasByte known.has_byte in
    let searched = some_and (original_range (trees w) x) (IsSearched restrictions) known.searched in (
      subst HasByte (same_Some byte.0 range (sym byte.1 ∙ is)) byte.2,
      subst (IsSearched restrictions) (same_Some searched.0 range (sym searched.1 ∙ is)) searched.2,
    )
