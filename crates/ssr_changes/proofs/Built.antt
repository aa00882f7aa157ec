-- What is added to a workspace leaves its files as they are, and is one expansion.
use Rattle.std.proofs.Common.{◌≡◌, ℕ, ◌∷◌, [], Option, Some, None, Result, Ok, Err, refl, sym, ◌∙◌, ap, length, length-append, arith}
use Rattle.std.specs.Prelude.{nat_lt, ◌+◌, ◌≤◌}
use Rattle.ssr_syntax_tree.specs.Syntax.{Syntax, tokens_of}
use Rattle.ssr_syntax.specs.Expansions.{expansion_reading_of}
use Rattle.ssr_syntax.specs.declared.syntax_error.SyntaxError.{SyntaxError}
use Rattle.ssr_base_trees.specs.Built.{most_trees}
use Rattle.ssr_base_trees.specs.Growth.{with_tree}
use Rattle.ssr_base_trees.specs.Workspace.{Expanded, Workspace}
use Rattle.ssr_base_trees.specs.declared.ids.NodeId.{NodeId}
use Rattle.ssr_base.specs.Building.{◌>>=◌, added_reading, checked_call, joined_origins, read_as, unless, with_reading}
use Rattle.ssr_base.specs.declared.building.Expansion.{Expansion}
use Rattle.ssr_base.specs.declared.workspace_error.WorkspaceError.{WorkspaceError}
use Rattle.ssr_base.specs.declared.workspace_error.WorkspaceError.TheVariants as errors
use Rattle.ssr_changes.specs.Private.Building.{IsAdded, IsOneMore, missing}

-- two steps that answer
and_then : {A B : Type 0} (r : Result A WorkspaceError) (next : A → Result B WorkspaceError) (value : B) → (r >>= next) ≡ Ok value
    → (x : A) × (r ≡ Ok x) × (next x ≡ Ok value)
and_then (Ok x) next value is = (x, refl, is)
and_then (Err e) next value is = cc

-- an expansion more
record IsMore (old new : Workspace) : Type 0 where
  reach : new.reach ≡ old.reach
  files : new.files ≡ old.files
  one : length new.expansions ≡ length old.expansions + 1

expansion_more : (reading : Result Syntax SyntaxError) (w next : Workspace) (x : Expansion) → with_reading reading w x ≡ Ok next → IsMore w next
expansion_more reading w next x is =
    let why : SyntaxError → WorkspaceError = errors.Expansion (length w.expansions) in
    let grow : NodeId → Syntax → Result Workspace WorkspaceError = λ call tree. Ok (with_tree w call tree (joined_origins (tokens_of tree) x.tokens.items)) in
    let called = and_then (checked_call w x) (λ call. read_as why reading >>= grow call) next is in
    let read = and_then (read_as why reading) (grow called.0) next called.2 in
    let same : with_tree w called.0 read.0 (joined_origins (tokens_of read.0) x.tokens.items) ≡ next = cc (read.2) in
    let e : Expanded = record { call = called.0; syntax = read.0; origins = joined_origins (tokens_of read.0) x.tokens.items } in
    record {
      reach = ap (λ (w : Workspace). w.reach) (sym same);
      files = ap (λ (w : Workspace). w.files) (sym same);
      one = ap (λ (w : Workspace). length w.expansions) (sym same) ∙ length-append w.expansions (e ∷ []);
    }

added_more : (reading : Result Syntax SyntaxError) (old new : Workspace) (x : Expansion) → added_reading reading old x ≡ Ok new → IsMore old new
added_more reading old new x is =
    let many = nat_lt most_trees (length old.files + length old.expansions + 1) in
    let step = and_then (unless many errors.TooManyTrees) (λ _. with_reading reading old x) new is in
    expansion_more reading old new x step.2

pub one_more : (old new : Workspace) (x : Expansion) (number : Option ℕ) → IsAdded old x new number → IsOneMore old new number
one_more old new x (Some number) is =
    let more = added_more (expansion_reading_of old.reach x.kind x.tokens.items) old new x is.0 in
    record { reach = more.reach; files = more.files; counted = omega (arith, more.one) }
one_more old new x None is = record {
  reach = ap (λ (w : Workspace). w.reach) is.2;
  files = ap (λ (w : Workspace). w.files) is.2;
  counted = ap (λ (w : Workspace). length w.expansions + 1) is.2;
}

pub not_there : (w : Workspace) → IsOneMore w w None
not_there w = record { reach = refl; files = refl; counted = refl }

pub few_missing : (number : Option ℕ) → missing number ≤ 1
few_missing (Some number) = omega arith
few_missing None = omega arith
