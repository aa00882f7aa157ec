-- How one expansion is added.
use Rattle.std.proofs.Common.{◌≡◌, ◌≢◌, ◌+◌, Bool, true, false, List, length, map, Option, Some, None, Result, Ok, Err, sym, ap, subst}
use Rattle.std.specs.Prelude.{All, IsOk, IsErrAnd, IfOk, IfErr, OnErr, nat_lt, not}
use Rattle.std.specs.List.{list_all}
use Rattle.std.specs.Option.{ok_or}
use Rattle.ssr_syntax_kinds.specs.declared.reach.Reach.{Reach}
use Rattle.ssr_syntax_kinds.specs.declared.reach.Reach.TheVariants.{Stated}
use Rattle.ssr_syntax_tree.specs.Syntax.{Syntax}
use Rattle.ssr_syntax.specs.Reading.{IsReadOf}
use Rattle.ssr_syntax.specs.Expansions.{expansion_reading, expansion_reading_of}
use Rattle.ssr_syntax.specs.declared.expansions.ExpToken.{ExpToken}
use Rattle.ssr_syntax.specs.declared.expansions.ExpansionKind.{ExpansionKind}
use Rattle.ssr_syntax.specs.declared.syntax_error.SyntaxError.{SyntaxError}
use Rattle.ssr_base_trees.specs.declared.ids.NodeId.{NodeId}
use Rattle.ssr_base_trees.specs.Origins.{Span, fits_origin}
use Rattle.ssr_base_trees.specs.Workspace.{Workspace, trees, text_at_top, nesting}
use Rattle.ssr_base_trees.specs.Built.{most_nested}
use Rattle.ssr_base_trees.specs.Growth.{with_tree}
use Rattle.ssr_base.specs.declared.building.Expansion.{Expansion}
use Rattle.ssr_base.specs.declared.workspace_error.WorkspaceError.{WorkspaceError}
use Rattle.ssr_base.specs.declared.workspace_error.WorkspaceError.TheVariants as errors
use Rattle.ssr_base.specs.Building.{◌>>=◌, unless, free_call, origin_of, checked_call, added_reading}

-- the trees of files stay as they are, whatever is answered
pub still_read : {E : Type 0} (answer : Result (Unit {0}) E) (old new : Workspace) (call : NodeId) (tree : Syntax) (origins : List (Option Span))
    → IfOk answer (λ _. new ≡ with_tree old call tree origins) → OnErr answer (new ≡ old) → All (IsReadOf old.reach) old.files → All (IsReadOf new.reach) new.files
still_read (Ok x) old new call tree origins more same read = subst (λ (w : Workspace). All (IsReadOf w.reach) w.files) (sym more) read
still_read (Err e) old new call tree origins more same read = subst (λ (w : Workspace). All (IsReadOf w.reach) w.files) (sym same) read

module _ (w : Workspace) (x : Expansion) where
  -- no call is refused for want of memory
  needs_none : (found : Option NodeId) (deep unfit : NodeId → Bool)
      → (ok_or found (errors.Call (length w.expansions)) >>= (λ call.
      unless (deep call) (errors.Nested (length w.expansions)) >>= (λ _. unless (unfit call) (errors.Origin (length w.expansions)) >>= (λ _. Ok call)))) ≡ Err errors.Memory → ⊥
  needs_none None deep unfit e = cc
  needs_none (Some call) deep unfit e = by (deep call) (unfit call) e
    where
      by : (b c : Bool) → (unless b (errors.Nested (length w.expansions)) >>= (λ _. unless c (errors.Origin (length w.expansions)) >>= (λ _. Ok call))) ≡ Err errors.Memory → ⊥
      by true c e = cc
      by false true e = cc
      by false false e = cc

  call_needs_none : checked_call w x ≡ Err errors.Memory → ⊥
  unfolding checked_call
  call_needs_none e =
      needs_none (free_call w x.call.0 x.call.1) (λ call. nat_lt most_nested (1 + nesting (trees w) call.tree))
      (λ call. not (list_all (fits_origin (text_at_top (trees w) call.tree)) (map origin_of x.tokens.items))) e

  -- so a refusal of the call is none for want of memory
  pub other_refusal : (tree : Syntax) (answer : Result (Unit {0}) WorkspaceError) (e : WorkspaceError) → IsErrAnd answer (λ y. y ≡ e) → checked_call w x ≡ Err e
      → answer ≡ Err errors.Memory → IsOk (added_reading (Ok tree) w x)
  other_refusal tree (Ok y) e told is same = cc
  other_refusal tree (Err y) e told is same =
      let memory : e ≡ errors.Memory = cc (told, same) in
      absurd (call_needs_none (subst (λ (e : WorkspaceError). checked_call w x ≡ Err e) memory is))

-- ** What is added with a tree is added with the reading that gives it.

module _ (w new : Workspace) (x : Expansion) (result : Result (Unit {0}) WorkspaceError) (reading : Result Syntax SyntaxError) (tree : Syntax) (read : reading ≡ Ok tree) where
  pub added_so : IfOk result (λ _. added_reading (Ok tree) w x ≡ Ok new) → IfOk result (λ _. added_reading reading w x ≡ Ok new)
  added_so h = subst (λ (r : Result Syntax SyntaxError). IfOk result (λ _. added_reading r w x ≡ Ok new)) (sym read) h

  pub refused_so : IfErr result (λ e. e ≢ errors.Memory → added_reading (Ok tree) w x ≡ Err e) → IfErr result (λ e. e ≢ errors.Memory → added_reading reading w x ≡ Err e)
  refused_so h = subst (λ (r : Result Syntax SyntaxError). IfErr result (λ e. e ≢ errors.Memory → added_reading r w x ≡ Err e)) (sym read) h

  pub memory_so : (result ≡ Err errors.Memory → IsOk (added_reading (Ok tree) w x)) → result ≡ Err errors.Memory → IsOk (added_reading reading w x)
  memory_so h is = subst (λ (r : Result Syntax SyntaxError). IsOk (added_reading r w x)) (sym read) (h is)

-- a reading in the stated language
pub in_stated : (kind : ExpansionKind) (tokens : List ExpToken) (tree : Syntax) → expansion_reading kind tokens ≡ Ok tree
    → (reach : Reach) × (expansion_reading_of reach kind tokens ≡ Ok tree)
unfolding expansion_reading
in_stated kind tokens tree read = (Stated, read)
