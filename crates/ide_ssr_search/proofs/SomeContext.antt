-- A search can be made at each position of a file's text, where its nodes stand in scopes; elsewhere it is refused.
use Rattle.std.proofs.Common.{◌≡◌, ◌≢◌, ℕ, Result, Ok, Err, zero, suc, ◌+◌, ◌-◌, ◌<◌, ◌≤◌, ◌⊎◌, inl, inr, List, map, length, Option, Some, None, IfSome, refl, subst, arith}
use Rattle.std.specs.Prelude.{IsSome}
use Rattle.std.specs.Option.{option_map}
use Rattle.std.proofs.lemmas.Bool.{cases_eq, cases_lt, false≢true}
use Rattle.ssr_syntax_kinds.specs.declared.kinds.SyntaxKind.TheVariants as k
use Rattle.ssr_syntax_tree.specs.Syntax.{Syntax, node_count, token_count, source_of}
use Rattle.ssr_syntax_tree.specs.Places.{HasNode, HasToken, HoldsByte, node_of, size_of, offset_of}
use Rattle.ssr_syntax_tree.proofs.Shared.{inside, below_root}
use Rattle.ssr_base_trees.specs.declared.ids.FilePosition.{FilePosition}
use Rattle.ssr_base_trees.specs.declared.ids.FileRange.{FileRange}
use Rattle.ssr_base_trees.specs.declared.ids.ScopeId.{ScopeId}
use Rattle.ssr_base_trees.specs.Meanings.{Meanings}
use Rattle.ssr_base_trees.specs.Workspace.{Workspace, tree_of, node_id, file_span_of}
use Rattle.ssr_base_trees.proofs.Shared.{some_and}
use Rattle.ide_ssr_search.specs.Laws.{ContextExists}
use Rattle.ide_ssr_search.specs.declared.context_error.ContextError.{ContextError}
use Rattle.ide_ssr_search.specs.declared.context_error.ContextError.TheVariants as errors
use Rattle.ide_ssr_search.specs.Context.{Context}
use Rattle.ide_ssr_search.specs.Making.{AreOfFiles, HasFile, IsPlace, LiesInText, Makes, restricting}
use Rattle.ide_ssr_search.specs.Positions.{EndsAt, HoldsAt, IsNear, IsFirst, IsNextSibling, IsLeftFor, Leads, stays, goes_on, Settles, IsNodeAt, IsFunctionAround, IsInnermost}
use Rattle.ide_ssr_bindings.proofs.Deciding.{Decided, both, each, either, likewise, last_of, less, at_most, of_kind, of_some}
use Rattle.ide_ssr_search.proofs.PositionNodes.{Spans, root_spans, is_parent, way, way_shorter}

module _ (s : Syntax) where
  -- ** The token of a position.

  holds_byte : (t offset : ℕ) → Decided (HoldsByte s t offset)
  holds_byte t offset = both (at_most (offset_of s t) offset) (less offset (offset_of s (1 + t)))

  near : (offset : ℕ) → (token : Option ℕ) × IsNear s offset token × IfSome token (HasToken s)
  near offset =
      elim (last_of (EndsAt s offset) (token_count s.children) ends_at (λ t past ends. omega (arith, ends.0))) [
        | inl found ↦ (Some found.0, inl found.1, found.1.0)
        | inr none ↦ elim (last_of (HoldsAt s offset) (token_count s.children) holds_at (λ t past at. omega (arith, at.0))) [
          | inl found ↦ (Some found.0, inr (none, found.1), found.1.0)
          | inr nowhere ↦ (None, (none, nowhere), tt)
        ]
      ]
    where
      ends_at : (t : ℕ) → HasToken s t → Decided (EndsAt s offset t)
      ends_at t has =
          likewise (both (less 0 offset) (both (holds_byte t (offset - 1)) (cases_eq (offset_of s (1 + t)) offset))) (λ h. (has, h.0, h.1.0, h.1.1))
          (λ ends. (ends.1, (ends.2, ends.3)))

      holds_at : (t : ℕ) → HasToken s t → Decided (HoldsAt s offset t)
      holds_at t has = likewise (holds_byte t offset) (λ holds. (has, holds)) (λ at. at.1)

  -- ** Its node.

  first : (token : Option ℕ) → IfSome token (HasToken s) → (n : ℕ) × IsFirst s token n × HasNode s n
  first None has = (0, refl, omega arith)
  first (Some t) has =
      elim (last_of (λ n. HasNode s n × Spans s n t) (1 + node_count s.children)
      (λ n within. likewise (both (at_most (node_of s n).first t) (less t ((node_of s n).first + token_count (node_of s n).children))) (λ h. (within, h)) (λ h. h.1))
      (λ n past h. omega (arith, h.0))) [
        | inl last ↦ (last.0, is_parent s last.0 t last.1.0 last.1.1 (λ m has_m more spans. last.2 m more (has_m, spans)), last.1.0)
        | inr none ↦ absurd (none 0 (omega arith, root_spans s t has))
      ]

  left : (n : ℕ) → HasNode s n → ((m : ℕ) × IsLeftFor s n m × HasNode s m) ⊎ ((m : ℕ) → IsLeftFor s n m → ⊥)
  left n has =
      let node = node_of s n in
      let next = n + size_of node in
      let sibling : Decided (((node.kind ≡ k.LET_STMT) ⊎ (node.kind ≡ k.IDENT_PAT)) × IsNextSibling s n next) =
      both (either (of_kind node.kind k.LET_STMT) (of_kind node.kind k.IDENT_PAT))
      (likewise (both (less next (1 + node_count s.children)) (cases_eq (node_of s next).parent node.parent)) (λ h. (refl, h.0, h.1)) (λ is. (is.1, is.2))) in
      elim sibling [
        | inl is ↦ inl (next, inl is, is.1.1)
        | inr none ↦ elim (both (of_kind node.kind k.NAME) (less 0 n)) [
          | inl named ↦
              let over = (inside s 0 n (omega arith) (below_root s n has named.1)).parent in
              inl (node.parent, inr (named.0, named.1, refl), omega (arith, over.0))
          | inr other ↦ inr (λ m is. elim is [
            | inl behind ↦ none (behind.0, subst (IsNextSibling s n) behind.1.0 behind.1)
            | inr parent ↦ other (parent.0, parent.1)
          ])
        ]
      ]

  shorter : (a b bound : ℕ) → a < b → b < suc bound → a < bound
  shorter a b bound first next = omega arith

  leads : (bound n : ℕ) → way s n < bound → HasNode s n → (last : ℕ) × Leads s n last
  leads zero n low has = absurd (omega arith)
  leads (suc bound) n low has =
      elim (left n has) [
        | inr none ↦ (n, stays n none)
        | inl next ↦
            let on = leads bound next.0 (shorter (way s next.0) (way s n) bound (way_shorter s n next.0 has next.2 next.1) low) next.2 in
            (on.0, goes_on n next.0 on.0 next.1 on.1)
      ]

  settles : (n : ℕ) → (m : ℕ) × Settles s n m
  settles n =
      elim (both (of_kind (node_of s n).kind k.EXPR_STMT) (less 1 (size_of (node_of s n)))) [
        | inl is ↦ (1 + n, inl (is, refl))
        | inr other ↦ (n, inr (other, refl))
      ]

  node_there : (offset : ℕ) → (n : ℕ) × IsNodeAt s offset n
  node_there offset =
      let token = near offset in
      let at = first token.0 token.2 in
      let last = leads (suc (way s at.0)) at.0 (omega arith) at.2 in
      let n = settles last.0 in
      (n.0, record { token = token.0; near = token.1; first = at.0; is_first = at.1; last = last.0; leads = last.1; settles = n.1 })

  -- ** The function around it.

  innermost : (n : ℕ) → (around : Option ℕ) × IsInnermost s n around
  innermost n =
      elim (last_of (IsFunctionAround s n) (1 + node_count s.children)
      (λ f has. likewise (both (of_kind (node_of s f).kind k.FN) (both (at_most f n) (less n (f + size_of (node_of s f))))) (λ h. (has, h.0, h.1.0, h.1.1))
      (λ is. (is.1, (is.2, is.3))))
      (λ f past is. omega (arith, is.0))) [
        | inl last ↦ (Some last.0, (last.1, λ g is. elim (cases_lt last.0 g) [ inl more ↦ absurd (last.2 g more is) | inr low ↦ low ]))
        | inr none ↦ (None, none)
      ]

there : {A : Type 0} (o : Option A) → IsSome o → (x : A) × (o ≡ Some x)
there None is = absurd (false≢true is)
there (Some x) is = (x, refl)

pub context_exists : (w : Workspace) (m : Meanings) (position : FilePosition) (restrictions : List FileRange) → ContextExists w m position restrictions
context_exists w m position restrictions in_text of_files scoped =
    let file = position.file_id.0 in
    let tree = some_and (tree_of w file) (λ tree. position.offset ≤ length (source_of tree)) in_text.1 in
    let node = node_there tree.0 position.offset in
    let around = innermost tree.0 node.0 in
    let scope = there (m.scope (node_id file node.0)) (scoped node.0) in (
      record { scope = scope.0; restrictions = map file_span_of (restricting restrictions); function = option_map (node_id file) around.0 },
      record {
        tree = tree.0;
        node = node.0;
        place = record { in_text = in_text; of_files = of_files; is = tree.1; node = node.1 };
        scope = scope.1;
        restricted = refl;
        around = around.0;
        innermost = around.1;
        function = refl;
      },
    )

module _ (w : Workspace) (m : Meanings) (position : FilePosition) (restrictions : List FileRange) where
  -- there is something that a search is made for, or a refusal
  abbrev pub MakingExists : Type 0
  MakingExists = (made : Result Context ContextError) × (made ≢ Err errors.Memory) × Makes w m position restrictions made

  in_files : LiesInText w position → AreOfFiles w restrictions → MakingExists
  in_files in_text of_files =
      let file = position.file_id.0 in
      let tree = some_and (tree_of w file) (λ tree. position.offset ≤ length (source_of tree)) in_text.1 in
      let node = node_there tree.0 position.offset in
      let around = innermost tree.0 node.0 in
      let place : IsPlace w position restrictions tree.0 node.0 = record { in_text = in_text; of_files = of_files; is = tree.1; node = node.1 } in
      let by_scope : (scope : Option ScopeId) → m.scope (node_id file node.0) ≡ scope → MakingExists =
      λ scope. elim scope as (λ scope. m.scope (node_id file node.0) ≡ scope → MakingExists) [
        | None ↦ λ is. (Err errors.NoScope, (λ e. cc), (tree.0, node.0, place, is))
        | Some scope ↦ λ is. (
          Ok (record { scope = scope; restrictions = map file_span_of (restricting restrictions); function = option_map (node_id file) around.0 }),
          (λ e. cc),
          record { tree = tree.0; node = node.0; place = place; scope = is; restricted = refl; around = around.0; innermost = around.1; function = refl },
        )
      ] in
      by_scope (m.scope (node_id file node.0)) refl

  pub making_exists : MakingExists
  making_exists =
      let file = position.file_id.0 in
      elim (less file (length w.files)) [
        | inr none ↦ (Err errors.NoSuchFile, (λ e. cc), inl none)
        | inl has ↦ elim (of_some (λ tree. position.offset ≤ length (source_of tree)) (λ tree. at_most position.offset (length (source_of tree))) (tree_of w file)) [
          | inr past ↦ (Err errors.NoSuchPosition, (λ e. cc), (has, (λ text. past text.1)))
          | inl within ↦ elim (each (λ (range : FileRange). HasFile w range.file_id.0) (λ (range : FileRange). less range.file_id.0 (length w.files)) (restricting restrictions)) [
            | inr other ↦ (Err errors.NoSuchFile, (λ e. cc), inr ((has, within), other))
            | inl of_files ↦ in_files (has, within) of_files
          ]
        ]
      ]
