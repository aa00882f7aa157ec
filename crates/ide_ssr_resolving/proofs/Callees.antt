-- What is known of qualified calls: they are calls, and what stands in the first arguments of one.
use Rattle.std.proofs.Common.{◌≡◌, ℕ, ◌+◌, ◌<◌, ◌≤◌, true, false, ◌&&◌, List, All, Option, Some, None, refl, ap, ◌∙◌, subst}
use Rattle.std.specs.Prelude.{◌==◌, if◌then◌else◌, ⊤}
use Rattle.std.specs.Option.{option_map, option_map_or}
use Rattle.std.proofs.lemmas.Bool.{and_from, and_parts, cond-true, eq-eqb}
use Rattle.std.proofs.lemmas.Option.{cond_some, none-some, option_and_then_some, same_Some}
use Rattle.ssr_syntax_kinds.specs.declared.kinds.SyntaxKind.{SyntaxKind}
use Rattle.ssr_syntax_kinds.specs.declared.kinds.SyntaxKind.TheVariants as k
use Rattle.ssr_syntax_kinds.specs.Kinds.{same_kind}
use Rattle.ssr_syntax_kinds.proofs.Shared.{same_kind-equal, equal-same_kind}
use Rattle.ssr_syntax_tree.specs.Places.{HasNode, node_of, size_of}
use Rattle.ssr_syntax_tree.specs.Syntax.{Syntax}
use Rattle.ssr_base_trees.specs.declared.ids.DefId.{DefId}
use Rattle.ssr_base_trees.specs.declared.ids.ScopeId.{ScopeId}
use Rattle.ssr_base_trees.specs.Meanings.{Meanings}
use Rattle.ide_ssr_resolved_rule.specs.declared.qualified_calls.QualifiedCall.{QualifiedCall}
use Rattle.ide_ssr_resolved_rule.specs.declared.used_paths.UsedPath.{UsedPath}
use Rattle.ide_ssr_resolving.specs.Eligible.{first_argument_of, is_call, is_first_argument, is_in_first_argument}
use Rattle.ide_ssr_resolving.specs.QualifiedCalls.{is_first_in, first_in, called_by, method_of, call_of, qualified_call, qualified_calls_of}
use Rattle.ide_ssr_resolving.proofs.FirstArguments.{shown}
use Rattle.ide_ssr_resolving.proofs.UsedNodes.{filter_map_all}

module _ (tree : Syntax) where
  -- ** Calls.

  first_in_kind : (kind : SyntaxKind) (n parent : ℕ) → first_in tree kind n ≡ Some parent → (node_of tree parent).kind ≡ kind
  first_in_kind kind n parent is =
      let above = (node_of tree n).parent in
      let first = is_first_in tree above n in
      let same = same_kind (node_of tree above).kind kind in
      let both = cond_some (first && same) above parent is in
      subst (λ n. (node_of tree n).kind ≡ kind) both.1 (same_kind-equal (node_of tree above).kind kind (and_parts first same both.0).1)

  called_kind : (path call : ℕ) → called_by tree path ≡ Some call → (node_of tree call).kind ≡ k.CALL_EXPR
  unfolding called_by
  called_kind path call is =
      option_and_then_some (first_in tree k.CALL_EXPR) (first_in tree k.PATH_EXPR path) call is (λ callee at calls. first_in_kind k.CALL_EXPR callee call calls)

  abbrev IsCall : QualifiedCall → Type 0
  IsCall call = (node_of tree call.node.0).kind ≡ k.CALL_EXPR

  module _ (m : Meanings) (scope : ScopeId) where
    call_kind : (path : UsedPath) (call : QualifiedCall) → qualified_call m scope tree path ≡ Some call → IsCall call
    unfolding qualified_call
    call_kind path call is =
        option_and_then_some (λ function. option_map (call_of m scope tree path.node.0 function) (called_by tree path.node.0)) (method_of m path.res) call is
        (λ function names calls. by function (called_by tree path.node.0) refl calls)
      where
        by : (function : DefId) (o : Option ℕ) → called_by tree path.node.0 ≡ o → option_map (call_of m scope tree path.node.0 function) o ≡ Some call → IsCall call
        by function None none is = absurd (none-some call is)
        by function (Some n) called is =
            subst IsCall (same_Some (call_of m scope tree path.node.0 function n) call is) (called_kind path.node.0 n called)

    pub are_calls : (paths : List UsedPath) → All IsCall (qualified_calls_of m scope tree paths)
    are_calls paths =
        filter_map_all (λ _. ⊤) IsCall (qualified_call m scope tree) paths (λ path call _ is. call_kind path call is) (λ n d within. tt)

  -- ** First arguments.

  first_in_at : (kind : SyntaxKind) (n parent : ℕ) → n ≡ parent + 1 → (node_of tree n).parent ≡ parent → (node_of tree parent).kind ≡ kind → first_in tree kind n ≡ Some parent
  first_in_at kind n parent next above is =
      let test = is_first_in tree parent n && same_kind (node_of tree parent).kind kind in
      let passes : test ≡ true =
      and_from (is_first_in tree parent n) (same_kind (node_of tree parent).kind kind)
      (and_from (n == (parent + 1)) ((node_of tree n).parent == parent) (eq-eqb n (parent + 1) next) (eq-eqb (node_of tree n).parent parent above))
      (equal-same_kind (node_of tree parent).kind kind is) in
      ap (λ p. if is_first_in tree p n && same_kind (node_of tree p).kind kind then Some p else None) above ∙ cond-true test (Some parent) None passes

  -- The first node in a list of arguments is the first argument of the call that has this list.
  pub first_argument : (calls : List QualifiedCall) (n list call : ℕ) → n ≡ list + 1 → (node_of tree n).parent ≡ list → (node_of tree list).kind ≡ k.ARG_LIST
      → (node_of tree list).parent ≡ call → is_call calls call ≡ true → is_first_argument tree calls n ≡ true
  unfolding first_argument_of
  first_argument calls n list call next above arguments parent is =
      ap (λ o. option_map_or (is_call calls) (option_map (λ list. (node_of tree list).parent) o) false) (first_in_at k.ARG_LIST n list next above arguments)
      ∙ ap (is_call calls) parent ∙ is

  -- what is at or below a first argument stands in it
  pub in_first_argument : (calls : List QualifiedCall) (at n : ℕ) → HasNode tree at → at ≤ n → n < at + size_of (node_of tree at) → is_first_argument tree calls at ≡ true
      → is_in_first_argument tree calls n ≡ true
  in_first_argument calls at n has low high first = shown tree calls n (record { at = at; has = has; low = low; high = high; first = first })
