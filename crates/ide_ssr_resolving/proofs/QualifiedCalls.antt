-- Qualified calls: what their definitions say, one case after the other.
use Rattle.std.proofs.Common.{◌≡◌, ◌<◌, ℕ, ◌+◌, List, [], ◌∷◌, ◌++◌, length, take, get_or, Option, Some, None, ap, subst, sym, ◌∙◌, append-nil}
use Rattle.std.proofs.lemmas.List.{take_more}
use Rattle.std.proofs.lemmas.List.Elements.{All-append, All-cons, All-nil, filter_map-append}
use Rattle.std.specs.List.{cons_option}
use Rattle.std.specs.Option.{option_map, option_and_then, IfSome}
use Rattle.ssr_base_trees.specs.declared.ids.DefId.{DefId}
use Rattle.ssr_base_trees.specs.declared.ids.ScopeId.{ScopeId}
use Rattle.ssr_base_trees.specs.declared.semantics.Res.{Res}
use Rattle.ssr_base_trees.specs.Meanings.{Meanings}
use Rattle.ssr_syntax_kinds.specs.declared.kinds.SyntaxKind.TheVariants as k
use Rattle.ssr_syntax_tree.specs.Places.{HasNode}
use Rattle.ssr_syntax_tree.specs.Syntax.{Forest, Syntax}
use Rattle.ide_ssr_resolved_rule.specs.declared.qualified_calls.QualifiedCall.{QualifiedCall}
use Rattle.ide_ssr_resolved_rule.specs.declared.used_paths.UsedPath.{UsedPath}
use Rattle.ide_ssr_resolved_rule.specs.Paths.{qualifier}
use Rattle.ide_ssr_resolving.specs.Resolving.{adt_of, resolution}
use Rattle.ide_ssr_resolving.specs.QualifiedCalls.{first_in, called_by, method_of, qualifier_type, call_of, qualified_call, qualified_calls_of}
use Rattle.ide_ssr_resolved_rule.specs.QualifiedCalls.{HasCalls}

pub callee_called : (s : Syntax) (path : ℕ) (callee call : Option ℕ) → callee ≡ first_in s k.PATH_EXPR path
    → call ≡ option_and_then (first_in s k.CALL_EXPR) callee → call ≡ called_by s path
unfolding called_by
callee_called s path callee call is called = called ∙ ap (option_and_then (first_in s k.CALL_EXPR)) is

module _ (m : Meanings) (scope : ScopeId) where
  pub type_told : (path : Forest) (front : Option Forest) (res : Option Res) (adt : Option DefId) → front ≡ qualifier path
      → res ≡ option_and_then (resolution m scope) front → adt ≡ option_and_then (adt_of m) res → option_map m.adt_type adt ≡ qualifier_type m scope path
  unfolding qualifier_type
  type_told path front res adt is tells type =
      ap (option_map m.adt_type) type ∙ ap (λ r. option_map m.adt_type (option_and_then (adt_of m) r)) tells
      ∙ ap (λ f. option_map m.adt_type (option_and_then (adt_of m) (option_and_then (resolution m scope) f))) is

  pub no_function : (s : Syntax) (path : UsedPath) → None ≡ method_of m path.res → None ≡ qualified_call m scope s path
  unfolding qualified_call
  no_function s path none = ap (option_and_then (λ function. option_map (call_of m scope s path.node.0 function) (called_by s path.node.0))) none

  pub call_told : (s : Syntax) (path : UsedPath) (function : DefId) (call : Option ℕ) → Some function ≡ method_of m path.res → call ≡ called_by s path.node.0
      → option_map (call_of m scope s path.node.0 function) call ≡ qualified_call m scope s path
  unfolding qualified_call
  call_told s path function call names calls =
      ap (option_map (call_of m scope s path.node.0 function)) calls
      ∙ ap (option_and_then (λ function. option_map (call_of m scope s path.node.0 function) (called_by s path.node.0))) names

  -- the calls of one path more
  pub calls_next : (s : Syntax) (paths : List UsedPath) (i : ℕ) (d : UsedPath) (calls new : List QualifiedCall) (call : Option QualifiedCall)
      → i < length paths → calls ≡ qualified_calls_of m scope s (take i paths) → call ≡ qualified_call m scope s (get_or paths i d)
      → new ≡ calls ++ cons_option call [] → new ≡ qualified_calls_of m scope s (take (i + 1) paths)
  calls_next s paths i d calls new call low are is more =
      more ∙ ap (λ cs. cs ++ cons_option call []) are
      ∙ ap (λ c. qualified_calls_of m scope s (take i paths) ++ cons_option c []) is
      ∙ sym (filter_map-append (qualified_call m scope s) (take i paths) (get_or paths i d ∷ []))
      ∙ ap (qualified_calls_of m scope s) (sym (take_more paths i d low))

pub has_next : (s : Syntax) (calls new : List QualifiedCall) (call : Option QualifiedCall) → HasCalls s calls → IfSome call (λ call. HasNode s call.node.0)
    → new ≡ calls ++ cons_option call [] → HasCalls s new
has_next s calls new None had has more = subst (HasCalls s) (sym (more ∙ append-nil calls)) had
has_next s calls new (Some call) had has more =
    let HasIt : QualifiedCall → Type 0 = λ call. HasNode s call.node.0 in
    subst (HasCalls s) (sym more) (All-append HasIt calls (call ∷ []) had (All-cons HasIt call [] has (All-nil HasIt)))
