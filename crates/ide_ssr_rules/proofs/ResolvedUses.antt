-- Kinds that are resolved use their placeholders once, as those that are read do, and are what is told by their patterns.
use Rattle.std.proofs.Common.{◌≡◌, ℕ, List, [], ◌∷◌, All, Result, Ok, Err, ap, refl, subst}
use Rattle.std.proofs.lemmas.List.Elements.{All-nil, All-cons, All-head, All-tail}
use Rattle.ssr_syntax_tree.specs.declared.number.NodeNo.{NodeNo}
use Rattle.ssr_syntax_tree.specs.Syntax.{Syntax}
use Rattle.ssr_base_trees.specs.declared.ids.ScopeId.{ScopeId}
use Rattle.ssr_base_trees.specs.Meanings.{Meanings}
use Rattle.ide_ssr_resolved_rule.specs.declared.constraints.Constraint.{Constraint}
use Rattle.ide_ssr_rules.specs.declared.kinds.ParsedRule.{ParsedRule}
use Rattle.ide_ssr_rules.specs.Patterns.{HasEachAtMostOnce, AreReadOnce}
use Rattle.ide_ssr_refusals.specs.declared.refusals.Refusal.{Refusal}
use Rattle.ide_ssr_refusals.specs.Refusals.{◌>>=◌}
use Rattle.ide_ssr_refusals.proofs.Shared.{went, ok_same}
use Rattle.ide_ssr_resolved_rule.specs.declared.used_paths.UsedPath.{UsedPath}
use Rattle.ide_ssr_resolved_rule.specs.Patterns.{HasEachOnce, AreInArguments}
use Rattle.ide_ssr_resolving.specs.Resolved.{IsResolvedBy}
use Rattle.ide_ssr_resolving.specs.Used.{used_paths}
use Rattle.ide_ssr_resolved_rule.specs.Resolved.{ResolvedRule}
use Rattle.ide_ssr_rules.specs.Resolved.{or_refusal, paths_in, paths_in_template, resolved_kind, resolved_kinds, resolved_with}
use Rattle.ide_ssr_resolving.proofs.Shared.{are_in_arguments}
use Rattle.ide_ssr_rules.proofs.Patterns.{each_once}

-- the pattern has each of its names once, in the arguments of its used paths or outside of them, and the template at most once
abbrev pub IsUsedOnce : ResolvedRule → Type 0
IsUsedOnce kind =
    HasEachOnce kind.names kind.pattern × HasEachAtMostOnce kind.names kind.template × AreInArguments kind.names kind.pattern kind.pattern_paths

-- the used paths of a tree that are told
paths_used : (tree : Syntax) (o : Result (List UsedPath) NodeNo) (paths : List UsedPath) → or_refusal tree o ≡ Ok paths → o ≡ Ok paths
paths_used tree (Ok found) paths is = ap Ok (ok_same found paths is)
paths_used tree (Err node) paths is = cc

module _ (m : Meanings) (scope : ScopeId) (names : List (List ℕ)) (asked : List (List Constraint)) where
  -- what a resolved kind is: the kind that is resolved with its used paths
  pub record IsResolved (kind : ParsedRule) (found : ResolvedRule) : Type 0 where
    pub in_template : List UsedPath
    pub in_pattern : List UsedPath
    pub same : resolved_with m scope names asked kind in_template in_pattern ≡ found
    pub told : used_paths m scope names kind.pattern ≡ Ok in_pattern

  pub resolved_like : (kind : ParsedRule) (found : ResolvedRule) → resolved_kind m scope names asked kind ≡ Ok found → IsResolved kind found
  unfolding resolved_kind paths_in
  resolved_like kind found h =
      let whole : List UsedPath → List UsedPath → Result ResolvedRule Refusal = λ t p. Ok (resolved_with m scope names asked kind t p) in
      let first = went (paths_in_template m scope names kind.template) (λ t. paths_in m scope names kind.pattern >>= whole t) found h in
      let second = went (paths_in m scope names kind.pattern) (whole first.found) found first.next_is in
      record {
        in_template = first.found;
        in_pattern = second.found;
        same = ok_same (resolved_with m scope names asked kind first.found second.found) found second.next_is;
        told = paths_used kind.pattern (used_paths m scope names kind.pattern) second.found second.first_is;
      }

  used_once : (kind : ParsedRule) (found : ResolvedRule) → resolved_kind m scope names asked kind ≡ Ok found → AreReadOnce names kind → IsUsedOnce found
  used_once kind found h read =
      let is = resolved_like kind found h in
      subst IsUsedOnce is.same (each_once names kind.pattern read.0, read.1, are_in_arguments m scope names kind.pattern is.in_pattern is.told)

  -- what holds of each kind that a kind with some property resolves to holds of all that are resolved
  pub resolved_all : (P : ParsedRule → Type 0) (Q : ResolvedRule → Type 0) (kinds : List ParsedRule) (found : List ResolvedRule)
      → ((kind : ParsedRule) (one : ResolvedRule) → resolved_kind m scope names asked kind ≡ Ok one → P kind → Q one)
      → resolved_kinds m scope names asked kinds ≡ Ok found → All P kinds → All Q found
  resolved_all P Q [] found each h all = subst (All Q) (ok_same [] found h) (All-nil Q)
  resolved_all P Q (kind ∷ kinds) found each h all =
      let in_front : ResolvedRule → List ResolvedRule → Result (List ResolvedRule) Refusal = λ first rest. Ok (first ∷ rest) in
      let first = went (resolved_kind m scope names asked kind) (λ first. resolved_kinds m scope names asked kinds >>= in_front first) found h in
      let rest = went (resolved_kinds m scope names asked kinds) (in_front first.found) found first.next_is in
      subst (All Q) (ok_same (first.found ∷ rest.found) found rest.next_is)
      (All-cons Q first.found rest.found
      (each kind first.found first.first_is (All-head P kind kinds all))
      (resolved_all P Q kinds rest.found each rest.first_is (All-tail P kind kinds all)))

  pub resolved_once : (kinds : List ParsedRule) (found : List ResolvedRule) → resolved_kinds m scope names asked kinds ≡ Ok found
      → All (AreReadOnce names) kinds → All IsUsedOnce found
  resolved_once kinds found h all = resolved_all (AreReadOnce names) IsUsedOnce kinds found used_once h all

  told_by : (kind : ParsedRule) (found : ResolvedRule) → resolved_kind m scope names asked kind ≡ Ok found → AreReadOnce names kind → IsResolvedBy m found
  told_by kind found h read =
      let is = resolved_like kind found h in
      subst (IsResolvedBy m) is.same (record { scope = scope; clear = read.0.clear; paths = is.told; calls = refl; eligible = refl })

  pub resolved_known : (kinds : List ParsedRule) (found : List ResolvedRule) → resolved_kinds m scope names asked kinds ≡ Ok found
      → All (AreReadOnce names) kinds → All (IsResolvedBy m) found
  resolved_known kinds found h all = resolved_all (AreReadOnce names) (IsResolvedBy m) kinds found told_by h all
