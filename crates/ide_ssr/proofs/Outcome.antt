-- What a finder's search comes to: it is that of all that is found, in any order, and each kept match is one of a rule.
use Rattle.std.proofs.Common.{◌≡◌, ℕ, List, All, Option, Some, None, Result, Ok, Err, ap, ◌∙◌, subst}
use Rattle.std.specs.Prelude.{IfOk, Contains}
use Rattle.std.specs.Option.{IsSomeAnd}
use Rattle.std.proofs.lemmas.List.Elements.{Contains-get_or}
use Rattle.ssr_syntax_tree.specs.Places.{node_of, root_of}
use Rattle.ssr_syntax_tree.proofs.Lists.{all_at}
use Rattle.ssr_base_trees.specs.Meanings.{Meanings}
use Rattle.ssr_base_trees.specs.Workspace.{Workspace, PlacedTree, with_number, trees}
use Rattle.ide_ssr_resolved_rule.specs.Patterns.{HasEachOnce, AreInArguments, placeholders_of}
use Rattle.ide_ssr_resolved_rule.specs.Resolved.{ResolvedRule}
use Rattle.ide_ssr_bindings.specs.declared.bindings.Binding.{Binding}
use Rattle.ide_ssr_bindings.specs.Found.{FoundMatch, AreMatches}
use Rattle.ide_ssr_matching.specs.Matching.{Matches}
use Rattle.ide_ssr_matching.proofs.Shared.{placeholders_bound, placeholders_are}
use Rattle.ssr_base_trees.specs.Built.{IsBuilt}
use Rattle.ide_ssr_nesting.specs.Holding.{Kept, IsKept}
use Rattle.ide_ssr_nesting.specs.Kept.{AreKept, AreEnough}
use Rattle.ide_ssr_nesting.specs.Lists.{Listing, AreLists}
use Rattle.ide_ssr_search.specs.Context.{Context}
use Rattle.ide_ssr_nesting.proofs.Shared.{kept_of_enough}
use Rattle.ide_ssr_search.specs.Found.{IsFound}
use Rattle.ide_ssr_search.proofs.Shared.{some_found}
use Rattle.ide_ssr.specs.Finder.{Finder, FinderWith, finder_of}
use Rattle.ide_ssr.specs.Private.Found.{IsEnoughFound}
use Rattle.ide_ssr.specs.Searching.{IsOutcome}
use Rattle.ide_ssr.proofs.BindsOnce.{IsOfRule}

-- a match at a node binds the placeholders of the pattern
bound_at : (m : Meanings) (tree : ℕ) (rule : ResolvedRule) → AreInArguments rule.names rule.pattern rule.pattern_paths → (o : Option PlacedTree) (n : ℕ) (bs : List Binding)
    → IsSomeAnd o (λ p. Matches m tree rule (root_of rule.pattern) (node_of p.syntax n) bs) → placeholders_bound bs ≡ placeholders_of rule.names rule.pattern
bound_at m tree rule in_arguments None n bs matches = absurd matches
bound_at m tree rule in_arguments (Some p) n bs matches = placeholders_are m tree rule in_arguments (node_of p.syntax n) bs matches

found_of_rule : (w : Workspace) (meanings : Meanings) (context : Context) (rules : List ResolvedRule) (m : FoundMatch) → All (λ rule. HasEachOnce rule.names rule.pattern) rules
    → All (λ rule. AreInArguments rule.names rule.pattern rule.pattern_paths) rules → IsFound w meanings context rules m → IsOfRule rules m
found_of_rule w meanings context rules m each in_arguments found =
    let rule = found.rule in
    let has = all_at (λ rule. HasEachOnce rule.names rule.pattern) rules m.rule rule each found.is_rule in
    let known = all_at (λ rule. AreInArguments rule.names rule.pattern rule.pattern_paths) rules m.rule rule in_arguments found.is_rule in
    record {
      rule = rule;
      is_rule = found.is_rule;
      numbered =
          bound_at meanings m.node.tree rule known (with_number (trees w) m.node.tree) m.node.node.0 m.bindings found.whole.matches
          ∙ has.bound;
      different = has.different;
    }

pub kept_of_rules : (finder : Finder) (kept : Kept) (lists : Listing) → All (λ rule. HasEachOnce rule.names rule.pattern) finder.rules
    → All (λ rule. AreInArguments rule.names rule.pattern rule.pattern_paths) finder.rules → IsOutcome finder kept lists → All (IsOfRule finder.rules) kept.matches
kept_of_rules finder kept lists each in_arguments is k d less =
    found_of_rule finder.workspace finder.meanings finder.context finder.rules _ each in_arguments
    ((is.are_found.are _).0 ((is.are_kept.are _).0 (Contains-get_or kept.matches k d less)).0)

-- kept matches of what is found, in any order and but for what is shadowed, are those that the search comes to
pub outcome_of : (finder : Finder) (found : List FoundMatch) (kept : Kept) (lists : Listing) → IsEnoughFound finder found → kept.workspace ≡ finder.workspace
    → AreKept (trees finder.workspace) found kept.matches → IsKept kept → AreLists kept lists → IsOutcome finder kept lists
outcome_of finder found kept lists all workspace are_kept is_kept are_lists =
    let w = finder.workspace in
    let listed = some_found w (subst IsBuilt workspace is_kept.built) finder.meanings finder.context finder.rules in
    let enough : AreEnough (trees w) (Contains listed.0) found =
    record {
      found = λ m at. (listed.1.are m).1 (all.1.found m at);
      enough = λ m at. all.1.enough m ((listed.1.are m).0 at);
    } in
    record {
      found = listed.0;
      are_found = listed.1;
      workspace = workspace;
      are_kept = (kept_of_enough (trees w) listed.0 found kept.matches enough).0 are_kept;
      is_kept = is_kept;
      are_lists = are_lists;
    }

-- ** What a finder's search hands on, told of the finder as it is seen from outside.

module _ {S : Type 0} (meanings : S → Meanings) (one other : FinderWith S) (is : one ≡ other) where
  pub led_found : {V E : Type 0} (items : V → List FoundMatch) (rules : List ResolvedRule) (result : Result V E) → rules ≡ one.rules
      → IfOk result (λ found. AreMatches (trees one.workspace) (items found))
      → IfOk result (λ found. AreEnough (trees one.workspace) (IsFound one.workspace (meanings one.semantics) one.context rules) (items found))
      → IfOk result (λ found. IsEnoughFound (finder_of meanings other) (items found))
  led_found items rules (Ok found) same matches all =
      subst (λ (f : FinderWith S). IsEnoughFound (finder_of meanings f) (items found)) is
      (matches, subst (λ (rules : List ResolvedRule). AreEnough (trees one.workspace) (IsFound one.workspace (meanings one.semantics) one.context rules) (items found)) same all)
  led_found items rules (Err error) same matches all = matches

  pub scan_found : (rules : List ResolvedRule) (found : List FoundMatch) → rules ≡ one.rules → AreMatches (trees one.workspace) found
      → AreEnough (trees one.workspace) (IsFound one.workspace (meanings one.semantics) one.context rules) found → IsEnoughFound (finder_of meanings other) found
  scan_found rules found same matches are_enough =
      subst (λ (f : FinderWith S). IsEnoughFound (finder_of meanings f) found) is
      (matches, subst (λ (rules : List ResolvedRule). AreEnough (trees one.workspace) (IsFound one.workspace (meanings one.semantics) one.context rules) found) same are_enough)

  pub outcome_told : (found : List FoundMatch) (kept : Kept) (lists : Listing) → IsEnoughFound (finder_of meanings other) found → kept.workspace ≡ one.workspace
      → AreKept (trees one.workspace) found kept.matches → IsKept kept → AreLists kept lists → IsOutcome (finder_of meanings other) kept lists
  outcome_told found kept lists all workspace are_kept is_kept are_lists =
      let same = ap (λ (f : FinderWith S). f.workspace) is in
      outcome_of (finder_of meanings other) found kept lists all (workspace ∙ same)
      (subst (λ (w : Workspace). AreKept (trees w) found kept.matches) same are_kept) is_kept are_lists
