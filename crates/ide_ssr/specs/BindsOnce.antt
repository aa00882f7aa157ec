-- What nested matches bind: each match binds each placeholder of its rule once, to ranges that share no byte.
use Rattle.std.specs.Prelude.{ℕ, ◌≡◌, ◌≢◌, ◌↔◌, List, Some, map, slice_get, All, AllPairs, Contains}
use Rattle.ide_ssr_resolved_rule.specs.Resolved.{ResolvedRule}
use Rattle.ide_ssr_bindings.specs.Found.{AreDisjoint}
use Rattle.ide_ssr.specs.declared.matches.Match.{Match}
use Rattle.ide_ssr.specs.declared.matches.PlaceholderMatch.{PlaceholderMatch}
use Rattle.ide_ssr.specs.Matches.{rule_of, placeholders_of, name_of, span_of, inner_of}

-- a match of one of the rules has the rule's placeholders, no two of one name, and what two of them hold has no byte in common
pub record BindsOnce (rules : List ResolvedRule) (m : Match) : Type 0 where
  pub rule : ResolvedRule
  pub is_rule : slice_get rules (rule_of m) ≡ Some rule
  pub each : (name : List ℕ) → Contains (map name_of (placeholders_of m)) name ↔ Contains rule.names name
  pub different : AllPairs (λ one other. one ≢ other) (map name_of (placeholders_of m))
  pub apart : AllPairs (λ p q. AreDisjoint (span_of p) (span_of q)) (placeholders_of m)

-- the lists of matches in an answer: its own, and the list of each placeholder of a match in one of them
pub data IsListIn (answer : List Match) : List Match → Type 0 where
  own : IsListIn answer answer
  inner : (ms : List Match) (m : Match) (p : PlaceholderMatch)
      → IsListIn answer ms → Contains ms m → Contains (placeholders_of m) p → IsListIn answer (inner_of p)

-- each match in one of an answer's lists binds each placeholder once
abbrev pub BindOnce : List ResolvedRule → List Match → Type 0
BindOnce rules answer = (ms : List Match) → IsListIn answer ms → All (BindsOnce rules) ms
