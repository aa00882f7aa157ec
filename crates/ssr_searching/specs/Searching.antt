-- A search for rules: what it is made in, and what it comes to.
use Rattle.std.specs.Prelude.{ℕ, ◌≡◌, ◌≢◌, List, [], ◌∷◌, ◌++◌, Option, Result, Ok, Err, string_bytes}
use Rattle.std.specs.BTreeMap.{BTreeMap, get}
use Rattle.ssr_syntax_kinds.specs.declared.reach.Reach.{Reach}
use Rattle.ssr_base_trees.specs.declared.ids.FileId.{FileId}
use Rattle.ssr_base_trees.specs.declared.ids.FilePosition.{FilePosition}
use Rattle.ssr_base_trees.specs.declared.ids.FileRange.{FileRange}
use Rattle.ssr_base_trees.specs.declared.ids.ScopeId.{ScopeId}
use Rattle.ssr_base_trees.specs.Changes.{Change}
use Rattle.ssr_base_trees.specs.Meanings.{Meanings}
use Rattle.ssr_base_trees.specs.Workspace.{Workspace}
use Rattle.ide_ssr_refusals.specs.declared.refusals.Refusal.{Refusal}
use Rattle.ide_ssr_refusals.specs.Refusals.{words, ◌>>=◌}
use Rattle.ide_ssr_resolved_rule.specs.Resolved.{ResolvedRule}
use Rattle.ide_ssr_rules.specs.Resolved.{resolved_kinds}
use Rattle.ide_ssr_rules.specs.Rules.{Rule, rule_reading, once_reading_of}
use Rattle.ide_ssr_search.specs.declared.context_error.ContextError.{ContextError}
use Rattle.ide_ssr_search.specs.declared.context_error.ContextError.TheVariants as contexts
use Rattle.ide_ssr_search.specs.Context.{Context}
use Rattle.ide_ssr_search.specs.Making.{Makes, error_words}
use Rattle.ide_ssr_rewriting.specs.declared.editing.EditError.TheVariants as edits
use Rattle.ide_ssr_rewriting.specs.Clashes.{Clash, clash_of}
use Rattle.ide_ssr_rewriting.specs.Edits.{file_cmp}
use Rattle.ide_ssr.specs.Edits.{Edits}
use Rattle.ide_ssr.specs.Finder.{Finder}
use Rattle.ssr_searching.specs.declared.searching.SearchError.{SearchError}
use Rattle.ssr_searching.specs.declared.searching.SearchError.TheVariants as errors

-- what is searched, what names in it mean, where those of the rules are looked up, and the ranges to search in, without any of
-- which all is searched
pub record Search : Type 0 where
  pub workspace : Workspace
  pub meanings : Meanings
  pub position : FilePosition
  pub ranges : List FileRange

-- ** The rules.

-- two readings, one after the other: what both say, or the first refusal
abbrev pub both : {A E : Type 0} → Result (List A) E → Result (List A) E → Result (List A) E
both (Err refusal) second = Err refusal
both (Ok first) (Err refusal) = Err refusal
both (Ok first) (Ok second) = Ok (first ++ second)

-- the kinds of a rule, resolved in a scope
abbrev pub resolved : Meanings → ScopeId → Rule → Result (List ResolvedRule) Refusal
resolved meanings scope rule = resolved_kinds meanings scope rule.names rule.constraints rule.kinds

-- how the text of a rule is read: with each of its kinds by `rule_reading`, searched once by `once_reading_of` a reach
abbrev pub Reading : Type 0
Reading = List ℕ → Result Rule Refusal

-- what a rule says, parsed and resolved
abbrev pub rule_kinds : Reading → Meanings → ScopeId → List ℕ → Result (List ResolvedRule) Refusal
rule_kinds read meanings scope rule = read rule >>= resolved meanings scope

-- what the rules say, in their order
abbrev pub rules_reading : Reading → Meanings → ScopeId → List (List ℕ) → Result (List ResolvedRule) Refusal
rules_reading read meanings scope [] = Ok []
rules_reading read meanings scope (rule ∷ rules) = both (rule_kinds read meanings scope rule) (rules_reading read meanings scope rules)

-- ** The finder.

-- what the finder is made for, or why there is none
abbrev pub MakesFor : Search → Result Context ContextError → Type 0
MakesFor s = Makes s.workspace s.meanings s.position s.ranges

-- the finder of a search, to which the rules are added
pub record IsFinder (read : Reading) (s : Search) (rules : List (List ℕ)) (finder : Finder) : Type 0 where
  pub workspace : finder.workspace ≡ s.workspace
  pub meanings : finder.meanings ≡ s.meanings
  pub context : MakesFor s (Ok finder.context)
  pub kinds : rules_reading read s.meanings finder.context.scope rules ≡ Ok finder.rules

-- ** The edits.

-- the changes of the files that have an edit, by their numbers
abbrev pub Changes : Type 0
Changes = ℕ → Option (List Change)

abbrev pub changes_in : BTreeMap FileId (List Change) → Changes
changes_in edits file = get file_cmp edits (record { 0 = file })

-- a refusal with its message, two matches whose replacements clash, or changes of files
pub data Outcome : Type 0 where
  refuses : List ℕ → Outcome
  clashes : Clash → Outcome
  changes : Changes → Outcome

-- first the finder is made, then the rules are added in their order, and then there are edits or a clash
pub data ComesToBy (read : Reading) (s : Search) (rules : List (List ℕ)) : Outcome → Type 0 where
  no_finder : (why : ContextError) → why ≢ contexts.Memory → MakesFor s (Err why) → ComesToBy read s rules (refuses (error_words why))
  no_rules : (context : Context) (why : Refusal) → MakesFor s (Ok context)
      → rules_reading read s.meanings context.scope rules ≡ Err why → ComesToBy read s rules (refuses (words why))
  clash : (finder : Finder) (earlier later : FileRange) → IsFinder read s rules finder
      → Edits finder (Err (edits.Clash earlier later)) → ComesToBy read s rules (clashes (clash_of (earlier, later)))
  edited : (finder : Finder) (found : BTreeMap FileId (List Change)) → IsFinder read s rules finder
      → Edits finder (Ok found) → ComesToBy read s rules (changes (changes_in found))

-- what a search comes to for all kinds of the rules
abbrev pub ComesTo : Search → List (List ℕ) → Outcome → Type 0
ComesTo = ComesToBy rule_reading

-- what it comes to where rules are read in a reach, and one whose pattern is a placeholder alone is searched once
abbrev pub ComesToOnce : Reach → Search → List (List ℕ) → Outcome → Type 0
ComesToOnce reach = ComesToBy (once_reading_of reach)

-- ** What is answered.

-- an answer is what the search comes to; want of memory says nothing
abbrev pub ReachesBy : Reading → Search → List (List ℕ) → Result (BTreeMap FileId (List Change)) SearchError → Type 0
ReachesBy read s rules (Ok edits) = ComesToBy read s rules (changes (changes_in edits))
ReachesBy read s rules (Err (errors.Refused message)) = ComesToBy read s rules (refuses (string_bytes message))
ReachesBy read s rules (Err (errors.Clash earlier later)) = ComesToBy read s rules (clashes (clash_of (earlier, later)))
ReachesBy read s rules (Err errors.Memory) = Unit {0}

abbrev pub Reaches : Search → List (List ℕ) → Result (BTreeMap FileId (List Change)) SearchError → Type 0
Reaches = ReachesBy rule_reading

abbrev pub ReachesOnce : Reach → Search → List (List ℕ) → Result (BTreeMap FileId (List Change)) SearchError → Type 0
ReachesOnce reach = ReachesBy (once_reading_of reach)
