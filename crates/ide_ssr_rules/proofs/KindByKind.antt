-- Kinds resolved one by one, and the steps of each.
use Rattle.std.proofs.Common.{◌≡◌, ℕ, List, [], ◌∷◌, ◌++◌, Result, Ok, Err, refl, ap, ◌∙◌, sym, append-nil, append_assoc}
use Rattle.ssr_base_trees.specs.declared.ids.ScopeId.{ScopeId}
use Rattle.ssr_base_trees.specs.Meanings.{Meanings}
use Rattle.ide_ssr_resolved_rule.specs.declared.constraints.Constraint.{Constraint}
use Rattle.ide_ssr_refusals.specs.declared.error.SsrError.{SsrError}
use Rattle.ide_ssr_rules.specs.declared.kinds.ParsedRule.{ParsedRule}
use Rattle.ide_ssr_refusals.specs.declared.refusals.Refusal.{Refusal}
use Rattle.ide_ssr_refusals.specs.Refusals.{TellsOf, ◌>>=◌}
use Rattle.ide_ssr_refusals.proofs.Shared.{tells_first, after_ok}
use Rattle.ide_ssr_resolved_rule.specs.declared.qualified_calls.QualifiedCall.{QualifiedCall}
use Rattle.ide_ssr_resolved_rule.specs.declared.used_paths.UsedPath.{UsedPath}
use Rattle.ide_ssr_resolving.specs.QualifiedCalls.{qualified_calls_of}
use Rattle.ide_ssr_resolving.specs.Eligible.{eligible_paths_of}
use Rattle.ide_ssr_resolved_rule.specs.Resolved.{ResolvedRule}
use Rattle.ide_ssr_rules.specs.Resolved.{paths_in, paths_in_template, resolved_kind, resolved_kinds, resolved_with}

-- a kind with its names, what they ask, the used paths of its template and its pattern, its qualified calls and its eligible paths
abbrev pub kind_with : ParsedRule → List (List ℕ) → List (List Constraint) → List UsedPath → List UsedPath → List QualifiedCall → List UsedPath → ResolvedRule
kind_with kind kept asks in_template in_pattern calls eligible = record {
  names = kept;
  constraints = asks;
  reach = kind.reach;
  category = kind.category;
  pattern = kind.pattern;
  template = kind.template;
  pattern_paths = in_pattern;
  template_paths = in_template;
  qualified_calls = calls;
  eligible_paths = eligible;
}

module _ (m : Meanings) (scope : ScopeId) (names : List (List ℕ)) (asked : List (List Constraint)) (kind : ParsedRule) where
  abbrev after_pattern : List UsedPath → List UsedPath → Result ResolvedRule Refusal
  after_pattern in_template in_pattern = Ok (resolved_with m scope names asked kind in_template in_pattern)

  abbrev after_template : List UsedPath → Result ResolvedRule Refusal
  after_template in_template = paths_in m scope names kind.pattern >>= after_pattern in_template

  pub template_unresolved : (error : SsrError) → TellsOf error (paths_in_template m scope names kind.template) → TellsOf error (resolved_kind m scope names asked kind)
  unfolding resolved_kind
  template_unresolved error tells = tells_first (paths_in_template m scope names kind.template) after_template error tells

  -- where the template's paths resolve
  past_template : (P : Result ResolvedRule Refusal → Type 0) (in_template : List UsedPath) → paths_in_template m scope names kind.template ≡ Ok in_template
      → P (after_template in_template) → P (resolved_kind m scope names asked kind)
  unfolding resolved_kind
  past_template P in_template is h = after_ok P (paths_in_template m scope names kind.template) after_template in_template is h

  pub pattern_unresolved : (error : SsrError) (in_template : List UsedPath) → paths_in_template m scope names kind.template ≡ Ok in_template
      → TellsOf error (paths_in m scope names kind.pattern) → TellsOf error (resolved_kind m scope names asked kind)
  pattern_unresolved error in_template template tells =
      past_template (λ r. TellsOf error r) in_template template (tells_first (paths_in m scope names kind.pattern) (after_pattern in_template) error tells)

  -- where all paths resolve
  past_paths : (P : Result ResolvedRule Refusal → Type 0) (in_template in_pattern : List UsedPath) → paths_in_template m scope names kind.template ≡ Ok in_template
      → paths_in m scope names kind.pattern ≡ Ok in_pattern → P (after_pattern in_template in_pattern) → P (resolved_kind m scope names asked kind)
  past_paths P in_template in_pattern template pattern h =
      past_template P in_template template (after_ok P (paths_in m scope names kind.pattern) (after_pattern in_template) in_pattern pattern h)

  pub kind_resolved : (in_template in_pattern : List UsedPath) → paths_in_template m scope names kind.template ≡ Ok in_template
      → paths_in m scope names kind.pattern ≡ Ok in_pattern
      → resolved_kind m scope names asked kind ≡ Ok (resolved_with m scope names asked kind in_template in_pattern)
  kind_resolved in_template in_pattern template pattern =
      past_paths (λ r. r ≡ Ok (resolved_with m scope names asked kind in_template in_pattern)) in_template in_pattern template pattern refl

  -- what a rule keeps is what it resolves to
  pub kind_made : (kept : List (List ℕ)) (asks : List (List Constraint)) (in_template in_pattern : List UsedPath) (calls : List QualifiedCall) (eligible : List UsedPath)
      → kept ≡ names → asks ≡ asked → calls ≡ qualified_calls_of m scope kind.pattern in_pattern → eligible ≡ eligible_paths_of m kind.pattern calls in_pattern
      → kind_with kind kept asks in_template in_pattern calls eligible ≡ resolved_with m scope names asked kind in_template in_pattern
  kind_made kept asks in_template in_pattern calls eligible keeps are called leads =
      let its_calls = qualified_calls_of m scope kind.pattern in_pattern in
      let leading : List QualifiedCall → List UsedPath = λ cs. eligible_paths_of m kind.pattern cs in_pattern in
      ap (λ ps. kind_with kind kept asks in_template in_pattern calls ps) leads
      ∙ ap (λ cs. kind_with kind kept asks in_template in_pattern cs (leading cs)) called
      ∙ ap (λ cs. kind_with kind kept cs in_template in_pattern its_calls (leading its_calls)) are
      ∙ ap (λ ns. kind_with kind ns asked in_template in_pattern its_calls (leading its_calls)) keeps

-- kinds resolved so far, and what the rest gives
abbrev pub joined : List ResolvedRule → Result (List ResolvedRule) Refusal → Result (List ResolvedRule) Refusal
joined before (Ok rest) = Ok (before ++ rest)
joined before (Err refusal) = Err refusal

joined_next : (found : List ResolvedRule) (one : ResolvedRule) (rest : Result (List ResolvedRule) Refusal)
    → joined (found ++ one ∷ []) rest ≡ joined found (rest >>= (λ later. Ok (one ∷ later)))
joined_next found one (Ok later) = ap Ok (append_assoc found (one ∷ []) later)
joined_next found one (Err refusal) = refl

module _ (m : Meanings) (scope : ScopeId) (names : List (List ℕ)) (asked : List (List Constraint)) (all : List ParsedRule) where
  -- what the loop over the kinds keeps
  pub record Resolves (found : List ResolvedRule) (left : List ParsedRule) : Type 0 where
    pub resolves : joined found (resolved_kinds m scope names asked left) ≡ resolved_kinds m scope names asked all

  pub resolves_all : (left : List ParsedRule) (found : List ResolvedRule) → Resolves found left → left ≡ [] → resolved_kinds m scope names asked all ≡ Ok found
  resolves_all left found so_far is =
      sym so_far.resolves ∙ ap (λ ks. joined found (resolved_kinds m scope names asked ks)) is ∙ ap Ok (append-nil found)

  pub resolves_next : (left behind : List ParsedRule) (found new : List ResolvedRule) (kind : ParsedRule) (one : ResolvedRule)
      → Resolves found left → left ≡ kind ∷ behind → resolved_kind m scope names asked kind ≡ Ok one → new ≡ found ++ one ∷ [] → Resolves new behind
  resolves_next left behind found new kind one so_far is resolved pushed =
      let rest = resolved_kinds m scope names asked behind in
      record {
        resolves =
            ap (λ ks. joined ks rest) pushed ∙ joined_next found one rest
            ∙ ap (λ r. joined found (r >>= (λ first. rest >>= (λ later. Ok (first ∷ later))))) (sym resolved)
            ∙ ap (λ ks. joined found (resolved_kinds m scope names asked ks)) (sym is) ∙ so_far.resolves;
      }
