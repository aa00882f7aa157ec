-- What a search answers is what it comes to.
use Rattle.std.proofs.Common.{◌≡◌, ℕ, List, ◌++◌, Result, Ok, Err, refl, ap, subst, sym, ◌∙◌}
use Rattle.ide_ssr_refusals.specs.declared.error.SsrError.{SsrError}
use Rattle.ide_ssr_refusals.specs.declared.error.SsrError.TheVariants as ssr
use Rattle.ide_ssr_refusals.specs.declared.refusals.Refusal.{Refusal}
use Rattle.ide_ssr_refusals.specs.Refusals.{TellsOf}
use Rattle.ide_ssr_resolved_rule.specs.Resolved.{ResolvedRule}
use Rattle.ssr_base_trees.specs.declared.ids.FilePosition.{FilePosition}
use Rattle.ssr_base_trees.specs.declared.ids.FileRange.{FileRange}
use Rattle.ssr_base_trees.specs.Meanings.{Meanings}
use Rattle.ssr_base_trees.specs.Workspace.{Workspace}
use Rattle.ide_ssr.specs.Adding.{Adds}
use Rattle.ide_ssr.specs.Edits.{HaveTemplates}
use Rattle.ide_ssr.specs.Finder.{Finder, FinderWith, finder_of}
use Rattle.ide_ssr.specs.Making.{MakesFinder}
use Rattle.ssr_searching.specs.Searching.{Reading, Search, ReachesBy, MakesFor, IsFinder, ComesToBy, refuses, no_finder, no_rules, rules_reading}
use Rattle.ssr_searching.specs.Private.Searching.{search_error}
use Rattle.ssr_searching.proofs.Replacing.{HasTemplates, all_replace}

-- rules that are added have templates
pub finder_replaces : (read : Reading) → HasTemplates read → (s : Search) (rules : List (List ℕ)) (finder : Finder) → IsFinder read s rules finder → HaveTemplates finder.rules
finder_replaces read has s rules finder is = all_replace read has s.meanings finder.context.scope rules finder.rules is.kinds

module _ {S : Type 0} (told_by : S → Meanings) (w : Workspace) (semantics : S) (position : FilePosition) (ranges : List FileRange) (read : Reading) (rules : List (List ℕ)) where
  abbrev s : Search
  s = record { workspace = w; meanings = told_by semantics; position = position; ranges = ranges }

  pub without_finder : (error : SsrError) → MakesFinder w semantics (MakesFor s) (Err error) → ReachesBy read s rules (Err (search_error error))
  without_finder ssr.Memory made = tt
  without_finder (ssr.Message message) (why, made, told) =
      let P : List ℕ → Type 0 = λ words. ComesToBy read s rules (refuses words) in subst P (sym told.1) (no_finder why told.0 made)

  module _ (made : FinderWith S) (is : MakesFinder w semantics (MakesFor s) (Ok made)) where
    abbrev due : Result (List ResolvedRule) Refusal
    due = rules_reading read s.meanings is.0.scope rules

    due_is : rules_reading read (told_by made.semantics) made.context.scope rules ≡ due
    due_is = ap (λ (f : FinderWith S). rules_reading read (told_by f.semantics) f.context.scope rules) is.2

    refused : (error : SsrError) (reading : Result (List ResolvedRule) Refusal) → due ≡ reading → TellsOf error reading → ReachesBy read s rules (Err (search_error error))
    refused ssr.Memory reading same told = tt
    refused (ssr.Message message) (Ok kinds) same told = elim told [ ]
    refused (ssr.Message message) (Err why) same told =
        let P : List ℕ → Type 0 = λ words. ComesToBy read s rules (refuses words) in subst P (sym told) (no_rules is.0 why is.1 same)

    pub without_rules : (error : SsrError) → TellsOf error (rules_reading read (told_by made.semantics) made.context.scope rules)
        → ReachesBy read s rules (Err (search_error error))
    without_rules error told = refused error due refl (subst (TellsOf error) due_is told)

    pub finder_is : (finder : FinderWith S) → Adds made finder (rules_reading read (told_by made.semantics) made.context.scope rules) (Ok tt)
        → IsFinder read s rules (finder_of told_by finder)
    finder_is finder (kinds, known, added) =
        let all : finder ≡ record { workspace = w; semantics = semantics; context = is.0; rules = kinds } =
        added ∙ ap (λ (f : FinderWith S). record f { rules = f.rules ++ kinds }) is.2 in
        subst (λ (f : FinderWith S). IsFinder read s rules (finder_of told_by f)) (sym all) (record { workspace = refl; meanings = refl; context = is.1; kinds = sym due_is ∙ known })
