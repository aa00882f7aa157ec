-- What a finder of one rule searches for.
use Rattle.std.proofs.Common.{ℕ, ◌≡◌, refl, sym, ◌∙◌, ap, subst, List, [], ◌++◌, Ok}
use Rattle.ssr_base_trees.specs.declared.ids.FilePosition.{FilePosition}
use Rattle.ssr_base_trees.specs.declared.ids.FileRange.{FileRange}
use Rattle.ssr_base_trees.specs.Meanings.{Meanings}
use Rattle.ssr_base_trees.specs.Workspace.{Workspace}
use Rattle.ide_ssr_resolved_rule.specs.Resolved.{ResolvedRule}
use Rattle.ide_ssr_rules.specs.Resolved.{resolved_kinds}
use Rattle.ide_ssr_rules.specs.Rules.{Rule, rule_reading}
use Rattle.ide_ssr_search.specs.Context.{Context}
use Rattle.ide_ssr_search.specs.Making.{IsContext}
use Rattle.ide_ssr.specs.Adding.{Adds}
use Rattle.ide_ssr.specs.Finder.{FinderWith, finder_of}
use Rattle.ssr_uses.specs.Rewriting.{Searches}

module _ {S : Type 0} (meanings : S → Meanings) (w : Workspace) (s : S) where
  -- to a finder without rules the kinds of one rule are added
  pub searches_one : (position : FilePosition) (ranges : List FileRange) (text : List ℕ) (rule : Rule) (context : Context) (before after : FinderWith S)
      → IsContext w (meanings s) position ranges context → before ≡ record { workspace = w; semantics = s; context = context; rules = [] }
      → rule_reading text ≡ Ok rule
      → Adds before after (resolved_kinds (meanings before.semantics) before.context.scope rule.names rule.constraints rule.kinds) (Ok tt)
      → Searches w (meanings s) position ranges text (finder_of meanings after)
  searches_one position ranges text rule context before after at is read added =
      let kinds = added.0 in
      let whole : after ≡ record { workspace = w; semantics = s; context = context; rules = kinds } =
      added.2 ∙ ap (λ (f : FinderWith S). record f { rules = f.rules ++ kinds }) is in
      let Resolves : FinderWith S → Type 0 =
      λ f. resolved_kinds (meanings f.semantics) f.context.scope rule.names rule.constraints rule.kinds ≡ Ok kinds in
      let IsSearch : FinderWith S → Type 0 = λ f. Searches w (meanings s) position ranges text (finder_of meanings f) in
      subst IsSearch (sym whole) (record {
        workspace = refl;
        meanings = refl;
        context = at;
        rules = record { rule = rule; is_read = read; resolves = subst Resolves is added.1 };
      })
