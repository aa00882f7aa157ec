use Rattle.std.proofs.Common.{◌≡◌, ℕ, Contains, sym, ap, ◌∙◌, subst}
use Rattle.ssr_syntax_tree.proofs.Lists.{contains_at}
use Rattle.ssr_names_items.specs.declared.table.ItemNo.{ItemNo}
use Rattle.ssr_names.specs.declared.definitions.Meaning.{Meaning}
use Rattle.ssr_names.specs.declared.space.Alias.{Alias}
use Rattle.ssr_names.proofs.space.Space.aliased.Goals as goal

abbrev alias_of : ItemNo → Meaning → Alias
alias_of i m = record { item = i; meaning = m }

same_alias : (a : Alias) (i : ItemNo) (m : Meaning) → a.item.0 ≡ i.0 → a.meaning ≡ m → a ≡ alias_of i m
same_alias a i m e f = ap (λ (n : ℕ). alias_of (record { 0 = n }) a.meaning) e ∙ ap (alias_of i) f

pub returns-in-Some : goal.returns-in-Some
returns-in-Some c = λ d is.
    let all = c.args.self.now.aliases.items in
    subst (λ (a : Alias). Contains all a) (same_alias c.in-Some.alias c.args.item _ c.if-alias-item.true is) (contains_at all _ c.in-Some.alias (sym c.in-Some.ensures))
