use Rattle.std.proofs.Common.{◌≡◌, sym, subst}
use Rattle.ssr_names.specs.declared.definitions.Definition.{Definition}
use Rattle.ssr_names.specs.Lookup.{IsUnaliased, no_alias, by_alias}
use Rattle.ssr_names.proofs.space.Space.unaliased.Goals as goal

pub returns-in-Some : goal.returns-in-Some
returns-in-Some c = λ d is.
    subst (λ (x : Definition). IsUnaliased c.args.self.now x d) (sym c.in-Item.is) (by_alias c.in-Item.item d (c.aliased.ensures d is))

pub returns-in_default-item : goal.returns-in_default-item
returns-in_default-item c = λ d is.
    let same : c.args.definition ≡ d = cc in subst (IsUnaliased c.args.self.now c.args.definition) same (no_alias c.args.definition)

pub returns-in_default-item-2 : goal.returns-in_default-item-2
returns-in_default-item-2 c = λ d is.
    let same : c.args.definition ≡ d = cc in subst (IsUnaliased c.args.self.now c.args.definition) same (no_alias c.args.definition)

pub returns-in_default-item-3 : goal.returns-in_default-item-3
returns-in_default-item-3 c = λ d is.
    let same : c.args.definition ≡ d = cc in subst (IsUnaliased c.args.self.now c.args.definition) same (no_alias c.args.definition)

pub returns-in_default : goal.returns-in_default
returns-in_default c = λ d is.
    let same : c.args.definition ≡ d = cc in subst (IsUnaliased c.args.self.now c.args.definition) same (no_alias c.args.definition)
