use Rattle.std.proofs.Common.{◌≡◌, ◌∙◌, List, [], ◌∷◌, ℕ, Vec, String, ap, map, sym}
use Rattle.std.specs.Global.{Global}
use Rattle.std.proofs.lemmas.Result.{IfOk-weaker}
use Rattle.ssr_syntax_kinds.specs.declared.range.TextRange.{TextRange}
use Rattle.ssr_syntax_kinds.specs.declared.reach.Reach.{Reach}
use Rattle.ssr_base_trees.specs.Applied.{changes_of}
use Rattle.ssr_base_trees.specs.Changes.{Change}
use Rattle.ssr_standing.specs.Parts.{expression_of, stands_between}
use Rattle.ide_ssr_rewriting.specs.Fitting.{fitted_alone, fitted_between, is_alone}
use Rattle.ide_ssr_rewriting.proofs.Fittings.{alone_fitted, each_fitted, standing_fitted, unread_fitted}
use Rattle.ide_ssr_rewriting.proofs.fitting.fitted.Goals as goal

pub returns-then-is_alone : goal.returns-then-is_alone
returns-then-is_alone c =
    let reach : Reach = c.args.reach in
    let front : List ℕ = c.args.front.now in
    let text : List ℕ = c.args.text.now in
    let from : ℕ = c.args.range.start in
    let to : ℕ = c.args.range.end in
    sym
    (alone_fitted reach front text from to (changes_of c.args.changes.items)
    (ap (λ (ps : List (TextRange × String Global)). is_alone front from to (changes_of ps)) (sym c.deref.ensures.value)
    ∙ sym c.is_alone.ensures ∙ c.if-is_alone.true))

pub returns-in_default : goal.returns-in_default
returns-in_default c =
    let reach : Reach = c.args.reach in
    let front : List ℕ = c.args.front.now in
    let text : List ℕ = c.args.text.now in
    let from : ℕ = c.args.range.start in
    let to : ℕ = c.args.range.end in
    sym
    (unread_fitted reach front text from to (changes_of c.args.changes.items)
    (ap (λ (ps : List (TextRange × String Global)). is_alone front from to (changes_of ps)) (sym c.deref.ensures.value)
    ∙ sym c.is_alone.ensures ∙ c.if-is_alone.false)
    (ap (expression_of reach front) (sym c.between-held.ensures) ∙ sym c.in_ok-read.ensures.tree ∙ c.in_default.is))

pub returns-then-branch : goal.returns-then-branch
returns-then-branch c =
    let reach : Reach = c.args.reach in
    let front : List ℕ = c.args.front.now in
    let text : List ℕ = c.args.text.now in
    let from : ℕ = c.args.range.start in
    let to : ℕ = c.args.range.end in
    sym
    (standing_fitted reach front text from to (changes_of c.args.changes.items)
    (ap (λ (ps : List (TextRange × String Global)). is_alone front from to (changes_of ps)) (sym c.deref.ensures.value)
    ∙ sym c.is_alone.ensures ∙ c.if-is_alone.false)
    (ap (λ (ps : List (TextRange × String Global)). stands_between reach front text from to (changes_of ps)) (sym c.deref-2.ensures.value)
    ∙ sym c.in_ok-stands.ensures ∙ c.if-branch.true))

pub returns : goal.returns
returns c =
    let reach : Reach = c.args.reach in
    let front : List ℕ = c.args.front.now in
    let text : List ℕ = c.args.text.now in
    let from : ℕ = c.args.range.start in
    let to : ℕ = c.args.range.end in
    let each : List Change → List Change = map (fitted_alone (λ c. stands_between reach front text from to (c ∷ []))) in
    let made =
    sym
    (each_fitted reach front text from to (changes_of c.args.changes.items)
    (ap (λ (ps : List (TextRange × String Global)). is_alone front from to (changes_of ps)) (sym c.deref.ensures.value)
    ∙ sym c.is_alone.ensures ∙ c.if-is_alone.false)
    (ap (λ (ps : List (TextRange × String Global)). stands_between reach front text from to (changes_of ps)) (sym c.deref-2.ensures.value)
    ∙ sym c.in_ok-stands.ensures ∙ c.if-branch.false)) in
    IfOk-weaker c.each_fitted.result (λ (fitted : Vec (TextRange × String Global) Global). changes_of fitted.items ≡ each (changes_of c.deref-3.result.now))
    (λ (fitted : Vec (TextRange × String Global) Global). changes_of fitted.items ≡ fitted_between reach front text from to (changes_of c.args.changes.items))
    (λ fitted is. is ∙ ap (λ (ps : List (TextRange × String Global)). each (changes_of ps)) c.deref-3.ensures.value ∙ made)
    c.each_fitted.ensures
