use Rattle.std.proofs.Common.{Some, sym, ap, ◌∙◌}
use Rattle.std.specs.Option.{option_map}
use Rattle.ssr_names_items.specs.Names.{bare}
use Rattle.ssr_names.proofs.Naming.{not_alone, alone}
use Rattle.ssr_names.proofs.places.lone_name.Goals as goal

pub returns-then-not-is_alone : goal.returns-then-not-is_alone
returns-then-not-is_alone c = not_alone c.args.tree.now c.args.path.0 (sym c.is_alone.ensures ∙ c.if-not-is_alone.true)

pub returns-in_err-text : goal.returns-in_err-text
returns-in_err-text c =
    ap (option_map (λ name. name.now)) c.from_residual.ensures ∙ ap (option_map bare) c.in_err-text.ensures
    ∙ alone c.args.tree.now c.args.path.0 (sym c.is_alone.ensures ∙ c.if-not-is_alone.false)

pub returns : goal.returns
returns c =
    ap Some c.bare.ensures ∙ ap (option_map bare) c.in_ok-text.ensures
    ∙ alone c.args.tree.now c.args.path.0 (sym c.is_alone.ensures ∙ c.if-not-is_alone.false)
