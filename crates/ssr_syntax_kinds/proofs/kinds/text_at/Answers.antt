use Rattle.std.proofs.Common.{ap, ◌∙◌}
use Rattle.std.specs.Option.{option_map}
use Rattle.std.proofs.lemmas.Option.{slice_get-map, slice_get-get_or}
use Rattle.ssr_syntax_kinds.proofs.kinds.text_at.Goals as goal

pub returns : goal.returns
returns c =
    slice_get-map (λ text. text.now) c.args.texts.now c.args.place ∙ ap (option_map (λ text. text.now)) (slice_get-get_or c.args.texts.now c.args.place _ c.requires)
