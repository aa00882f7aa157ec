use Rattle.std.proofs.Common.{ℕ, List, codes, sym, ◌∙◌, subst}
use Rattle.clap.specs.Words.{HasMatchesOf, app_of, first_value, found_of}
use Rattle.cargo_ssr_options.specs.Command.{IsPlaceIn}
use Rattle.cargo_ssr_options.proofs.Together.{all_together, told_so}
use Rattle.cargo_ssr_options.proofs.command.read_options.Goals as goal

pub returns-in-Ok-into_options : goal.returns-in-Ok-into_options
returns-in-Ok-into_options c =
    let matches = c.in_ok-matches.matches in
    let both = all_together c.in_ok-given.field-0 c.in-Ok-into_options.options (sym c.in-Ok-into_options.is ∙ c.into_options.ensures) in
    record {
      command = c.in_ok-command.field-0;
      matches = matches;
      parsed =
          subst (λ (words : List (List ℕ)). HasMatchesOf (app_of c.in_ok-command.field-0) words matches) c.own_words.ensures
          c.in_ok-matches.ensures.matches;
      given = c.in_ok-given.field-0;
      by_name =
          c.in_ok-given.ensures
          (told_so (IsPlaceIn (first_value (found_of matches) (codes "in"))) _ _ c.in-Ok.is c.in_ok-place.ensures)
          (sym c.in-Some.is ∙ c.color_in.ensures);
      together = both.0;
      options_are = both.1;
    }
