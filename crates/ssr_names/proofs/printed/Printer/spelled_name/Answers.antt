use Rattle.std.proofs.Common.{◌≡◌, Some, List, ℕ, ap, sym, subst, ◌∙◌}
use Rattle.ssr_names_items.specs.Names.{bare, number_of}
use Rattle.ssr_names.specs.Printed.{is_path_word}
use Rattle.ssr_names.proofs.printed.Printer.spelled_name.Goals as goal

pub returns : goal.returns
returns c =
    let numbers = c.args.self.now.space.now.table.now.names in
    record {
      read =
          subst (λ (text : List ℕ). number_of numbers text ≡ Some c.args.name) c.as_str-else-is_path_word.ensures.value
          (c.is_read_as.ensures c.if-not-is_read_as.false);
      plain =
          ap (λ (text : List ℕ). is_path_word (bare text)) (sym c.as_str.ensures.value) ∙ ap is_path_word (sym c.bare.ensures) ∙ sym c.is_path_word.ensures
          ∙ c.if-is_path_word.false;
    }
