use Rattle.ssr_names_items.specs.Names.{KeepsNumbers}
use Rattle.ssr_names.proofs.Binding.{on_ok_too}
use Rattle.ssr_names.proofs.preparing.add_std_names.Goals as goal

pub returns : goal.returns
returns c =
    let last = c.add_second_names.new.names in
    on_ok_too c.add_second_names.result (KeepsNumbers c.add_texts.new.names last) (KeepsNumbers c.args.names.now last)
    (λ keeps text name had.
    keeps text name
    (c.in_ok-add_texts.ensures text name
    (c.in_ok-add_prelude.ensures text name
    (c.in_ok-add-4.ensures.kept text name
    (c.in_ok-add-3.ensures.kept text name (c.in_ok-add-2.ensures.kept text name (c.in_ok-add.ensures.kept text name had)))))))
    c.add_second_names.ensures
