use Rattle.std.proofs.Common.{sym, ap, ◌∙◌}
use Rattle.std.specs.Map.{lookup}
use Rattle.ssr_facts_rows.specs.declared.meanings.NameKey.{NameKey}
use Rattle.ssr_facts.specs.Tables.{is_name}
use Rattle.ssr_facts.proofs.Keys.{found_name}
use Rattle.ssr_facts.proofs.provider.TableSemanticsSemantics.lookup.Goals as goal

pub returns : goal.returns
returns c =
    let key : NameKey = record { scope = c.args.s; path = c.in_ok-copied.field-0 } in
    c.copied-2.ensures ∙ c.get.ensures.value ∙ sym (found_name c.args.self.now.maps.names key)
    ∙ ap (λ path. lookup (is_name c.args.s path) c.args.self.now.maps.names.entries) c.in_ok-copied.ensures
