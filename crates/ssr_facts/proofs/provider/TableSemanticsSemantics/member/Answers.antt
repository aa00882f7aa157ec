use Rattle.std.proofs.Common.{sym, ap, ◌∙◌}
use Rattle.std.specs.Map.{lookup}
use Rattle.ssr_facts_rows.specs.declared.meanings.MemberKey.{MemberKey}
use Rattle.ssr_facts.specs.Tables.{is_member}
use Rattle.ssr_facts.proofs.Keys.{found_member}
use Rattle.ssr_facts.proofs.provider.TableSemanticsSemantics.member.Goals as goal

pub returns : goal.returns
returns c =
    let key : MemberKey = record { scope = c.args.s; adt = c.args.adt; name = c.in_ok-from_str.field-0 } in
    c.copied.ensures ∙ c.get.ensures.value ∙ sym (found_member c.args.self.now.maps.members key)
    ∙ ap (λ name. lookup (is_member c.args.s c.args.adt name) c.args.self.now.maps.members.entries) c.in_ok-from_str.ensures.ok
