use Rattle.std.proofs.Common.{◌≡◌, [], refl, sym, ap, subst}
use Rattle.ssr_names.specs.declared.space.Space.{Space}
use Rattle.ssr_names.specs.Declarations.{HasMembers, IsOfTable}
use Rattle.ssr_names.proofs.Binding.{on_ok}
use Rattle.ssr_names.proofs.reading.settle_all.Goals as goal

pub followed_aliases-requires : goal.followed_aliases-requires
followed_aliases-requires c = c.in_ok-aliases.ensures

pub with_inherent-requires-clause-of_table : goal.with_inherent-requires-clause-of_table
with_inherent-requires-clause-of_table c = subst IsOfTable (sym c.in_ok-settle.ensures.answered) c.requires.of_table

pub with_inherent-requires-clause-members : goal.with_inherent-requires-clause-members
with_inherent-requires-clause-members c = subst HasMembers (sym c.in_ok-settle.ensures.answered) c.requires.members

pub returns-clause-table : goal.returns-clause-table
returns-clause-table c = on_ok c.by_nodes.result _ (ap (λ (s : Space). s.table) c.in_ok-settle.ensures.answered)

pub returns-clause-ready : goal.returns-clause-ready
returns-clause-ready c =
    let answered = sym c.in_ok-settle.ensures.answered in
    on_ok c.by_nodes.result _ (record {
      of_table = subst IsOfTable answered c.requires.of_table;
      members = c.in_ok-members.ensures;
      aliases = c.in_ok-followed.ensures;
      first = c.settle.new.space;
      first_of_table = subst IsOfTable answered c.requires.of_table;
      first_members = subst HasMembers answered c.requires.members;
      first_aliases = subst (λ (s : Space). s.aliases.items ≡ []) answered c.requires.aliases;
      later = (refl, refl, refl, refl, refl, refl);
      settled = c.in_ok-settle.ensures.settled;
    })
