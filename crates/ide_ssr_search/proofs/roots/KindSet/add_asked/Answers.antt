use Rattle.std.proofs.Common.{◌≡◌, true, inl, inr, sym, subst}
use Rattle.ide_ssr_search.specs.Private.Roots.{has_kind}
use Rattle.ide_ssr_search.proofs.Asked.{asked_call, asked_kind}
use Rattle.ide_ssr_search.proofs.roots.KindSet.add_asked.Goals as goal

pub returns-in-Call-clause-added : goal.returns-in-Call-clause-added
returns-in-Call-clause-added c = λ node asked.
    elim (asked_call c.args.root c.in-Call.kind node c.in-Call.is asked) [
      | inl own ↦ subst (λ kind. has_kind c.add-in-Call.new.self kind ≡ true) (sym own) (c.add-in-Call.ensures.kept c.in-Call.kind c.add.ensures.added)
      | inr method ↦ subst (λ kind. has_kind c.add-in-Call.new.self kind ≡ true) (sym method) c.add-in-Call.ensures.added
    ]

pub returns-in-Call-clause-kept : goal.returns-in-Call-clause-kept
returns-in-Call-clause-kept c = λ kind has. c.add-in-Call.ensures.kept kind (c.add.ensures.kept kind has)

pub returns-in-Node-clause-added : goal.returns-in-Node-clause-added
returns-in-Node-clause-added c = λ node asked.
    subst (λ kind. has_kind c.add-in-Node.new.self kind ≡ true) (sym (asked_kind c.args.root c.in-Node.kind c.in-Node.field-1 node c.in-Node.is asked)) c.add-in-Node.ensures.added
