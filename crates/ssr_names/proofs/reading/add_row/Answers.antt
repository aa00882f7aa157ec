use Rattle.std.proofs.Common.{sym, subst}
use Rattle.std.proofs.lemmas.Result.{IfOk-weaker, on_ok_weaker}
use Rattle.ssr_names.specs.Private.Locals.{HasNoLocal}
use Rattle.ssr_names.specs.Private.Rows.{AreKnown}
use Rattle.ssr_names.proofs.Binding.{on_ok, one_row, not_bound}
use Rattle.ssr_names.proofs.Telling.{known_more}
use Rattle.ssr_names.proofs.reading.add_row.Goals as goal

pub returns-in_default-clause-local : goal.returns-in_default-clause-local
returns-in_default-clause-local c = λ ts right all.
    on_ok c.add_undecided.result (HasNoLocal ts c.add_undecided.new.rows.known.entries)
    (subst (λ known. HasNoLocal ts known.entries) (sym c.add_undecided.ensures) all)

pub returns-clause-local : goal.returns-clause-local
returns-clause-local c = λ ts right all.
    IfOk-weaker c.add_known.result _ _
    (λ _ is. one_row ts c.args.rows.now.known.entries c.add_known.new.rows.known.entries c.args.row.node _ is (not_bound ts c.args.row c.in-Some.definition c.in-Some.ensures.unknown right) all)
    c.add_known.ensures.entries

pub returns-in_default-number-clause-local : goal.returns-in_default-number-clause-local
returns-in_default-number-clause-local c = λ ts right all.
    on_ok c.add_doubtful.result (HasNoLocal ts c.add_doubtful.new.rows.known.entries)
    (subst (λ known. HasNoLocal ts known.entries) (sym c.add_doubtful.ensures) all)

pub returns-in_default-clause-told : goal.returns-in_default-clause-told
returns-in_default-clause-told c = λ stranger scopes ts tells all.
    let are = AreKnown c.args.space.now stranger scopes ts c.args.wanted.now.definitions.items in
    on_ok c.add_undecided.result (are c.add_undecided.new.rows.known) (subst are (sym c.add_undecided.ensures) all)

pub returns-in_default-number-clause-told : goal.returns-in_default-number-clause-told
returns-in_default-number-clause-told c = λ stranger scopes ts tells all.
    let are = AreKnown c.args.space.now stranger scopes ts c.args.wanted.now.definitions.items in
    on_ok c.add_doubtful.result (are c.add_doubtful.new.rows.known) (subst are (sym c.add_doubtful.ensures) all)

pub returns-clause-told : goal.returns-clause-told
returns-clause-told c = λ stranger scopes ts tells all.
    on_ok_weaker c.add_known.result
    (λ added. known_more c.args.space.now stranger scopes ts c.args.wanted.now.definitions.items c.args.rows.now.known c.add_known.new.rows.known c.args.row
    c.in-Some.definition c.in-Some-number.number c.in-Some.ensures.known c.in-Some-number.ensures tells added all)
    c.add_known.ensures.known
