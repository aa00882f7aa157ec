use Rattle.std.proofs.Common.{rules}
use Rattle.ssr_facts_rows.proofs.Lists.{all_of_members_view}
use Rattle.ssr_facts_rows.proofs.fields.has_only.Goals as goal

pub returns-in-Some : goal.returns-in-Some
returns-in-Some c = search (rules, all_of_members_view) steps 200000

pub returns-in_default : goal.returns-in_default
returns-in_default c = search (rules, all_of_members_view) steps 200000
