use Rattle.std.proofs.Common.{rules}
use Rattle.ssr_syntax_forms.proofs.Shared.{run_repeated_by}
use Rattle.ssr_syntax_items.specs.Items.{macro_items}
use Rattle.ssr_syntax_items.proofs.items.macro_items.Goals as goal

pub returns : goal.returns
unfolding macro_items
returns g c = search (rules, run_repeated_by) steps 3000000
