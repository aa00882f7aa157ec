use Rattle.std.proofs.Common.{rules}
use Rattle.ssr_syntax_items.specs.Items.{source_file}
use Rattle.ssr_syntax_forms.proofs.Shared.{run_as_long_as, run_repeated_by}
use Rattle.ssr_syntax_items.proofs.items.source_file.Goals as goal

pub returns : goal.returns
unfolding source_file
returns g c = search (rules, run_as_long_as, run_repeated_by)
