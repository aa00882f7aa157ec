use Rattle.ssr_syntax_places.proofs.Behind.{forest_behind}
use Rattle.ssr_syntax_places.proofs.LikeForests.{forest_size}
use Rattle.ssr_syntax_places.proofs.PlainCore.{tree_core}
use Rattle.ssr_syntax_places.proofs.ReadAlone.{read_alone}
use Rattle.ssr_syntax_places.proofs.Reading.{fragment_told}
use Rattle.ssr_syntax_places.proofs.laws.readings.Goals as goal

pub returns : goal.returns
returns c = record { behind = forest_behind; told = fragment_told; core = tree_core; counted = forest_size; alone = read_alone }
