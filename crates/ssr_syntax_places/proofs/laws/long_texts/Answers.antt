use Rattle.ssr_syntax_places.proofs.FilledDepth.{long_depth}
use Rattle.ssr_syntax_places.proofs.LongNodes.{read_nodes}
use Rattle.ssr_syntax_places.proofs.LongReading.{long_whole, long_read}
use Rattle.ssr_syntax_places.proofs.NamedParts.{named_paired}
use Rattle.ssr_syntax_places.proofs.laws.long_texts.Goals as goal

pub returns : goal.returns
returns c = record { paired = named_paired; fits = long_whole; read = long_read; depth = long_depth; nodes = read_nodes }
