use Rattle.std.proofs.Common.{◌∙◌, sym}
use Rattle.ide_ssr_rewriting.proofs.NoPrefix.{no_prefix}
use Rattle.ide_ssr_rewriting.proofs.writer.Writer.prefix.Goals as goal

pub returns-then-not-has_prefix : goal.returns-then-not-has_prefix
returns-then-not-has_prefix g c = c.new.ensures.bytes ∙ sym (no_prefix c.args.self.now.rules.now c.args.rule c.args.binding (c.has_prefix.ensures c.if-not-has_prefix.true))
