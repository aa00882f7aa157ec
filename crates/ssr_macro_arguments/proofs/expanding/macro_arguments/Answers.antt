use Rattle.std.proofs.Common.{refl}
use Rattle.ssr_macro_arguments.proofs.Tops.{reads_arguments, reads_calls, reads_read}
use Rattle.ssr_macro_arguments.proofs.expanding.macro_arguments.Goals as goal

pub returns-clause-arguments : goal.returns-clause-arguments
returns-clause-arguments c =
    reads_arguments c.args.files.now _ _ c.in_ok-reads.ensures (c.in_ok-add_nested.ensures.made c.args.files.now refl c.in_ok-made.ensures.made)

pub returns-clause-calls : goal.returns-clause-calls
returns-clause-calls c =
    reads_calls c.args.files.now _ _ c.in_ok-reads.ensures (c.in_ok-add_nested.ensures.made c.args.files.now refl c.in_ok-made.ensures.made)

pub returns-clause-read : goal.returns-clause-read
returns-clause-read c =
    reads_read c.args.files.now _ _ c.in_ok-reads.ensures (c.in_ok-add_nested.ensures.made c.args.files.now refl c.in_ok-made.ensures.made)
