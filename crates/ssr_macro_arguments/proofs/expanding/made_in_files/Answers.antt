use Rattle.std.proofs.Common.{length, refl, arith}
use Rattle.std.proofs.lemmas.Option.{slice_get_read}
use Rattle.ssr_macro_arguments.proofs.expanding.made_in_files.Goals as goal

pub loop-file-preserved : goal.loop-file-preserved
loop-file-preserved c = record {
  made =
      c.in_ok-add_file.ensures.made c.args.files.now
      (slice_get_read c.args.files.now (length c.args.files.now) c.loop-file.file c.index-files-file.result refl (omega arith) c.index-files-file.is)
      c.loop-file.invariant.made;
  few = c.in_ok-add_file.ensures.few;
}
