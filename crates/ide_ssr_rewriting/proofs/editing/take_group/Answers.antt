use Rattle.ide_ssr_rewriting.proofs.Groups.{taken_more}
use Rattle.ide_ssr_rewriting.proofs.editing.take_group.Goals as goal

pub loop-rewrite-preserved : goal.loop-rewrite-preserved
loop-rewrite-preserved c =
    let more = taken_more c.args.file.0 c.args.list.now.items c.loop-rewrite.list.items c.pop_of_file.new.list.items c.loop-rewrite.group.items c.push.new.self.items c.in-Some.rewrite
    c.loop-rewrite.invariant.is c.loop-rewrite.invariant.file c.in-Some.ensures.gives c.in-Some.ensures.file c.in_ok-push.ensures.items in
    record { is = more.0; file = more.1 }
