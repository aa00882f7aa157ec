use Rattle.std.proofs.Common.{refl}
use Rattle.ide_ssr.proofs.Showing.{made_more}
use Rattle.ide_ssr.proofs.nesting.Nesting.make.Goals as goal

pub returns : goal.returns
returns c =
    made_more c.args.self.now.rules.now c.args.self.now.kept.now c.args.self.now.lists.now c.args.place c.requires.place
    c.args.made.now.items c.nested.new.made.items _ c.in_ok-m.m c.requires.made c.in_ok-m.ensures.shown c.in_ok-m.ensures.others c.in_ok-m.ensures.counted refl
