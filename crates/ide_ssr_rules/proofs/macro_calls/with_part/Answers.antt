use Rattle.std.proofs.Common.{sym}
use Rattle.ssr_syntax_tree.specs.Places.{part_of}
use Rattle.ide_ssr_rules.proofs.CalledNames.{other_also, named_also}
use Rattle.ide_ssr_rules.proofs.macro_calls.with_part.Goals as goal

pub returns-in_ok-with-in-Some-stand_in_name : goal.returns-in_ok-with-in-Some-stand_in_name
returns-in_ok-with-in-Some-stand_in_name c =
    named_also c.args.names (part_of c.args.tree.now c.args.part) c.in_ok-with-in-Some-stand_in_name.field-0 c.in-Some.text.now c.in-Some-stand_in_name.name.now
    (sym c.in-Some.ensures) c.in-Some-stand_in_name.ensures c.in_ok-with-in-Some-stand_in_name.ensures

pub returns-in-None : goal.returns-in-None
returns-in-None c =
    other_also c.args.names (part_of c.args.tree.now c.args.part) c.in-Some.text.now (sym c.in-Some.ensures) c.in-None.ensures
