use Rattle.std.proofs.Common.{◌≤◌, [], map, string_bytes, length, sym, arith}
use Rattle.std.proofs.lemmas.Bool.Decides.{nat_tests}
use Rattle.std.proofs.lemmas.List.{get_or_past, length-map}
use Rattle.ide_ssr.proofs.parts.name_at.Goals as goal

pub returns-in-None : goal.returns-in-None
returns-in-None c =
    let past : length c.args.names.now ≤ c.args.place = grind (arith, nat_tests) in
    sym (get_or_past (map string_bytes c.args.names.now) c.args.place [] (omega (arith, length-map c.args.names.now string_bytes)))
