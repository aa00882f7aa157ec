use native.Mathlib.Omega.{arith}
use Rattle.std.proofs.Common.{rules, ◌≡◌, ◌++◌, ◌∙◌, sym, ap, true, List, ℕ, flat_map, codes, string_bytes, map-id}
use Rattle.std.specs.List.{list_any}
use Rattle.std.specs.Str.{chars}
use Rattle.std.proofs.lemmas.Iterator.{YieldsList-from_chars}
use Rattle.std.proofs.lemmas.Iterator.Consumers.{YieldsList-end}
use Rattle.ssr_diff.specs.Names.{is_escaped, escape, quoted}
use Rattle.ssr_diff.proofs.names.quoted.Goals as goal

between_marks : (name text escaped : List ℕ) → list_any is_escaped (chars name) ≡ true → text ≡ codes "\"" ++ escaped
    → escaped ≡ flat_map escape (chars name) → text ++ codes "\"" ≡ quoted name
between_marks name text escaped has is all =
    grind arith

pub returns : goal.returns
returns c =
    let name = c.args.name.now in
    let end = YieldsList-end (YieldsList-from_chars name c.utf8.name cc) c.loop-c.yielded _ c.loop-c.yielded_by _ _ c.in-None.is c.next.ensures.steps in
    let has : list_any is_escaped (chars name) ≡ true = search rules in
    c.in_ok-push_str.ensures.bytes
    ∙ between_marks name (string_bytes c.loop-c.text) (flat_map escape c.loop-c.yielded) has c.loop-c.invariant
    (ap (flat_map escape) (sym (map-id c.loop-c.yielded) ∙ end.0))
