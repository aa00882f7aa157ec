use Rattle.std.proofs.Common.{◌≡◌, [], ◌∷◌, ◌++◌, string_bytes, ap, sym, ◌∙◌, rules}
use Rattle.ssr_package.proofs.CrateNames.{underscored_once, one_part}
use Rattle.ssr_package.proofs.crates.crate_name.Goals as goal

pub loop-part-preserved : goal.loop-part-preserved
loop-part-preserved c =
    let l = c.loop-part in
    let cut = rw c.in-Some.is at (underscored_once l.rest.now c.split_once.result c.split_once.ensures.cases) in
    let written : string_bytes c.push.new.self ≡ (string_bytes l.name ++ c.in-Some.part.now) ++ 95 ∷ [] = search rules in
    (search rules, one_part (string_bytes l.name) c.in-Some.part.now c.in-Some.after.now l.rest.now c.args.target.now (string_bytes c.push.new.self) cut written l.invariant.1)

pub returns : goal.returns
returns c =
    let l = c.loop-part in
    let last = rw c.in_default.is at (underscored_once l.rest.now c.split_once.result c.split_once.ensures.cases) in
    let written : string_bytes c.push_str-2.new.self ≡ string_bytes l.name ++ l.rest.now = search rules in
    written ∙ (ap (λ rest. string_bytes l.name ++ rest) (sym last) ∙ l.invariant.1)
