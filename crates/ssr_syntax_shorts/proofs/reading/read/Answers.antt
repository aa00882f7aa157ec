use Rattle.std.proofs.Common.{◌≡◌, ◌<◌, ◌^◌, length, Ok, refl, subst, arith}
use Rattle.std.specs.Str.{IsUtf8}
use Rattle.ssr_syntax_kinds.specs.declared.fragment.Fragment.TheVariants as fragments
use Rattle.ssr_syntax.specs.Reading.{fragment_reading_of, trimmed, trimmed_front}
use Rattle.ssr_syntax_shorts.proofs.LongRead.{all_told, some_left}
use Rattle.ssr_syntax_shorts.proofs.reading.read.Goals as goal

pub returns-in-Ok-clause-read : goal.returns-in-Ok-clause-read
returns-in-Ok-clause-read c =
    let short = c.args.short.now in
    let long = c.args.long.now in
    let text : c.text-2.result.now ≡ short.text = c.text-2.ensures in
    let first : c.text.result.now ≡ short.text = c.text.ensures in
    let utf8 : IsUtf8 short.text = subst IsUtf8 first c.text.utf8 in
    let alone : trimmed short.text ≡ short.text = subst (λ t. trimmed t ≡ t) first (c.if-not-is_alone-2.ensures.alone refl) in
    let long_alone : trimmed long ≡ long = c.if-not-is_alone.ensures.alone refl in
    let front : trimmed_front long ≡ 0 = c.if-not-is_alone.ensures.front refl in
    let some : 0 < length long = some_left (length long) c.if-is_empty.ensures in
    let few : length long < 2 ^ 32 = omega arith in
    let reads : fragment_reading_of c.args.reach fragments.Expr short.text ≡ Ok c.in-Ok.tree =
    subst (λ t. fragment_reading_of c.args.reach fragments.Expr t ≡ Ok c.in-Ok.tree) text c.in-Ok.ensures.answers.0 in
    all_told c.args.reach short long c.in-Ok.tree c.told.result utf8 c.utf8.long alone long_alone front some few reads c.told.ensures.told
    c.told.ensures.tree c.told.ensures.bytes
