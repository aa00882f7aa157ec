use Rattle.std.proofs.Common.{◌≡◌, true, false, Some, None, [], map, option_map, ap, sym, ◌∙◌, rules}
use Rattle.ssr_package.specs.Paths as spec
use Rattle.ssr_package.proofs.PathLaws.{normal_at, walked_none}
use Rattle.ssr_package.proofs.paths.normal_path.Goals as goal

pub returns-then-not-in_folder : goal.returns-then-not-in_folder
returns-then-not-in_folder c =
    let relative : spec.is_absolute c.args.path.now ≡ false = search rules in
    let start : spec.texts c.new-parts.result ≡ [] = ap (map (λ part. part.now)) c.new-parts.ensures.items in
    let outside : c.in_ok-in_folder.in_folder ≡ false = search rules in
    let out = rw (start, outside) at c.in_ok-in_folder.ensures in
    sym (normal_at c.args.folder.now c.args.path.now None relative out ∙ ap (option_map spec.joined) (walked_none (spec.parts c.args.path.now)))

pub returns-then-not-is_inside : goal.returns-then-not-is_inside
returns-then-not-is_inside c =
    let relative : spec.is_absolute c.args.path.now ≡ false = search rules in
    let start : spec.texts c.new-parts.result ≡ [] = ap (map (λ part. part.now)) c.new-parts.ensures.items in
    let inside : c.in_ok-in_folder.in_folder ≡ true = search rules in
    let middle = rw (start, inside) at c.in_ok-in_folder.ensures in
    let outside : c.in_ok-is_inside.is_inside ≡ false = search rules in
    let out = rw outside at c.in_ok-is_inside.ensures in
    sym (normal_at c.args.folder.now c.args.path.now _ relative middle ∙ ap (option_map spec.joined) out)

pub returns : goal.returns
returns c =
    let relative : spec.is_absolute c.args.path.now ≡ false = search rules in
    let start : spec.texts c.new-parts.result ≡ [] = ap (map (λ part. part.now)) c.new-parts.ensures.items in
    let inside : c.in_ok-in_folder.in_folder ≡ true = search rules in
    let middle = rw (start, inside) at c.in_ok-in_folder.ensures in
    let within : c.in_ok-is_inside.is_inside ≡ true = search rules in
    let end = rw within at c.in_ok-is_inside.ensures in
    ap Some c.in_ok-found.ensures ∙ sym (normal_at c.args.folder.now c.args.path.now _ relative middle ∙ ap (option_map spec.joined) end)
