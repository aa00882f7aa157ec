use Rattle.std.proofs.Common.{◌≡◌, rules, true, false, cond, List, filter, ap, ◌∙◌}
use Rattle.std.proofs.lemmas.Fn.{filter_same}
use Rattle.std.specs.List.{list_any}
use Rattle.ide_ssr_rules.specs.declared.kinds.ParsedRule.{ParsedRule}
use Rattle.ide_ssr_rules.specs.Kinds.{has_path, prefer_paths}
use Rattle.ide_ssr_rules.proofs.kinds.prefer_paths.Goals as goal

nothing_dropped : (kinds seen : List ParsedRule) → seen ≡ kinds → false ≡ list_any (λ kind. has_path kind.pattern) seen → kinds ≡ prefer_paths kinds
nothing_dropped kinds seen same none =
    ap (λ b. cond b (filter (λ (kind : ParsedRule). has_path kind.pattern) kinds) kinds)
    (none ∙ ap (list_any (λ kind. has_path kind.pattern)) same)

others_dropped : (kinds seen kept : List ParsedRule) → seen ≡ kinds → true ≡ list_any (λ kind. has_path kind.pattern) seen
    → kept ≡ filter (λ kind. has_path kind.pattern) kinds → kept ≡ prefer_paths kinds
others_dropped kinds seen kept same some are =
    are
    ∙ ap (λ b. cond b (filter (λ (kind : ParsedRule). has_path kind.pattern) kinds) kinds)
    (some ∙ ap (list_any (λ kind. has_path kind.pattern)) same)

pub returns-then-not-some_path : goal.returns-then-not-some_path
returns-then-not-some_path c = nothing_dropped _ _ c.as_slice.ensures.value c.if-not-some_path.ensures

pub returns : goal.returns
returns c =
    others_dropped _ _ _ c.as_slice.ensures.value c.if-not-some_path.ensures
    (filter_same _ _ _ (λ x b f' k. search rules steps 130000) _ _ c.retain.ensures.filtered)
