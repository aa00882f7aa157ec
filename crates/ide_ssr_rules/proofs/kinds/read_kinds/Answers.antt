use Rattle.std.proofs.Common.{◌≡◌, ℕ, ◌+◌, ◌<◌, List, [], ◌∷◌, ◌++◌, take, get_or, Option, Some, None, refl, sym, ◌∙◌, ap, option_to_list}
use Rattle.std.specs.List.{cons_option, filter_map}
use Rattle.std.specs.Option.{option_copied}
use Rattle.std.proofs.lemmas.List.{take_more}
use Rattle.std.proofs.lemmas.List.Elements.{filter_map-append}
use Rattle.ssr_syntax_kinds.specs.declared.fragment.Fragment.{Fragment}
use Rattle.ide_ssr_rules.specs.declared.kinds.ParsedRule.{ParsedRule}
use Rattle.ide_ssr_rules.specs.Kinds.{kind_in, categories}
use Rattle.ide_ssr_rules.proofs.kinds.read_kinds.Goals as goal

one_given : (o : Option ParsedRule) → cons_option o [] ≡ option_to_list o
one_given None = refl
one_given (Some kind) = refl

next_read : (f : Fragment → Option ParsedRule) (i : ℕ) (d : Fragment) (old new : List ParsedRule) (o : Option ParsedRule) → i < 5
    → o ≡ f (get_or categories i d) → old ≡ filter_map f (take i categories) → new ≡ old ++ option_to_list o
    → new ≡ filter_map f (take (i + 1) categories)
next_read f i d old new o small is so_far pushed =
    pushed ∙ ap (λ ks. ks ++ option_to_list o) so_far
    ∙ ap (λ ks. filter_map f (take i categories) ++ ks) (sym (one_given o) ∙ ap (λ p. cons_option p []) is)
    ∙ sym (filter_map-append f (take i categories) (get_or categories i d ∷ []))
    ∙ ap (filter_map f) (sym (take_more categories i d small))

pub loop-category-preserved : goal.loop-category-preserved
loop-category-preserved c =
    next_read (kind_in c.args.reach c.args.pattern.now (option_copied c.args.template)) _ _ _ _ _ c.loop-category-test.true c.in_ok-kind.ensures
    c.loop-category.invariant c.in_ok-push_some.ensures
