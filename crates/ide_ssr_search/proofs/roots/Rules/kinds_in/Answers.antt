use Rattle.std.proofs.Common.{None, ◌≡◌, ◌<◌, false, true, List, length, get_or, Some, sym, subst, inl, inr, arith}
use Rattle.std.specs.Prelude.{slice_get}
use Rattle.std.proofs.lemmas.Bool.{cases_lt, both_ways}
use Rattle.std.proofs.lemmas.Option.{slice_get_within, slice_get-get_or, get_or_from_slice_get}
use Rattle.ssr_syntax_kinds.specs.declared.kinds.SyntaxKind.TheVariants as k
use Rattle.ssr_syntax_tree.specs.Places.{node_of}
use Rattle.ide_ssr_search.specs.declared.roots.Asked.{Asked}
use Rattle.ide_ssr_search.specs.declared.roots.Root.TheVariants as roots
use Rattle.ide_ssr_search.specs.Found.{IsWanted}
use Rattle.ide_ssr_search.specs.Private.Roots.{has_asked}
use Rattle.ide_ssr_search.proofs.roots.Rules.kinds_in.Goals as goal

pub loop-place-preserved : goal.loop-place-preserved
loop-place-preserved c =
    let tree = c.args.tree.now in
    let all = c.args.self.now.asked.items in
    let i = c.loop-place.place in
    let known = c.loop-place.invariant in
    record {
      met = λ place asked less is flag n has met.
          elim (cases_lt place i) [
            | inl early ↦ c.add_asked_in.ensures.kept (node_of tree n).kind (known.met place asked early is flag n has met)
            | inr late ↦
                let same : place ≡ i = omega arith in
                let items = c.deref-asked-items.result.now in
                let at : slice_get items i ≡ Some asked = subst (λ (all : List Asked). slice_get all i ≡ Some asked) (sym c.deref-asked-items.ensures.value) (subst (λ p. slice_get all p ≡ Some asked) same is) in
                c.add_asked_in.ensures.added tree n has c.of_tokens-tokens.ensures
                (subst (λ (a : Asked). has_asked a.root (node_of tree n) ≡ true) (sym (get_or_from_slice_get items i asked _ at)) met)
          ];
      uses = c.add_asked_in.ensures.kept k.USE known.uses;
      calls = c.add_asked_in.ensures.kept k.MACRO_CALL known.calls;
    }

pub loop-place-preserved-then-not-wants : goal.loop-place-preserved-then-not-wants
loop-place-preserved-then-not-wants c =
    let i = c.loop-place.place in
    let known = c.loop-place.invariant in
    record {
      met = λ place asked less is flag n has met.
          elim (cases_lt place i) [
            | inl early ↦ known.met place asked early is flag n has met
            | inr late ↦
                let same : place ≡ i = omega arith in
                absurd (both_ways c.wants.result c.if-not-wants.true (c.wants.ensures.1 (subst (IsWanted c.args.self.now.wanted.now) same flag)))
          ];
      uses = known.uses;
      calls = known.calls;
    }

abbrev nothing_asked : Asked
nothing_asked = record { root = roots.Placeholder; word = None; in_function = false }

pub returns : goal.returns
returns c =
    let rules = c.args.self.now in
    let known = c.loop-place.invariant in
    record {
      matched = λ place rule is flag m t n bindings has matches.
          let within : place < length rules.asked.items = omega (arith, c.requires.counted, slice_get_within rules.rules.now place rule is) in
          let asked = get_or rules.asked.items place nothing_asked in
          let there = slice_get-get_or rules.asked.items place nothing_asked within in
          known.met place asked (omega arith) there flag n has ((c.requires.each place rule asked is there).root m t (node_of c.args.tree.now n) bindings matches);
      uses = known.uses;
      calls = known.calls;
    }
