-- Texts that are added one after the other.
use Rattle.std.proofs.Common.{◌≡◌, ℕ, ◌+◌, ◌<◌, List, [], ◌∷◌, ◌++◌, Result, Ok, Err, length, take, get_or, refl, ap, subst, sym, ◌∙◌, append_assoc, append-nil, add-zero, arith}
use Rattle.std.specs.Prelude.{replicate}
use Rattle.std.proofs.lemmas.List.{length-take-le, take_more}
use Rattle.ssr_base_trees.specs.declared.ids.ScopeId.{ScopeId}
use Rattle.ssr_base_trees.specs.Meanings.{Meanings}
use Rattle.ide_ssr_refusals.specs.declared.refusals.Refusal.{Refusal}
use Rattle.ide_ssr_resolved_rule.specs.Resolved.{ResolvedRule}
use Rattle.ide_ssr_rules.specs.Rules.{Rule}
use Rattle.ide_ssr.specs.Adding.{Adds}
use Rattle.ide_ssr.specs.Finder.{Finder, FinderWith, finder_of}
use Rattle.ide_ssr.specs.Making.{MakesFinder}
use Rattle.ssr_base_trees.specs.declared.ids.FilePosition.{FilePosition}
use Rattle.ssr_base_trees.specs.declared.ids.FileRange.{FileRange}
use Rattle.ssr_base_trees.specs.Workspace.{Workspace}
use Rattle.ssr_searching.specs.Searching.{MakesFor, Search, both}
use Rattle.ssr_changes.specs.declared.finding.Form.{Form}
use Rattle.ssr_changes.specs.Finding.{IsFinderFor, all_kinds, count_of, kinds_of, owners_from, owners_of, reading_of}
use Rattle.ssr_changes.specs.Private.Finding.{AddsTexts}

abbrev Read : Type 0
Read = Result (List ResolvedRule) Refusal

both-assoc : (a b c : Read) → both a (both b c) ≡ both (both a b) c
both-assoc (Err e) b c = refl
both-assoc (Ok a) (Err e) c = refl
both-assoc (Ok a) (Ok b) (Err e) = refl
both-assoc (Ok a) (Ok b) (Ok c) = ap Ok (sym (append_assoc a b c))

both-nil : (a : Read) → both a (Ok []) ≡ a
both-nil (Err e) = refl
both-nil (Ok a) = ap Ok (append-nil a)

nil-both : (a : Read) → both (Ok []) a ≡ a
nil-both (Err e) = refl
nil-both (Ok a) = refl

module _ (read : List ℕ → Result Rule Refusal) where
  kinds-append : (meanings : Meanings) (scope : ScopeId) (xs ys : List (List ℕ))
      → all_kinds read meanings scope (xs ++ ys) ≡ both (all_kinds read meanings scope xs) (all_kinds read meanings scope ys)
  kinds-append meanings scope [] ys = sym (nil-both (all_kinds read meanings scope ys))
  kinds-append meanings scope (x ∷ xs) ys =
      ap (both (kinds_of read meanings scope x)) (kinds-append meanings scope xs ys)
      ∙ both-assoc (kinds_of read meanings scope x) (all_kinds read meanings scope xs) (all_kinds read meanings scope ys)

  -- one text more
  kinds_more : (meanings : Meanings) (scope : ScopeId) (texts : List (List ℕ)) (text : List ℕ) (kinds more : List ResolvedRule)
      → all_kinds read meanings scope texts ≡ Ok kinds → kinds_of read meanings scope text ≡ Ok more
      → all_kinds read meanings scope (texts ++ text ∷ []) ≡ Ok (kinds ++ more)
  kinds_more meanings scope texts text kinds more before is =
      kinds-append meanings scope texts (text ∷ [])
      ∙ ap (λ r. both r (both (kinds_of read meanings scope text) (Ok []))) before
      ∙ ap (λ r. both (Ok kinds) r) (both-nil (kinds_of read meanings scope text) ∙ is)

  owners_more : (n : ℕ) (texts : List (List ℕ)) (text : List ℕ) → owners_from read n (texts ++ text ∷ []) ≡ owners_from read n texts ++ replicate (count_of (read text)) (n + length texts)
  owners_more n [] text = append-nil (replicate (count_of (read text)) n) ∙ ap (replicate (count_of (read text))) (sym (add-zero n))
  owners_more n (t ∷ ts) text =
      let place : n + 1 + length ts ≡ n + length (t ∷ ts) = omega arith in
      ap (λ (l : List ℕ). replicate (count_of (read t)) n ++ l) (owners_more (n + 1) ts text ∙ ap (λ k. owners_from read (n + 1) ts ++ replicate (count_of (read text)) k) place)
      ∙ sym (append_assoc (replicate (count_of (read t)) n) (owners_from read (n + 1) ts) (replicate (count_of (read text)) (n + length (t ∷ ts))))

module _ {S : Type 0} (told_by : S → Meanings) (form : Form) where
  -- no text yet
  pub adds_none : (finder : FinderWith S) (owners : List ℕ) → owners ≡ [] → AddsTexts told_by form [] finder finder owners
  adds_none finder owners none = record {
    kinds = [];
    are_read = refl;
    added = let with_rules : List ResolvedRule → FinderWith S = λ all. record finder { rules = all } in ap with_rules (sym (append-nil finder.rules));
    owned = none;
  }

  -- one text more
  pub adds_more : (texts : List (List ℕ)) (n : ℕ) (less : n < length texts) (text : List ℕ) → text ≡ get_or texts n [] → (old mid new : FinderWith S) (owners grown : List ℕ) (times : ℕ)
      → AddsTexts told_by form (take n texts) old mid owners → times ≡ count_of (reading_of form text) → grown ≡ owners ++ replicate times n
      → Adds mid new (kinds_of (reading_of form) (told_by mid.semantics) mid.context.scope text) (Ok tt)
      → AddsTexts told_by form (take (n + 1) texts) old new grown
  adds_more texts n less text its old mid new owners grown times so_far counted more added =
      let read = reading_of form in
      let m = told_by old.semantics in
      let scope = old.context.scope in
      let here : Adds mid new (kinds_of read m scope text) (Ok tt) =
      subst (λ (f : FinderWith S). Adds mid new (kinds_of read (told_by f.semantics) f.context.scope text) (Ok tt)) so_far.added added in
      let front : take (n + 1) texts ≡ take n texts ++ text ∷ [] = take_more texts n [] less ∙ ap (λ (t : List ℕ). take n texts ++ t ∷ []) (sym its) in
      let place : 0 + length (take n texts) ≡ n = omega (arith, length-take-le n texts (omega arith)) in
      let with_more : FinderWith S → FinderWith S = λ f. record f { rules = f.rules ++ here.0 } in
      let with_rules : List ResolvedRule → FinderWith S = λ all. record old { rules = all } in
      record {
        kinds = so_far.kinds ++ here.0;
        are_read = ap (all_kinds read m scope) front ∙ kinds_more read m scope (take n texts) text so_far.kinds here.0 so_far.are_read here.1;
        added = here.2 ∙ ap with_more so_far.added ∙ ap with_rules (append_assoc old.rules so_far.kinds here.0);
        owned =
            more
            ∙ ap (λ (l : List ℕ). l ++ replicate times n) so_far.owned
            ∙ ap (λ k. owners_of read (take n texts) ++ replicate k n) counted
            ∙ ap (λ k. owners_of read (take n texts) ++ replicate (count_of (read text)) k) (sym place)
            ∙ sym (owners_more read 0 (take n texts) text)
            ∙ ap (owners_of read) (sym front);
      }

  -- a finder to which texts are added is that of the search for them
  pub finder_is : (w : Workspace) (semantics : S) (position : FilePosition) (ranges : List FileRange) (texts : List (List ℕ)) (made finder : FinderWith S) (owners : List ℕ)
      → MakesFinder w semantics (MakesFor (record { workspace = w; meanings = told_by semantics; position = position; ranges = ranges })) (Ok made)
      → AddsTexts told_by form texts made finder owners
      → IsFinderFor form (record { workspace = w; meanings = told_by semantics; position = position; ranges = ranges }) texts (finder_of told_by finder)
  finder_is w semantics position ranges texts made finder owners is adds =
      let s : Search = record { workspace = w; meanings = told_by semantics; position = position; ranges = ranges } in
      let all : finder ≡ record { workspace = w; semantics = semantics; context = is.0; rules = adds.kinds } =
      adds.added ∙ ap (λ (f : FinderWith S). record f { rules = f.rules ++ adds.kinds }) is.2 in
      let due : all_kinds (reading_of form) s.meanings is.0.scope texts ≡ Ok adds.kinds =
      subst (λ (f : FinderWith S). all_kinds (reading_of form) (told_by f.semantics) f.context.scope texts ≡ Ok adds.kinds) is.2 adds.are_read in
      subst (λ (f : FinderWith S). IsFinderFor form s texts (finder_of told_by f)) (sym all)
      (record { workspace = refl; meanings = refl; context = is.1; kinds = due })
