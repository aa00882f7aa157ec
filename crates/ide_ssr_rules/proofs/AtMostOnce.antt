-- A template's tokens have each placeholder at most once: none is the stand-in of another one's name.
use Rattle.std.proofs.Common.{◌≡◌, ◌≢◌, ℕ, ◌+◌, ◌<◌, ◌≤◌, Bool, true, false, cond, ◌⊎◌, inl, inr, List, [], ◌∷◌, ◌++◌, map, All, AllPairs, Option, Some, None, Ok, refl, sym, ◌∙◌, ap, subst, arith, bytes_eq, codes}
use Rattle.std.specs.List.{cons_option, position_from}
use Rattle.std.proofs.lemmas.Bool.{or_left, or_right}
use Rattle.std.proofs.lemmas.List.{append_cancel_left}
use Rattle.std.proofs.lemmas.List.Elements.{All-nil}
use Rattle.std.proofs.lemmas.List.Folds.{list_any-append}
use Rattle.std.proofs.lemmas.List.Kept.{AllPairs-cons}
use Rattle.std.proofs.lemmas.Slice.Eq.{bytes_eq-Decides}
use Rattle.ssr_syntax_kinds.specs.declared.fragment.Fragment.{Fragment}
use Rattle.ssr_syntax_kinds.specs.declared.reach.Reach.{Reach}
use Rattle.ssr_syntax.specs.Reading.{fragment_reading_of}
use Rattle.ssr_syntax_tree.specs.Syntax.{Syntax}
use Rattle.ide_ssr_rules.specs.declared.elements.Element.{Element}
use Rattle.ide_ssr_rules.specs.declared.elements.Element.TheVariants as e
use Rattle.ide_ssr_resolved_rule.specs.Names.{has, AreNew}
use Rattle.ide_ssr_rules.specs.Elements.{names_of}
use Rattle.ide_ssr_resolved_rule.specs.Patterns.{placeholders_among}
use Rattle.ide_ssr_rules.specs.Patterns.{HasEachAtMostOnce}
use Rattle.ide_ssr_resolved_rule.specs.StandIns.{stand_in_of, name_at}
use Rattle.ide_ssr_rules.specs.StandIns.{read_as, code_of, stand_in_text, spelled_stand_in}
use Rattle.ide_ssr_rules.proofs.Lists.{all_with}
use Rattle.ide_ssr_rules.proofs.EachOnce.{unnamed, stand_in, neither_of, tree_among, IsSide, side_fits}

later : (b : Bool) (i j : ℕ) (o : Option ℕ) → cond b (Some i) o ≡ Some j → (o ≡ Some j → i < j) → i ≤ j
later true i j o h g = let same : i ≡ j = cc in omega (arith, same)
later false i j o h g = let less = g h in omega (arith, less)

from_start : (p : List ℕ → Bool) (i : ℕ) (xs : List (List ℕ)) (j : ℕ) → position_from p i xs ≡ Some j → i ≤ j
from_start p i [] j h = cc
from_start p i (x ∷ xs) j h =
    later (p x) i j (position_from p (i + 1) xs) h (λ k. let le = from_start p (i + 1) xs j k in omega (arith, le))

-- two tests, of which the one or the other may pass first
two_at : (b c : Bool) (i j : ℕ) (o u : Option ℕ) → cond b (Some i) o ≡ Some j → cond c (Some i) u ≡ Some j
    → (o ≡ Some j → i < j) → (u ≡ Some j → i < j) → ((b ≡ true) × (c ≡ true)) ⊎ ((o ≡ Some j) × (u ≡ Some j))
two_at true true i j o u h g f e = inl (refl, refl)
two_at true false i j o u h g f e = let same : i ≡ j = cc in let less = e g in absurd (omega (arith, same, less))
two_at false true i j o u h g f e = let same : i ≡ j = cc in let less = f h in absurd (omega (arith, same, less))
two_at false false i j o u h g f e = inr (h, g)

-- at one place both pass for what stands there
both_pass : (p q : List ℕ → Bool) (i : ℕ) (xs : List (List ℕ)) (j : ℕ) → position_from p i xs ≡ Some j → position_from q i xs ≡ Some j
    → (x : List ℕ) × (p x ≡ true) × (q x ≡ true)
both_pass p q i [] j h g = cc
both_pass p q i (x ∷ xs) j h g =
    elim (two_at (p x) (q x) i j (position_from p (i + 1) xs) (position_from q (i + 1) xs) h g
    (λ k. let le = from_start p (i + 1) xs j k in omega (arith, le)) (λ k. let le = from_start q (i + 1) xs j k in omega (arith, le))) [
      | inl pass ↦ (x, pass.0, pass.1)
      | inr rest ↦ both_pass p q (i + 1) xs j rest.0 rest.1
    ]

one_name : (names : List (List ℕ)) (one other : List ℕ) (j : ℕ) → name_at names (stand_in one) ≡ Some j
    → name_at names (stand_in other) ≡ Some j → one ≡ other
unfolding name_at
one_name names one other j h g =
    let test : List ℕ → List ℕ → Bool = λ name known. bytes_eq (stand_in_of name) (stand_in_of known) in
    let b = both_pass (test one) (test other) 0 names j h g in
    append_cancel_left (codes "__placeholder_") one other
    ((bytes_eq-Decides (stand_in_of one) (stand_in_of b.0)).0 b.1 ∙ sym ((bytes_eq-Decides (stand_in_of other) (stand_in_of b.0)).0 b.2))

has_more : (names : List (List ℕ)) (more name : List ℕ) → has names name ≡ true → has (names ++ more ∷ []) name ≡ true
has_more names more name h =
    list_any-append (bytes_eq name) names (more ∷ []) ∙ or_left (has names name) (has (more ∷ []) name) h

has_last : (names : List (List ℕ)) (name : List ℕ) → has (names ++ name ∷ []) name ≡ true
has_last names name =
    list_any-append (bytes_eq name) names (name ∷ [])
    ∙ or_right (has names name) (has (name ∷ []) name) (or_left (bytes_eq name name) false ((bytes_eq-Decides name name).1 refl))

other_names : (seen : List (List ℕ)) (one other : List ℕ) → has seen one ≡ true → has seen other ≡ false → one ≢ other
other_names seen one other h g = λ same. let hit : has seen other ≡ true = ap (has seen) (sym same) ∙ h in cc

-- the place of a name that was seen is none of those behind
not_again : (es : List Element) (seen names others : List (List ℕ)) (name : List ℕ) (j : ℕ) → AreNew seen (names_of es)
    → spelled_stand_in (names ++ others) es ≡ None → has seen name ≡ true → name_at names (stand_in name) ≡ Some j
    → All (λ i. j ≢ i) (placeholders_among names (map read_as es))
not_again [] seen names others name j new none known at = All-nil (λ i. j ≢ i)
not_again (e.Token t ∷ es) seen names others name j new none known at =
    let n = neither_of (stand_in_text (names ++ others) (e.Token t)) (spelled_stand_in (names ++ others) es) none in
    subst (λ o. All (λ i. j ≢ i) (cons_option o (placeholders_among names (map read_as es)))) (sym (unnamed names others t n.0))
    (not_again es seen names others name j new n.1 known at)
not_again (e.Placeholder placeholder ∷ es) seen names others name j new none known at =
    let more = placeholder.name in
    all_with (λ i. j ≢ i) (name_at names (stand_in more)) (placeholders_among names (map read_as es))
    (λ i is same. other_names seen name more known new.0 (one_name names name more j at (is ∙ ap Some (sym same))))
    (not_again es (seen ++ more ∷ []) names others name j new.1 none (has_more seen more name known) at)

pairs_with : (o : Option ℕ) (rest : List ℕ) → ((j : ℕ) → o ≡ Some j → All (λ i. j ≢ i) rest) → AllPairs (λ one other. one ≢ other) rest
    → AllPairs (λ one other. one ≢ other) (cons_option o rest)
pairs_with None rest h all = all
pairs_with (Some j) rest h all = AllPairs-cons (λ one other. one ≢ other) j rest (h j refl) all

at_most_from : (es : List Element) (seen names others : List (List ℕ)) → AreNew seen (names_of es)
    → spelled_stand_in (names ++ others) es ≡ None → AllPairs (λ one other. one ≢ other) (placeholders_among names (map read_as es))
at_most_from [] seen names others new none = λ i j d lt in_list. absurd (omega (arith, lt, in_list))
at_most_from (e.Token t ∷ es) seen names others new none =
    let n = neither_of (stand_in_text (names ++ others) (e.Token t)) (spelled_stand_in (names ++ others) es) none in
    subst (λ o. AllPairs (λ one other. one ≢ other) (cons_option o (placeholders_among names (map read_as es)))) (sym (unnamed names others t n.0))
    (at_most_from es seen names others new n.1)
at_most_from (e.Placeholder placeholder ∷ es) seen names others new none =
    let name = placeholder.name in
    pairs_with (name_at names (stand_in name)) (placeholders_among names (map read_as es))
    (λ j at. not_again es (seen ++ name ∷ []) names others name j new.1 none (has_last seen name) at)
    (at_most_from es (seen ++ name ∷ []) names others new.1 none)

pub template_at_most : (reach : Reach) (category : Fragment) (es : List Element) (names : List (List ℕ)) (tree : Syntax) → IsSide (names ++ names_of es) es
    → fragment_reading_of reach category (code_of es) ≡ Ok tree → HasEachAtMostOnce names (Some tree)
template_at_most reach category es names tree is read =
    let fits = side_fits reach category (names ++ names_of es) es tree is read in
    subst (AllPairs (λ one other. one ≢ other)) (sym (tree_among reach category es names tree is.utf8 is.is_trimmed is.same fits))
    (at_most_from es [] names (names_of es) is.new is.free)
