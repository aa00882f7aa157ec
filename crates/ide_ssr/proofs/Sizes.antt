-- How many matches there are in nested ones, each itself among them: as many as are left while they are flattened.
use Rattle.std.proofs.Common.{◌≡◌, ℕ, ◌+◌, ◌<◌, Bool, true, List, [], ◌∷◌, ◌++◌, map, refl, ◌∙◌, ap, subst, arith}
use Rattle.std.specs.List.{flat_map}
use Rattle.std.proofs.lemmas.List.{map-append}
use Rattle.ide_ssr.specs.declared.matches.Match.{Match}
use Rattle.ide_ssr.specs.declared.matches.Match.TheOpen.{Match-F, PlaceholderMatch-F}
use Rattle.ide_ssr.specs.declared.matches.Match.TheFolds.{fold-Match, fold-PlaceholderMatch, fold_out-Match, fold_out-PlaceholderMatch}
use Rattle.ide_ssr.specs.declared.matches.PlaceholderMatch.{PlaceholderMatch}
use Rattle.ide_ssr.specs.Flattened.{inside}
use Rattle.ide_ssr.specs.Matches.{placeholders_of, inner_of}
use Rattle.ide_ssr.specs.Private.Flattening.{MovesLast, FlattensLast}

abbrev sum_of : List ℕ → ℕ
sum_of [] = 0
sum_of (n ∷ ns) = n + sum_of ns

sum_of-append : (ns ms : List ℕ) → sum_of (ns ++ ms) ≡ sum_of ns + sum_of ms
sum_of-append [] ms = omega arith
sum_of-append (n ∷ ns) ms = omega (arith, sum_of-append ns ms)

abbrev match_step : Match-F ℕ ℕ → ℕ
match_step m = 1 + sum_of m.placeholders.items

abbrev placeholder_step : PlaceholderMatch-F ℕ ℕ → ℕ
placeholder_step p = sum_of p.inner.items

size_of : Match → ℕ
size_of = fold-Match ℕ ℕ match_step placeholder_step

size_in : PlaceholderMatch → ℕ
size_in = fold-PlaceholderMatch ℕ ℕ match_step placeholder_step

pub size_of_all : List Match → ℕ
size_of_all ms = sum_of (map size_of ms)

size_of_all-append : (ms ns : List Match) → size_of_all (ms ++ ns) ≡ size_of_all ms + size_of_all ns
unfolding size_of_all
size_of_all-append ms ns = ap sum_of (map-append size_of ms ns) ∙ sum_of-append (map size_of ms) (map size_of ns)

size_of_match : (m : Match) → size_of m ≡ 1 + sum_of (map size_in (placeholders_of m))
unfolding size_of size_in
size_of_match m = fold_out-Match ℕ ℕ match_step placeholder_step m

size_in_placeholder : (p : PlaceholderMatch) → size_in p ≡ size_of_all (inner_of p)
unfolding size_of size_in size_of_all
size_in_placeholder p = fold_out-PlaceholderMatch ℕ ℕ match_step placeholder_step p

size_in_placeholders : (ps : List PlaceholderMatch) → size_of_all (flat_map inner_of ps) ≡ sum_of (map size_in ps)
unfolding size_of_all
size_in_placeholders [] = refl
size_in_placeholders (p ∷ ps) =
    let first = size_in_placeholder p in
    let others = size_in_placeholders ps in
    let both = size_of_all-append (inner_of p) (flat_map inner_of ps) in
    omega arith

last_alone : (m : Match) → size_of_all (m ∷ []) ≡ size_of m
unfolding size_of_all
last_alone m = omega arith

moved_smaller : (old left flat longer : List Match) → MovesLast old left flat longer → size_of_all left < size_of_all old
moved_smaller old left flat longer moves =
    let m = moves.m in
    let before = ap size_of_all moves.is_last ∙ size_of_all-append moves.others (m ∷ []) in
    let after = ap size_of_all moves.in_its_place ∙ size_of_all-append moves.others (inside m) in
    let held = size_in_placeholders (placeholders_of m) in
    omega (arith, before, after, held, size_of_match m, last_alone m)

pub smaller : (old left flat longer : List Match) (moved : Bool) → FlattensLast old left flat longer moved → moved ≡ true → size_of_all left < size_of_all old
smaller old left flat longer moved last is = moved_smaller old left flat longer (subst (FlattensLast old left flat longer) is last)
