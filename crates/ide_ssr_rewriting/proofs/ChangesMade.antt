-- The changes that a list makes.
use Rattle.std.proofs.Common.{◌≡◌, ℕ, Bool, true, false, cond, List, [], ◌∷◌, ◌++◌, map, Option, Some, None, refl, sym, ◌∙◌, ap, subst, append_assoc, append-nil, String, unwrap_or, string_bytes}
use Rattle.std.specs.Prelude.{if◌then◌else◌}
use Rattle.std.specs.Global.{Global}
use Rattle.std.specs.Option.{option_map_or}
use Rattle.std.specs.List.{dedup, dedup_from}
use Rattle.std.proofs.lemmas.List.{map-append}
use Rattle.ssr_syntax_kinds.specs.declared.range.TextRange.{TextRange}
use Rattle.ssr_base_trees.specs.declared.ids.FileRange.{FileRange}
use Rattle.ssr_base_trees.specs.Applied.{change_of as pair_change, changes_of}
use Rattle.ssr_base_trees.specs.Changes.{Change}
use Rattle.ssr_base_trees.specs.Workspace.{FileSpan, file_span_of}
use Rattle.ide_ssr_rewriting.specs.Clashes.{Rewrite, same_range, change_of}

-- those of a list, behind one of the range, that begin another range
abbrev pub fresh_behind : FileSpan → List Rewrite → List Rewrite
fresh_behind range [] = []
fresh_behind range (r ∷ rs) = if same_range r.range range then fresh_behind range rs else r ∷ fresh_behind r.range rs

-- those of a list that begin another range than the last one before them
abbrev pub fresh : Option FileRange → List Rewrite → List Rewrite
fresh None list = dedup (λ r kept. same_range r.range kept.range) list
fresh (Some last) list = fresh_behind (file_span_of last) list

pub fresh_from : (r : Rewrite) (rs : List Rewrite) → dedup_from (λ r kept. same_range r.range kept.range) r rs ≡ r ∷ fresh_behind r.range rs
fresh_from r [] = refl
fresh_from r (s ∷ rs) = step (same_range s.range r.range) (fresh_from r rs) (fresh_from s rs)
  where
    step : (b : Bool) → dedup_from (λ r kept. same_range r.range kept.range) r rs ≡ r ∷ fresh_behind r.range rs
        → dedup_from (λ r kept. same_range r.range kept.range) s rs ≡ s ∷ fresh_behind s.range rs
        → cond b (dedup_from (λ r kept. same_range r.range kept.range) r rs) (r ∷ dedup_from (λ r kept. same_range r.range kept.range) s rs)
        ≡ r ∷ (if b then fresh_behind r.range rs else s ∷ fresh_behind s.range rs)
    step true same other = same
    step false same other = ap (λ (rs : List Rewrite). r ∷ rs) other

-- ** One change more.

pub fresh_past : (last : Option FileRange) (r : Rewrite) (rs : List Rewrite) → option_map_or (λ last. same_range r.range (file_span_of last)) last false ≡ true
    → fresh last (r ∷ rs) ≡ fresh last rs
fresh_past None r rs e = absurd (cc e)
fresh_past (Some last) r rs e = ap (λ (b : Bool). if b then fresh_behind (file_span_of last) rs else r ∷ fresh_behind r.range rs) e

pub fresh_next : (last : Option FileRange) (range : FileRange) (r : Rewrite) (rs : List Rewrite) → option_map_or (λ last. same_range r.range (file_span_of last)) last false ≡ false
    → r.range ≡ file_span_of range → fresh last (r ∷ rs) ≡ r ∷ fresh (Some range) rs
fresh_next None range r rs e is = fresh_from r rs ∙ ap (λ (s : FileSpan). r ∷ fresh_behind s rs) is
fresh_next (Some last) range r rs e is =
    ap (λ (b : Bool). if b then fresh_behind (file_span_of last) rs else r ∷ fresh_behind r.range rs) e ∙ ap (λ (s : FileSpan). r ∷ fresh_behind s rs) is

-- the changes so far, those of the rest and all
pub goes_past : (cs all : List Change) (last : Option FileRange) (r : Rewrite) (rest rs : List Rewrite) → cs ++ map change_of (fresh last rest) ≡ all → rest ≡ r ∷ rs
    → option_map_or (λ last. same_range r.range (file_span_of last)) last false ≡ true → cs ++ map change_of (fresh last rs) ≡ all
goes_past cs all last r rest rs so_far is e =
    subst (λ (left : List Rewrite). cs ++ map change_of left ≡ all) (ap (fresh last) is ∙ fresh_past last r rs e) so_far

pub goes_on : (cs new all : List Change) (c : Change) (last : Option FileRange) (range : FileRange) (r : Rewrite) (rest rs : List Rewrite)
    → cs ++ map change_of (fresh last rest) ≡ all → rest ≡ r ∷ rs
    → option_map_or (λ last. same_range r.range (file_span_of last)) last false ≡ false → r.range ≡ file_span_of range
    → new ≡ cs ++ c ∷ [] → c ≡ change_of r → new ++ map change_of (fresh (Some range) rs) ≡ all
goes_on cs new all c last range r rest rs so_far is e one made same =
    ap (λ (ds : List Change). ds ++ map change_of (fresh (Some range) rs)) (made ∙ ap (λ (c : Change). cs ++ c ∷ []) same)
    ∙ (append_assoc cs (change_of r ∷ []) (map change_of (fresh (Some range) rs))
    ∙ subst (λ (left : List Rewrite). cs ++ map change_of left ≡ all) (ap (fresh last) is ∙ fresh_next last range r rs e one) so_far)

pub ends : (cs all : List Change) (last : Option FileRange) (rest : List Rewrite) → cs ++ map change_of (fresh last rest) ≡ all → rest ≡ [] → cs ≡ all
ends cs all last rest so_far none =
    sym (append-nil cs) ∙ (ap (λ (left : List Rewrite). cs ++ map change_of left) (sym (fresh_none last)) ∙ subst (λ (rest : List Rewrite). cs ++ map change_of (fresh last rest) ≡ all) none so_far)
  where
    fresh_none : (last : Option FileRange) → fresh last [] ≡ []
    fresh_none None = refl
    fresh_none (Some last) = refl

abbrev change : ℕ → ℕ → List ℕ → Change
change start end text = record { start = start; end = end; text = text }

-- the change that is made of a rewrite
pub made_change : (range : FileRange) (text : Option (List ℕ)) (r : Rewrite) (new : String Global)
    → ◌≡◌ {A = Rewrite} (record { range = file_span_of range; text = text }) r → string_bytes new ≡ unwrap_or text []
    → pair_change (range.range, new) ≡ change_of r
made_change range text r new view is =
    ap (λ (bytes : List ℕ). change range.range.start range.range.end bytes) is ∙ ap change_of view

pub pushed : (old new : List (TextRange × String Global)) (pair : TextRange × String Global) → new ≡ old ++ pair ∷ [] → changes_of new ≡ changes_of old ++ pair_change pair ∷ []
pushed old new pair e = ap changes_of e ∙ map-append pair_change old (pair ∷ [])
