-- What a list is made of lies in the file of what its placeholder holds, between characters.
use Rattle.std.proofs.Common.{◌≡◌, ℕ, ◌<◌, true, List, [], length, Option, Some, None, refl, sym, subst, arith}
use Rattle.std.specs.Prelude.{Contains, IfSome, slice_get, unwrap_or}
use Rattle.std.specs.Option.{IsSomeAnd, option_map_or}
use Rattle.std.proofs.lemmas.List.Elements.{All-contains, All-contains_itself, All-map, All-weaker}
use Rattle.ssr_syntax_tree.specs.Syntax.{Syntax, source_of}
use Rattle.ssr_syntax_tree.proofs.Lists.{all_at}
use Rattle.ssr_base_trees.specs.Laws.{IsSpanOf, LiesIn, LiesInFile}
use Rattle.ssr_base_trees.specs.Texts.{is_boundary}
use Rattle.ssr_base_trees.specs.Workspace.{FileSpan, Workspace, node_id, original_range, trees}
use Rattle.ssr_base_trees.specs.Built.{IsBuilt}
use Rattle.ssr_base_trees.proofs.Shared.{lies_in_file, run_lies_in_file}
use Rattle.ide_ssr_bindings.specs.declared.bindings.Binding.{Binding}
use Rattle.ide_ssr_bindings.specs.declared.bindings.Held.{Held}
use Rattle.ide_ssr_bindings.specs.declared.bindings.Held.TheVariants as held
use Rattle.ide_ssr_bindings.specs.Found.{FoundMatch, HasByte, IsMatch, held_range, range_of_held}
use Rattle.ide_ssr_nesting.specs.Holding.{Kept}
use Rattle.ide_ssr_nesting.specs.Lists.{Listing, range_of}
use Rattle.ide_ssr_rewriting.specs.Clashes.{Rewrite}
use Rattle.ide_ssr_rewriting.specs.Private.Nest.{IsNest, under}
use Rattle.ide_ssr_rewriting.specs.Edits.{nowhere, range_at, Texts, list_at}
use Rattle.ide_ssr_rewriting.specs.Private.Replacements.{FitsItsFile, IsOf}
use Rattle.ide_ssr_rewriting.proofs.Pieces.{none_past}

fits_in : (o : Option Syntax) (start end : ℕ) → IsSomeAnd o (λ tree. IsSpanOf (source_of tree) (record { start = start; end = end }))
    → (is_boundary (option_map_or source_of o []) start ≡ true) × (is_boundary (option_map_or source_of o []) end ≡ true)
fits_in None start end h = absurd h
fits_in (Some tree) start end h = (h.begins, h.ends)

in_file : (w : Workspace) (range : FileSpan) → LiesInFile w range → FitsItsFile w range
in_file w range lies =
    let both = fits_in (slice_get w.files range.file) range.span.start range.span.end lies in
    record { begins = both.0; ends = both.1 }

-- where what a placeholder holds comes from
pub held_in_file : (w : Workspace) (t : ℕ) (h : Held) (range : FileSpan) → IsBuilt w → range_of_held (trees w) t h ≡ Some range → LiesInFile w range
held_in_file w t (held.Node node) range built is = lies_in_file w (node_id t node.0) range built is
held_in_file w t (held.Tokens run) range built is = run_lies_in_file w t run range built is

-- where a match comes from
pub range_in_file : (kept : Kept) (listing : Listing) → IsNest kept listing → (n : ℕ) → n < length kept.matches → LiesInFile kept.workspace (range_at kept n)
range_in_file kept listing is n lt = at (slice_get kept.matches n) refl
  where
    ranged : (m : FoundMatch) (r : Option FileSpan) → original_range (trees kept.workspace) m.node ≡ r → IsSomeAnd r HasByte → LiesInFile kept.workspace (unwrap_or r nowhere)
    ranged m None e h = absurd h
    ranged m (Some range) e h = lies_in_file kept.workspace m.node range is.built e

    at : (o : Option FoundMatch) → slice_get kept.matches n ≡ o → LiesInFile kept.workspace (option_map_or (range_of (trees kept.workspace)) o nowhere)
    at None e = absurd (let past = none_past kept.matches n e in omega arith)
    at (Some m) e =
        ranged m (original_range (trees kept.workspace) m.node) refl
        (all_at (IsMatch (trees kept.workspace)) kept.matches n m is.matches e).range

range_fits : (kept : Kept) (listing : Listing) → IsNest kept listing → (n : ℕ) → n < length kept.matches → FitsItsFile kept.workspace (range_at kept n)
range_fits kept listing is n lt = in_file kept.workspace (range_at kept n) (range_in_file kept listing is n lt)

pub list_fits : (kept : Kept) (listing : Listing) → IsNest kept listing → (n i : ℕ) (m : FoundMatch) (binding : Binding) (texts : Texts) (list : List Rewrite) (range : Option FileSpan)
    → slice_get kept.matches n ≡ Some m → slice_get m.bindings i ≡ Some binding → list ≡ list_at kept texts (under listing n i)
    → range ≡ held_range (trees kept.workspace) m.node.tree binding → IfSome range (λ range. IsOf kept.workspace range list)
list_fits kept listing is n i m binding texts list range at bound taken e =
    subst (λ (o : Option FileSpan). IfSome o (λ range. IsOf kept.workspace range list)) (sym e)
    (subst (λ (list : List Rewrite). IfSome there (λ range. IsOf kept.workspace range list)) (sym taken) (of there refl))
  where
    there : Option FileSpan
    there = held_range (trees kept.workspace) m.node.tree binding

    stands : ℕ → Rewrite
    stands j = record { range = range_at kept j; text = texts j }

    one : (range : FileSpan) → there ≡ Some range → (j : ℕ) → Contains (under listing n i) j → LiesIn (stands j).range range × FitsItsFile kept.workspace (stands j).range
    one range e j h = (
      is.within n i j m binding range at bound h e,
      range_fits kept listing is j (All-contains (λ j. j < length kept.matches) (under listing n i) j (is.lists (Some (record { place = n; binding = i }))).within h),
    )

    of : (o : Option FileSpan) → there ≡ o → IfSome o (λ range. IsOf kept.workspace range (list_at kept texts (under listing n i)))
    of None e = tt
    of (Some range) e = record {
      fits = in_file kept.workspace range (held_in_file kept.workspace m.node.tree binding.held range is.built e);
      each = All-map (λ r. LiesIn r.range range × FitsItsFile kept.workspace r.range) stands (under listing n i)
          (All-weaker (Contains (under listing n i)) (λ j. LiesIn (stands j).range range × FitsItsFile kept.workspace (stands j).range) (one range e) (under listing n i) (All-contains_itself (under listing n i)));
    }
