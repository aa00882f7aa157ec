-- There is a way to list kept matches: their places, put in order by the numbers that are compared.
use Rattle.std.proofs.Common.{◌≡◌, ℕ, ◌<◌, ◌⊎◌, inl, inr, List, [], ◌∷◌, length, map, get_or, slice_get, Option, Some, None, Contains, refl, sym, ap, ◌∙◌, arith}
use Rattle.std.specs.Cmp.Lexicographic.{slice_cmp}
use Rattle.std.specs.List.{range_with_len}
use Rattle.std.specs.Ordering.{nat_cmp, ordering_reverse}
use Rattle.std.specs.declared.cmp.Ordering.{Ordering}
use Rattle.std.specs.declared.cmp.Ordering.TheVariants.{Less, Equal, Greater}
use Rattle.std.proofs.lemmas.Cmp.{nat_list_cmp_total}
use Rattle.std.proofs.lemmas.List.Elements.{Contains-get_or}
use Rattle.std.proofs.lemmas.Option.{get_or_from_slice_get, slice_get-get_or}
use Rattle.ssr_syntax_tree.proofs.Lists.{at_front, at_back}
use Rattle.ssr_base_trees.specs.Workspace.{node_id, trees}
use Rattle.ide_ssr_bindings.specs.Found.{FoundMatch}
use Rattle.ide_ssr_nesting.specs.declared.holders.Holder.{Holder}
use Rattle.ide_ssr_nesting.specs.declared.lists.Row.{Row}
use Rattle.ide_ssr_nesting.specs.Holding.{Kept, IsKept}
use Rattle.ide_ssr_nesting.specs.Lists.{lists_key}
use Rattle.ide_ssr_nesting.specs.Laws.{ListsExist}
use Rattle.ide_ssr_nesting.specs.Private.Rows.{IsRowOf}
use Rattle.ide_ssr_nesting.proofs.Arranged.{arranged}
use Rattle.ide_ssr_nesting.proofs.Listing.{in_range, same_keys, keys_differ}

nobody : FoundMatch
nobody = record { rule = 0; node = node_id 0 0; bindings = [] }

-- beside each place stands its holder
beside_each : (holders : List (Option Holder)) (places : List ℕ) → ((n : ℕ) → Contains places n → n < length holders)
    → map Some (map (λ n. get_or holders n None) places) ≡ map (slice_get holders) places
beside_each holders [] within = refl
beside_each holders (n ∷ places) within =
    ap (λ o. o ∷ map Some (map (λ n. get_or holders n None) places)) (sym (slice_get-get_or holders n None (within n (at_front n places))))
    ∙ ap (λ os. slice_get holders n ∷ os) (beside_each holders places (λ m at. within m (at_back n m places at)))

module _ (kept : Kept) (known : IsKept kept) where
  abbrev row_at : ℕ → Row
  row_at n = record { key = lists_key (trees kept.workspace) (get_or kept.matches n nobody) (get_or kept.holders n None); place = n }

  abbrev IsAhead : ℕ → ℕ → Type 0
  IsAhead i j = slice_cmp nat_cmp (row_at i).key (row_at j).key ≡ Less

  abbrev IsPlace : ℕ → Type 0
  IsPlace n = n < length kept.matches

  is_row : (n : ℕ) → IsPlace n → IsRowOf kept (row_at n)
  is_row n within = record {
    match = get_or kept.matches n nobody;
    holder = get_or kept.holders n None;
    stands = slice_get-get_or kept.matches n nobody within;
    beside = slice_get-get_or kept.holders n None (let counted = known.held.counted in omega arith);
    key = refl;
  }

  compared : (i j : ℕ) → IsPlace i → IsPlace j → IsAhead i j ⊎ (IsAhead j i ⊎ (i ≡ j))
  compared i j i_in j_in = by (slice_cmp nat_cmp (row_at i).key (row_at j).key) refl
    where
      by : (o : Ordering) → slice_cmp nat_cmp (row_at i).key (row_at j).key ≡ o → IsAhead i j ⊎ (IsAhead j i ⊎ (i ≡ j))
      by Less is = inl is
      by Equal is = inr (inr (keys_differ kept known (row_at i) (row_at j) (is_row i i_in) (is_row j j_in) (same_keys (row_at i).key (row_at j).key is)))
      by Greater is = inr (inl (nat_list_cmp_total.antisymm (row_at j).key (row_at i).key ∙ ap ordering_reverse is))

  pub lists_exist : ListsExist kept
  lists_exist =
      let all = range_with_len 0 (length kept.matches) in
      let in_order = arranged IsAhead IsPlace (λ i j l. nat_list_cmp_total.trans (row_at i).key (row_at j).key (row_at l).key) compared all
      (λ n d within. (in_range (length kept.matches) (get_or all n d)).0 (Contains-get_or all n d within)) in
      let places = in_order.0 in
      let is = in_order.1 in
      let each : (n : ℕ) → Contains places n → n < length kept.matches = λ n at. (in_range (length kept.matches) n).0 ((is.same n).0 at) in (
        record { places = places; holders = map (λ n. get_or kept.holders n None) places },
        record {
          each = λ n. (each n, (λ within. (is.same n).1 ((in_range (length kept.matches) n).1 within)));
          beside = beside_each kept.holders places (λ n at. let counted = known.held.counted in let within = each n at in omega arith);
          in_order = λ i j d less within k m g h k_is g_is m_is h_is.
              ap (λ key. slice_cmp nat_cmp key (lists_key (trees kept.workspace) m h)) (sym (key_of (get_or places i d) k g k_is g_is))
              ∙ ap (slice_cmp nat_cmp (row_at (get_or places i d)).key) (sym (key_of (get_or places j d) m h m_is h_is))
              ∙ is.in_order i j d less within;
        },
      )
    where
      key_of : (n : ℕ) (k : FoundMatch) (g : Option Holder) → slice_get kept.matches n ≡ Some k → slice_get kept.holders n ≡ Some g → (row_at n).key ≡ lists_key (trees kept.workspace) k g
      key_of n k g k_is g_is =
          ap (λ (m : FoundMatch). lists_key (trees kept.workspace) m (get_or kept.holders n None)) (get_or_from_slice_get kept.matches n k nobody k_is)
          ∙ ap (λ (h : Option Holder). lists_key (trees kept.workspace) k h) (get_or_from_slice_get kept.holders n g None g_is)
