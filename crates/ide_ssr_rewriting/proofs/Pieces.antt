-- The placeholders of a match, one more at a time.
use Rattle.std.proofs.Common.{◌≡◌, ℕ, zero, suc, ◌+◌, ◌<◌, ◌≤◌, ◌&&◌, Bool, true, false, List, [], ◌∷◌, ◌++◌, get_or, drop, length, Option, Some, None, refl, sym, ◌∙◌, ap, subst, arith, append_assoc, append-nil}
use Rattle.std.specs.Prelude.{Contains, flat_map, if◌then◌else◌, is_some, option_map, option_to_list, slice_get, unwrap_or}
use Rattle.std.specs.List.{enumerate_from}
use Rattle.std.specs.Option.{IsSomeAnd, option_map_or}
use Rattle.std.proofs.Math.Bool.{and-true}
use Rattle.std.proofs.lemmas.Bool.{and_right}
use Rattle.std.proofs.lemmas.List.{drop_more, drop_all, get_or-map, length-map}
use Rattle.std.proofs.lemmas.List.Elements.{All-append, All-contains_itself, All-map, All-weaker, Contains-append_left, Contains-append_right}
use Rattle.std.proofs.lemmas.Option.{same_Some}
use Rattle.ssr_syntax_tree.proofs.Lists.{all_at}
use Rattle.ssr_base_trees.specs.Workspace.{FileSpan, Workspace, original_range, trees}
use Rattle.ide_ssr_resolved_rule.specs.Resolved.{ResolvedRule}
use Rattle.ide_ssr_bindings.specs.declared.bindings.Binding.{Binding}
use Rattle.ide_ssr_bindings.specs.Found.{FoundMatch, HasByte, IsMatch, held_range}
use Rattle.ide_ssr_nesting.specs.declared.holders.Holder.{Holder}
use Rattle.ide_ssr_nesting.specs.Holding.{Kept}
use Rattle.ide_ssr_nesting.specs.Lists.{Listing, listed, range_of}
use Rattle.ide_ssr_rewriting.specs.Clashes.{Rewrite, Clash, IsFirst, clashes, is_clean}
use Rattle.ide_ssr_rewriting.specs.Private.Nest.{IsNest, under}
use Rattle.ide_ssr_rewriting.specs.Edits.{nowhere, range_at, Texts, list_at, list_under, text_by}
use Rattle.ide_ssr_rewriting.specs.Replacements.{Writing, piece, prefix_by, text_of_match}
use Rattle.ide_ssr_rewriting.specs.Private.Clashes.{AreInOrder, lesser}
use Rattle.ide_ssr_rewriting.specs.Private.Edits.{text_in}
use Rattle.ide_ssr_rewriting.specs.Private.Pieces.{all_clean, pieces_by, pieces_of}
use Rattle.ide_ssr_rewriting.proofs.FirstClashes.{IsFirst-append, IsFirst-same}
use Rattle.ide_ssr_rewriting.proofs.Texts.{list_same, one_list}

-- ** Lists are in order.

pub none_past : {X : Type 0} (xs : List X) (n : ℕ) → slice_get xs n ≡ None → length xs ≤ n
none_past [] n e = omega arith
none_past (x ∷ xs) zero e = absurd (cc e)
none_past (x ∷ xs) (suc n) e = let h = none_past xs n e in omega arith

has_byte : (o : Option FileSpan) → IsSomeAnd o HasByte → HasByte (unwrap_or o nowhere)
has_byte None h = absurd h
has_byte (Some range) h = h

range_byte : (kept : Kept) (listing : Listing) → IsNest kept listing → (n : ℕ) → n < length kept.matches → HasByte (range_at kept n)
range_byte kept listing is n lt = at (slice_get kept.matches n) refl
  where
    at : (o : Option FoundMatch) → slice_get kept.matches n ≡ o → HasByte (option_map_or (range_of (trees kept.workspace)) o nowhere)
    at None e = absurd (let past = none_past kept.matches n e in omega arith)
    at (Some m) e =
        has_byte (original_range (trees kept.workspace) m.node)
        (all_at (IsMatch (trees kept.workspace)) kept.matches n m is.matches e).range

pub list_in_order : (kept : Kept) (listing : Listing) → IsNest kept listing → (holder : Option Holder) (texts : Texts) → AreInOrder (list_at kept texts (listed listing holder))
list_in_order kept listing is holder texts = record {
  ordered = λ i j d lt within.
      let more : length (list_at kept texts places) ≡ length places = length-map places (λ n. stands n) in
      let second : j < length places = omega arith in
      rw (get_or-map stands places i 0 d (omega arith), get_or-map stands places j 0 d second) ((is.lists holder).ordered i j 0 lt second);
  bytes = All-map (λ r. HasByte r.range) stands places
      (All-weaker (λ n. n < length kept.matches) (λ n. HasByte (range_at kept n)) (λ n h. range_byte kept listing is n h) places (is.lists holder).within);
}
  where
    places : List ℕ
    places = listed listing holder

    stands : ℕ → Rewrite
    stands n = record { range = range_at kept n; text = texts n }

-- ** The first placeholders.

-- the clashes of the lists of placeholders
abbrev pub clashes_in : (ℕ → List Rewrite) → List (ℕ × Binding) → List Clash
clashes_in lists bound = flat_map (λ p. clashes (lists p.0)) bound

-- the texts that are left, where the lists of the first i placeholders of the match of the place n are taken
pub record AreLeft (listing : Listing) (n i : ℕ) (old cur : List (Option (List ℕ))) : Type 0 where
  pub counted : length cur ≡ length old
  pub left : (j : ℕ) → ((k : ℕ) → k < i → Contains (under listing n k) j → ⊥) → text_in cur j ≡ text_in old j

-- the pieces of the first i placeholders, and whether all their lists can be made
pub record AreWritten (w : Workspace) (rules : List ResolvedRule) (m : FoundMatch) (lists : ℕ → List Rewrite) (i : ℕ) (clean : Bool) (pieces : List (List ℕ)) : Type 0 where
  pub clean_lists : all_clean lists (enumerate_from 0 m.bindings) ≡ (clean && all_clean lists (enumerate_from i (drop i m.bindings)))
  pub written : clean ≡ true → pieces ++ pieces_of w rules m lists (enumerate_from i (drop i m.bindings)) ≡ pieces_of w rules m lists (enumerate_from 0 m.bindings)

-- the first clash of the lists of the first i placeholders and of others
pub record AreNoted (m : FoundMatch) (lists : ℕ → List Rewrite) (i : ℕ) (was now : Option Clash) : Type 0 where
  pub before : List Clash
  pub split : before ++ clashes_in lists (enumerate_from i (drop i m.bindings)) ≡ clashes_in lists (enumerate_from 0 m.bindings)
  pub first : (others : List Clash) → IsFirst others was → IsFirst (before ++ others) now

-- the first i placeholders of the match m of the place n are done
pub record AreTaken (kept : Kept) (listing : Listing) (rules : List ResolvedRule) (m : FoundMatch) (n i : ℕ) (old cur : List (Option (List ℕ))) (clean : Bool) (pieces : List (List ℕ)) (was now : Option Clash) : Type 0 where
  pub texts : AreLeft listing n i old cur
  pub written : AreWritten kept.workspace rules m (list_under kept listing (text_in old) n) i clean pieces
  pub noted : AreNoted m (list_under kept listing (text_in old) n) i was now

-- a piece, where what it holds can be made
pub piece_of_held : (b : Bool) (prefix text : List ℕ) → option_map (λ text. prefix ++ text) (if b then Some text else None) ≡ (if b then Some (prefix ++ text) else None)
piece_of_held true prefix text = refl
piece_of_held false prefix text = refl

-- ** One placeholder more.

-- lists of one match have no place in common
apart : (kept : Kept) (listing : Listing) → IsNest kept listing → (n i k j : ℕ) → Contains (under listing n i) j → Contains (under listing n k) j → k < i → ⊥
apart kept listing is n i k j first second lt =
    let one : Holder = record { place = n; binding = i } in
    let other : Holder = record { place = n; binding = k } in
    let same : i ≡ k = ap (λ (h : Holder). h.binding) (same_Some one other (one_list kept listing is (Some one) (Some other) j first second)) in
    omega arith

-- what is left of the list of the placeholder that comes next is all of it
pub list_left : (kept : Kept) (listing : Listing) → IsNest kept listing → (n i : ℕ) (old cur : List (Option (List ℕ)))
    → ((j : ℕ) → ((k : ℕ) → k < i → Contains (under listing n k) j → ⊥) → text_in cur j ≡ text_in old j)
    → list_at kept (text_in cur) (under listing n i) ≡ list_under kept listing (text_in old) n i
list_left kept listing is n i old cur left =
    list_same kept (text_in cur) (text_in old) (under listing n i) (λ j here. left j (λ k lt there. apart kept listing is n i k j here there lt))

bound_from : (bs : List Binding) (i : ℕ) (b : Binding) → i < length bs → b ≡ get_or bs i b
    → enumerate_from i (drop i bs) ≡ (i, b) ∷ enumerate_from (i + 1) (drop (i + 1) bs)
bound_from bs i b lt is = ap (enumerate_from i) (drop_more bs i b lt ∙ ap (λ (x : Binding). x ∷ drop (i + 1) bs) (sym is))

IsFirst-moved : (xs ys zs : List Clash) (o : Option Clash) → IsFirst (xs ++ (ys ++ zs)) o → IsFirst ((ys ++ xs) ++ zs) o
IsFirst-moved xs ys zs o =
    let all = xs ++ (ys ++ zs) in
    let moved = (ys ++ xs) ++ zs in
    IsFirst-same moved all o
    (All-append (Contains all) (ys ++ xs) zs
    (All-append (Contains all) ys xs
    (All-weaker (Contains ys) (Contains all) (λ c h. Contains-append_right xs (ys ++ zs) c (Contains-append_left ys zs c h)) ys (All-contains_itself ys))
    (All-weaker (Contains xs) (Contains all) (λ c h. Contains-append_left xs (ys ++ zs) c h) xs (All-contains_itself xs)))
    (All-weaker (Contains zs) (Contains all) (λ c h. Contains-append_right xs (ys ++ zs) c (Contains-append_right ys zs c h)) zs (All-contains_itself zs)))
    (All-append (Contains moved) xs (ys ++ zs)
    (All-weaker (Contains xs) (Contains moved) (λ c h. Contains-append_left (ys ++ xs) zs c (Contains-append_right ys xs c h)) xs (All-contains_itself xs))
    (All-append (Contains moved) ys zs
    (All-weaker (Contains ys) (Contains moved) (λ c h. Contains-append_left (ys ++ xs) zs c (Contains-append_left ys xs c h)) ys (All-contains_itself ys))
    (All-weaker (Contains zs) (Contains moved) (λ c h. Contains-append_right (ys ++ xs) zs c h) zs (All-contains_itself zs))))

-- whether the lists so far and this one can be made
clean_more : (all clean here rest new : Bool) (o : Option (List ℕ)) (text : List ℕ) → all ≡ (clean && (here && rest)) → o ≡ (if here then Some text else None)
    → new ≡ (is_some o && clean) → all ≡ (new && rest)
clean_more all clean true rest new o text is e made =
    is ∙ ap (λ (b : Bool). b && rest) (sym (made ∙ ap (λ (o : Option (List ℕ)). is_some o && clean) e))
clean_more all clean false rest new o text is e made =
    is ∙ (and_right clean false refl ∙ ap (λ (b : Bool). b && rest) (sym (made ∙ ap (λ (o : Option (List ℕ)). is_some o && clean) e)))

pieces_more : (all rest old new : List (List ℕ)) (here : Bool) (o : Option (List ℕ)) (text : List ℕ) (clean made : Bool)
    → (clean ≡ true → old ++ (text ∷ rest) ≡ all) → o ≡ (if here then Some text else None) → made ≡ (is_some o && clean) → new ≡ old ++ option_to_list o
    → made ≡ true → new ++ rest ≡ all
pieces_more all rest old new true o text clean made so_far e m n sure =
    let is : clean ≡ true = sym (m ∙ ap (λ (o : Option (List ℕ)). is_some o && clean) e) ∙ sure in
    ap (λ (xs : List (List ℕ)). xs ++ rest) (n ∙ ap (λ (o : Option (List ℕ)). old ++ option_to_list o) e) ∙ (append_assoc old (text ∷ []) rest ∙ so_far is)
pieces_more all rest old new false o text clean made so_far e m n sure =
    let wrong : false ≡ true = sym (m ∙ ap (λ (o : Option (List ℕ)). is_some o && clean) e) ∙ sure in
    absurd (cc wrong)

pub left-more : (listing : Listing) (n i : ℕ) (old cur new : List (Option (List ℕ))) → AreLeft listing n i old cur → length new ≡ length cur
    → ((j : ℕ) → (Contains (under listing n i) j → ⊥) → text_in new j ≡ text_in cur j) → AreLeft listing n (i + 1) old new
left-more listing n i old cur new so_far counted others = record {
  counted = counted ∙ so_far.counted;
  left = λ j none. others j (λ h. none i (omega arith) h) ∙ so_far.left j (λ k lt h. none k (omega arith) h);
}

pub written-more : (w : Workspace) (rules : List ResolvedRule) (m : FoundMatch) (lists : ℕ → List Rewrite) (i : ℕ) (clean made : Bool) (pieces more : List (List ℕ)) → AreWritten w rules m lists i clean pieces
    → (b : Binding) → i < length m.bindings → b ≡ get_or m.bindings i b → (o : Option (List ℕ)) → o ≡ (if is_clean (lists i) then Some (piece w (prefix_by rules m.rule b) (held_range (trees w) m.node.tree b) (lists i)) else None)
    → made ≡ (is_some o && clean) → more ≡ pieces ++ option_to_list o → AreWritten w rules m lists (i + 1) made more
written-more w rules m lists i clean made pieces more so_far b lt at o told made_is more_is =
    let from = bound_from m.bindings i b lt at in
    let rest : List (ℕ × Binding) = enumerate_from (i + 1) (drop (i + 1) m.bindings) in
    let it : List ℕ = piece w (prefix_by rules m.rule b) (held_range (trees w) m.node.tree b) (lists i) in
    record {
      clean_lists = clean_more (all_clean lists (enumerate_from 0 m.bindings)) clean (is_clean (lists i)) (all_clean lists rest) made o it
          (so_far.clean_lists ∙ ap (λ (bound : List (ℕ × Binding)). clean && all_clean lists bound) from) told made_is;
      written = pieces_more (pieces_of w rules m lists (enumerate_from 0 m.bindings)) (pieces_of w rules m lists rest) pieces more (is_clean (lists i)) o it clean made
          (λ sure. ap (λ (bound : List (ℕ × Binding)). pieces ++ pieces_of w rules m lists bound) (sym from) ∙ so_far.written sure) told made_is more_is;
    }

pub noted-more : (m : FoundMatch) (lists : ℕ → List Rewrite) (i : ℕ) (was now next : Option Clash) → AreNoted m lists i was now → (b : Binding) → i < length m.bindings → b ≡ get_or m.bindings i b
    → (c : Option Clash) → IsFirst (clashes (lists i)) c → next ≡ lesser c now → AreNoted m lists (i + 1) was next
noted-more m lists i was now next so_far b lt at c first noted =
    let from = bound_from m.bindings i b lt at in
    let rest : List (ℕ × Binding) = enumerate_from (i + 1) (drop (i + 1) m.bindings) in
    record {
      before = so_far.before ++ clashes (lists i);
      split = append_assoc so_far.before (clashes (lists i)) (clashes_in lists rest)
          ∙ (ap (λ (bound : List (ℕ × Binding)). so_far.before ++ clashes_in lists bound) (sym from) ∙ so_far.split);
      first = λ rests h.
          IsFirst-moved (clashes (lists i)) so_far.before rests next
          (subst (IsFirst (clashes (lists i) ++ (so_far.before ++ rests))) (sym noted) (IsFirst-append (clashes (lists i)) (so_far.before ++ rests) c now first (so_far.first rests h)));
    }

-- ** All of them.

bound_none : (bs : List Binding) (i : ℕ) → length bs ≤ i → enumerate_from i (drop i bs) ≡ []
bound_none bs i le = ap (enumerate_from i) (drop_all i bs le)

by_clean : (all clean : Bool) (pieces whole : List (List ℕ)) → all ≡ clean → (clean ≡ true → pieces ≡ whole)
    → (if clean then Some pieces else None) ≡ (if all then Some whole else None)
by_clean all true pieces whole is same = rw is (ap Some (same refl))
by_clean all false pieces whole is same = rw is refl

pub taken_pieces : (kept : Kept) (listing : Listing) (rules : List ResolvedRule) (m : FoundMatch) (n i : ℕ) (old cur : List (Option (List ℕ))) (clean : Bool) (pieces : List (List ℕ)) (was now : Option Clash)
    → AreTaken kept listing rules m n i old cur clean pieces was now → length m.bindings ≤ i
    → (if clean then Some pieces else None) ≡ pieces_by kept.workspace rules m (list_under kept listing (text_in old) n)
taken_pieces kept listing rules m n i old cur clean pieces was now all le =
    let lists : ℕ → List Rewrite = list_under kept listing (text_in old) n in
    let none = bound_none m.bindings i le in
    by_clean (all_clean lists (enumerate_from 0 m.bindings)) clean pieces (pieces_of kept.workspace rules m lists (enumerate_from 0 m.bindings))
    (all.written.clean_lists ∙ (ap (λ (bound : List (ℕ × Binding)). clean && all_clean lists bound) none ∙ and-true clean))
    (λ sure. sym (append-nil pieces) ∙ (ap (λ (bound : List (ℕ × Binding)). pieces ++ pieces_of kept.workspace rules m lists bound) (sym none) ∙ all.written.written sure))

pub taken_clashes : (kept : Kept) (listing : Listing) (rules : List ResolvedRule) (m : FoundMatch) (n i : ℕ) (old cur : List (Option (List ℕ))) (clean : Bool) (pieces : List (List ℕ)) (was now : Option Clash)
    → AreTaken kept listing rules m n i old cur clean pieces was now → length m.bindings ≤ i
    → (others : List Clash) → IsFirst others was → IsFirst (clashes_in (list_under kept listing (text_in old) n) (enumerate_from 0 m.bindings) ++ others) now
taken_clashes kept listing rules m n i old cur clean pieces was now all le others h =
    let lists : ℕ → List Rewrite = list_under kept listing (text_in old) n in
    let none = bound_none m.bindings i le in
    subst (λ (cs : List Clash). IsFirst (cs ++ others) now)
    (sym (append-nil all.noted.before) ∙ (ap (λ (bound : List (ℕ × Binding)). all.noted.before ++ clashes_in lists bound) (sym none) ∙ all.noted.split))
    (all.noted.first others h)

-- ** A text of its pieces.

pub text_of_pieces : (w : Workspace) (by : Writing) (m : FoundMatch) (lists : ℕ → List Rewrite)
    → option_map (text_of_match w by m) (pieces_by w by.rules m lists) ≡ text_by w by m lists
text_of_pieces w by m lists = at (all_clean lists (enumerate_from 0 m.bindings))
  where
    at : (b : Bool) → option_map (text_of_match w by m) (if b then Some (pieces_of w by.rules m lists (enumerate_from 0 m.bindings)) else None)
        ≡ (if b then Some (text_of_match w by m (pieces_of w by.rules m lists (enumerate_from 0 m.bindings))) else None)
    at true = refl
    at false = refl
