-- What each workspace keeps that grows from files by expansions.
use Rattle.std.proofs.Common.{◌≡◌, ◌≢◌, ℕ, ◌+◌, ◌≤◌, Bool, false, List, [], ◌∷◌, ◌++◌, All, length, map, reverse, Option, Some, None, refl, sym, ap, ◌∙◌, subst, inl, inr, arith}
use Rattle.std.proofs.lemmas.Bool.{cases_Bool, cond-true, cond-false}
use Rattle.std.proofs.lemmas.List.{append-nil, map-append, reverse-append, length-append}
use Rattle.std.proofs.lemmas.List.Elements.{All-nil, All-cons, All-push, All-weaker}
use Rattle.std.proofs.lemmas.List.Quantifiers.{all_pairs_push}
use Rattle.std.specs.List.{AllPass, position_from}
use Rattle.std.specs.Option.{option_map}
use Rattle.ssr_syntax_kinds.specs.declared.reach.Reach.{Reach}
use Rattle.ssr_syntax_kinds.specs.declared.reach.Reach.TheVariants.{Stated}
use Rattle.ssr_syntax_tree.specs.Syntax.{Syntax, depth_of, most_deep}
use Rattle.ssr_syntax_tree.specs.Places.{node_of}
use Rattle.ssr_syntax_kinds.specs.declared.kinds.SyntaxKind.TheVariants as k
use Rattle.ssr_base_trees.specs.declared.ids.NodeId.{NodeId}
use Rattle.ssr_base_trees.specs.Workspace.{Expanded, Workspace, PlacedTree, of_file, of_expansion, trees, with_number, nesting, same_id, node_id, expansion_of}
use Rattle.ssr_base_trees.specs.Built.{most_trees, most_nested, IsMacroCall, CallsAreEarlier, HasOrigins, HasTexts, IsBuilt}
use Rattle.ssr_base_trees.specs.Origins.{fits_origin}
use Rattle.ssr_base_trees.proofs.Numbers.{trees_more, same_id-itself}
use Rattle.ssr_base_trees.proofs.Placing.{some_and, known_more, text_more, nesting_more}
use Rattle.ssr_base_trees.specs.Growth.{only_files_of, no_tree, IsOfCall}

-- ** Files.

trees_file : (reach : Reach) (files : List Syntax) (tree : Syntax) → trees (only_files_of reach (files ++ tree ∷ [])) ≡ of_file tree ∷ trees (only_files_of reach files)
unfolding trees
trees_file reach files tree =
    ap reverse (append-nil (map of_file (files ++ tree ∷ [])))
    ∙ ap reverse (map-append of_file files (tree ∷ []))
    ∙ reverse-append (map of_file files) (of_file tree ∷ [])
    ∙ ap (λ ts. of_file tree ∷ reverse ts) (sym (append-nil (map of_file files)))

no_trees : (reach : Reach) → trees (only_files_of reach []) ≡ []
unfolding trees
no_trees reach = refl

pub built_none_of : (reach : Reach) → IsBuilt (only_files_of reach [])
built_none_of reach = record {
  few = omega arith;
  grown = subst CallsAreEarlier (sym (no_trees reach)) tt;
  calls = All-nil (λ e. IsMacroCall (trees (only_files_of reach [])) e.call);
  once = λ i j d before within. absurd (omega arith);
  nested = λ t. subst (λ ts. nesting ts t ≤ most_nested) (sym (no_trees reach)) (omega arith);
  origins = All-nil (HasOrigins (trees (only_files_of reach [])));
  shallow = subst (All (λ p. depth_of p.syntax ≤ most_deep)) (sym (no_trees reach)) (All-nil (λ p. depth_of p.syntax ≤ most_deep));
  texts = All-nil HasTexts;
}

pub built_none : IsBuilt no_tree
built_none = built_none_of Stated

pub built_file : (reach : Reach) (files : List Syntax) (tree : Syntax) → length files + 1 ≤ most_trees → IsBuilt (only_files_of reach files) → depth_of tree ≤ most_deep → HasTexts tree
    → IsBuilt (only_files_of reach (files ++ tree ∷ []))
built_file reach files tree room b shallow text =
    let earlier = trees (only_files_of reach files) in
    let more = trees_file reach files tree in
    record {
      few = omega (arith, length-append files (tree ∷ []));
      grown = subst CallsAreEarlier (sym more) (tt, b.grown);
      calls = All-nil (λ e. IsMacroCall (trees (only_files_of reach (files ++ tree ∷ []))) e.call);
      once = λ i j d before within. absurd (omega arith);
      nested = λ t. subst (λ ts. nesting ts t ≤ most_nested) (sym more) (nesting_more (of_file tree) earlier most_nested b.nested (omega arith) t);
      origins = All-nil (HasOrigins (trees (only_files_of reach (files ++ tree ∷ []))));
      shallow =
          subst (All (λ p. depth_of p.syntax ≤ most_deep)) (sym more)
          (All-cons (λ p. depth_of p.syntax ≤ most_deep) (of_file tree) earlier shallow b.shallow);
      texts = All-push HasTexts files tree b.texts text;
    }

-- ** Expansions.

-- none of the calls is one that has no expansion yet
not_found : {A : Type 0} (test : A → Bool) (i : ℕ) (xs : List A) → position_from test i xs ≡ None → All (λ x. test x ≡ false) xs
not_found test i [] none = All-nil (λ x. test x ≡ false)
not_found test i (x ∷ xs) none =
    elim (cases_Bool (test x)) [
      | inl passes ↦ cc (cond-true (test x) (Some i) (position_from test (i + 1) xs) passes)
      | inr fails ↦
          All-cons (λ x. test x ≡ false) x xs fails
          (not_found test (i + 1) xs (sym (cond-false (test x) (Some i) (position_from test (i + 1) xs) fails) ∙ none))
    ]

unmapped : {A B : Type 0} (f : A → B) (o : Option A) → option_map f o ≡ None → o ≡ None
unmapped f None is = refl
unmapped f (Some x) is = cc

other_calls : (w : Workspace) (call : NodeId) → expansion_of w call ≡ None → All (λ e. e.call ≢ call) w.expansions
other_calls w call free =
    All-weaker (λ (e : Expanded). same_id call e.call ≡ false) (λ (e : Expanded). e.call ≢ call)
    (λ e other same. cc (other, ap (same_id call) same, same_id-itself call))
    w.expansions
    (not_found (λ (e : Expanded). same_id call e.call) 0 w.expansions
    (unmapped (λ n. node_id (length w.files + n) 0) (position_from (λ e. same_id call e.call) 0 w.expansions) free))

has_more : (q : PlacedTree) (earlier : List PlacedTree) (e : Expanded) → CallsAreEarlier earlier → IsMacroCall earlier e.call → HasOrigins earlier e → HasOrigins (q ∷ earlier) e
has_more q earlier e grown call has =
    let at = some_and (with_number earlier e.call.tree) (λ p. (node_of p.syntax e.call.node.0).kind ≡ k.MACRO_CALL) call in
    record {
      counted = has.counted;
      fitting =
          subst (λ text. AllPass (fits_origin text) e.origins) (sym (text_more q earlier e.call.tree at.0 grown at.1)) has.fitting;
    }

pub built_expansion : (w : Workspace) (e : Expanded) → length w.files + length w.expansions + 1 ≤ most_trees → IsBuilt w → IsOfCall w e
    → expansion_of w e.call ≡ None → 1 + nesting (trees w) e.call.tree ≤ most_nested
    → IsBuilt (record { reach = w.reach; files = w.files; expansions = w.expansions ++ e ∷ [] })
built_expansion w e room b added free deep =
    let earlier = trees w in
    let q = of_expansion e in
    let more = trees_more w.reach w.files w.expansions e in
    let Calls : List PlacedTree → Type 0 = λ ts. All (λ e. IsMacroCall ts e.call) (w.expansions ++ e ∷ []) in
    let Origins : List PlacedTree → Type 0 = λ ts. All (HasOrigins ts) (w.expansions ++ e ∷ []) in
    let call_more : (x : Expanded) → IsMacroCall earlier x.call → IsMacroCall (q ∷ earlier) x.call =
    λ x call. known_more (λ p. (node_of p.syntax x.call.node.0).kind ≡ k.MACRO_CALL) q earlier x.call.tree call in
    record {
      few = omega (arith, length-append w.expansions (e ∷ []));
      grown = subst CallsAreEarlier (sym more) (added.node, b.grown);
      calls =
          subst Calls (sym more)
          (All-push (λ x. IsMacroCall (q ∷ earlier) x.call) w.expansions e
          (All-weaker (λ x. IsMacroCall earlier x.call) (λ x. IsMacroCall (q ∷ earlier) x.call) call_more w.expansions b.calls)
          (call_more e added.macro_call));
      once = all_pairs_push (λ (a b : Expanded). a.call ≢ b.call) w.expansions e b.once (λ i d within. other_calls w e.call free i d within);
      nested = λ t. subst (λ ts. nesting ts t ≤ most_nested) (sym more) (nesting_more q earlier most_nested b.nested deep t);
      origins =
          subst Origins (sym more)
          (All-push (HasOrigins (q ∷ earlier)) w.expansions e
          (All-weaker (λ x. IsMacroCall earlier x.call × HasOrigins earlier x) (HasOrigins (q ∷ earlier))
          (λ x known. has_more q earlier x b.grown known.0 known.1) w.expansions
          (λ i d within. (b.calls i d within, b.origins i d within)))
          (has_more q earlier e b.grown added.macro_call added.origins));
      shallow =
          subst (All (λ p. depth_of p.syntax ≤ most_deep)) (sym more)
          (All-cons (λ p. depth_of p.syntax ≤ most_deep) q earlier added.shallow b.shallow);
      texts = b.texts;
    }
