-- One more element of a list that is walked from the left.
use Rattle.std.proofs.Common.{◌≡◌, ℕ, ◌+◌, ◌<◌, ◌≤◌, List, [], ◌∷◌, ◌++◌, map, length, take, get_or, Option, Some, None, ap, ◌∙◌, sym, arith, append_assoc, append-nil, ◌^◌, string_bytes}
use Rattle.std.proofs.lemmas.List.{take_more, length-map}
use Rattle.std.proofs.lemmas.List.Elements.{filter_map-append}
use Rattle.std.specs.declared.alloc.Global.{Global}
use Rattle.std.specs.declared.string.String.{String}
use Rattle.std.specs.List.{cons_option, filter_map}
use Rattle.ide_ssr_rules.specs.declared.elements.Element.{Element}
use Rattle.ide_ssr_rules.specs.declared.elements.Element.TheVariants as e
use Rattle.ide_ssr_rules.specs.Elements.{names_of}

next_taken : {X : Type 0} (xs : List X) (i : ℕ) (x : X) → i < length xs → x ≡ get_or xs i x → take (i + 1) xs ≡ take i xs ++ x ∷ []
next_taken xs i x small is = take_more xs i x small ∙ ap (λ y. take i xs ++ y ∷ []) (sym is)

-- what elements tell, one by one
module _ {A : Type 0} (tell : Element → Option A) (es : List Element) (i : ℕ) (x : Element) where
  one_more : i < length es → x ≡ get_or es i x → filter_map tell (take (i + 1) es) ≡ filter_map tell (take i es) ++ filter_map tell (x ∷ [])
  one_more small is = ap (filter_map tell) (next_taken es i x small is) ∙ filter_map-append tell (take i es) (x ∷ [])

  pub told_next : (told : A) (start old new : List A) → i < length es → x ≡ get_or es i x → tell x ≡ Some told
      → old ≡ start ++ filter_map tell (take i es) → new ≡ old ++ told ∷ [] → new ≡ start ++ filter_map tell (take (i + 1) es)
  told_next told start old new small is tells so_far pushed =
      pushed ∙ ap (λ xs. xs ++ told ∷ []) so_far ∙ append_assoc start (filter_map tell (take i es)) (told ∷ [])
      ∙ ap (λ o. start ++ (filter_map tell (take i es) ++ cons_option o [])) (sym tells)
      ∙ ap (λ xs. start ++ xs) (sym (one_more small is))

  pub told_nothing : (start old : List A) → i < length es → x ≡ get_or es i x → tell x ≡ None
      → old ≡ start ++ filter_map tell (take i es) → old ≡ start ++ filter_map tell (take (i + 1) es)
  told_nothing start old small is none so_far =
      so_far ∙ ap (λ xs. start ++ xs) (sym (append-nil (filter_map tell (take i es))))
      ∙ ap (λ o. start ++ (filter_map tell (take i es) ++ cons_option o [])) (sym none)
      ∙ ap (λ xs. start ++ xs) (sym (one_more small is))

names_within : (es : List Element) → length (names_of es) ≤ length es
names_within [] = omega arith
names_within (e.Token token ∷ es) = omega (arith, names_within es)
names_within (e.Placeholder name ∷ es) = omega (arith, names_within es)

pub names_few : (es : List Element) (texts : List (String Global)) (names : List (List ℕ)) → length es < 2 ^ 32 → map string_bytes texts ≡ names → names ≡ names_of es → length texts < 2 ^ 32
names_few es texts names few spelled are = omega (arith, few, names_within es, ap length spelled, ap length are, length-map texts string_bytes)
