-- What is left of the elements of a token tree.
use Rattle.std.proofs.Common.{◌≡◌, ℕ, zero, suc, ◌≤◌, true, false, not, cond, List, [], ◌∷◌, ◌++◌, All, map, Option, None, option_to_list, refl, sym, ◌∙◌, ap, subst, arith, append_assoc}
use Rattle.ssr_syntax_tree.specs.declared.number.Element.{Element}
use Rattle.ssr_syntax_tree.specs.Syntax.{Syntax}
use Rattle.ssr_syntax_tree.specs.Places.{Part, part_of}
use Rattle.ide_ssr_token_trees.specs.declared.siblings.Siblings.{Siblings}
use Rattle.ide_ssr_token_trees.specs.Bindings.{passed}
use Rattle.ide_ssr_token_trees.specs.Elements.{is_trivia_part, without_trivia, tokens_among, next_text}
use Rattle.ide_ssr_token_trees.specs.Private.Siblings.{siblings_left, parts_left, number_of, IsRest}
use Rattle.ide_ssr_token_trees.specs.TokenTrees.{is_passed}

pub not_held : (s : Siblings) → s.held ≡ None → siblings_left s ≡ s.left
not_held s none = ap (λ held. option_to_list held ++ s.left) none

pub rest_same : (s : Siblings) → IsRest s [] s
rest_same s = record { passed = []; left = refl; comma = refl }

-- the next one
pub rest_next : (before now after : Siblings) (x : Element) → IsRest before [] now → siblings_left now ≡ x ∷ siblings_left after → after.comma ≡ now.comma
    → IsRest before (x ∷ []) after
rest_next before now after x rest is same = record {
  passed = rest.passed;
  left = rest.left ∙ ap (λ xs. rest.passed ++ xs) is;
  comma = rest.comma ∙ sym same;
}

-- it may be passed
pub rest_passed : (before after : Siblings) (x : Element) → IsRest before (x ∷ []) after → IsRest before [] after
rest_passed before after x rest = record {
  passed = rest.passed ++ x ∷ [];
  left = rest.left ∙ sym (append_assoc rest.passed (x ∷ []) (siblings_left after));
  comma = rest.comma;
}

-- or held again, if there is one
pub rest_back : (before after : Siblings) (came : Option Element) → IsRest before (option_to_list came) after → after.held ≡ None
    → IsRest before [] (record { comma = after.comma; held = came; left = after.left })
rest_back before after came rest none = record {
  passed = rest.passed;
  left = rest.left ∙ ap (λ xs. rest.passed ++ (option_to_list came ++ xs)) (not_held after none);
  comma = rest.comma;
}

pub parts_back : (tree : Syntax) (after : Siblings) (came : Option Element) → after.held ≡ None
    → map (part_of tree) (option_to_list came ++ after.left) ≡ map (part_of tree) (option_to_list came ++ siblings_left after)
parts_back tree after came none = ap (λ xs. map (part_of tree) (option_to_list came ++ xs)) (sym (not_held after none))

pub rest_then : (a b c : Siblings) (came : List Element) → IsRest a [] b → IsRest b came c → IsRest a came c
rest_then a b c came first second = record {
  passed = first.passed ++ second.passed;
  left = first.left ∙ ap (λ xs. first.passed ++ xs) second.left ∙ sym (append_assoc first.passed second.passed (came ++ siblings_left c));
  comma = first.comma ∙ second.comma;
}

all_right : (P : Element → Type 0) (xs ys : List Element) → All P (xs ++ ys) → All P ys
all_right P [] ys all = all
all_right P (x ∷ xs) ys all = all_right P xs ys (λ i d less. all (suc i) d (omega arith))

-- what is true of each before is true of each that is left
pub rest_all : (P : Element → Type 0) (before after : Siblings) (came : List Element) → IsRest before came after → All P (siblings_left before)
    → All P (came ++ siblings_left after)
rest_all P before after came rest all = all_right P rest.passed (came ++ siblings_left after) (subst (All P) rest.left all)

pub rest_first : (P : Element → Type 0) (before after : Siblings) (x : Element) → IsRest before (x ∷ []) after → All P (siblings_left before) → P x
rest_first P before after x rest all = rest_all P before after (x ∷ []) rest all zero x (omega arith)

tokens_right : (tree : Syntax) (xs ys : List Element) → tokens_among (map (part_of tree) ys) ≤ tokens_among (map (part_of tree) (xs ++ ys))
tokens_right tree [] ys = omega arith
tokens_right tree (x ∷ xs) ys = omega (arith, tokens_right tree xs ys)

-- there are no more tokens than before
pub rest_few : (tree : Syntax) (before after : Siblings) (came : List Element) → IsRest before came after
    → tokens_among (map (part_of tree) (came ++ siblings_left after)) ≤ tokens_among (parts_left tree before)
rest_few tree before after came rest =
    subst (λ xs. tokens_among (map (part_of tree) (came ++ siblings_left after)) ≤ tokens_among (map (part_of tree) xs)) (sym rest.left)
    (tokens_right tree rest.passed (came ++ siblings_left after))

-- ** Passing elements.

trivia_passed : (x : Part) (xs : List Part) → is_trivia_part x ≡ true → without_trivia (x ∷ xs) ≡ without_trivia xs
trivia_passed x xs is = ap (λ b. cond (not b) (x ∷ without_trivia xs) (without_trivia xs)) is

pub other_kept : (x : Part) (xs : List Part) → is_trivia_part x ≡ false → without_trivia (x ∷ xs) ≡ x ∷ without_trivia xs
other_kept x xs is = ap (λ b. cond (not b) (x ∷ without_trivia xs) (without_trivia xs)) is

-- so far only trivia came
pub record TriviaCame (tree : Syntax) (before now : Siblings) : Type 0 where
  pub rest : IsRest before [] now
  pub same : without_trivia (parts_left tree before) ≡ without_trivia (parts_left tree now)

pub trivia_came : (tree : Syntax) (before now after : Siblings) (x : Element) → TriviaCame tree before now → siblings_left now ≡ x ∷ siblings_left after
    → after.comma ≡ now.comma → is_trivia_part (part_of tree x) ≡ true → TriviaCame tree before after
trivia_came tree before now after x so_far is comma trivia = record {
  rest = rest_passed before after x (rest_next before now after x so_far.rest is comma);
  same = so_far.same ∙ ap (λ xs. without_trivia (map (part_of tree) xs)) is ∙ trivia_passed (part_of tree x) (parts_left tree after) trivia;
}

pub solid_came : (tree : Syntax) (before now after : Siblings) (x : Element) → TriviaCame tree before now → siblings_left now ≡ x ∷ siblings_left after
    → is_trivia_part (part_of tree x) ≡ false → without_trivia (parts_left tree before) ≡ part_of tree x ∷ without_trivia (parts_left tree after)
solid_came tree before now after x so_far is other =
    so_far.same ∙ ap (λ xs. without_trivia (map (part_of tree) xs)) is ∙ other_kept (part_of tree x) (parts_left tree after) other

-- so far only such came as are passed over
pub record PassedCame (tree : Syntax) (before now : Siblings) : Type 0 where
  pub rest : IsRest before [] now
  pub same : passed (number_of before.comma) (parts_left tree before) ≡ passed (number_of before.comma) (parts_left tree now)

pub passed_came : (tree : Syntax) (before now after : Siblings) (x : Element) → PassedCame tree before now → siblings_left now ≡ x ∷ siblings_left after
    → after.comma ≡ now.comma → is_passed (number_of after.comma) (part_of tree x) ≡ true → PassedCame tree before after
passed_came tree before now after x so_far is comma passes =
    let rest = rest_next before now after x so_far.rest is comma in
    record {
      rest = rest_passed before after x rest;
      same = so_far.same ∙ ap (λ xs. passed (number_of before.comma) (map (part_of tree) xs)) is
          ∙ ap (λ b. cond b (passed (number_of before.comma) (parts_left tree after)) (part_of tree x ∷ parts_left tree after))
          (ap (λ comma. is_passed (number_of comma) (part_of tree x)) rest.comma ∙ passes);
    }

pub counted_came : (tree : Syntax) (before now after : Siblings) (x : Element) → PassedCame tree before now → siblings_left now ≡ x ∷ siblings_left after
    → after.comma ≡ now.comma → is_passed (number_of after.comma) (part_of tree x) ≡ false
    → passed (number_of before.comma) (parts_left tree before) ≡ part_of tree x ∷ parts_left tree after
counted_came tree before now after x so_far is comma counts =
    so_far.same ∙ ap (λ xs. passed (number_of before.comma) (map (part_of tree) xs)) is
    ∙ ap (λ b. cond b (passed (number_of before.comma) (parts_left tree after)) (part_of tree x ∷ parts_left tree after))
    (ap (λ comma. is_passed (number_of comma) (part_of tree x)) ((rest_next before now after x so_far.rest is comma).comma) ∙ counts)

-- nothing is left
pub all_passed : (tree : Syntax) (before now after : Siblings) → PassedCame tree before now → siblings_left now ≡ siblings_left after → siblings_left after ≡ []
    → passed (number_of before.comma) (parts_left tree before) ≡ parts_left tree after
all_passed tree before now after so_far is none =
    so_far.same
    ∙ ap (λ xs. passed (number_of before.comma) (map (part_of tree) xs)) (is ∙ none)
    ∙ ap (map (part_of tree)) (sym none)

-- ** Looking at the next one.

pub text_same : (tree : Syntax) (before after : Siblings) (x : Element) → without_trivia (parts_left tree before) ≡ part_of tree x ∷ without_trivia (parts_left tree after)
    → is_trivia_part (part_of tree x) ≡ false → after.held ≡ None
    → without_trivia (part_of tree x ∷ map (part_of tree) after.left) ≡ without_trivia (parts_left tree before)
text_same tree before after x gives solid none =
    ap (λ xs. without_trivia (part_of tree x ∷ map (part_of tree) xs)) (sym (not_held after none))
    ∙ other_kept (part_of tree x) (parts_left tree after) solid
    ∙ sym gives

pub text_none : (tree : Syntax) (before after : Siblings) → without_trivia (parts_left tree before) ≡ without_trivia (parts_left tree after) → siblings_left after ≡ []
    → ◌≡◌ {A = Option (List ℕ)} None (next_text (without_trivia (parts_left tree before)))
text_none tree before after gives none = sym (ap next_text (gives ∙ ap (λ xs. without_trivia (map (part_of tree) xs)) none))
