-- Private: how the steps of the matcher answer.
use Rattle.std.specs.Prelude.{ℕ, ◌≡◌, Bool, true, false, List, Option, Some, None}
use Rattle.ssr_syntax_tree.specs.declared.number.Element.{Element}
use Rattle.ssr_syntax_tree.specs.Syntax.{Token, Syntax, same_token}
use Rattle.ssr_syntax_tree.specs.Places.{Part, token_part, node_part, part_of}
use Rattle.ide_ssr_bindings.specs.declared.bindings.Binding.{Binding}
use Rattle.ide_ssr_token_trees.specs.declared.siblings.Siblings.{Siblings}
use Rattle.ide_ssr_token_trees.specs.Bindings.{joined, part_by, tree_bindings}
use Rattle.ide_ssr_token_trees.specs.Elements.{next_text, without_trivia}
use Rattle.ide_ssr_token_trees.specs.Recording.{Recorded, recorded}
use Rattle.ide_ssr_token_trees.specs.Private.Siblings.{number_of, parts_left}

-- whether an element of the code is a token of this kind and this text
abbrev pub is_same : Token → Part → Bool
is_same token (token_part u c) = same_token token c
is_same token (node_part c) = false

-- how a test of a part of a pattern answers: bindings that come behind those before, where these are recorded, to which those of what is behind it come
pub data Steps (whole behind : Option (List Binding)) (old new : Recorded) (answer : Bool) : Type 0 where
  goes_on : (bs : List Binding) → answer ≡ true → whole ≡ joined (Some bs) behind → new ≡ recorded old bs → Steps whole behind old new answer
  differs : answer ≡ false → whole ≡ None → Steps whole behind old new answer

-- how a test of an element of the pattern answers that stands before the elements `ps`, and is matched at the front of the
-- elements `cs` of the code, of which `ds` are left: whatever comes behind it
abbrev pub ElementSteps : (ℕ → Option ℕ) → Syntax → Element → Siblings → Syntax → Siblings → Siblings → Recorded → Recorded → Bool → Type 0
ElementSteps at pattern p ps code cs ds old new answer =
    (behind : List Part → Option (List Binding))
    → Steps (part_by at (tree_bindings at) (number_of ps.comma) (number_of cs.comma) (part_of pattern p) (next_text (without_trivia (parts_left pattern ps))) behind (parts_left code cs))
    (behind (parts_left code ds)) old new answer
