-- What fits a form: no order and no look-ahead but where the form asks for it.
use Rattle.std.specs.Prelude.{◌≡◌, Bool, true, List, [], ◌∷◌, ◌++◌, length}
use Rattle.ssr_syntax_kinds.specs.declared.kinds.SyntaxKind.{SyntaxKind}
use Rattle.ssr_syntax_forms.specs.declared.tokens.Token.{Token}
use Rattle.ssr_syntax_forms.specs.Trees.{Forest, done, leaf, tree, join, spell}
use Rattle.ssr_syntax_forms.specs.Forms.{Form, one, child, mark, seal, ◌then◌, nothing, choose, many, look, check, wide, Test, Condition, Productions, is_one, more, taken_as, agrees, passes, holds}

-- `Fits grammar form x z us rest`: with x made since the mark, the form takes the tokens us, makes x into z, and the
-- tokens behind us are rest. Each rule is one constructor of forms.
pub data Fits {Goal : Type 0} (grammar : Productions Goal) : Form Goal → Forest → Forest → List Token → List Token → Type 0 where
  token : {whole : Bool} {ks : List SyntaxKind} {x : Forest} {t : Token} {us rest : List Token}
      → is_one whole ks t ≡ true → more whole t ≡ length us
      → Fits grammar (one whole ks) x (join x (leaf (taken_as whole t) (t ∷ us) done)) (t ∷ us) rest
  goal : {asked : Goal} {x y : Forest} {us rest : List Token}
      → Fits grammar (grammar asked) done y us rest → Fits grammar (child asked) x (join x y) us rest
  marked : {f : Form Goal} {x y : Forest} {us rest : List Token}
      → Fits grammar f done y us rest → Fits grammar (mark f) x (join x y) us rest
  sealed : {kind : SyntaxKind} {x : Forest} {rest : List Token} → Fits grammar (seal kind) x (tree kind x done) [] rest
  behind : {f g : Form Goal} {x y z : Forest} {us vs rest : List Token}
      → Fits grammar f x y us (vs ++ rest) → Fits grammar g y z vs rest → Fits grammar (f then g) x z (us ++ vs) rest
  none : {x : Forest} {rest : List Token} → Fits grammar nothing x x [] rest
  first : {test : Test} {f g : Form Goal} {x z : Forest} {us rest : List Token}
      → Fits grammar f x z us rest → Fits grammar (choose test f g) x z us rest
  second : {test : Test} {f g : Form Goal} {x z : Forest} {us rest : List Token}
      → Fits grammar g x z us rest → Fits grammar (choose test f g) x z us rest
  stop : {test : Test} {f : Form Goal} {x : Forest} {rest : List Token} → Fits grammar (many test f) x x [] rest
  turn : {test : Test} {f : Form Goal} {x y z : Forest} {us vs rest : List Token}
      → Fits grammar f x y us (vs ++ rest) → Fits grammar (many test f) y z vs rest → Fits grammar (many test f) x z (us ++ vs) rest
  looked : {want : Bool} {test : Test} {x : Forest} {rest : List Token}
      → agrees want (passes test rest) ≡ true → Fits grammar (look want test) x x [] rest
  checked : {condition : Condition} {x : Forest} {rest : List Token}
      → holds condition (spell x) ≡ true → Fits grammar (check condition) x x [] rest
  stated : {f g : Form Goal} {x z : Forest} {us rest : List Token}
      → Fits grammar g x z us rest → Fits grammar (wide f g) x z us rest
