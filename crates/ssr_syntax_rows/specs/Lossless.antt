-- The tree of a text with all of the text's tokens. White space and comments are children of the innermost node that
-- spans them, so a node begins and ends with a token that is neither; those around all other tokens are the root's.
use Rattle.std.specs.Prelude.{ℕ, zero, suc, if◌then◌else◌, ⊤, ◌≡◌, false, reverse, List, [], ◌∷◌, length}
use Rattle.ssr_syntax_kinds.specs.declared.kinds.SyntaxKind.{SyntaxKind}
use Rattle.ssr_syntax_kinds.specs.Kinds.{is_trivia}
use Rattle.ssr_syntax_tree.specs.Syntax as plain
use Rattle.ssr_syntax_forms.specs.Trees as solid

-- the white space and comments in front
abbrev pub trivia : List plain.Token → List plain.Token
trivia [] = []
trivia (t ∷ ts) = if is_trivia t.kind then t ∷ trivia ts else []

-- the tokens behind the white space and comments in front
abbrev pub behind_trivia : List plain.Token → List plain.Token
behind_trivia [] = []
behind_trivia (t ∷ ts) = if is_trivia t.kind then behind_trivia ts else t ∷ ts

-- the white space and comments in front of the next n solid tokens: none where there is no such token
abbrev pub gap : ℕ → List plain.Token → List plain.Token
gap zero ts = []
gap (suc n) ts = trivia ts

abbrev pub behind_gap : ℕ → List plain.Token → List plain.Token
behind_gap zero ts = ts
behind_gap (suc n) ts = behind_trivia ts

-- the tokens up to the n-th solid one
abbrev pub upto : ℕ → List plain.Token → List plain.Token
upto n [] = []
upto zero (t ∷ ts) = []
upto (suc n) (t ∷ ts) = t ∷ upto (if is_trivia t.kind then suc n else n) ts

-- the tokens past the n-th solid one
abbrev pub past : ℕ → List plain.Token → List plain.Token
past n [] = []
past zero (t ∷ ts) = t ∷ ts
past (suc n) (t ∷ ts) = past (if is_trivia t.kind then suc n else n) ts

-- tokens, and siblings to their right
abbrev pub before : List plain.Token → plain.Forest → plain.Forest
before [] x = x
before (t ∷ ts) x = plain.leaf t (before ts x)

-- siblings, and tokens to their right
abbrev pub behind : plain.Forest → List plain.Token → plain.Forest
behind plain.nothing ts = before ts plain.nothing
behind (plain.leaf token next) ts = plain.leaf token (behind next ts)
behind (plain.branch kind below next) ts = plain.branch kind below (behind next ts)

-- The siblings, with the tokens ts. A token that is joined from several has the text of all of them.
abbrev pub lossless : solid.Forest → List plain.Token → plain.Forest
lossless solid.done ts = plain.nothing
lossless (solid.leaf kind tokens next) ts =
    let n = length tokens in
    before (gap n ts)
    (plain.leaf (record { kind = kind; text = plain.spelled (upto n (behind_gap n ts)) }) (lossless next (past n ts)))
lossless (solid.tree kind kids next) ts =
    let n = length (solid.spell kids) in
    before (gap n ts) (plain.branch kind (lossless kids (behind_gap n ts)) (lossless next (past n ts)))

-- a whole tree: its root's kind, what is below the root, and all tokens
abbrev pub whole_tree : SyntaxKind → solid.Forest → List plain.Token → plain.Syntax
whole_tree kind kids ts =
    record { kind = kind; children = behind (lossless kids ts) (past (length (solid.spell kids)) ts) }

-- ** Where white space and comments don't stand.

-- each of the nodes begins and ends with a token that is no white space and no comment
abbrev pub IsTrimmed : plain.Forest → Type 0
IsTrimmed plain.nothing = ⊤
IsTrimmed (plain.leaf token next) = IsTrimmed next
IsTrimmed (plain.branch kind below next) =
    (plain.begins_with_trivia (plain.tokens_in below) ≡ false)
    × (plain.begins_with_trivia (reverse (plain.tokens_in below)) ≡ false)
    × IsTrimmed below
    × IsTrimmed next
