-- Precedence: how tightly each expression binds, and what that asks of its operands.
use Rattle.std.specs.Prelude.{◌≡◌, ℕ, suc, ◌+◌, ◌<◌, ◌≤◌, Bool, true, false, ◌&&◌, ◌||◌, if◌then◌else◌, ⊤, ◌⊎◌, List, [], ◌∷◌, length}
use Rattle.ssr_syntax_kinds.specs.Kinds.{same_kind}
use Rattle.ssr_syntax_kinds.specs.Reach.{is_whole}
use Rattle.ssr_syntax_kinds.specs.declared.reach.Reach.{Reach}
use Rattle.ssr_syntax_kinds.specs.declared.reach.Reach.TheVariants.{Stated}
use Rattle.ssr_syntax_kinds.specs.declared.kinds.SyntaxKind.{SyntaxKind}
use Rattle.ssr_syntax_kinds.specs.declared.kinds.SyntaxKind.TheVariants as k
use Rattle.ssr_syntax_forms.specs.Kinds.{mem}
use Rattle.ssr_syntax_forms.specs.Trees.{Forest, done, leaf, tree}
use Rattle.ssr_syntax_exprs.specs.Expressions.{assignments, ranks}

-- Precedence is a number: the lower it is, the tighter a node binds. Operators in the first row of `ranks` follow on casts,
-- which have 3. Behind those in the last row come ranges, then assignments, and last `return`, `break` and closures.
abbrev pub of_ranges : ℕ
of_ranges = 4 + length ranks

-- the number of the row that an operator stands in; behind all rows what stands in none
abbrev pub row_in : List (List SyntaxKind) → SyntaxKind → ℕ
row_in [] kind = 0
row_in (ks ∷ rows) kind = if mem kind ks then 0 else suc (row_in rows kind)

abbrev pub of_operator : SyntaxKind → ℕ
of_operator kind = if mem kind assignments then 1 + of_ranges else 4 + row_in ranks kind

-- the precedence that the first token among siblings has as an operator; without a token 0
abbrev pub of_first_token : Forest → ℕ
of_first_token done = 0
of_first_token (leaf kind us x) = of_operator kind
of_first_token (tree kind kids x) = of_first_token x

-- `return`, `break` and closures: what leaves a loop, a function or a closure
abbrev pub leaving : List SyntaxKind
leaving = k.RETURN_EXPR ∷ k.BREAK_EXPR ∷ k.CLOSURE_EXPR ∷ []

-- The precedence of a node. What is not named here has 0.
abbrev pub precedence : SyntaxKind → Forest → ℕ
precedence kind kids =
    if mem kind (k.CALL_EXPR ∷ k.METHOD_CALL_EXPR ∷ k.FIELD_EXPR ∷ k.INDEX_EXPR ∷ k.TRY_EXPR ∷ k.AWAIT_EXPR ∷ []) then 1
    else if mem kind (k.PREFIX_EXPR ∷ k.REF_EXPR ∷ k.ATTR_EXPR ∷ []) then 2
    else if same_kind kind k.CAST_EXPR then 3
    else if same_kind kind k.BIN_EXPR then of_first_token kids
    else if same_kind kind k.RANGE_EXPR then of_ranges
    else if mem kind leaving then 2 + of_ranges
    else 0

-- ** What leaves, at the right end of an operand.

-- In all of Rust what leaves may be an operand, however loosely it binds.
abbrev pub MayLeave : Reach → SyntaxKind → Type 0
MayLeave reach kind = (is_whole reach && mem kind leaving) ≡ true

-- a node binds at least as tightly as the limit, or may leave
abbrev pub HasAtMost : Reach → ℕ → SyntaxKind → Forest → Type 0
HasAtMost reach limit kind kids = (precedence kind kids ≤ limit) ⊎ MayLeave reach kind

-- a node binds tighter than the limit, or may leave
abbrev pub HasLess : Reach → ℕ → SyntaxKind → Forest → Type 0
HasLess reach limit kind kids = (precedence kind kids < limit) ⊎ MayLeave reach kind

-- what ends with an operand, if it has one behind its operator
abbrev pub open_ended : List SyntaxKind
open_ended = k.PREFIX_EXPR ∷ k.REF_EXPR ∷ k.ATTR_EXPR ∷ k.BIN_EXPR ∷ k.RANGE_EXPR ∷ k.LET_EXPR ∷ []

-- siblings end with what leaves: the last one does or, where it is open-ended, its own children do; `before` is so of what stands
-- in front of them
abbrev pub ends_leaving : Bool → Forest → Bool
ends_leaving before done = before
ends_leaving before (leaf kind us x) = ends_leaving false x
ends_leaving before (tree kind kids x) = ends_leaving (mem kind leaving || mem kind open_ended && ends_leaving false kids) x

-- the first node among siblings doesn't end with what leaves, if anything stands behind it
abbrev pub FirstEnds : Forest → Type 0
FirstEnds done = ⊤
FirstEnds (leaf kind us x) = FirstEnds x
FirstEnds (tree kind kids x) = (x ≡ done) ⊎ (ends_leaving false (tree kind kids done) ≡ false)

-- ** What is asked of operands.

-- there is a node among siblings, and the first has at most this precedence
abbrev pub FirstHasAtMost : Reach → ℕ → Forest → Type 0
FirstHasAtMost reach limit done = ⊥
FirstHasAtMost reach limit (leaf kind us x) = FirstHasAtMost reach limit x
FirstHasAtMost reach limit (tree kind kids x) = HasAtMost reach limit kind kids

-- each node among siblings has a precedence below the limit
abbrev pub AllHaveLess : Reach → ℕ → Forest → Type 0
AllHaveLess reach limit done = ⊤
AllHaveLess reach limit (leaf kind us x) = AllHaveLess reach limit x
AllHaveLess reach limit (tree kind kids x) = HasLess reach limit kind kids × AllHaveLess reach limit x

-- An operator in a row has a left operand of at most its own precedence, and a right one of less. An assignment has a left
-- one of less, and any right one.
abbrev pub Binds : Reach → SyntaxKind → ℕ → SyntaxKind → Forest → Type 0
Binds reach operator left right kids =
    ((row_in ranks operator < length ranks) × (left ≤ of_operator operator) × HasLess reach (of_operator operator) right kids)
    ⊎ ((mem operator assignments ≡ true) × (left < of_operator operator))

-- an operator between two nodes
abbrev pub AreOperands : Reach → Forest → Type 0
AreOperands reach (tree left xs (leaf operator us (tree right ys done))) = Binds reach operator (precedence left xs) right ys
AreOperands reach _ = ⊥

-- what a node asks of its children
pub record HasOperands (reach : Reach) (kind : SyntaxKind) (kids : Forest) : Type 0 where
  -- of what goes on with an operand or stands in front of one, and of a cast, the operand binds at least as tightly
  pub first : 0 < precedence kind kids → precedence kind kids < 4 → FirstHasAtMost reach (precedence kind kids) kids
  -- so does the operand behind `&raw const` and behind attributes
  pub prefixed : precedence kind kids ≡ 2 → AllHaveLess reach 3 kids
  -- what leaves takes all that it can, so nothing goes on with an operand that ends with it
  pub alone : 0 < precedence kind kids → FirstEnds kids
  pub both : same_kind kind k.BIN_EXPR ≡ true → AreOperands reach kids
  -- each operand of a range, which may lack them, binds tighter than a range
  pub ends : same_kind kind k.RANGE_EXPR ≡ true → AllHaveLess reach of_ranges kids
  -- what `let` compares with binds tighter than `&&`
  pub value : same_kind kind k.LET_EXPR ≡ true → AllHaveLess reach (of_operator k.AMP2) kids

abbrev pub KeepsPrecedenceOf : Reach → Forest → Type 0
KeepsPrecedenceOf reach done = ⊤
KeepsPrecedenceOf reach (leaf kind us x) = KeepsPrecedenceOf reach x
KeepsPrecedenceOf reach (tree kind kids x) = HasOperands reach kind kids × KeepsPrecedenceOf reach kids × KeepsPrecedenceOf reach x

-- in the stated language
abbrev pub KeepsPrecedence : Forest → Type 0
KeepsPrecedence = KeepsPrecedenceOf Stated
