-- Forms: the grammar as data, each the right side of a production, and how a form is read.
use Rattle.std.specs.Prelude.{ℕ, zero, suc, ◌+◌, ◌-◌, Bool, true, false, not, ◌&&◌, ◌||◌, nat_le, if◌then◌else◌, List, [], ◌∷◌, length, take, drop, Result, Ok, Err}
use Rattle.ssr_syntax_kinds.specs.declared.kinds.SyntaxKind.{SyntaxKind}
use Rattle.ssr_syntax_kinds.specs.declared.kinds.SyntaxKind.TheVariants.{COMMA, SOURCE_FILE}
use Rattle.ssr_syntax_forms.specs.declared.tokens.Token.{Token}
use Rattle.ssr_syntax_forms.specs.declared.fault.Fault.{Fault}
use Rattle.ssr_syntax_forms.specs.declared.fault.Fault.TheVariants as faults
use Rattle.ssr_syntax_forms.specs.Kinds.{mem}
use Rattle.ssr_syntax_forms.specs.Trees.{Forest, done, leaf, tree, join, spell}

-- The kind of what follows the last token. No token has it.
abbrev pub END : SyntaxKind
END = SOURCE_FILE

-- Some strings of sets of kinds: for one of them, the next token is of a kind in its first set, the one behind that of a
-- kind in its second, and so on.
abbrev pub Test : Type 0
Test = List (List (List SyntaxKind))

-- What the tokens since the mark are asked for.
pub data Condition : Type 0 where
  -- none of them is of these kinds
  none_is : List SyntaxKind → Condition
  -- the last of them isn't
  last_isnt : List SyntaxKind → Condition

infixr 12 ◌then◌
pub data Form (Goal : Type 0) : Type 0 where
  -- One token of one of these kinds. `true`: as it is joined; `false`: only the first of those that it is joined from,
  -- whose own kind is one of these too.
  one : Bool → List SyntaxKind → Form Goal
  -- another goal
  child : Goal → Form Goal
  -- nodes that are sealed inside begin here
  mark : Form Goal → Form Goal
  -- all since the mark is put into a node of this kind: the node is completed, as parsers say
  seal : SyntaxKind → Form Goal
  -- one form, and then another
  ◌then◌ : Form Goal → Form Goal → Form Goal
  nothing : Form Goal
  -- either form: the reading takes the first if the next tokens pass the test
  choose : Test → Form Goal → Form Goal → Form Goal
  -- any number of times: the reading goes on as long as the next tokens pass the test
  many : Test → Form Goal → Form Goal
  -- no token; the next tokens pass the test, or, with `false`, don't
  look : Bool → Test → Form Goal
  -- no token; the tokens since the mark meet the condition
  check : Condition → Form Goal
  -- the first form where all of Rust is read, and the second one in the stated language
  wide : Form Goal → Form Goal → Form Goal

-- ** Words to write forms with.
abbrev pub a : {Goal : Type 0} → SyntaxKind → Form Goal
a kind = one true (kind ∷ [])

abbrev pub any : {Goal : Type 0} → List SyntaxKind → Form Goal
any ks = one true ks

-- only the first of those that a token is joined from
abbrev pub part : {Goal : Type 0} → List SyntaxKind → Form Goal
part ks = one false ks

abbrev pub at : List SyntaxKind → Test
at ks = (ks ∷ []) ∷ []

-- one of these kinds begins it, or nothing does
abbrev pub optional : {Goal : Type 0} → List SyntaxKind → Form Goal → Form Goal
optional first f = choose (at first) f nothing

-- the next tokens tell which of both it is, and not only which is read
abbrev pub decide : {Goal : Type 0} → Test → Form Goal → Form Goal → Form Goal
decide test f g = choose test (look true test then f) (look false test then g)

-- any number of them; each begins with one of these kinds
abbrev pub repeated : {Goal : Type 0} → List SyntaxKind → Form Goal → Form Goal
repeated first f = many (at first) f

-- any number of times: as long as the next tokens pass the test, and no longer
unfoldable pub as_long_as : {Goal : Type 0} → Test → Form Goal → Form Goal
as_long_as test f = many test (look true test then f) then look false test

-- a comma, or none where no other item begins
abbrev pub comma : {Goal : Type 0} → List SyntaxKind → Form Goal
comma first = choose (at (COMMA ∷ [])) (a COMMA) (look false (at first))

-- items with commas between them, and one behind the last or not; each item begins with one of these kinds
unfoldable pub comma_list : {Goal : Type 0} → List SyntaxKind → Form Goal → Form Goal
comma_list first item = repeated first (item then comma first)

-- ** Words by the reach. Of what is asked for by a `Bool`, `true` stands for all of Rust.

-- where all of Rust is read, and one of these kinds is next, the first form; else the second one
unfoldable pub also : {Goal : Type 0} → List SyntaxKind → Form Goal → Form Goal → Form Goal
also first f g = wide (choose (at first) f g) g

-- the same where the test passes, which tells which of both it is
unfoldable pub also_decide : {Goal : Type 0} → Test → Form Goal → Form Goal → Form Goal
also_decide test f g = wide (decide test f g) g

-- what these kinds begin is the first form; only in all of Rust may they also stand behind the second one
unfoldable pub settle : {Goal : Type 0} → List SyntaxKind → Form Goal → Form Goal → Form Goal
settle first f g = wide (decide (at first) f g) (choose (at first) f g)

unfoldable pub choose_by : {Goal : Type 0} → (Bool → List SyntaxKind) → Form Goal → Form Goal → Form Goal
choose_by first f g = wide (choose (at (first true)) f g) (choose (at (first false)) f g)

abbrev pub optional_by : {Goal : Type 0} → (Bool → List SyntaxKind) → Form Goal → Form Goal
optional_by first f = choose_by first f nothing

unfoldable pub look_by : {Goal : Type 0} → Bool → (Bool → List SyntaxKind) → Form Goal
look_by want first = wide (look want (at (first true))) (look want (at (first false)))

unfoldable pub repeated_by : {Goal : Type 0} → (Bool → List SyntaxKind) → Form Goal → Form Goal
repeated_by first f = wide (repeated (first true) f) (repeated (first false) f)

unfoldable pub as_long_as_by : {Goal : Type 0} → (Bool → Test) → Form Goal → Form Goal
as_long_as_by test f = wide (as_long_as (test true) f) (as_long_as (test false) f)

unfoldable pub comma_by : {Goal : Type 0} → (Bool → List SyntaxKind) → Form Goal
comma_by first = wide (comma (first true)) (comma (first false))

unfoldable pub comma_list_by : {Goal : Type 0} → (Bool → List SyntaxKind) → Form Goal → Form Goal
comma_list_by first item = wide (comma_list (first true) item) (comma_list (first false) item)

-- ** The grammar of a reach.

-- the form of all of Rust
abbrev pub widened : {Goal : Type 0} → Form Goal → Form Goal
widened (one whole ks) = one whole ks
widened (child goal) = child goal
widened (mark f) = mark (widened f)
widened (seal kind) = seal kind
widened (f then g) = widened f then widened g
widened nothing = nothing
widened (choose test f g) = choose test (widened f) (widened g)
widened (many test f) = many test (widened f)
widened (look want test) = look want test
widened (check condition) = check condition
widened (wide f g) = widened f

-- the form of all of Rust, or, with `false`, of the stated language
abbrev pub of_reach : {Goal : Type 0} → Bool → Form Goal → Form Goal
of_reach true f = widened f
of_reach false f = f

-- ** Tokens.
-- how many tokens the one in front is joined from, beside itself
abbrev pub more : Bool → Token → ℕ
more whole t = if whole then t.size - 1 else 0

-- the kind under which it is taken
abbrev pub taken_as : Bool → Token → SyntaxKind
taken_as whole t = if whole then t.joined else t.kind

-- it is one of these, whole or in its first part
abbrev pub is_one : Bool → List SyntaxKind → Token → Bool
is_one true ks t = mem t.joined ks
is_one false ks t = mem t.joined ks && mem t.kind ks

-- the kind of the next token
abbrev pub next : List Token → SyntaxKind
next [] = END
next (t ∷ ts) = t.joined

-- the next tokens are of kinds in these sets, one after another
abbrev pub are_next : List (List SyntaxKind) → List Token → Bool
are_next [] ts = true
are_next (ks ∷ string) [] = mem END ks && are_next string []
are_next (ks ∷ string) (t ∷ ts) = mem t.joined ks && are_next string (drop (more true t) ts)

abbrev pub passes : Test → List Token → Bool
passes [] ts = false
passes (string ∷ test) ts = are_next string ts || passes test ts

abbrev pub holds : Condition → List Token → Bool
holds (none_is ks) [] = true
holds (none_is ks) (t ∷ ts) = not (mem t.kind ks) && holds (none_is ks) ts
holds (last_isnt ks) [] = true
holds (last_isnt ks) (t ∷ []) = not (mem t.kind ks)
holds (last_isnt ks) (t ∷ u ∷ ts) = holds (last_isnt ks) (u ∷ ts)

abbrev pub agrees : Bool → Bool → Bool
agrees true b = b
agrees false b = not b

-- The form of each goal.
abbrev pub Productions : Type 0 → Type 0
Productions Goal = Goal → Form Goal

abbrev pub in_reach : {Goal : Type 0} → Bool → Productions Goal → Productions Goal
in_reach is_whole grammar goal = of_reach is_whole (grammar goal)

-- ** Reading: what is made since the mark, and the tokens that are left.
pub record SoFar : Type 0 where
  pub made : Forest
  pub rest : List Token

abbrev pub so_far : Forest → List Token → SoFar
so_far x ts = record { made = x; rest = ts }

abbrev pub ReadsBelow : Type 0 → Type 0
ReadsBelow Goal = Goal → List Token → Result SoFar Fault

infixl 11 ◌>>=◌
abbrev pub ◌>>=◌ : {A B : Type 0} → Result A Fault → (A → Result B Fault) → Result B Fault
Ok x >>= f = f x
Err e >>= f = Err e

-- what is left behind so many tokens
abbrev pub behind : ℕ → List Token → Result (List Token) Fault
behind n ts = if nat_le n (length ts) then Ok (drop n ts) else Err faults.NoTree

-- what is left behind one token of these kinds
abbrev pub past : Bool → List SyntaxKind → List Token → Result (List Token) Fault
past whole ks [] = Err faults.NoTree
past whole ks (t ∷ ts) = if is_one whole ks t then behind (more whole t) ts else Err faults.NoTree

-- the token in front as a tree
abbrev pub first_leaf : Bool → List Token → Forest
first_leaf whole [] = done
first_leaf whole (t ∷ ts) = leaf (taken_as whole t) (t ∷ take (more whole t) ts) done

-- x stands to the left of what is made
abbrev pub beside : Forest → Result SoFar Fault → Result SoFar Fault
beside x r = r >>= λ y. Ok (so_far (join x y.made) y.rest)

-- the step again and again, as long as what is left passes, but not more often than the number says
abbrev pub repeat : {S : Type 0} → (S → List Token) → ℕ → Test → (S → Result S Fault) → S → Result S Fault
repeat left zero test step s = Err faults.NoTree
repeat left (suc n) test step s = if passes test (left s) then step s >>= repeat left n test step else Ok s

abbrev pub read : {Goal : Type 0} → ReadsBelow Goal → Form Goal → SoFar → Result SoFar Fault
read below (one whole ks) r = past whole ks r.rest >>= λ ts. Ok (so_far (join r.made (first_leaf whole r.rest)) ts)
read below (child goal) r = beside r.made (below goal r.rest)
read below (mark f) r = beside r.made (read below f (so_far done r.rest))
read below (seal kind) r = Ok (so_far (tree kind r.made done) r.rest)
read below (f then g) r = read below f r >>= read below g
read below nothing r = Ok r
read below (choose test f g) r = if passes test r.rest then read below f r else read below g r
read below (many test f) r = repeat (λ s. s.rest) (length r.rest + 1) test (read below f) r
read below (look want test) r = if agrees want (passes test r.rest) then Ok r else Err faults.NoTree
read below (check condition) r = if holds condition (spell r.made) then Ok r else Err faults.NoTree
read below (wide f g) r = read below g r
