-- A check that can be computed: the look-ahead of a form decides what fits it. In the words of the field, goals are
-- nonterminals and their forms productions; a form is nullable where `empty` holds, `firsts` is FIRST, `follow` FOLLOW,
-- and where `decides` holds of all productions, the grammar is LL(1).
use Rattle.std.proofs.Common.{ℕ, Bool, true, false, not, ◌||◌, ◌&&◌, if◌then◌else◌, List, [], ◌∷◌, ◌++◌}
use Rattle.ssr_syntax_kinds.specs.declared.kinds.SyntaxKind.{SyntaxKind}
use Rattle.ssr_syntax_kinds.specs.Kinds.{same_kind}
use Rattle.ssr_syntax_forms.specs.Kinds.{mem}
use Rattle.ssr_syntax_forms.specs.Forms.{Form, one, child, mark, seal, ◌then◌, nothing, choose, many, look, check, wide, Test, agrees}

-- ** Lists of kinds.
abbrev pub subset : List SyntaxKind → List SyntaxKind → Bool
subset [] ls = true
subset (k ∷ ks) ls = mem k ls && subset ks ls

abbrev pub meets : List SyntaxKind → List SyntaxKind → Bool
meets [] ls = false
meets (k ∷ ks) ls = mem k ls || meets ks ls

abbrev pub every : (SyntaxKind → Bool) → List SyntaxKind → Bool
every p [] = true
every p (k ∷ ks) = p k && every p ks

abbrev pub those : (SyntaxKind → Bool) → List SyntaxKind → List SyntaxKind
those p [] = []
those p (k ∷ ks) = if p k then k ∷ those p ks else those p ks

-- ** What the next token alone tells of a test.
-- before this kind the test passes, whatever follows
abbrev pub must_pass : Test → SyntaxKind → Bool
must_pass [] k = false
must_pass ([] ∷ test) k = true
must_pass ((ks ∷ []) ∷ test) k = mem k ks || must_pass test k
must_pass ((ks ∷ ls ∷ string) ∷ test) k = must_pass test k

-- before this kind the test passes, if the right ones follow
abbrev pub may_pass : Test → SyntaxKind → Bool
may_pass [] k = false
may_pass ([] ∷ test) k = true
may_pass ((ks ∷ string) ∷ test) k = mem k ks || may_pass test k

-- the test may pass before this kind, or, with `false`, may fail
abbrev pub may_be : Bool → Test → SyntaxKind → Bool
may_be true test k = may_pass test k
may_be false test k = not (must_pass test k)

-- ** What is claimed of each goal.
pub record Tables (Goal : Type 0) : Type 0 where
  -- a tree without a token may fit: nullable
  pub is_empty : Goal → Bool
  -- the kinds that begin a tree: FIRST
  pub first : Goal → List SyntaxKind
  -- the kinds that may stand behind a tree: FOLLOW
  pub follow : Goal → List SyntaxKind
  -- A goal that another one names as it is, in no node of its own, has a lower rank.
  pub rank : Goal → ℕ
  pub ranks : ℕ

-- no token may be taken
abbrev pub empty : {Goal : Type 0} → Tables Goal → Form Goal → Bool
empty t (one whole ks) = false
empty t (child goal) = t.is_empty goal
empty t (mark f) = empty t f
empty t (seal kind) = true
empty t (f then g) = empty t f && empty t g
empty t nothing = true
empty t (choose test f g) = empty t f || empty t g
empty t (many test f) = true
empty t (look want test) = true
empty t (check condition) = true
empty t (wide f g) = empty t g

-- which of these kinds may stand behind the form, where it takes no token
abbrev pub passing : {Goal : Type 0} → Tables Goal → Form Goal → List SyntaxKind → List SyntaxKind
passing t (one whole ks) follow = []
passing t (child goal) follow = if t.is_empty goal then follow else []
passing t (mark f) follow = passing t f follow
passing t (seal kind) follow = follow
passing t (f then g) follow = passing t f (passing t g follow)
passing t nothing follow = follow
passing t (choose test f g) follow = passing t f follow ++ passing t g follow
passing t (many test f) follow = follow
passing t (look want test) follow = those (may_be want test) follow
passing t (check condition) follow = follow
passing t (wide f g) follow = passing t g follow

-- the kinds of the first token, if there is one
abbrev pub firsts : {Goal : Type 0} → Tables Goal → Form Goal → List SyntaxKind
firsts t (one whole ks) = ks
firsts t (child goal) = t.first goal
firsts t (mark f) = firsts t f
firsts t (seal kind) = []
firsts t (f then g) = firsts t f ++ passing t f (firsts t g)
firsts t nothing = []
firsts t (choose test f g) = firsts t f ++ firsts t g
firsts t (many test f) = firsts t f
firsts t (look want test) = []
firsts t (check condition) = []
firsts t (wide f g) = firsts t g

-- the kind of the next token, where these may stand behind the form
abbrev pub starts : {Goal : Type 0} → Tables Goal → Form Goal → List SyntaxKind → List SyntaxKind
starts t f follow = firsts t f ++ passing t f follow

-- the test passes before all of these kinds, and before none
abbrev pub decides_on : Test → List SyntaxKind → Bool
decides_on test ks = every (must_pass test) ks

abbrev pub decides_off : Test → List SyntaxKind → Bool
decides_off test ks = every (λ k. not (may_pass test k)) ks

-- the test passes before each of these kinds, or before none of them
abbrev pub settles : Bool → Test → List SyntaxKind → Bool
settles true test ks = decides_on test ks
settles false test ks = decides_off test ks

-- ** Forms that ask for the test themselves, so that both ways never fit.
abbrev pub same_kinds : List SyntaxKind → List SyntaxKind → Bool
same_kinds [] [] = true
same_kinds (k ∷ ks) (l ∷ ls) = same_kind k l && same_kinds ks ls
same_kinds _ _ = false

abbrev pub same_string : List (List SyntaxKind) → List (List SyntaxKind) → Bool
same_string [] [] = true
same_string (ks ∷ s) (ls ∷ t) = same_kinds ks ls && same_string s t
same_string _ _ = false

abbrev pub same_test : Test → Test → Bool
same_test [] [] = true
same_test (s ∷ test) (t ∷ other) = same_string s t && same_test test other
same_test _ _ = false

-- the form begins with a look for the test, or, with `false`, for what doesn't pass it
abbrev pub asks : {Goal : Type 0} → Bool → Test → Form Goal → Bool
asks want test (look w other) = agrees want w && same_test test other
asks want test (f then g) = asks want test f
asks want test (wide f g) = asks want test g
asks want test _ = false

-- The look-ahead decides, where one of these kinds stands behind the form, and what stands there fails each test that
-- `stops` holds of: so what follows a loop may ask itself that the loop's test fails.
abbrev pub decides_before : {Goal : Type 0} → Tables Goal → (Test → Bool) → Form Goal → List SyntaxKind → Bool
decides_before t stops (one whole ks) follow = true
decides_before t stops (child goal) follow = subset follow (t.follow goal)
decides_before t stops (mark f) follow = decides_before t stops f follow
decides_before t stops (seal kind) follow = true
decides_before t stops (f then g) follow =
    decides_before t stops g follow && decides_before t (λ test. asks false test g) f (starts t g follow)
decides_before t stops nothing follow = true
decides_before t stops (choose test f g) follow =
    (decides_before t stops f follow && (asks true test f || decides_on test (starts t f follow)))
    && (decides_before t stops g follow && (asks false test g || decides_off test (starts t g follow)))
decides_before t stops (many test f) follow =
    (stops test || decides_off test follow)
    && ((decides_before t (λ other. false) f (firsts t f ++ follow) && not (empty t f)) && (asks true test f || decides_on test (firsts t f)))
decides_before t stops (look want test) follow = true
decides_before t stops (check condition) follow = true
decides_before t stops (wide f g) follow = decides_before t stops g follow

abbrev pub decides : {Goal : Type 0} → Tables Goal → Form Goal → List SyntaxKind → Bool
decides t form follow = decides_before t (λ test. false) form follow

-- the claims on a goal hold of its form, if those on the goals below it do
abbrev pub keeps : {Goal : Type 0} → Tables Goal → Goal → Form Goal → Bool
keeps t goal form =
    decides t form (t.follow goal) && ((t.is_empty goal || not (empty t form)) && subset (firsts t form) (t.first goal))

-- Where a test comes before a form, it may pass before each kind that begins the form: nothing is forgotten.
abbrev pub remembers : {Goal : Type 0} → Tables Goal → Form Goal → Bool
remembers t (one whole ks) = true
remembers t (child goal) = true
remembers t (mark f) = remembers t f
remembers t (seal kind) = true
remembers t (f then g) = remembers t f && remembers t g
remembers t nothing = true
remembers t (choose test f g) = every (may_pass test) (firsts t f) && (remembers t f && remembers t g)
remembers t (many test f) = every (may_pass test) (firsts t f) && remembers t f
remembers t (look want test) = true
remembers t (check condition) = true
remembers t (wide f g) = remembers t g

-- ** One node.
-- the form ends with a seal
abbrev pub ends_sealed : {Goal : Type 0} → Form Goal → Bool
ends_sealed (one whole ks) = false
ends_sealed (child goal) = false
ends_sealed (mark f) = false
ends_sealed (seal kind) = true
ends_sealed (f then g) = ends_sealed g
ends_sealed nothing = false
ends_sealed (choose test f g) = ends_sealed f && ends_sealed g
ends_sealed (many test f) = false
ends_sealed (look want test) = false
ends_sealed (check condition) = false
ends_sealed (wide f g) = ends_sealed g

-- the form leads from one node to one node
abbrev pub stays_node : {Goal : Type 0} → Form Goal → Bool
stays_node (one whole ks) = false
stays_node (child goal) = false
stays_node (mark f) = false
stays_node (seal kind) = true
stays_node (f then g) = ends_sealed g || (stays_node f && stays_node g)
stays_node nothing = true
stays_node (choose test f g) = stays_node f && stays_node g
stays_node (many test f) = ends_sealed f
stays_node (look want test) = true
stays_node (check condition) = true
stays_node (wide f g) = stays_node g

-- the form looks at the next tokens, and does nothing
abbrev pub only_looks : {Goal : Type 0} → Form Goal → Bool
only_looks (look want test) = true
only_looks (wide f g) = only_looks g
only_looks _ = false

-- the form leads from nothing to one node
abbrev pub makes_node : {Goal : Type 0} → Form Goal → Bool
makes_node (one whole ks) = false
makes_node (child goal) = true
makes_node (mark f) = ends_sealed f || makes_node f
makes_node (seal kind) = true
makes_node (f then g) = (ends_sealed g || (makes_node f && stays_node g)) || (only_looks f && makes_node g)
makes_node nothing = false
makes_node (choose test f g) = makes_node f && makes_node g
makes_node (many test f) = false
makes_node (look want test) = false
makes_node (check condition) = false
makes_node (wide f g) = makes_node g

-- ** Forms. A mark makes one node.
abbrev pub lone_marks : {Goal : Type 0} → Form Goal → Bool
lone_marks (one whole ks) = true
lone_marks (child asked) = true
lone_marks (mark f) = makes_node (mark f) && lone_marks f
lone_marks (seal kind) = true
lone_marks (f then g) = lone_marks f && lone_marks g
lone_marks nothing = true
lone_marks (choose test f g) = lone_marks f && lone_marks g
lone_marks (many test f) = lone_marks f
lone_marks (look want test) = true
lone_marks (check condition) = true
lone_marks (wide f g) = lone_marks g
