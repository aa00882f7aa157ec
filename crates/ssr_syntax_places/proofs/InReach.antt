-- What fits a form of the grammar in a reach, step by step, whichever the reach is.
use Rattle.std.proofs.Common.{◌≡◌, ◌-◌, nat_eq, Bool, true, false, not, ◌&&◌, if◌then◌else◌, List, [], ◌∷◌, ◌++◌, length, refl, sym, ap, subst, ◌∙◌, eqb-true, append_assoc}
use Rattle.std.proofs.lemmas.List.{append-nil}
use Rattle.std.proofs.lemmas.Bool.{and_parts}
use Rattle.ssr_syntax_kinds.specs.declared.kinds.SyntaxKind.{SyntaxKind}
use Rattle.ssr_syntax_forms.specs.declared.tokens.Token.{Token}
use Rattle.ssr_syntax_forms.specs.Kinds.{mem}
use Rattle.ssr_syntax_forms.specs.Trees.{Forest, done, leaf, tree, join}
use Rattle.ssr_syntax_forms.specs.Forms.{Form, Test, child, mark, seal, ◌then◌, nothing, choose, many, look, wide, any, part, at, decide, also, also_decide, Productions, in_reach, of_reach, widened, agrees, passes}
use Rattle.ssr_syntax_forms.specs.Fitting.{Fits, token, goal, marked, sealed, behind, none, first, second, stop, turn, looked, stated}
use Rattle.ssr_syntax_places.specs.Standing.{is_token, token_leaf}

abbrev pub FitsIn : {Goal : Type 0} → Bool → Productions Goal → Form Goal → Forest → Forest → List Token → List Token → Type 0
FitsIn b grammar form x z us rest = Fits (in_reach b grammar) (of_reach b form) x z us rest

-- ** One token.

pub token_in : {Goal : Type 0} (b : Bool) (grammar : Productions Goal) (ks : List SyntaxKind) (x : Forest) (us rest : List Token)
    → is_token ks us ≡ true → FitsIn b grammar (any ks) x (join x (token_leaf us)) us rest
token_in b grammar ks x [] rest is = absurd (cc)
token_in true grammar ks x (t ∷ us) rest is =
    let halves = and_parts (mem t.joined ks) (nat_eq (t.size - 1) (length us)) is in
    token halves.0 (eqb-true (t.size - 1) (length us) halves.1)
token_in false grammar ks x (t ∷ us) rest is =
    let halves = and_parts (mem t.joined ks) (nat_eq (t.size - 1) (length us)) is in
    token halves.0 (eqb-true (t.size - 1) (length us) halves.1)

-- only the first of those that it is joined from
pub part_in : {Goal : Type 0} (b : Bool) (grammar : Productions Goal) (ks : List SyntaxKind) (x : Forest) (t : Token) (rest : List Token)
    → (mem t.joined ks && mem t.kind ks) ≡ true → FitsIn b grammar (part ks) x (join x (leaf t.kind (t ∷ []) done)) (t ∷ []) rest
part_in true grammar ks x t rest is = token is refl
part_in false grammar ks x t rest is = token is refl

-- ** Goals and nodes.

pub child_in : {Goal : Type 0} (b : Bool) (grammar : Productions Goal) (asked : Goal) (x y : Forest) (us rest : List Token)
    → FitsIn b grammar (grammar asked) done y us rest → FitsIn b grammar (child asked) x (join x y) us rest
child_in true grammar asked x y us rest f = goal f
child_in false grammar asked x y us rest f = goal f

pub mark_in : {Goal : Type 0} (b : Bool) (grammar : Productions Goal) (f : Form Goal) (x y : Forest) (us rest : List Token)
    → FitsIn b grammar f done y us rest → FitsIn b grammar (mark f) x (join x y) us rest
mark_in true grammar f x y us rest h = marked h
mark_in false grammar f x y us rest h = marked h

pub seal_in : {Goal : Type 0} (b : Bool) (grammar : Productions Goal) (kind : SyntaxKind) (x : Forest) (rest : List Token)
    → FitsIn b grammar (seal kind) x (tree kind x done) [] rest
seal_in true grammar kind x rest = sealed
seal_in false grammar kind x rest = sealed

-- ** Forms one behind the other.

pub then_in : {Goal : Type 0} (b : Bool) (grammar : Productions Goal) (f g : Form Goal) (x y z : Forest) (us vs rest : List Token)
    → FitsIn b grammar f x y us (vs ++ rest) → FitsIn b grammar g y z vs rest → FitsIn b grammar (f then g) x z (us ++ vs) rest
then_in true grammar f g x y z us vs rest h k = behind h k
then_in false grammar f g x y z us vs rest h k = behind h k

-- the second one takes no token
pub then_still : {Goal : Type 0} (b : Bool) (grammar : Productions Goal) (f g : Form Goal) (x y z : Forest) (us rest : List Token)
    → FitsIn b grammar f x y us rest → FitsIn b grammar g y z [] rest → FitsIn b grammar (f then g) x z us rest
then_still b grammar f g x y z us rest h k =
    subst (λ w. FitsIn b grammar (f then g) x z w rest) (append-nil us) (then_in b grammar f g x y z us [] rest h k)

pub nothing_in : {Goal : Type 0} (b : Bool) (grammar : Productions Goal) (x : Forest) (rest : List Token) → FitsIn b grammar nothing x x [] rest
nothing_in true grammar x rest = none
nothing_in false grammar x rest = none

-- ** Choices.

pub first_in : {Goal : Type 0} (b : Bool) (grammar : Productions Goal) (test : Test) (f g : Form Goal) (x z : Forest) (us rest : List Token)
    → FitsIn b grammar f x z us rest → FitsIn b grammar (choose test f g) x z us rest
first_in true grammar test f g x z us rest h = first h
first_in false grammar test f g x z us rest h = first h

pub second_in : {Goal : Type 0} (b : Bool) (grammar : Productions Goal) (test : Test) (f g : Form Goal) (x z : Forest) (us rest : List Token)
    → FitsIn b grammar g x z us rest → FitsIn b grammar (choose test f g) x z us rest
second_in true grammar test f g x z us rest h = second h
second_in false grammar test f g x z us rest h = second h

pub wide_in : {Goal : Type 0} (b : Bool) (grammar : Productions Goal) (f g : Form Goal) (x z : Forest) (us rest : List Token)
    → FitsIn b grammar (if b then f else g) x z us rest → FitsIn b grammar (wide f g) x z us rest
wide_in true grammar f g x z us rest h = h
wide_in false grammar f g x z us rest h = stated h

-- both are one
pub either_in : {Goal : Type 0} (b : Bool) (grammar : Productions Goal) (f g : Form Goal) (x z : Forest) (us rest : List Token)
    → FitsIn b grammar f x z us rest → FitsIn b grammar g x z us rest → FitsIn b grammar (wide f g) x z us rest
either_in true grammar f g x z us rest h k = h
either_in false grammar f g x z us rest h k = stated k

pub look_in : {Goal : Type 0} (b : Bool) (grammar : Productions Goal) (want : Bool) (test : Test) (x : Forest) (rest : List Token)
    → agrees want (passes test rest) ≡ true → FitsIn b grammar (look want test) x x [] rest
look_in true grammar want test x rest is = looked is
look_in false grammar want test x rest is = looked is

-- the test tells that it is the second one
pub undecided_in : {Goal : Type 0} (b : Bool) (grammar : Productions Goal) (test : Test) (f g : Form Goal) (x z : Forest) (us rest : List Token)
    → passes test (us ++ rest) ≡ false → FitsIn b grammar g x z us rest → FitsIn b grammar (decide test f g) x z us rest
undecided_in b grammar test f g x z us rest not_this h =
    second_in b grammar test (look true test then f) (look false test then g) x z us rest
    (then_in b grammar (look false test) g x x z [] us rest (look_in b grammar false test x (us ++ rest) (ap not not_this)) h)

-- what all of Rust has beside it is not it
pub also_in : {Goal : Type 0} (b : Bool) (grammar : Productions Goal) (ks : List SyntaxKind) (f g : Form Goal) (x z : Forest) (us rest : List Token)
    → FitsIn b grammar g x z us rest → FitsIn b grammar (also ks f g) x z us rest
unfolding also
also_in b grammar ks f g x z us rest h =
    either_in b grammar (choose (at ks) f g) g x z us rest (second_in b grammar (at ks) f g x z us rest h) h

pub also_decide_in : {Goal : Type 0} (b : Bool) (grammar : Productions Goal) (test : Test) (f g : Form Goal) (x z : Forest) (us rest : List Token)
    → passes test (us ++ rest) ≡ false → FitsIn b grammar g x z us rest → FitsIn b grammar (also_decide test f g) x z us rest
unfolding also_decide
also_decide_in b grammar test f g x z us rest not_this h =
    either_in b grammar (decide test f g) g x z us rest (undecided_in b grammar test f g x z us rest not_this h) h

-- ** Loops.

pub stop_in : {Goal : Type 0} (b : Bool) (grammar : Productions Goal) (test : Test) (f : Form Goal) (x : Forest) (rest : List Token)
    → FitsIn b grammar (many test f) x x [] rest
stop_in true grammar test f x rest = stop
stop_in false grammar test f x rest = stop

pub turn_in : {Goal : Type 0} (b : Bool) (grammar : Productions Goal) (test : Test) (f : Form Goal) (x y z : Forest) (us vs rest : List Token)
    → FitsIn b grammar f x y us (vs ++ rest) → FitsIn b grammar (many test f) y z vs rest → FitsIn b grammar (many test f) x z (us ++ vs) rest
turn_in true grammar test f x y z us vs rest h k = turn h k
turn_in false grammar test f x y z us vs rest h k = turn h k

-- ** What goes on with a form: a step more behind what fits the form makes what fits it.

abbrev pub GoesOn : {Goal : Type 0} → Productions Goal → Form Goal → Form Goal → Type 0
GoesOn grammar form step =
    (x y z : Forest) (us ahead vs rest : List Token)
    → Fits grammar form x y us ahead → ahead ≡ vs ++ rest → Fits grammar step y z vs rest → Fits grammar form x z (us ++ vs) rest

one_turn : {Goal : Type 0} (grammar : Productions Goal) (test : Test) (f : Form Goal) (x z : Forest) (us rest : List Token)
    → Fits grammar f x z us rest → Fits grammar (many test f) x z us rest
one_turn grammar test f x z us rest h =
    subst (λ w. Fits grammar (many test f) x z w rest) (append-nil us) (turn {us = us} {vs = []} h stop)

turns_go_on : {Goal : Type 0} (grammar : Productions Goal) (test : Test) (f : Form Goal) → GoesOn grammar (many test f) f
turns_go_on grammar test f x _ z _ ahead vs rest stop e k = one_turn grammar test f x z vs rest k
turns_go_on grammar test f x y z _ ahead vs rest (turn {y = w} {us = taken} {vs = left} h t) e k =
    subst (λ m. Fits grammar (many test f) x z m rest) (sym (append_assoc taken left vs))
    (turn (subst (λ m. Fits grammar f x w taken m) (ap (λ m. left ++ m) e ∙ sym (append_assoc left vs rest)) h)
    (turns_go_on grammar test f w y z left ahead vs rest t e k))

last_goes_on : {Goal : Type 0} (grammar : Productions Goal) (f g step : Form Goal) → GoesOn grammar g step → GoesOn grammar (f then g) step
last_goes_on grammar f g step goes x y z _ ahead vs rest (behind {y = w} {us = taken} {vs = left} h t) e k =
    subst (λ m. Fits grammar (f then g) x z m rest) (sym (append_assoc taken left vs))
    (behind (subst (λ m. Fits grammar f x w taken m) (ap (λ m. left ++ m) e ∙ sym (append_assoc left vs rest)) h)
    (goes w y z left ahead vs rest t e k))

abbrev pub GoesOnIn : {Goal : Type 0} → Bool → Productions Goal → Form Goal → Form Goal → Type 0
GoesOnIn b grammar form step = GoesOn (in_reach b grammar) (of_reach b form) (of_reach b step)

pub turns_go_on_in : {Goal : Type 0} (b : Bool) (grammar : Productions Goal) (test : Test) (f : Form Goal) → GoesOnIn b grammar (many test f) f
turns_go_on_in true grammar test f = turns_go_on (in_reach true grammar) test (widened f)
turns_go_on_in false grammar test f = turns_go_on (in_reach false grammar) test f

pub last_goes_on_in : {Goal : Type 0} (b : Bool) (grammar : Productions Goal) (f g step : Form Goal) → GoesOnIn b grammar g step
    → GoesOnIn b grammar (f then g) step
last_goes_on_in true grammar f g step goes = last_goes_on (in_reach true grammar) (widened f) (widened g) (widened step) goes
last_goes_on_in false grammar f g step goes = last_goes_on (in_reach false grammar) f g step goes

-- ** A loop more that does nothing.

abbrev Longer : {Goal : Type 0} → Productions Goal → (f g : Form Goal) → Form Goal → Type 0
Longer grammar f g h = (x z : Forest) (us rest : List Token) → Fits grammar (f then g) x z us rest → Fits grammar (f then (g then h)) x z us rest

behind_still : {Goal : Type 0} (grammar : Productions Goal) (f g : Form Goal) (x y z : Forest) (us rest : List Token)
    → Fits grammar f x y us rest → Fits grammar g y z [] rest → Fits grammar (f then g) x z us rest
behind_still grammar f g x y z us rest h k =
    subst (λ w. Fits grammar (f then g) x z w rest) (append-nil us) (behind {us = us} {vs = []} h k)

no_turn_more : {Goal : Type 0} (grammar : Productions Goal) (f g : Form Goal) (test : Test) (h : Form Goal) → Longer grammar f g (many test h)
no_turn_more grammar f g test h x z _ rest (behind {y = w} {us = taken} {vs = left} a b) =
    behind a (behind_still grammar g (many test h) w z z left rest b stop)

pub no_turn_more_in : {Goal : Type 0} (b : Bool) (grammar : Productions Goal) (f g : Form Goal) (test : Test) (h : Form Goal) (x z : Forest) (us rest : List Token)
    → FitsIn b grammar (f then g) x z us rest → FitsIn b grammar (f then (g then many test h)) x z us rest
no_turn_more_in true grammar f g test h = no_turn_more (in_reach true grammar) (widened f) (widened g) test (widened h)
no_turn_more_in false grammar f g test h = no_turn_more (in_reach false grammar) f g test h

-- one more form behind two, which takes nothing
more_behind : {Goal : Type 0} (grammar : Productions Goal) (f g h : Form Goal) (x z : Forest) (us rest : List Token) → Fits grammar (f then g) x z us rest
    → Fits grammar h z z [] rest → Fits grammar (f then (g then h)) x z us rest
more_behind grammar f g h x z _ rest (behind {y = w} {us = taken} {vs = left} a b) c = behind a (behind_still grammar g h w z z left rest b c)

pub then_more_in : {Goal : Type 0} (b : Bool) (grammar : Productions Goal) (f g h : Form Goal) (x z : Forest) (us rest : List Token)
    → FitsIn b grammar (f then g) x z us rest → FitsIn b grammar h z z [] rest → FitsIn b grammar (f then (g then h)) x z us rest
then_more_in true grammar f g h = more_behind (in_reach true grammar) (widened f) (widened g) (widened h)
then_more_in false grammar f g h = more_behind (in_reach false grammar) f g h
