-- Reading by a form takes no memory, so it tells no want of it.
use Rattle.std.proofs.Common.{◌≢◌, ℕ, zero, suc, Bool, true, false, if◌then◌else◌, List, [], ◌∷◌, length, drop, Result, Ok, Err, IfErr}
use Rattle.std.specs.Prelude.{nat_le, ◌+◌}
use Rattle.ssr_syntax_kinds.specs.declared.kinds.SyntaxKind.{SyntaxKind}
use Rattle.ssr_syntax_forms.specs.declared.fault.Fault.{Fault}
use Rattle.ssr_syntax_forms.specs.declared.fault.Fault.TheVariants as faults
use Rattle.ssr_syntax_forms.specs.declared.tokens.Token.{Token}
use Rattle.ssr_syntax_forms.specs.Trees.{done, join, spell}
use Rattle.ssr_syntax_forms.specs.Forms.{Form, one, child, mark, seal, ◌then◌, nothing, choose, many, look, check, wide, Test, Productions, ReadsBelow, SoFar, so_far, ◌>>=◌, behind, past, more, is_one, first_leaf, passes, agrees, holds, repeat, read}
use Rattle.ssr_syntax_forms.specs.Levels.{read_goal}

abbrev pub IsFree : {A : Type 0} → Result A Fault → Type 0
IsFree read = IfErr read (λ fault. fault ≢ faults.Memory)

pub no_tree : faults.NoTree ≢ faults.Memory
no_tree same = cc

too_deep : faults.TooDeep ≢ faults.Memory
too_deep same = cc

pub free-bind : {A B : Type 0} (first : Result A Fault) (next : A → Result B Fault) → IsFree first → ((x : A) → IsFree (next x)) → IsFree (first >>= next)
free-bind (Ok x) next free others = others x
free-bind (Err fault) next free others = free

free-if : {A : Type 0} (b : Bool) (x y : Result A Fault) → IsFree x → IsFree y → IsFree (if b then x else y)
free-if true x y first second = first
free-if false x y first second = second

free-past : (is_whole : Bool) (ks : List SyntaxKind) (ts : List Token) → IsFree (past is_whole ks ts)
free-past is_whole ks [] = no_tree
free-past is_whole ks (t ∷ ts) =
    free-if (is_one is_whole ks t) (behind (more is_whole t) ts) (Err faults.NoTree)
    (free-if (nat_le (more is_whole t) (length ts)) (Ok (drop (more is_whole t) ts)) (Err faults.NoTree) tt no_tree) no_tree

free-repeat : {S : Type 0} (left : S → List Token) (n : ℕ) (test : Test) (step : S → Result S Fault) → ((s : S) → IsFree (step s)) → (s : S)
    → IsFree (repeat left n test step s)
free-repeat left zero test step free s = no_tree
free-repeat left (suc n) test step free s =
    free-if (passes test (left s)) (step s >>= repeat left n test step) (Ok s)
    (free-bind (step s) (repeat left n test step) (free s) (free-repeat left n test step free)) tt

free-read : {Goal : Type 0} (below : ReadsBelow Goal) → ((goal : Goal) (ts : List Token) → IsFree (below goal ts)) → (f : Form Goal) (r : SoFar)
    → IsFree (read below f r)
free-read below free (one is_whole ks) r =
    free-bind (past is_whole ks r.rest) (λ ts. Ok (so_far (join r.made (first_leaf is_whole r.rest)) ts)) (free-past is_whole ks r.rest) (λ ts. tt)
free-read below free (child goal) r =
    free-bind (below goal r.rest) (λ y. Ok (so_far (join r.made y.made) y.rest)) (free goal r.rest) (λ y. tt)
free-read below free (mark f) r =
    free-bind (read below f (so_far done r.rest)) (λ y. Ok (so_far (join r.made y.made) y.rest)) (free-read below free f (so_far done r.rest)) (λ y. tt)
free-read below free (seal kind) r = tt
free-read below free (f then g) r = free-bind (read below f r) (read below g) (free-read below free f r) (free-read below free g)
free-read below free nothing r = tt
free-read below free (choose test f g) r =
    free-if (passes test r.rest) (read below f r) (read below g r) (free-read below free f r) (free-read below free g r)
free-read below free (many test f) r = free-repeat (λ s. s.rest) (length r.rest + 1) test (read below f) (free-read below free f) r
free-read below free (look want test) r = free-if (agrees want (passes test r.rest)) (Ok r) (Err faults.NoTree) tt no_tree
free-read below free (check condition) r = free-if (holds condition (spell r.made)) (Ok r) (Err faults.NoTree) tt no_tree
free-read below free (wide f g) r = free-read below free g r

pub free-goal : {Goal : Type 0} (productions : Productions Goal) (n : ℕ) (goal : Goal) (ts : List Token) → IsFree (read_goal productions n goal ts)
unfolding read_goal
free-goal productions zero goal ts = too_deep
free-goal productions (suc n) goal ts = free-read (read_goal productions n) (free-goal productions n) (productions goal) (so_far done ts)
