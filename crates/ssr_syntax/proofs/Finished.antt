-- What the parser is left with tells whether there is a tree.
use Rattle.std.proofs.Common.{◌≡◌, ◌≢◌, List, [], ◌∷◌, Result, Ok, Err, refl, sym, ap, subst, ◌∙◌}
use Rattle.ssr_syntax_kinds.specs.declared.reach.Reach.{Reach}
use Rattle.ssr_syntax_kinds.specs.Reach.{is_whole}
use Rattle.ssr_syntax_types.specs.declared.goals.Goal.{Goal}
use Rattle.ssr_syntax_forms.specs.declared.fault.Fault.{Fault}
use Rattle.ssr_syntax_forms.specs.declared.fault.Fault.TheVariants as faults
use Rattle.ssr_syntax_forms.specs.declared.rows.Output.{Output}
use Rattle.ssr_syntax_forms.specs.declared.tokens.Token.{Token}
use Rattle.ssr_syntax_forms.specs.Trees.{Forest}
use Rattle.ssr_syntax_kinds.specs.declared.kinds.SyntaxKind.{SyntaxKind}
use Rattle.ssr_syntax_forms.specs.Parser.{Written, HasWritten, unwritten, State, state_of, Finishes}
use Rattle.ssr_syntax_forms.specs.Written.{writes}
use Rattle.ssr_syntax_forms.specs.Forms.{so_far, ◌>>=◌}
use Rattle.ssr_syntax_forms.specs.Levels.{read_goal}
use Rattle.ssr_syntax_forms.specs.Runs.{run_goal}
use Rattle.ssr_syntax.specs.Grammar.{grammar, grammar_of}
use Rattle.ssr_syntax.specs.Reading.{most_levels, whole, reading}
use Rattle.ssr_syntax.specs.Private.Reading.{IsReading}
use Rattle.ssr_syntax_forms.proofs.Shared.{read_as_run, refused_as_run}

-- a tree, if no token is left
read_to : (reach : Reach) (goal : Goal) (ts rest : List Token) (z : Forest) → read_goal (grammar_of reach) most_levels goal ts ≡ Ok (so_far z rest)
    → reading reach goal ts ≡ whole (so_far z rest)
unfolding reading
read_to reach goal ts rest z e = ap (λ w. w >>= whole) e

is_all : (rest : List Token) (z : Forest) → rest ≡ [] → whole (so_far z rest) ≡ Ok z
is_all [] z e = refl
is_all (t ∷ ts) z e = cc

is_left : (rest : List Token) (z : Forest) → rest ≢ [] → whole (so_far z rest) ≡ Err faults.NoTree
is_left [] z e = absurd (e refl)
is_left (t ∷ ts) z e = refl

-- the output of what is written is that of the same
held : (out : Output) (v w : Written) → HasWritten out v → v ≡ w → HasWritten out w
held out v w h e = subst (HasWritten out) e h

pub finished : (reach : Reach) (goal : Goal) (kinds : List SyntaxKind) (ts : List Token) (old new : State) (result : Result Output Fault) → old ≡ state_of (unwritten kinds) ts
    → run_goal (is_whole reach) grammar most_levels goal old ≡ Ok new → Finishes new result → IsReading kinds result (reading reach goal ts)
finished reach goal kinds ts old new (Ok v) start e f =
    let m = read_as_run (is_whole reach) grammar most_levels goal (unwritten kinds) ts old new start e in
    (m.0, read_to reach goal ts new.rest m.0 m.1 ∙ is_all new.rest m.0 f.0, held v new.out (writes m.0 (unwritten kinds)) f.1 m.2)
finished reach goal kinds ts old new (Err x) start e f =
    let m = read_as_run (is_whole reach) grammar most_levels goal (unwritten kinds) ts old new start e in
    λ told. read_to reach goal ts new.rest m.0 m.1 ∙ is_left new.rest m.0 f.0 ∙ ap Err (sym f.1)

pub no_tree : (reach : Reach) (goal : Goal) (kinds : List SyntaxKind) (ts : List Token) (old : State) (f : Fault) → old ≡ state_of (unwritten kinds) ts
    → run_goal (is_whole reach) grammar most_levels goal old ≡ Err f → reading reach goal ts ≡ Err f
unfolding reading
no_tree reach goal kinds ts old f start e = ap (λ w. w >>= whole) (refused_as_run (is_whole reach) grammar most_levels goal (unwritten kinds) ts old f start e)
