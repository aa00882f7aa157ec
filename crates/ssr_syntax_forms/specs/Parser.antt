-- What the parser's functions do to what is written and to the tokens that are left.
use Rattle.std.specs.Prelude.{◌≡◌, ◌≢◌, ℕ, ◌+◌, ◌-◌, min, if◌then◌else◌, Bool, true, false, List, ◌∷◌, [], ◌++◌, length, take, Result, Ok, Err}
use Rattle.std.specs.Borrow.{MutBor}
use Rattle.ssr_syntax_kinds.specs.declared.kinds.SyntaxKind.{SyntaxKind}
use Rattle.ssr_syntax_kinds.specs.declared.kinds.SyntaxKind.TheVariants.{COMMA}
use Rattle.ssr_syntax_forms.specs.declared.tokens.Token.{Token}
use Rattle.ssr_syntax_forms.specs.declared.rows.Output.{Output}
use Rattle.ssr_syntax_forms.specs.declared.fault.Fault.{Fault}
use Rattle.ssr_syntax_forms.specs.declared.fault.Fault.TheVariants as faults
use Rattle.ssr_syntax_tree.specs.declared.rows.NodeRow.{NodeRow}
use Rattle.ssr_syntax_forms.specs.declared.rows.Joined.{Joined}
use Rattle.ssr_syntax_forms.specs.Places.{Place, place_at, behind_token, is_alone}
use Rattle.ssr_syntax_forms.specs.Forms.{Test, at, more, taken_as, past, passes, agrees, repeat, ◌>>=◌}

-- The rows of nodes and the joined tokens that are written, and where the parser is.
pub record Written : Type 0 where
  pub rows : List NodeRow
  pub joined : List Joined
  pub place : Place

-- nothing, in front of tokens of these kinds
abbrev pub unwritten : List SyntaxKind → Written
unwritten kinds = record { rows = []; joined = []; place = place_at 0 kinds }

-- A token of this kind, joined from so many solid ones, is taken: it is written, unless it is one of the text as it is.
abbrev pub token_written : SyntaxKind → ℕ → Written → Written
token_written kind size out =
    record {
      rows = out.rows;
      joined = out.joined ++ (if is_alone kind size out.place.kinds then [] else record { number = out.place.next; kind = kind; size = size } ∷ []);
      place = behind_token size out.place;
    }

-- A node is written of all rows but the first `made`. Where it has tokens, the first one is `next`; else it begins and ends
-- behind the token in front.
abbrev pub node_written : SyntaxKind → ℕ → ℕ → Written → Written
node_written kind made next out =
    record {
      rows = out.rows ++ record { kind = kind; parent = 0; first = min next out.place.end; past = out.place.end; below = length out.rows - made } ∷ [];
      joined = out.joined;
      place = out.place;
    }

-- what is written, and the tokens that are left
pub record State : Type 0 where
  pub out : Written
  pub rest : List Token

abbrev pub state_of : Written → List Token → State
state_of out rest = record { out = out; rest = rest }

-- How many rows were written at a mark, what number the next token of the grammar had there, and which tokens were left.
pub record Mark : Type 0 where
  pub made : ℕ
  pub next : ℕ
  pub start : List Token

abbrev pub mark_at : Written → List Token → Mark
mark_at out start = record { made = length out.rows; next = out.place.next; start = start }

abbrev pub mark_of : State → Mark
mark_of s = mark_at s.out s.rest

-- the tokens since a mark
abbrev pub since : Mark → State → List Token
since m s = take (length m.start - length s.rest) m.start

-- ** Steps from one state to the next.

-- what is written behind the token in front, of which the whole is taken, or its first part alone
abbrev pub took : Bool → List Token → Written → Written
took whole [] out = out
took whole (t ∷ ts) out = token_written (taken_as whole t) (1 + more whole t) out

-- a token of one of these kinds is taken
abbrev pub taken : Bool → List SyntaxKind → State → Result State Fault
taken whole ks s = past whole ks s.rest >>= λ ts. Ok (state_of (took whole s.rest s.out) ts)

-- all since the mark is put into a node
abbrev pub close : SyntaxKind → Mark → State → State
close kind m s = state_of (node_written kind m.made m.next s.out) s.rest

-- a step again and again, as long as the next tokens pass
unfoldable pub repeated : Test → (State → Result State Fault) → State → Result State Fault
repeated test step s = repeat (λ z. z.rest) (length s.rest + 1) test step s

-- a comma; or none, where no further item begins
abbrev pub comma : List SyntaxKind → State → Result State Fault
comma first s =
    if passes (at (COMMA ∷ [])) s.rest then taken true (COMMA ∷ []) s
    else (if agrees false (passes (at first) s.rest) then Ok s else Err faults.NoTree)

-- an item, and then its comma
abbrev pub listed : List SyntaxKind → (State → Result State Fault) → State → Result State Fault
listed first item s = item s >>= comma first

-- items with commas between them, as long as one begins
unfoldable pub comma_separated : List SyntaxKind → (State → Result State Fault) → State → Result State Fault
comma_separated first item s = repeated (at first) (listed first item) s

-- ** What the functions answer.

-- A function's answer, and the state behind it. Want of memory says nothing.
abbrev pub Steps : {R : Type 0} → State → Result R Fault → Result State Fault → Type 0
Steps new (Ok r) ran = ran ≡ Ok new
Steps new (Err e) ran = e ≢ faults.Memory → ran ≡ Err e

-- the output is what is written
pub record HasWritten (out : Output) (w : Written) : Type 0 where
  pub rows : out.rows ≡ w.rows
  pub joined : out.joined.items ≡ w.joined

-- what is written, where no token is left
abbrev pub Finishes : State → Result Output Fault → Type 0
Finishes s (Ok out) = (s.rest ≡ []) × HasWritten out s.out
Finishes s (Err e) = (s.rest ≢ []) × (e ≡ faults.NoTree)

-- Each call of a closure is the step.
abbrev pub Calls : (MutBor State → Result Unit Fault → MutBor State → Type 0) → (State → Result State Fault) → Type 0
Calls post step = (old : MutBor State) (r : Result Unit Fault) (new : MutBor State) → post old r new → Steps new.now r (step old.now)
