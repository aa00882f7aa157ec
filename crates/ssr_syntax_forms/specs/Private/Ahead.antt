-- Private: the tokens ahead, and what closures ask and take.
use Rattle.std.specs.Prelude.{◌≡◌, ◌+◌, ◌-◌, ℕ, zero, suc, Bool, List, ◌∷◌, [], drop, Result, Ok}
use Rattle.std.specs.Borrow.{Bor}
use Rattle.ssr_syntax_kinds.specs.declared.kinds.SyntaxKind.{SyntaxKind}
use Rattle.ssr_syntax_forms.specs.declared.tokens.Token.{Token}
use Rattle.ssr_syntax_forms.specs.declared.fault.Fault.{Fault}
use Rattle.ssr_syntax_forms.specs.Forms.{Test, behind, next, passes, ◌>>=◌}
use Rattle.ssr_syntax_forms.specs.Parser.{Written, State, state_of, token_written}

-- the tokens behind the next one
abbrev pub behind_next : List Token → List Token
behind_next [] = []
behind_next (t ∷ ts) = drop (t.size - 1) ts

-- the kind of the token that so many stand in front of
unfoldable pub nth : ℕ → List Token → SyntaxKind
nth zero ts = next ts
nth (suc n) ts = nth n (behind_next ts)

-- Each call of a closure is the test.
abbrev pub Asks : (Bor State → Bool → Type 0) → Test → Type 0
Asks post test = (asked : Bor State) (b : Bool) → post asked b → b ≡ passes test asked.now.rest

-- a token of this kind is taken: the one in front of those that are left, and so many of them
abbrev pub taken_with : SyntaxKind → ℕ → List Token → Written → Result State Fault
taken_with kind more rest out = behind more rest >>= λ ts. Ok (state_of (token_written kind (1 + more) out) ts)
