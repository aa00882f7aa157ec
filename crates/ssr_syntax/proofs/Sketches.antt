-- What a form of expressions makes, as much of it as precedence asks: a sketch, computed over the form.
use Rattle.std.proofs.Common.{◌≡◌, ℕ, suc, ◌+◌, max, nat_le, nat_lt, nat_eq, Bool, true, false, not, ◌&&◌, ◌||◌, if◌then◌else◌, List, [], ◌∷◌, Option, Some, None}
use Rattle.std.specs.Prelude.{⊤}
use Rattle.std.specs.Option.{option_and_then}
use Rattle.ssr_syntax_kinds.specs.Kinds.{same_kind}
use Rattle.ssr_syntax_kinds.specs.Reach.{is_whole}
use Rattle.ssr_syntax_kinds.specs.declared.kinds.SyntaxKind.{SyntaxKind}
use Rattle.ssr_syntax_kinds.specs.declared.kinds.SyntaxKind.TheVariants.{AMP2, BIN_EXPR, LET_EXPR, RANGE_EXPR}
use Rattle.ssr_syntax_kinds.specs.declared.reach.Reach.{Reach}
use Rattle.ssr_syntax_forms.specs.declared.tokens.Token.{Token}
use Rattle.ssr_syntax_types.specs.declared.goals.Goal.{Goal}
use Rattle.ssr_syntax_types.specs.declared.goals.Goal.TheVariants.{Expr, Condition, Operand, Unary}
use Rattle.ssr_syntax_forms.specs.Kinds.{mem}
use Rattle.ssr_syntax_forms.specs.Trees.{Forest, done, leaf, tree}
use Rattle.ssr_syntax_forms.specs.Forms.{Form, Test, one, child, mark, seal, ◌then◌, nothing, choose, many, look, check, wide, next}
use Rattle.ssr_syntax.specs.Operands.{of_ranges, of_operator, precedence, leaving, open_ended, ends_leaving, HasAtMost, HasLess, FirstEnds, FirstHasAtMost, AllHaveLess, KeepsPrecedenceOf}
use Rattle.ssr_syntax_exprs.specs.Expressions.{ranks, at_most, operator_first}
use Rattle.ssr_syntax.specs.Grammar.{grammar_of}
use Rattle.ssr_syntax_forms.proofs.Shared.{every}

-- ** Sketches of what is made since the mark.

-- the first node: there is none; it has at most this precedence, or may leave; it has, if there is one; nothing is known of it
pub data FirstNode : Type 0 where
  no_node : FirstNode
  bounded : ℕ → FirstNode
  if_any : ℕ → FirstNode
  any_first : FirstNode

-- All of it: nothing; an operator of this precedence; a node; a node and an operator; these and a node of less than the
-- second number, or one that may leave; anything.
pub data Shape : Type 0 where
  empty : Shape
  lone_token : ℕ → Shape
  lone_node : Shape
  begun : ℕ → Shape
  complete : ℕ → ℕ → Shape
  any_shape : Shape

-- What ends with what leaves: not the first node; not the first node, if anything stands behind it; nothing is known.
pub data Front : Type 0 where
  front_closed : Front
  front_alone : Front
  any_front : Front

-- Whether all of it ends with what leaves: it doesn't; if it does, no operator is next; nothing is known.
pub data End : Type 0 where
  closed : End
  guarded : End
  free : End

-- the number is above the precedence of each node that may not leave
pub data Sketch : Type 0 where
  known : FirstNode → ℕ → Shape → Front → End → Sketch

abbrev pub AnyFirstHasAtMost : Reach → ℕ → Forest → Type 0
AnyFirstHasAtMost reach limit done = ⊤
AnyFirstHasAtMost reach limit (leaf kind us x) = AnyFirstHasAtMost reach limit x
AnyFirstHasAtMost reach limit (tree kind kids x) = HasAtMost reach limit kind kids

abbrev pub IsFirst : Reach → FirstNode → Forest → Type 0
IsFirst reach no_node done = ⊤
IsFirst reach no_node (leaf kind us x) = IsFirst reach no_node x
IsFirst reach no_node (tree kind kids x) = ⊥
IsFirst reach (bounded r) x = FirstHasAtMost reach r x
IsFirst reach (if_any r) x = AnyFirstHasAtMost reach r x
IsFirst reach any_first x = ⊤

abbrev pub IsShape : Reach → Shape → Forest → Type 0
IsShape reach empty x = x ≡ done
IsShape reach (lone_token n) x = (op : SyntaxKind) × (us : List Token) × (x ≡ leaf op us done) × (of_operator op ≡ n)
IsShape reach lone_node x = (k : SyntaxKind) × (xs : Forest) × (x ≡ tree k xs done)
IsShape reach (begun n) x =
    (k : SyntaxKind) × (xs : Forest) × (op : SyntaxKind) × (us : List Token) × (x ≡ tree k xs (leaf op us done)) × (of_operator op ≡ n)
IsShape reach (complete n c) x =
    (k : SyntaxKind) × (xs : Forest) × (op : SyntaxKind) × (us : List Token) × (j : SyntaxKind) × (ys : Forest)
    × (x ≡ tree k xs (leaf op us (tree j ys done))) × (of_operator op ≡ n) × HasLess reach c j ys
IsShape reach any_shape x = ⊤

-- the first node ends with what leaves
abbrev pub first_leaves : Forest → Bool
first_leaves done = false
first_leaves (leaf kind us x) = first_leaves x
first_leaves (tree kind kids x) = ends_leaving false (tree kind kids done)

abbrev pub IsFront : Front → Forest → Type 0
IsFront front_closed x = first_leaves x ≡ false
IsFront front_alone x = FirstEnds x
IsFront any_front x = ⊤

-- of `leaves`, whether it ends with what leaves, before these tokens
abbrev pub IsEnd : End → Bool → List Token → Type 0
IsEnd closed leaves rest = leaves ≡ false
IsEnd guarded leaves rest = leaves ≡ true → mem (next rest) operator_first ≡ false
IsEnd free leaves rest = ⊤

abbrev pub IsSketch : Reach → Sketch → Forest → List Token → Type 0
IsSketch reach (known f b s c e) x rest =
    IsFirst reach f x × AllHaveLess reach b x × IsShape reach s x × IsFront c x × IsEnd e (ends_leaving false x) rest

abbrev pub IsAt : Reach → Sketch → Forest → List Token → Type 0
IsAt reach p x rest = IsSketch reach p x rest × KeepsPrecedenceOf reach x

-- ** What a form makes of a sketch.

abbrev pub start : Sketch
start = known no_node 0 empty front_closed closed

abbrev pub lone_front : End → Front
lone_front closed = front_closed
lone_front e = front_alone

-- a node of at most this precedence, or one that may leave, with this end
abbrev pub of_node : ℕ → End → Sketch
of_node n e = known (bounded n) (suc n) lone_node (lone_front e) e

abbrev pub of_head : List SyntaxKind → ℕ
of_head [] = 0
of_head (k ∷ ks) = of_operator k

abbrev pub token_shape : ℕ → List SyntaxKind → Shape
token_shape n ks = if every (λ kind. nat_eq (of_operator kind) n) ks then lone_token n else any_shape

abbrev pub first_beside : FirstNode → FirstNode → FirstNode
first_beside no_node g = g
first_beside (bounded r) g = bounded r
first_beside (if_any r) no_node = if_any r
first_beside (if_any r) (bounded s) = bounded (max r s)
first_beside (if_any r) (if_any s) = if_any (max r s)
first_beside f g = any_first

-- the number is above each node to the right
abbrev pub shape_beside : ℕ → Shape → Shape → Shape
shape_beside c empty t = t
shape_beside c lone_node (lone_token n) = begun n
shape_beside c (begun n) lone_node = complete n c
shape_beside c s t = any_shape

abbrev pub front_beside : FirstNode → Front → Front → Front
front_beside no_node c d = d
front_beside any_first front_closed d = d
front_beside (if_any r) front_closed d = d
front_beside (bounded r) front_closed d = front_closed
front_beside f c d = any_front

-- the shape is that of what stands to the right
abbrev pub end_beside : Shape → End → End → End
end_beside (lone_token n) e i = i
end_beside lone_node e i = i
end_beside (begun n) e i = i
end_beside (complete n c) e i = i
end_beside t closed closed = closed
end_beside t e i = free

-- the second stands to the right of the first
abbrev pub beside : Sketch → Sketch → Sketch
beside (known f b s c e) (known g d t h i) =
    known (first_beside f g) (max b d) (shape_beside d s t) (front_beside f c h) (end_beside t e i)

-- each of these kinds is an operator's
abbrev pub are_operators : List SyntaxKind → Bool
are_operators ks = every (λ kind. mem kind operator_first) ks

-- the front, where a token of one of these kinds follows: what leaves has no operator behind it
abbrev pub front_before : List SyntaxKind → Front → End → Front
front_before ks front_closed e = front_closed
front_before ks front_alone closed = front_closed
front_before ks front_alone guarded = if are_operators ks then front_closed else any_front
front_before ks c e = any_front

abbrev pub behind_token : List SyntaxKind → Sketch → Sketch
behind_token ks (known f b s c e) =
    known (first_beside f no_node) (max b 0) (shape_beside 0 s (token_shape (of_head ks) ks)) (front_before ks c e) closed

-- where the look passes, no operator is next
abbrev pub is_guard : Bool → Test → Bool
is_guard false ((ks ∷ []) ∷ []) = every (λ kind. mem kind ks) operator_first
is_guard want test = false

abbrev pub end_behind_look : End → Bool → End
end_behind_look free c = if c then guarded else free
end_behind_look e c = e

abbrev pub behind_look : Bool → Test → Sketch → Sketch
behind_look want test (known f b s c e) = known f b s c (end_behind_look e (is_guard want test))

-- an operator of precedence n binds a node of at most a and one of less than c
abbrev pub binds : ℕ → ℕ → ℕ → Bool
binds n a c = if nat_lt n of_ranges then nat_le a n && nat_le c n else nat_eq n (1 + of_ranges) && nat_lt a n

abbrev pub covers : FirstNode → ℕ → Bool
covers (bounded r) n = nat_le r n
covers f n = false

-- the first node of a node of precedence n may be this
abbrev pub leads : ℕ → FirstNode → Bool
leads n f = not (nat_lt 0 n && nat_lt n 4) || covers f n

-- all in a node of precedence n may have less
abbrev pub are_prefixed : ℕ → ℕ → Bool
are_prefixed n b = not (nat_eq n 2) || nat_le b 3

abbrev pub is_known : Front → Bool
is_known any_front = false
is_known c = true

-- nothing goes on with what leaves in a node of precedence n
abbrev pub is_alone : ℕ → Front → Bool
is_alone n c = not (nat_lt 0 n) || is_known c

-- all in a node of the kind may have less
abbrev pub are_below : SyntaxKind → ℕ → Bool
are_below kind b =
    (not (same_kind kind RANGE_EXPR) || nat_le b of_ranges) && (not (same_kind kind LET_EXPR) || nat_le b (of_operator AMP2))

abbrev pub node_if : Bool → ℕ → Option ℕ
node_if c n = if c then Some n else None

abbrev pub may_be_sealed : SyntaxKind → ℕ → Sketch → Bool
may_be_sealed kind n (known f b s c e) = (leads n f && are_prefixed n b) && (is_alone n c && are_below kind b)

-- the precedence of a node of the kind, `true`: of a BIN_EXPR
abbrev pub sealed_at : Bool → SyntaxKind → Sketch → Option ℕ
sealed_at false kind p = node_if (may_be_sealed kind (precedence kind done) p) (precedence kind done)
sealed_at true kind (known (bounded a) b (complete n d) front_closed e) = node_if (binds n a d) n
sealed_at true kind p = None

-- what may leave may be claimed to bind as tightly as anything
abbrev pub claimed : Bool → ℕ → ℕ
claimed may_leave n = if may_leave then 0 else n

-- of a node that leaves, or is open-ended
abbrev pub end_of_node : Bool → Bool → End → End
end_of_node leaves is_open e = if leaves then free else if is_open then e else closed

abbrev pub end_of : Sketch → End
end_of (known f b s c e) = e

abbrev pub node_of : Reach → SyntaxKind → End → ℕ → Option Sketch
node_of reach kind e n =
    Some (of_node (claimed (is_whole reach && mem kind leaving) n) (end_of_node (mem kind leaving) (mem kind open_ended) e))

abbrev pub behind_seal : Reach → SyntaxKind → Sketch → Option Sketch
behind_seal reach kind p = option_and_then (node_of reach kind (end_of p)) (sealed_at (same_kind kind BIN_EXPR) kind p)

abbrev pub wider_first : FirstNode → FirstNode → FirstNode
wider_first no_node no_node = no_node
wider_first no_node (bounded b) = if_any b
wider_first no_node (if_any b) = if_any b
wider_first (bounded a) no_node = if_any a
wider_first (bounded a) (bounded b) = bounded (max a b)
wider_first (bounded a) (if_any b) = if_any (max a b)
wider_first (if_any a) no_node = if_any a
wider_first (if_any a) (bounded b) = if_any (max a b)
wider_first (if_any a) (if_any b) = if_any (max a b)
wider_first f g = any_first

abbrev pub wider_shape : Shape → Shape → Shape
wider_shape empty empty = empty
wider_shape lone_node lone_node = lone_node
wider_shape s t = any_shape

abbrev pub wider_front : Front → Front → Front
wider_front front_closed d = d
wider_front c front_closed = c
wider_front front_alone front_alone = front_alone
wider_front c d = any_front

abbrev pub wider_end : End → End → End
wider_end closed i = i
wider_end e closed = e
wider_end guarded guarded = guarded
wider_end e i = free

abbrev pub wider : Sketch → Sketch → Sketch
wider (known f b s c e) (known g d t h i) =
    known (wider_first f g) (max b d) (wider_shape s t) (wider_front c h) (wider_end e i)

abbrev pub wider_of : Option Sketch → Option Sketch → Option Sketch
wider_of (Some p) (Some q) = Some (wider p q)
wider_of (Some p) None = None
wider_of None q = None

abbrev pub first_within : FirstNode → FirstNode → Bool
first_within no_node no_node = true
first_within no_node (if_any b) = true
first_within (bounded a) (bounded b) = nat_le a b
first_within (bounded a) (if_any b) = nat_le a b
first_within (if_any a) (if_any b) = nat_le a b
first_within f any_first = true
first_within f g = false

abbrev pub shape_within : Shape → Shape → Bool
shape_within empty empty = true
shape_within lone_node lone_node = true
shape_within s any_shape = true
shape_within s t = false

abbrev pub front_within : Front → Front → Bool
front_within front_closed d = true
front_within front_alone front_alone = true
front_within c any_front = true
front_within c d = false

abbrev pub end_within : End → End → Bool
end_within closed i = true
end_within guarded guarded = true
end_within e free = true
end_within e i = false

abbrev pub within : Sketch → Sketch → Bool
within (known f b s c e) (known g d t h i) =
    (first_within f g && nat_le b d) && (shape_within s t && (front_within c h && end_within e i))

abbrev pub if_within : Sketch → Sketch → Option Sketch
if_within w q = if within q w then Some w else None

-- the front behind a loop's turns, where they make this shape: of what isn't one node each turn leaves it, or nothing is known
abbrev pub turned_front : Shape → Front → Front → Front
turned_front lone_node c d = wider_front c d
turned_front s c d = if front_within d c then c else any_front

-- what is made before a loop and by one turn
abbrev pub turned : Sketch → Sketch → Sketch
turned (known f b s c e) (known g d t h i) =
    known (wider_first f g) (max b d) (wider_shape s t) (turned_front (wider_shape s t) c h) (wider_end e i)

-- a loop's turns stay within what is made before and by one turn
abbrev pub settled : (Sketch → Option Sketch) → Sketch → Option Sketch
settled step w = option_and_then (if_within w) (step w)

abbrev pub turns : (Sketch → Option Sketch) → Sketch → Option Sketch
turns step p = option_and_then (λ q. settled step (turned p q)) (step p)

abbrev pub beside_marked : Sketch → Sketch → Option Sketch
beside_marked p q = Some (beside p q)

-- what is claimed of the trees of goals
pub record Claims : Type 0 where
  -- the highest precedence, but of what may leave
  pub bound : Goal → ℕ
  pub end : Goal → End

abbrev pub claimed_of : Claims → Goal → Sketch
claimed_of claims goal = of_node (claims.bound goal) (claims.end goal)

abbrev pub made : Reach → Claims → Form Goal → Sketch → Option Sketch
made reach claims (one whole ks) p = Some (behind_token ks p)
made reach claims (child asked) p = Some (beside p (claimed_of claims asked))
made reach claims (mark f) p = option_and_then (beside_marked p) (made reach claims f start)
made reach claims (seal kind) p = behind_seal reach kind p
made reach claims (f then g) p = option_and_then (made reach claims g) (made reach claims f p)
made reach claims nothing p = Some p
made reach claims (choose test f g) p = wider_of (made reach claims f p) (made reach claims g p)
made reach claims (many test f) p = turns (made reach claims f) p
made reach claims (look want test) p = Some (behind_look want test p)
made reach claims (check condition) p = Some p
made reach claims (wide f g) p = made reach claims g p

-- ** The grammar.
abbrev pub is_bounded_by : Option Sketch → Sketch → Bool
is_bounded_by None w = false
is_bounded_by (Some q) w = within q w

abbrev pub bound : Goal → ℕ
bound (Expr _) = 2 + of_ranges
bound (Condition _) = 2 + of_ranges
bound (Operand _ r) = 3 + at_most r ranks
bound (Unary _) = 2
bound _ = 0

-- of operands that what leaves may end, so that no operator follows it
abbrev pub end : Goal → End
end (Operand _ _) = guarded
end (Unary _) = guarded
end _ = free

abbrev pub goal_claims : Claims
goal_claims = record { bound = bound; end = end }

-- the form of a goal keeps what is claimed of its trees
abbrev pub is_bounded : Reach → Goal → Form Goal → Bool
is_bounded reach goal form = is_bounded_by (made reach goal_claims form start) (claimed_of goal_claims goal)

abbrev pub AllBounded : Reach → Type 0
AllBounded reach = (goal : Goal) → is_bounded reach goal (grammar_of reach goal) ≡ true
