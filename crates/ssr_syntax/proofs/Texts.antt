-- The tree of a text: what a flat tree is made of, and its laws.
use Rattle.std.proofs.Common.{◌≡◌, ◌≢◌, ℕ, ◌^◌, ◌<◌, ◌≤◌, true, false, if◌then◌else◌, List, [], length, map, refl, sym, ◌∙◌, ap, subst, arith}
use Rattle.std.specs.Prelude.{nat_lt, Result, Ok, Err}
use Rattle.std.specs.Result.{IsErr, IsErrAnd}
use Rattle.std.proofs.lemmas.List.{append-nil}
use Rattle.ssr_syntax_kinds.specs.declared.reach.Reach.{Reach}
use Rattle.ssr_syntax_kinds.specs.declared.kinds.SyntaxKind.{SyntaxKind}
use Rattle.ssr_syntax_lex.specs.declared.tokens.RawToken.{RawToken}
use Rattle.ssr_syntax_lex.specs.Tokens.{row_of}
use Rattle.ssr_syntax_tree.specs.Syntax.{Syntax, most_deep}
use Rattle.ssr_syntax_kinds.specs.declared.token_rows.TokenRow.{TokenRow}
use Rattle.ssr_syntax_forms.specs.declared.tokens.Token.{Token}
use Rattle.ssr_syntax_rows.specs.Leaves.{leaves}
use Rattle.ssr_syntax_types.specs.declared.goals.Goal.{Goal}
use Rattle.ssr_syntax_forms.specs.declared.fault.Fault.{Fault}
use Rattle.ssr_syntax_forms.specs.declared.rows.Output.{Output}
use Rattle.ssr_syntax_forms.specs.declared.fault.Fault.TheVariants as faults
use Rattle.ssr_syntax.specs.declared.syntax_error.SyntaxError.{SyntaxError}
use Rattle.ssr_syntax.specs.declared.syntax_error.SyntaxError.TheVariants as errors
use Rattle.ssr_syntax_forms.specs.Trees.{Forest, height}
use Rattle.ssr_syntax_rows.specs.Leaves as written
use Rattle.ssr_syntax_forms.specs.Parser.{HasWritten, unwritten}
use Rattle.ssr_syntax_forms.specs.Places.{behind_solid, place_at}
use Rattle.ssr_syntax_forms.specs.Written.{writes}
use Rattle.ssr_syntax_forms.specs.Trees as solid
use Rattle.ssr_syntax.specs.Grammar.{grammar_of}
use Rattle.ssr_syntax.proofs.Checks.{goal_makes_node}
use Rattle.ssr_syntax_rows.specs.Lossless.{whole_tree}
use Rattle.ssr_syntax_rows.specs.Preorder.{IsDepthFault}
use Rattle.ssr_syntax_rows.specs.Solid.{pieces, solid_tokens}
use Rattle.ssr_syntax.specs.Reading.{reading, most_levels, tree_reading, one_tree, unless_misnamed, unless_too_deep, error_of, Refuses, Answers}
use Rattle.ssr_syntax_rows.specs.TreeTokens.{joined_rows}
use Rattle.ssr_syntax_rows.specs.MacroRules.{misnames_macros}
use Rattle.ssr_syntax.proofs.Whole.{reading_fits, reading_spells}
use Rattle.ssr_syntax_forms.proofs.Shared.{goals_lone}
use Rattle.ssr_syntax_rows.proofs.Shared.{joined_of, writes_parts, AreSolid, total, total-leaves, AreTaken, goals_taken, AllSolid, leaves_solid, all_solid, taken_rows, behind_nothing, joined_taken, whole-depth, start_of}

-- ** The reading of tokens: what the trees of a goal are.

-- what a text's tokens read as
pub record ReadsAs (reach : Reach) (goal : Goal) (text : List ℕ) (raw : List RawToken) (kind : SyntaxKind) (kids : Forest) : Type 0 where
  pub reads : reading reach goal (solid_tokens raw) ≡ Ok (solid.tree kind kids solid.done)
  pub are_solid : AreSolid (leaves kids)
  pub few : total (leaves kids) ≤ length (solid_tokens raw)

abbrev pub IsRead : Reach → Goal → List ℕ → List RawToken → Forest → Type 0
IsRead reach goal text raw z = (kind : SyntaxKind) × (kids : Forest) × (z ≡ solid.tree kind kids solid.done) × ReadsAs reach goal text raw kind kids

-- the same where it is known to be one node
pub read_given : (reach : Reach) (goal : Goal) (text : List ℕ) (raw : List RawToken) (kind : SyntaxKind) (kids : Forest)
    → reading reach goal (solid_tokens raw) ≡ Ok (solid.tree kind kids solid.done) → ReadsAs reach goal text raw kind kids
read_given reach goal text raw kind kids e =
    let us = solid_tokens raw in
    let z : Forest = solid.tree kind kids solid.done in
    let kids_spell : solid.spell kids ≡ us = sym (append-nil (solid.spell kids)) ∙ reading_spells reach goal us z e in
    let taken : AreTaken z = goals_taken (grammar_of reach) most_levels goal z us [] (reading_fits reach goal us z e) in
    record {
      reads = e;
      are_solid = leaves_solid kids taken.0 (subst AllSolid (sym kids_spell) (all_solid raw));
      few = omega (arith, ap length kids_spell, total-leaves kids);
    }

pub is_read : (reach : Reach) (goal : Goal) (text : List ℕ) (raw : List RawToken) (z : Forest) → reading reach goal (solid_tokens raw) ≡ Ok z → IsRead reach goal text raw z
is_read reach goal text raw z e =
    let node = goals_lone (grammar_of reach) (goal_makes_node reach) most_levels goal z (solid_tokens raw) [] (reading_fits reach goal (solid_tokens raw) z e) in
    (node.0, node.1, node.2, read_given reach goal text raw node.0 node.1 (e ∙ ap Ok node.2))

pub reading_is : (reach : Reach) (goal : Goal) (text : List ℕ) (raw : List RawToken) (r : Result Forest Fault) → reading reach goal (solid_tokens raw) ≡ r
    → tree_reading reach goal text raw ≡ elim r [ Ok z ↦ one_tree z (pieces text raw) | Err e ↦ Err (error_of e) ]
reading_is reach goal text raw r e = ap (elim [ Ok z ↦ one_tree z (pieces text raw) | Err x ↦ Err (error_of x) ]) e

pub read_is : (reach : Reach) (goal : Goal) (text : List ℕ) (raw : List RawToken) (kind : SyntaxKind) (kids : Forest) → ReadsAs reach goal text raw kind kids
    → tree_reading reach goal text raw ≡ unless_too_deep (whole_tree kind kids (pieces text raw))
read_is reach goal text raw kind kids r = reading_is reach goal text raw (Ok (solid.tree kind kids solid.done)) r.reads

pub read_shallow : (reach : Reach) (goal : Goal) (text : List ℕ) (raw : List RawToken) (kind : SyntaxKind) (kids : Forest) → ReadsAs reach goal text raw kind kids
    → nat_lt most_deep (height kids) ≡ false → tree_reading reach goal text raw ≡ unless_misnamed (whole_tree kind kids (pieces text raw))
read_shallow reach goal text raw kind kids r shallow =
    read_is reach goal text raw kind kids r
    ∙ ap (λ b. if b then Err errors.TooDeep else unless_misnamed (whole_tree kind kids (pieces text raw)))
    (ap (nat_lt most_deep) (whole-depth kind kids (pieces text raw)) ∙ shallow)

pub read_ok : (reach : Reach) (goal : Goal) (text : List ℕ) (raw : List RawToken) (kind : SyntaxKind) (kids : Forest) → ReadsAs reach goal text raw kind kids
    → nat_lt most_deep (height kids) ≡ false → misnames_macros (whole_tree kind kids (pieces text raw)) ≡ false
    → tree_reading reach goal text raw ≡ Ok (whole_tree kind kids (pieces text raw))
read_ok reach goal text raw kind kids r shallow named =
    read_shallow reach goal text raw kind kids r shallow
    ∙ ap (λ b. if b then Err errors.NoTree else Ok (whole_tree kind kids (pieces text raw))) named

pub read_misnamed : (reach : Reach) (goal : Goal) (text : List ℕ) (raw : List RawToken) (kind : SyntaxKind) (kids : Forest) → ReadsAs reach goal text raw kind kids
    → nat_lt most_deep (height kids) ≡ false → misnames_macros (whole_tree kind kids (pieces text raw)) ≡ true
    → tree_reading reach goal text raw ≡ Err errors.NoTree
read_misnamed reach goal text raw kind kids r shallow misnamed =
    read_shallow reach goal text raw kind kids r shallow
    ∙ ap (λ b. if b then Err errors.NoTree else Ok (whole_tree kind kids (pieces text raw))) misnamed

pub read_too_deep : (reach : Reach) (goal : Goal) (text : List ℕ) (raw : List RawToken) (kind : SyntaxKind) (kids : Forest) → ReadsAs reach goal text raw kind kids
    → nat_lt most_deep (height kids) ≡ true → tree_reading reach goal text raw ≡ Err errors.TooDeep
read_too_deep reach goal text raw kind kids r deep =
    read_is reach goal text raw kind kids r
    ∙ ap (λ b. if b then Err errors.TooDeep else unless_misnamed (whole_tree kind kids (pieces text raw)))
    (ap (nat_lt most_deep) (whole-depth kind kids (pieces text raw)) ∙ deep)

-- want of memory for the tree of a short text
wants_memory : (read : Result Syntax SyntaxError) (text : List ℕ) → length text < 2 ^ 32 → Refuses errors.Memory read text
wants_memory read text lt = (λ is. lt, λ no. absurd (no refl))

pub refused : (e : SyntaxError) (read : Result Syntax SyntaxError) (text : List ℕ) → length text < 2 ^ 32 → read ≡ Err e → Refuses e read text
refused e read text lt h = (λ is. lt, λ no. h)

pub depth_fault : (reach : Reach) (goal : Goal) (text : List ℕ) (raw : List RawToken) (kind : SyntaxKind) (kids : Forest) (f : Fault) → length text < 2 ^ 32
    → ReadsAs reach goal text raw kind kids → IsDepthFault (nat_lt most_deep (height kids)) f → Refuses (error_of f) (tree_reading reach goal text raw) text
depth_fault reach goal text raw kind kids faults.TooDeep lt r h =
    refused errors.TooDeep (tree_reading reach goal text raw) text lt (read_too_deep reach goal text raw kind kids r h)
depth_fault reach goal text raw kind kids faults.Memory lt r h = wants_memory (tree_reading reach goal text raw) text lt
depth_fault reach goal text raw kind kids faults.NoTree lt r h = absurd h

-- so is the fault of the parser, which was given the solid tokens
pub parser_fault : (reach : Reach) (goal : Goal) (text : List ℕ) (raw : List RawToken) (given : List Token) (f : Fault) → length text < 2 ^ 32
    → given ≡ solid_tokens raw → (f ≢ faults.Memory → reading reach goal given ≡ Err f) → Refuses (error_of f) (tree_reading reach goal text raw) text
parser_fault reach goal text raw given faults.NoTree lt same h =
    refused errors.NoTree (tree_reading reach goal text raw) text lt
    (reading_is reach goal text raw (Err faults.NoTree) (ap (reading reach goal) (sym same) ∙ h (λ e. cc)))
parser_fault reach goal text raw given faults.TooDeep lt same h =
    refused errors.TooDeep (tree_reading reach goal text raw) text lt
    (reading_is reach goal text raw (Err faults.TooDeep) (ap (reading reach goal) (sym same) ∙ h (λ e. cc)))
parser_fault reach goal text raw given faults.Memory lt same h = wants_memory (tree_reading reach goal text raw) text lt

-- a fault is told on
pub told_on : (x : SyntaxError) (r read : Result Syntax SyntaxError) (text : List ℕ) → IsErr r → IsErrAnd r (λ e. e ≡ x) → Refuses x read text
    → Answers r read text
told_on x (Ok syntax) read text err is h = cc
told_on x (Err e) read text err is h = subst (λ y. Refuses y read text) (sym is) h

-- what was written of a text's tokens
pub record WrittenOfText (reach : Reach) (goal : Goal) (text : List ℕ) (raw : List RawToken) (out : Output) : Type 0 where
  pub kind : SyntaxKind
  pub kids : Forest
  pub read : ReadsAs reach goal text raw kind kids
  pub rows : out.rows ≡ written.rows (solid.tree kind kids solid.done) (start_of raw)
  pub joined : out.joined.items ≡ joined_of (leaves kids) (start_of raw)

pub written_read : (reach : Reach) (goal : Goal) (text : List ℕ) (raw : List RawToken) (z : Forest) (rows : List TokenRow) (out : Output)
    → reading reach goal (solid_tokens raw) ≡ Ok z → rows ≡ map row_of raw → HasWritten out (writes z (unwritten (map (λ row. row.kind) rows)))
    → WrittenOfText reach goal text raw out
written_read reach goal text raw z rows out e are h =
    let r = is_read reach goal text raw z e in
    let whole : Forest = solid.tree r.0 r.1 solid.done in
    let lists : writes z (unwritten (map (λ row. row.kind) rows)) ≡ writes whole (unwritten (map (λ row. row.kind) (map row_of raw))) =
    ap (λ ts. writes z (unwritten (map (λ row. row.kind) ts))) are ∙ ap (λ f. writes f (unwritten (map (λ row. row.kind) (map row_of raw)))) r.2 in
    let parts = lists ∙ writes_parts whole (unwritten (map (λ row. row.kind) (map row_of raw))) in
    record {
      kind = r.0;
      kids = r.1;
      read = r.3;
      rows = h.rows ∙ ap (λ w. w.rows) parts;
      joined = h.joined ∙ ap (λ w. w.joined) parts ∙ ap (λ us. joined_of us (start_of raw)) (append-nil (leaves r.1));
    }

-- the joined tokens tell all of a text's tree
pub tokens_told : (reach : Reach) (goal : Goal) (text : List ℕ) (raw : List RawToken) (rows : List TokenRow) (out : Output) (w : WrittenOfText reach goal text raw out)
    → rows ≡ map row_of raw → joined_rows 0 0 out.joined.items rows ≡ taken_rows 0 (leaves w.kids) (map row_of raw)
tokens_told reach goal text raw rows out w are =
    let us = leaves w.kids in
    let ts = map row_of raw in
    let start : start_of raw ≡ place_at 0 (behind_solid 0 (map (λ row. row.kind) ts)) = ap (place_at 0) (sym (behind_nothing (map (λ row. row.kind) ts))) in
    ap (λ js. joined_rows 0 0 js rows) w.joined
    ∙ ap (λ l. joined_rows 0 0 (joined_of us (start_of raw)) l) are
    ∙ ap (λ p. joined_rows 0 0 (joined_of us p) ts) start
    ∙ joined_taken us 0 0 ts w.read.are_solid
