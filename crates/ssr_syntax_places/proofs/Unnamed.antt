-- A filled template misnames no macros if nothing that is put into it does.
use Rattle.std.proofs.Common.{◌≡◌, ℕ, zero, suc, ◌+◌, ◌-◌, ◌≤◌, Bool, false, ◌&&◌, ◌||◌, List, ◌++◌, length, inl, inr, refl, sym, ap, subst, ◌∙◌, arith}
use Rattle.std.specs.Prelude.{codes}
use Rattle.std.proofs.lemmas.List.{append-nil, length-append}
use Rattle.std.proofs.lemmas.Bool.{or_from, or_parts}
use Rattle.ssr_syntax_kinds.specs.Kinds.{same_kind}
use Rattle.ssr_syntax_kinds.specs.declared.kinds.SyntaxKind.{SyntaxKind}
use Rattle.ssr_syntax_kinds.specs.declared.kinds.SyntaxKind.TheVariants as k
use Rattle.ssr_syntax_tree.specs.Syntax as plain
use Rattle.ssr_syntax_tree.specs.Syntax.{nothing, branch}
use Rattle.ssr_syntax_forms.specs.Kinds.{mem}
use Rattle.ssr_syntax_forms.specs.Trees.{Forest, done, leaf, tree, join, spell}
use Rattle.ssr_syntax_rows.specs.Lossless.{gap, behind_gap, upto, past, before, behind, lossless}
use Rattle.ssr_syntax_places.specs.Core.{Hole, Holes, filled, node_filled}
use Rattle.ssr_syntax_places.specs.Standing.{node}
use Rattle.ssr_syntax_places.proofs.Misnamed.{worded, AllTrivia, has_other, has_misnamed, OfWords, IsNamed, misnamed_before, misnamed_behind}
use Rattle.ssr_syntax_places.proofs.Pieces.{IsRun, lossless_front}
use Rattle.ssr_syntax_places.proofs.Templates.{IsName, IsOwn, IsTemplate, IsNodeTemplate, AreSpelled, node_tokens}
use Rattle.ssr_syntax_places.proofs.Woven.{single_length}
use Rattle.ssr_syntax_places.proofs.Aligned.{IsPut, IsFor, AreAligned, filled_size, tokens_size, spelled_size, run_behind, aligned_behind, aligned_past}

-- a kind with its word; other kinds are other ones
pub record Word : Type 0 where
  pub kind : SyntaxKind
  pub word : List ℕ
  pub apart : (other : SyntaxKind) → mem other worded ≡ false → same_kind other kind ≡ false
  pub named : (z : plain.Forest) → IsNamed z → has_misnamed kind word z ≡ false

-- no node of the kind is misnamed there
abbrev pub IsFree : Word → plain.Forest → Type 0
IsFree w z = has_misnamed w.kind w.word z ≡ false

-- a node that is free, with what stands beside it
beside_free : (w : Word) (kind : SyntaxKind) (below x : plain.Forest) (ts : List plain.Token) → IsFree w (branch kind below nothing) → IsFree w x
    → IsFree w (before ts (branch kind below x))
beside_free w kind below x ts free others =
    let here : Bool = same_kind kind w.kind && has_other w.word below in
    let inner : Bool = has_misnamed w.kind w.word below in
    let halves = or_parts here (inner || false) free in
    misnamed_before w.kind w.word ts (branch kind below x)
    ∙ or_from here (inner || has_misnamed w.kind w.word x) halves.0
    (or_from inner (has_misnamed w.kind w.word x) (or_parts inner false halves.1).0 others)

-- a node of another kind is free if what is below it is
other_free : (w : Word) (kind : SyntaxKind) (below : plain.Forest) → mem kind worded ≡ false → IsFree w below → IsFree w (branch kind below nothing)
other_free w kind below wordless free =
    or_from (same_kind kind w.kind && has_other w.word below) (has_misnamed w.kind w.word below || false)
    (ap (λ b. b && has_other w.word below) (w.apart kind wordless))
    (or_from (has_misnamed w.kind w.word below) false free refl)

-- ** One node of a filled template, in front of these pieces.

record IsFreeNode (w : Word) (z : Forest) (us : List plain.Token) : Type 0 where
  pub kind : SyntaxKind
  pub kids : Forest
  pub tree : z ≡ node kind kids
  pub free : IsFree w (branch kind (lossless kids (behind_gap (length (spell kids)) us)) nothing)

put_behind : (n : ℕ) (lead put rest : List plain.Token) → AllTrivia lead → IsRun n put → behind_gap n (lead ++ (put ++ rest)) ≡ put ++ rest
put_behind zero lead put rest all run = absurd (omega (arith, run.some))
put_behind (suc n) lead put rest all run = run_behind (suc n) n lead put rest all run

put_free : (w : Word) (hole : Hole) (z : Forest) (us lead put rest : List plain.Token) → z ≡ hole.tree → us ≡ lead ++ (put ++ rest)
    → IsPut hole put → (behind_gap (length hole.tokens) us ≡ put ++ rest) → IsFreeNode w z us
put_free w hole z us lead put rest e pieces_are is behind =
    let same : length (spell is.kids) ≡ length hole.tokens = ap length is.spells in
    let front : lossless is.kids (put ++ rest) ≡ lossless is.kids put = lossless_front is.kids put rest (omega (arith, same, is.run.enough)) in
    record {
      kind = is.kind;
      kids = is.kids;
      tree = e ∙ is.tree;
      free =
          ap (λ l. has_misnamed w.kind w.word (branch is.kind (lossless is.kids (behind_gap l us)) nothing)) same
          ∙ ap (λ l. has_misnamed w.kind w.word (branch is.kind (lossless is.kids l) nothing)) behind
          ∙ ap (λ l. has_misnamed w.kind w.word (branch is.kind l nothing)) front
          ∙ w.named (branch is.kind (lossless is.kids put) nothing) is.named;
    }

name_free : (w : Word) (holes : Holes) (at n : ℕ) (kind : SyntaxKind) (kids : Forest) (ts us : List plain.Token) → length (spell kids) ≤ n
    → IsName holes at kind kids → AreAligned holes at n ts us → IsFreeNode w (node_filled holes at kind kids) us
name_free w holes at zero kind kids ts us few name are = absurd (omega (arith, few, single_length (spell kids) name.single))
name_free w holes at (suc n) kind kids ts us few name are =
    let is : IsPut name.hole are.put = subst (λ o. IsFor o are.token are.put) name.held are.is in
    put_free w name.hole (node_filled holes at kind kids) us are.long_lead are.put are.long_rest name.filled are.long is
    (ap (behind_gap (length name.hole.tokens)) are.long
    ∙ put_behind (length name.hole.tokens) are.long_lead are.put are.long_rest are.long_leads is.run)

-- the white space and comments in front of a node are passed
aligned_gap : (holes : Holes) (at n d : ℕ) (ts us : List plain.Token) → AreAligned holes at n ts us
    → (vs : List plain.Token) × AreAligned holes at n vs (behind_gap d us)
aligned_gap holes at n zero ts us are = (ts, are)
aligned_gap holes at n (suc d) ts us are = (behind_gap 1 ts, aligned_behind holes at n 0 d ts us are)

own_free : (w : Word) (holes : Holes) (at n : ℕ) (kind : SyntaxKind) (kids : Forest) (ts us : List plain.Token) → AreAligned holes at n ts us
    → ((vs ws : List plain.Token) → IsTemplate holes at kids → AreAligned holes at n vs ws → IsFree w (lossless (filled holes at kids) ws))
    → IsOwn holes at kind kids (IsTemplate holes at kids) → IsFreeNode w (node_filled holes at kind kids) us
own_free w holes at n kind kids ts us are inner own =
    let d : ℕ = length (spell (filled holes at kids)) in
    let passed = aligned_gap holes at n d ts us are in
    record {
      kind = kind;
      kids = filled holes at kids;
      tree = own.filled;
      free = other_free w kind (lossless (filled holes at kids) (behind_gap d us)) own.wordless (inner passed.0 (behind_gap d us) own.below passed.1);
    }

node_free : (w : Word) (holes : Holes) (at n : ℕ) (kind : SyntaxKind) (kids : Forest) (ts us : List plain.Token) → length (spell kids) ≤ n
    → AreAligned holes at n ts us
    → ((vs ws : List plain.Token) → IsTemplate holes at kids → AreAligned holes at n vs ws → IsFree w (lossless (filled holes at kids) ws))
    → IsNodeTemplate holes at kind kids → IsFreeNode w (node_filled holes at kind kids) us
node_free w holes at n kind kids ts us few are inner (inl name) = name_free w holes at n kind kids ts us few name are
node_free w holes at n kind kids ts us few are inner (inr own) = own_free w holes at n kind kids ts us are inner own

-- a free node in front of others
joined_free : (w : Word) (z x : Forest) (us : List plain.Token) → IsFreeNode w z us → IsFree w (lossless x (past (length (spell z)) us))
    → IsFree w (lossless (join z x) us)
joined_free w z x us is others =
    let n : ℕ = length (spell is.kids) in
    let same : length (spell z) ≡ n = ap (λ y. length (spell y)) is.tree ∙ ap length (append-nil (spell is.kids)) in
    ap (λ y. has_misnamed w.kind w.word (lossless (join y x) us)) is.tree
    ∙ beside_free w is.kind (lossless is.kids (behind_gap n us)) (lossless x (past n us)) (gap n us) is.free
    (ap (λ l. has_misnamed w.kind w.word (lossless x (past l us))) (sym same) ∙ others)

-- ** All nodes.

pub filled_length : (holes : Holes) → AreSpelled holes → (at : ℕ) (kind : SyntaxKind) (kids : Forest) → IsNodeTemplate holes at kind kids
    → length (spell (node_filled holes at kind kids)) ≡ filled_size holes at (length (spell kids))
filled_length holes are at kind kids is =
    ap length (node_tokens holes are at kind kids is) ∙ tokens_size holes at (spell kids)

pub filled_free : (w : Word) (holes : Holes) → AreSpelled holes → (at n : ℕ) (z : Forest) (ts us : List plain.Token) → length (spell z) ≤ n
    → IsTemplate holes at z → AreAligned holes at n ts us → IsFree w (lossless (filled holes at z) us)
filled_free w holes spells at n done ts us few is are = refl
filled_free w holes spells at n (leaf kind vs x) ts us few (own, others) are =
    let c : ℕ = length vs in
    let both : length (spell (leaf kind vs x)) ≡ c + length (spell x) = length-append vs (spell x) in
    let all : n ≡ c + (n - c) = omega (arith, few, both) in
    let rest : AreAligned holes (at + c) (n - c) (past c ts) (past c us) =
    subst (λ l. AreAligned holes (at + c) (n - c) (past c ts) (past l us)) (spelled_size holes at vs own)
    (aligned_past holes at c (n - c) n ts us all are) in
    misnamed_before w.kind w.word (gap c us) (plain.leaf (record { kind = kind; text = plain.spelled (upto c (behind_gap c us)) }) (lossless (filled holes (at + c) x) (past c us)))
    ∙ filled_free w holes spells (at + c) (n - c) x (past c ts) (past c us) (omega (arith, few, both)) others rest
filled_free w holes spells at n (tree kind kids x) ts us few (here, others) are =
    let c : ℕ = length (spell kids) in
    let both : length (spell (tree kind kids x)) ≡ c + length (spell x) = length-append (spell kids) (spell x) in
    let all : n ≡ c + (n - c) = omega (arith, few, both) in
    let size : filled_size holes at c ≡ length (spell (node_filled holes at kind kids)) = sym (filled_length holes spells at kind kids here) in
    let d : ℕ = length (spell (node_filled holes at kind kids)) in
    let rest : AreAligned holes (at + c) (n - c) (past c ts) (past d us) =
    subst (λ l. AreAligned holes (at + c) (n - c) (past c ts) (past l us)) size (aligned_past holes at c (n - c) n ts us all are) in
    joined_free w (node_filled holes at kind kids) (filled holes (at + c) x) us
    (node_free w holes at n kind kids ts us (omega (arith, few, both)) are
    (λ vs ws below aligned. filled_free w holes spells at n kids vs ws (omega (arith, few, both)) below aligned) here)
    (filled_free w holes spells (at + c) (n - c) x (past c ts) (past d us) (omega (arith, few, both)) others rest)

-- ** The kinds with their words.

other_kind : (a : SyntaxKind) → ((same_kind a k.MACRO_RULES || (same_kind a k.UNION_KW || (same_kind a k.RAW_KW || (same_kind a k.SAFE_KW || false)))) ≡ false)
    → OfWords (λ kind word. same_kind a kind ≡ false)
other_kind a is =
    let rules = or_parts (same_kind a k.MACRO_RULES) (same_kind a k.UNION_KW || (same_kind a k.RAW_KW || (same_kind a k.SAFE_KW || false))) is in
    let union = or_parts (same_kind a k.UNION_KW) (same_kind a k.RAW_KW || (same_kind a k.SAFE_KW || false)) rules.1 in
    let raw = or_parts (same_kind a k.RAW_KW) (same_kind a k.SAFE_KW || false) union.1 in
    record { rules = rules.0; union = union.0; raw = raw.0; safe = (or_parts (same_kind a k.SAFE_KW) false raw.1).0 }

pub rules_word : Word
rules_word = record { kind = k.MACRO_RULES; word = codes "macro_rules"; apart = λ a is. (other_kind a is).rules; named = λ z is. is.rules }

pub union_word : Word
union_word = record { kind = k.UNION_KW; word = codes "union"; apart = λ a is. (other_kind a is).union; named = λ z is. is.union }

pub raw_word : Word
raw_word = record { kind = k.RAW_KW; word = codes "raw"; apart = λ a is. (other_kind a is).raw; named = λ z is. is.raw }

pub safe_word : Word
safe_word = record { kind = k.SAFE_KW; word = codes "safe"; apart = λ a is. (other_kind a is).safe; named = λ z is. is.safe }

-- a whole tree of which the root has another kind
whole_free : (w : Word) (kind : SyntaxKind) (z : Forest) (us rest : List plain.Token) → mem kind worded ≡ false → IsFree w (lossless z us)
    → IsFree w (branch kind (behind (lossless z us) rest) nothing)
whole_free w kind z us rest wordless free =
    other_free w kind (behind (lossless z us) rest) wordless (misnamed_behind w.kind w.word (lossless z us) rest ∙ free)

pub whole_named : (kind : SyntaxKind) (z : Forest) (us rest : List plain.Token) → mem kind worded ≡ false → ((w : Word) → IsFree w (lossless z us))
    → IsNamed (branch kind (behind (lossless z us) rest) nothing)
unfolding rules_word union_word raw_word safe_word
whole_named kind z us rest wordless free = record {
  rules = whole_free rules_word kind z us rest wordless (free rules_word);
  union = whole_free union_word kind z us rest wordless (free union_word);
  raw = whole_free raw_word kind z us rest wordless (free raw_word);
  safe = whole_free safe_word kind z us rest wordless (free safe_word);
}
