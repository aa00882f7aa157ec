-- Whether two outlines are the same, by a test.
use Rattle.std.proofs.Common.{◌≡◌, ◌∙◌, ℕ, Bool, List, refl, ap, Decides}
use Rattle.std.specs.Prelude.{◌↔◌, ◌==◌, IsTrue, bytes_eq}
use Rattle.std.specs.Cmp.Lexicographic.{pointwise}
use Rattle.std.proofs.lemmas.Bool.Decides.{same_from_decides, Decides-and, Decides-eqb, Decides-like}
use Rattle.std.proofs.lemmas.Slice.Eq.{bytes_eq-Decides, slice_eq-Decides}
use Rattle.ssr_syntax_kinds.specs.declared.kinds.SyntaxKind.{SyntaxKind}
use Rattle.ssr_syntax_kinds.specs.Kinds.{same_kind}
use Rattle.ssr_syntax_kinds.proofs.Shared.{same_kind-equal, equal-same_kind}
use Rattle.ssr_syntax_tree.specs.Syntax.{Token, same_token}
use Rattle.ssr_standing.specs.Around.{Mark, node_mark, token_mark, child_mark, hole_mark, same_mark}

kinds_decide : (a b : SyntaxKind) → Decides (same_kind a b) (a ≡ b)
kinds_decide a b = (same_kind-equal a b, equal-same_kind a b)

tokens_decide : (a b : Token) → Decides (same_token a b) (a ≡ b)
tokens_decide a b =
    Decides-like {P = (a.kind ≡ b.kind) × (a.text ≡ b.text)} {Q = a ≡ b} (same_token a b)
    (λ same. ap (λ (kind : SyntaxKind). record { kind = kind; text = a.text }) same.0 ∙ ap (λ (text : List ℕ). record { kind = b.kind; text = text }) same.1)
    (λ same. (ap (λ (t : Token). t.kind) same, ap (λ (t : Token). t.text) same))
    (Decides-and (same_kind a.kind b.kind) (bytes_eq a.text b.text) (kinds_decide a.kind b.kind) (bytes_eq-Decides a.text b.text))

inner_kind : SyntaxKind → Mark → SyntaxKind
inner_kind d (node_mark kind) = kind
inner_kind d (token_mark token) = d
inner_kind d child_mark = d
inner_kind d (hole_mark n) = d

inner_token : Token → Mark → Token
inner_token d (node_mark kind) = d
inner_token d (token_mark token) = token
inner_token d child_mark = d
inner_token d (hole_mark n) = d

pub marks_decide : (a b : Mark) → Decides (same_mark a b) (a ≡ b)
unfolding inner_kind inner_token
marks_decide (node_mark a) (node_mark b) =
    Decides-like {P = a ≡ b} {Q = node_mark a ≡ node_mark b} (same_kind a b) (ap node_mark) (λ same. ap (inner_kind a) same) (kinds_decide a b)
marks_decide (token_mark a) (token_mark b) =
    Decides-like {P = a ≡ b} {Q = token_mark a ≡ token_mark b} (same_token a b) (ap token_mark) (λ same. ap (inner_token a) same) (tokens_decide a b)
marks_decide child_mark child_mark = (λ _. refl, λ _. refl)
marks_decide (hole_mark m) (hole_mark n) =
    Decides-like {P = m ≡ n} {Q = hole_mark m ≡ hole_mark n} (m == n) (ap hole_mark) (λ same. cc) (Decides-eqb m n)
marks_decide a b = (λ told. cc, λ same. cc)

-- what is true just where the outlines are the same is the test of it
pub told_by : (marks others : List Mark) (told : Bool) → IsTrue told ↔ (marks ≡ others) → told ≡ pointwise same_mark marks others
told_by marks others told h =
    same_from_decides told (pointwise same_mark marks others) h
    (slice_eq-Decides marks_decide marks others (pointwise same_mark marks others) refl)
