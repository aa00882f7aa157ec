-- Steps of the loops that read short texts.
use Rattle.std.proofs.Common.{◌≡◌, ℕ, zero, suc, ◌+◌, ◌-◌, ◌<◌, ◌≤◌, ◌==◌, ◌&&◌, Bool, true, false, if◌then◌else◌, List, [], ◌∷◌, ◌++◌, length, map, take, drop, get_or, refl, sym, ap, subst, ◌∙◌, arith}
use Rattle.std.specs.Prelude.{All}
use Rattle.std.proofs.lemmas.List.{length-take, length-drop, take_all, take_more, map_push, get_or_default}
use Rattle.std.proofs.lemmas.List.Elements.{All-append, All-cons, All-nil}
use Rattle.std.proofs.lemmas.List.Folds.{list_any_at, list_any_none}
use Rattle.std.proofs.lemmas.Option.{unwrap_or-slice_get}
use Rattle.ssr_syntax_kinds.specs.declared.kinds.SyntaxKind.{SyntaxKind}
use Rattle.ssr_syntax_lex.specs.declared.tokens.RawToken.{RawToken}
use Rattle.ssr_syntax_tree.specs.Syntax.{Syntax, Token, tokens_of}
use Rattle.ssr_syntax_tree.specs.Places.{Node, nodes_of, node_of, token_of, start_of, end_of, HasNode, HasToken}
use Rattle.ssr_syntax_tree.specs.declared.number.TokenNo.{TokenNo}
use Rattle.ssr_syntax_tree.proofs.Shared.{length-nodes_of, length-tokens_in}
use Rattle.ssr_syntax_forms.specs.Kinds.{mem}
use Rattle.ssr_syntax_places.specs.PlainCore.{of_two, of_three, size_of_kind, solid_size}
use Rattle.ssr_syntax_places.specs.Spans.{has_node_at}
use Rattle.ssr_syntax_shorts.specs.Names.{place_of}
use Rattle.ssr_syntax_shorts.specs.Told.{IsCut, IsSolidAt, AreTokens, solid_before}
use Rattle.ssr_syntax_shorts.specs.declared.stand_ins.Name.{Name}

-- ** A text without white space around it.

none_left : (r : List ℕ) → length r ≡ 0 → r ≡ []
none_left [] e = refl
none_left (c ∷ cs) e = absurd (omega (arith, e))

-- a part of a text that is as long is the text
pub alone_same : (s r : List ℕ) (m n : ℕ) → r ≡ take n (drop m s) → length r ≡ length s → r ≡ s
alone_same [] r m n is e = none_left r e
alone_same (c ∷ cs) r zero n is e = is ∙ take_all n (c ∷ cs) (omega (arith, ap length is, length-take n (c ∷ cs), e))
alone_same (c ∷ cs) r (suc m) n is e = absurd (omega (arith, ap length is, length-take n (drop m cs), length-drop m cs, e))

-- ** Nodes.

pub node_at : (tree : Syntax) (n : ℕ) (d : Node) → HasNode tree n → get_or (nodes_of tree) n d ≡ node_of tree n
unfolding node_of
node_at tree n d h = get_or_default (nodes_of tree) n d _ (omega (arith, length-nodes_of tree)) ∙ sym (unwrap_or-slice_get (nodes_of tree) n _)

pub node_found : (tree : Syntax) (from to n : ℕ) → HasNode tree n
    → (0 + start_of tree (node_of tree n) == from && 0 + end_of tree (node_of tree n) == to) ≡ true → has_node_at tree 0 from to ≡ true
unfolding has_node_at
node_found tree from to n h e =
    list_any_at (λ node. 0 + start_of tree node == from && 0 + end_of tree node == to) (nodes_of tree) n (node_of tree n)
    (omega (arith, length-nodes_of tree))
    (rw (node_at tree n (node_of tree n) h) e)

pub node_missing : (tree : Syntax) (from to : ℕ)
    → ((n : ℕ) → HasNode tree n → (0 + start_of tree (node_of tree n) == from && 0 + end_of tree (node_of tree n) == to) ≡ false)
    → has_node_at tree 0 from to ≡ false
unfolding has_node_at
node_missing tree from to none =
    list_any_none (λ node. 0 + start_of tree node == from && 0 + end_of tree node == to) (nodes_of tree)
    (λ k d h. let has : HasNode tree k = omega (arith, length-nodes_of tree) in rw (node_at tree k d has) (none k has))

-- ** The number of a token.

size_bound : (three two : Bool) → (if three then 3 else if two then 2 else 1) ≤ 3
size_bound true two = omega arith
size_bound false true = omega arith
size_bound false false = omega arith

pub size_few : (kind : SyntaxKind) → size_of_kind kind ≤ 3
size_few kind = size_bound (mem kind of_three) (mem kind of_two)

size_append : (xs ys : List Token) → solid_size (xs ++ ys) ≡ solid_size xs + solid_size ys
size_append [] ys = omega arith
size_append (x ∷ xs) ys = omega (arith, size_append xs ys)

pub number_more : (tree : Syntax) (t : ℕ) → HasToken tree t → place_of tree (t + 1) ≡ place_of tree t + solid_size (token_of tree t ∷ [])
unfolding token_of
number_more tree t has =
    let ts : List Token = tokens_of tree in
    let d : Token = token_of tree t in
    let one : take (t + 1) ts ≡ take t ts ++ (get_or ts t d ∷ []) = take_more ts t d (omega (arith, has, length-tokens_in tree.children)) in
    let same : get_or ts t d ≡ token_of tree t =
    get_or_default ts t d _ (omega (arith, has, length-tokens_in tree.children)) ∙ sym (unwrap_or-slice_get ts t _) in
    ap solid_size one ∙ size_append (take t ts) (get_or ts t d ∷ [])
    ∙ ap (λ (u : Token). solid_size (take t ts) + solid_size (u ∷ [])) same

-- ** Names that are tokens.

pub tokens_none : (syntax : Syntax) (raw : List RawToken) → AreTokens syntax raw [] []
tokens_none syntax raw = record { cuts = All-nil (IsCut raw); solid = All-nil (IsSolidAt syntax); same = refl }

pub tokens_more : (syntax : Syntax) (raw : List RawToken) (names : List Name) (tokens : List TokenNo) (i : ℕ) (name : Name) (token : TokenNo)
    → i < length names → name ≡ get_or names i name → IsCut raw name → IsSolidAt syntax token
    → place_of syntax token.0 ≡ solid_before name.at raw
    → AreTokens syntax raw (take i names) tokens → AreTokens syntax raw (take (i + 1) names) (tokens ++ (token ∷ []))
tokens_more syntax raw names tokens i name token less is cut solid same are =
    let f : TokenNo → ℕ = λ t. place_of syntax t.0 in
    let g : Name → ℕ = λ n. solid_before n.at raw in
    let P : Name → Type 0 = IsCut raw in
    let Q : TokenNo → Type 0 = IsSolidAt syntax in
    let one : take (i + 1) names ≡ take i names ++ (name ∷ []) =
    take_more names i name less ∙ ap (λ n. take i names ++ (n ∷ [])) (sym is) in
    record {
      cuts = subst (All P) (sym one) (All-append P (take i names) (name ∷ []) are.cuts (All-cons P name [] cut (All-nil P)));
      solid = All-append Q tokens (token ∷ []) are.solid (All-cons Q token [] solid (All-nil Q));
      same = map_push f tokens token
          ∙ ap (λ l. l ++ (f token ∷ [])) are.same
          ∙ ap (λ n. map g (take i names) ++ (n ∷ [])) same
          ∙ sym (map_push g (take i names) name)
          ∙ ap (map g) (sym one);
    }
