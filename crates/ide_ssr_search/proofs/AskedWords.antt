-- The word that a rule's pattern asks of a node has each node that matches.
use Rattle.std.proofs.Common.{◌≡◌, ℕ, Bool, true, false, ◌||◌, ◌⊎◌, inl, inr, List, [], ◌∷◌, Option, Some, None, refl, sym, ap, ◌∙◌, subst}
use Rattle.std.specs.Prelude.{IsTrue, bytes_eq, if◌then◌else◌}
use Rattle.std.specs.Option.{option_and_then}
use Rattle.std.proofs.lemmas.Option.{none-some, same_Some}
use Rattle.std.proofs.lemmas.Slice.Eq.{bytes_eq-Decides}
use Rattle.ssr_syntax_tree.specs.Syntax.{Syntax}
use Rattle.ssr_syntax_tree.specs.declared.number.Element.{Element}
use Rattle.ssr_syntax_tree.specs.declared.number.Element.TheVariants as element
use Rattle.ssr_syntax_tree.specs.declared.number.NodeNo.{NodeNo}
use Rattle.ssr_syntax_tree.specs.declared.number.TokenNo.{TokenNo}
use Rattle.ssr_syntax_tree.specs.Places.{Node, Part, token_part, node_part, part_of, parts_of, token_of, root_of}
use Rattle.ssr_base_trees.specs.Meanings.{Meanings}
use Rattle.ide_ssr_resolved_rule.specs.Resolved.{ResolvedRule}
use Rattle.ide_ssr_bindings.specs.declared.bindings.Binding.{Binding}
use Rattle.ide_ssr_matching.specs.Children.{is_left_out, bare}
use Rattle.ide_ssr_matching.specs.Matching.{Matches, Pairs, end, tokens, nodes}
use Rattle.ide_ssr_search.specs.Private.Words.{counts, first_text, node_behind, MatchesByChildren, IsWordOf, LacksWord}
use Rattle.ide_ssr_search.proofs.Asked.{counted_kept, matched_alike}

-- ** What is left out doesn't count.

text_bare : (parts : List Part) → first_text (bare parts) ≡ first_text parts
text_bare [] = refl
text_bare (token_part t token ∷ rest) = here (is_left_out token.kind rest) (counts token.kind) refl refl (text_bare rest)
  where
    here : (out counted : Bool) → is_left_out token.kind rest ≡ out → counts token.kind ≡ counted → first_text (bare rest) ≡ first_text rest
        → first_text (if out then bare rest else token_part t token ∷ bare rest) ≡ (if counted then Some token.text else first_text rest)
    here true true is counts_too behind = let e : false ≡ true = sym (counted_kept token.kind rest counts_too) ∙ is in cc
    here true false is other behind = behind
    here false true is counts_too behind = ap (λ b. if b then Some token.text else first_text (bare rest)) counts_too
    here false false is other behind = ap (λ b. if b then Some token.text else first_text (bare rest)) other ∙ behind
text_bare (node_part node ∷ rest) = text_bare rest

or_false : (b c : Bool) → c ≡ false → (b || c) ≡ b
or_false true c is = refl
or_false false c is = is

or_true : (b c : Bool) → c ≡ true → (b || c) ≡ true
or_true true c is = refl
or_true false c is = is

behind_bare : (counted : Bool) (parts : List Part) → node_behind counted (bare parts) ≡ node_behind counted parts
behind_bare counted [] = refl
behind_bare counted (token_part t token ∷ rest) = here (is_left_out token.kind rest) (counts token.kind) refl refl (λ counted. behind_bare counted rest)
  where
    here : (out counts_too : Bool) → is_left_out token.kind rest ≡ out → counts token.kind ≡ counts_too
        → ((counted : Bool) → node_behind counted (bare rest) ≡ node_behind counted rest)
        → node_behind counted (if out then bare rest else token_part t token ∷ bare rest) ≡ node_behind (counted || counts token.kind) rest
    here true true is counts_too behind = let e : false ≡ true = sym (counted_kept token.kind rest counts_too) ∙ is in cc
    here true false is other behind = behind counted ∙ ap (λ b. node_behind b rest) (sym (or_false counted (counts token.kind) other))
    here false counts_too is told behind = behind (counted || counts token.kind)
behind_bare true (node_part node ∷ rest) = refl
behind_bare false (node_part node ∷ rest) = behind_bare false rest

-- ** Sibling by sibling.

module _ (tree : Syntax) (child : Element) (rest : List Part) where
  pub behind_node : (counted : Bool) (n : NodeNo) → child ≡ element.Node n → counted ≡ false → node_behind counted rest ≡ node_behind counted (part_of tree child ∷ rest)
  behind_node true n is none = let e : true ≡ false = none in cc
  behind_node false n is none = ap (λ e. node_behind false (part_of tree e ∷ rest)) (sym is)

  pub behind_counted : (counted : Bool) (t : TokenNo) → child ≡ element.Token t → counts (token_of tree t.0).kind ≡ true → node_behind true rest ≡ node_behind counted (part_of tree child ∷ rest)
  behind_counted counted t is one =
      ap (λ b. node_behind b rest) (sym (or_true counted (counts (token_of tree t.0).kind) one)) ∙ ap (λ e. node_behind counted (part_of tree e ∷ rest)) (sym is)

  pub behind_other : (counted : Bool) (t : TokenNo) → child ≡ element.Token t → counts (token_of tree t.0).kind ≡ false → node_behind counted rest ≡ node_behind counted (part_of tree child ∷ rest)
  behind_other counted t is none =
      ap (λ b. node_behind b rest) (sym (or_false counted (counts (token_of tree t.0).kind) none)) ∙ ap (λ e. node_behind counted (part_of tree e ∷ rest)) (sym is)

  pub text_of_node : (n : NodeNo) → child ≡ element.Node n → first_text rest ≡ first_text (part_of tree child ∷ rest)
  text_of_node n is = ap (λ e. first_text (part_of tree e ∷ rest)) (sym is)

  pub text_there : (t : TokenNo) → child ≡ element.Token t → counts (token_of tree t.0).kind ≡ true → Some (token_of tree t.0).text ≡ first_text (part_of tree child ∷ rest)
  text_there t is one = sym (ap (λ b. if b then Some (token_of tree t.0).text else first_text rest) one) ∙ ap (λ e. first_text (part_of tree e ∷ rest)) (sym is)

  pub text_other : (t : TokenNo) → child ≡ element.Token t → counts (token_of tree t.0).kind ≡ false → first_text rest ≡ first_text (part_of tree child ∷ rest)
  text_other t is none = sym (ap (λ b. if b then Some (token_of tree t.0).text else first_text rest) none) ∙ ap (λ e. first_text (part_of tree e ∷ rest)) (sym is)

-- ** Two rows that pair.

text_paired : (m : Meanings) (tree : ℕ) (rule : ResolvedRule) (ps cs : List Part) (bs : List Binding) → Pairs m tree rule ps cs bs → first_text ps ≡ first_text cs
text_paired m tree rule _ _ _ end = refl
text_paired m tree rule _ _ _ (tokens t u p c ps cs bs same text rest) =
    ap (λ kind. if counts kind then Some p.text else first_text ps) same
    ∙ ap (λ own. if counts c.kind then Some own else first_text ps) text
    ∙ ap (λ behind. if counts c.kind then Some c.text else behind) (text_paired m tree rule ps cs bs rest)
text_paired m tree rule _ _ _ (nodes p c ps cs bs rest here behind) = text_paired m tree rule ps cs rest behind

-- the node of the code that matches one of the pattern
record Partner (m : Meanings) (tree : ℕ) (rule : ResolvedRule) (found : Option Node) (p : Node) : Type 0 where
  pub node : Node
  pub bindings : List Binding
  pub is : found ≡ Some node
  pub matches : Matches m tree rule p node bindings

behind_paired : (m : Meanings) (tree : ℕ) (rule : ResolvedRule) (counted : Bool) (ps cs : List Part) (bs : List Binding) (q : Node) → Pairs m tree rule ps cs bs
    → node_behind counted ps ≡ Some q → Partner m tree rule (node_behind counted cs) q
behind_paired m tree rule counted _ _ _ q end is = absurd (none-some q is)
behind_paired m tree rule counted _ _ _ q (tokens t u p c ps cs bs same text rest) is =
    subst (λ b. Partner m tree rule (node_behind b cs) q) (ap (λ kind. counted || counts kind) same)
    (behind_paired m tree rule (counted || counts p.kind) ps cs bs q rest is)
behind_paired m tree rule true _ _ _ q (nodes p c ps cs bs rest here behind) is =
    record { node = c; bindings = bs; is = refl; matches = subst (λ p. Matches m tree rule p c bs) (same_Some p q is) here }
behind_paired m tree rule false _ _ _ q (nodes p c ps cs bs rest here behind) is = behind_paired m tree rule false ps cs rest q behind is

-- ** What is asked.

pub met_or_lacks : (b : Bool) (asked own : List ℕ) → b ≡ bytes_eq asked own → IsTrue b ⊎ LacksWord (Some asked) (Some own)
met_or_lacks true asked own is = inl refl
met_or_lacks false asked own is =
    inr (asked, refl, λ same. let e : false ≡ true = is ∙ (bytes_eq-Decides asked own).1 (sym (same_Some own asked same)) in cc)

pub lacks_word : (asked : List ℕ) → LacksWord (Some asked) None
lacks_word asked = (asked, refl, λ same. absurd (none-some asked same))

-- no node is asked for a word where none is known
pub no_word : (rule : ResolvedRule) → IsWordOf rule None
no_word rule text is = absurd (none-some text is)

-- where a node that matches by its children stands below a root that does so too, each match has its word
pub word_of_root : (rule : ResolvedRule) (q : Node) (word : Option (List ℕ)) → MatchesByChildren rule (root_of rule.pattern)
    → node_behind false (parts_of (root_of rule.pattern)) ≡ Some q → MatchesByChildren rule q → word ≡ first_text (parts_of q) → IsWordOf rule word
word_of_root rule q word root behind alone word_is text is m tree c bindings matches =
    let p = root_of rule.pattern in
    let pairs = matched_alike m tree rule p c bindings root.no_placeholder root.no_call root.no_path root.each matches in
    let partner =
    behind_paired m tree rule false (bare (parts_of p)) (bare (parts_of c)) bindings q pairs (behind_bare false (parts_of p) ∙ behind) in
    let below =
    matched_alike m tree rule q partner.node partner.bindings alone.no_placeholder alone.no_call alone.no_path alone.each partner.matches in
    let same : first_text (parts_of q) ≡ first_text (parts_of partner.node) = sym (text_bare (parts_of q))
    ∙ text_paired m tree rule (bare (parts_of q)) (bare (parts_of partner.node)) partner.bindings below ∙ text_bare (parts_of partner.node) in
    ap (option_and_then (λ (node : Node). first_text (parts_of node))) (sym (behind_bare false (parts_of c)) ∙ partner.is)
    ∙ sym same ∙ sym word_is ∙ is
