-- The tokens of a side's tree are those that are read for its elements. A pattern has each placeholder once among them.
use Rattle.std.proofs.Common.{◌≡◌, ℕ, suc, ◌+◌, ◌<◌, ◌≤◌, ◌^◌, Bool, true, false, ◌&&◌, cond, List, [], ◌∷◌, ◌++◌, map, length, nat_lt, Option, Some, None, Ok, refl, sym, ◌∙◌, ap, subst, arith, append_assoc, length-append, bytes_eq}
use Rattle.std.specs.List.{AllByRecursion, cons_option, list_any, position_from, range_with_len}
use Rattle.std.specs.Option.{option_map, option_map_or, option_or}
use Rattle.std.specs.Str.{IsUtf8, trim}
use Rattle.std.proofs.lemmas.Bool.{and_parts, or_parts}
use Rattle.std.proofs.lemmas.List.Folds.{list_any-append}
use Rattle.std.proofs.lemmas.Slice.Eq.{bytes_eq-Decides}
use Rattle.ssr_syntax_kinds.specs.declared.kinds.SyntaxKind.{SyntaxKind}
use Rattle.ssr_syntax_kinds.specs.declared.kinds.SyntaxKind.TheVariants as k
use Rattle.ssr_syntax_lex.specs.declared.tokens.RawToken.{RawToken}
use Rattle.ssr_syntax_lex.specs.Tokens.{tokens, TilesFrom}
use Rattle.ssr_syntax_lex.proofs.Shared.{tokens_tile, tiles_spell}
use Rattle.ssr_syntax_kinds.specs.Kinds.{same_kind, is_ident}
use Rattle.ssr_syntax_kinds.proofs.Shared.{same_kind-equal}
use Rattle.ssr_syntax_tree.specs.Syntax.{Token, Syntax, tokens_of, spelled, same_token}
use Rattle.ssr_syntax_kinds.specs.declared.fragment.Fragment.{Fragment}
use Rattle.ssr_syntax_kinds.specs.declared.reach.Reach.{Reach}
use Rattle.ssr_syntax_rows.specs.Solid.{pieces}
use Rattle.ssr_syntax.specs.Reading.{fragment_reading_of, FitsFragmentOf}
use Rattle.ssr_syntax.specs.Identifiers.{idents}
use Rattle.ssr_syntax.proofs.Shared.{fragment_sound_of, fragment_idents_of, fragment_alone_of, fragment_clear_of, length-token, tiles_within, spelled-pieces, IsUtf8-trim, trim_shorter}
use Rattle.ide_ssr_rules.specs.declared.elements.Element.{Element}
use Rattle.ide_ssr_rules.specs.declared.elements.Element.TheVariants as e
use Rattle.ide_ssr_resolved_rule.specs.Names.{has, AreNew}
use Rattle.ide_ssr_rules.specs.Elements.{lexed, names_of}
use Rattle.ide_ssr_resolved_rule.specs.Patterns.{placeholders_among}
use Rattle.ide_ssr_rules.specs.Patterns.{IsReadOnce}
use Rattle.ide_ssr_resolved_rule.specs.StandIns.{stand_in_of, is_stand_in, name_at}
use Rattle.ide_ssr_rules.specs.StandIns.{read_as, code_of, first_glued, first_name, glued_placeholder, stand_in_text, spelled_stand_in}
use Rattle.ide_ssr_rules.proofs.Named.{over_idents}

-- ** The tokens are those that are read for the elements.

same_tokens : (one other : Token) → same_token one other ≡ true → one ≡ other
same_tokens one other h =
    let b = and_parts (same_kind one.kind other.kind) (bytes_eq one.text other.text) h in
    let kind : one.kind ≡ other.kind = same_kind-equal one.kind other.kind b.0 in
    let text : one.text ≡ other.text = (bytes_eq-Decides one.text other.text).0 b.1 in
    let token : SyntaxKind → List ℕ → Token = λ kind text. record { kind = kind; text = text } in
    ap (λ kind. token kind one.text) kind ∙ ap (token other.kind) text

goes_on : (same : Bool) (rest : Option (List ℕ)) (name : List ℕ) → cond same rest (Some name) ≡ None → (same ≡ true) × (rest ≡ None)
goes_on true rest name h = (refl, h)
goes_on false rest name h = cc

abbrev HasBytes : Token → Type 0
HasBytes token = 0 < length token.text

-- no token is left over, since each has a byte
read_tokens : (es : List Element) (ts : List Token) → first_glued es ts ≡ None → AllByRecursion HasBytes ts
    → length (spelled ts) ≤ length (code_of es) → ts ≡ map read_as es
read_tokens [] [] h some long = refl
read_tokens [] (t ∷ ts) h some long = absurd (omega (arith, long, some.0, length-append t.text (spelled ts)))
read_tokens (e ∷ es) [] h some long = cc
read_tokens (e ∷ es) (t ∷ ts) h some long =
    let g = goes_on (same_token (read_as e) t) (first_glued es ts) (first_name (e ∷ es)) h in
    let same : read_as e ≡ t = same_tokens (read_as e) t g.0 in
    let rest : length (spelled ts) ≤ length (code_of es) =
    omega (arith, long, length-append t.text (spelled ts), length-append (read_as e).text (code_of es), ap (λ (u : Token). length u.text) same) in
    ap (λ u. u ∷ ts) (sym same) ∙ ap (λ us. read_as e ∷ us) (read_tokens es ts g.1 some.1 rest)

-- ** Each placeholder is the stand-in of its name, and no other token is one.

none_passes : (p : List ℕ → Bool) (i : ℕ) (xs : List (List ℕ)) → list_any p xs ≡ false → position_from p i xs ≡ None
none_passes p i [] h = refl
none_passes p i (x ∷ xs) h =
    let n = or_parts (p x) (list_any p xs) h in
    ap (λ b. cond b (Some i) (position_from p (i + 1) xs)) n.0 ∙ none_passes p (i + 1) xs n.1

first_passes : (p : List ℕ → Bool) (i : ℕ) (xs : List (List ℕ)) (x : List ℕ) (ys : List (List ℕ)) → list_any p xs ≡ false → p x ≡ true
    → position_from p i (xs ++ x ∷ ys) ≡ Some (i + length xs)
first_passes p i [] x ys none h =
    let same : i ≡ i + 0 = omega arith in
    ap (λ b. cond b (Some i) (position_from p (i + 1) ys)) h ∙ ap Some same
first_passes p i (y ∷ xs) x ys none h =
    let n = or_parts (p y) (list_any p xs) none in
    let same : i + 1 + length xs ≡ i + suc (length xs) = omega arith in
    ap (λ b. cond b (Some i) (position_from p (i + 1) (xs ++ x ∷ ys))) n.0 ∙ first_passes p (i + 1) xs x ys n.1 h ∙ ap Some same

not_stand_in : (ident stands : Bool) (text : List ℕ) → cond (ident && stands) (Some text) None ≡ None → ident ≡ true → stands ≡ false
not_stand_in true true text h is = cc
not_stand_in true false text h is = refl
not_stand_in false stands text h is = cc

unnamed_if : (ident : Bool) (o : Option ℕ) → (ident ≡ true → o ≡ None) → cond ident o None ≡ None
unnamed_if true o h = h refl
unnamed_if false o h = refl

pub unnamed : (names others : List (List ℕ)) (t : Token) → stand_in_text (names ++ others) (e.Token t) ≡ None → name_at names t ≡ None
unfolding name_at
unnamed names others t h =
    let test : List ℕ → Bool = λ name. bytes_eq t.text (stand_in_of name) in
    unnamed_if (is_ident t.kind) (position_from test 0 names)
    (λ is.
    let any : list_any test (names ++ others) ≡ false = not_stand_in (is_ident t.kind) (is_stand_in (names ++ others) t.text) t.text h is in
    none_passes test 0 names (or_parts (list_any test names) (list_any test others) (sym (list_any-append test names others) ∙ any)).0)

-- the token that is read for a placeholder of this name
abbrev pub stand_in : List ℕ → Token
stand_in name = record { kind = k.IDENT; text = stand_in_of name }

-- the stand-in of a name that none before it is
stand_in_named : (before rest : List (List ℕ)) (name : List ℕ) → has before name ≡ false
    → name_at (before ++ name ∷ rest) (stand_in name) ≡ Some (length before)
unfolding name_at
stand_in_named before rest name new =
    let test : List ℕ → Bool = λ other. bytes_eq (stand_in_of name) (stand_in_of other) in
    let place : 0 + length before ≡ length before = omega arith in
    first_passes test 0 before name rest new ((bytes_eq-Decides (stand_in_of name) (stand_in_of name)).1 refl) ∙ ap Some place

pub neither_of : {X : Type 0} (one other : Option X) → option_or one other ≡ None → (one ≡ None) × (other ≡ None)
neither_of None other h = (refl, h)
neither_of (Some x) other h = absurd (let f : Some x ≡ None = h in cc)

each_from : (es : List Element) (before names others : List (List ℕ)) → names ≡ before ++ names_of es → AreNew before (names_of es)
    → spelled_stand_in (names ++ others) es ≡ None
    → placeholders_among names (map read_as es) ≡ range_with_len (length before) (length (names_of es))
each_from [] before names others are new none = refl
each_from (e.Token t ∷ es) before names others are new none =
    let n = neither_of (stand_in_text (names ++ others) (e.Token t)) (spelled_stand_in (names ++ others) es) none in
    ap (λ o. cons_option o (placeholders_among names (map read_as es))) (unnamed names others t n.0) ∙ each_from es before names others are new n.1
each_from (e.Placeholder placeholder ∷ es) before names others are new none =
    let name = placeholder.name in
    let more : length (before ++ name ∷ []) ≡ length before + 1 = length-append before (name ∷ []) in
    let count = length (names_of es) in
    ap (λ o. cons_option o (placeholders_among names (map read_as es)))
    (ap (λ ns. name_at ns (stand_in name)) are ∙ stand_in_named before (names_of es) name new.0)
    ∙ ap (λ ps. length before ∷ ps)
    (each_from es (before ++ name ∷ []) names others (are ∙ sym (append_assoc before (name ∷ []) (names_of es))) new.1 none
    ∙ ap (λ i. range_with_len i count) more)

-- ** The tree of a side's text with stand-ins.

lexed_same : (es : List Element) (o : Option (List Token)) → option_map_or (first_glued es) o (Some (first_name es)) ≡ None
    → (ts : List Token) × (o ≡ Some ts) × (first_glued es ts ≡ None)
lexed_same es None h = cc
lexed_same es (Some ts) h = (ts, refl, h)

raw_of : (text : List ℕ) (short : Bool) (o : Option (List RawToken)) (ts : List Token) → cond short (option_map (pieces text) o) None ≡ Some ts
    → (raw : List RawToken) × (o ≡ Some raw) × (ts ≡ pieces text raw)
raw_of text true (Some raw) ts h = (raw, refl, cc)
raw_of text true None ts h = cc
raw_of text false o ts h = cc

pub lexed_raw : (text : List ℕ) (ts : List Token) → lexed text ≡ Some ts → (raw : List RawToken) × (tokens text ≡ Some raw) × (ts ≡ pieces text raw)
unfolding lexed
lexed_raw text ts h = raw_of text (nat_lt (length text) (2 ^ 32)) (tokens text) ts h

have_bytes : (text : List ℕ) (start : ℕ) (raw : List RawToken) → TilesFrom text start raw → AllByRecursion HasBytes (pieces text raw)
have_bytes text start [] tiles = tt
have_bytes text start (t ∷ raw) tiles =
    let long = length-token text t start tiles.0 (tiles_within text t.range.end raw tiles.3) in
    (omega (arith, long, tiles.1), have_bytes text t.range.end raw tiles.3)

code-read : (es : List Element) → code_of es ≡ spelled (map read_as es)
code-read [] = refl
code-read (e ∷ es) = ap (λ bs. (read_as e).text ++ bs) (code-read es)

-- the tokens of the text as it is read, which there is no white space around
record IsUnchanged (es : List Element) : Type 0 where
  found : List Token
  lexes : lexed (trim (code_of es)) ≡ Some found
  are_read : found ≡ map read_as es
  is_trimmed : trim (code_of es) ≡ code_of es

unchanged : (es : List Element) → IsUtf8 (code_of es) → glued_placeholder es ≡ None → IsUnchanged es
unfolding glued_placeholder
unchanged es utf8 h =
    let text = trim (code_of es) in
    let same = lexed_same es (lexed text) h in
    let r = lexed_raw text same.0 same.1 in
    let tiles = tokens_tile text r.0 (IsUtf8-trim (code_of es) utf8) r.1 in
    let spells : spelled same.0 ≡ text = ap spelled r.2 ∙ spelled-pieces text r.0 ∙ tiles_spell text r.0 tiles in
    let read : same.0 ≡ map read_as es =
    read_tokens es same.0 same.2 (subst (AllByRecursion HasBytes) (sym r.2) (have_bytes text 0 r.0 tiles))
    (omega (arith, ap length spells, trim_shorter (code_of es) utf8)) in
    record { found = same.0; lexes = same.1; are_read = read; is_trimmed = sym spells ∙ ap spelled read ∙ sym (code-read es) }

-- a side whose tokens stay has no white space around its text with stand-ins
pub stays_trimmed : (es : List Element) → IsUtf8 (code_of es) → glued_placeholder es ≡ None → trim (code_of es) ≡ code_of es
stays_trimmed es utf8 h = (unchanged es utf8 h).is_trimmed

one_raw : (one other : List RawToken) → ◌≡◌ {A = Option (List RawToken)} (Some one) (Some other) → one ≡ other
one_raw one other h = cc

-- the identifiers of the tree are those that are read for the elements
tree_idents : (reach : Reach) (category : Fragment) (es : List Element) (tree : Syntax) → IsUtf8 (code_of es) → glued_placeholder es ≡ None
    → FitsFragmentOf reach category (code_of es) tree → idents (tokens_of tree) ≡ idents (map read_as es)
tree_idents reach category es tree utf8 same fits =
    let text = trim (code_of es) in
    let t = unchanged es utf8 same in
    let r = lexed_raw text t.found t.lexes in
    let f = fragment_idents_of reach category (code_of es) tree fits in
    let raw : f.0 ≡ r.0 = one_raw f.0 r.0 (sym f.1 ∙ r.1) in
    f.2 ∙ ap idents (ap (pieces text) raw ∙ sym r.2 ∙ t.are_read)

-- the placeholders of the tree are those that are read for the elements
pub tree_among : (reach : Reach) (category : Fragment) (es : List Element) (names : List (List ℕ)) (tree : Syntax) → IsUtf8 (code_of es) → trim (code_of es) ≡ code_of es
    → glued_placeholder es ≡ None → FitsFragmentOf reach category (code_of es) tree
    → placeholders_among names (tokens_of tree) ≡ placeholders_among names (map read_as es)
tree_among reach category es names tree utf8 is_trimmed same fits =
    over_idents names (tokens_of tree)
    ∙ ap (placeholders_among names) (tree_idents reach category es tree utf8 same fits)
    ∙ sym (over_idents names (map read_as es))

-- ** Sides whose placeholders are told apart from the other tokens.

-- a side that is read as it is written, with no stand-in of these names but its own
pub record IsSide (names : List (List ℕ)) (es : List Element) : Type 0 where
  pub utf8 : IsUtf8 (code_of es)
  pub is_trimmed : trim (code_of es) ≡ code_of es
  pub new : AreNew [] (names_of es)
  pub same : glued_placeholder es ≡ None
  pub free : spelled_stand_in names es ≡ None

pub side_fits : (reach : Reach) (category : Fragment) (names : List (List ℕ)) (es : List Element) (tree : Syntax) → IsSide names es
    → fragment_reading_of reach category (code_of es) ≡ Ok tree → FitsFragmentOf reach category (code_of es) tree
side_fits reach category names es tree is read =
    (fragment_sound_of reach category (code_of es) tree (subst IsUtf8 (sym is.is_trimmed) is.utf8) read).fits

pub pattern_each : (reach : Reach) (category : Fragment) (es : List Element) (others : List (List ℕ)) (tree : Syntax) → IsSide (names_of es ++ others) es
    → fragment_reading_of reach category (code_of es) ≡ Ok tree → IsReadOnce (names_of es) tree
pattern_each reach category es others tree is read =
    let text = code_of es in
    let names = names_of es in
    let fits = side_fits reach category (names ++ others) es tree is read in
    record {
      each = tree_among reach category es names tree is.utf8 is.is_trimmed is.same fits ∙ each_from es [] names others refl is.new is.free;
      alone = fragment_alone_of reach category text tree fits;
      clear = fragment_clear_of reach category text tree fits;
      different = is.new;
    }
