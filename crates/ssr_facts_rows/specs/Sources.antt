-- Files, and what macro calls in them stand for.
use Rattle.std.specs.Prelude.{ℕ, Bool, List, [], ◌∷◌, map, Option, Some, None, codes, string_bytes}
use Rattle.serde_json.specs.Data.{Data}
use Rattle.serde_json.specs.Find.{as_str, as_bool}
use Rattle.ssr_base_trees.specs.Origins.{Span, plain_origin}
use Rattle.ssr_facts_rows.specs.Fields.{◌>>=◌, meaning, items, rows, has_only, required}
use Rattle.ssr_facts_rows.specs.Places.{span, call_place, place_row}
use Rattle.ssr_facts_rows.specs.declared.places.PlaceRow.{PlaceRow}
use Rattle.ssr_facts_rows.specs.declared.sources.FileRow.{FileRow}
use Rattle.ssr_facts_rows.specs.declared.sources.ExpansionToken.{ExpansionToken}
use Rattle.ssr_facts_rows.specs.declared.sources.ExpansionRow.{ExpansionRow}
use Rattle.ssr_facts_rows.specs.declared.sources.ExpansionKindRow.{ExpansionKindRow}
use Rattle.ssr_facts_rows.specs.declared.sources.ExpansionKindRow.TheVariants as kinds

-- ** Files.

pub record PlainFile : Type 0 where
  pub name : List ℕ
  pub text : List ℕ

abbrev pub plain_file : FileRow → PlainFile
plain_file row = record { name = string_bytes row.name; text = string_bytes row.text }

-- {"name": text, "text": text}
abbrev pub file_row : Data → Option PlainFile
file_row d = do
  _ ← has_only (codes "name" ∷ codes "text" ∷ []) d
  name ← required (codes "name") as_str d
  text ← required (codes "text") as_str d
  Some (record { name = name; text = text })

-- ** Expansions.

pub record PlainToken : Type 0 where
  pub text : List ℕ
  pub joint : Bool
  pub origin : Option Span

abbrev pub plain_token : ExpansionToken → PlainToken
plain_token row = record { text = string_bytes row.text; joint = row.joint; origin = plain_origin row.origin }

abbrev pub token : Data → Data → Option Span → Option PlainToken
token text joint origin = do
  t ← as_str text
  j ← as_bool joint
  Some (record { text = t; joint = j; origin = origin })

abbrev pub token_of : List Data → Option PlainToken
token_of (text ∷ joint ∷ []) = token text joint None
token_of (text ∷ joint ∷ start ∷ end ∷ []) = span start end >>= λ origin. token text joint (Some origin)
token_of _ = None

-- [text, joint] or [text, joint, start, end]
abbrev pub token_row : Data → Option PlainToken
token_row d = items d >>= token_of

abbrev pub expansion_kind : Data → Option ExpansionKindRow
expansion_kind = meaning (("expr", kinds.Expr) ∷ ("items", kinds.Items) ∷ ("stmts", kinds.Stmts) ∷ [])

pub record PlainExpansion : Type 0 where
  pub call : PlaceRow
  pub kind : ExpansionKindRow
  pub tokens : List PlainToken

abbrev pub plain_expansion : ExpansionRow → PlainExpansion
plain_expansion row = record { call = call_place row.call; kind = row.kind; tokens = map plain_token row.tokens.items }

-- {"call": [tree, start, end], "kind": kind, "tokens": [token, ..]}
abbrev pub expansion_row : Data → Option PlainExpansion
expansion_row d = do
  _ ← has_only (codes "call" ∷ codes "kind" ∷ codes "tokens" ∷ []) d
  call ← required (codes "call") place_row d
  kind ← required (codes "kind") expansion_kind d
  tokens ← required (codes "tokens") (rows token_row) d
  Some (record { call = call; kind = kind; tokens = tokens })
