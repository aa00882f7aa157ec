-- Files and expansions as a workspace is built of them, and as a facts file tells them.
use Rattle.std.specs.Prelude.{◌≡◌, List, map, String, string_bytes}
use Rattle.std.specs.Global.{Global}
use Rattle.ssr_syntax.specs.declared.expansions.ExpToken.{ExpToken}
use Rattle.ssr_syntax.specs.declared.expansions.ExpansionKind.{ExpansionKind}
use Rattle.ssr_syntax.specs.declared.expansions.ExpansionKind.TheVariants as kinds
use Rattle.ssr_base.specs.declared.building.Expansion.{Expansion}
use Rattle.ssr_base_trees.specs.Origins.{plain_origin}
use Rattle.ssr_facts_rows.specs.declared.sources.ExpansionKindRow.{ExpansionKindRow}
use Rattle.ssr_facts_rows.specs.declared.sources.ExpansionKindRow.TheVariants as rows
use Rattle.ssr_facts_rows.specs.Places.{call_place}
use Rattle.ssr_facts_rows.specs.Sources.{PlainToken, PlainExpansion}
use Rattle.ssr_facts_rows.specs.Facts.{PlainFacts}

-- ** The rows of what is handed in.

abbrev pub row_of_token : ExpToken → PlainToken
row_of_token token = record { text = string_bytes token.text; joint = token.joint; origin = plain_origin token.origin }

abbrev pub row_of_kind : ExpansionKind → ExpansionKindRow
row_of_kind kinds.Expr = rows.Expr
row_of_kind kinds.Items = rows.Items
row_of_kind kinds.Stmts = rows.Stmts

abbrev pub row_of_expansion : Expansion → PlainExpansion
row_of_expansion x = record {
  call = call_place x.call;
  kind = row_of_kind x.kind;
  tokens = map row_of_token x.tokens.items;
}

-- the texts of the files and the expansions that a facts file tells
pub record AreSources (facts : PlainFacts) (files : List (String Global)) (expansions : List Expansion) : Type 0 where
  pub texts : map string_bytes files ≡ map (λ file. file.text) facts.files
  pub rows : map row_of_expansion expansions ≡ facts.expansions
