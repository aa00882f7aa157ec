-- The words of laws: that of rows one workspace is built.
use Rattle.std.specs.Prelude.{◌≡◌, List, String}
use Rattle.std.specs.Global.{Global}
use Rattle.ssr_base.specs.declared.building.Expansion.{Expansion}
use Rattle.ssr_base.specs.Building.{built}
use Rattle.ssr_facts_rows.specs.Facts.{PlainFacts}
use Rattle.ssr_facts.specs.Sources.{AreSources}

-- all texts and expansions that have these rows come to the same: a workspace, or a refusal
abbrev pub OneWorkspace : PlainFacts → Type 0
OneWorkspace rows =
    (files again : List (String Global)) (expansions others : List Expansion)
    → AreSources rows files expansions → AreSources rows again others → built files expansions ≡ built again others
