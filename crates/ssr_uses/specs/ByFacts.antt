-- The edits that a rule makes by what a facts file tells.
use Rattle.std.specs.Prelude.{ℕ, List, Ok}
use Rattle.std.specs.BTreeMap.{BTreeMap}
use Rattle.ssr_base_trees.specs.declared.ids.FileId.{FileId}
use Rattle.ssr_base_trees.specs.Changes.{Change}
use Rattle.ssr_facts_rows.specs.Facts.{facts_of}
use Rattle.ssr_facts.specs.declared.facts.Facts.{Facts}
use Rattle.ssr_facts.specs.Provider.{provided}
use Rattle.ssr_facts.specs.Reading.{Answers}
use Rattle.ssr_uses.specs.Rewriting.{AreEdits}

-- the bytes are read as facts, and these are the edits in their workspace, by their provider, at their position and in their ranges
pub record AreEditsByFacts (bytes : List ℕ) (rule : List ℕ) (edits : BTreeMap FileId (List Change)) : Type 0 where
  pub facts : Facts
  pub are_read : Answers (facts_of bytes) (Ok facts)
  pub are_edits : AreEdits facts.workspace (provided facts.semantics) facts.position facts.ranges.items rule edits
