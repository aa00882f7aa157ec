-- What holds of making a search: the words of its law.
use Rattle.std.specs.Prelude.{ℕ, List, IsSome}
use Rattle.ssr_base_trees.specs.declared.ids.FilePosition.{FilePosition}
use Rattle.ssr_base_trees.specs.declared.ids.FileRange.{FileRange}
use Rattle.ssr_base_trees.specs.Meanings.{Meanings}
use Rattle.ssr_base_trees.specs.Workspace.{Workspace, node_id}
use Rattle.ide_ssr_search.specs.Context.{Context}
use Rattle.ide_ssr_search.specs.Making.{LiesInText, AreOfFiles, IsContext}

-- at a position in a file's text, for restrictions of files, a search is made for something, if the nodes of the file stand in scopes
abbrev pub ContextExists : Workspace → Meanings → FilePosition → List FileRange → Type 0
ContextExists w m position restrictions =
    LiesInText w position → AreOfFiles w restrictions → ((n : ℕ) → IsSome (m.scope (node_id position.file_id.0 n)))
    → (c : Context) × IsContext w m position restrictions c
