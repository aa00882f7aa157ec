-- How a path of the code is read.
use Rattle.std.specs.Prelude.{ℕ, ◌≡◌, ◌+◌, List, [], ◌∷◌, ◌++◌, Option, Some, None, codes, unwrap_or, nat_le, if◌then◌else◌}
use Rattle.ssr_syntax_kinds.specs.declared.kinds.SyntaxKind.TheVariants as k
use Rattle.ssr_syntax_tree.specs.Syntax.{Syntax}
use Rattle.ssr_syntax_tree.specs.Places.{Node, node_of, parts_of}
use Rattle.ide_ssr_resolved_rule.specs.Paths.{first_of_kind, last_name}
use Rattle.ssr_names_items.specs.declared.names.Names.{Names}
use Rattle.ssr_names_items.specs.declared.table.Name.{Name}
use Rattle.ssr_names_items.specs.declared.table.Start.{Start}
use Rattle.ssr_names_items.specs.declared.table.Start.TheVariants as starts
use Rattle.ssr_names_items.specs.Names.{number_of}
use Rattle.ssr_names.specs.declared.code_paths.Segment.{Segment}
use Rattle.ssr_names.specs.declared.code_paths.Segment.TheVariants as segment
use Rattle.ssr_names.specs.Locals.{begins_with_colons}

-- What a segment with this name is: a word of the language, or a name by its number. A name that nothing of the run has is as good
-- as any other such name.
abbrev pub IsSegment : Names → Name → Option (List ℕ) → Segment → Type 0
IsSegment names stranger text (segment.Name name) = (spelled : List ℕ) × (text ≡ Some spelled) × (name ≡ unwrap_or (number_of names spelled) stranger)
IsSegment names stranger text segment.Crate = text ≡ Some (codes "crate")
IsSegment names stranger text segment.SelfWord = text ≡ Some (codes "self")
IsSegment names stranger text segment.Super = text ≡ Some (codes "super")
IsSegment names stranger text segment.Other = text ≡ None

-- the segments of a path, from the first one on
pub data AreSegments (names : Names) (stranger : Name) (tree : Syntax) : Node → List Segment → Type 0 where
  segments_one : (path : Node) (last : Segment) → first_of_kind k.PATH (parts_of path) ≡ None → IsSegment names stranger (last_name path.children) last
      → AreSegments names stranger tree path (last ∷ [])
  segments_more : (path front : Node) (first : List Segment) (last : Segment) → first_of_kind k.PATH (parts_of path) ≡ Some front
      → AreSegments names stranger tree front first → IsSegment names stranger (last_name path.children) last
      → AreSegments names stranger tree path (first ++ last ∷ [])

-- how a path begins, where one more segment follows that is a word of the language
abbrev pub continued : Start → Segment → Option Start
continued starts.Plain segment.Crate = Some starts.Crate
continued starts.Plain segment.SelfWord = Some starts.SelfModule
continued starts.Plain segment.Super = Some (starts.Super 1)
continued starts.SelfModule segment.Super = Some (starts.Super 1)
continued (starts.Super n) segment.Super = Some (starts.Super (if nat_le 4294967295 n then 4294967295 else n + 1))
continued s word = None

-- how a path begins that has these segments, and the names behind that
pub data AreRead (start : Start) : List Segment → Start → List Name → Type 0 where
  read_none : AreRead start [] start []
  read_word : (segments : List Segment) (word : Segment) (before after : Start) → AreRead start segments before [] → continued before word ≡ Some after
      → AreRead start (segments ++ word ∷ []) after []
  read_name : (segments : List Segment) (name : Name) (before : Start) (names : List Name) → AreRead start segments before names
      → AreRead start (segments ++ segment.Name name ∷ []) before (names ++ name ∷ [])

-- how a path of a tree is spelled: how it begins, and the names behind that
pub record IsSpelledAs (names : Names) (stranger : Name) (tree : Syntax) (path : ℕ) (start : Start) (spelled : List Name) : Type 0 where
  pub segments : List Segment
  pub are : AreSegments names stranger tree (node_of tree path) segments
  pub read : AreRead (if begins_with_colons tree (node_of tree path) then starts.Global else starts.Plain) segments start spelled
