-- Matches as a list of findings.
use Rattle.std.specs.Prelude.{ℕ, ◌≡◌, List, map, string_bytes}
use Rattle.ssr_base_trees.specs.declared.ids.FileRange.{FileRange}
use Rattle.ide_ssr.specs.declared.matches.Match.{Match}
use Rattle.ide_ssr.specs.Finder.{Finder}
use Rattle.ide_ssr.specs.Matches.{range_of, rule_of, text_of}
use Rattle.ide_ssr.specs.Nesting.{ShowKept}
use Rattle.ssr_uses.specs.declared.listing.Finding.{Finding}

-- what is told of a match
pub record Told : Type 0 where
  pub range : FileRange
  pub text : List ℕ
  pub rule : ℕ

abbrev pub told_by : Finding → Told
told_by finding = record { range = finding.range; text = string_bytes finding.text; rule = finding.rule }

abbrev pub told_of : Match → Told
told_of m = record { range = range_of m; text = text_of m; rule = rule_of m }

-- the findings tell the outermost matches that a finder shows, in order
pub record AreFindings (finder : Finder) (findings : List Finding) : Type 0 where
  pub matches : List Match
  pub shown : ShowKept finder matches
  pub tell : map told_by findings ≡ map told_of matches
