-- Private: what leads the search for a rule.
use Rattle.ssr_syntax_tree.specs.Places.{depth_at}
use Rattle.ide_ssr_resolved_rule.specs.declared.used_paths.UsedPath.{UsedPath}
use Rattle.ide_ssr_resolved_rule.specs.Resolved.{ResolvedRule}
use Rattle.ide_ssr_leading.specs.declared.led.Lead.{Lead}

-- what a path of the pattern stands for, and how deep it stands
abbrev pub lead_of : ResolvedRule → UsedPath → Lead
lead_of rule path = record { res = path.res; depth = depth_at rule.pattern path.node.0 }
