use Rattle.std.proofs.Common.{rules, ◌≡◌, map}
use Rattle.ssr_base_trees.specs.Applied.{changes_of}
use Rattle.ssr_base_trees.specs.Origins.{span_of}
use Rattle.ssr_set_aside.proofs.PartLaws.{are_parts}
use Rattle.ssr_set_aside.proofs.setting.made_by.Goals as goal

pub returns-in-Ok-parse_file_owned_of-clause-aside : goal.returns-in-Ok-parse_file_owned_of-clause-aside
returns-in-Ok-parse_file_owned_of-clause-aside c =
    let made = c.new-in-Ok-parse_file_owned_of.result in
    let changes = c.deref-else-not-are_blanked.result.now in
    let ranges = c.deref-else-not-are_blanked-3.result.now in
    let same_changes : made.aside ≡ changes_of changes = search rules in
    let same_ranges : made.unsearched ≡ map span_of ranges = search rules in
    record {
      order = search rules;
      fits = search rules;
      lengths = search rules;
      replaced = search rules;
      covered = search rules;
      blanks = search rules;
      parts =
          are_parts c.args.cut.now.text.now c.args.cut.now.plain.now c.args.cut.now.tokens.now (changes_of changes) made.aside (map span_of ranges) made.unsearched
          c.requires.plain c.requires.tokens (c.in_ok-are_of_tokens.ensures c.if-not-branch.false) same_changes same_ranges;
    }
