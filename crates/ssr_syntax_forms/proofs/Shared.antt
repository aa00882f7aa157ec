-- What the crates above may cite of the theorems on forms. The other files of lemmas here are this crate's own.

-- answers by cases
pub use Rattle.ssr_syntax_forms.proofs.Results.{bind_ok, ok_one}
-- kinds in lists
pub use Rattle.ssr_syntax_forms.proofs.Check.{every, meets}
pub use Rattle.ssr_syntax_forms.proofs.Members.{apart, at_next, every_mem, mem_append, mem_where_whole, one_taken}
-- tests of several strings
pub use Rattle.ssr_syntax_forms.proofs.Tests.{first_passes, others_pass}
-- what fits a form, with goals by levels
unfoldable pub use Rattle.ssr_syntax_forms.proofs.Nested.{FitsGoal}
pub use Rattle.ssr_syntax_forms.proofs.Nested.{FitsBelow, Step, Repeats, FitsForm, goals_by_rules, at_some_level}
pub use Rattle.ssr_syntax_forms.proofs.Walks.{IsKept, walk_goals}
-- what a grammar has to keep, and what it then has
pub use Rattle.ssr_syntax_forms.proofs.Check.{Tables, keeps, remembers, makes_node, lone_marks}
pub use Rattle.ssr_syntax_forms.proofs.Depth.{IsShallow, shallow_of, covered, lower_ranks, lower_ranked}
pub use Rattle.ssr_syntax_forms.proofs.Keeping.{complete_goal}
pub use Rattle.ssr_syntax_forms.proofs.Lone.{goals_lone}
pub use Rattle.ssr_syntax_forms.proofs.Decision.{IsLone, decided, answers}
-- a reading tells no want of memory
pub use Rattle.ssr_syntax_forms.proofs.MemoryFree.{IsFree, no_tree, free-bind, free-goal}
-- readings and runs
pub use Rattle.ssr_syntax_forms.proofs.Levels.{goals_spell, goals_sound, read_as_run, refused_as_run}
pub use Rattle.ssr_syntax_forms.proofs.Cuts.{cut_goals}
pub use Rattle.ssr_syntax_forms.proofs.Loops.{run_as_long_as, run_comma_list, run_decide}
pub use Rattle.ssr_syntax_forms.proofs.Widening.{run_also, run_also_decide, run_settle, run_choose_by, run_look_by, run_repeated_by, run_as_long_as_by, run_comma_by, run_comma_list_by}
