-- How much of Rust is read.
use Rattle.std.specs.Prelude.{Bool, true, false}
use Rattle.ssr_syntax_kinds.specs.declared.reach.Reach.{Reach}
use Rattle.ssr_syntax_kinds.specs.declared.reach.Reach.TheVariants.{Stated, Whole}

-- all of stable Rust, and not the stated language alone
abbrev pub is_whole : Reach → Bool
is_whole Stated = false
is_whole Whole = true
