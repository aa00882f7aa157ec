use Rattle.ssr_changes.proofs.building.add.Goals as goal

pub returns-in_default : goal.returns-in_default
returns-in_default c = (c.in-Err.error, c.in-Err.ensures.refused c.in_default.not-Memory, c.in-Err.ensures.unchanged)
