use Rattle.ssr_drafts.proofs.draft.Draft.+settle.Given as goal

abbrev pub decreases-settle : goal.decreases-settle
decreases-settle l = l.levels
