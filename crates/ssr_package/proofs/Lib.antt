mod PathLaws
mod CandidateLaws
mod Fronts
mod CrateNames
mod Trees
mod GlobLaws
mod TextLaws
