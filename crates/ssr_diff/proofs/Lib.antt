mod LinesOf
mod SameLines
mod WritingLaws
mod HunkLaws
