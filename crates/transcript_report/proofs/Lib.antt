pub mod PairSplits
pub mod FirstUnlawful
pub mod PairFaults
pub mod PairChecks
pub mod StreamFindings
pub mod VerdictEnds
pub mod OneVerdict
pub mod VerdictRuns
