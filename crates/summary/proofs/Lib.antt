pub mod MendedProblems
pub mod Spelled
pub mod OneFile
pub mod ReadingExamples
pub mod RoundTrip
pub mod Padding
pub mod Tests
