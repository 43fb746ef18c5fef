pub mod ReadersLaws
pub mod NotesLaws
pub mod Outcomes
