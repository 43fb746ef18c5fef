pub mod CasesHold
pub mod JobsHold
