pub mod TableLaws
pub mod WorkLaws
pub mod PrintingLaws
pub mod Verdicts
pub mod GoodJobs
pub mod BadJobs
pub mod WholeText
pub mod Outcomes
