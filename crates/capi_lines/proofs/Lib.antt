pub mod LinesLaws
pub mod HoldsLaws
pub mod LinesStay
pub mod BehindTexts
pub mod ZerosStay
pub mod LineWordsLaws
pub mod Outcomes
