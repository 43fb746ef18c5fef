pub mod MapsLaws
pub mod MapListLaws
pub mod RoomLaws
pub mod StreamLaws
pub mod PartLaws
pub mod LoadingLaws
pub mod PartsLaws
pub mod Outcomes
