pub mod StageLemmas
pub mod MeasureLemmas
pub mod RoomLemmas
