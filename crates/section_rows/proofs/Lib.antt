pub mod ScanLemmas
pub mod RoomLemmas
pub mod EntryLemmas
