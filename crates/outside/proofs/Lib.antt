pub mod EntryChanges
pub mod EntryLemmas
pub mod FaultLemmas
pub mod KnownBytes
pub mod ResultLemmas
pub mod WrittenLemmas
