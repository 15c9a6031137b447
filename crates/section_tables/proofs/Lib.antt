pub mod NumbersLemmas
pub mod SlabsLemmas
pub mod EachLemmas
pub mod RecordsLemmas
pub mod TableLemmas
pub mod ProgressLemmas
pub mod PricesLemmas
