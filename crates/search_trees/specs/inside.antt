pub mod LeastPairs
