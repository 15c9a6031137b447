mod DrawLemmas
mod TrialFacts
mod TrialWeights
mod AcceptedTrials
