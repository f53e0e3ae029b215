pub mod TrialPromises
