pub mod CodeDemands
