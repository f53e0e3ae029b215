-- Laws of signed numbers of 64 bits, and of operators by their codes.
pub mod SignedLaws
pub mod CodeLaws
