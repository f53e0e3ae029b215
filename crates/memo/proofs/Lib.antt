-- Lists of slots, what is kept, keys and the truths that they stand for.
pub mod SlotLists
pub mod Memos
pub mod SameTruths
pub mod Digits
pub mod Keys
