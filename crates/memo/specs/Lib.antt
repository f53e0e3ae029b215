pub mod MemoPromises
