-- Pieces of text written side by side are one piece; a number in decimal, digit by digit; numbers with a sign.
pub mod WrittenPieces
pub mod Digits
pub mod Signs
