pub mod PiecePromises
