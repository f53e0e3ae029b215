-- Lists with room for so many items.
pub mod RoomLaws
