pub mod RoomAfter
