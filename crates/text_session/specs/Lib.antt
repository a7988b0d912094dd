-- What a read does to the session that it is handed to.
pub mod Handing
