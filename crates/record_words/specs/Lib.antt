-- The cycle record as seven words, that no record is lost in them, and a call on a record that lies in words.
pub mod Words
pub mod Claims
