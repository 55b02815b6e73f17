-- What a reader has to believe of the calls on an array that have no cycle record, each as one definition.
pub mod Calls
pub mod Rows
