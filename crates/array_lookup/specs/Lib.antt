-- What a reader has to believe of lookups on an array: task lookup and first match, each as one definition.
pub mod Lookups
pub mod Rows
