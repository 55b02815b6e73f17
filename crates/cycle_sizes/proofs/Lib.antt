-- The example's proof; the functions' proofs stand in folders of their names.
pub mod Examples
