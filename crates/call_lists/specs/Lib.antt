-- What a reader has to believe of lists of calls: calls as data, each run by its own definition, and the claim that ties lists to the calls' contracts.
pub mod Run
pub mod Claims
