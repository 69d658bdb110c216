pub mod Asked
pub mod CallRounds
pub mod Calls
pub mod Diagram
pub mod Ends
pub mod Rounds
pub mod SagaOrder
