pub mod FedSplices
pub mod OutcomeAnswers
pub mod LawProofs
pub mod KnownSides
pub mod WholeSplices
