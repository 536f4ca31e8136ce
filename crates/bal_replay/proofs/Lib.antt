mod CompleteFacts
mod DriverFacts
mod ReplayFacts
