pub mod DoneWorkers
pub mod UncoveredPuts
pub mod GrownLists
pub mod FirstSeats
pub mod JoinedOutputs
pub mod MadeTasks
