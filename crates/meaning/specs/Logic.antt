-- Classical FM and strong early bisimulation ("Steps", last paragraph).
pub mod Truth
pub mod Bisimulation
