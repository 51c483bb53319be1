-- Classical FM: the evaluator, and what bisimulations keep ("Steps", last paragraph).
pub mod Truth
pub mod Bisimulation
