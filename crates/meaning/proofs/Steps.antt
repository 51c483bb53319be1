-- Steps: the list of steps is that of the rules, and names are new ("Steps").
pub mod Enumeration
pub mod Invariant
