-- Messages: terms, their equations and their normal forms ("Messages").
pub mod Term
pub mod Equation
pub mod Normal
