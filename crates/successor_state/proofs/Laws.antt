-- The laws by which the functions meet their contracts.
pub mod Lead
pub mod Leads
pub mod LeadOne
