pub mod Lead
