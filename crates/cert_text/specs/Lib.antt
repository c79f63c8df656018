pub mod Certs
pub mod Grammar
pub mod Forms
pub mod Faults
pub mod Steps
