-- Machines whose faults come and go, and what is left alone of them.
pub mod Histories
pub mod Tenants
pub mod Vocabulary
