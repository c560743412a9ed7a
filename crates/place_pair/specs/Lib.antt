-- Two designs on one machine.

-- Cited above: the joint network of two networks, and images that stand apart
pub mod JointNetworks
pub mod Tenants
-- For the bodies of this crate
pub mod Sites
