-- Lists of the defects of a machine of the rig.
pub mod Possible
pub mod Lists
