-- The lines between the tool and a machine behind a port, and what they mean.
pub mod Answers
pub mod Boards
pub mod Checks
pub mod Codes
pub mod FilePorts
pub mod Linked
pub mod Lines
pub mod Ports
pub mod Replays
pub mod Requests
pub mod RigPorts
pub mod Said
pub mod Sessions
pub mod Stands
pub mod Transcripts
pub mod Turns
