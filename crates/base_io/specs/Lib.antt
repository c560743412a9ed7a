-- What a store and a sink are to the code above them.
pub mod Counts
pub mod Told
pub mod Store
pub mod Sink
pub mod Whole
pub mod MemoryStore
pub mod MemoryStoreInside
pub mod MemorySink
pub mod CutSink
pub mod FileStore
pub mod StdSink
pub mod Vocabulary
