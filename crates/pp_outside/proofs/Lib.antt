pub mod MemoryReads
