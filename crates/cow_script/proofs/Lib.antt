pub mod AtomLists
pub mod CaptureLists
pub mod LinesRead
