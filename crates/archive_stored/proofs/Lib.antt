mod MemoryLemmas
mod ReopenLemmas
mod StopLemmas
