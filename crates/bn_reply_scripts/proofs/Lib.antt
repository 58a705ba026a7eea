pub mod AlikeLemmas
pub mod ScriptLemmas
