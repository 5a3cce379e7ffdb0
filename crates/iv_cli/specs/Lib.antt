pub mod Loading
pub mod ScriptEndings
