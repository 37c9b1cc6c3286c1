mod ScriptLemmas
mod PlayLemmas
mod Escapes
