pub mod CopyLemmas
pub mod PatientLemmas
mod KnownLemmas
