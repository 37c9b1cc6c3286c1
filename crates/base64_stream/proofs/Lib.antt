pub mod EncoderLemmas
pub mod GroupsLemmas
pub mod DecodingLemmas
pub mod GatherLemmas
pub mod DecoderLemmas
pub mod ExactLemmas
