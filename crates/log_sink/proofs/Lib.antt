pub mod RecordAdds
pub mod EachLemmas
