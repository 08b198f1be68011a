pub mod SpelledLemmas
pub mod Gains
pub mod EqualJobs
pub mod RespelledPrograms
