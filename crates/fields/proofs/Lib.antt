pub mod Ring
pub mod RingExamples
