pub mod OrderLaws
pub mod RefusalLaws
