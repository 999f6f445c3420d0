pub mod LinkLaws
pub mod StepLaws
pub mod StagedLaws
mod ChainedLaws
mod NamesLaws
mod SetLaws
pub mod StoredLaws
mod WriteOverLaws
pub mod ValueLaws
mod PutLaws
