pub mod Grammar
pub mod Reading
pub mod ReadingHeader
pub mod Writing
pub mod Laws
