pub mod BufferedLemmas
pub mod Short
