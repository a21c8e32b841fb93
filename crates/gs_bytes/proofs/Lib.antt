pub mod Cases
pub mod Decimals
pub mod FieldLemmas
pub mod Lists
pub mod NumberLemmas
pub mod SpaceLemmas
pub mod StreamLemmas
pub mod WordLemmas
