pub mod PolynomialLemmas
pub mod Differences
pub mod Roots
pub mod Interpolation
