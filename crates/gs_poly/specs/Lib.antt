pub mod Polynomial
pub mod PolynomialLaws
