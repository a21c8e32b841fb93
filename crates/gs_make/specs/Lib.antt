pub mod EndsWell
