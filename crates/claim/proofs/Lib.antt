pub mod Agree
pub mod Exact
pub mod Demand
pub mod Premises
pub mod WrongPlanners
pub mod KeptPlans
pub mod Rest
pub mod InPlace
