pub mod PoolViews
pub mod Steps
