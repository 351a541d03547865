mod Cut
pub mod Small
