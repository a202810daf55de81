pub mod Asking
pub mod Forms
pub mod Laws
pub mod Literal
pub mod Reading
