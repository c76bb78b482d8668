pub mod Grammar
pub mod Reader
pub mod Program
pub mod Height
pub mod Lines
pub mod Internal
