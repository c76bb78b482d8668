pub mod Cut
pub mod Album
pub mod Judged
pub mod Loops
