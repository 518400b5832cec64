pub mod Sets
pub mod Blank
pub mod Relation
pub mod Machine
pub mod Climb
