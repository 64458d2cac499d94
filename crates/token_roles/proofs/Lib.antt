pub mod EachRole
