-- What contracts here say with; nothing that the law lacks.
pub mod Kinds
pub mod Puts
pub mod Replying
pub mod Reports
