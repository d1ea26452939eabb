mod Pieces
mod Readable
mod Lines
mod Texts
mod SchemaData
mod Spec
mod Few
mod Autos
mod Built
mod Document
mod Clients
mod Ops
pub mod Whole
