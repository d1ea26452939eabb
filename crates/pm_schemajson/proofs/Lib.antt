mod Ascii
mod Unbuilt
mod Refusing
pub mod ReadFaults
pub mod SameTypes
pub mod SameEnds
pub mod ShallowTypes
pub mod SameDocuments
