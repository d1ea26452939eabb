pub mod LetterLists
pub mod Carrying
