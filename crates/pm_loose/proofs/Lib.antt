pub mod LooseLaws
