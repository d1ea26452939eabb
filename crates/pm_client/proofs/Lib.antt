pub mod Lists
pub mod Prefixes
pub mod RebaseLaws
pub mod SerialLists
pub mod Partings
pub mod DropLaws
pub mod TimelineLaws
pub mod Carryings
pub mod Pasts
pub mod Entering
pub mod Keeps
pub mod Takings
pub mod Answering
pub mod LogNames
mod Names
mod Advances
mod Handed
mod Plannings
pub mod Causings
mod Rebasings
mod Rebasers
mod Pushings
mod Movings
mod Tokens
mod Origins
mod Leads
pub mod TokenRuns
pub mod TokenLeads
pub mod TokenKeeps
pub mod Turns
pub mod Makings
mod Edits
pub mod Tyings
