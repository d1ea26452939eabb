-- The words that callers' own clauses need.
pub use Rattle.pm_tokens.specs.Faults.{Valid}
pub use Rattle.pm_schema.specs.Documents.{documents_of}
pub use Rattle.pm_apply.specs.Changes.{meaning}
pub use Rattle.pm_authority.specs.Kept.{IsKept}
pub use Rattle.pm_authority.specs.Requests.{IsOwn}
pub use Rattle.pm_client.specs.Kins.{Kin, Stands}
pub use Rattle.pm_desk.specs.Desks.{IsSeatOf, first_seat}
