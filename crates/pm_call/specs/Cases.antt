-- Which status a file of a form has, by what it is, where no read and no write failed.
use Rattle.std.specs.Prelude.{◌≡◌, ◌⊎◌, ℕ, List, Ok, Err}
use Rattle.pm_head.specs.declared.fault.Refusal.{Refusal}
use Rattle.pm_call.specs.declared.call.Status.{Status}
use Rattle.pm_call.specs.declared.call.Status.TheVariants.{Done, SessionRefused, NoMemory}
use Rattle.pm_call.specs.declared.files.FileForm.{FileForm}
use Rattle.pm_call.specs.Contents.{Content, FileIs}

-- Done for a session, or for rooms, and SessionRefused for an input that is none; or memory ran out
pub record IsByCase (form : FileForm) (input : List ℕ) (status : Status) : Type 0 where
  pub session : (c : Content) → FileIs form input (Ok c) → (status ≡ Done) ⊎ (status ≡ NoMemory)
  pub refused : (refusal : Refusal) → FileIs form input (Err refusal) → (status ≡ SessionRefused) ⊎ (status ≡ NoMemory)

-- status 1 is that of no session and of no rooms, and status 0 that of no other input
pub record Tells (form : FileForm) (input : List ℕ) (status : Status) : Type 0 where
  pub session : (c : Content) → FileIs form input (Ok c) → status ≡ SessionRefused → ⊥
  pub refused : (refusal : Refusal) → FileIs form input (Err refusal) → status ≡ Done → ⊥
