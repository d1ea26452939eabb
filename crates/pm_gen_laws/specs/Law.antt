-- What a file may be.
use Rattle.std.specs.Prelude.{ℕ, List, Ok, Err}
use Rattle.pm_head.specs.declared.form.Form.TheVariants.{Plain}
use Rattle.pm_head.specs.declared.fault.Refusal.{Refusal}
use Rattle.pm_script.specs.declared.session.Session.{Session}
use Rattle.pm_script.specs.Sessions.{SessionIs}

-- the file is a session in which every client is there from the first line on
abbrev pub IsSession : List ℕ → Type 0
IsSession file = (s : Session) × SessionIs Plain file (Ok s)

-- no line of it is refused, and it isn't too long
abbrev pub IsNeverRefused : List ℕ → Type 0
IsNeverRefused file = (refusal : Refusal) → SessionIs Plain file (Err refusal) → ⊥
