-- What follows for two meanings of an input, in each form of files.
use Rattle.std.specs.Prelude.{◌≡◌, ℕ, List, Ok, Err}
use Rattle.pm_head.specs.declared.form.Form.{Form}
use Rattle.pm_head.specs.declared.fault.Refusal.{Refusal}
use Rattle.pm_head.specs.OneMeaning.{SameHead}
use Rattle.pm_script.specs.declared.session.Session.{Session}
use Rattle.pm_script.specs.Sessions.{SessionIs}

-- The heads have the same types, document and clients, and the op lines are equal.
pub record SameSession (s t : Session) : Type 0 where
  pub head : SameHead s.head t.head
  pub lines : s.lines ≡ t.lines

-- an input that is a session is not refused
abbrev pub SessionExcludesRefusal : List ℕ → Type 0
SessionExcludesRefusal input = (form : Form) (s : Session) (refusal : Refusal) → SessionIs form input (Ok s) → SessionIs form input (Err refusal) → ⊥

-- its refusal, a line and a code, is one
abbrev pub HasOneRefusal : List ℕ → Type 0
HasOneRefusal input = (form : Form) (refusal other : Refusal) → SessionIs form input (Err refusal) → SessionIs form input (Err other) → refusal ≡ other

-- two sessions of the input are the same
abbrev pub HasOneSession : List ℕ → Type 0
HasOneSession input = (form : Form) (s t : Session) → SessionIs form input (Ok s) → SessionIs form input (Ok t) → SameSession s t
