-- What is written for an input is one.
use Rattle.std.specs.Prelude.{◌≡◌, ℕ, List, Ok}
use Rattle.pm_head.specs.declared.form.Form.TheVariants as form
use Rattle.pm_script.specs.declared.session.Session.{Session}
use Rattle.pm_script.specs.Sessions.{SessionIs}
use Rattle.pm_call.specs.declared.call.Status.{Status}
use Rattle.pm_call.specs.declared.words.Command.{Command}
use Rattle.pm_call.specs.Output.{counts_of, IsOutput}
use Rattle.pm_call.specs.Playing.{report_of}

-- two sessions of the input have one report
abbrev pub HasOneReport : List ℕ → Type 0
HasOneReport input = (s t : Session) → SessionIs form.Plain input (Ok s) → SessionIs form.Plain input (Ok t) → report_of s ≡ report_of t

-- and one line of counts
abbrev pub HasOneCount : List ℕ → Type 0
HasOneCount input = (s t : Session) → SessionIs form.Plain input (Ok s) → SessionIs form.Plain input (Ok t) → counts_of s ≡ counts_of t

-- what a command writes for the input is one text, and the status that says so is one
abbrev pub HasOneOutput : Command → List ℕ → Type 0
HasOneOutput command input = (text other : List ℕ) (a b : Status) → IsOutput command input text a → IsOutput command input other b → (text ≡ other) × (a ≡ b)
