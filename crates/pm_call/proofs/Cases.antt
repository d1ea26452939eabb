-- The status of an answer is that of what the input is.
use Rattle.std.proofs.Common.{◌≡◌, ℕ, List, length, inl, inr, refl, ap, ◌∙◌, sym}
use Rattle.std.specs.Prelude.{◌⊎◌, codes, decimal, Option, Result, Ok, Err}
use Rattle.pm_head.specs.declared.fault.Refusal.{Refusal}
use Rattle.pm_head.specs.declared.form.Form.TheVariants as form
use Rattle.pm_script.specs.declared.session.Session.{Session}
use Rattle.pm_script.specs.Sessions.{SessionIs}
use Rattle.pm_call.specs.Contents.{Content, FileIs}
use Rattle.pm_call.proofs.Contents.{file-apart, as_content, read-text}
use Rattle.pm_script.specs.OneMeaning.{SameSession}
use Rattle.pm_script.proofs.OneSession.{session-apart, one-refusal, one-session}
use Rattle.pm_report.specs.Words.{◌&◌, line}
use Rattle.pm_call.specs.declared.call.Status.{Status}
use Rattle.pm_call.specs.declared.call.Status.TheVariants.{Done, SessionRefused, Usage, ReadFault, WriteFault, NoMemory}
use Rattle.pm_call.specs.declared.words.Command.{Command}
use Rattle.pm_call.specs.declared.words.Command.TheVariants.{Check}
use Rattle.pm_call.specs.Files.{file_of, form_of}
use Rattle.pm_call.specs.Output.{refusal, counts_of, IsTextOf, status_for, IsOutput, Answered, IsAnswer}
use Rattle.pm_call.specs.Cases.{IsByCase, Tells}

-- ---- the status

of-session : (command : Command) (input text : List ℕ) (s : Content) → FileIs (form_of command) (file_of command input) (Ok s) → IsOutput command input text SessionRefused → ⊥
of-session command input text s is o = at o.found o.is o.says
  where
    at : (found : Result Content Refusal) → FileIs (form_of command) (file_of command input) found → SessionRefused ≡ status_for found → ⊥
    at (Ok t) h e = absurd (cc)
    at (Err fault) h e = file-apart (form_of command) (file_of command input) s fault is h

of-refused : (command : Command) (input text : List ℕ) (fault : Refusal) → FileIs (form_of command) (file_of command input) (Err fault) → IsOutput command input text Done → ⊥
of-refused command input text fault is o = at o.found o.is o.says
  where
    at : (found : Result Content Refusal) → FileIs (form_of command) (file_of command input) found → Done ≡ status_for found → ⊥
    at (Ok s) h e = file-apart (form_of command) (file_of command input) s fault h is
    at (Err other) h e = absurd (cc)

-- what was written tells what the file is
pub tells : (asked : Command) (input : List ℕ) (status : Status) (old new : Option (List ℕ)) → Answered asked input status old new → Tells (form_of asked) (file_of asked input) status
tells asked input Done old new a = record { session = λ s is e. absurd (cc); refused = λ fault is e. of-refused asked input a.text fault is a.output }
tells asked input SessionRefused old new a = record { session = λ s is e. of-session asked input a.text s is a.output; refused = λ fault is e. absurd (cc) }
tells asked input Usage old new a = absurd a
tells asked input ReadFault old new a = record { session = λ s is e. absurd (cc); refused = λ fault is e. absurd (cc) }
tells asked input WriteFault old new a = record { session = λ s is e. absurd (cc); refused = λ fault is e. absurd (cc) }
tells asked input NoMemory old new a = record { session = λ s is e. absurd (cc); refused = λ fault is e. absurd (cc) }

-- an answer, or running out of memory, is by case
pub by-case : (asked : Command) (input : List ℕ) (status : Status) (old new : Option (List ℕ)) → Answered asked input status old new → IsAnswer status ⊎ (status ≡ NoMemory) → IsByCase (form_of asked) (file_of asked input) status
by-case asked input status old new a (inl (inl e)) =
    let t = tells asked input status old new a in
    record { session = λ s is. inl e; refused = λ fault is. absurd (t.refused fault is e) }
by-case asked input status old new a (inl (inr e)) =
    let t = tells asked input status old new a in
    record { session = λ s is. absurd (t.session s is e); refused = λ fault is. inl e }
by-case asked input status old new a (inr e) = record { session = λ s is. inr e; refused = λ fault is. inr e }

-- ---- the text

counts-same : (s t : Session) → SameSession s t → counts_of s ≡ counts_of t
counts-same s t e = λ i. line (codes "ok" & decimal (length (e.lines i)) & decimal (length (e.head.doc i).tokens))

-- the status of an output is one
pub one-status : (command : Command) (input text other : List ℕ) (a b : Status) → IsOutput command input text a → IsOutput command input other b → a ≡ b
one-status command input text other a b x y = x.says ∙ at x.found y.found x.is y.is ∙ sym y.says
  where
    at : (f g : Result Content Refusal) → FileIs (form_of command) (file_of command input) f → FileIs (form_of command) (file_of command input) g → status_for f ≡ status_for g
    at (Ok s) (Ok t) h k = refl
    at (Ok s) (Err fault) h k = absurd (file-apart (form_of command) (file_of command input) s fault h k)
    at (Err fault) (Ok t) h k = absurd (file-apart (form_of command) (file_of command input) t fault k h)
    at (Err fault) (Err g) h k = refl

-- what `check` writes is one
pub one-check : (input text other : List ℕ) (a b : Status) → IsOutput Check input text a → IsOutput Check input other b → text ≡ other
one-check input text other a b x y =
    let p = read-text Check form.Plain input text x.found x.is x.written in
    let q = read-text Check form.Plain input other y.found y.is y.written in
    at p.0 q.0 p.1 q.1 p.2 q.2
  where
    at : (f g : Result Session Refusal) → SessionIs form.Plain input f → SessionIs form.Plain input g → IsTextOf Check (as_content f) text → IsTextOf Check (as_content g) other → text ≡ other
    at (Ok s) (Ok t) h k v w = v ∙ counts-same s t (one-session form.Plain input s t h k) ∙ sym w
    at (Ok s) (Err fault) h k v w = absurd (session-apart form.Plain input s fault h k)
    at (Err fault) (Ok t) h k v w = absurd (session-apart form.Plain input t fault k h)
    at (Err fault) (Err g) h k v w = v ∙ ap refusal (one-refusal form.Plain input fault g h k) ∙ sym w
