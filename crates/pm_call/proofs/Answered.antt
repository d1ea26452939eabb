-- What was written belongs to the command and the input.
use Rattle.std.proofs.Common.{◌≡◌, ℕ, List, inl, inr, subst}
use Rattle.std.specs.Prelude.{Option, Result}
use Rattle.std.specs.Io.KnownBytes.{Consumes}
use Rattle.pm_call.specs.declared.call.Status.{Status}
use Rattle.pm_call.specs.declared.call.Status.TheVariants.{Done, SessionRefused, Usage, ReadFault, WriteFault, NoMemory}
use Rattle.pm_call.specs.declared.words.Command.{Command}
use Rattle.pm_call.specs.Files.{file_of, form_of}
use Rattle.pm_call.specs.Headline.{Writes, Agrees}
use Rattle.pm_head.specs.declared.fault.Refusal.{Refusal}
use Rattle.pm_call.specs.Contents.{Content, FileIs}
use Rattle.pm_call.specs.Output.{IsTextOf, status_for, IsOutput, IsWritten, Answered, AnswersRead, IsAnswer}

pub answered : (asked : Command) (input text : List ℕ) (right status : Status) (old new : Option (List ℕ)) → IsOutput asked input text right → Writes status old new text → Agrees status right → Answered asked input status old new
answered asked input text right Done old new o w a = record { text = text; output = subst (IsOutput asked input text) a o; whole = w }
answered asked input text right SessionRefused old new o w a = record { text = text; output = subst (IsOutput asked input text) a o; whole = w }
answered asked input text right Usage old new o w a = absurd a
answered asked input text right ReadFault old new o w a = w
answered asked input text right WriteFault old new o w a = record { text = text; status = right; output = o; count = w.0; within = w.1; front = w.2 }
answered asked input text right NoMemory old new o w a = w

-- the answer to what the file is belongs to the command that was asked for
pub answered-found : (command asked : Command) (input text : List ℕ) (found : Result Content Refusal) (right status : Status) (old new : Option (List ℕ))
    → command ≡ asked → FileIs (form_of command) (file_of command input) found → IsTextOf command found text → right ≡ status_for found
    → Writes status old new text → Agrees status right → Answered asked input status old new
answered-found command asked input text found right status old new same is written says w a =
    subst (λ (c : Command). Answered c input status old new) same
    (answered command input text right status old new (record { found = found; is = is; written = written; says = says }) w a)

-- a status that is none of the others is an answer
pub answer-of : (status : Status) → (status ≡ Usage → ⊥) → (status ≡ ReadFault → ⊥) → (status ≡ WriteFault → ⊥) → (status ≡ NoMemory → ⊥) → IsAnswer status
answer-of Done u r w m = inl cc
answer-of SessionRefused u r w m = inr cc
answer-of Usage u r w m = absurd (u cc)
answer-of ReadFault u r w m = absurd (r cc)
answer-of WriteFault u r w m = absurd (w cc)
answer-of NoMemory u r w m = absurd (m cc)

-- with an answer the output was written whole
whole-of : (asked : Command) (input : List ℕ) (status : Status) (old new : Option (List ℕ)) → Answered asked input status old new → IsAnswer status → IsWritten asked input status old new
whole-of asked input Done old new a h = a
whole-of asked input SessionRefused old new a h = a
whole-of asked input Usage old new a h = absurd a
whole-of asked input ReadFault old new a (inl e) = absurd (cc)
whole-of asked input ReadFault old new a (inr e) = absurd (cc)
whole-of asked input WriteFault old new a (inl e) = absurd (cc)
whole-of asked input WriteFault old new a (inr e) = absurd (cc)
whole-of asked input NoMemory old new a (inl e) = absurd (cc)
whole-of asked input NoMemory old new a (inr e) = absurd (cc)

-- and it is the output for the bytes that were read
pub answers-read : (asked : Command) (input : List ℕ) (status : Status) (left rest old new : Option (List ℕ)) → Consumes left rest input → Answered asked input status old new → IsAnswer status → AnswersRead asked status left rest old new
answers-read asked input status left rest old new read a h = record { input = input; read = read; written = whole-of asked input status old new a h }
