-- How each end of a call for a command came.
use Rattle.std.proofs.Common.{◌≡◌, ℕ, List, inl, inr, refl, subst}
use Rattle.std.specs.Prelude.{◌⊎◌, Option, Some, Result, Ok, Err}
use Rattle.std.specs.Io.KnownBytes.{Consumes, IsAtEnd}
use Rattle.pm_io.specs.Faults.{Rose}
use Rattle.pm_io.specs.declared.whole.ReadError.{ReadError}
use Rattle.pm_head.specs.declared.code.Code.TheVariants.{InputTooLong}
use Rattle.pm_head.specs.declared.fault.Refusal.{Refusal}
use Rattle.pm_head.specs.Refusals.{refused}
use Rattle.pm_call.specs.Contents.{Content, FileIs}
use Rattle.pm_call.specs.declared.call.Status.{Status}
use Rattle.pm_call.specs.declared.call.Status.TheVariants.{Done, SessionRefused, Usage, ReadFault, WriteFault, NoMemory}
use Rattle.pm_call.specs.declared.finding.Found.{Found}
use Rattle.pm_call.specs.declared.words.Command.{Command}
use Rattle.pm_call.specs.Files.{file_of, form_of, ReadsInput}
use Rattle.pm_call.specs.Headline.{Writes, Agrees, Silent}
use Rattle.pm_call.specs.Obeyed.{Obeyed}
use Rattle.pm_call.specs.Output.{IsTextOf, status_for, IsAnswer, IsPastLimit}
use Rattle.pm_call.specs.Cases.{Tells, IsByCase}
use Rattle.pm_call.proofs.Cases.{tells, by-case}
use Rattle.pm_call.proofs.Answered.{answered-found, answer-of, answers-read}

no-memory-answers : IsAnswer NoMemory → ⊥
no-memory-answers (inl e) = absurd (cc)
no-memory-answers (inr e) = absurd (cc)

-- memory ran out before anything was written
pub out-of-memory : (asked : Command) (left rest : Option (List ℕ)) (f g : ℕ) (old : Option (List ℕ)) (w : ℕ) → g ≡ f
    → ReadsInput asked ⊎ ((rest ≡ left) × (g ≡ f)) → Obeyed asked NoMemory left rest f g old old w w
out-of-memory asked left rest f g old w same made = record {
  no_usage = λ e. absurd (cc);
  silent = refl;
  output = λ input is. refl;
  read_fault = λ e. absurd (cc);
  write_fault = λ e. absurd (cc);
  no_read_fault = inr same;
  no_write_fault = inr refl;
  read_whole = λ reads e. absurd (cc);
  read_enough = λ reads e. absurd (cc);
  made = made;
  complete = λ no_read no_write. inr refl;
  answers = λ h. absurd (no-memory-answers h);
}

-- what is known of the file: of a source that tells its bytes, of the bytes that were taken, and how far it was read
pub record IsFound (asked : Command) (found : Result Content Refusal) (left rest : Option (List ℕ)) : Type 0 where
  pub is : (input : List ℕ) → left ≡ Some input → FileIs (form_of asked) (file_of asked input) found
  pub took : (input : List ℕ) × Consumes left rest input × FileIs (form_of asked) (file_of asked input) found
  pub to_end : ReadsInput asked → IsAtEnd rest ⊎ ((found ≡ Err (refused 0 InputTooLong)) × IsPastLimit left rest)

silent : (status : Status) (old new : Option (List ℕ)) (text : List ℕ) → Writes status old new text
    → (status ≡ Usage → ⊥) → (status ≡ ReadFault → ⊥) → (status ≡ NoMemory → ⊥) → Silent status old new
silent Done old new text w u r m = tt
silent SessionRefused old new text w u r m = tt
silent Usage old new text w u r m = absurd (u refl)
silent ReadFault old new text w u r m = absurd (r refl)
silent WriteFault old new text w u r m = tt
silent NoMemory old new text w u r m = absurd (m refl)

whole : (right status : Status) (found : Result Content Refusal) (X Y : Type 0) → status ≡ Done → Agrees status right → right ≡ status_for found
    → X ⊎ ((found ≡ Err (refused 0 InputTooLong)) × Y) → X
whole right Done found X Y e a says (inl end) = end
whole right Done found X Y e a says (inr past) = let same = past.0 in absurd (cc)
whole right SessionRefused found X Y e a says end = absurd (cc)
whole right Usage found X Y e a says end = absurd (cc)
whole right ReadFault found X Y e a says end = absurd (cc)
whole right WriteFault found X Y e a says end = absurd (cc)
whole right NoMemory found X Y e a says end = absurd (cc)

-- where the file was found no read failed
pub no-fault : (found : Found) (X : Type 0) → (Ok found ≡ Err ReadError.ReadFault) ⊎ X → X
no-fault found X (inl e) = absurd (cc)
no-fault found X (inr x) = x

enough : {X Y Z : Type 0} → X ⊎ (Z × Y) → X ⊎ Y
enough (inl end) = inl end
enough (inr past) = inr past.1

-- the answer to what the file is was written, or a front of it
pub delivered : (asked : Command) (text : List ℕ) (found : Result Content Refusal) (right status : Status)
    (left rest : Option (List ℕ)) (f g : ℕ) (old new : Option (List ℕ)) (w v : ℕ)
    → IsFound asked found left rest → g ≡ f → ReadsInput asked ⊎ ((rest ≡ left) × (g ≡ f))
    → IsTextOf asked found text → right ≡ status_for found → Writes status old new text → Agrees status right
    → (status ≡ WriteFault → Rose w v) → (status ≡ WriteFault) ⊎ (v ≡ w)
    → (status ≡ Usage → ⊥) → (status ≡ ReadFault → ⊥) → (status ≡ NoMemory → ⊥)
    → Obeyed asked status left rest f g old new w v
delivered asked text found right status left rest f g old new w v file same made written says writes agrees fault no_fault usage read memory =
    let took = file.took in
    let answered = λ (input : List ℕ) (is : FileIs (form_of asked) (file_of asked input) found). answered-found asked asked input text found right status old new refl is written says writes agrees in
    record {
      no_usage = usage;
      silent = silent status old new text writes usage read memory;
      output = λ input is. answered input (file.is input is);
      read_fault = λ e. absurd (read e);
      write_fault = fault;
      no_read_fault = inr same;
      no_write_fault = no_fault;
      read_whole = λ reads e. whole right status found (IsAtEnd rest) (IsPastLimit left rest) e agrees says (file.to_end reads);
      read_enough = λ reads e. enough (file.to_end reads);
      made = made;
      complete = λ no_read no_write. inl (answer-of status usage read (λ e. no_write (fault e)) memory);
      answers = λ h. answers-read asked took.0 status left rest old new took.1 (answered took.0 took.2) h;
    }

-- what is told of a command is told of the one that was asked for
pub as-asked : (command asked : Command) (status : Status) (left rest : Option (List ℕ)) (f g : ℕ) (old new : Option (List ℕ)) (w v : ℕ)
    → command ≡ asked → Obeyed command status left rest f g old new w v → Obeyed asked status left rest f g old new w v
as-asked command asked status left rest f g old new w v same h = subst (λ (k : Command). Obeyed k status left rest f g old new w v) same h

pub tells-of : (asked : Command) (status : Status) (left rest : Option (List ℕ)) (f g : ℕ) (old new : Option (List ℕ)) (w v : ℕ)
    → Obeyed asked status left rest f g old new w v → (input : List ℕ) → left ≡ Some input → Tells (form_of asked) (file_of asked input) status
tells-of asked status left rest f g old new w v h input is = tells asked input status old new (h.output input is)

pub by-case-of : (asked : Command) (status : Status) (left rest : Option (List ℕ)) (f g : ℕ) (old new : Option (List ℕ)) (w v : ℕ)
    → Obeyed asked status left rest f g old new w v → (input : List ℕ) → left ≡ Some input
    → (Rose f g → ⊥) → (Rose w v → ⊥) → IsByCase (form_of asked) (file_of asked input) status
by-case-of asked status left rest f g old new w v h input is no_read no_write =
    by-case asked input status old new (h.output input is) (h.complete no_read no_write)
