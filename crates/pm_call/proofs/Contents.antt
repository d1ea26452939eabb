-- What a file is, in each form, is one.
use Rattle.std.proofs.Common.{◌≡◌, ℕ, List, Result, Ok, Err}
use Rattle.pm_head.specs.declared.fault.Refusal.{Refusal}
use Rattle.pm_head.specs.declared.form.Form.{Form}
use Rattle.pm_script.specs.declared.session.Session.{Session}
use Rattle.pm_script.specs.Sessions.{SessionIs}
use Rattle.pm_script.proofs.OneSession.{session-apart, one-refusal}
use Rattle.pm_script.proofs.OneRooms.{rooms-apart, one-rooms-refusal}
use Rattle.pm_call.specs.declared.files.FileForm.{FileForm}
use Rattle.pm_call.specs.declared.files.FileForm.TheVariants.{OneRoom, ManyRooms}
use Rattle.pm_call.specs.declared.words.Command.{Command}
use Rattle.pm_call.specs.Contents.{Content, one, many, FileIs}
use Rattle.pm_call.specs.Output.{IsTextOf}

pub file-apart : (f : FileForm) (input : List ℕ) (c : Content) (refusal : Refusal) → FileIs f input (Ok c) → FileIs f input (Err refusal) → ⊥
file-apart (OneRoom form) input (one s) refusal h k = session-apart form input s refusal h k
file-apart (OneRoom form) input (many rooms) refusal h k = absurd h
file-apart ManyRooms input (one s) refusal h k = absurd h
file-apart ManyRooms input (many rooms) refusal h k = rooms-apart input rooms refusal h k

pub one-fault : (f : FileForm) (input : List ℕ) (refusal other : Refusal) → FileIs f input (Err refusal) → FileIs f input (Err other) → refusal ≡ other
one-fault (OneRoom form) input refusal other h k = one-refusal form input refusal other h k
one-fault ManyRooms input refusal other h k = one-rooms-refusal input refusal other h k

-- a session, or the refusal of a file that is none
abbrev pub as_content : Result Session Refusal → Result Content Refusal
as_content (Ok s) = Ok (one s)
as_content (Err refusal) = Err refusal

-- what a file of one session is found to be, and what is written of it
pub read-text : (command : Command) (form : Form) (file text : List ℕ) (found : Result Content Refusal) → FileIs (OneRoom form) file found → IsTextOf command found text
    → (r : Result Session Refusal) × SessionIs form file r × IsTextOf command (as_content r) text
read-text command form file text (Ok (one s)) is written = (Ok s, is, written)
read-text command form file text (Ok (many rooms)) is written = absurd is
read-text command form file text (Err refusal) is written = (Err refusal, is, written)
