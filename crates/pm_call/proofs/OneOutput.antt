-- What `check`, `replay`, `late` and `at` write for an input is one text, with one status, and so is what `gen` writes.
use Rattle.std.proofs.Common.{◌≡◌, ℕ, List, refl, ap, ◌∙◌, sym}
use Rattle.std.specs.Prelude.{Result, Ok, Err}
use Rattle.pm_gen.specs.declared.asking.Asked.{Asked}
use Rattle.pm_head.specs.declared.fault.Refusal.{Refusal}
use Rattle.pm_head.specs.declared.form.Form.TheVariants as form
use Rattle.pm_script.specs.declared.session.Session.{Session}
use Rattle.pm_script.specs.Sessions.{SessionIs}
use Rattle.pm_script.proofs.OneSession.{session-apart, one-refusal}
use Rattle.pm_call.specs.declared.call.Status.{Status}
use Rattle.pm_call.specs.declared.call.Status.TheVariants.{Done}
use Rattle.pm_call.specs.declared.words.Command.TheVariants.{Check, Replay, Gen, Late, At, Rooms}
use Rattle.pm_call.specs.declared.files.FileForm.TheVariants.{ManyRooms}
use Rattle.pm_call.specs.Contents.{Content, one, many, FileIs}
use Rattle.pm_call.specs.Files.{file_of}
use Rattle.pm_call.specs.Output.{refusal, counts_of, IsTextOf, IsOutput}
use Rattle.pm_call.specs.Summing.{summary_in}
use Rattle.pm_call.specs.OneOutput.{HasOneOutput}
use Rattle.pm_call.proofs.Contents.{as_content, read-text}
use Rattle.pm_call.proofs.Cases.{one-status, one-check}
use Rattle.pm_script.proofs.OneRooms.{rooms-apart, one-rooms-refusal}
use Rattle.pm_call.proofs.RoomReports.{one-rooms-report}
use Rattle.pm_call.proofs.SameReports.{one-report, one-room, one-late-report, one-version}

-- what `check` writes of a session that the input is
counted : (input : List ℕ) (s : Session) → SessionIs form.Plain input (Ok s) → IsOutput Check input (counts_of s) Done
counted input s is = record { found = Ok (one s); is = is; written = refl; says = refl }

pub one-count : (input : List ℕ) (s t : Session) → SessionIs form.Plain input (Ok s) → SessionIs form.Plain input (Ok t) → counts_of s ≡ counts_of t
one-count input s t h k = one-check input (counts_of s) (counts_of t) Done Done (counted input s h) (counted input t k)

-- what `replay` writes is one
one-replay : (input text other : List ℕ) (a b : Status) → IsOutput Replay input text a → IsOutput Replay input other b → text ≡ other
one-replay input text other a b x y =
    let p = read-text Replay form.Plain input text x.found x.is x.written in
    let q = read-text Replay form.Plain input other y.found y.is y.written in
    at p.0 q.0 p.1 q.1 p.2 q.2
  where
    at : (f g : Result Session Refusal) → SessionIs form.Plain input f → SessionIs form.Plain input g → IsTextOf Replay (as_content f) text → IsTextOf Replay (as_content g) other → text ≡ other
    at (Ok s) (Ok t) h k v w = v ∙ one-report input s t h k ∙ sym w
    at (Ok s) (Err refused) h k v w = absurd (session-apart form.Plain input s refused h k)
    at (Err refused) (Ok t) h k v w = absurd (session-apart form.Plain input t refused k h)
    at (Err refused) (Err g) h k v w = v ∙ ap refusal (one-refusal form.Plain input refused g h k) ∙ sym w

-- what `gen` writes is one
one-gen : (asked : Asked) (input text other : List ℕ) (a b : Status) → IsOutput (Gen asked) input text a → IsOutput (Gen asked) input other b → text ≡ other
one-gen asked input text other a b x y =
    let p = read-text (Gen asked) form.Plain (file_of (Gen asked) input) text x.found x.is x.written in
    let q = read-text (Gen asked) form.Plain (file_of (Gen asked) input) other y.found y.is y.written in
    at p.0 q.0 p.1 q.1 p.2 q.2
  where
    at : (f g : Result Session Refusal) → SessionIs form.Plain (file_of (Gen asked) input) f → SessionIs form.Plain (file_of (Gen asked) input) g → IsTextOf (Gen asked) (as_content f) text → IsTextOf (Gen asked) (as_content g) other → text ≡ other
    at (Ok s) (Ok t) h k v w = v ∙ ap (summary_in asked) (one-room (file_of (Gen asked) input) s t h k) ∙ sym w
    at (Ok s) (Err refused) h k v w = absurd (session-apart form.Plain (file_of (Gen asked) input) s refused h k)
    at (Err refused) (Ok t) h k v w = absurd (session-apart form.Plain (file_of (Gen asked) input) t refused k h)
    at (Err refused) (Err g) h k v w = v ∙ ap refusal (one-refusal form.Plain (file_of (Gen asked) input) refused g h k) ∙ sym w

-- what `late` writes is one
one-late : (input text other : List ℕ) (a b : Status) → IsOutput Late input text a → IsOutput Late input other b → text ≡ other
one-late input text other a b x y =
    let p = read-text Late form.Late input text x.found x.is x.written in
    let q = read-text Late form.Late input other y.found y.is y.written in
    at p.0 q.0 p.1 q.1 p.2 q.2
  where
    at : (f g : Result Session Refusal) → SessionIs form.Late input f → SessionIs form.Late input g → IsTextOf Late (as_content f) text → IsTextOf Late (as_content g) other → text ≡ other
    at (Ok s) (Ok t) h k v w = v ∙ one-late-report input s t h k ∙ sym w
    at (Ok s) (Err refused) h k v w = absurd (session-apart form.Late input s refused h k)
    at (Err refused) (Ok t) h k v w = absurd (session-apart form.Late input t refused k h)
    at (Err refused) (Err g) h k v w = v ∙ ap refusal (one-refusal form.Late input refused g h k) ∙ sym w

-- what `at` writes is one
one-at : (n : ℕ) (input text other : List ℕ) (a b : Status) → IsOutput (At n) input text a → IsOutput (At n) input other b → text ≡ other
one-at n input text other a b x y =
    let p = read-text (At n) form.Late input text x.found x.is x.written in
    let q = read-text (At n) form.Late input other y.found y.is y.written in
    at p.0 q.0 p.1 q.1 p.2 q.2
  where
    at : (f g : Result Session Refusal) → SessionIs form.Late input f → SessionIs form.Late input g → IsTextOf (At n) (as_content f) text → IsTextOf (At n) (as_content g) other → text ≡ other
    at (Ok s) (Ok t) h k v w = one-version input s t h k n text other v w
    at (Ok s) (Err refused) h k v w = absurd (session-apart form.Late input s refused h k)
    at (Err refused) (Ok t) h k v w = absurd (session-apart form.Late input t refused k h)
    at (Err refused) (Err g) h k v w = v ∙ ap refusal (one-refusal form.Late input refused g h k) ∙ sym w

-- what `rooms` writes is one
one-of-rooms : (input text other : List ℕ) (a b : Status) → IsOutput Rooms input text a → IsOutput Rooms input other b → text ≡ other
one-of-rooms input text other a b x y = at x.found y.found x.is y.is x.written y.written
  where
    at : (f g : Result Content Refusal) → FileIs ManyRooms input f → FileIs ManyRooms input g → IsTextOf Rooms f text → IsTextOf Rooms g other → text ≡ other
    at (Ok (one s)) g h k v w = absurd h
    at (Ok (many rooms)) (Ok (one t)) h k v w = absurd k
    at (Ok (many rooms)) (Ok (many others)) h k v w = v ∙ one-rooms-report input rooms others h k ∙ sym w
    at (Ok (many rooms)) (Err refused) h k v w = absurd (rooms-apart input rooms refused h k)
    at (Err refused) (Ok (one t)) h k v w = absurd k
    at (Err refused) (Ok (many others)) h k v w = absurd (rooms-apart input others refused k h)
    at (Err refused) (Err g) h k v w = v ∙ ap refusal (one-rooms-refusal input refused g h k) ∙ sym w

pub check-output : (input : List ℕ) → HasOneOutput Check input
check-output input text other a b x y = (one-check input text other a b x y, one-status Check input text other a b x y)

pub replay-output : (input : List ℕ) → HasOneOutput Replay input
replay-output input text other a b x y = (one-replay input text other a b x y, one-status Replay input text other a b x y)

pub gen-output : (asked : Asked) (input : List ℕ) → HasOneOutput (Gen asked) input
gen-output asked input text other a b x y = (one-gen asked input text other a b x y, one-status (Gen asked) input text other a b x y)

pub late-output : (input : List ℕ) → HasOneOutput Late input
late-output input text other a b x y = (one-late input text other a b x y, one-status Late input text other a b x y)

pub at-output : (n : ℕ) (input : List ℕ) → HasOneOutput (At n) input
at-output n input text other a b x y = (one-at n input text other a b x y, one-status (At n) input text other a b x y)

pub rooms-output : (input : List ℕ) → HasOneOutput Rooms input
rooms-output input text other a b x y = (one-of-rooms input text other a b x y, one-status Rooms input text other a b x y)
