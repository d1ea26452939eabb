-- The report of a session that clients may enter late is the one that was put together, and its rooms are sound.
use Rattle.std.proofs.Common.{◌≡◌, ◌<◌, ◌≤◌, ℕ, Bool, true, false, List, ◌++◌, length, take, codes, decimal, string_bytes, sym, ap, subst, ◌∙◌, arith}
use Rattle.std.proofs.lemmas.Bool.Decides.{nat_tests}
use Rattle.std.specs.Prelude.{String, Result, Ok, Err, IfOk, MatchBool, nat_lt}
use Rattle.std.specs.declared.alloc.AllocError.{AllocError}
use Rattle.std.specs.declared.alloc.Global.{Global}
use Rattle.pm_tokens.specs.Tokens.{Doc}
use Rattle.pm_tokens.specs.Faults.{Valid}
use Rattle.pm_schema.specs.Documents.{documents_of}
use Rattle.pm_schema.specs.declared.schema.Schema.{Schema}
use Rattle.pm_meaning.specs.Steps.{Step}
use Rattle.pm_meaning.specs.declared.reason.Reason.{Reason}
use Rattle.pm_apply.specs.Changes.{meaning}
use Rattle.pm_apply.specs.Laws.{laws}
use Rattle.pm_authority.specs.declared.named.Named.{Named}
use Rattle.pm_authority.specs.Runs.{AllApply}
use Rattle.pm_head.specs.declared.form.Form.TheVariants as form
use Rattle.pm_head.specs.Clients.{raw_flags}
use Rattle.pm_session.specs.Sessions.{settled}
use Rattle.pm_session.specs.Sounds.{Sound}
use Rattle.pm_session.proofs.Opening.{opened-sound}
use Rattle.pm_session.proofs.Turns.{settled-sound}
use Rattle.pm_session.proofs.Settling.{settled-caught}
use Rattle.pm_session.proofs.Holdings.{room-holds, settling-holds}
use Rattle.pm_versions.specs.LateSessions.{LateLinesSuit}
use Rattle.pm_versions.proofs.Growths.{settled-grown}
use Rattle.pm_versions.proofs.LateOpenings.{opened-suits-late}
use Rattle.pm_versions.proofs.LateRuns.{late-front, late-lines, late-session-first, late-session-sound}
use Rattle.pm_versions.proofs.PulledRuns.{all-pulled}
use Rattle.pm_script.specs.declared.session.Session.{Session}
use Rattle.pm_script.specs.Held.{HoldsLate}
use Rattle.pm_script.proofs.SessionLaws.{session-holds}
use Rattle.pm_report.specs.Words.{◌&◌}
use Rattle.pm_making.specs.Making.{makes}
use Rattle.pm_call.specs.Playing.{Room, room_of}
use Rattle.pm_call.specs.LatePlaying.{late_playing, late_room_after, late_room_settled, version_line, past_line, IsTextAt, IsVersionText}
use Rattle.pm_call.specs.LateSounds.{LateRoomsSound, AllLateSound}

-- the lines of a session that is read suit its room
pub late-suits : (s : Session) → HoldsLate s → LateLinesSuit (room_of s) s.lines
late-suits s held = opened-suits-late Schema Doc Reason Step s.head.doc (raw_flags s.head.clients) s.lines held.suit

module _ (s : Session) (valid : Valid (documents_of s.head.schema.spec) s.head.doc) (suit : LateLinesSuit (room_of s) s.lines) where
  opens-sound : Sound meaning s.head.schema (room_of s)
  opens-sound = opened-sound s.head.doc meaning s.head.schema (raw_flags s.head.clients) valid

  ends-sound : Sound meaning s.head.schema (late_playing s).1
  ends-sound = late-session-sound meaning s.head.schema (makes s.head.schema) laws (room_of s) s.lines opens-sound suit

  -- the rooms of a session whose lines suit it
  late-rooms-sound : LateRoomsSound s
  late-rooms-sound =
      let rules = s.head.schema in
      let room = room_of s in
      let played : (k : ℕ) → Sound meaning rules (late_room_after s k) =
      λ k. late-session-sound meaning rules (makes rules) laws room (take k s.lines) opens-sound (late-front room s.lines k suit) in
      record {
        played = λ k. room-holds meaning rules laws (late_room_after s k) (played k);
        lines = late-lines meaning rules (makes rules) laws room s.lines opens-sound suit;
        pulled = all-pulled meaning rules (makes rules) laws room s.lines opens-sound suit;
        settling = settling-holds meaning rules laws (makes rules) (late_playing s).1 ends-sound;
        settled = room-holds meaning rules laws (late_room_settled s) (settled-sound meaning rules laws (late_playing s).1 ends-sound);
        caught_up = settled-caught meaning rules laws (late_playing s).1 ends-sound;
      }

  -- the first document stays
  late-first : (late_room_settled s).authority.first ≡ s.head.doc
  late-first =
      (settled-grown meaning s.head.schema laws (late_playing s).1 ends-sound).first
      ∙ late-session-first meaning s.head.schema (makes s.head.schema) laws (room_of s) s.lines opens-sound suit

  -- what is told of a version of the log of the room once its editors have settled
  pub version-told : (room : Room) (first : Doc) (log : List (Named Step)) (n : ℕ) (r : Result (String Global) AllocError) → room ≡ late_room_settled s
      → first ≡ room.authority.first → log ≡ room.authority.log
      → IfOk r (λ t. IsTextAt s.head.schema first log n (string_bytes t)) → IfOk r (λ t. IsVersionText s n (string_bytes t))
  version-told room first log n (Err e) is first_is log_is h = h
  version-told room first log n (Ok t) is first_is log_is h =
      let doc : first ≡ s.head.doc = first_is ∙ ap (λ (x : Room). x.authority.first) is ∙ late-first in
      let steps : log ≡ (late_room_settled s).authority.log = log_is ∙ ap (λ (x : Room). x.authority.log) is in
      subst (λ d. IsTextAt s.head.schema d (late_room_settled s).authority.log n (string_bytes t)) doc
      (subst (λ l. IsTextAt s.head.schema first l n (string_bytes t)) steps h)

is-past : (size n : ℕ) → size < n → nat_lt size n ≡ true
is-past size n h = grind (arith, nat_tests)

is-within : (size n : ℕ) → n ≤ size → nat_lt size n ≡ false
is-within size n h = grind (arith, nat_tests)

module _ (schema : Schema) (first : Doc) (log : List (Named Step)) (n : ℕ) (text : List ℕ) where
  -- a version's document was found
  pub text-found : (doc : Doc) → n ≤ length log → AllApply meaning schema first (take n log) doc → text ≡ version_line schema.spec n doc → IsTextAt schema first log n text
  text-found doc within applies is =
      subst (λ b. MatchBool b (text ≡ past_line (length log)) ((doc : Doc) × AllApply meaning schema first (take n log) doc × (text ≡ version_line schema.spec n doc)))
      (sym (is-within (length log) n within)) (doc, applies, is)

-- the rooms of every session
pub all_late_sound : (input : List ℕ) → AllLateSound input
all_late_sound input s is =
    let held = session-holds form.Late input s is in
    late-rooms-sound s held.valid (late-suits s held)
