-- A session that was played on threads is played in an order of its lines.
use Rattle.std.proofs.Common.{◌≡◌, ℕ, List, ◌++◌, length, map, subst, codes, decimal, string_bytes}
use Rattle.std.specs.Prelude.{Bool, String, Result, Ok, Err, IfOk}
use Rattle.std.specs.declared.alloc.AllocError.{AllocError}
use Rattle.std.specs.declared.alloc.Global.{Global}
use Rattle.std.proofs.lemmas.List.{length-map}
use Rattle.pm_tokens.specs.Tokens.{Doc}
use Rattle.pm_tokens.specs.Faults.{Valid}
use Rattle.pm_schema.specs.Documents.{documents_of}
use Rattle.pm_schema.specs.declared.schema.Schema.{Schema}
use Rattle.pm_meaning.specs.Steps.{Step}
use Rattle.pm_meaning.specs.declared.reason.Reason.{Reason}
use Rattle.pm_apply.specs.Changes.{meaning}
use Rattle.pm_head.specs.Clients.{raw_flags}
use Rattle.pm_head.specs.declared.clients.ClientEntry.{ClientEntry}
use Rattle.pm_ops.specs.declared.op.Op.{Op}
use Rattle.pm_session.specs.declared.line.Line.{Line}
use Rattle.pm_session.specs.Sessions.{opened, session}
use Rattle.pm_session.specs.Suits.{LinesSuit}
use Rattle.pm_script.specs.declared.session.Session.{Session}
use Rattle.pm_workers.specs.Merges.{numbers, merged, IsOrder}
use Rattle.pm_workers.specs.Threads.{by_client, callers, in_order}
use Rattle.pm_report.specs.Words.{◌&◌}
use Rattle.pm_making.specs.Making.{makes}
use Rattle.pm_call.specs.Playing.{Room, LineOutcome, room_of, playing}
use Rattle.pm_call.specs.Running.{reordered, IsTold, IsRun}
use Rattle.pm_call.proofs.Reports.{rooms-sound}

-- what is told of the session in an order, where the lines, the outcomes and the room are those of that order
in-order : (s : Session) (order : List ℕ) (text : List ℕ)
    → Valid (documents_of s.head.schema.spec) s.head.doc
    → order ≡ merged (callers (in_order s.lines order)) (by_client 0 (length s.head.clients) s.lines)
    → IsOrder (map numbers (by_client 0 (length s.head.clients) s.lines)) order
    → LinesSuit (room_of s) (in_order s.lines order)
    → IsTold s.head.clients s.head.schema (in_order s.lines order) (playing (reordered s order)).0 (playing (reordered s order)).1 text
    → IsRun s text
in-order s order text valid merges once suit told = record {
  order = order;
  once = once;
  merges = merges;
  sound = rooms-sound (reordered s order) valid suit;
  told = told;
}

pub run-of : (s : Session) (order text : List ℕ) (lines : List (Line Op Step)) (outcomes : List LineOutcome) (room : Room)
    → Valid (documents_of s.head.schema.spec) s.head.doc
    → lines ≡ in_order s.lines order
    → order ≡ merged (callers lines) (by_client 0 (length (raw_flags s.head.clients)) s.lines)
    → IsOrder (map numbers (by_client 0 (length (raw_flags s.head.clients)) s.lines)) order
    → LinesSuit (room_of s) lines
    → (outcomes, room) ≡ session meaning s.head.schema (makes s.head.schema) (room_of s) lines
    → IsTold s.head.clients s.head.schema lines outcomes room text
    → IsRun s text
run-of s order text lines outcomes room valid same merges once suit plays told =
    let count : length (raw_flags s.head.clients) ≡ length s.head.clients = length-map s.head.clients (λ c. c.raw) in
    let merges_now = subst (λ (n : ℕ). order ≡ merged (callers lines) (by_client 0 n s.lines)) count merges in
    let once_now = subst (λ (n : ℕ). IsOrder (map numbers (by_client 0 n s.lines)) order) count once in
    let told_now = subst (λ (p : List LineOutcome × Room). IsTold s.head.clients s.head.schema lines p.0 p.1 text) plays told in
    in-order s order text valid
    (subst (λ (ls : List (Line Op Step)). order ≡ merged (callers ls) (by_client 0 (length s.head.clients) s.lines)) same merges_now)
    once_now
    (subst (λ (ls : List (Line Op Step)). LinesSuit (room_of s) ls) same suit)
    (subst (λ (ls : List (Line Op Step)). IsTold s.head.clients s.head.schema ls (session meaning s.head.schema (makes s.head.schema) (room_of s) ls).0 (session meaning s.head.schema (makes s.head.schema) (room_of s) ls).1 text) same told_now)

-- the same, where what was played was handed over and came back under other names
pub run-from : (s : Session) (order : List ℕ) (lines : List (Line Op Step)) (outcomes : List LineOutcome) (room : Room)
    (rules : Schema) (raw : List Bool) (clients : List ClientEntry) (given : List (Line Op Step)) (text : List ℕ)
    → Valid (documents_of s.head.schema.spec) s.head.doc
    → raw ≡ raw_flags s.head.clients → clients ≡ s.head.clients → given ≡ s.lines → rules ≡ s.head.schema
    → lines ≡ in_order given order
    → order ≡ merged (callers lines) (by_client 0 (length raw) given)
    → IsOrder (map numbers (by_client 0 (length raw) given)) order
    → LinesSuit {Rules = Schema} {Doc = Doc} {Reason = Reason} (opened s.head.doc raw) lines
    → (outcomes, room) ≡ session meaning rules (makes rules) (opened s.head.doc raw) lines
    → IsTold clients rules lines outcomes room text
    → IsRun s text
run-from s order lines outcomes room rules raw clients given text valid raws entries own same in_lines merges once suit plays told =
    let lines_are = subst (λ (g : List (Line Op Step)). lines ≡ in_order g order) own in_lines in
    let merges_own = subst (λ (g : List (Line Op Step)). order ≡ merged (callers lines) (by_client 0 (length raw) g)) own merges in
    let merges_are = subst (λ (b : List Bool). order ≡ merged (callers lines) (by_client 0 (length b) s.lines)) raws merges_own in
    let once_own = subst (λ (g : List (Line Op Step)). IsOrder (map numbers (by_client 0 (length raw) g)) order) own once in
    let once_are = subst (λ (b : List Bool). IsOrder (map numbers (by_client 0 (length b) s.lines)) order) raws once_own in
    let suit_is = subst (λ (b : List Bool). LinesSuit {Rules = Schema} {Doc = Doc} {Reason = Reason} (opened s.head.doc b) lines) raws suit in
    let plays_own = subst (λ (b : List Bool). (outcomes, room) ≡ session meaning rules (makes rules) (opened s.head.doc b) lines) raws plays in
    let plays_are = subst (λ (h : Schema). (outcomes, room) ≡ session meaning h (makes h) (room_of s) lines) same plays_own in
    let told_own = subst (λ (l : List ClientEntry). IsTold l rules lines outcomes room text) entries told in
    let told_is = subst (λ (h : Schema). IsTold s.head.clients h lines outcomes room text) same told_own in
    run-of s order text lines outcomes room valid lines_are merges_are once_are suit_is plays_are told_is

-- the same, where memory may have run out
pub run-in : (s : Session) (order : List ℕ) (lines : List (Line Op Step)) (outcomes : List LineOutcome) (room : Room)
    (rules : Schema) (raw : List Bool) (clients : List ClientEntry) (given : List (Line Op Step)) (r : Result (String Global) AllocError)
    → Valid (documents_of s.head.schema.spec) s.head.doc
    → raw ≡ raw_flags s.head.clients → clients ≡ s.head.clients → given ≡ s.lines → rules ≡ s.head.schema
    → lines ≡ in_order given order
    → order ≡ merged (callers lines) (by_client 0 (length raw) given)
    → IsOrder (map numbers (by_client 0 (length raw) given)) order
    → LinesSuit {Rules = Schema} {Doc = Doc} {Reason = Reason} (opened s.head.doc raw) lines
    → (outcomes, room) ≡ session meaning rules (makes rules) (opened s.head.doc raw) lines
    → IfOk r (λ t. IsTold clients rules lines outcomes room (string_bytes t))
    → IfOk r (λ t. IsRun s (string_bytes t))
run-in s order lines outcomes room rules raw clients given (Err e) valid raws entries own same in_lines merges once suit plays told = told
run-in s order lines outcomes room rules raw clients given (Ok t) valid raws entries own same in_lines merges once suit plays told =
    run-from s order lines outcomes room rules raw clients given (string_bytes t) valid raws entries own same in_lines merges once suit plays told
