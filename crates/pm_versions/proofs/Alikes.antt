-- A client with one message and one answer more, before all others, does what it does without them.
use Rattle.std.specs.Prelude.{◌≡◌, ℕ, suc, ◌+◌, ◌-◌, ◌<◌, ◌==◌, nat_le, nat_lt, if◌then◌else◌, Bool, true, false, List, ◌∷◌, length, take, drop, slice_get, Option, Some, None, Result, Ok, Err, refl}
use Rattle.std.proofs.Common.{ap, ◌∙◌, arith}
use Rattle.pm_map.specs.declared.side.Side.{Side}
use Rattle.pm_change.specs.Changes.{Meaning, fold}
use Rattle.pm_change.specs.declared.no_step.NoStep.{NoStep}
use Rattle.pm_change.specs.declared.no_step.NoStep.TheVariants.{Range}
use Rattle.pm_history.specs.declared.branch.Event.{Event}
use Rattle.pm_history.specs.declared.turn.Turn.{Turn}
use Rattle.pm_history.specs.declared.turn.Turn.TheVariants as turn
use Rattle.pm_history.specs.Turns.{event_for}
use Rattle.pm_authority.specs.declared.named.Named.{Named}
use Rattle.pm_authority.specs.declared.running.Refusal.{Refusal}
use Rattle.pm_authority.specs.declared.authority.Authority.{Authority}
use Rattle.pm_authority.specs.declared.message.Message.{Message}
use Rattle.pm_authority.specs.declared.message.Message.TheVariants.{Ask as AskMessage}
use Rattle.pm_authority.specs.declared.message.Answer.{Answer}
use Rattle.pm_authority.specs.declared.message.Answer.TheVariants.{Accepted, WrongVersion, StepRefused, Entries}
use Rattle.pm_authority.specs.Runs.{run, changes_of}
use Rattle.pm_authority.specs.Presents.{presented}
use Rattle.pm_client.specs.declared.client.Client.{Client}
use Rattle.pm_client.specs.declared.taken.Taken.{Taken}
use Rattle.pm_client.specs.declared.taken.Taken.TheVariants.{Stale, Confirmed, Rebased}
use Rattle.pm_client.specs.declared.taken.MessageKind.TheVariants.{Submit as Submission, Ask as Asking}
use Rattle.pm_client.specs.Clients.{named, tried, turned_if, cursor_set, given, carried, confirmed, brought, confirmed_first, rest_taken, others_taken, taken, taken_if, answer_at, message_at, own_run, composed, kept, message_of}
use Rattle.pm_session.specs.declared.line.Act.{Act}
use Rattle.pm_session.specs.declared.line.Act.TheVariants.{Edit, Undo, Redo, UndoEvent, Cursor, Submit, Ask, Present, Take, Push, Pull, Forge, Enter}
use Rattle.pm_session.specs.declared.outcome.Outcome.{Outcome}
use Rattle.pm_session.specs.declared.outcome.Outcome.TheVariants.{NoStep as NoneMade, CursorAt}
use Rattle.pm_session.specs.Events.{made, edits, turns, sets, ends}
use Rattle.pm_session.specs.Suits.{NamesOneOf}
use Rattle.pm_session.proofs.Editors.{presents, editor_acts}
use Rattle.pm_versions.specs.Pulled.{raised, with_pull}

get-behind : {A : Type 0} (x : A) (xs : List A) (n : ℕ) → 0 < n → slice_get (x ∷ xs) (n + 1 - 1) ≡ slice_get xs (n - 1)
get-behind x xs n some = let e : n + 1 - 1 ≡ suc (n - 1) = omega arith in ap (slice_get (x ∷ xs)) e

module _ {Rules Doc Reason C : Type 0} (m : Meaning Rules Doc Reason C) (rules : Rules) (entries : List (Named C)) where
  -- what an edit makes
  made-alike : (c : Client C Rules Doc Reason) (steps : List C) (event : Option ℕ) (r : Result Doc (Refusal Reason))
      → (made (with_pull entries c) steps (tried m rules (with_pull entries c) steps event r)).1 ≡ with_pull entries (made c steps (tried m rules c steps event r)).1
  made-alike c steps event (Ok doc) = refl
  made-alike c steps event (Err e) = refl

  edits-alike : (c : Client C Rules Doc Reason) (event : Option ℕ) (r : Result (List C) NoStep)
      → (edits m rules (with_pull entries c) event r).1 ≡ with_pull entries (edits m rules c event r).1
  edits-alike c event (Err reason) = refl
  edits-alike c event (Ok steps) = made-alike c steps event (run m rules c.doc 0 (named c.name (c.serials + 1) steps))

  turns-alike : (c : Client C Rules Doc Reason) (way : Turn) (e : Option Event)
      → (turns (with_pull entries c) (turned_if m rules (with_pull entries c) way e)).1 ≡ with_pull entries (turns c (turned_if m rules c way e)).1
  turns-alike c way None = refl
  turns-alike c way (Some e) = refl

  -- a choice between two ends that are alike
  chosen-alike : {A : Type 0} (b : Bool) (x y x' y' : A × Client C Rules Doc Reason) → x'.1 ≡ with_pull entries x.1 → y'.1 ≡ with_pull entries y.1
      → (if b then x' else y').1 ≡ with_pull entries (if b then x else y).1
  chosen-alike true x y x' y' e f = e
  chosen-alike false x y x' y' e f = f

  sets-alike : (c : Client C Rules Doc Reason) (p : ℕ) (side : Side) → (sets m (with_pull entries c) p side).1 ≡ with_pull entries (sets m c p side).1
  sets-alike c p side =
      chosen-alike (nat_lt (m.size c.doc) p) (NoneMade Range, c) (CursorAt p, cursor_set c p side) (NoneMade Range, with_pull entries c)
      (CursorAt p, cursor_set (with_pull entries c) p side) refl refl

  -- ---- taking an answer

  given-alike : (c : Client C Rules Doc Reason) (o : Option Doc) (next next' : Doc → Taken × Client C Rules Doc Reason)
      → ((base : Doc) → (next' base).1 ≡ with_pull entries (next base).1) → (given (with_pull entries c) o next').1 ≡ with_pull entries (given c o next).1
  given-alike c None next next' h = refl
  given-alike c (Some base) next next' h = h base

  confirmed-alike : (c : Client C Rules Doc Reason) (k : ℕ) → (confirmed_first m rules (with_pull entries c) k).1 ≡ with_pull entries (confirmed_first m rules c k).1
  confirmed-alike c k =
      given-alike c (fold m rules c.base (changes_of (take k c.pending))) (λ base. (Confirmed k, confirmed c k base)) (λ base. (Confirmed k, confirmed (with_pull entries c) k base))
      (λ base. refl)

  others-alike : (c : Client C Rules Doc Reason) (rest : List (Named C)) (own : ℕ)
      → (others_taken m rules (with_pull entries c) rest own).1 ≡ with_pull entries (others_taken m rules c rest own).1
  others-alike c rest own =
      given-alike c (fold m rules c.base (changes_of rest))
      (λ base. let r = carried m rules c own (drop own rest) base in (Rebased own (length rest - own) (length r.dropped), brought m rules c own (drop own rest) base r))
      (λ base.
      let r = carried m rules c own (drop own rest) base in
      (Rebased own (length rest - own) (length r.dropped), brought m rules (with_pull entries c) own (drop own rest) base r))
      (λ base. refl)

  rest-alike : (c : Client C Rules Doc Reason) (rest : List (Named C)) (own : ℕ)
      → (rest_taken m rules (with_pull entries c) rest own).1 ≡ with_pull entries (rest_taken m rules c rest own).1
  rest-alike c rest own =
      chosen-alike (own == length rest) (confirmed_first m rules c own) (others_taken m rules c rest own) (confirmed_first m rules (with_pull entries c) own)
      (others_taken m rules (with_pull entries c) rest own) (confirmed-alike c own) (others-alike c rest own)

  pub taken-alike : (c : Client C Rules Doc Reason) (answer : Answer C Rules Doc Reason)
      → (taken m rules (with_pull entries c) answer).1 ≡ with_pull entries (taken m rules c answer).1
  taken-alike c (WrongVersion size) = refl
  taken-alike c (StepRefused index reason) = refl
  taken-alike c (Accepted from count) =
      chosen-alike (nat_le (from + count) c.version) (Stale, c) (confirmed_first m rules c count) (Stale, with_pull entries c) (confirmed_first m rules (with_pull entries c) count) refl
      (confirmed-alike c count)
  taken-alike c (Entries since es) =
      let rest = drop (c.version - since) es in
      chosen-alike (nat_le (since + length es) c.version) (Stale, c) (rest_taken m rules c rest (own_run c.name rest)) (Stale, with_pull entries c)
      (rest_taken m rules (with_pull entries c) rest (own_run c.name rest)) refl (rest-alike c rest (own_run c.name rest))

  found-alike : (c : Client C Rules Doc Reason) (o : Option (Answer C Rules Doc Reason))
      → (taken_if m rules (with_pull entries c) o).1 ≡ with_pull entries (taken_if m rules c o).1
  found-alike c None = refl
  found-alike c (Some answer) = taken-alike c answer

  ends-alike : (lost : Bool) (c : Client C Rules Doc Reason) (answer : Answer C Rules Doc Reason)
      → (ends m rules lost (with_pull entries c) answer).1 ≡ with_pull entries (ends m rules lost c answer).1
  ends-alike true c answer = refl
  ends-alike false c answer = taken-alike c answer

  -- ---- acts

  -- What an editor does at an authority by two acts: the authority is the same after both, and so is the editor, but for the pull.
  abbrev pub Alike : Outcome C Rules Doc Reason × Authority C Rules Doc Reason × Client C Rules Doc Reason
      → Outcome C Rules Doc Reason × Authority C Rules Doc Reason × Client C Rules Doc Reason → Type 0
  Alike p q = (q.1 ≡ p.1) × (q.2 ≡ with_pull entries p.2)

  presents-alike : (a : Authority C Rules Doc Reason) (c : Client C Rules Doc Reason) (o : Option (Message C))
      → Alike (presents m rules a c o) (presents m rules a (with_pull entries c) o)
  presents-alike a c None = (refl, refl)
  presents-alike a c (Some message) = (refl, refl)

  module _ {Op : Type 0} (makes : Doc → Op → Result (List C) NoStep) (a : Authority C Rules Doc Reason) (c : Client C Rules Doc Reason) where
    pub acts-alike : (act : Act Op C) → NamesOneOf (length c.messages) (length c.answers) act
        → Alike (editor_acts m rules makes a act c) (editor_acts m rules makes a (raised act) (with_pull entries c))
    acts-alike (Edit op event) h = (refl, edits-alike c event (makes c.doc op))
    acts-alike Undo h = (refl, turns-alike c turn.Undo (event_for turn.Undo c.history))
    acts-alike Redo h = (refl, turns-alike c turn.Redo (event_for turn.Redo c.history))
    acts-alike (UndoEvent number) h = (refl, turns-alike c (turn.UndoEvent number) (event_for (turn.UndoEvent number) c.history))
    acts-alike (Cursor p side) h = (refl, sets-alike c p side)
    acts-alike Submit h = (refl, refl)
    acts-alike Ask h = (refl, refl)
    acts-alike (Present j) h =
        rw (get-behind (AskMessage 0) c.messages j h.0) (presents-alike a c (message_at c j))
    acts-alike (Take n) h =
        (refl, ap (λ o. (taken_if m rules (with_pull entries c) o).1) (get-behind (Entries 0 entries) c.answers n h.0) ∙ found-alike c (answer_at c n))
    acts-alike (Push lost) h =
        let answer = (presented m rules a (message_of c Submission)).0 in
        (refl, ends-alike lost (kept (composed c Submission) answer) answer)
    acts-alike (Pull lost) h =
        let answer = (presented m rules a (message_of c Asking)).0 in
        (refl, ends-alike lost (kept (composed c Asking) answer) answer)
    acts-alike (Forge version steps) h = (refl, refl)
    acts-alike Enter h = absurd h
