-- What an act makes of the number of messages and answers that a member has, and the lines that suit it then.
use Rattle.std.proofs.Common.{◌≡◌, ℕ, zero, suc, ◌+◌, ◌-◌, ◌<◌, Bool, true, false, List, [], ◌∷◌, length, cond, slice_get, Option, None, Some, Result, Ok, Err, refl, sym, ap, ◌∙◌, subst, arith, length-append}
use Rattle.std.specs.Prelude.{nat_lt, if◌then◌else◌}
use Rattle.pm_map.specs.declared.side.Side.{Side}
use Rattle.pm_change.specs.Changes.{Meaning}
use Rattle.pm_change.specs.declared.no_step.NoStep.{NoStep}
use Rattle.pm_change.specs.declared.no_step.NoStep.TheVariants.{Range}
use Rattle.pm_authority.specs.declared.message.Message.{Message}
use Rattle.pm_authority.specs.declared.message.Answer.{Answer}
use Rattle.pm_authority.specs.declared.running.Refusal.{Refusal}
use Rattle.pm_history.specs.declared.turn.Turn.{Turn}
use Rattle.pm_history.specs.declared.turn.Turn.TheVariants as turn
use Rattle.pm_client.specs.declared.client.Client.{Client}
use Rattle.pm_client.specs.declared.taken.MessageKind.{MessageKind}
use Rattle.pm_client.specs.declared.taken.MessageKind.TheVariants.{Submit as Submission, Ask as Asking}
use Rattle.pm_client.specs.Clients.{edited, event_turned, turned_if, cursor_set, message_of, composed, kept, taken, taken_at}
use Rattle.pm_session.specs.declared.line.Line.{Line}
use Rattle.pm_session.specs.declared.line.Act.{Act}
use Rattle.pm_session.specs.declared.line.Act.TheVariants.{Edit, Undo, Redo, UndoEvent, Cursor, Submit, Ask, Present, Take, Push, Pull, Forge, Enter}
use Rattle.pm_session.specs.declared.member.Member.{Member}
use Rattle.pm_session.specs.declared.member.Member.TheVariants.{Editor, Raw}
use Rattle.pm_session.specs.declared.outcome.Outcome.{Outcome}
use Rattle.pm_session.specs.declared.outcome.Outcome.TheVariants.{NoStep as NoneMade, CursorAt}
use Rattle.pm_session.specs.Events.{asked, finished, made, turns, sets, edits, ends}
use Rattle.pm_session.specs.Hosts.{ActsBy, Acts}
use Rattle.pm_session.specs.Members.{name_of, is_raw}
use Rattle.pm_session.specs.Suits.{composes_one, gets_one, ActSuits, SuitsMember}
use Rattle.pm_session.proofs.Keeping.{KeepsBox, edited-keeps, turned-keeps, taken-keeps, taken_at-keeps}
use Rattle.pm_workers.specs.Suiting.{message_count, answer_count, SuitMember}

module _ {Rules Doc Reason C : Type 0} where
  -- The member y is the member x, with a message more where `composes` says so, and an answer more where `gets` does.
  pub record Counted (composes gets : Bool) (x y : Member C Rules Doc Reason) : Type 0 where
    pub name : name_of y ≡ name_of x
    pub kind : is_raw y ≡ is_raw x
    pub messages : message_count y ≡ message_count x + cond composes 1 0
    pub answers : answer_count y ≡ answer_count x + cond gets 1 0

  counted-same : (x : Member C Rules Doc Reason) → Counted false false x x
  counted-same x = record { name = refl; kind = refl; messages = omega arith; answers = omega arith }

  counted-box : (c d : Client C Rules Doc Reason) → KeepsBox c d → Counted false false (Editor c) (Editor d)
  counted-box c d box = record {
    name = box.name;
    kind = refl;
    messages = omega (arith, ap length box.messages);
    answers = omega (arith, ap length box.answers);
  }

  counted-composed : (c : Client C Rules Doc Reason) (kind : MessageKind) → Counted true false (Editor c) (Editor (composed c kind))
  counted-composed c kind = record { name = refl; kind = refl; messages = length-append c.messages (message_of c kind ∷ []); answers = omega arith }

  counted-kept : (c : Client C Rules Doc Reason) (answer : Answer C Rules Doc Reason) → Counted false true (Editor c) (Editor (kept c answer))
  counted-kept c answer = record { name = refl; kind = refl; messages = omega arith; answers = length-append c.answers (answer ∷ []) }

  counted-given : (c : Client C Rules Doc Reason) (kind : MessageKind) (answer : Answer C Rules Doc Reason) → Counted true true (Editor c) (Editor (kept (composed c kind) answer))
  counted-given c kind answer = record {
    name = refl;
    kind = refl;
    messages = length-append c.messages (message_of c kind ∷ []);
    answers = length-append c.answers (answer ∷ []);
  }

  counted-then : (composes gets : Bool) (c d e : Client C Rules Doc Reason) → Counted composes gets (Editor c) (Editor d) → KeepsBox d e → Counted composes gets (Editor c) (Editor e)
  counted-then composes gets c d e h box = record {
    name = box.name ∙ h.name;
    kind = refl;
    messages = ap length box.messages ∙ h.messages;
    answers = ap length box.answers ∙ h.answers;
  }

module _ {Rules Doc Reason C : Type 0} (m : Meaning Rules Doc Reason C) (rules : Rules) (c : Client C Rules Doc Reason) where
  edits-counted : (event : Option ℕ) (r : Result (List C) NoStep) → Counted false false (Editor c) (Editor (edits m rules c event r).1)
  edits-counted event (Err reason) = counted-same (Editor c)
  edits-counted event (Ok steps) = from (edited m rules c steps event) refl
    where
      from : (r : Result (Client C Rules Doc Reason) (Refusal Reason)) → edited m rules c steps event ≡ r → Counted false false (Editor c) (Editor (made c steps r).1)
      from (Ok next) e = counted-box c next (edited-keeps m rules c steps event next e)
      from (Err r) e = counted-same (Editor c)

  turns-counted : (way : Turn) (o : Option _) → Counted false false (Editor c) (Editor (turns c (turned_if m rules c way o)).1)
  turns-counted way None = counted-same (Editor c)
  turns-counted way (Some event) = counted-box c (event_turned m rules c way event).1 (turned-keeps m rules c way event)

  sets-counted : (p : ℕ) (side : Side) → Counted false false (Editor c) (Editor (sets m c p side).1)
  sets-counted p side = from (nat_lt (m.size c.doc) p)
    where
      chosen : Bool → Outcome C Rules Doc Reason × Client C Rules Doc Reason
      chosen b = if b then (NoneMade Range, c) else (CursorAt p, cursor_set c p side)

      from : (b : Bool) → Counted false false (Editor c) (Editor (chosen b).1)
      from true = counted-same (Editor c)
      from false = counted-box c (cursor_set c p side) (record { name = refl; messages = refl; answers = refl })

  ends-counted : (kind : MessageKind) (lost : Bool) (answer : Answer C Rules Doc Reason) → Counted true true (Editor c) (Editor (ends m rules lost (kept (composed c kind) answer) answer).1)
  ends-counted kind true answer = counted-given c kind answer
  ends-counted kind false answer =
      let keeper = kept (composed c kind) answer in
      counted-then true true c keeper (taken m rules keeper answer).1 (counted-given c kind answer) (taken-keeps m rules keeper answer)

module _ {Rules Doc Reason C : Type 0} (m : Meaning Rules Doc Reason C) (rules : Rules) {Op : Type 0} (makes : Doc → Op → Result (List C) NoStep) where
  -- an act that suits and presents no message
  alone-counted : (x : Member C Rules Doc Reason) (act : Act Op C) → ActSuits x act → asked act x ≡ None
      → Counted (composes_one act) (gets_one act) x (finished m rules makes act x None).1
  alone-counted (Editor c) (Edit op event) suits none = edits-counted m rules c event (makes c.doc op)
  alone-counted (Editor c) Undo suits none = turns-counted m rules c turn.Undo _
  alone-counted (Editor c) Redo suits none = turns-counted m rules c turn.Redo _
  alone-counted (Editor c) (UndoEvent n) suits none = turns-counted m rules c (turn.UndoEvent n) _
  alone-counted (Editor c) (Cursor p side) suits none = sets-counted m rules c p side
  alone-counted (Editor c) Submit suits none = counted-composed c Submission
  alone-counted (Editor c) Ask suits none = counted-composed c Asking
  alone-counted (Editor c) (Present j) suits none = absurd (let there = some c.messages (j - 1) (omega (arith, suits.1.0, suits.1.1)) in let e : slice_get c.messages (j - 1) ≡ Some there.0 = there.1 in let f : slice_get c.messages (j - 1) ≡ None = none in cc)
    where
      some : {A : Type 0} (xs : List A) (k : ℕ) → k < length xs → (y : A) × (slice_get xs k ≡ Some y)
      some [] k l = absurd (omega arith)
      some (y ∷ xs) zero l = (y, refl)
      some (y ∷ xs) (suc k) l = some xs k (omega arith)
  alone-counted (Editor c) (Take n) suits none = counted-box c (taken_at m rules c n).1 (taken_at-keeps m rules c n)
  alone-counted (Editor c) (Push lost) suits none = absurd (cc)
  alone-counted (Editor c) (Pull lost) suits none = absurd (cc)
  alone-counted (Editor c) (Forge version steps) suits none = absurd (let e = suits.0 in cc)
  alone-counted (Editor c) Enter suits none = absurd suits.1
  alone-counted (Raw name serial) (Edit op event) suits none = absurd (cc)
  alone-counted (Raw name serial) Undo suits none = absurd (cc)
  alone-counted (Raw name serial) Redo suits none = absurd (cc)
  alone-counted (Raw name serial) (UndoEvent n) suits none = absurd (cc)
  alone-counted (Raw name serial) (Cursor p side) suits none = absurd (cc)
  alone-counted (Raw name serial) Submit suits none = absurd (cc)
  alone-counted (Raw name serial) Ask suits none = absurd (cc)
  alone-counted (Raw name serial) (Present j) suits none = absurd (cc)
  alone-counted (Raw name serial) (Take n) suits none = absurd (cc)
  alone-counted (Raw name serial) (Push lost) suits none = absurd (cc)
  alone-counted (Raw name serial) (Pull lost) suits none = absurd (cc)
  alone-counted (Raw name serial) Enter suits none = absurd (cc)
  alone-counted (Raw name serial) (Forge version steps) suits none = absurd (cc)

  -- an act that presents a message, which gets this answer
  given-counted : (x : Member C Rules Doc Reason) (act : Act Op C) (message : Message C) (answer : Answer C Rules Doc Reason) → asked act x ≡ Some message
      → Counted (composes_one act) (gets_one act) x (finished m rules makes act x (Some answer)).1
  given-counted (Editor c) (Present j) message answer is = counted-kept c answer
  given-counted (Editor c) (Push lost) message answer is = ends-counted m rules c Submission lost answer
  given-counted (Editor c) (Pull lost) message answer is = ends-counted m rules c Asking lost answer
  given-counted (Editor c) (Edit op event) message answer is = absurd (cc)
  given-counted (Editor c) Undo message answer is = absurd (cc)
  given-counted (Editor c) Redo message answer is = absurd (cc)
  given-counted (Editor c) (UndoEvent n) message answer is = absurd (cc)
  given-counted (Editor c) (Cursor p side) message answer is = absurd (cc)
  given-counted (Editor c) Submit message answer is = absurd (cc)
  given-counted (Editor c) Ask message answer is = absurd (cc)
  given-counted (Editor c) (Take n) message answer is = absurd (cc)
  given-counted (Editor c) Enter message answer is = absurd (cc)
  given-counted (Editor c) (Forge version steps) message answer is = absurd (cc)
  given-counted (Raw name serial) (Forge version steps) message answer is = record { name = refl; kind = refl; messages = refl; answers = refl }
  given-counted (Raw name serial) (Edit op event) message answer is = absurd (cc)
  given-counted (Raw name serial) Undo message answer is = absurd (cc)
  given-counted (Raw name serial) Redo message answer is = absurd (cc)
  given-counted (Raw name serial) (UndoEvent n) message answer is = absurd (cc)
  given-counted (Raw name serial) (Cursor p side) message answer is = absurd (cc)
  given-counted (Raw name serial) Submit message answer is = absurd (cc)
  given-counted (Raw name serial) Ask message answer is = absurd (cc)
  given-counted (Raw name serial) (Present j) message answer is = absurd (cc)
  given-counted (Raw name serial) (Take n) message answer is = absurd (cc)
  given-counted (Raw name serial) (Push lost) message answer is = absurd (cc)
  given-counted (Raw name serial) Enter message answer is = absurd (cc)
  given-counted (Raw name serial) (Pull lost) message answer is = absurd (cc)

  -- an act that suits, wherever its message is presented
  pub acts-counted : (same : Type 0) (tells : Message C → Answer C Rules Doc Reason → Type 0) (act : Act Op C) (x : Member C Rules Doc Reason) (o : Outcome C Rules Doc Reason) (y : Member C Rules Doc Reason)
      → ActSuits x act → Acts m rules makes same tells act x o y → Counted (composes_one act) (gets_one act) x y
  acts-counted same tells act x o y suits acts = by (asked act x) refl acts
    where
      by : (message : Option (Message C)) → asked act x ≡ message → ActsBy m rules makes same tells message act x o y → Counted (composes_one act) (gets_one act) x y
      by None is a = subst (Counted (composes_one act) (gets_one act) x) (sym (ap (λ p. p.1) a.1)) (alone-counted x act suits is)
      by (Some message) is a = subst (Counted (composes_one act) (gets_one act) x) (sym (ap (λ p. p.1) a.2)) (given-counted x act message a.0 is)

module _ {Rules Doc Reason C Op : Type 0} where
  -- the first line suits the member as it stands
  pub suits-now : (x : Member C Rules Doc Reason) (line : Line Op C) (lines : List (Line Op C)) → SuitMember x (line ∷ lines) → SuitsMember x line
  suits-now (Editor c) line lines h = record { client = sym h.0.client; suits = (h.0.kind, h.0.named) }
  suits-now (Raw name serial) line lines h = record { client = sym h.0.client; suits = h.0.kind }

  -- and the later ones suit the member after it
  pub suits-later : (x y : Member C Rules Doc Reason) (line : Line Op C) (lines : List (Line Op C)) → SuitMember x (line ∷ lines)
      → Counted (composes_one line.act) (gets_one line.act) x y → SuitMember y lines
  suits-later x y line lines h c = rw (c.name, c.kind, c.messages, c.answers) h.1
