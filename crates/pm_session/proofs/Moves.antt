-- What an act of a client makes of it and of the authority: both stand as before, and the log grows by the client's own.
use Rattle.std.specs.List.{AllByRecursion as Each}
use Rattle.std.specs.Prelude.{if◌then◌else◌, nat_lt, ◌≡◌, ℕ, zero, suc, ◌+◌, ◌-◌, ◌<◌, Bool, true, false, List, [], ◌∷◌, ◌++◌, length, slice_get, Option, Some, None, Result, Ok, Err, refl}
use Rattle.std.proofs.Common.{cond, sym, ap, ◌∙◌, subst, arith, append-nil, length-append}
use Rattle.std.proofs.lemmas.Bool.{ltb-false}
use Rattle.std.proofs.lemmas.List.Elements.{All-from_recursion}
use Rattle.pm_change.specs.declared.no_step.NoStep.{NoStep}
use Rattle.pm_change.specs.declared.no_step.NoStep.TheVariants.{Range}
use Rattle.pm_client.proofs.Lists.{Each-append}
use Rattle.pm_map.specs.declared.side.Side.{Side}
use Rattle.pm_change.specs.Changes.{Meaning, Laws}
use Rattle.pm_history.specs.declared.branch.Event.{Event}
use Rattle.pm_history.specs.declared.turn.Turn.{Turn}
use Rattle.pm_history.specs.declared.turn.Turn.TheVariants as turn
use Rattle.pm_history.specs.Turns.{event_for}
use Rattle.pm_authority.specs.declared.authority.Authority.{Authority}
use Rattle.pm_authority.specs.declared.named.Named.{Named}
use Rattle.pm_authority.specs.declared.running.Refusal.{Refusal}
use Rattle.pm_authority.specs.declared.message.Message.{Message}
use Rattle.pm_authority.specs.Kept.{IsKept}
use Rattle.pm_authority.specs.Requests.{NamedBy}
use Rattle.pm_authority.specs.Presents.{presented}
use Rattle.pm_client.specs.declared.client.Client.{Client}
use Rattle.pm_client.specs.declared.taken.MessageKind.{MessageKind}
use Rattle.pm_client.specs.declared.taken.MessageKind.TheVariants.{Submit as Submission, Ask as Asking}
use Rattle.pm_client.specs.Clients.{edited, event_turned, turned_if, cursor_set, message_of, composed, kept, taken, taken_at, message_at}
use Rattle.pm_client.specs.Kins.{IsOwn, MessageStands, Kin}
use Rattle.pm_client.proofs.Takings.{kin-taken_at}
use Rattle.pm_client.proofs.Keeps.{kin-edited, kin-cursor, kin-composed}
use Rattle.pm_client.proofs.Turns.{kin-turned}
use Rattle.pm_client.proofs.Answering.{After, presented-kept, presented-only}
use Rattle.pm_session.specs.declared.line.Act.{Act}
use Rattle.pm_session.specs.declared.line.Act.TheVariants.{Edit, Undo, Redo, UndoEvent, Cursor, Submit, Ask, Present, Take, Push, Pull, Forge, Enter}
use Rattle.pm_session.specs.Events.{edits, turns, sets, made}
use Rattle.pm_session.specs.declared.outcome.Outcome.{Outcome}
use Rattle.pm_session.specs.declared.outcome.Outcome.TheVariants.{NoStep as NoneMade, CursorAt}
use Rattle.pm_session.specs.Suits.{composes_one, gets_one, NamesOneOf}
use Rattle.pm_session.proofs.SoundLaws.{message-stands, new-stands, presented-own}
use Rattle.pm_session.proofs.Editors.{presents, exchanges_at, editor_acts}
use Rattle.pm_session.proofs.Keeping.{KeepsBox, edited-keeps, turned-keeps, taken-keeps, taken_at-keeps, taken-last}

module _ {Rules Doc Reason C : Type 0} (m : Meaning Rules Doc Reason C) (rules : Rules) where
  -- Client c became the next one, and the authority became the new one. `composes` and `gets` say whether the client has
  -- one message or one answer more.
  pub record Moved (a : Authority C Rules Doc Reason) (c : Client C Rules Doc Reason) (composes gets : Bool)
      (new : Authority C Rules Doc Reason) (next : Client C Rules Doc Reason) : Type 0 where
    pub name : next.name ≡ c.name
    pub messages : length next.messages ≡ length c.messages + cond composes 1 0
    pub answers : length next.answers ≡ length c.answers + cond gets 1 0
    pub after : After m rules a c new next
    pub more : List (Named C)
    pub log_is : new.log ≡ a.log ++ more
    pub own : Each (IsOwn c.name) more
    -- where each step that it composed has its name, so it is still
    pub named : Each (NamedBy c.name) c.messages → Each (NamedBy next.name) next.messages

-- each step of a message just composed has the client's name
pub message-named : {Rules Doc Reason C : Type 0} (c : Client C Rules Doc Reason) (kind : MessageKind) → Each (IsOwn c.name) c.pending → NamedBy c.name (message_of c kind)
message-named c Submission own = All-from_recursion (IsOwn c.name) c.pending own
message-named c Asking own = tt

module _ {Rules Doc Reason C : Type 0} (m : Meaning Rules Doc Reason C) (rules : Rules) (laws : Laws m) (a : Authority C Rules Doc Reason) (stood : IsKept m rules a)
    (c : Client C Rules Doc Reason) (kin : Kin m rules a.first a.log c) where
  -- the client alone became another
  moved-alone : (composes gets : Bool) (next : Client C Rules Doc Reason) → next.name ≡ c.name → length next.messages ≡ length c.messages + cond composes 1 0
      → length next.answers ≡ length c.answers + cond gets 1 0 → Kin m rules a.first a.log next
      → (Each (NamedBy c.name) c.messages → Each (NamedBy next.name) next.messages) → Moved m rules a c composes gets a next
  moved-alone composes gets next name messages answers k named = record {
    name = name;
    messages = messages;
    answers = answers;
    after = record { authority = stood; own = k; other = λ d apart h. h };
    more = [];
    log_is = sym (append-nil a.log);
    own = tt;
    named = named;
  }

  -- it has the same messages and answers
  moved-box : (next : Client C Rules Doc Reason) → KeepsBox c next → Kin m rules a.first a.log next → Moved m rules a c false false a next
  moved-box next box k = moved-alone false false next box.name (omega (arith, ap length box.messages)) (omega (arith, ap length box.answers)) k
      (λ h. rw (box.name, box.messages) h)

  pub unmoved : Moved m rules a c false false a c
  unmoved = moved-box c (record { name = refl; messages = refl; answers = refl }) kin

  pub edits-moved : (event : Option ℕ) (r : Result (List C) NoStep) → Moved m rules a c false false a (edits m rules c event r).1
  edits-moved event (Err reason) = unmoved
  edits-moved event (Ok steps) = from (edited m rules c steps event) refl
    where
      from : (r : Result (Client C Rules Doc Reason) (Refusal Reason)) → edited m rules c steps event ≡ r → Moved m rules a c false false a (made c steps r).1
      from (Ok next) e = moved-box next (edited-keeps m rules c steps event next e) (kin-edited m rules a.first a.log c kin laws steps event next e)
      from (Err r) e = unmoved

  pub turns-moved : (way : Turn) → Moved m rules a c false false a (turns c (turned_if m rules c way (event_for way c.history))).1
  turns-moved way = from (event_for way c.history) refl
    where
      from : (o : Option Event) → event_for way c.history ≡ o → Moved m rules a c false false a (turns c (turned_if m rules c way o)).1
      from None e = unmoved
      from (Some event) e =
          moved-box (event_turned m rules c way event).1 (turned-keeps m rules c way event) (kin-turned m rules laws a.first a.log c kin way event e)

  pub sets-moved : (p : ℕ) (side : Side) → Moved m rules a c false false a (sets m c p side).1
  sets-moved p side = from (nat_lt (m.size c.doc) p) refl
    where
      chosen : Bool → Outcome C Rules Doc Reason × Client C Rules Doc Reason
      chosen b = if b then (NoneMade Range, c) else (CursorAt p, cursor_set c p side)

      from : (b : Bool) → nat_lt (m.size c.doc) p ≡ b → Moved m rules a c false false a (chosen b).1
      from true e = unmoved
      from false e =
          moved-box (cursor_set c p side) (record { name = refl; messages = refl; answers = refl })
          (kin-cursor m rules a.first a.log c kin p side (ltb-false (m.size c.doc) p e))

  pub takes-moved : (n : ℕ) → Moved m rules a c false false a (taken_at m rules c n).1
  takes-moved n = moved-box (taken_at m rules c n).1 (taken_at-keeps m rules c n) (kin-taken_at m rules a.first a.log c kin laws n)

  pub composes-moved : (kind : MessageKind) → Moved m rules a c true false a (composed c kind)
  composes-moved kind =
      moved-alone true false (composed c kind) refl (length-append c.messages (message_of c kind ∷ [])) (omega arith) (kin-composed m rules a.first a.log c kin kind)
      (λ h. Each-append (NamedBy c.name) c.messages (message_of c kind ∷ []) h (message-named c kind kin.own, tt))

  -- the client presented a message that stands
  pub presented-moved : (message : Message C) → MessageStands c.version c.pending message → Moved m rules a c false false (presented m rules a message).1 c
  presented-moved message stands =
      let own = presented-own m rules laws a c kin message stands in
      record {
        name = refl;
        messages = omega arith;
        answers = omega arith;
        after = presented-only m rules laws a c stood kin message stands;
        more = own.0;
        log_is = own.1;
        own = own.2;
        named = λ h. h;
      }

  -- and kept the answer
  pub kept-moved : (message : Message C) → MessageStands c.version c.pending message
      → Moved m rules a c false true (presented m rules a message).1 (kept c (presented m rules a message).0)
  kept-moved message stands =
      let own = presented-own m rules laws a c kin message stands in
      record {
        name = refl;
        messages = omega arith;
        answers = length-append c.answers ((presented m rules a message).0 ∷ []);
        after = presented-kept m rules laws a c stood kin message stands;
        more = own.0;
        log_is = own.1;
        own = own.2;
        named = λ h. h;
      }

-- what was moved by one and then by another
pub moved-twice : {Rules Doc Reason C : Type 0} (m : Meaning Rules Doc Reason C) (rules : Rules) (a : Authority C Rules Doc Reason) (c mid : Client C Rules Doc Reason)
    (gets : Bool) (new : Authority C Rules Doc Reason) (next : Client C Rules Doc Reason) → Moved m rules a c true false a mid → Moved m rules a mid false gets new next
    → Moved m rules a c true gets new next
moved-twice m rules a c mid gets new next one two = record {
  name = two.name ∙ one.name;
  messages = omega (arith, one.messages, two.messages);
  answers = omega (arith, one.answers, two.answers);
  after = record {
    authority = two.after.authority;
    own = two.after.own;
    other = λ d apart k. two.after.other d (λ e. apart (sym one.name ∙ e)) k;
  };
  more = two.more;
  log_is = two.log_is;
  own = subst (λ (n : ℕ). Each (IsOwn n) two.more) one.name two.own;
  named = λ h. two.named (one.named h);
}

module _ {Rules Doc Reason C : Type 0} (m : Meaning Rules Doc Reason C) (rules : Rules) (laws : Laws m) (a : Authority C Rules Doc Reason) (stood : IsKept m rules a)
    (c : Client C Rules Doc Reason) (kin : Kin m rules a.first a.log c) where
  -- the client composed a message and presented it
  pub sent-moved : (kind : MessageKind) → Moved m rules a c true false (presented m rules a (message_of c kind)).1 (composed c kind)
  sent-moved kind =
      let k = kin-composed m rules a.first a.log c kin kind in
      moved-twice m rules a c (composed c kind) false (presented m rules a (message_of c kind)).1 (composed c kind) (composes-moved m rules laws a stood c kin kind)
      (presented-moved m rules laws a stood (composed c kind) k (message_of c kind) (new-stands m rules laws c kind))

  -- and kept the answer
  pub given-moved : (kind : MessageKind)
      → Moved m rules a c true true (presented m rules a (message_of c kind)).1 (kept (composed c kind) (presented m rules a (message_of c kind)).0)
  given-moved kind =
      let k = kin-composed m rules a.first a.log c kin kind in
      let p = presented m rules a (message_of c kind) in
      moved-twice m rules a c (composed c kind) true p.1 (kept (composed c kind) p.0) (composes-moved m rules laws a stood c kin kind)
      (kept-moved m rules laws a stood (composed c kind) k (message_of c kind) (new-stands m rules laws c kind))

  pub exchanges-moved : (kind : MessageKind) (lost : Bool) → Moved m rules a c true true (exchanges_at m rules a c kind lost).1 (exchanges_at m rules a c kind lost).2
  exchanges-moved kind true = given-moved kind
  exchanges-moved kind false =
      let p = presented m rules a (message_of c kind) in
      let keeper = kept (composed c kind) p.0 in
      let one = given-moved kind in
      let last = taken-last m rules (composed c kind) p.0 (length c.answers + 1) refl in
      let k : Kin m rules p.1.first p.1.log (taken m rules keeper p.0).1 =
      rw last at (kin-taken_at m rules p.1.first p.1.log keeper one.after.own laws (length c.answers + 1)) in
      let box = taken-keeps m rules keeper p.0 in
      record {
        name = box.name;
        messages = ap length box.messages ∙ one.messages;
        answers = ap length box.answers ∙ one.answers;
        after = record { authority = one.after.authority; own = k; other = one.after.other };
        more = one.more;
        log_is = one.log_is;
        own = one.own;
        named = λ h. rw (box.name, box.messages) (one.named h);
      }

  module _ {Op : Type 0} (makes : Doc → Op → Result (List C) NoStep) where
    -- an act that suits the client
    pub acted-moved : (act : Act Op C) → NamesOneOf (length c.messages) (length c.answers) act
        → Moved m rules a c (composes_one act) (gets_one act) (editor_acts m rules makes a act c).1 (editor_acts m rules makes a act c).2
    acted-moved (Edit op event) h = edits-moved m rules laws a stood c kin event (makes c.doc op)
    acted-moved Undo h = turns-moved m rules laws a stood c kin turn.Undo
    acted-moved Redo h = turns-moved m rules laws a stood c kin turn.Redo
    acted-moved (UndoEvent number) h = turns-moved m rules laws a stood c kin (turn.UndoEvent number)
    acted-moved (Cursor p side) h = sets-moved m rules laws a stood c kin p side
    acted-moved Submit h = composes-moved m rules laws a stood c kin Submission
    acted-moved Ask h = composes-moved m rules laws a stood c kin Asking
    acted-moved (Take n) h = takes-moved m rules laws a stood c kin n
    acted-moved (Push lost) h = exchanges-moved Submission lost
    acted-moved (Pull lost) h = exchanges-moved Asking lost
    acted-moved (Forge version steps) h = unmoved m rules laws a stood c kin
    acted-moved Enter h = unmoved m rules laws a stood c kin
    acted-moved (Present j) h = from (message_at c j) refl
      where
        some : {A : Type 0} (xs : List A) (k : ℕ) → k < length xs → (x : A) × (slice_get xs k ≡ Some x)
        some [] k l = absurd (omega arith)
        some (x ∷ xs) zero l = (x, refl)
        some (x ∷ xs) (suc k) l = some xs k (omega arith)

        from : (o : Option (Message C)) → message_at c j ≡ o → Moved m rules a c false true (presents m rules a c o).1 (presents m rules a c o).2
        from None e =
            let there = some c.messages (j - 1) (omega (arith, h.0, h.1)) in
            let e : slice_get c.messages (j - 1) ≡ None = e in
            let f : slice_get c.messages (j - 1) ≡ Some there.0 = there.1 in
            absurd (cc)
        from (Some message) e = kept-moved m rules laws a stood c kin message (message-stands m rules laws a.first a.log c kin j message e)
