-- What each word of an outcome tells of the line's member is so.
use Rattle.std.specs.Prelude.{◌≡◌, ◌≢◌, ℕ, zero, suc, ◌+◌, ◌-◌, ◌≤◌, ◌<◌, ◌==◌, ◌||◌, nat_lt, nat_le, if◌then◌else◌, Bool, true, false, List, [], ◌∷◌, ◌++◌, length, take, drop, slice_get, slice_set, Option, Some, None, Result, Ok, Err, refl}
use Rattle.std.specs.List.{AllByRecursion as Each}
use Rattle.std.specs.declared.alloc.AllocError.{AllocError}
use Rattle.std.proofs.Common.{sym, ap, ◌∙◌, subst, arith, length-append, length-drop}
use Rattle.std.proofs.lemmas.Bool.{true≢false, eq-eqb, ltb-true, ltb-false}
use Rattle.pm_map.specs.declared.side.Side.{Side}
use Rattle.pm_change.specs.Changes.{Meaning, Laws, fold}
use Rattle.pm_change.specs.declared.no_step.NoStep.{NoStep}
use Rattle.pm_change.specs.declared.no_step.NoStep.TheVariants.{Range, NotThere}
use Rattle.pm_history.specs.declared.branch.Event.{Event}
use Rattle.pm_history.specs.declared.turn.Turn.{Turn}
use Rattle.pm_history.specs.declared.turn.Turn.TheVariants as turn
use Rattle.pm_history.specs.Histories.{is_number, last_event}
use Rattle.pm_history.specs.Undos.{undo_event}
use Rattle.pm_history.specs.Turns.{has_number, any_numbered, last_numbered, event_for}
use Rattle.pm_history.proofs.Taken.{none-numbered}
use Rattle.pm_authority.specs.Causes.{IsAnswer}
use Rattle.pm_authority.specs.Kept.{IsKept}
use Rattle.pm_authority.specs.Presents.{presented}
use Rattle.pm_authority.specs.Runs.{run, changes_of}
use Rattle.pm_authority.specs.declared.authority.Authority.{Authority}
use Rattle.pm_authority.specs.declared.named.Named.{Named}
use Rattle.pm_authority.specs.declared.running.Refusal.{Refusal}
use Rattle.pm_authority.specs.declared.message.Message.{Message}
use Rattle.pm_authority.specs.declared.message.Answer.{Answer}
use Rattle.pm_authority.specs.declared.message.Answer.TheVariants.{Accepted, WrongVersion, StepRefused, Entries}
use Rattle.pm_authority.proofs.Presented.{present-causes}
use Rattle.pm_client.specs.declared.client.Client.{Client}
use Rattle.pm_client.specs.declared.taken.MessageKind.{MessageKind}
use Rattle.pm_client.specs.declared.taken.MessageKind.TheVariants.{Submit as Submission, Ask as Asking}
use Rattle.pm_client.specs.declared.taken.Taken.{Taken}
use Rattle.pm_client.specs.declared.taken.Taken.TheVariants.{Confirmed, Rebased, Stale, Refused as TakenRefused}
use Rattle.pm_client.specs.Causes.{IsTaken}
use Rattle.pm_client.specs.Clients.{named, own_run, given, confirmed, brought, carried, confirmed_first, others_taken, rest_taken, tried, edited, event_turned, turned_if, message_of, message_at, answer_at, composed, kept, cursor_set, taken}
use Rattle.pm_client.specs.Kins.{Kin}
use Rattle.pm_client.specs.Undoings.{EndsTied}
use Rattle.pm_client.proofs.Answering.{presented-kept}
use Rattle.pm_client.proofs.Causings.{taken-right}
use Rattle.pm_client.proofs.Keeps.{kin-composed}
use Rattle.pm_client.proofs.Takings.{answer-stands}
use Rattle.pm_client.proofs.TimelineLaws.{named-length}
use Rattle.pm_client.proofs.Tyings.{turned-tied}
use Rattle.pm_session.specs.declared.line.Act.{Act}
use Rattle.pm_session.specs.declared.line.Act.TheVariants.{Edit, Undo, Redo, UndoEvent, Cursor, Submit, Ask, Present, Take, Push, Pull, Forge, Enter}
use Rattle.pm_session.specs.declared.member.Member.{Member}
use Rattle.pm_session.specs.declared.member.Member.TheVariants.{Editor, Raw}
use Rattle.pm_session.specs.declared.outcome.Outcome.{Outcome}
use Rattle.pm_session.specs.declared.outcome.Outcome.TheVariants.{Made, Nothing, NoStep as NoneMade, Refused, CursorAt}
use Rattle.pm_session.specs.Events.{edits, made, turns, sets, takes, acted}
use Rattle.pm_session.specs.Sounds.{MemberStands}
use Rattle.pm_session.specs.Suits.{NamesOneOf, ActSuits}
use Rattle.pm_session.specs.Telling.{HasMore, TellsEdit, TellsTurn, TellsCursor, TellsKept, GoesBy, TakenAs, TellsTook, UnlessLost, TellsExchanged, ToldBy, ToldByRaw, MemberTold}
use Rattle.pm_session.specs.Tying.{TiedWay, TiedBy, MemberTied}
use Rattle.pm_session.proofs.Editors.{presents, exchanges_at, editor_acts, acted-editor}
use Rattle.pm_session.proofs.Keeping.{answer-last}
use Rattle.pm_session.proofs.SoundLaws.{new-stands}

-- an item of a number within the list is there
pub found : {A : Type 0} (xs : List A) (j : ℕ) → 0 < j → j ≤ length xs → (x : A) × (slice_get xs (j - 1) ≡ Some x)
found xs zero some within = absurd (omega (arith, some))
found xs (suc k) some within = let back : suc k - 1 ≡ k = omega arith in rw back (there xs k (omega (arith, within)))
  where
    there : {A : Type 0} (xs : List A) (k : ℕ) → k < length xs → (x : A) × (slice_get xs k ≡ Some x)
    there [] k l = absurd (omega (arith, l))
    there (x ∷ xs) zero l = (x, refl)
    there (x ∷ xs) (suc k) l = there xs k (omega (arith, l))

none-some : {A : Type 0} (x : A) → None ≡ Some x → ⊥
none-some x h = cc

some-inj : {A : Type 0} (x y : A) → Some x ≡ Some y → x ≡ y
some-inj x y h = cc

-- ---- when there is no event

no-last : (es : List Event) → last_event es ≡ None → es ≡ []
no-last [] h = refl
no-last (e ∷ []) h = absurd (none-some e (sym h))
no-last (e ∷ f ∷ es) h = absurd (let none : f ∷ es ≡ [] = no-last (f ∷ es) h in cc)

has-last : (es : List Event) (e : Event) → last_event es ≡ Some e → es ≡ [] → ⊥
has-last [] e h n = none-some e h
has-last (x ∷ es) e h n = cc

module _ (k : ℕ) where
  abbrev Others : List Event → Type 0
  Others es = Each (λ e. e.number ≢ Some k) es

  no-number : (e : Event) → has_number k e ≡ false → e.number ≢ Some k
  no-number e h is = true≢false (sym (eq-eqb k k refl) ∙ (sym (ap (is_number (Some k)) is) ∙ h))

  none-last : (es : List Event) → any_numbered k es ≡ false → last_numbered k es ≡ None
  none-last [] h = refl
  none-last (e ∷ es) h = from (has_number k e) (any_numbered k es) refl refl h
    where
      from : (a b : Bool) → has_number k e ≡ a → any_numbered k es ≡ b → (has_number k e || any_numbered k es) ≡ false
          → (if any_numbered k es then last_numbered k es else (if has_number k e then Some e else None)) ≡ None
      from true b p q h = absurd (let x : (true || any_numbered k es) ≡ false = rw p at h in true≢false x)
      from false true p q h = absurd (let x : (false || true) ≡ false = rw (p, q) at h in true≢false x)
      from false false p q h = rw (p, q) refl

  any-last : (es : List Event) → any_numbered k es ≡ true → last_numbered k es ≡ None → ⊥
  any-last [] h n = true≢false (sym h)
  any-last (e ∷ es) h n = from (has_number k e) (any_numbered k es) refl refl h n (any-last es)
    where
      from : (a b : Bool) → has_number k e ≡ a → any_numbered k es ≡ b → (has_number k e || any_numbered k es) ≡ true
          → (if any_numbered k es then last_numbered k es else (if has_number k e then Some e else None)) ≡ None
          → (any_numbered k es ≡ true → last_numbered k es ≡ None → ⊥) → ⊥
      from a true p q h n go = go q (rw q at n)
      from true false p q h n go = none-some e (sym (rw (p, q) at n))
      from false false p q h n go = let x : (false || false) ≡ true = rw (p, q) at h in true≢false (sym x)

  all-others : (es : List Event) → any_numbered k es ≡ false → Others es
  all-others [] h = tt
  all-others (e ∷ es) h = from (has_number k e) (any_numbered k es) refl refl h (all-others es)
    where
      from : (a b : Bool) → has_number k e ≡ a → any_numbered k es ≡ b → (has_number k e || any_numbered k es) ≡ false
          → (any_numbered k es ≡ false → Others es) → Others (e ∷ es)
      from true b p q h go = absurd (let x : (true || any_numbered k es) ≡ false = rw p at h in true≢false x)
      from false true p q h go = absurd (let x : (false || true) ≡ false = rw (p, q) at h in true≢false x)
      from false false p q h go = (no-number e p, go q)

  no-numbered : (es : List Event) → last_numbered k es ≡ None → Others es
  no-numbered es h = from (any_numbered k es) refl
    where
      from : (b : Bool) → any_numbered k es ≡ b → Others es
      from true q = absurd (any-last es q h)
      from false q = all-others es q

  has-numbered : (es : List Event) (e : Event) → last_numbered k es ≡ Some e → Others es → ⊥
  has-numbered es e h others = none-some e (sym (none-last es (none-numbered k es others)) ∙ h)

module _ {Rules Doc Reason C : Type 0} (m : Meaning Rules Doc Reason C) (rules : Rules) where
  -- ---- steps made

  told-edited : (c : Client C Rules Doc Reason) (steps : List C) (event : Option ℕ) (r : Result Doc (Refusal Reason))
      → TellsEdit (made c steps (tried m rules c steps event r)).0 c (made c steps (tried m rules c steps event r)).1
  told-edited c steps event (Ok doc) = (named c.name (c.serials + 1) steps, refl, named-length c.name (c.serials + 1) steps)
  told-edited c steps event (Err e) = refl

  told-edits : (c : Client C Rules Doc Reason) (event : Option ℕ) (r : Result (List C) NoStep) → TellsEdit (edits m rules c event r).0 c (edits m rules c event r).1
  told-edits c event (Ok steps) = told-edited c steps event (run m rules c.doc 0 (named c.name (c.serials + 1) steps))
  told-edits c event (Err reason) = refl

  told-turn : (c : Client C Rules Doc Reason) (way : Turn) (NoEvent : Type 0) → (event_for way c.history ≡ None → NoEvent)
      → ((e : Event) → event_for way c.history ≡ Some e → NoEvent → ⊥) → (o : Option Event) → event_for way c.history ≡ o
      → TellsTurn NoEvent (turns c (turned_if m rules c way o)).0 c (turns c (turned_if m rules c way o)).1
  told-turn c way NoEvent none some None h = (none h, refl)
  told-turn c way NoEvent none some (Some e) h =
      let w = undo_event m rules c.name e.names c.history.items c.doc (c.serials + 1) in
      (some e h, (named c.name (c.serials + 1) w.made, refl, named-length c.name (c.serials + 1) w.made))

  -- ---- cursors

  told-cursor : (c : Client C Rules Doc Reason) (p : ℕ) (side : Side) → TellsCursor (m.size c.doc) p side (sets m c p side).0 c (sets m c p side).1
  told-cursor c p side = from (nat_lt (m.size c.doc) p) refl
    where
      from : (b : Bool) → nat_lt (m.size c.doc) p ≡ b
          → (let q : Outcome C Rules Doc Reason × Client C Rules Doc Reason = if b then (NoneMade Range, c) else (CursorAt p, cursor_set c p side) in TellsCursor (m.size c.doc) p side q.0 c q.1)
      from true h = (ltb-true (m.size c.doc) p h, refl, refl)
      from false h = (ltb-false (m.size c.doc) p h, refl, refl)

  -- ---- answers

  -- how far what is taken leads
  confirmed-goes : (c : Client C Rules Doc Reason) (k : ℕ) → GoesBy (confirmed_first m rules c k).0 c (confirmed_first m rules c k).1
  confirmed-goes c k = from (fold m rules c.base (changes_of (take k c.pending)))
    where
      from : (o : Option Doc) → GoesBy (given c o (λ base. (Confirmed k, confirmed c k base))).0 c (given c o (λ base. (Confirmed k, confirmed c k base))).1
      from None = refl
      from (Some base) = (refl, refl)

  others-go : (c : Client C Rules Doc Reason) (rest : List (Named C)) (own : ℕ) → GoesBy (others_taken m rules c rest own).0 c (others_taken m rules c rest own).1
  others-go c rest own = from (fold m rules c.base (changes_of rest))
    where
      from : (o : Option Doc)
          → (let p = given c o (λ base. let r = carried m rules c own (drop own rest) base in (Rebased own (length rest - own) (length r.dropped), brought m rules c own (drop own rest) base r)) in GoesBy p.0 c p.1)
      from None = refl
      from (Some base) = ap (λ n. c.version + (own + n)) (length-drop own rest)

  rest-goes : (c : Client C Rules Doc Reason) (rest : List (Named C)) (own : ℕ) → GoesBy (rest_taken m rules c rest own).0 c (rest_taken m rules c rest own).1
  rest-goes c rest own = from (own == length rest)
    where
      from : (b : Bool) → (let p = if b then confirmed_first m rules c own else others_taken m rules c rest own in GoesBy p.0 c p.1)
      from true = confirmed-goes c own
      from false = others-go c rest own

  taken-goes : (c : Client C Rules Doc Reason) (a : Answer C Rules Doc Reason) → GoesBy (taken m rules c a).0 c (taken m rules c a).1
  taken-goes c (Accepted from count) = by-test (nat_le (from + count) c.version)
    where
      by-test : (b : Bool) → (let p = if b then (Stale, c) else confirmed_first m rules c count in GoesBy p.0 c p.1)
      by-test true = refl
      by-test false = confirmed-goes c count
  taken-goes c (WrongVersion size) = refl
  taken-goes c (StepRefused index reason) = refl
  taken-goes c (Entries since entries) = by-test (nat_le (since + length entries) c.version)
    where
      by-test : (b : Bool)
          → (let p = if b then (Stale, c) else rest_taken m rules c (drop (c.version - since) entries) (own_run c.name (drop (c.version - since) entries)) in GoesBy p.0 c p.1)
      by-test true = refl
      by-test false = rest-goes c (drop (c.version - since) entries) (own_run c.name (drop (c.version - since) entries))

  is-answer : (a : Authority C Rules Doc Reason) (message : Message C) → IsAnswer m rules a message (presented m rules a message).0
  is-answer a message =
      let p = presented m rules a message in
      let r : Result (Answer C Rules Doc Reason) AllocError = Ok p.0 in
      (present-causes m rules r a message refl p.0).0 refl

  -- ---- acts of an editor that stands to the log

  module _ (laws : Laws m) (a : Authority C Rules Doc Reason) (stood : IsKept m rules a) (c : Client C Rules Doc Reason) (kin : Kin m rules a.first a.log c) where
    told-present : (j : ℕ) → (0 < j) × (j ≤ length c.messages)
        → TellsKept m rules a j (presents m rules a c (message_at c j)).0 c (presents m rules a c (message_at c j)).2
    told-present j one =
        let at = found c.messages j one.0 one.1 in
        let p = presented m rules a at.0 in
        rw at.1 (at.0, p.0, at.1, is-answer a at.0, refl, refl)

    told-take : (n : ℕ) → (0 < n) × (n ≤ length c.answers) → TellsTook m rules n (takes m rules c n).0 c (takes m rules c n).1
    told-take n one =
        let at = found c.answers n one.0 one.1 in
        let right = taken-right m rules c a.first a.log kin at.0 (answer-stands m rules a.first a.log c kin n at.0 at.1) in
        rw at.1 (at.0, refl, (right, taken-goes c at.0))

    told-exchange : (kind : MessageKind) (lost : Bool) → TellsExchanged m rules a kind lost (exchanges_at m rules a c kind lost).0 c (exchanges_at m rules a c kind lost).2
    told-exchange kind true = ((presented m rules a (message_of c kind)).0, is-answer a (message_of c kind), refl, refl)
    told-exchange kind false =
        let p = presented m rules a (message_of c kind) in
        let keeper = kept (composed c kind) p.0 in
        let composer = kin-composed m rules a.first a.log c kin kind in
        let after = presented-kept m rules laws a (composed c kind) stood composer (message_of c kind) (new-stands m rules laws c kind) in
        let last = answer-last (composed c kind) p.0 (length c.answers + 1) refl in
        let right = taken-right m rules keeper p.1.first p.1.log after.own p.0 (answer-stands m rules p.1.first p.1.log keeper after.own (length c.answers + 1) p.0 last) in
        (p.0, is-answer a (message_of c kind), refl, (right, taken-goes keeper p.0))

    module _ {Op : Type 0} (makes : Doc → Op → Result (List C) NoStep) where
      told-acted : (act : Act Op C) → NamesOneOf (length c.messages) (length c.answers) act
          → ToldBy m rules act a (editor_acts m rules makes a act c).0 c (editor_acts m rules makes a act c).2
      told-acted (Edit op event) one = told-edits c event (makes c.doc op)
      told-acted Undo one =
          told-turn c turn.Undo (c.history.undo ≡ []) (λ h. no-last c.history.undo h) (λ e h. has-last c.history.undo e h) (event_for turn.Undo c.history) refl
      told-acted Redo one =
          told-turn c turn.Redo (c.history.redo ≡ []) (λ h. no-last c.history.redo h) (λ e h. has-last c.history.redo e h) (event_for turn.Redo c.history) refl
      told-acted (UndoEvent number) one =
          told-turn c (turn.UndoEvent number) (Others number c.history.undo) (λ h. no-numbered number c.history.undo h) (λ e h. has-numbered number c.history.undo e h)
          (event_for (turn.UndoEvent number) c.history) refl
      told-acted (Cursor p side) one = told-cursor c p side
      told-acted Submit one = (refl, sym (length-append c.messages (message_of c Submission ∷ [])))
      told-acted Ask one = (refl, sym (length-append c.messages (message_of c Asking ∷ [])))
      told-acted (Present j) one = told-present j one
      told-acted (Take n) one = told-take n one
      told-acted (Push lost) one = told-exchange Submission lost
      told-acted (Pull lost) one = told-exchange Asking lost
      told-acted (Forge version steps) one = (refl, refl)
      told-acted Enter one = (refl, refl)

  -- ---- any member

  told-raw : {Op : Type 0} (makes : Doc → Op → Result (List C) NoStep) (a : Authority C Rules Doc Reason) (act : Act Op C) (name serial : ℕ)
      → ToldByRaw m rules act (acted m rules makes a act (Raw name serial)).0 name serial (acted m rules makes a act (Raw name serial)).2
  told-raw makes a (Forge version steps) name serial = refl
  told-raw makes a (Edit op event) name serial = (refl, refl)
  told-raw makes a Undo name serial = (refl, refl)
  told-raw makes a Enter name serial = (refl, refl)
  told-raw makes a Redo name serial = (refl, refl)
  told-raw makes a (UndoEvent number) name serial = (refl, refl)
  told-raw makes a (Cursor p side) name serial = (refl, refl)
  told-raw makes a Submit name serial = (refl, refl)
  told-raw makes a Ask name serial = (refl, refl)
  told-raw makes a (Present j) name serial = (refl, refl)
  told-raw makes a (Take n) name serial = (refl, refl)
  told-raw makes a (Push lost) name serial = (refl, refl)
  told-raw makes a (Pull lost) name serial = (refl, refl)

  -- an act that suits a member that stands
  pub told-member : Laws m → {Op : Type 0} (makes : Doc → Op → Result (List C) NoStep) (a : Authority C Rules Doc Reason) → IsKept m rules a → (act : Act Op C)
      → (x : Member C Rules Doc Reason) → MemberStands m rules a.first a.log x → ActSuits x act
      → MemberTold m rules act a (acted m rules makes a act x).0 x (acted m rules makes a act x).2
  told-member laws makes a stood act (Raw name serial) stands suits = told-raw makes a act name serial
  told-member laws makes a stood act (Editor c) stands suits =
      subst (λ p. MemberTold m rules act a p.0 (Editor c) p.2) (sym (acted-editor m rules makes a act c))
      ((editor_acts m rules makes a act c).2, refl, told-acted laws a stood c stands.kin makes act suits.1)

  -- ---- ties

  tied-turn : (a : Authority C Rules Doc Reason) (c : Client C Rules Doc Reason) (way : Turn) (o : Option Event) → event_for way c.history ≡ o
      → TiedWay m rules way a (turns c (turned_if m rules c way o)).0 c (turns c (turned_if m rules c way o)).1
  tied-turn a c way None h = tt
  tied-turn a c way (Some x) h = λ kin e at.
      let same : x ≡ e = some-inj x e (sym h ∙ at) in
      subst (λ (y : Event). EndsTied y.names (event_turned m rules c way x).0 kin.timeline) same (turned-tied m rules c way x a.first a.log kin)

  tied-acted : {Op : Type 0} (makes : Doc → Op → Result (List C) NoStep) (a : Authority C Rules Doc Reason) (c : Client C Rules Doc Reason) (act : Act Op C)
      → TiedBy m rules act (editor_acts m rules makes a act c).1 (editor_acts m rules makes a act c).0 c (editor_acts m rules makes a act c).2
  tied-acted makes a c Undo = tied-turn a c turn.Undo (event_for turn.Undo c.history) refl
  tied-acted makes a c Redo = tied-turn a c turn.Redo (event_for turn.Redo c.history) refl
  tied-acted makes a c (UndoEvent number) = tied-turn a c (turn.UndoEvent number) (event_for (turn.UndoEvent number) c.history) refl
  tied-acted makes a c (Edit op event) = tt
  tied-acted makes a c (Cursor p side) = tt
  tied-acted makes a c Submit = tt
  tied-acted makes a c Ask = tt
  tied-acted makes a c (Present j) = tt
  tied-acted makes a c (Take n) = tt
  tied-acted makes a c (Push lost) = tt
  tied-acted makes a c (Pull lost) = tt
  tied-acted makes a c (Forge version steps) = tt
  tied-acted makes a c Enter = tt

  pub tied-member : {Op : Type 0} (makes : Doc → Op → Result (List C) NoStep) (a : Authority C Rules Doc Reason) (act : Act Op C) (x : Member C Rules Doc Reason)
      → MemberTied m rules act (acted m rules makes a act x).1 (acted m rules makes a act x).0 x (acted m rules makes a act x).2
  tied-member makes a act (Raw name serial) = tt
  tied-member makes a act (Editor c) =
      subst (λ p. MemberTied m rules act p.1 p.0 (Editor c) p.2) (sym (acted-editor m rules makes a act c)) (tied-acted makes a c act)

-- ---- the members of a room after a line

pub set-there : {A : Type 0} (xs : List A) (i : ℕ) (v x : A) → slice_get xs i ≡ Some x → slice_get (slice_set xs i v) i ≡ Some v
set-there [] i v x h = absurd (cc)
set-there (y ∷ ys) zero v x h = refl
set-there (y ∷ ys) (suc i) v x h = set-there ys i v x h

pub set-other : {A : Type 0} (xs : List A) (i k : ℕ) (v : A) → (k ≡ i → ⊥) → slice_get (slice_set xs i v) k ≡ slice_get xs k
set-other [] i k v other = refl
set-other (y ∷ ys) zero zero v other = absurd (other refl)
set-other (y ∷ ys) zero (suc k) v other = refl
set-other (y ∷ ys) (suc i) zero v other = refl
set-other (y ∷ ys) (suc i) (suc k) v other = set-other ys i k v (λ e. other (ap suc e))
