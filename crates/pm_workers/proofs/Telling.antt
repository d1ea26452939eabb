-- Of lines that suit a member its acts tell which present a message.
use Rattle.std.specs.List.{AllByRecursion as Each}
use Rattle.std.specs.Prelude.{◌≡◌, ℕ, zero, suc, ◌+◌, ◌-◌, ◌<◌, ◌≤◌, ◌&&◌, nat_lt, Bool, true, false, if◌then◌else◌, List, [], ◌∷◌, ◌++◌, length, cond, is_some, slice_get, Option, Some, None, Result, Ok, Err, refl}
use Rattle.std.proofs.Common.{sym, ap, ◌∙◌, arith, length-append}
use Rattle.std.proofs.lemmas.Bool.{eq-eqb}
use Rattle.pm_map.specs.declared.side.Side.{Side}
use Rattle.pm_change.specs.Changes.{Meaning}
use Rattle.pm_change.specs.declared.no_step.NoStep.{NoStep}
use Rattle.pm_change.specs.declared.no_step.NoStep.TheVariants.{Range}
use Rattle.pm_authority.specs.declared.running.Refusal.{Refusal}
use Rattle.pm_authority.specs.declared.message.Message.{Message}
use Rattle.pm_authority.specs.declared.message.Answer.{Answer}
use Rattle.pm_history.specs.declared.turn.Turn.{Turn}
use Rattle.pm_history.specs.declared.turn.Turn.TheVariants as turn
use Rattle.pm_client.specs.declared.client.Client.{Client}
use Rattle.pm_client.specs.declared.taken.MessageKind.{MessageKind}
use Rattle.pm_client.specs.declared.taken.MessageKind.TheVariants.{Submit as Submission, Ask as Asking}
use Rattle.pm_client.specs.Clients.{edited, turned_if, event_turned, cursor_set, message_of, composed, kept}
use Rattle.pm_session.specs.declared.line.Line.{Line}
use Rattle.pm_session.specs.declared.line.Act.{Act}
use Rattle.pm_session.specs.declared.line.Act.TheVariants.{Edit, Undo, Redo, UndoEvent, Cursor, Submit, Ask, Present, Take, Push, Pull, Forge, Enter}
use Rattle.pm_session.specs.declared.member.Member.{Member}
use Rattle.pm_session.specs.declared.member.Member.TheVariants.{Editor, Raw}
use Rattle.pm_session.specs.declared.outcome.Outcome.{Outcome}
use Rattle.pm_session.specs.declared.outcome.Outcome.TheVariants.{NoStep as NoneMade, CursorAt}
use Rattle.pm_session.specs.Events.{made, turns, edits, exchanges, asked, finished_by_editor, finished}
use Rattle.pm_session.specs.Members.{is_raw}
use Rattle.pm_session.specs.Suits.{composes_one, gets_one, is_forge, done_by, composed_by, answered_by, NamesOneOf, Suits, AllSuit}
use Rattle.pm_session.proofs.Keeping.{KeepsBox, edited-keeps, turned-keeps, taken-keeps, taken_at-keeps}
use Rattle.pm_workers.specs.Threads.{presents}
use Rattle.pm_workers.specs.Works.{works, answer_to, answers_after, with_message}
use Rattle.pm_workers.proofs.Steps.{Tells}
use Rattle.pm_workers.proofs.Reordering.{done-more}

some-within : {A : Type 0} (xs : List A) (k : ℕ) → k < length xs → is_some (slice_get xs k) ≡ true
some-within [] k h = absurd (omega (arith, h))
some-within (x ∷ xs) zero h = refl
some-within (x ∷ xs) (suc k) h = some-within xs k (omega (arith, h))

-- the editor after an act has so many more messages and answers
abbrev More : {Rules Doc Reason C : Type 0} → Client C Rules Doc Reason → ℕ → ℕ → Client C Rules Doc Reason → Type 0
More c messages answers d = (length d.messages ≡ length c.messages + messages) × (length d.answers ≡ length c.answers + answers)

module _ {Rules Doc Reason C : Type 0} (m : Meaning Rules Doc Reason C) (rules : Rules) (c : Client C Rules Doc Reason) where
  as-many : (d : Client C Rules Doc Reason) → KeepsBox c d → More c 0 0 d
  as-many d k = (ap length k.messages ∙ omega arith, ap length k.answers ∙ omega arith)

  no-more : More c 0 0 c
  no-more = as-many c (record { name = refl; messages = refl; answers = refl })

  more-edits : (event : Option ℕ) (r : Result (List C) NoStep) → More c 0 0 (edits m rules c event r).1
  more-edits event (Err reason) = no-more
  more-edits event (Ok steps) = from (edited m rules c steps event) refl
    where
      from : (r : Result (Client C Rules Doc Reason) (Refusal Reason)) → edited m rules c steps event ≡ r → More c 0 0 (made c steps r).1
      from (Ok next) e = as-many next (edited-keeps m rules c steps event next e)
      from (Err r) e = no-more

  more-turns : (way : Turn) (o : Option _) → More c 0 0 (turns c (turned_if m rules c way o)).1
  more-turns way None = no-more
  more-turns way (Some event) = as-many (event_turned m rules c way event).1 (turned-keeps m rules c way event)

  abbrev chosen : ℕ → Side → Bool → Outcome C Rules Doc Reason × Client C Rules Doc Reason
  chosen p side b = if b then (NoneMade Range, c) else (CursorAt p, cursor_set c p side)

  more-sets : (p : ℕ) (side : Side) (b : Bool) → More c 0 0 (chosen p side b).1
  more-sets p side true = no-more
  more-sets p side false = as-many (cursor_set c p side) (record { name = refl; messages = refl; answers = refl })

  more-exchanges : (kind : MessageKind) (lost : Bool) (r : Option (Answer C Rules Doc Reason)) → is_some r ≡ true → More c 1 1 (exchanges m rules c kind lost r).1
  more-exchanges kind lost None some = absurd (cc)
  more-exchanges kind true (Some answer) some = (length-append c.messages (message_of c kind ∷ []), length-append c.answers (answer ∷ []))
  more-exchanges kind false (Some answer) some =
      let k = taken-keeps m rules (kept (composed c kind) answer) answer in
      (ap length k.messages ∙ length-append c.messages (message_of c kind ∷ []), ap length k.answers ∙ length-append c.answers (answer ∷ []))

  module _ {Op : Type 0} (makes : Doc → Op → Result (List C) NoStep) where
    -- an act of an editor, where an answer came exactly if the act presents a message
    more-box : (act : Act Op C) (r : Option (Answer C Rules Doc Reason)) → is_forge act ≡ false → is_some r ≡ presents act
        → More c (cond (composes_one act) 1 0) (cond (gets_one act) 1 0) (finished_by_editor m rules makes act c r).1
    more-box (Edit op event) r h some = more-edits event (makes c.doc op)
    more-box Undo r h some = more-turns turn.Undo _
    more-box Redo r h some = more-turns turn.Redo _
    more-box (UndoEvent n) r h some = more-turns (turn.UndoEvent n) _
    more-box (Cursor p side) r h some = more-sets p side (nat_lt (m.size c.doc) p)
    more-box Submit r h some = (length-append c.messages (message_of c Submission ∷ []), omega arith)
    more-box Ask r h some = (length-append c.messages (message_of c Asking ∷ []), omega arith)
    more-box (Present j) None h some = absurd (cc)
    more-box (Present j) (Some answer) h some = (omega arith, length-append c.answers (answer ∷ []))
    more-box (Take n) r h some = as-many _ (taken_at-keeps m rules c n)
    more-box (Push lost) r h some = more-exchanges Submission lost r some
    more-box (Pull lost) r h some = more-exchanges Asking lost r some
    more-box (Forge version steps) r h some = absurd (cc)
    more-box Enter r h some = (omega arith, omega arith)

    -- whether a message is there to present
    tells-editor : (act : Act Op C) (messages answers : ℕ) → is_forge act ≡ false → messages ≡ length c.messages → NamesOneOf messages answers act → is_some (asked act (Editor c)) ≡ presents act
    tells-editor (Present j) n k h e named = some-within c.messages (j - 1) (omega (arith, named.0, named.1, e))
    tells-editor (Push lost) n k h e named = refl
    tells-editor (Pull lost) n k h e named = refl
    tells-editor (Edit op event) n k h e named = refl
    tells-editor Undo n k h e named = refl
    tells-editor Redo n k h e named = refl
    tells-editor (UndoEvent event) n k h e named = refl
    tells-editor (Cursor p side) n k h e named = refl
    tells-editor Submit n k h e named = refl
    tells-editor Ask n k h e named = refl
    tells-editor (Take j) n k h e named = refl
    tells-editor Enter n k h e named = refl
    tells-editor (Forge version steps) n k h e named = absurd (cc)

module _ {Rules Doc Reason C Op : Type 0} (m : Meaning Rules Doc Reason C) (rules : Rules) (makes : Doc → Op → Result (List C) NoStep) (raw : List Bool) (i : ℕ) where
  -- Member i is of its kind, and where it is an editor it has the messages and answers that it composed and got on these lines.
  pub record Keeps (earlier : List (Line Op C)) (x : Member C Rules Doc Reason) : Type 0 where
    pub kind : slice_get raw i ≡ Some (is_raw x)
    pub counted : (c : Client C Rules Doc Reason) → x ≡ Editor c → (length c.messages ≡ composed_by i earlier) × (length c.answers ≡ answered_by i earlier)

  of-kind : (b : Bool) (line : Line Op C) (earlier : List (Line Op C)) → line.client ≡ i → slice_get raw i ≡ Some b → Suits raw earlier line → is_forge line.act ≡ b
  of-kind b line earlier own kind suits =
      let e : Some (is_forge line.act) ≡ Some b = sym suits.kind ∙ ap (slice_get raw) own ∙ kind in
      cc

  raw-tells : (act : Act Op C) (name serial : ℕ) → is_forge act ≡ true → is_some (asked {Rules = Rules} {Doc = Doc} {Reason = Reason} act (Raw name serial)) ≡ presents act
  raw-tells (Forge version steps) name serial h = refl
  raw-tells (Edit op event) name serial h = absurd (cc)
  raw-tells Undo name serial h = absurd (cc)
  raw-tells Redo name serial h = absurd (cc)
  raw-tells (UndoEvent event) name serial h = absurd (cc)
  raw-tells (Cursor p side) name serial h = absurd (cc)
  raw-tells Submit name serial h = absurd (cc)
  raw-tells Ask name serial h = absurd (cc)
  raw-tells (Present j) name serial h = absurd (cc)
  raw-tells (Take n) name serial h = absurd (cc)
  raw-tells (Push lost) name serial h = absurd (cc)
  raw-tells (Pull lost) name serial h = absurd (cc)
  raw-tells Enter name serial h = absurd (cc)

  first-tells : (x : Member C Rules Doc Reason) (line : Line Op C) (earlier : List (Line Op C)) → line.client ≡ i → Keeps earlier x → Suits raw earlier line → is_some (asked line.act x) ≡ presents line.act
  first-tells (Raw name serial) line earlier own k suits = raw-tells line.act name serial (of-kind true line earlier own k.kind suits)
  first-tells (Editor c) line earlier own k suits =
      tells-editor m rules c makes line.act (composed_by line.client earlier) (answered_by line.client earlier) (of-kind false line earlier own k.kind suits)
      (ap (λ j. composed_by j earlier) own ∙ sym (k.counted c refl).0) suits.named

  -- a raw client stays one
  raw-next : (act : Act Op C) (name serial : ℕ) (r : Option (Answer C Rules Doc Reason)) → (n : ℕ) × ((finished m rules makes act (Raw name serial) r).1 ≡ Raw name n)
  raw-next (Forge version steps) name serial None = (serial, refl)
  raw-next (Forge version steps) name serial (Some answer) = (serial + length steps, refl)
  raw-next (Edit op event) name serial r = (serial, refl)
  raw-next Undo name serial r = (serial, refl)
  raw-next Enter name serial r = (serial, refl)
  raw-next Redo name serial r = (serial, refl)
  raw-next (UndoEvent event) name serial r = (serial, refl)
  raw-next (Cursor p side) name serial r = (serial, refl)
  raw-next Submit name serial r = (serial, refl)
  raw-next Ask name serial r = (serial, refl)
  raw-next (Present j) name serial r = (serial, refl)
  raw-next (Take n) name serial r = (serial, refl)
  raw-next (Push lost) name serial r = (serial, refl)
  raw-next (Pull lost) name serial r = (serial, refl)

  keeps-more : (x : Member C Rules Doc Reason) (line : Line Op C) (earlier : List (Line Op C)) (r : Option (Answer C Rules Doc Reason)) → line.client ≡ i → Keeps earlier x → Suits raw earlier line
      → is_some r ≡ presents line.act → Keeps (earlier ++ line ∷ []) (finished m rules makes line.act x r).1
  keeps-more (Raw name serial) line earlier r own k suits some =
      let next = raw-next line.act name serial r in
      record {
        kind = k.kind ∙ ap (λ x. Some (is_raw x)) (sym next.1);
        counted = λ c is. let e : Raw name next.0 ≡ Editor c = sym next.1 ∙ is in absurd (cc);
      }
  keeps-more (Editor c) line earlier r own k suits some =
      let act = line.act in
      let n = k.counted c refl in
      let d = (finished_by_editor m rules makes act c r).1 in
      let more = more-box m rules c makes act r (of-kind false line earlier own k.kind suits) some in
      let one : done_by composes_one i (earlier ++ line ∷ []) ≡ composed_by i earlier + cond (composes_one act) 1 0 =
      done-more composes_one i earlier line ∙ ap (λ b. composed_by i earlier + cond (b && composes_one act) 1 0) (eq-eqb line.client i own) in
      let two : done_by gets_one i (earlier ++ line ∷ []) ≡ answered_by i earlier + cond (gets_one act) 1 0 =
      done-more gets_one i earlier line ∙ ap (λ b. answered_by i earlier + cond (b && gets_one act) 1 0) (eq-eqb line.client i own) in
      record {
        kind = k.kind;
        counted = λ e is. let same : d ≡ e = cc in (
          ap (λ (y : Client C Rules Doc Reason). length y.messages) (sym same) ∙ more.0 ∙ ap (λ j. j + cond (composes_one act) 1 0) n.0 ∙ sym one,
          ap (λ (y : Client C Rules Doc Reason). length y.answers) (sym same) ∙ more.1 ∙ ap (λ j. j + cond (gets_one act) 1 0) n.1 ∙ sym two,
        );
      }

  -- where there are answers enough, the message gets one, and there are enough for the others
  enough : (o : Option (Message C)) (answers : List (Answer C Rules Doc Reason)) (rest : List (Message C)) → length (with_message o rest) ≤ length answers
      → (is_some (answer_to o answers) ≡ is_some o) × (length rest ≤ length (answers_after o answers))
  enough None answers rest h = (refl, h)
  enough (Some q) [] rest h = absurd (omega (arith, h))
  enough (Some q) (r ∷ answers) rest h = (refl, omega (arith, h))

  -- Along the lines of a member that suit it the acts tell which present a message, where there are answers enough.
  pub tells : (x : Member C Rules Doc Reason) (earlier lines : List (Line Op C)) (answers : List (Answer C Rules Doc Reason)) → Keeps earlier x → Each (λ line. line.client ≡ i) lines → AllSuit raw earlier lines
      → length (works m rules makes lines x answers).messages ≤ length answers → Tells m rules makes lines x answers
  tells x earlier [] answers k own suit h = tt
  tells x earlier (line ∷ lines) answers k own suit h =
      let o = asked line.act x in
      let r = answer_to o answers in
      let next = (finished m rules makes line.act x r).1 in
      let known : is_some o ≡ presents line.act = first-tells x line earlier own.0 k suit.0 in
      let got = enough o answers (works m rules makes lines next (answers_after o answers)).messages h in
      (known, tells next (earlier ++ line ∷ []) lines (answers_after o answers) (keeps-more x line earlier r own.0 k suit.0 (got.0 ∙ known)) own.1 suit.1 got.1)
