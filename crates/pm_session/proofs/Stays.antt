-- Each line keeps cursors before their tokens.
use Rattle.std.specs.Prelude.{◌≡◌, ℕ, zero, suc, ◌+◌, ◌-◌, ◌≤◌, ◌==◌, nat_lt, if◌then◌else◌, Bool, true, false, List, [], ◌∷◌, ◌++◌, length, take, drop, slice_get, Option, Some, None, Result, Ok, Err, refl}
use Rattle.std.proofs.Common.{sym, ap, ◌∙◌, subst, inl, inr, arith, append_assoc, append-nil}
use Rattle.std.proofs.Math.Seq.{take-append-add, take-append_seam}
use Rattle.std.proofs.lemmas.List.{take-append-drop}
use Rattle.pm_map.specs.declared.side.Side.{Side}
use Rattle.pm_map.specs.declared.side.Side.TheVariants.{After}
use Rattle.pm_change.specs.Changes.{Meaning, Laws}
use Rattle.pm_change.specs.declared.no_step.NoStep.{NoStep}
use Rattle.pm_change.specs.declared.no_step.NoStep.TheVariants.{Range}
use Rattle.pm_history.specs.declared.branch.Event.{Event}
use Rattle.pm_history.specs.declared.turn.Turn.{Turn}
use Rattle.pm_history.specs.declared.turn.Turn.TheVariants as turn
use Rattle.pm_history.specs.Turns.{event_for}
use Rattle.pm_change.proofs.Folds.{fold-good}
use Rattle.pm_authority.specs.declared.named.Named.{Named}
use Rattle.pm_authority.specs.declared.authority.Authority.{Authority}
use Rattle.pm_authority.specs.declared.running.Refusal.{Refusal}
use Rattle.pm_authority.specs.declared.message.Message.{Message}
use Rattle.pm_authority.specs.declared.message.Message.TheVariants.{Submit as SubmitMessage, Ask as AskMessage}
use Rattle.pm_authority.specs.declared.message.Answer.{Answer}
use Rattle.pm_authority.specs.declared.message.Answer.TheVariants.{WrongVersion}
use Rattle.pm_authority.specs.Kept.{IsKept}
use Rattle.pm_authority.specs.Runs.{run, changes_of}
use Rattle.pm_authority.specs.Presents.{tried, presented}
use Rattle.pm_client.specs.declared.client.Client.{Client}
use Rattle.pm_client.specs.declared.taken.MessageKind.{MessageKind}
use Rattle.pm_client.specs.declared.taken.MessageKind.TheVariants.{Submit as Submission, Ask as Asking}
use Rattle.pm_client.specs.Clients.{edited, turned_if, cursor_set, message_of, message_at, composed, kept, taken, taken_at, taken_if, answer_at}
use Rattle.pm_client.specs.Kins.{Kin}
use Rattle.pm_client.specs.Serials.{serials_of, own_serials}
use Rattle.pm_client.specs.TokenNames.{Token, Has, first_names, names_after, AllDiffer, passed, MayName, KeepsTokens}
use Rattle.pm_client.proofs.TokenLeads.{names-append}
use Rattle.pm_client.proofs.TokenKeeps.{edited-keeps, taken-keeps}
use Rattle.pm_client.proofs.Turns.{turned-keeps}
use Rattle.pm_client.specs.Cursors.{cursor}
use Rattle.pm_session.specs.declared.line.Act.{Act}
use Rattle.pm_session.specs.declared.line.Act.TheVariants.{Edit, Undo, Redo, UndoEvent, Cursor, Submit, Ask, Present, Take, Push, Pull, Forge, Enter}
use Rattle.pm_session.specs.declared.outcome.Outcome.{Outcome}
use Rattle.pm_session.specs.declared.outcome.Outcome.TheVariants.{NoStep as NoneMade, CursorAt}
use Rattle.pm_session.specs.Events.{edits, turns, sets, made}
use Rattle.pm_session.proofs.Editors.{presents, exchanges_at, editor_acts, AsWas, WasPresenting, WasExchanging, EditorLeft}
use Rattle.pm_session.specs.Standing.{tokens_of, AreNamed, NonePinched}
use Rattle.pm_session.proofs.Keeping.{edited-on, taken-one, taken-last}
use Rattle.pm_session.proofs.Moves.{given-moved}
use Rattle.pm_session.proofs.Namings.{length-first, once-first, none-first, Apart, apart-front, differ-append, differ-front, differ-back, differ-parts, none-after, rises-differ, rises-back, apart-own, Fresh, fresh-after}

module _ {Rules Doc Reason C : Type 0} (m : Meaning Rules Doc Reason C) (rules : Rules) where
  -- ---- the names of one client's tokens

  -- the log that a client stands to, as what is before its version and past it
  pub before-is : (first : Doc) (log more : List (Named C)) (c : Client C Rules Doc Reason) (kin : Kin m rules first log c) → take c.version (log ++ more) ≡ kin.before
  before-is first log more c kin =
      rw (kin.log_is, kin.version_is, append_assoc) (take-append_seam kin.before (kin.past ++ more))

  -- the steps of a client's timeline have names that differ
  pub pending-apart : (first : Doc) (log : List (Named C)) (c : Client C Rules Doc Reason) (kin : Kin m rules first log c) → Apart kin.before c.pending
  pending-apart first log c kin = apart-own c.name kin.before c.pending kin.own kin.parted.rise

  module _ (laws : Laws m) (first : Doc) (log : List (Named C)) (c : Client C Rules Doc Reason) (kin : Kin m rules first log c) (differ : AllDiffer log) where
    before-differ : AllDiffer kin.before
    before-differ = differ-front kin.before kin.past (subst AllDiffer kin.log_is differ)

    pub timeline-differ : AllDiffer (kin.before ++ c.pending)
    timeline-differ =
        differ-append kin.before c.pending before-differ
        (rises-differ c.pending (rises-back (own_serials c.name kin.before) (serials_of c.pending) kin.parted.rise)) (pending-apart first log c kin)

    -- the names of the base's tokens
    pub base-fresh : Fresh m rules laws c.base c.pending (names_after m (first_names (m.size first)) kin.before)
    base-fresh =
        fresh-after m rules laws first c.base kin.before c.pending (first_names (m.size first)) kin.first_good kin.base_is timeline-differ
        (record { size = length-first 0 (m.size first); once = once-first 0 (m.size first); none = none-first (kin.before ++ c.pending) 0 (m.size first) })

    base-good : m.is_good rules c.base
    base-good = fold-good m rules laws first c.base (changes_of kin.before) kin.first_good kin.base_is

    pub client-named : (doc : Doc) → AreNamed m (record { first = first; doc = doc; log = log }) c
    client-named doc =
        let at : take c.version log ≡ kin.before = ap (take c.version) (sym (append-nil log)) ∙ before-is first log [] c kin in
        let pending : List (Named C) = c.pending in
        let all = fresh-after m rules laws c.base c.doc pending [] (names_after m (first_names (m.size first)) kin.before) base-good kin.doc_is
        (subst AllDiffer (sym (append-nil pending)) (differ-back kin.before pending timeline-differ))
        (subst (λ l. Fresh m rules laws c.base l (names_after m (first_names (m.size first)) kin.before)) (sym (append-nil pending)) base-fresh) in
        let is : names_after m (first_names (m.size first)) (take c.version log ++ pending) ≡ names_after m (names_after m (first_names (m.size first)) kin.before) pending =
        ap (λ l. names_after m (first_names (m.size first)) (l ++ pending)) at ∙ names-append m (first_names (m.size first)) kin.before pending in
        record { each = ap length is ∙ all.size; once = rw is all.once }

  -- ---- a client and what it becomes

  module _ (laws : Laws m) (a new : Authority C Rules Doc Reason) (first : new.first ≡ a.first) (more : List (Named C)) (log_is : new.log ≡ a.log ++ more)
      (differ : AllDiffer new.log) (c d : Client C Rules Doc Reason) (kin : Kin m rules a.first a.log c) (next : Kin m rules new.first new.log d)
      (rises : c.version ≤ d.version) where
    abbrev gone : List (Named C)
    gone = passed new.log c.version d.version

    -- what is before the later version is what is before the earlier one, and then what was passed
    gone-is : next.before ≡ kin.before ++ gone
    gone-is =
        let front : take c.version new.log ≡ kin.before = ap (take c.version) log_is ∙ before-is a.first a.log more c kin in
        let whole : new.log ≡ kin.before ++ drop c.version new.log = sym (take-append-drop c.version new.log) ∙ ap (λ l. l ++ drop c.version new.log) front in
        let n : d.version ≡ length kin.before + (d.version - c.version) = omega (arith, rises, kin.version_is) in
        sym (ap (take d.version) (sym (append-nil new.log)) ∙ before-is new.first new.log [] d next)
        ∙ ap (λ l. take d.version l) whole ∙ ap (λ k. take k (kin.before ++ drop c.version new.log)) n
        ∙ take-append-add kin.before (drop c.version new.log) (d.version - c.version)

    pub stays-before : KeepsTokens m new.log c d (m.size c.base) → NonePinched m new c d → (j p : ℕ) (x : Token) → slice_get c.cursors j ≡ Some (cursor p After)
        → slice_get (tokens_of m a c) p ≡ Some x → Has (tokens_of m new d) x → (q : ℕ) × (slice_get d.cursors j ≡ Some (cursor q After)) × (slice_get (tokens_of m new d) q ≡ Some x)
    stays-before keeps unpinched j p x at was has =
        let start : List Token = first_names (m.size a.first) in
        let base : List Token = names_after m start kin.before in
        let gone_differ : AllDiffer (kin.before ++ gone) = subst AllDiffer gone-is (differ-front next.before next.past (subst AllDiffer next.log_is differ)) in
        let fresh = base-fresh laws a.first a.log c kin (differ-front a.log more (subst AllDiffer log_is differ)) in
        let made : Apart (kin.before ++ gone) d.pending = subst (λ l. Apart l d.pending) gone-is (pending-apart new.first new.log d next) in
        let may : MayName m new.log c d (m.size c.base) base =
        record {
          size = fresh.size;
          once = fresh.once;
          past = none-after m kin.before gone start (differ-parts kin.before gone gone_differ) (none-first gone 0 (m.size a.first));
          pending = fresh.none;
          made = none-after m kin.before d.pending start (apart-front kin.before gone d.pending made) (none-first d.pending 0 (m.size a.first));
          differ = differ-back kin.before gone gone_differ;
          unpinched = unpinched;
        } in
        let old : tokens_of m a c ≡ names_after m base c.pending =
        ap (λ l. names_after m start (l ++ c.pending)) (ap (take c.version) (sym (append-nil a.log)) ∙ before-is a.first a.log [] c kin)
        ∙ names-append m start kin.before c.pending in
        let now : tokens_of m new d ≡ names_after m (names_after m base gone) d.pending =
        ap (λ (f : Doc). names_after m (first_names (m.size f)) (take d.version new.log ++ d.pending)) first
        ∙ ap (λ l. names_after m start (l ++ d.pending)) (ap (take d.version) (sym (append-nil new.log)) ∙ before-is new.first new.log [] d next ∙ gone-is)
        ∙ names-append m start (kin.before ++ gone) d.pending ∙ ap (λ l. names_after m l d.pending) (names-append m start kin.before gone) in
        let r = keeps base may j p x at (ap (λ l. slice_get l p) (sym old) ∙ was) (has.0, ap (λ l. slice_get l has.0) (sym now) ∙ has.1) in
        (r.0, r.1, ap (λ l. slice_get l r.0) now ∙ r.2)

-- ---- what a client becomes by an act

module _ {Rules Doc Reason C : Type 0} (m : Meaning Rules Doc Reason C) (log : List (Named C)) (c d : Client C Rules Doc Reason) where
  -- the client has the same version, the same pending steps and its cursors
  pub record Same : Type 0 where
    pub version : d.version ≡ c.version
    pub pending : d.pending ≡ c.pending
    pub cursors : (i p : ℕ) → slice_get c.cursors i ≡ Some (cursor p After) → slice_get d.cursors i ≡ Some (cursor p After)

  pub same-keeps : Same → (n : ℕ) → KeepsTokens m log c d n
  same-keeps same n names may i p t at before after = (p, same.cursors i p at, rw (none, same.pending) before)
    where
      take-none : (xs : List (Named C)) → take 0 xs ≡ []
      take-none [] = refl
      take-none (x ∷ xs) = refl

      none : passed log c.version d.version ≡ []
      none = let z : d.version - c.version ≡ 0 = omega (arith, same.version) in rw z (take-none (drop c.version log))

get-front : {A : Type 0} (xs ys : List A) (i : ℕ) (x : A) → slice_get xs i ≡ Some x → slice_get (xs ++ ys) i ≡ Some x
get-front [] ys i x h = absurd (cc)
get-front (y ∷ xs) ys zero x h = h
get-front (y ∷ xs) ys (suc i) x h = get-front xs ys i x h

module _ {Rules Doc Reason C : Type 0} (m : Meaning Rules Doc Reason C) (rules : Rules) where
  -- a message leaves the first document
  pub presented-first : (a : Authority C Rules Doc Reason) (message : Message C) → (presented m rules a message).1.first ≡ a.first
  presented-first a (AskMessage version) = refl
  presented-first a (SubmitMessage version steps) = by-test (version == length a.log)
    where
      by-run : (r : Result Doc (Refusal Reason)) → (tried m rules a steps r).1.first ≡ a.first
      by-run (Ok end) = refl
      by-run (Err e) = refl

      by-test : (t : Bool) → (if t then tried m rules a steps (run m rules a.doc 0 steps) else (WrongVersion (length a.log), a)).1.first ≡ a.first
      by-test false = refl
      by-test true = by-run (run m rules a.doc 0 steps)

  module _ (laws : Laws m) (a : Authority C Rules Doc Reason) (stood : IsKept m rules a) (c : Client C Rules Doc Reason) (kin : Kin m rules a.first a.log c) where
    -- The client became the next one and the authority the new one, and its cursors stayed.
    pub record Stayed (new : Authority C Rules Doc Reason) (next : Client C Rules Doc Reason) : Type 0 where
      pub keeps : KeepsTokens m new.log c next (m.size c.base)
      pub rises : c.version ≤ next.version
      pub first : new.first ≡ a.first

    same-stayed : (new : Authority C Rules Doc Reason) (next : Client C Rules Doc Reason) → Same m new.log c next → new.first ≡ a.first → Stayed new next
    same-stayed new next same first =
        record { keeps = same-keeps m new.log c next same (m.size c.base); rises = omega (arith, same.version); first = first }

    unmoved : Stayed a c
    unmoved = same-stayed a c (record { version = refl; pending = refl; cursors = λ i p h. h }) refl

    edits-stayed : (event : Option ℕ) (r : Result (List C) NoStep) → Stayed a (edits m rules c event r).1
    edits-stayed event (Err reason) = unmoved
    edits-stayed event (Ok steps) = from (edited m rules c steps event) refl
      where
        version : (next : Client C Rules Doc Reason) → edited m rules c steps event ≡ Ok next → c.version ≤ next.version
        version next h =
            let e : c.version ≡ next.version = ap (λ (x : Client C Rules Doc Reason). x.version) (edited-on m rules c steps event next h).2 in
            omega (arith, e)

        from : (r : Result (Client C Rules Doc Reason) (Refusal Reason)) → edited m rules c steps event ≡ r → Stayed a (made c steps r).1
        from (Ok next) e = record { keeps = edited-keeps m rules laws a.first a.log c kin steps event next e; rises = version next e; first = refl }
        from (Err r) e = unmoved

    turns-stayed : (way : Turn) → Stayed a (turns c (turned_if m rules c way (event_for way c.history))).1
    turns-stayed way = from (event_for way c.history) refl
      where
        from : (o : Option Event) → event_for way c.history ≡ o → Stayed a (turns c (turned_if m rules c way o)).1
        from None e = unmoved
        from (Some event) e = record { keeps = turned-keeps m rules laws a.first a.log c kin way event e; rises = omega arith; first = refl }

    sets-stayed : (p : ℕ) (side : Side) → Stayed a (sets m c p side).1
    sets-stayed p side = from (nat_lt (m.size c.doc) p)
      where
        chosen : Bool → Outcome C Rules Doc Reason × Client C Rules Doc Reason
        chosen b = if b then (NoneMade Range, c) else (CursorAt p, cursor_set c p side)

        from : (b : Bool) → Stayed a (chosen b).1
        from true = unmoved
        from false = same-stayed a (cursor_set c p side) (record { version = refl; pending = refl; cursors = λ i q h. get-front c.cursors (cursor p side ∷ []) i (cursor q After) h }) refl

    composed-stayed : (kind : MessageKind) → Stayed a (composed c kind)
    composed-stayed kind = same-stayed a (composed c kind) (record { version = refl; pending = refl; cursors = λ i p h. h }) refl

    presented-stayed : (message : Message C) → Stayed (presented m rules a message).1 c
    presented-stayed message =
        same-stayed (presented m rules a message).1 c (record { version = refl; pending = refl; cursors = λ i p h. h }) (presented-first a message)

    kept-stayed : (message : Message C) → Stayed (presented m rules a message).1 (kept c (presented m rules a message).0)
    kept-stayed message =
        let p = presented m rules a message in
        same-stayed p.1 (kept c p.0) (record { version = refl; pending = refl; cursors = λ i q h. h }) (presented-first a message)

    sent-stayed : (kind : MessageKind) → Stayed (presented m rules a (message_of c kind)).1 (composed c kind)
    sent-stayed kind =
        let p = presented m rules a (message_of c kind) in
        same-stayed p.1 (composed c kind) (record { version = refl; pending = refl; cursors = λ i q h. h }) (presented-first a (message_of c kind))

    given-stayed : (kind : MessageKind) → Stayed (presented m rules a (message_of c kind)).1 (kept (composed c kind) (presented m rules a (message_of c kind)).0)
    given-stayed kind =
        let p = presented m rules a (message_of c kind) in
        same-stayed p.1 (kept (composed c kind) p.0) (record { version = refl; pending = refl; cursors = λ i q h. h }) (presented-first a (message_of c kind))

    -- an answer never takes the version back
    taken-rises : (d : Client C Rules Doc Reason) (x : Answer C Rules Doc Reason) → d.version ≤ (taken m rules d x).1.version
    taken-rises d x =
        taken-one m rules d (λ e. d.version ≤ e.version) (omega arith) (λ k base. omega arith) (λ own foreign base. omega arith) x

    takes-stayed : (n : ℕ) → Stayed a (taken_at m rules c n).1
    takes-stayed n = record { keeps = taken-keeps m rules laws a.first a.log c kin n; rises = from (answer_at c n); first = refl }
      where
        from : (o : Option (Answer C Rules Doc Reason)) → c.version ≤ (taken_if m rules c o).1.version
        from None = omega arith
        from (Some x) = taken-rises c x

    pub exchanges-stayed : (kind : MessageKind) (lost : Bool) → Stayed (exchanges_at m rules a c kind lost).1 (exchanges_at m rules a c kind lost).2
    exchanges-stayed kind true = given-stayed kind
    exchanges-stayed kind false =
        let p = presented m rules a (message_of c kind) in
        let keeper : Client C Rules Doc Reason = kept (composed c kind) p.0 in
        let stands = (given-moved m rules laws a stood c kin kind).after.own in
        let last : taken_at m rules keeper (length c.answers + 1) ≡ taken m rules keeper p.0 = taken-last m rules (composed c kind) p.0 (length c.answers + 1) refl in
        record {
          keeps = λ names may i q t at before after.
              (rw last at (taken-keeps m rules laws p.1.first p.1.log keeper stands (length c.answers + 1))) names
              (record {
                size = may.size;
                once = may.once;
                past = may.past;
                pending = may.pending;
                made = may.made;
                differ = may.differ;
                unpinched = may.unpinched;
              })
              i q t at before after;
          rises = taken-rises keeper p.0;
          first = presented-first a (message_of c kind);
        }

    presents-stayed : (o : Option (Message C)) → Stayed (presents m rules a c o).1 (presents m rules a c o).2
    presents-stayed None = unmoved
    presents-stayed (Some message) = kept-stayed message

    as-was : (p : Authority C Rules Doc Reason × Client C Rules Doc Reason) → AsWas m rules a c p → Stayed p.0 p.1
    as-was p e = subst (λ (q : Authority C Rules Doc Reason × Client C Rules Doc Reason). Stayed q.0 q.1) (sym e) unmoved

    exchanging : (kind : MessageKind) (p : Authority C Rules Doc Reason × Client C Rules Doc Reason) → WasExchanging m rules a c kind p → Stayed p.0 p.1
    exchanging kind p (inl e) = as-was p e
    exchanging kind p (inr (inl e)) = subst (λ (q : Authority C Rules Doc Reason × Client C Rules Doc Reason). Stayed q.0 q.1) (sym e) (composed-stayed kind)
    exchanging kind p (inr (inr (inl e))) = subst (λ (q : Authority C Rules Doc Reason × Client C Rules Doc Reason). Stayed q.0 q.1) (sym e) (sent-stayed kind)
    exchanging kind p (inr (inr (inr e))) = subst (λ (q : Authority C Rules Doc Reason × Client C Rules Doc Reason). Stayed q.0 q.1) (sym e) (given-stayed kind)

    presenting : (x : Message C) (p : Authority C Rules Doc Reason × Client C Rules Doc Reason) → WasPresenting m rules a c x p → Stayed p.0 p.1
    presenting x p (inl e) = as-was p e
    presenting x p (inr e) = subst (λ (q : Authority C Rules Doc Reason × Client C Rules Doc Reason). Stayed q.0 q.1) (sym e) (presented-stayed x)

    module _ {Op : Type 0} where
      pub acted-stayed : (makes : Doc → Op → Result (List C) NoStep) (act : Act Op C) → Stayed (editor_acts m rules makes a act c).1 (editor_acts m rules makes a act c).2
      acted-stayed makes (Edit op event) = edits-stayed event (makes c.doc op)
      acted-stayed makes Undo = turns-stayed turn.Undo
      acted-stayed makes Redo = turns-stayed turn.Redo
      acted-stayed makes (UndoEvent number) = turns-stayed (turn.UndoEvent number)
      acted-stayed makes (Cursor p side) = sets-stayed p side
      acted-stayed makes Submit = composed-stayed Submission
      acted-stayed makes Ask = composed-stayed Asking
      acted-stayed makes (Present j) = presents-stayed (message_at c j)
      acted-stayed makes (Take n) = takes-stayed n
      acted-stayed makes (Push lost) = exchanges-stayed Submission lost
      acted-stayed makes (Pull lost) = exchanges-stayed Asking lost
      acted-stayed makes (Forge version steps) = unmoved
      acted-stayed makes Enter = unmoved

      -- and so it is where an act ran out of memory
      pub left-stayed : (act : Act Op C) (p : Authority C Rules Doc Reason × Client C Rules Doc Reason) → EditorLeft m rules a c act p → Stayed p.0 p.1
      left-stayed (Edit op event) p h = as-was p h
      left-stayed Undo p h = as-was p h
      left-stayed Redo p h = as-was p h
      left-stayed (UndoEvent number) p h = as-was p h
      left-stayed (Cursor place side) p h = as-was p h
      left-stayed Submit p h = as-was p h
      left-stayed Ask p h = as-was p h
      left-stayed (Present j) p h = presenting h.0 p h.2
      left-stayed (Take n) p h = as-was p h
      left-stayed (Push lost) p h = exchanging Submission p h
      left-stayed (Pull lost) p h = exchanging Asking p h
      left-stayed (Forge version steps) p h = as-was p h
      left-stayed Enter p h = as-was p h
