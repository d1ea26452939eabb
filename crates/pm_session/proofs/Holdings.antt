-- A sound room holds what a room holds, and so do each line and each exchange.
use Rattle.std.specs.Prelude.{◌≡◌, ℕ, zero, suc, ◌+◌, ◌-◌, ◌<◌, ◌≤◌, Bool, true, false, List, [], ◌∷◌, length, take, slice_get, slice_set, Option, Some, None, Result, Ok, refl}
use Rattle.std.specs.declared.alloc.AllocError.{AllocError}
use Rattle.std.proofs.Common.{sym, ap, ◌∙◌, subst, arith, add-one, length-append}
use Rattle.std.proofs.Math.Seq.{take-append_seam}
use Rattle.pm_change.specs.Changes.{Meaning, Laws}
use Rattle.pm_change.proofs.Folds.{fold-good}
use Rattle.pm_change.specs.declared.no_step.NoStep.{NoStep}
use Rattle.pm_authority.specs.Presents.{presented}
use Rattle.pm_authority.specs.Runs.{AllApply, changes_of}
use Rattle.pm_authority.specs.declared.authority.Authority.{Authority}
use Rattle.pm_authority.specs.declared.message.Message.{Message}
use Rattle.pm_authority.specs.declared.message.Message.TheVariants.{Submit as SubmitMessage}
use Rattle.pm_authority.specs.declared.message.Answer.{Answer}
use Rattle.pm_authority.proofs.Presented.{present-causes, present-next}
use Rattle.pm_client.specs.declared.client.Client.{Client}
use Rattle.pm_client.specs.declared.taken.MessageKind.{MessageKind}
use Rattle.pm_client.specs.declared.taken.MessageKind.TheVariants.{Submit as Submission, Ask as Asking}
use Rattle.pm_client.specs.Clients.{named, message_of, message_at, composed, kept, taken}
use Rattle.pm_client.proofs.Keeps.{kin-composed}
use Rattle.pm_client.specs.Kins.{Kin}
use Rattle.pm_client.specs.Serials.{Parted}
use Rattle.pm_session.specs.declared.line.Act.{Act}
use Rattle.pm_session.specs.declared.line.Act.TheVariants.{Edit, Undo, Redo, UndoEvent, Cursor, Submit, Ask, Present, Take, Push, Pull, Forge, Enter}
use Rattle.pm_session.specs.declared.line.Line.{Line}
use Rattle.pm_session.specs.declared.member.Member.{Member}
use Rattle.pm_session.specs.declared.member.Member.TheVariants.{Editor, Raw}
use Rattle.pm_session.specs.declared.outcome.Outcome.{Outcome}
use Rattle.pm_session.specs.Answers.{Gets, AnsweredBy, AnsweredByRaw, MemberAnswered, LineHolds, IsExchanged, ExchangeHolds, BringingHolds, AllTurns, SettlingHolds}
use Rattle.pm_session.specs.Events.{State, placed, member_exchanges, acted, played}
use Rattle.pm_session.specs.Holding.{ClientHolds, RoomHolds}
use Rattle.pm_session.specs.Sessions.{session, exchanged, brought_up, in_turn}
use Rattle.pm_session.specs.Sounds.{Sound}
use Rattle.pm_session.specs.Standing.{CursorsStay}
use Rattle.pm_session.specs.Suits.{NamesOneOf, ActSuits, SuitsRoom, LinesSuit}
use Rattle.pm_session.proofs.Editors.{presents, exchanges_at, editor_acts, acted-editor}
use Rattle.pm_session.proofs.MemberMoves.{member-exchanged, moved-sound}
use Rattle.pm_session.proofs.Exchanges.{refuses-none}
use Rattle.pm_session.proofs.Playing.{suits-first, suits-rest, played-sound}
use Rattle.pm_session.proofs.Restorings.{played-restores}
use Rattle.pm_session.proofs.Rooms.{all-named, rests, placed-stays, exchanged-rested, played-stays}
use Rattle.pm_session.proofs.SoundLaws.{new-stands}
use Rattle.pm_session.proofs.Tellings.{found, told-member, tied-member, set-there, set-other}
use Rattle.pm_session.proofs.Turns.{exchanged-sound}
use Rattle.pm_session.proofs.Unrefused.{messages-none, played-none}

some-same : {A : Type 0} (x y : A) → Some x ≡ Some y → x ≡ y
some-same x y h = cc

module _ {Rules Doc Reason C : Type 0} (m : Meaning Rules Doc Reason C) (rules : Rules) (laws : Laws m) where
  client-holds : (a : Authority C Rules Doc Reason) (c : Client C Rules Doc Reason) → Kin m rules a.first a.log c → ClientHolds m rules a c
  client-holds a c kin =
      let t : take c.version a.log ≡ kin.before =
      ap (λ n. take n a.log) kin.version_is ∙ ap (take (length kin.before)) kin.log_is ∙ take-append_seam kin.before kin.past in
      let base : AllApply m rules a.first (take c.version a.log) c.base = subst (λ l. AllApply m rules a.first l c.base) (sym t) kin.base_is in
      let base_good = fold-good m rules laws a.first c.base (changes_of kin.before) kin.first_good kin.base_is in
      record {
        base_good = base_good;
        doc_good = fold-good m rules laws c.base c.doc (changes_of c.pending) base_good kin.doc_is;
        version_within = omega (arith, kin.version_is, ap length kin.log_is, length-append kin.before kin.past);
        base_is = base;
        doc_is = kin.doc_is;
        with_nothing_pending =
            λ none. subst (λ d. AllApply m rules a.first (take c.version a.log) d) (some-same c.base c.doc (subst (λ p. AllApply m rules c.base p c.doc) none kin.doc_is)) base;
        serials = subst (λ l. Parted c.name l c.pending c.dropped c.serials) (sym t) kin.parted;
      }

  -- a sound room holds all that a room holds
  pub room-holds : (s : State C Rules Doc Reason) → Sound m rules s → RoomHolds m rules s
  room-holds s sound = record {
    authority = sound.authority;
    clients = λ i c at. let stand = sound.stand i (Editor c) at in (stand.0, client-holds s.authority c stand.1.kin);
    names = sound.names;
    messages = messages-none m rules laws s sound;
    tokens = all-named m rules laws s sound;
    sound = sound;
  }

  -- what a message gets
  gets : (a : Authority C Rules Doc Reason) (message : Message C) → Gets m rules a message (presented m rules a message).0 (presented m rules a message).1
  gets a message =
      let p = presented m rules a message in
      let r : Result (Answer C Rules Doc Reason) AllocError = Ok p.0 in
      record { cause = λ x. present-causes m rules r a message refl x; next = present-next m rules r a p.1 message refl refl }

  module _ (a : Authority C Rules Doc Reason) (c : Client C Rules Doc Reason) where
    pushed : (lost : Bool) → AnsweredBy m rules {Op = ℕ} (Push lost) a c (exchanges_at m rules a c Submission lost).0 (exchanges_at m rules a c Submission lost).1
    pushed true = ((presented m rules a (message_of c Submission)).0, None, gets a (message_of c Submission), refl)
    pushed false =
        let p = presented m rules a (message_of c Submission) in
        (p.0, Some (taken m rules (kept (composed c Submission) p.0) p.0).0, gets a (message_of c Submission), refl)

    pulled : (lost : Bool) → AnsweredBy m rules {Op = ℕ} (Pull lost) a c (exchanges_at m rules a c Asking lost).0 (exchanges_at m rules a c Asking lost).1
    pulled true = ((presented m rules a (message_of c Asking)).0, None, gets a (message_of c Asking), refl)
    pulled false =
        let p = presented m rules a (message_of c Asking) in
        (p.0, Some (taken m rules (kept (composed c Asking) p.0) p.0).0, gets a (message_of c Asking), refl)

    presents-message : (j : ℕ) → (0 < j) × (j ≤ length c.messages)
        → AnsweredBy m rules {Op = ℕ} (Present j) a c (presents m rules a c (message_at c j)).0 (presents m rules a c (message_at c j)).1
    presents-message j named =
        let at = found c.messages j named.0 named.1 in
        let p = presented m rules a at.0 in
        rw at.1 (at.0, p.0, refl, gets a at.0, refl)

    acted-answered : {Op : Type 0} (makes : Doc → Op → Result (List C) NoStep) (act : Act Op C) → NamesOneOf (length c.messages) (length c.answers) act
        → AnsweredBy m rules act a c (editor_acts m rules makes a act c).0 (editor_acts m rules makes a act c).1
    acted-answered makes (Present j) named = presents-message j named
    acted-answered makes (Push lost) named = pushed lost
    acted-answered makes (Pull lost) named = pulled lost
    acted-answered makes (Edit op event) named = refl
    acted-answered makes Undo named = refl
    acted-answered makes Redo named = refl
    acted-answered makes (UndoEvent number) named = refl
    acted-answered makes (Cursor p side) named = refl
    acted-answered makes Submit named = refl
    acted-answered makes Ask named = refl
    acted-answered makes (Take n) named = refl
    acted-answered makes (Forge version steps) named = refl
    acted-answered makes Enter named = refl

  raw-answered : {Op : Type 0} (makes : Doc → Op → Result (List C) NoStep) (a : Authority C Rules Doc Reason) (name serial : ℕ) (act : Act Op C)
      → AnsweredByRaw m rules act a name serial (acted m rules makes a act (Raw name serial)).0 (acted m rules makes a act (Raw name serial)).1
  raw-answered makes a name serial (Forge version steps) =
      let message = SubmitMessage version (named name (serial + 1) steps) in
      ((presented m rules a message).0, gets a message, refl)
  raw-answered makes a name serial (Edit op event) = refl
  raw-answered makes a name serial Undo = refl
  raw-answered makes a name serial Enter = refl
  raw-answered makes a name serial Redo = refl
  raw-answered makes a name serial (UndoEvent number) = refl
  raw-answered makes a name serial (Cursor p side) = refl
  raw-answered makes a name serial Submit = refl
  raw-answered makes a name serial Ask = refl
  raw-answered makes a name serial (Present j) = refl
  raw-answered makes a name serial (Take n) = refl
  raw-answered makes a name serial (Push lost) = refl
  raw-answered makes a name serial (Pull lost) = refl

  member-answered : {Op : Type 0} (makes : Doc → Op → Result (List C) NoStep) (a : Authority C Rules Doc Reason) (x : Member C Rules Doc Reason) (act : Act Op C) → ActSuits x act
      → MemberAnswered m rules act a x (acted m rules makes a act x).0 (acted m rules makes a act x).1
  member-answered makes a (Raw name serial) act suits = raw-answered makes a name serial act
  member-answered makes a (Editor c) act suits =
      subst (λ p. AnsweredBy m rules act a c p.0 p.1) (sym (acted-editor m rules makes a act c)) (acted-answered a c makes act suits.1)

  exchanged-stays : (kind : MessageKind) (i : ℕ) (s : State C Rules Doc Reason) → Sound m rules s → CursorsStay m s (exchanged m rules kind i s)
  exchanged-stays kind i s sound = from (slice_get s.members i) refl
    where
      from : (o : Option (Member C Rules Doc Reason)) → slice_get s.members i ≡ o → CursorsStay m s (exchanged m rules kind i s)
      from None e = rw (exchanged, e) (rests m rules laws s sound)
      from (Some x) e =
          let p = member_exchanges m rules s.authority kind x in
          let stand = sound.stand i x e in
          let moved = member-exchanged m rules laws s.authority sound.authority kind x stand.1 in
          let end : Sound m rules (placed s i p.1 p.2) = moved-sound m rules laws s sound i x e p.1 p.2 moved in
          let stays = placed-stays m rules laws s sound i x e p.1 p.2 end moved.more moved.log_is (exchanged-rested m rules laws s.authority sound.authority kind x stand.1) in
          rw (exchanged, e) stays

  -- what is set where it stands
  set-same : {A : Type 0} (xs : List A) (i : ℕ) (x : A) → slice_get xs i ≡ Some x → slice_set xs i x ≡ xs
  set-same [] i x e = absurd (cc)
  set-same (y ∷ ys) zero x e = let same : y ≡ x = cc in ap (λ z. z ∷ ys) (sym same)
  set-same (y ∷ ys) (suc i) x e = ap (λ l. y ∷ l) (set-same ys i x e)

  -- a raw client is passed by
  passed : (kind : MessageKind) (i : ℕ) (s : State C Rules Doc Reason) (name serial : ℕ) → slice_get s.members i ≡ Some (Raw name serial) → exchanged m rules kind i s ≡ s
  passed kind i s name serial at =
      let same : placed s i s.authority (Raw name serial) ≡ s = ap (λ l. record { authority = s.authority; members = l }) (set-same s.members i (Raw name serial) at) in
      rw (exchanged, at) same

  pub exchange-holds : (kind : MessageKind) (i : ℕ) (s : State C Rules Doc Reason) → Sound m rules s → ExchangeHolds m rules kind i s (exchanged m rules kind i s)
  exchange-holds kind i s sound = record {
    answered = λ c at.
        let message = message_of c kind in
        let kin = (sound.stand i (Editor c) at).1.kin in
        let is : IsExchanged m rules kind s.authority c (presented m rules s.authority message).1 = record {
          answer = (presented m rules s.authority message).0;
          gets = gets s.authority message;
          unrefused = refuses-none m rules laws s.authority sound.authority (composed c kind) (kin-composed m rules s.authority.first s.authority.log c kin kind) message (new-stands m rules laws c kind);
        } in
        rw (exchanged, at) is;
    passed_by = λ name serial at. passed kind i s name serial at;
    cursors = exchanged-stays kind i s sound;
    room = room-holds (exchanged m rules kind i s) (exchanged-sound m rules laws kind i s sound);
  }

  module _ {Op : Type 0} (makes : Doc → Op → Result (List C) NoStep) where
    line-holds : (s : State C Rules Doc Reason) → Sound m rules s → (line : Line Op C) → SuitsRoom s line
        → LineHolds m rules s line (played m rules makes s line).0 (played m rules makes s line).1
    line-holds s sound line suits =
        let x = suits.member in
        let p = acted m rules makes s.authority line.act x in
        let told = told-member m rules laws makes s.authority sound.authority line.act x (sound.stand line.client x suits.at).1 suits.suits in
        record {
          member = x;
          at = suits.at;
          answered = rw suits.at (member-answered makes s.authority suits.member line.act suits.suits);
          next = p.2;
          next_at = rw suits.at (set-there s.members line.client p.2 x suits.at);
          told = rw suits.at told;
          others = λ i other. rw suits.at (set-other s.members line.client i p.2 other);
          tied = rw suits.at (tied-member m rules makes s.authority line.act x);
          unrefused = played-none m rules laws makes s sound line suits;
          cursors = played-stays m rules laws makes s sound line suits;
          restores = played-restores m rules laws makes s line;
        }

    -- line k of a session has an outcome, from the room after k lines to the one after one line more
    pub session-lines : (s : State C Rules Doc Reason) (lines : List (Line Op C)) → Sound m rules s → LinesSuit s lines → (k : ℕ) (line : Line Op C) → slice_get lines k ≡ Some line
        → (o : Outcome C Rules Doc Reason) × (slice_get (session m rules makes s lines).0 k ≡ Some o)
        × LineHolds m rules (session m rules makes s (take k lines)).1 line o (session m rules makes s (take (k + 1) lines)).1
    session-lines s lines sound suit k line at = rw add-one (by-lines s lines sound suit k at)
      where
        take-zero : {A : Type 0} (xs : List A) → take 0 xs ≡ []
        take-zero [] = refl
        take-zero (x ∷ xs) = refl

        by-lines : (s : State C Rules Doc Reason) (lines : List (Line Op C)) → Sound m rules s → LinesSuit s lines → (k : ℕ) → slice_get lines k ≡ Some line
            → (o : Outcome C Rules Doc Reason) × (slice_get (session m rules makes s lines).0 k ≡ Some o)
            × LineHolds m rules (session m rules makes s (take k lines)).1 line o (session m rules makes s (take (suc k) lines)).1
        by-lines s [] sound suit k at = absurd (cc)
        by-lines s (first ∷ lines) sound suit zero at =
            let same : first ≡ line = some-same first line at in
            let p = played m rules makes s first in (
              p.0,
              refl,
              subst (λ (l : Line Op C). LineHolds m rules s l p.0 (session m rules makes p.1 (take 0 lines)).1) same
                  (subst (λ ls. LineHolds m rules s first p.0 (session m rules makes p.1 ls).1) (sym (take-zero lines))
                  (line-holds s sound first (suits-first m rules laws makes s sound first lines suit))),
            )
        by-lines s (first ∷ lines) sound suit (suc k) at =
            by-lines (played m rules makes s first).1 lines (played-sound m rules laws makes s sound first (suits-first m rules laws makes s sound first lines suit))
            (suits-rest m rules laws makes s sound first lines suit) k at

    turns-hold : (holds : ℕ → State C Rules Doc Reason → State C Rules Doc Reason → Type 0) (does : ℕ → State C Rules Doc Reason → State C Rules Doc Reason)
        → ((i : ℕ) (s : State C Rules Doc Reason) → Sound m rules s → holds i s (does i s) × Sound m rules (does i s))
        → (k n : ℕ) (s : State C Rules Doc Reason) → Sound m rules s → AllTurns m rules holds does k n s × Sound m rules (in_turn does k n s)
    turns-hold holds does keeps k zero s sound = (tt, sound)
    turns-hold holds does keeps k (suc n) s sound =
        let one = keeps k s sound in
        let rest = turns-hold holds does keeps (k + 1) n (does k s) one.1 in
        ((one.0, rest.0), rest.1)

    -- a sound room settles so
    pub settling-holds : (s : State C Rules Doc Reason) → Sound m rules s → SettlingHolds m rules s
    settling-holds s sound =
        let n = length s.members in
        let up = turns-hold (BringingHolds m rules) (brought_up m rules)
        (λ i t h.
        let asked = exchanged-sound m rules laws Asking i t h in
        (record { asks = exchange-holds Asking i t h; submits = exchange-holds Submission i (exchanged m rules Asking i t) asked }, exchanged-sound m rules laws Submission i (exchanged m rules Asking i t) asked))
        0 n s sound in
        let last = turns-hold (ExchangeHolds m rules Asking) (exchanged m rules Asking)
        (λ i t h. (exchange-holds Asking i t h, exchanged-sound m rules laws Asking i t h)) 0 n (in_turn (brought_up m rules) 0 n s) up.1 in
        record { up = up.0; last = last.0 }
