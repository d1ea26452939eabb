-- Each call keeps how its client stands to the log, and each growth of the log keeps it too.
use Rattle.std.specs.Prelude.{◌≡◌, ℕ, ◌+◌, ◌≤◌, ◌<◌, ◌⊎◌, true, false, nat_lt, List, [], ◌∷◌, ◌++◌, length, drop, Option, Some, Result, Ok, Err, refl}
use Rattle.std.proofs.Common.{sym, subst, ap, ◌∙◌, inl, inr, arith, length-append, append_assoc, append-nil}
use Rattle.std.proofs.Math.Seq.{drop-append_seam}
use Rattle.std.proofs.lemmas.List.Elements.{All-from_recursion}
use Rattle.std.proofs.lemmas.Bool.{ltb-true, ltb-false}
use Rattle.std.specs.List.{AllByRecursion as Each}
use Rattle.pm_map.specs.declared.side.Side.{Side}
use Rattle.pm_change.specs.Changes.{Meaning, Laws, fold}
use Rattle.pm_change.proofs.Folds.{fold-append, fold-good}
use Rattle.pm_authority.specs.declared.named.Named.{Named}
use Rattle.pm_authority.specs.declared.running.Refusal.{Refusal}
use Rattle.pm_authority.specs.declared.message.Message.{Message}
use Rattle.pm_authority.specs.declared.message.Message.TheVariants.{Submit, Ask}
use Rattle.pm_authority.specs.declared.message.Answer.{Answer}
use Rattle.pm_authority.specs.declared.message.Answer.TheVariants.{Accepted, WrongVersion, StepRefused, Entries}
use Rattle.pm_authority.specs.Runs.{run, changes_of, AllApply}
use Rattle.pm_authority.proofs.RunFolds.{changes-append, run-fold}
use Rattle.pm_history.specs.declared.branches.Branches.{Branches}
use Rattle.pm_history.specs.declared.branches.MadeBy.TheVariants.{Edit}
use Rattle.pm_history.specs.Histories.{noted_all}
use Rattle.pm_history.specs.Trims.{trimmed}
use Rattle.pm_history.specs.Timelines.{Step, changes_of as steps_changes, items_from}
use Rattle.pm_history.specs.Standing.{IsHistoryOf}
use Rattle.pm_history.proofs.Grows.{history-new}
use Rattle.pm_history.proofs.Carried.{both-fold}
use Rattle.pm_history.proofs.Trimmings.{history-trimmed}
use Rattle.pm_history.proofs.Calls.{history-call}
use Rattle.pm_client.specs.declared.client.Client.{Client}
use Rattle.pm_client.specs.declared.taken.MessageKind.{MessageKind}
use Rattle.pm_client.specs.declared.taken.MessageKind.TheVariants.{Submit as ToSubmit, Ask as ToAsk}
use Rattle.pm_client.specs.Clients.{named, new_client, gone_on, tried, edited, message_of, composed, kept, forgotten, confirmed, brought, cursor_set}
use Rattle.pm_client.specs.Kins.{IsOwn, IsForeign, IsPrefix, IsPart, MessageStands, AnswerStands, Past, Kin}
use Rattle.pm_client.proofs.Lists.{All-more, All-push, Each-append, Each-front, Each-back, nothing}
use Rattle.pm_client.specs.Serials.{Parted, Rises, own_serials, serials_of, merged}
use Rattle.pm_client.specs.Rebases.{Rebasing, maps_of, start, rebased}
use Rattle.pm_client.specs.Cursors.{cursor, IsWithin}
use Rattle.pm_client.proofs.RebaseLaws.{maps-fit, plain-paired, cursors-move, fork, over-can, rebased-applied}
use Rattle.pm_client.specs.Timelines.{IsTimeline, edit_steps}
use Rattle.pm_client.proofs.TimelineLaws.{changes-are, timeline-append, edits-timeline, edits-length}
use Rattle.pm_client.proofs.Pasts.{past-carried}
use Rattle.pm_client.proofs.Partings.{parted-edited, parted-confirmed, parted-foreign}
use Rattle.pm_client.proofs.DropLaws.{parted-dropped, rebased-times, rebased-order, rebased-own}

named-own : {C : Type 0} (client serial : ℕ) (cs : List C) → Each (IsOwn client) (named client serial cs)
named-own client serial [] = tt
named-own client serial (c ∷ cs) = (refl, named-own client (serial + 1) cs)

prefix-append : {C : Type 0} (xs ys zs : List (Named C)) → IsPrefix xs ys → IsPrefix xs (ys ++ zs)
prefix-append xs ys zs h = (h.0 ++ zs, sym (append_assoc xs h.0 zs) ∙ ap (λ l. l ++ zs) h.1)

message-grows : {C : Type 0} (v : ℕ) (pending more : List (Named C)) (x : Message C) → MessageStands v pending x → MessageStands v (pending ++ more) x
message-grows v pending more (Submit w steps) h = (h.0, λ e. prefix-append steps pending more (h.1 e))
message-grows v pending more (Ask w) h = h

-- a message of a lower version says nothing of the pending steps
message-passed : {C : Type 0} (v w : ℕ) (pending more : List (Named C)) (x : Message C) → v < w → MessageStands v pending x → MessageStands w more x
message-passed v w pending more (Submit u steps) l h = (omega (arith, h.0), λ e. absurd (omega (arith, h.0, e)))
message-passed v w pending more (Ask u) l h = omega (arith, h)

part-grows : {C : Type 0} (log more : List (Named C)) (since : ℕ) (entries : List (Named C)) → IsPart log since entries → IsPart (log ++ more) since entries
part-grows log more since entries h = (h.0, h.1 ++ more, h.2, sym (append_assoc (h.0 ++ entries) h.1 more) ∙ ap (λ l. l ++ more) h.3)

module _ {Rules Doc Reason C : Type 0} where
  answer-grows : (log more : List (Named C)) (v k : ℕ) (x : Answer C Rules Doc Reason) → AnswerStands log v k x → AnswerStands (log ++ more) v k x
  answer-grows log more v k (Accepted from count) h = h
  answer-grows log more v k (WrongVersion n) h = tt
  answer-grows log more v k (StepRefused index reason) h = tt
  answer-grows log more v k (Entries since entries) h = (h.0, part-grows log more since entries h.1, h.2)

pub part-length : {C : Type 0} (log : List (Named C)) (since : ℕ) (entries : List (Named C)) → IsPart log since entries → since + length entries ≤ length log
part-length log since entries h =
    let e : length (h.0 ++ entries ++ h.1) ≡ length log = ap length h.3 in
    omega (arith, e, h.2, length-append (h.0 ++ entries) h.1, length-append h.0 entries)

le-or : (a b : ℕ) → (a ≤ b) ⊎ (b ≤ a)
le-or a b = elim (nat_lt a b) as (λ t. nat_lt a b ≡ t → (a ≤ b) ⊎ (b ≤ a)) [ true ↦ λ e. inl (omega (arith, ltb-true a b e)) | false ↦ λ e. inr (omega (arith, ltb-false a b e)) ] refl

module _ {Rules Doc Reason C : Type 0} where
  -- the client went on by its k standing steps and f more
  answer-passed : (log : List (Named C)) (v k f w : ℕ) (x : Answer C Rules Doc Reason) → w ≡ v + k + f → AnswerStands log v k x → AnswerStands log w 0 x
  answer-passed log v k f w (Accepted from count) e (inl h) = inl (omega arith)
  answer-passed log v k f w (Accepted from count) e (inr h) = inl (omega (arith, h.0, h.1))
  answer-passed log v k f w (WrongVersion n) e h = tt
  answer-passed log v k f w (StepRefused index reason) e h = tt
  answer-passed log v k f w (Entries since entries) e (s, p, o) = (omega arith, p, either (le-or (since + length entries) w))
    where
      either : (since + length entries ≤ w) ⊎ (w ≤ since + length entries) → (since + length entries ≤ w) ⊎ (w + 0 ≤ since + length entries)
      either (inl h) = inl h
      either (inr h) = inr (omega arith)

  -- the client's own steps were accepted at the end of the log
  answer-accepted : (log steps : List (Named C)) (v k : ℕ) (x : Answer C Rules Doc Reason) → v ≡ length log → AnswerStands log v 0 x → AnswerStands (log ++ steps) v k x
  answer-accepted log steps v k (Accepted from count) e (inl h) = inl h
  answer-accepted log steps v k (Accepted from count) e (inr h) = inl (omega (arith, h.0, h.1))
  answer-accepted log steps v k (WrongVersion n) e h = tt
  answer-accepted log steps v k (StepRefused index reason) e h = tt
  answer-accepted log steps v k (Entries since entries) e h =
      (h.0, part-grows log steps since entries h.1, inl (omega (arith, e, part-length log since entries h.1)))

module _ {Rules Doc Reason C : Type 0} (m : Meaning Rules Doc Reason C) (rules : Rules) (first : Doc) (log : List (Named C)) (c : Client C Rules Doc Reason) (kin : Kin m rules first log c) where
  past-grows : (more : List (Named C)) → Past c.name c.pending kin.past kin.standing → Past c.name (c.pending ++ more) kin.past kin.standing
  past-grows more h = record {
    foreign = h.foreign;
    later = h.later ++ more;
    standing = h.standing;
    counted = h.counted;
    past_is = h.past_is;
    pending_is = ap (λ l. l ++ more) h.pending_is ∙ append_assoc h.standing h.later more;
    are_foreign = h.are_foreign;
  }

  -- the client's documents are good
  pub base-good : Laws m → m.is_good rules c.base
  base-good laws = fold-good m rules laws first c.base (changes_of kin.before) kin.first_good kin.base_is

  pub doc-good : Laws m → m.is_good rules c.doc
  doc-good laws = fold-good m rules laws c.base c.doc (changes_of c.pending) (base-good laws) kin.doc_is

  -- the document is the first one after the timeline
  pub timeline-applies : fold m rules first (steps_changes kin.timeline) ≡ Some c.doc
  timeline-applies =
      ap (fold m rules first) (changes-are kin.timeline ∙ ap changes_of kin.timeline_is.named_are ∙ changes-append kin.before c.pending)
      ∙ fold-append m rules first c.base (changes_of kin.before) (changes_of c.pending) kin.base_is ∙ kin.doc_is

  -- own steps more, as the history has them
  pub kin-gone_on : Laws m → (cs : List C) (doc : Doc) (more : List (Step C)) (h : Branches C) → AllApply m rules c.doc (named c.name (c.serials + 1) cs) doc
      → IsTimeline c.name more (named c.name (c.serials + 1) cs) → IsHistoryOf m rules c.name (c.serials + length cs) first (kin.timeline ++ more) h
      → Kin m rules first log (gone_on m c cs doc h)
  kin-gone_on laws cs doc more h applies more_are stands =
      let new : List (Named C) = named c.name (c.serials + 1) cs in
      let fits = maps-fit m rules laws c.doc doc new (doc-good laws) applies in
      record {
        before = kin.before;
        past = kin.past;
        standing = kin.standing;
        log_is = kin.log_is;
        version_is = kin.version_is;
        base_is = kin.base_is;
        doc_is = ap (fold m rules c.base) (changes-append c.pending new)
            ∙ fold-append m rules c.base c.doc (changes_of c.pending) (changes_of new) kin.doc_is ∙ applies;
        first_good = kin.first_good;
        log_applies = kin.log_applies;
        own = Each-append (IsOwn c.name) c.pending new kin.own (named-own c.name (c.serials + 1) cs);
        cursors = (cursors-move (maps_of m new) (m.size c.doc) (m.size doc) (plain-paired m rules new) fits.0 c.cursors kin.cursors);
        parted = parted-edited c.name kin.before c.pending c.dropped c.serials kin.parted cs;
        stands = past-grows new kin.stands;
        timeline = kin.timeline ++ more;
        timeline_is = subst (IsTimeline c.name (kin.timeline ++ more)) (append_assoc kin.before c.pending new)
            (timeline-append c.name kin.timeline more (kin.before ++ c.pending) new kin.timeline_is more_are);
        history = stands;
        messages = All-more _ _ c.messages (message-grows c.version c.pending new) kin.messages;
        answers = kin.answers;
      }

  -- steps that were tried on the client's document
  kin-tried : Laws m → (cs : List C) (event : Option ℕ) (next : Client C Rules Doc Reason) (r : Result Doc (Refusal Reason))
      → run m rules c.doc 0 (named c.name (c.serials + 1) cs) ≡ r → tried m rules c cs event r ≡ Ok next → Kin m rules first log next
  kin-tried laws cs event next (Err e) ran h = absurd (cc)
  kin-tried laws cs event next (Ok doc) ran h =
      let new : List (Named C) = named c.name (c.serials + 1) cs in
      let ss : List (Step C) = edit_steps new in
      let edits = edits-timeline c.name (c.serials + 1) cs in
      let applies : AllApply m rules c.doc new doc = run-fold m rules c.doc doc 0 new ran in
      let made : fold m rules c.doc (steps_changes ss) ≡ Some doc = ap (fold m rules c.doc) (changes-are ss ∙ ap changes_of edits.0.named_are) ∙ applies in
      let n : length ss ≡ length cs = edits-length c.name (c.serials + 1) cs in
      let history : Branches C = trimmed (noted_all c.history (items_from m rules c.doc ss) (Edit event true)) in
      let all : fold m rules first (steps_changes (kin.timeline ++ ss)) ≡ Some doc = both-fold m rules first c.doc doc kin.timeline ss timeline-applies made in
      let stands : IsHistoryOf m rules c.name (c.serials + length cs) first (kin.timeline ++ ss) history =
      subst (λ k. IsHistoryOf m rules c.name (c.serials + k) first (kin.timeline ++ ss) history) n
      (history-trimmed m rules c.name (c.serials + length ss) first doc (kin.timeline ++ ss) (noted_all c.history (items_from m rules c.doc ss) (Edit event true)) all
      (history-call m rules c.name c.serials first c.doc doc kin.timeline ss c.history event true kin.history timeline-applies made edits.1)) in
      let is : gone_on m c cs doc history ≡ next = cc in
      subst (Kin m rules first log) is
      (kin-gone_on laws cs doc ss history applies edits.0 stands)

  -- steps made
  pub kin-edited : Laws m → (cs : List C) (event : Option ℕ) (next : Client C Rules Doc Reason) → edited m rules c cs event ≡ Ok next → Kin m rules first log next
  kin-edited laws cs event next h = kin-tried laws cs event next (run m rules c.doc 0 (named c.name (c.serials + 1) cs)) refl h

  -- a message composed
  pub kin-composed : (kind : MessageKind) → Kin m rules first log (composed c kind)
  kin-composed kind = record {
    before = kin.before;
    past = kin.past;
    standing = kin.standing;
    log_is = kin.log_is;
    version_is = kin.version_is;
    base_is = kin.base_is;
    doc_is = kin.doc_is;
    first_good = kin.first_good;
    log_applies = kin.log_applies;
    own = kin.own;
    cursors = kin.cursors;
    parted = kin.parted;
    stands = kin.stands;
    timeline = kin.timeline;
    timeline_is = kin.timeline_is;
    history = kin.history;
    messages = All-push (MessageStands c.version c.pending) c.messages (message_of c kind) kin.messages (new kind);
    answers = kin.answers;
  }
    where
      new : (kind : MessageKind) → MessageStands c.version c.pending (message_of c kind)
      new ToSubmit = (omega arith, λ e. ([], append-nil c.pending))
      new ToAsk = omega arith

  -- a cursor set
  pub kin-cursor : (p : ℕ) (side : Side) → p ≤ m.size c.doc → Kin m rules first log (cursor_set c p side)
  kin-cursor p side within = record {
    before = kin.before;
    past = kin.past;
    standing = kin.standing;
    log_is = kin.log_is;
    version_is = kin.version_is;
    base_is = kin.base_is;
    doc_is = kin.doc_is;
    first_good = kin.first_good;
    log_applies = kin.log_applies;
    own = kin.own;
    cursors = Each-append (IsWithin (m.size c.doc)) c.cursors (cursor p side ∷ []) kin.cursors (within, tt);
    parted = kin.parted;
    stands = kin.stands;
    timeline = kin.timeline;
    timeline_is = kin.timeline_is;
    history = kin.history;
    messages = kin.messages;
    answers = kin.answers;
  }

  -- an answer kept
  pub kin-kept : (a : Answer C Rules Doc Reason) → AnswerStands log c.version kin.standing a → Kin m rules first log (kept c a)
  kin-kept a h = record {
    before = kin.before;
    past = kin.past;
    standing = kin.standing;
    log_is = kin.log_is;
    version_is = kin.version_is;
    base_is = kin.base_is;
    doc_is = kin.doc_is;
    first_good = kin.first_good;
    log_applies = kin.log_applies;
    own = kin.own;
    cursors = kin.cursors;
    parted = kin.parted;
    stands = kin.stands;
    timeline = kin.timeline;
    timeline_is = kin.timeline_is;
    history = kin.history;
    messages = kin.messages;
    answers = All-push (AnswerStands log c.version kin.standing) c.answers a kin.answers h;
  }

  -- messages and answers dropped
  pub kin-forgotten : Kin m rules first log (forgotten c)
  kin-forgotten = record {
    before = kin.before;
    past = kin.past;
    standing = kin.standing;
    log_is = kin.log_is;
    version_is = kin.version_is;
    base_is = kin.base_is;
    doc_is = kin.doc_is;
    first_good = kin.first_good;
    log_applies = kin.log_applies;
    own = kin.own;
    cursors = kin.cursors;
    parted = kin.parted;
    stands = kin.stands;
    timeline = kin.timeline;
    timeline_is = kin.timeline_is;
    history = kin.history;
    messages = All-from_recursion _ [] tt;
    answers = All-from_recursion _ [] tt;
  }

  -- entries that others named
  pub kin-foreign : (more : List (Named C)) (end : Doc) → Each (IsForeign c.name) more → fold m rules first (changes_of (log ++ more)) ≡ Some end
      → Kin m rules first (log ++ more) c
  kin-foreign more end far applies = record {
    before = kin.before;
    past = kin.past ++ more;
    standing = kin.standing;
    log_is = ap (λ l. l ++ more) kin.log_is ∙ append_assoc kin.before kin.past more;
    version_is = kin.version_is;
    base_is = kin.base_is;
    doc_is = kin.doc_is;
    first_good = kin.first_good;
    log_applies = (end, applies);
    own = kin.own;
    cursors = kin.cursors;
    parted = kin.parted;
    stands = record {
      foreign = kin.stands.foreign ++ more;
      later = kin.stands.later;
      standing = kin.stands.standing;
      counted = kin.stands.counted;
      past_is = ap (λ l. l ++ more) kin.stands.past_is ∙ append_assoc kin.stands.standing kin.stands.foreign more;
      pending_is = kin.stands.pending_is;
      are_foreign = Each-append (IsForeign c.name) kin.stands.foreign more kin.stands.are_foreign far;
    };
    timeline = kin.timeline;
    timeline_is = kin.timeline_is;
    history = kin.history;
    messages = kin.messages;
    answers = All-more _ _ c.answers (answer-grows log more c.version kin.standing) kin.answers;
  }

  -- the standing steps confirmed
  pub kin-confirmed : (base : Doc) → 0 < kin.standing → fold m rules c.base (changes_of kin.stands.standing) ≡ Some base
      → Kin m rules first log (confirmed c kin.standing base)
  kin-confirmed base some h =
      let s = kin.stands in
      let rest : drop kin.standing c.pending ≡ s.later =
      rw (s.pending_is, ← s.counted) (drop-append_seam s.standing s.later) in
      record {
        before = kin.before ++ s.standing;
        past = s.foreign;
        standing = 0;
        log_is = kin.log_is ∙ ap (λ l. kin.before ++ l) s.past_is ∙ sym (append_assoc kin.before s.standing s.foreign);
        version_is = omega (arith, kin.version_is, s.counted, length-append kin.before s.standing);
        base_is = ap (fold m rules first) (changes-append kin.before s.standing)
            ∙ fold-append m rules first c.base (changes_of kin.before) (changes_of s.standing) kin.base_is ∙ h;
        doc_is = ap (λ l. fold m rules base (changes_of l)) rest
            ∙ sym (fold-append m rules c.base base (changes_of s.standing) (changes_of s.later) h)
            ∙ ap (fold m rules c.base) (sym (changes-append s.standing s.later))
            ∙ ap (λ l. fold m rules c.base (changes_of l)) (sym s.pending_is) ∙ kin.doc_is;
        first_good = kin.first_good;
        log_applies = kin.log_applies;
        own = rw rest (Each-back (IsOwn c.name) s.standing s.later (rw s.pending_is at kin.own));
        cursors = kin.cursors;
        parted = rw rest (parted-confirmed c.name kin.before s.standing s.later c.dropped c.serials (Each-front (IsOwn c.name) s.standing s.later (rw s.pending_is at kin.own)) (rw s.pending_is at kin.parted));
        stands = record { foreign = s.foreign; later = s.later; standing = []; counted = refl; past_is = refl; pending_is = rest; are_foreign = s.are_foreign };
        timeline = kin.timeline;
        timeline_is = subst (IsTimeline c.name kin.timeline)
            (ap (λ l. kin.before ++ l) s.pending_is ∙ sym (append_assoc kin.before s.standing s.later) ∙ ap (λ l. kin.before ++ s.standing ++ l) (sym rest)) kin.timeline_is;
        history = kin.history;
        messages = All-more _ _ c.messages (λ x a. message-passed c.version (c.version + kin.standing) c.pending (drop kin.standing c.pending) x (omega arith) a) kin.messages;
        answers = All-more _ _ c.answers (λ x a. answer-passed log c.version kin.standing 0 (c.version + kin.standing) x (omega arith) a) kin.answers;
      }

  -- the standing steps and some of others' entries taken, over which the later pending steps are carried
  pub kin-brought : Laws m → (base : Doc) (front back : List (Named C)) (r : Rebasing C Rules Doc Reason) → 0 < length front → kin.stands.foreign ≡ front ++ back
      → fold m rules c.base (changes_of (kin.stands.standing ++ front)) ≡ Some base
      → r ≡ rebased m rules (start m base (maps_of m front)) kin.stands.later
      → Kin m rules first log (brought m rules c kin.standing front base r)
  kin-brought laws base front back r some split h is =
      let s = kin.stands in
      let begun : Rebasing C Rules Doc Reason = start m base (maps_of m front) in
      let taken : List (Named C) = s.standing ++ front in
      let n : length taken ≡ kin.standing + length front = omega (arith, s.counted, length-append s.standing front) in
      let own_all : Each (IsOwn c.name) (s.standing ++ s.later) = rw s.pending_is at kin.own in
      let own_later : Each (IsOwn c.name) s.later = Each-back (IsOwn c.name) s.standing s.later own_all in
      let far : Each (IsForeign c.name) front = Each-front (IsForeign c.name) front back (rw split at s.are_foreign) in
      let shared : Parted c.name (kin.before ++ s.standing) s.later c.dropped c.serials =
      parted-confirmed c.name kin.before s.standing s.later c.dropped c.serials (Each-front (IsOwn c.name) s.standing s.later own_all) (rw s.pending_is at kin.parted) in
      let reached : Parted c.name (kin.before ++ s.standing ++ front) s.later c.dropped c.serials =
      parted-foreign c.name (kin.before ++ s.standing) s.later c.dropped c.serials shared front far in
      let order : Rises (own_serials c.name (kin.before ++ s.standing ++ front) ++ serials_of r.kept) =
      rw is (rebased-order m rules (own_serials c.name (kin.before ++ s.standing ++ front)) begun s.later reached.rise) in
      let dropped_is : Parted c.name (kin.before ++ s.standing ++ front) r.kept (merged c.dropped r.dropped) c.serials =
      parted-dropped c.name (kin.before ++ s.standing ++ front) s.later r.kept c.dropped r.dropped c.serials reached
      (λ x. omega (arith, rw (← is) at (rebased-times m rules x begun s.later))) order in
      let f = fork m rules laws c.base base c.doc s.standing front s.later (base-good laws) h (ap (λ l. fold m rules c.base (changes_of l)) (sym s.pending_is) ∙ kin.doc_is) in
      let can = over-can m rules laws f.at base c.doc front s.later f.at_good f.left_applies f.right_applies in
      let reach = rw (← is) at can in
      let past = past-carried m rules first log c kin laws base front f.at r (ap (fold m rules first) (changes-append kin.before s.standing) ∙ fold-append m rules first c.base (changes_of kin.before) (changes_of s.standing) kin.base_is ∙ f.reached)
      f.left_applies f.right_applies far is in
      record {
        before = kin.before ++ taken;
        past = back;
        standing = 0;
        log_is = kin.log_is ∙ ap (λ l. kin.before ++ l) (s.past_is ∙ ap (λ l. s.standing ++ l) split ∙ sym (append_assoc s.standing front back)) ∙ sym (append_assoc kin.before taken back);
        version_is = omega (arith, kin.version_is, n, length-append kin.before taken);
        base_is = ap (fold m rules first) (changes-append kin.before taken)
            ∙ fold-append m rules first c.base (changes_of kin.before) (changes_of taken) kin.base_is ∙ h;
        doc_is = rw is (rebased-applied m rules base begun s.later refl);
        first_good = kin.first_good;
        log_applies = kin.log_applies;
        own = rw is (rebased-own m rules c.name begun s.later tt own_later);
        cursors = (cursors-move r.maps (m.size c.doc) (m.size r.doc) reach.paired reach.fits c.cursors kin.cursors);
        parted = subst (λ l. Parted c.name l r.kept (merged c.dropped r.dropped) c.serials) (append_assoc kin.before s.standing front) dropped_is;
        stands = record { foreign = back; later = r.kept; standing = []; counted = refl; past_is = refl; pending_is = refl; are_foreign = Each-back (IsForeign c.name) front back (rw split at s.are_foreign) };
        timeline = past.steps;
        timeline_is = past.timeline_is;
        history = past.history;
        messages = All-more _ _ c.messages (λ x a. message-passed c.version (c.version + (kin.standing + length front)) c.pending r.kept x (omega (arith, some)) a) kin.messages;
        answers = All-more _ _ c.answers (λ x a. answer-passed log c.version kin.standing (length front) (c.version + (kin.standing + length front)) x (omega arith) a) kin.answers;
      }

  -- the client's own submission accepted
  pub kin-accepted : (steps : List (Named C)) (end : Doc) → c.version ≡ length log → IsPrefix steps c.pending → fold m rules first (changes_of (log ++ steps)) ≡ Some end
      → Kin m rules first (log ++ steps) c
  kin-accepted steps end at pre applies =
      let s = kin.stands in
      let none : kin.past ≡ [] = nothing kin.past (omega (arith, at, kin.version_is, ap length kin.log_is, length-append kin.before kin.past)) in
      let zero_standing : kin.standing ≡ 0 = omega (arith, s.counted, ap length s.past_is, ap length none, length-append s.standing s.foreign) in
      record {
        before = kin.before;
        past = steps;
        standing = length steps;
        log_is = ap (λ l. l ++ steps) (kin.log_is ∙ ap (λ l. kin.before ++ l) none ∙ append-nil kin.before);
        version_is = kin.version_is;
        base_is = kin.base_is;
        doc_is = kin.doc_is;
        first_good = kin.first_good;
        log_applies = (end, applies);
        own = kin.own;
        cursors = kin.cursors;
        parted = kin.parted;
        stands = record { foreign = []; later = pre.0; standing = steps; counted = refl; past_is = sym (append-nil steps); pending_is = sym pre.1; are_foreign = tt };
        timeline = kin.timeline;
        timeline_is = kin.timeline_is;
        history = kin.history;
        messages = kin.messages;
        answers = All-more (AnswerStands log c.version kin.standing) _ c.answers (λ x a. answer-accepted log steps c.version (length steps) x at (rw zero_standing at a)) kin.answers;
      }

module _ {Rules Doc Reason C : Type 0} (m : Meaning Rules Doc Reason C) (rules : Rules) (first : Doc) (log : List (Named C)) (c : Client C Rules Doc Reason) (kin : Kin m rules first log c) where
  -- the client's own submission accepted, and the answer kept
  pub kin-accepted-kept : (steps : List (Named C)) (end : Doc) → c.version ≡ length log → IsPrefix steps c.pending → fold m rules first (changes_of (log ++ steps)) ≡ Some end
      → Kin m rules first (log ++ steps) (kept c (Accepted (length log) (length steps)))
  unfolding kin-accepted
  kin-accepted-kept steps end at pre applies =
      kin-kept m rules first (log ++ steps) c (kin-accepted m rules first log c kin steps end at pre applies) (Accepted (length log) (length steps)) (inr (sym at, refl))

-- a new client stands to the empty log
pub kin-new : {Rules Doc Reason C : Type 0} (m : Meaning Rules Doc Reason C) (rules : Rules) (name : ℕ) (doc : Doc) → m.is_good rules doc
    → Kin m rules doc [] (new_client name doc)
kin-new m rules name doc good = record {
  before = [];
  past = [];
  standing = 0;
  log_is = refl;
  version_is = refl;
  base_is = refl;
  doc_is = refl;
  first_good = good;
  log_applies = (doc, refl);
  own = tt;
  cursors = tt;
  parted = record { parts = λ s. omega arith; rise = tt; dropped_rise = tt };
  stands = record { foreign = []; later = []; standing = []; counted = refl; past_is = refl; pending_is = refl; are_foreign = tt };
  timeline = [];
  timeline_is = record { named_are = refl; own_are = tt };
  history = history-new m rules name doc;
  messages = All-from_recursion _ [] tt;
  answers = All-from_recursion _ [] tt;
}
