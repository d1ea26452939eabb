-- The clients of a room as workers: their lines suit them, and what each did is what its own lines come to at the history's end.
use Rattle.std.specs.List.{AllByRecursion as Each}
use Rattle.std.specs.Prelude.{◌&&◌}
use Rattle.std.proofs.Common.{◌≡◌, ℕ, ◌+◌, ◌<◌, Bool, true, false, cond, List, [], ◌∷◌, ◌++◌, length, map, slice_get, Some, All, Result, refl, sym, ap, ◌∙◌, subst, eq-eqb}
use Rattle.pm_change.specs.Changes.{Meaning}
use Rattle.pm_change.specs.declared.no_step.NoStep.{NoStep}
use Rattle.pm_authority.specs.declared.authority.Authority.{Authority}
use Rattle.pm_authority.specs.declared.machine.Request.{Request}
use Rattle.pm_desk.specs.declared.history.Past.{Past}
use Rattle.pm_desk.specs.Desks.{DeskValue, SeatValue}
use Rattle.pm_desk.specs.Histories.{state_at, calls_of, StartsWith}
use Rattle.pm_session.specs.declared.line.Line.{Line}
use Rattle.pm_session.specs.declared.line.Act.{Act}
use Rattle.pm_session.specs.declared.line.Act.TheVariants.{Edit, Undo, Redo, UndoEvent, Cursor, Submit, Ask, Present, Take, Push, Pull, Forge, Enter}
use Rattle.pm_session.specs.declared.member.Member.{Member}
use Rattle.pm_session.specs.declared.member.Member.TheVariants.{Editor, Raw}
use Rattle.pm_session.specs.declared.outcome.Outcome.{Outcome}
use Rattle.pm_session.specs.Events.{State}
use Rattle.pm_session.specs.Members.{name_of, is_raw, kinds_of}
use Rattle.pm_session.specs.Sessions.{session}
use Rattle.pm_session.specs.Suits.{composes_one, gets_one, is_forge, done_by, composed_by, answered_by, NamesOneOf, AllSuit, LinesSuit}
use Rattle.pm_workers.specs.Suiting.{SuitInTurn, SuitMember}
use Rattle.pm_workers.specs.Threads.{order_of, in_order, dealt, own_lines, after_request, reply_to}
use Rattle.pm_workers.specs.Works.{works}
use Rattle.pm_workers.specs.Worked.{Worked}
use Rattle.pm_workers.proofs.MergeLaws.{map-get}
use Rattle.pm_workers.proofs.Steps.{request, answers_to}
use Rattle.pm_workers.proofs.Reordering.{done-more, own-are, suit-own}
use Rattle.pm_workers.proofs.Threading.{Threaded, threaded}
use Rattle.pm_workers.proofs.OneThread.{one-thread}
use Rattle.pm_workers.proofs.Working.{answers-longer}

kind-is : (b c : Bool) → Some b ≡ Some c → b ≡ c
kind-is b c e = cc

module _ {Op C : Type 0} (raw : List Bool) (i : ℕ) where
  one-more : (does : Act Op C → Bool) (earlier : List (Line Op C)) (line : Line Op C) → line.client ≡ i → (k : ℕ) → k ≡ done_by does i earlier
      → k + cond (does line.act) 1 0 ≡ done_by does i (earlier ++ line ∷ [])
  one-more does earlier line own k e =
      ap (λ n. n + cond (does line.act) 1 0) e ∙ sym (done-more does i earlier line ∙ ap (λ b. done_by does i earlier + cond (b && does line.act) 1 0) (eq-eqb line.client i own))

  -- the lines of an editor, which composed and got so much
  editor-suits : (earlier lines : List (Line Op C)) (k n : ℕ) → slice_get raw i ≡ Some false → k ≡ composed_by i earlier → n ≡ answered_by i earlier → Each (λ line. line.client ≡ i) lines
      → AllSuit raw earlier lines → SuitInTurn i false k n lines
  editor-suits earlier [] k n kind e f own h = tt
  editor-suits earlier (line ∷ lines) k n kind e f own h = (
    record {
      client = own.0;
      kind = kind-is (is_forge line.act) false (sym h.0.kind ∙ ap (slice_get raw) own.0 ∙ kind);
      named = subst (λ j. NamesOneOf j n line.act) (ap (λ c. composed_by c earlier) own.0 ∙ sym e)
          (subst (λ j. NamesOneOf (composed_by line.client earlier) j line.act) (ap (λ c. answered_by c earlier) own.0 ∙ sym f) h.0.named);
    },
    editor-suits (earlier ++ line ∷ []) lines (k + cond (composes_one line.act) 1 0) (n + cond (gets_one line.act) 1 0) kind
        (one-more composes_one earlier line own.0 k e) (one-more gets_one earlier line own.0 n f) own.1 h.1,
  )

  forge-names : (act : Act Op C) (k n : ℕ) → is_forge act ≡ true → NamesOneOf k n act
  forge-names (Forge version steps) k n e = tt
  forge-names (Edit op event) k n e = absurd (cc)
  forge-names Undo k n e = absurd (cc)
  forge-names Redo k n e = absurd (cc)
  forge-names (UndoEvent event) k n e = absurd (cc)
  forge-names (Cursor p side) k n e = absurd (cc)
  forge-names Submit k n e = absurd (cc)
  forge-names Ask k n e = absurd (cc)
  forge-names (Present j) k n e = absurd (cc)
  forge-names (Take j) k n e = absurd (cc)
  forge-names (Push lost) k n e = absurd (cc)
  forge-names (Pull lost) k n e = absurd (cc)
  forge-names Enter k n e = absurd (cc)

  -- the lines of a raw client
  raw-suits : (earlier lines : List (Line Op C)) (k n : ℕ) → slice_get raw i ≡ Some true → Each (λ line. line.client ≡ i) lines → AllSuit raw earlier lines → SuitInTurn i true k n lines
  raw-suits earlier [] k n kind own h = tt
  raw-suits earlier (line ∷ lines) k n kind own h =
      let forges : is_forge line.act ≡ true = kind-is (is_forge line.act) true (sym h.0.kind ∙ ap (slice_get raw) own.0 ∙ kind) in (
        record { client = own.0; kind = forges; named = forge-names line.act k n forges },
        raw-suits (earlier ++ line ∷ []) lines (k + cond (composes_one line.act) 1 0) (n + cond (gets_one line.act) 1 0) kind own.1 h.1,
      )

-- Of lines that suit a room each member's own suit it, one after another.
pub member-suits : {Rules Doc Reason C Op : Type 0} (s : State C Rules Doc Reason) (lines : List (Line Op C)) → LinesSuit s lines → (i : ℕ) (x : Member C Rules Doc Reason) → slice_get s.members i ≡ Some x
    → name_of x ≡ i → SuitMember x (own_lines i lines)
member-suits s lines h i (Raw name serial) at named =
    subst (λ k. SuitInTurn k true 0 0 (own_lines i lines)) (sym named)
    (raw-suits (kinds_of s.members) i h.earlier (own_lines i lines) 0 0 (map-get is_raw s.members i (Raw name serial) at) (own-are i lines) (suit-own (kinds_of s.members) h.earlier lines h.suit i))
member-suits s lines h i (Editor c) at named =
    let n = h.counted i c at in
    subst (λ k. SuitInTurn k false (length c.messages) (length c.answers) (own_lines i lines)) (sym named)
    (editor-suits (kinds_of s.members) i h.earlier (own_lines i lines) (length c.messages) (length c.answers) (map-get is_raw s.members i (Editor c) at) n.0 n.1 (own-are i lines)
    (suit-own (kinds_of s.members) h.earlier lines h.suit i))

module _ {Rules Doc Reason C : Type 0} (m : Meaning Rules Doc Reason C) {Op : Type 0} (makes : Doc → Op → Result (List C) NoStep) (d : DeskValue (Authority C Rules Doc Reason) Rules) where
  -- What a client did at a seat that had seen nothing: its calls are those of its lines, and the outcomes and the member after
  -- them are those that its lines come to, where they get the answers of the whole history.
  pub record Did (lines : List (Line Op C)) (i : ℕ) (x : Member C Rules Doc Reason) (outcomes : List (Outcome C Rules Doc Reason)) (y : Member C Rules Doc Reason) (log : List (Past (Request C))) : Type 0 where
    pub calls : calls_of i log ≡ map (request i) (works m d.opening.rules makes lines x (answers_to m d.opening.rules i d.opening.machine log)).messages
    pub outcomes_are : outcomes ≡ (works m d.opening.rules makes lines x (answers_to m d.opening.rules i d.opening.machine log)).outcomes
    pub member_is : y ≡ (works m d.opening.rules makes lines x (answers_to m d.opening.rules i d.opening.machine log)).member

  -- The whole history begins with what the seat has seen, and has no other call of it.
  pub worked-did : (lines : List (Line Op C)) (x : Member C Rules Doc Reason) (s : SeatValue (Authority C Rules Doc Reason) Rules (Request C)) (outcomes : List (Outcome C Rules Doc Reason))
      (y : Member C Rules Doc Reason) (t : SeatValue (Authority C Rules Doc Reason) Rules (Request C)) (log : List (Past (Request C))) → Worked m makes d lines x s outcomes y t → s.seen ≡ []
      → StartsWith log t.seen → calls_of s.number log ≡ calls_of s.number t.seen → Did lines s.number x outcomes y log
  worked-did lines x s outcomes y t log w new begins same =
      let i = s.number in
      let told : answers_to m d.opening.rules i d.opening.machine log ≡ w.answers =
      answers-longer (after_request m) (reply_to m) d.opening.rules i d.opening.machine log t.seen begins same
      ∙ w.answered ∙ ap (λ l. answers_to m d.opening.rules i d.opening.machine l ++ w.answers) new in
      let by : works m d.opening.rules makes lines x w.answers ≡ works m d.opening.rules makes lines x (answers_to m d.opening.rules i d.opening.machine log) =
      ap (λ l. works m d.opening.rules makes lines x l) (sym told) in
      record {
        calls = same ∙ w.calls ∙ ap (λ l. calls_of i l ++ map (request i) (works m d.opening.rules makes lines x w.answers).messages) new ∙ ap (λ v. map (request i) v.messages) by;
        outcomes_are = w.outcomes_are ∙ ap (λ v. v.outcomes) by;
        member_is = w.member_is ∙ ap (λ v. v.member) by;
      }

  -- Each client of a room did its own lines at a seat of the desk, and these are the outcomes and the members after them.
  abbrev pub AllDid : List (Line Op C) → List (Member C Rules Doc Reason) → List (List (Outcome C Rules Doc Reason)) → List (Member C Rules Doc Reason) → List (Past (Request C)) → Type 0
  AllDid lines xs outcomes ys log =
      (i : ℕ) (x : Member C Rules Doc Reason) → slice_get xs i ≡ Some x
      → (o : List (Outcome C Rules Doc Reason)) × (y : Member C Rules Doc Reason) × (slice_get outcomes i ≡ Some o) × (slice_get ys i ≡ Some y) × Did (own_lines i lines) i x o y log

  -- The room that a desk's authority and these members make.
  abbrev pub desk_room : List (Member C Rules Doc Reason) → State C Rules Doc Reason
  desk_room xs = record { authority = d.opening.machine; members = xs }

  module _ (lines : List (Line Op C)) (xs : List (Member C Rules Doc Reason)) (outcomes : List (List (Outcome C Rules Doc Reason))) (ys : List (Member C Rules Doc Reason)) (log : List (Past (Request C)))
      (suit : LinesSuit (desk_room xs) lines) (seats : All (λ past. past.seat < length xs) log) (did : AllDid lines xs outcomes ys log) where
    abbrev crew_order : List (Line Op C)
    crew_order = in_order lines (order_of (length xs) lines log)

    pub crew-threaded : Threaded m d.opening.rules makes (desk_room xs) lines log crew_order
    crew-threaded = threaded m d.opening.rules makes (desk_room xs) lines log suit seats (λ i x at. (did i x at).4.calls)

    -- What the clients did is the session on one thread, in the order that the history makes.
    pub crew-session : length outcomes ≡ length xs → length ys ≡ length xs
        → (dealt (map (λ line. line.client) crew_order) outcomes, record { authority = state_at (after_request m) d.opening.rules d.opening.machine log; members = ys })
        ≡ session m d.opening.rules makes (desk_room xs) crew_order
    crew-session told stay =
        one-thread m d.opening.rules makes (desk_room xs) (record { authority = state_at (after_request m) d.opening.rules d.opening.machine log; members = ys }) lines crew_order log outcomes crew-threaded (record {
          authority = refl;
          member_count = stay;
          members = λ i x at. let e = did i x at in e.3 ∙ ap Some e.4.member_is;
          outcomes_count = told;
          outcomes_are = λ i x at. let e = did i x at in e.2 ∙ ap Some e.4.outcomes_are;
        })
