-- A session in any order comes to what each member's lines come to, where the calls that they make are those of a history.
use Rattle.std.specs.List.{AllByRecursion as Each}
use Rattle.std.proofs.Common.{◌≡◌, ◌≢◌, ◌⊎◌, inl, inr, ℕ, zero, suc, ◌<◌, Bool, true, false, cond, List, [], ◌∷◌, length, map, Some, slice_get, slice_set, Result, refl, sym, ap, ◌∙◌, subst, arith, eq-eqb, ne_eqb}
use mathlib.Core.Logic.{dite}
use native.Mathlib.Decide.{ℕ_discrete}
use Rattle.pm_change.specs.Changes.{Meaning}
use Rattle.pm_change.specs.declared.no_step.NoStep.{NoStep}
use Rattle.pm_authority.specs.declared.authority.Authority.{Authority}
use Rattle.pm_authority.specs.declared.machine.Request.{Request}
use Rattle.pm_desk.specs.declared.history.Past.{Past}
use Rattle.pm_desk.specs.Histories.{state_at, calls_of}
use Rattle.pm_session.specs.declared.line.Line.{Line}
use Rattle.pm_session.specs.declared.member.Member.{Member}
use Rattle.pm_session.specs.Events.{State, placed}
use Rattle.pm_session.specs.Sessions.{session}
use Rattle.pm_session.proofs.SoundLaws.{get-set, set-length}
use Rattle.pm_workers.specs.Threads.{presents, callers, own_lines, own_outcomes, after_request}
use Rattle.pm_workers.specs.Works.{Work, works}
use Rattle.pm_workers.proofs.MergeLaws.{set-there}
use Rattle.pm_workers.proofs.Owns.{own-here, own-there}
use Rattle.pm_workers.proofs.Steps.{Makes, makes-at, answers_to, Stepped, alone, call}

some-is : {A : Type 0} (x y : A) → Some x ≡ Some y → x ≡ y
some-is x y e = cc

pub member-at : {A : Type 0} (xs : List A) (i : ℕ) → i < length xs → (x : A) × (slice_get xs i ≡ Some x)
member-at [] i within = absurd (omega (arith, within))
member-at (x ∷ xs) zero within = (x, refl)
member-at (x ∷ xs) (suc i) within = member-at xs i (omega (arith, within))

pub set-elsewhere : {A : Type 0} (xs : List A) (i j : ℕ) (v : A) → i ≢ j → slice_get (slice_set xs i v) j ≡ slice_get xs j
set-elsewhere [] i j v ne = refl
set-elsewhere (x ∷ xs) zero zero v ne = absurd (ne refl)
set-elsewhere (x ∷ xs) zero (suc j) v ne = refl
set-elsewhere (x ∷ xs) (suc i) zero v ne = refl
set-elsewhere (x ∷ xs) (suc i) (suc j) v ne = set-elsewhere xs i j v (λ e. ne (ap suc e))

module _ {Op C A : Type 0} (i : ℕ) (line : Line Op C) (lines : List (Line Op C)) (o : A) (outcomes : List A) where
  pub outcomes-here : line.client ≡ i → own_outcomes i (line ∷ lines) (o ∷ outcomes) ≡ o ∷ own_outcomes i lines outcomes
  outcomes-here e = ap (λ b. cond b (o ∷ own_outcomes i lines outcomes) (own_outcomes i lines outcomes)) (eq-eqb line.client i e)

  pub outcomes-there : line.client ≢ i → own_outcomes i (line ∷ lines) (o ∷ outcomes) ≡ own_outcomes i lines outcomes
  outcomes-there ne = ap (λ b. cond b (o ∷ own_outcomes i lines outcomes) (own_outcomes i lines outcomes)) (ne_eqb line.client i ne)

module _ {Rules Doc Reason C Op : Type 0} (m : Meaning Rules Doc Reason C) (rules : Rules) (makes : Doc → Op → Result (List C) NoStep) where
  -- Lines of a room make the calls of this history: those that present are the calls' clients', and the calls of each client
  -- are those that its own lines make where they get the history's answers.
  pub record Calls (s : State C Rules Doc Reason) (lines : List (Line Op C)) (h : List (Past (Request C))) : Type 0 where
    pub callers_are : callers lines ≡ map (λ e. e.seat) h
    pub within : Each (λ line. line.client < length s.members) lines
    pub each : (i : ℕ) (x : Member C Rules Doc Reason) → slice_get s.members i ≡ Some x
        → Makes m rules makes i x (own_lines i lines) (answers_to m rules i s.authority h) (calls_of i h)

  -- what the lines of client i come to by themselves
  abbrev pub own_work : ℕ → Member C Rules Doc Reason → List (Line Op C) → Authority C Rules Doc Reason → List (Past (Request C)) → Work C Rules Doc Reason
  own_work i x lines a h = works m rules makes (own_lines i lines) x (answers_to m rules i a h)

  -- In the session client i comes to what its lines come to by themselves.
  pub record AsAlone (s : State C Rules Doc Reason) (lines : List (Line Op C)) (h : List (Past (Request C))) (i : ℕ) (x : Member C Rules Doc Reason) : Type 0 where
    pub member : slice_get (session m rules makes s lines).1.members i ≡ Some (own_work i x lines s.authority h).member
    pub outcomes : own_outcomes i lines (session m rules makes s lines).0 ≡ (own_work i x lines s.authority h).outcomes

  -- The session leaves the authority at the history's end, and each client comes to what its lines come to by themselves.
  pub record Agrees (s : State C Rules Doc Reason) (lines : List (Line Op C)) (h : List (Past (Request C))) : Type 0 where
    pub authority : (session m rules makes s lines).1.authority ≡ state_at (after_request m) rules s.authority h
    pub count : length (session m rules makes s lines).1.members ≡ length s.members
    pub each : (i : ℕ) (x : Member C Rules Doc Reason) → slice_get s.members i ≡ Some x → AsAlone s lines h i x

  module _ (s : State C Rules Doc Reason) (h : List (Past (Request C))) (line : Line Op C) (lines : List (Line Op C)) (calls : Calls s (line ∷ lines) h)
      (x : Member C Rules Doc Reason) (at : slice_get s.members line.client ≡ Some x) (left : List (Past (Request C))) (one : Stepped m rules makes s h line x (own_lines line.client lines) left) where
    abbrev then_room : State C Rules Doc Reason
    then_room = placed s line.client one.authority one.member

    calls-then : callers lines ≡ map (λ e. e.seat) left → Calls then_room lines left
    calls-then callers_are = record {
      callers_are = callers_are;
      within = rw (set-length s.members line.client one.member) calls.within.1;
      each = λ i y there. by i y (get-set s.members line.client i one.member y there);
    }
      where
        by : (i : ℕ) (y : Member C Rules Doc Reason) → ((i ≡ line.client) × (y ≡ one.member)) ⊎ ((i ≡ line.client → ⊥) × (slice_get s.members i ≡ Some y))
            → Makes m rules makes i y (own_lines i lines) (answers_to m rules i one.authority left) (calls_of i left)
        by i y (inl e) =
            subst (λ z. Makes m rules makes i z (own_lines i lines) (answers_to m rules i one.authority left) (calls_of i left)) (sym e.1)
            (subst (λ k. Makes m rules makes k one.member (own_lines k lines) (answers_to m rules k one.authority left) (calls_of k left)) (sym e.0) one.goes_on)
        by i y (inr e) =
            let ne : line.client ≢ i = λ q. e.0 (sym q) in
            makes-at m rules makes i y (own_lines i (line ∷ lines)) (own_lines i lines) (answers_to m rules i s.authority h) (answers_to m rules i one.authority left) (calls_of i h) (calls_of i left)
            (own-there i line lines ne) (one.same_answers i ne) (one.same_calls i ne) (calls.each i y e.1)

    split : session m rules makes s (line ∷ lines) ≡ (one.outcome ∷ (session m rules makes then_room lines).0, (session m rules makes then_room lines).1)
    split = ap (λ p. (p.0 ∷ (session m rules makes p.1 lines).0, (session m rules makes p.1 lines).1)) one.played_is

    as-alone-here : Agrees then_room lines left → AsAlone s (line ∷ lines) h line.client x
    as-alone-here more =
        let c = line.client in
        let there = more.each c one.member (set-there s.members c one.member x at) in
        let own : own_lines c (line ∷ lines) ≡ line ∷ own_lines c lines = own-here c line lines refl in
        record {
          member = ap (λ p. slice_get p.1.members c) split ∙ there.member ∙ ap Some (sym (ap (λ l. (works m rules makes l x (answers_to m rules c s.authority h)).member) own ∙ one.member_is));
          outcomes = ap (λ p. own_outcomes c (line ∷ lines) p.0) split ∙ outcomes-here c line lines one.outcome (session m rules makes then_room lines).0 refl
              ∙ ap (λ l. one.outcome ∷ l) there.outcomes ∙ sym (ap (λ l. (works m rules makes l x (answers_to m rules c s.authority h)).outcomes) own ∙ one.outcomes_are);
        }

    as-alone-there : (i : ℕ) (y : Member C Rules Doc Reason) → line.client ≢ i → slice_get s.members i ≡ Some y → slice_get then_room.members i ≡ Some y
        → Agrees then_room lines left → AsAlone s (line ∷ lines) h i y
    as-alone-there i y ne was now more =
        let there = more.each i y now in
        let same : own_work i y (line ∷ lines) s.authority h ≡ own_work i y lines one.authority left =
        ap (λ l. works m rules makes l y (answers_to m rules i s.authority h)) (own-there i line lines ne) ∙ ap (λ l. works m rules makes (own_lines i lines) y l) (one.same_answers i ne) in
        record {
          member = ap (λ p. slice_get p.1.members i) split ∙ there.member ∙ ap (λ w. Some w.member) (sym same);
          outcomes = ap (λ p. own_outcomes i (line ∷ lines) p.0) split ∙ outcomes-there i line lines one.outcome (session m rules makes then_room lines).0 ne
              ∙ there.outcomes ∙ ap (λ w. w.outcomes) (sym same);
        }

    agrees-then : Agrees then_room lines left → Agrees s (line ∷ lines) h
    agrees-then more = record {
      authority = ap (λ p. p.1.authority) split ∙ more.authority ∙ sym one.state_is;
      count = ap (λ p. length p.1.members) split ∙ more.count ∙ set-length s.members line.client one.member;
      each = λ i y there. dite (ℕ_discrete line.client i)
          (λ e. let same : x ≡ y = some-is x y (sym at ∙ (ap (slice_get s.members) e ∙ there)) in
          subst (λ z. AsAlone s (line ∷ lines) h i z) same (subst (λ k. AsAlone s (line ∷ lines) h k x) e (as-alone-here more)))
          (λ ne. as-alone-there i y ne there (set-elsewhere s.members line.client i one.member ne ∙ there) more);
    }

  -- one line and then the others
  agrees-next : (line : Line Op C) (lines : List (Line Op C)) → ((s : State C Rules Doc Reason) (h : List (Past (Request C))) → Calls s lines h → Agrees s lines h)
      → (s : State C Rules Doc Reason) (h : List (Past (Request C))) → Calls s (line ∷ lines) h → Agrees s (line ∷ lines) h
  agrees-next line lines more s h calls = by (presents line.act) refl h calls
    where
      found : (h : List (Past (Request C))) → Calls s (line ∷ lines) h → (x : Member C Rules Doc Reason) × (slice_get s.members line.client ≡ Some x)
      found h calls = member-at s.members line.client calls.within.0

      goes : (h : List (Past (Request C))) (calls : Calls s (line ∷ lines) h)
          → Makes m rules makes line.client (found h calls).0 (line ∷ own_lines line.client lines) (answers_to m rules line.client s.authority h) (calls_of line.client h)
      goes h calls =
          let c = line.client in
          subst (λ l. Makes m rules makes c (found h calls).0 l (answers_to m rules c s.authority h) (calls_of c h)) (own-here c line lines refl) (calls.each c (found h calls).0 (found h calls).1)

      by : (b : Bool) → presents line.act ≡ b → (h : List (Past (Request C))) → Calls s (line ∷ lines) h → Agrees s (line ∷ lines) h
      by false e h calls =
          let f = found h calls in
          let one = alone m rules makes s h line f.0 (own_lines line.client lines) f.1 e (goes h calls) in
          let callers_are : callers lines ≡ map (λ p. p.seat) h = sym (ap (λ b. cond b (line.client ∷ callers lines) (callers lines)) e) ∙ calls.callers_are in
          agrees-then s h line lines calls f.0 f.1 h one (more (placed s line.client one.authority one.member) h (calls-then s h line lines calls f.0 f.1 h one callers_are))
      by true e [] calls =
          let all : line.client ∷ callers lines ≡ [] = sym (ap (λ b. cond b (line.client ∷ callers lines) (callers lines)) e) ∙ calls.callers_are in
          absurd (cc)
      by true e (p ∷ h) calls =
          let f = found (p ∷ h) calls in
          let all : line.client ∷ callers lines ≡ p.seat ∷ map (λ q. q.seat) h = sym (ap (λ b. cond b (line.client ∷ callers lines) (callers lines)) e) ∙ calls.callers_are in
          let seat : p.seat ≡ line.client = cc in
          let callers_are : callers lines ≡ map (λ q. q.seat) h = cc in
          let one = call m rules makes s p h line f.0 (own_lines line.client lines) f.1 e seat (goes (p ∷ h) calls) in
          agrees-then s (p ∷ h) line lines calls f.0 f.1 h one (more (placed s line.client one.authority one.member) h (calls-then s (p ∷ h) line lines calls f.0 f.1 h one callers_are))

  -- A session in any order, whose lines make the calls of a history, leaves the authority at the history's end, and each client
  -- at what its own lines come to.
  pub agrees : (lines : List (Line Op C)) (s : State C Rules Doc Reason) (h : List (Past (Request C))) → Calls s lines h → Agrees s lines h
  agrees [] s [] calls = record { authority = refl; count = refl; each = λ i x at. record { member = at; outcomes = refl } }
  agrees [] s (p ∷ h) calls = let e = calls.callers_are in absurd (cc)
  agrees (line ∷ lines) s h calls = agrees-next line lines (λ t k c. agrees lines t k c) s h calls
