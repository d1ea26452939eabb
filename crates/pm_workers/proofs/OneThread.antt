-- What the clients came to, put together, is the session on one thread.
use Rattle.std.specs.List.{AllByRecursion as Each}
use Rattle.std.proofs.Common.{◌≡◌, ℕ, suc, ◌<◌, List, [], ◌∷◌, length, map, slice_get, Some, Result, refl, sym, ap, ap₂, ◌∙◌, subst}
use Rattle.std.proofs.lemmas.Option.{slice_get_within, get_or_from_slice_get}
use Rattle.pm_change.specs.Changes.{Meaning}
use Rattle.pm_change.specs.declared.no_step.NoStep.{NoStep}
use Rattle.pm_authority.specs.declared.machine.Request.{Request}
use Rattle.pm_desk.specs.declared.history.Past.{Past}
use Rattle.pm_desk.specs.Histories.{state_at}
use Rattle.pm_session.specs.declared.line.Line.{Line}
use Rattle.pm_session.specs.declared.member.Member.{Member}
use Rattle.pm_session.specs.declared.outcome.Outcome.{Outcome}
use Rattle.pm_session.specs.Events.{State, played}
use Rattle.pm_session.specs.Members.{is_raw, kinds_of}
use Rattle.pm_session.specs.Sessions.{session}
use Rattle.pm_workers.specs.Threads.{dealt, after_request}
use Rattle.pm_workers.proofs.MergeLaws.{length-map}
use Rattle.pm_workers.proofs.Interleaved.{own_work, member-at}
use Rattle.pm_workers.proofs.Filing.{suit-within}
use Rattle.pm_workers.proofs.Dealing.{same-places, deals}
use Rattle.pm_workers.proofs.Threading.{Threaded}

module _ {Rules Doc Reason C Op : Type 0} (m : Meaning Rules Doc Reason C) (rules : Rules) (makes : Doc → Op → Result (List C) NoStep) where
  -- an outcome for each line
  outcome-count : (s : State C Rules Doc Reason) (lines : List (Line Op C)) → length (session m rules makes s lines).0 ≡ length lines
  outcome-count s [] = refl
  outcome-count s (line ∷ lines) = ap suc (outcome-count (played m rules makes s line).1 lines)

  -- What the clients' own lines came to: the room with their members, whose authority is at the history's end, and the outcomes
  -- of each.
  pub record CameTo (s : State C Rules Doc Reason) (lines : List (Line Op C)) (h : List (Past (Request C))) (end : State C Rules Doc Reason) (outcomes : List (List (Outcome C Rules Doc Reason))) : Type 0 where
    pub authority : end.authority ≡ state_at (after_request m) rules s.authority h
    pub member_count : length end.members ≡ length s.members
    pub members : (i : ℕ) (x : Member C Rules Doc Reason) → slice_get s.members i ≡ Some x → slice_get end.members i ≡ Some (own_work m rules makes i x lines s.authority h).member
    pub outcomes_count : length outcomes ≡ length s.members
    pub outcomes_are : (i : ℕ) (x : Member C Rules Doc Reason) → slice_get s.members i ≡ Some x → slice_get outcomes i ≡ Some (own_work m rules makes i x lines s.authority h).outcomes

  -- The outcomes, dealt by the lines in the order that the history makes, and the room are those of the session on one thread.
  pub one-thread : (s end : State C Rules Doc Reason) (lines ordered : List (Line Op C)) (h : List (Past (Request C))) (outcomes : List (List (Outcome C Rules Doc Reason)))
      → Threaded m rules makes s lines h ordered → CameTo s lines h end outcomes
      → (dealt (map (λ line. line.client) ordered) outcomes, end) ≡ session m rules makes s ordered
  one-thread s end lines ordered h outcomes t c =
      let p = session m rules makes s ordered in
      let kinds : length (kinds_of s.members) ≡ length s.members = length-map is_raw s.members in
      let within : Each (λ line. line.client < length outcomes) ordered =
      subst (λ k. Each (λ (line : Line Op C). line.client < k) ordered) (kinds ∙ sym c.outcomes_count) (suit-within ordered (kinds_of s.members) t.suit.earlier ordered t.suit.suit) in
      let all : dealt (map (λ line. line.client) ordered) outcomes ≡ p.0 = deals ordered p.0 outcomes (outcome-count s ordered) within (λ i lt.
      let f = member-at s.members i (subst (λ k. i < k) c.outcomes_count lt) in
      t.outcomes i f.0 f.1 ∙ sym (get_or_from_slice_get outcomes i (own_work m rules makes i f.0 lines s.authority h).outcomes [] (c.outcomes_are i f.0 f.1))) in
      let members : p.1.members ≡ end.members = same-places p.1.members end.members (t.count ∙ sym c.member_count) (λ i y at.
      let lt : i < length s.members = subst (λ k. i < k) t.count (slice_get_within p.1.members i y at) in
      let f = member-at s.members i lt in
      c.members i f.0 f.1 ∙ sym (t.members i f.0 f.1) ∙ at) in
      let room : end ≡ p.1 = ap₂ (λ a b. record { authority = a; members = b }) (c.authority ∙ sym t.authority) (sym members) in
      ap₂ (λ a b. (a, b)) all room
