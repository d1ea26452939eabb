-- A session whose clients run on threads is the session on one thread, in the order that the history of its calls makes.
use Rattle.std.specs.List.{AllByRecursion as Each}
use Rattle.std.proofs.Common.{◌≡◌, ℕ, suc, ◌<◌, Bool, true, false, cond, List, [], ◌∷◌, length, map, slice_get, Option, None, Some, All, Result, refl, sym, ap, ◌∙◌, subst, arith}
use Rattle.std.specs.Prelude.{is_some}
use Rattle.pm_change.specs.Changes.{Meaning}
use Rattle.pm_change.specs.declared.no_step.NoStep.{NoStep}
use Rattle.pm_authority.specs.declared.machine.Request.{Request}
use Rattle.pm_authority.specs.declared.message.Message.{Message}
use Rattle.pm_authority.specs.declared.message.Answer.{Answer}
use Rattle.pm_desk.specs.declared.history.Past.{Past}
use Rattle.pm_desk.specs.Histories.{state_at, calls_of}
use Rattle.pm_session.specs.declared.line.Line.{Line}
use Rattle.pm_session.specs.declared.member.Member.{Member}
use Rattle.pm_session.specs.Events.{State, asked, finished}
use Rattle.pm_session.specs.Members.{is_raw, kinds_of}
use Rattle.pm_session.specs.Sessions.{session}
use Rattle.pm_session.specs.Suits.{LinesSuit}
use Rattle.pm_workers.specs.Threads.{presents, order_of, callers, in_order, own_lines, own_outcomes, after_request, reply_to}
use Rattle.pm_workers.specs.Works.{works, answer_to, answers_after, with_message}
use Rattle.pm_workers.proofs.MergeLaws.{each-of, length-map, map-get}
use Rattle.pm_workers.proofs.Owns.{presenting}
use Rattle.pm_workers.proofs.Steps.{Tells, makes-at, request, answers_to}
use Rattle.pm_workers.proofs.Interleaved.{own_work, agrees, member-at}
use Rattle.pm_workers.proofs.Reordering.{own-are, suit-own, suit-order}
use Rattle.pm_workers.proofs.Telling.{tells}
use Rattle.pm_workers.proofs.Filing.{answers-calls, own-ordered, callers-ordered, suit-within}

module _ {Rules Doc Reason C Op : Type 0} (m : Meaning Rules Doc Reason C) (rules : Rules) (makes : Doc → Op → Result (List C) NoStep) where
  -- as many lines present a message as there are messages
  presenting-is : (lines : List (Line Op C)) (x : Member C Rules Doc Reason) (answers : List (Answer C Rules Doc Reason)) → Tells m rules makes lines x answers
      → length (works m rules makes lines x answers).messages ≡ presenting lines
  presenting-is [] x answers h = refl
  presenting-is (line ∷ lines) x answers h =
      let o = asked line.act x in
      let next = (finished m rules makes line.act x (answer_to o answers)).1 in
      let rest = (works m rules makes lines next (answers_after o answers)).messages in
      one-more o rest (presents line.act) h.0 ∙ ap (λ n. cond (presents line.act) (suc n) n) (presenting-is lines next (answers_after o answers) h.1)
    where
      one-more : (o : Option (Message C)) (rest : List (Message C)) (b : Bool) → is_some o ≡ b → length (with_message o rest) ≡ cond b (suc (length rest)) (length rest)
      one-more None rest true e = absurd (cc)
      one-more None rest false e = refl
      one-more (Some message) rest true e = refl
      one-more (Some message) rest false e = absurd (cc)

  -- The calls of each client in the history are those that its own lines make, where they get the history's answers.
  abbrev pub OwnCalls : State C Rules Doc Reason → List (Line Op C) → List (Past (Request C)) → Type 0
  OwnCalls s lines h =
      (i : ℕ) (x : Member C Rules Doc Reason) → slice_get s.members i ≡ Some x → calls_of i h ≡ map (request i) (own_work m rules makes i x lines s.authority h).messages

  -- A session whose clients run on threads, with this history. The order that the history makes keeps each client's lines in
  -- their order, and is the merge of its own presenting lines' clients. Its lines suit the room. In this order, on one
  -- thread, the session leaves the authority at the history's end, and each client comes to what its own lines come to.
  pub record Threaded (s : State C Rules Doc Reason) (lines : List (Line Op C)) (h : List (Past (Request C))) (ordered : List (Line Op C)) : Type 0 where
    pub own : (i : ℕ) → own_lines i ordered ≡ own_lines i lines
    pub callers_are : callers ordered ≡ map (λ past. past.seat) h
    pub suit : LinesSuit s ordered
    pub authority : (session m rules makes s ordered).1.authority ≡ state_at (after_request m) rules s.authority h
    pub count : length (session m rules makes s ordered).1.members ≡ length s.members
    pub members : (i : ℕ) (x : Member C Rules Doc Reason) → slice_get s.members i ≡ Some x
        → slice_get (session m rules makes s ordered).1.members i ≡ Some (own_work m rules makes i x lines s.authority h).member
    pub outcomes : (i : ℕ) (x : Member C Rules Doc Reason) → slice_get s.members i ≡ Some x
        → own_outcomes i ordered (session m rules makes s ordered).0 ≡ (own_work m rules makes i x lines s.authority h).outcomes

  module _ (s : State C Rules Doc Reason) (lines : List (Line Op C)) (h : List (Past (Request C))) (suit : LinesSuit s lines)
      (seats : All (λ past. past.seat < length s.members) h) (calls : OwnCalls s lines h) where
    -- along each client's lines the acts tell which present
    own-tells : (i : ℕ) (x : Member C Rules Doc Reason) → slice_get s.members i ≡ Some x → Tells m rules makes (own_lines i lines) x (answers_to m rules i s.authority h)
    own-tells i x at =
        let rs = answers_to m rules i s.authority h in
        let one : length (own_work m rules makes i x lines s.authority h).messages ≡ length (calls_of i h) =
        sym (length-map (request i) (own_work m rules makes i x lines s.authority h).messages) ∙ ap length (sym (calls i x at)) in
        let two : length rs ≡ length (calls_of i h) = answers-calls (after_request m) (reply_to m) rules i s.authority h in
        tells m rules makes (kinds_of s.members) i x suit.earlier (own_lines i lines) rs
        (record { kind = map-get is_raw s.members i x at; counted = λ c is. suit.counted i c (at ∙ ap Some is) })
        (own-are i lines) (suit-own (kinds_of s.members) suit.earlier lines suit.suit i) (omega (arith, one, two))

    own-count : (i : ℕ) → i < length s.members → length (calls_of i h) ≡ presenting (own_lines i lines)
    own-count i lt =
        let f = member-at s.members i lt in
        ap length (calls i f.0 f.1) ∙ length-map (request i) (own_work m rules makes i f.0 lines s.authority h).messages
        ∙ presenting-is (own_lines i lines) f.0 (answers_to m rules i s.authority h) (own-tells i f.0 f.1)

    pub threaded : Threaded s lines h (in_order lines (order_of (length s.members) lines h))
    threaded =
        let n = length s.members in
        let ordered = in_order lines (order_of n lines h) in
        let of : Each (λ c. c < n) (map (λ past. past.seat) h) = each-of (λ past. past.seat) n h seats in
        let kinds : length (kinds_of s.members) ≡ n = length-map is_raw s.members in
        let within : Each (λ line. line.client < n) lines = subst (λ k. Each (λ (line : Line Op C). line.client < k) lines) kinds (suit-within lines (kinds_of s.members) suit.earlier lines suit.suit) in
        let own : (i : ℕ) → own_lines i ordered ≡ own_lines i lines = own-ordered lines n (map (λ past. past.seat) h) of within in
        let suits = suit-order s lines ordered own suit in
        let callers_are : callers ordered ≡ map (λ past. past.seat) h = callers-ordered lines n h of own-count in
        let all = agrees m rules makes ordered s h (record {
          callers_are = callers_are;
          within = subst (λ k. Each (λ (line : Line Op C). line.client < k) ordered) kinds (suit-within ordered (kinds_of s.members) suits.earlier ordered suits.suit);
          each = λ i x at. makes-at m rules makes i x (own_lines i lines) (own_lines i ordered) (answers_to m rules i s.authority h) (answers_to m rules i s.authority h) (calls_of i h) (calls_of i h)
              (sym (own i)) refl refl (record { tells = own-tells i x at; calls = calls i x at });
        }) in
        record {
          own = own;
          callers_are = callers_are;
          suit = suits;
          authority = all.authority;
          count = all.count;
          members = λ i x at. (all.each i x at).member ∙ ap (λ l. Some (works m rules makes l x (answers_to m rules i s.authority h)).member) (own i);
          outcomes = λ i x at. (all.each i x at).outcomes ∙ ap (λ l. (works m rules makes l x (answers_to m rules i s.authority h)).outcomes) (own i);
        }
