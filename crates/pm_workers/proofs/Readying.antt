-- Workers that are hired for a room just opened are ready.
use Rattle.std.proofs.Common.{◌≡◌, ℕ, zero, suc, ◌+◌, ◌<◌, Bool, List, [], ◌∷◌, length, map, get_or, slice_get, Some, All, Vec, Global, refl, sym, ap, ◌∙◌, subst, arith}
use Rattle.std.proofs.lemmas.Option.{slice_get-get_or}
use Rattle.std.specs.List.{AllByRecursion as Each}
use Rattle.pm_change.specs.Changes.{Meaning}
use Rattle.pm_authority.specs.declared.authority.Authority.{Authority}
use Rattle.pm_authority.specs.declared.machine.Request.{Request}
use Rattle.pm_desk.specs.Desks.{DeskValue, SeatValue}
use Rattle.pm_session.specs.declared.line.Line.{Line}
use Rattle.pm_session.specs.declared.member.Member.{Member}
use Rattle.pm_session.specs.Members.{is_raw, kinds_of}
use Rattle.pm_session.specs.Sessions.{new_members, opened}
use Rattle.pm_session.specs.Sounds.{MemberStands}
use Rattle.pm_session.specs.Suits.{LinesSuit}
use Rattle.pm_session.proofs.Opening.{opened-sound}
use Rattle.pm_session.proofs.Openings.{kinds-new}
use Rattle.pm_workers.specs.declared.worker.Worker.{Worker}
use Rattle.pm_workers.specs.Hired.{IsOpen, AreSeated, Hired}
use Rattle.pm_workers.specs.Seatings.{seats_for}
use Rattle.pm_workers.specs.Seats.{IsSound, authority_after}
use Rattle.pm_workers.specs.Threads.{own_lines}
use Rattle.pm_workers.specs.Worked.{IsReady}
use Rattle.pm_workers.proofs.Crews.{member-suits}
use Rattle.pm_workers.proofs.Filing.{suit-within}
use Rattle.pm_workers.proofs.MergeLaws.{length-map, map-get}
use Rattle.pm_workers.proofs.Serving.{sound-log}
use Rattle.pm_workers.proofs.Unused.{fresh-seat}

all-clients : {Op C : Type 0} (n : ℕ) (xs : List (Line Op C)) → Each (λ line. line.client < n) xs → All (λ line. line.client < n) xs
all-clients n [] h k e lt = absurd (omega (arith, lt))
all-clients n (x ∷ xs) h zero e lt = h.0
all-clients n (x ∷ xs) h (suc k) e lt = all-clients n xs h.1 k e (omega (arith, lt))

-- as many members as were asked for
pub new-count : (Rules Doc Reason C : Type 0) (doc : Doc) (raw : List Bool) → length (new_members {Rules = Rules} {Doc = Doc} {Reason = Reason} {C = C} doc 0 raw) ≡ length raw
new-count Rules Doc Reason C doc raw = sym (length-map is_raw (new_members {Rules = Rules} {Doc = Doc} {Reason = Reason} {C = C} doc 0 raw)) ∙ ap length (kinds-new Rules Doc Reason C doc 0 raw)

-- lines that suit a room just opened are of its clients
pub clients-within : {Op : Type 0} (Rules Doc Reason C : Type 0) (doc : Doc) (raw : List Bool) (lines : List (Line Op C))
    → LinesSuit (opened {Rules = Rules} {Doc = Doc} {Reason = Reason} {C = C} doc raw) lines → All (λ line. line.client < length raw) lines
clients-within Rules Doc Reason C doc raw lines h =
    let kinds = kinds_of (new_members {Rules = Rules} {Doc = Doc} {Reason = Reason} {C = C} doc 0 raw) in
    let is : length kinds ≡ length raw = ap length (kinds-new Rules Doc Reason C doc 0 raw) in
    subst (λ k. All (λ (line : Line _ _). line.client < k) lines) is (all-clients (length kinds) lines (suit-within lines kinds h.earlier lines h.suit))

-- A desk over a new authority is open at its document.
pub is-open : {Rules Doc Reason C : Type 0} (m : Meaning Rules Doc Reason C) (d : DeskValue (Authority C Rules Doc Reason) Rules) (doc : Doc) (rules : Rules) (a : Authority C Rules Doc Reason)
    → d.opening ≡ record { machine = a; rules = rules } → a.first ≡ doc → a.doc ≡ doc → a.log ≡ [] → m.is_good rules doc → IsOpen m d doc
is-open m d doc rules a opening first same log good = record {
  machine = ap (λ o. o.machine) opening ∙ ap (λ x. record { first = x; doc = a.doc; log = a.log }) first ∙ ap (λ x. record { first = doc; doc = x; log = a.log }) same ∙ ap (λ x. record { first = doc; doc = doc; log = x }) log;
  good = subst (λ r. m.is_good r doc) (sym (ap (λ o. o.rules) opening)) good;
}

module _ {Rules Doc Reason C Op : Type 0} (m : Meaning Rules Doc Reason C) (d : DeskValue (Authority C Rules Doc Reason) Rules) (doc : Doc) (raw : List Bool) (lines : List (Line Op C)) where
  abbrev start : Authority C Rules Doc Reason
  start = record { first = doc; doc = doc; log = [] }

  -- Each client of a room just opened is ready to play its own of lines that suit the room.
  pub ready-at : IsOpen m d doc → LinesSuit (opened {Rules = Rules} {Reason = Reason} {C = C} doc raw) lines
      → (i : ℕ) (x : Member C Rules Doc Reason) (s : SeatValue (Authority C Rules Doc Reason) Rules (Request C)) → slice_get (new_members doc 0 raw) i ≡ Some x → slice_get (seats_for d (length raw)) i ≡ Some s
      → IsReady m d (own_lines i lines) x s []
  ready-at h suit i x s at seat_at =
      let f = fresh-seat d (length raw) i s seat_at in
      let stood = (opened-sound doc m d.opening.rules raw h.good).stand i x at in
      let after : authority_after m d s.seen ≡ start = ap (authority_after m d) f.seen ∙ h.machine in
      let start_sound : IsSound m d.opening.rules start = (record { first_good = h.good; good = h.good; folded = refl }, omega arith) in
      record {
        serves = record {
          seat = f.seat;
          number = f.number ∙ sym stood.0;
          rules_are = refl;
          log_is = sound-log m d s d.opening.rules refl s.seen (subst (λ a. IsSound m d.opening.rules a) (sym after) start_sound);
        };
        stands = subst (λ (a : Authority C Rules Doc Reason). MemberStands m d.opening.rules a.first (authority_after m d s.seen).log x) (sym h.machine)
            (subst (λ (a : Authority C Rules Doc Reason). MemberStands m d.opening.rules doc a.log x) (sym after) stood.1);
        suit = member-suits (opened doc raw) lines suit i x at stood.0;
        none = refl;
      }

  module _ (ws : List (Worker C Op Rules Doc Reason)) (h : Hired m d doc raw lines ws) where
    pub member-is : (i : ℕ) (w : Worker C Op Rules Doc Reason) → slice_get ws i ≡ Some w → slice_get (new_members doc 0 raw) i ≡ Some w.member
    member-is i w at = subst (λ l. slice_get l i ≡ Some w.member) h.members (map-get (λ w. w.member) ws i w at)

    pub seat-is : (i : ℕ) (w : Worker C Op Rules Doc Reason) → slice_get ws i ≡ Some w → slice_get (seats_for d (length raw)) i ≡ Some w.seat
    seat-is i w at = subst (λ l. slice_get l i ≡ Some w.seat) h.seats (map-get (λ w. w.seat) ws i w at)

    pub all-ready : All (λ w. IsReady m d w.lines.items w.member w.seat w.outcomes.items) ws
    all-ready i e lt =
        let w = get_or ws i e in
        let at : slice_get ws i ≡ Some w = slice_get-get_or ws i e lt in
        subst (λ o. IsReady m d w.lines.items w.member w.seat o) (sym (h.none i e lt))
        (subst (λ l. IsReady m d l w.member w.seat []) (sym (h.own i w at)) (ready-at h.opening h.suit i w.member w.seat (member-is i w at) (seat-is i w at)))

    pub hired-count : length ws ≡ length raw
    hired-count = sym (length-map (λ w. w.member) ws) ∙ ap length h.members ∙ new-count Rules Doc Reason C doc raw

-- What is known of the workers once they are hired.
pub record Hiring {Rules Doc Reason C Op : Type 0} (m : Meaning Rules Doc Reason C) (d : DeskValue (Authority C Rules Doc Reason) Rules) (doc : Doc) (raw : List Bool) (lines : List (Line Op C))
    (ms : List (Member C Rules Doc Reason)) (ss : List (SeatValue (Authority C Rules Doc Reason) Rules (Request C)))
    (hands : List (Vec (Line Op C) Global)) (ws : List (Worker C Op Rules Doc Reason)) : Type 0 where
  pub seated : AreSeated m d doc raw ms ss
  pub some : 0 < length raw
  pub suit : LinesSuit (opened {Rules = Rules} {Reason = Reason} {C = C} doc raw) lines
  pub own : (i : ℕ) (l : Vec (Line Op C) Global) → slice_get hands i ≡ Some l → l.items ≡ own_lines i lines
  pub members_are : map (λ w. w.member) ws ≡ ms
  pub seats_are : map (λ w. w.seat) ws ≡ ss
  pub lines_are : map (λ w. w.lines) ws ≡ hands
  pub none : All (λ w. w.outcomes.items ≡ []) ws

pub hired : {Rules Doc Reason C Op : Type 0} (m : Meaning Rules Doc Reason C) (d : DeskValue (Authority C Rules Doc Reason) Rules) (doc : Doc) (raw : List Bool) (lines : List (Line Op C))
    (ms : List (Member C Rules Doc Reason)) (ss : List (SeatValue (Authority C Rules Doc Reason) Rules (Request C)))
    (hands : List (Vec (Line Op C) Global)) (ws : List (Worker C Op Rules Doc Reason)) → Hiring m d doc raw lines ms ss hands ws → Hired m d doc raw lines ws
hired m d doc raw lines ms ss hands ws k = record {
  opening = k.seated.opening;
  some = k.some;
  suit = k.suit;
  members = k.members_are ∙ k.seated.members_are;
  seats = k.seats_are ∙ k.seated.seats_are;
  own = λ i w at. k.own i w.lines (subst (λ l. slice_get l i ≡ Some w.lines) k.lines_are (map-get (λ w. w.lines) ws i w at));
  none = k.none;
}
