-- What hired workers came to, once they played all their lines.
use Rattle.std.specs.List.{AllByRecursion as Each}
use Rattle.std.proofs.Common.{◌≡◌, ℕ, zero, suc, ◌+◌, ◌<◌, Bool, List, [], ◌∷◌, length, map, get_or, slice_get, Some, All, Result, Vec, Global, sym, ap, ◌∙◌, subst, arith}
use Rattle.std.proofs.lemmas.Option.{slice_get_within, get_or_from_slice_get, slice_get-get_or}
use Rattle.std.proofs.lemmas.Simd.{map-map}
use Rattle.pm_change.specs.Changes.{Meaning, Laws}
use Rattle.pm_authority.specs.declared.authority.Authority.{Authority}
use Rattle.pm_authority.specs.declared.machine.Request.{Request}
use Rattle.pm_desk.specs.declared.history.Past.{Past}
use Rattle.pm_desk.specs.Desks.{DeskValue, SeatValue, IsSeatOf}
use Rattle.pm_desk.specs.Histories.{state_at, calls_of}
use Rattle.pm_session.specs.declared.line.Line.{Line}
use Rattle.pm_session.specs.declared.member.Member.{Member}
use Rattle.pm_change.specs.declared.no_step.NoStep.{NoStep}
use Rattle.pm_session.specs.declared.outcome.Outcome.{Outcome}
use Rattle.pm_session.specs.Events.{State}
use Rattle.pm_session.specs.Members.{is_raw, kinds_of}
use Rattle.pm_session.specs.Sessions.{new_members, opened, session}
use Rattle.pm_session.specs.Sounds.{Sound}
use Rattle.pm_session.specs.Suits.{LinesSuit}
use Rattle.pm_session.proofs.Opening.{opened-sound}
use Rattle.pm_session.proofs.Playing.{session-sound}
use Rattle.pm_workers.specs.declared.worker.Worker.{Worker}
use Rattle.pm_workers.specs.Gathered.{room_of, ordered, turns_of, PlayedApart}
use Rattle.pm_workers.specs.Hired.{Hired, AllWorked, PlayedOwn, AllPlayed}
use Rattle.pm_workers.specs.Seatings.{seats_for, AreSeats, IsCovered}
use Rattle.pm_workers.specs.Threads.{after_request, own_lines, dealt}
use Rattle.pm_workers.specs.Worked.{Worked}
use Rattle.pm_workers.proofs.Crews.{Did, worked-did, AllDid, desk_room, crew-threaded, crew-session}
use Rattle.pm_workers.proofs.Dealing.{deals-lines}
use Rattle.pm_workers.proofs.Filing.{suit-within}
use Rattle.pm_workers.proofs.Interleaved.{member-at}
use Rattle.pm_workers.proofs.MergeLaws.{length-map, map-get}
use Rattle.pm_workers.proofs.Readying.{new-count, member-is, seat-is, hired-count}
use Rattle.pm_workers.proofs.Unused.{one-of, Fresh, seats-count, fresh-seat, first-splits}

all-turns : {Op C : Type 0} (n : ℕ) (xs : List (Line Op C)) → Each (λ line. line.client < n) xs → All (λ t. t < n) (map (λ line. line.client) xs)
all-turns n [] h k e lt = absurd (omega (arith, lt))
all-turns n (x ∷ xs) h zero e lt = h.0
all-turns n (x ∷ xs) h (suc k) e lt = all-turns n xs h.1 k e (omega (arith, lt))

module _ {Rules Doc Reason C Op : Type 0} (m : Meaning Rules Doc Reason C) (makes : Rules → Doc → Op → Result (List C) NoStep)
    (d : DeskValue (Authority C Rules Doc Reason) Rules) (doc : Doc) (raw : List Bool) (lines : List (Line Op C))
    (vs : List (Worker C Op Rules Doc Reason)) (p : AllPlayed m makes d doc raw lines vs) where
  abbrev by : Doc → Op → Result (List C) NoStep
  by = makes d.opening.rules

  -- what worker i began as, and what it did
  record PlayedAt (i : ℕ) (v : Worker C Op Rules Doc Reason) : Type 0 where
    x : Member C Rules Doc Reason
    s : SeatValue (Authority C Rules Doc Reason) Rules (Request C)
    at : slice_get (new_members doc 0 raw) i ≡ Some x
    seat_at : slice_get (seats_for d (length raw)) i ≡ Some s
    did : PlayedOwn m makes d lines i x s v

  played-at : (i : ℕ) (v : Worker C Op Rules Doc Reason) → slice_get vs i ≡ Some v → PlayedAt i v
  played-at i v at =
      let lt : i < length raw = subst (λ k. i < k) p.count (slice_get_within vs i v at) in
      let members : length (new_members {Rules = Rules} {Doc = Doc} {Reason = Reason} {C = C} doc 0 raw) ≡ length raw = new-count Rules Doc Reason C doc raw in
      let f = member-at (new_members doc 0 raw) i (subst (λ k. i < k) (sym members) lt) in
      let e = member-at (seats_for {Q = Request C} d (length raw)) i (subst (λ k. i < k) (sym (seats-count (Request C) d (length raw))) lt) in
      record { x = f.0; s = e.0; at = f.1; seat_at = e.1; did = p.each i f.0 e.0 v f.1 e.1 at }

  abbrev pub seats_after : List (SeatValue (Authority C Rules Doc Reason) Rules (Request C))
  seats_after = map (λ v. v.seat) vs

  seat-of : (i : ℕ) (s : SeatValue (Authority C Rules Doc Reason) Rules (Request C)) → slice_get seats_after i ≡ Some s
      → (t : SeatValue (Authority C Rules Doc Reason) Rules (Request C)) × (slice_get (seats_for d (length raw)) i ≡ Some t) × (s ≡ record t { seen = s.seen })
  seat-of i s at =
      let lt : i < length vs = subst (λ k. i < k) (length-map (λ v. v.seat) vs) (slice_get_within seats_after i s at) in
      let f = member-at vs i lt in
      let is : f.0.seat ≡ s = one-of f.0.seat s (sym (map-get (λ v. v.seat) vs i f.0 f.1) ∙ at) in
      let one = played-at i f.0 f.1 in (
        one.s,
        one.seat_at,
        subst (λ (t : SeatValue (Authority C Rules Doc Reason) Rules (Request C)). t ≡ record one.s { seen = t.seen }) is one.did.worked.seat.0,
      )

  fresh : (i : ℕ) (s : SeatValue (Authority C Rules Doc Reason) Rules (Request C)) → slice_get (seats_for d (length raw)) i ≡ Some s → Fresh d i s
  fresh i s at = fresh-seat d (length raw) i s at

  of-desk : (i : ℕ) (s : SeatValue (Authority C Rules Doc Reason) Rules (Request C)) → slice_get seats_after i ≡ Some s → IsSeatOf d s
  of-desk i s at = let f = seat-of i s at in subst (λ t. IsSeatOf d t) (sym f.2) (fresh i f.0 f.1).seat

  -- The workers' seats are the desk's, number by number, and none is joined yet.
  pub are-seats : AreSeats d seats_after
  are-seats =
      let long : length seats_after ≡ length raw = length-map (λ v. v.seat) vs ∙ p.count in
      let one : 0 < length raw = p.some in
      record {
        some = omega (arith, long, one);
        of_desk = λ i e lt. of-desk i (get_or seats_after i e) (slice_get-get_or seats_after i e lt);
        numbered = λ i s at. let f = seat-of i s at in ap (λ (t : SeatValue (Authority C Rules Doc Reason) Rules (Request C)). t.number) f.2 ∙ (fresh i f.0 f.1).number;
        splits = λ s at.
            let f = seat-of zero s at in
            let is : s.splits ≡ f.0.splits = ap (λ (t : SeatValue (Authority C Rules Doc Reason) Rules (Request C)). t.splits) f.2 in
            let was : f.0.splits + 1 ≡ length raw = first-splits d (length raw) f.0 f.1 in
            omega (arith, long, is, was);
        none_joined = λ s at. let f = seat-of zero s at in ap (λ (t : SeatValue (Authority C Rules Doc Reason) Rules (Request C)). t.joined) f.2 ∙ (fresh zero f.0 f.1).joined;
      }

  module _ (log : List (Past (Request C))) (covered : All (λ s. IsCovered log s) seats_after) (calls : All (λ past. past.seat < length vs) log) where
    abbrev outs : List (List (Outcome C Rules Doc Reason))
    outs = map (λ v. v.outcomes.items) vs

    abbrev xs : List (Member C Rules Doc Reason)
    xs = new_members doc 0 raw

    abbrev ys : List (Member C Rules Doc Reason)
    ys = map (λ v. v.member) vs

    abbrev left : List (List (Line Op C))
    left = map (λ v. v.lines.items) vs

    count-is : length xs ≡ length vs
    count-is = new-count Rules Doc Reason C doc raw ∙ sym p.count

    cover : (i : ℕ) (s : SeatValue (Authority C Rules Doc Reason) Rules (Request C)) → slice_get seats_after i ≡ Some s → IsCovered log s
    cover i s e = subst (λ t. IsCovered log t) (get_or_from_slice_get seats_after i s s e) (covered i s (slice_get_within seats_after i s e))

    all-did : AllDid m by d lines xs outs ys log
    all-did i x at =
        let lt : i < length vs = subst (λ k. i < k) count-is (slice_get_within xs i x at) in
        let f = member-at vs i lt in
        let v = f.0 in
        let one = played-at i v f.1 in
        let s = one.s in
        let new = fresh i s one.seat_at in
        let same : one.x ≡ x = one-of one.x x (sym one.at ∙ at) in
        let cov = cover i v.seat (map-get (λ v. v.seat) vs i v f.1) in
        let number : v.seat.number ≡ s.number = ap (λ (t : SeatValue (Authority C Rules Doc Reason) Rules (Request C)). t.number) one.did.worked.seat.0 in
        let did : Did m by d (own_lines i lines) s.number one.x v.outcomes.items v.member log =
        worked-did m by d (own_lines i lines) one.x s v.outcomes.items v.member v.seat log one.did.worked new.seen cov.begins
        (subst (λ k. calls_of k log ≡ calls_of k v.seat.seen) number cov.calls) in (
          v.outcomes.items,
          v.member,
          map-get (λ v. v.outcomes.items) vs i v f.1,
          map-get (λ v. v.member) vs i v f.1,
          subst (λ z. Did m by d (own_lines i lines) i z v.outcomes.items v.member log) same
              (subst (λ k. Did m by d (own_lines i lines) k one.x v.outcomes.items v.member log) new.number did),
        )

    played-apart : (a : Authority C Rules Doc Reason) → a ≡ state_at (after_request m) d.opening.rules d.opening.machine log
        → PlayedApart m d.opening.rules by (length raw) (opened doc raw) lines log left outs (room_of a ys)
    played-apart a ended =
        let suits : LinesSuit (desk_room m by d xs) lines = record { earlier = p.suit.earlier; counted = p.suit.counted; suit = p.suit.suit } in
        let n : length xs ≡ length raw = new-count Rules Doc Reason C doc raw in
        let within : All (λ past. past.seat < length xs) log = subst (λ k. All (λ (past : Past (Request C)). past.seat < k) log) (sym count-is) calls in
        let t = crew-threaded m by d lines xs outs ys log suits within all-did in
        let long : length left ≡ length xs = length-map (λ v. v.lines.items) vs ∙ sym count-is in
        let told : length outs ≡ length xs = length-map (λ v. v.outcomes.items) vs ∙ sym count-is in
        let stay : length ys ≡ length xs = length-map (λ v. v.member) vs ∙ sym count-is in
        let turns : Each (λ line. line.client < length xs) (ordered (length xs) lines log) =
        subst (λ k. Each (λ (line : Line Op C). line.client < k) (ordered (length xs) lines log)) (length-map is_raw xs)
        (suit-within (ordered (length xs) lines log) (kinds_of xs) t.suit.earlier (ordered (length xs) lines log) t.suit.suit) in
        subst (λ k. PlayedApart m d.opening.rules by k (opened doc raw) lines log left outs (room_of a ys)) n
        (record {
          own_each = long;
          outcomes_each = told;
          calls = within;
          turns = all-turns (length xs) (ordered (length xs) lines log) turns;
          callers_are = t.callers_are;
          suit = record { earlier = t.suit.earlier; counted = t.suit.counted; suit = t.suit.suit };
          lines_are = deals-lines (ordered (length xs) lines log) left (subst (λ k. Each (λ (line : Line Op C). line.client < k) (ordered (length xs) lines log)) (sym long) turns) (λ i lt.
              let f = member-at vs i (subst (λ k. i < k) (length-map (λ v. v.lines.items) vs) lt) in
              t.own i ∙ sym (played-at i f.0 f.1).did.lines_are ∙ sym (get_or_from_slice_get left i f.0.lines.items [] (map-get (λ v. v.lines.items) vs i f.0 f.1)));
          plays = ap (λ b. (dealt (turns_of (length xs) lines log) outs, room_of b ys)) ended
              ∙ crew-session m by d lines xs outs ys log suits within all-did told stay
              ∙ ap (λ b. session m d.opening.rules by (room_of b xs) (ordered (length xs) lines log)) p.opening.machine;
        })

    -- The same of what the workers leave.
    pub left-apart : (a : Authority C Rules Doc Reason) → a ≡ state_at (after_request m) d.opening.rules d.opening.machine log
        → (ms : List (Member C Rules Doc Reason)) (ls : List (Vec (Line Op C) Global)) (os : List (Vec (Outcome C Rules Doc Reason) Global))
        → ms ≡ ys → ls ≡ map (λ v. v.lines) vs → os ≡ map (λ v. v.outcomes) vs
        → PlayedApart m d.opening.rules by (length raw) (opened doc raw) lines log (map (λ l. l.items) ls) (map (λ l. l.items) os) (room_of a ms)
    left-apart a ended ms ls os members own came =
        let lines_are : left ≡ map (λ l. l.items) ls = sym (ap (map (λ l. l.items)) own ∙ map-map (λ l. l.items) (λ v. v.lines) vs) in
        let outcomes_are : outs ≡ map (λ l. l.items) os = sym (ap (map (λ l. l.items)) came ∙ map-map (λ l. l.items) (λ v. v.outcomes) vs) in
        let one = played-apart a ended in
        let two = subst (λ l. PlayedApart m d.opening.rules by (length raw) (opened doc raw) lines log l outs (room_of a ys)) lines_are one in
        let three = subst (λ l. PlayedApart m d.opening.rules by (length raw) (opened doc raw) lines log (map (λ l. l.items) ls) l (room_of a ys)) outcomes_are two in
        subst (λ l. PlayedApart m d.opening.rules by (length raw) (opened doc raw) lines log (map (λ l. l.items) ls) (map (λ l. l.items) os) (room_of a l)) (sym members) three

  -- The same of what was told as the workers left and the desk was closed.
  pub left-of : (ss : List (SeatValue (Authority C Rules Doc Reason) Rules (Request C))) → ss ≡ seats_after → (log : List (Past (Request C))) → All (λ s. IsCovered log s) ss
      → All (λ past. past.seat < length ss) log → (a : Authority C Rules Doc Reason) → a ≡ state_at (after_request m) d.opening.rules d.opening.machine log
      → (ms : List (Member C Rules Doc Reason)) (ls : List (Vec (Line Op C) Global)) (os : List (Vec (Outcome C Rules Doc Reason) Global))
      → ms ≡ map (λ v. v.member) vs → ls ≡ map (λ v. v.lines) vs → os ≡ map (λ v. v.outcomes) vs
      → PlayedApart m d.opening.rules by (length raw) (opened doc raw) lines log (map (λ l. l.items) ls) (map (λ l. l.items) os) (room_of a ms)
  left-of ss seats log covered calls a ended ms ls os members own came =
      left-apart log (subst (λ l. All (λ s. IsCovered log s) l) seats covered)
      (subst (λ n. All (λ (past : Past (Request C)). past.seat < n) log) (ap length seats ∙ length-map (λ v. v.seat) vs) calls) a ended ms ls os members own came

-- Hired workers that played all their lines are the clients of the room that played their own.
pub workers-played : {Rules Doc Reason C Op : Type 0} (m : Meaning Rules Doc Reason C) (makes : Rules → Doc → Op → Result (List C) NoStep)
    (d : DeskValue (Authority C Rules Doc Reason) Rules) (doc : Doc) (raw : List Bool) (lines : List (Line Op C)) (ws vs : List (Worker C Op Rules Doc Reason))
    → Hired m d doc raw lines ws → AllWorked m (makes d.opening.rules) d ws vs → AllPlayed m makes d doc raw lines vs
workers-played {Rules} {Doc} {Reason} {C} {Op} m makes d doc raw lines ws vs h p = record {
  opening = h.opening;
  some = h.some;
  suit = h.suit;
  count = p.count ∙ hired-count m d doc raw lines ws h;
  each = λ i x s v at seat_at v_at.
      let lt : i < length ws = subst (λ k. i < k) p.count (slice_get_within vs i v v_at) in
      let f = member-at ws i lt in
      let w = f.0 in
      let was : get_or ws i w ≡ w = get_or_from_slice_get ws i w w f.1 in
      let is : get_or vs i w ≡ v = get_or_from_slice_get vs i v w v_at in
      let own : w.lines.items ≡ own_lines i lines = h.own i w f.1 in
      let member : w.member ≡ x = one-of w.member x (sym (member-is m d doc raw lines ws h i w f.1) ∙ at) in
      let seat : w.seat ≡ s = one-of w.seat s (sym (seat-is m d doc raw lines ws h i w f.1) ∙ seat_at) in
      let did : Worked m (makes d.opening.rules) d w.lines.items w.member w.seat v.outcomes.items v.member v.seat =
      subst (λ (y : Worker C Op Rules Doc Reason). Worked m (makes d.opening.rules) d y.lines.items y.member y.seat v.outcomes.items v.member v.seat) was
      (subst (λ (y : Worker C Op Rules Doc Reason). Worked m (makes d.opening.rules) d (get_or ws i w).lines.items (get_or ws i w).member (get_or ws i w).seat y.outcomes.items y.member y.seat) is (p.worked i w lt)) in
      record {
        lines_are = ap (λ (y : Worker C Op Rules Doc Reason). y.lines.items) (sym is) ∙ ap (λ l. l.items) (p.lines i w lt)
            ∙ ap (λ (y : Worker C Op Rules Doc Reason). y.lines.items) was ∙ own;
        worked = subst (λ t. Worked m (makes d.opening.rules) d (own_lines i lines) x t v.outcomes.items v.member v.seat) seat
            (subst (λ y. Worked m (makes d.opening.rules) d (own_lines i lines) y w.seat v.outcomes.items v.member v.seat) member
            (subst (λ l. Worked m (makes d.opening.rules) d l w.member w.seat v.outcomes.items v.member v.seat) own did));
      };
}

-- The room after clients that played apart is sound.
pub apart-sound : {Rules Doc Reason C Op : Type 0} (m : Meaning Rules Doc Reason C) (rules : Rules) (laws : Laws m) (makes : Doc → Op → Result (List C) NoStep) (n : ℕ) (doc : Doc) (raw : List Bool)
    (lines : List (Line Op C)) (log : List (Past (Request C))) (own : List (List (Line Op C))) (outcomes : List (List (Outcome C Rules Doc Reason))) (end : State C Rules Doc Reason)
    → m.is_good rules doc → PlayedApart m rules makes n (opened doc raw) lines log own outcomes end → Sound m rules end
apart-sound m rules laws makes n doc raw lines log own outcomes end good p =
    subst (λ s. Sound m rules s) (sym (ap (λ q. q.1) p.plays)) (session-sound m rules laws makes (opened doc raw) (ordered n lines log) (opened-sound doc m rules raw good) p.suit)
