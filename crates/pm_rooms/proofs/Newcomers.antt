-- The stands of rooms that are just opened.
use Rattle.std.specs.List.{AllByRecursion as Each}
use Rattle.std.proofs.Common.{◌≡◌, ℕ, zero, suc, ◌+◌, ◌≤◌, List, [], ◌∷◌, ◌++◌, length, slice_get, Some, refl, sym, ap, ◌∙◌, subst, arith}
use Rattle.pm_authority.specs.declared.authority.Authority.{Authority}
use Rattle.pm_authority.specs.declared.machine.Request.{Request}
use Rattle.pm_desk.specs.Desks.{DeskValue, SeatValue}
use Rattle.pm_session.specs.declared.member.Member.{Member}
use Rattle.pm_session.specs.Sessions.{new_members}
use Rattle.pm_workers.specs.Seatings.{seats_for}
use Rattle.pm_rooms.specs.declared.new_room.NewRoom.{NewRoom}
use Rattle.pm_rooms.specs.declared.stand.Stand.{Stand}
use Rattle.pm_rooms.specs.Opened.{stands_of, new_stands, all_stands}
use Rattle.pm_rooms.proofs.Shares.{each-append, AllDiffer, differ-append, Others, of-room, stands-differ, stand-at}

pub each-as : {A : Type 0} (P Q : A → Type 0) (xs : List A) → ((x : A) → P x → Q x) → Each P xs → Each Q xs
each-as P Q [] f h = tt
each-as P Q (x ∷ xs) f h = (f x h.0, each-as P Q xs f h.1)

-- an item of one list or of the next is an item of both together
pub in-front : {A : Type 0} (xs ys : List A) (k : ℕ) (x : A) → slice_get xs k ≡ Some x → slice_get (xs ++ ys) k ≡ Some x
in-front [] ys k x at = absurd (cc)
in-front (y ∷ xs) ys zero x at = at
in-front (y ∷ xs) ys (suc k) x at = in-front xs ys k x at

pub in-back : {A : Type 0} (xs ys : List A) (k : ℕ) (x : A) → slice_get ys k ≡ Some x → slice_get (xs ++ ys) (length xs + k) ≡ Some x
in-back [] ys k x at = let e : 0 + k ≡ k = omega arith in ap (slice_get ys) e ∙ at
in-back (y ∷ xs) ys k x at = let e : suc (length xs) + k ≡ suc (length xs + k) = omega arith in ap (slice_get (y ∷ xs ++ ys)) e ∙ in-back xs ys k x at

module _ {Rules Doc Reason C : Type 0} where
  record InRoom (r k : ℕ) (ms : List (Member C Rules Doc Reason)) (ss : List (SeatValue (Authority C Rules Doc Reason) Rules (Request C))) (x : Stand C Rules Doc Reason) : Type 0 where
    i : ℕ
    room : x.room ≡ r
    client : x.client ≡ k + i
    member : slice_get ms i ≡ Some x.member
    seat : slice_get ss i ≡ Some x.seat

  in-room : (r k : ℕ) (ms : List (Member C Rules Doc Reason)) (ss : List (SeatValue (Authority C Rules Doc Reason) Rules (Request C))) → Each (λ x. InRoom r k ms ss x) (stands_of r k ms ss)
  in-room r k [] ss = tt
  in-room r k (m ∷ ms) [] = tt
  in-room r k (m ∷ ms) (s ∷ ss) = (
    record { i = zero; room = refl; client = omega arith; member = refl; seat = refl },
    each-as (λ x. InRoom r (k + 1) ms ss x) (λ x. InRoom r k (m ∷ ms) (s ∷ ss) x) (stands_of r (k + 1) ms ss)
        (λ x h. let e : (k + 1) + h.i ≡ k + suc h.i = omega arith in record { i = suc h.i; room = h.room; client = h.client ∙ e; member = h.member; seat = h.seat }) (in-room r (k + 1) ms ss),
  )

module _ {Rules Doc Reason C Op : Type 0} where
  -- the stand is that of client i of the room r, counted from room k, of these rooms
  pub record IsNew (k : ℕ) (rooms : List (NewRoom C Op Rules Doc Reason)) (desks : List (DeskValue (Authority C Rules Doc Reason) Rules)) (x : Stand C Rules Doc Reason) : Type 0 where
    pub r : ℕ
    pub room : NewRoom C Op Rules Doc Reason
    pub d : DeskValue (Authority C Rules Doc Reason) Rules
    pub room_is : x.room ≡ k + r
    pub at : slice_get rooms r ≡ Some room
    pub desk_at : slice_get desks r ≡ Some d
    pub member_at : slice_get (new_members room.doc 0 room.raw.items) x.client ≡ Some x.member
    pub seat_at : slice_get (seats_for d (length room.raw.items)) x.client ≡ Some x.seat

  pub all-new : (k : ℕ) (rooms : List (NewRoom C Op Rules Doc Reason)) (desks : List (DeskValue (Authority C Rules Doc Reason) Rules)) → Each (λ x. IsNew k rooms desks x) (all_stands k rooms desks)
  all-new k [] desks = tt
  all-new k (room ∷ rooms) [] = tt
  all-new k (room ∷ rooms) (d ∷ desks) =
      let ms = new_members room.doc 0 room.raw.items in
      let ss = seats_for d (length room.raw.items) in
      each-append (λ x. IsNew k (room ∷ rooms) (d ∷ desks) x) (stands_of k 0 ms ss) (all_stands (k + 1) rooms desks)
      (each-as (λ x. InRoom k 0 ms ss x) (λ x. IsNew k (room ∷ rooms) (d ∷ desks) x) (stands_of k 0 ms ss)
      (λ x h.
      let n : k ≡ k + zero = omega arith in
      let e : h.i ≡ x.client = omega (arith, h.client) in
      record {
        r = zero;
        room = room;
        d = d;
        room_is = h.room ∙ n;
        at = refl;
        desk_at = refl;
        member_at = subst (λ j. slice_get ms j ≡ Some x.member) e h.member;
        seat_at = subst (λ j. slice_get ss j ≡ Some x.seat) e h.seat;
      }) (in-room k 0 ms ss))
      (each-as (λ x. IsNew (k + 1) rooms desks x) (λ x. IsNew k (room ∷ rooms) (d ∷ desks) x) (all_stands (k + 1) rooms desks)
      (λ x h. let e : (k + 1) + h.r ≡ k + suc h.r = omega arith in record {
        r = suc h.r;
        room = h.room;
        d = h.d;
        room_is = h.room_is ∙ e;
        at = h.at;
        desk_at = h.desk_at;
        member_at = h.member_at;
        seat_at = h.seat_at;
      }) (all-new (k + 1) rooms desks))

  -- the stand of a client of a room is there
  pub new-there : (k : ℕ) (rooms : List (NewRoom C Op Rules Doc Reason)) (desks : List (DeskValue (Authority C Rules Doc Reason) Rules)) (r : ℕ) (room : NewRoom C Op Rules Doc Reason)
      (d : DeskValue (Authority C Rules Doc Reason) Rules) (i : ℕ) (x : Member C Rules Doc Reason) (s : SeatValue (Authority C Rules Doc Reason) Rules (Request C))
      → slice_get rooms r ≡ Some room → slice_get desks r ≡ Some d → slice_get (new_members room.doc 0 room.raw.items) i ≡ Some x → slice_get (seats_for d (length room.raw.items)) i ≡ Some s
      → (j : ℕ) × (slice_get (all_stands k rooms desks) j ≡ Some (record { room = k + r; client = i; member = x; seat = s }))
  new-there k [] desks r room d i x s at desk_at member seat = absurd (cc)
  new-there k (q ∷ rooms) [] r room d i x s at desk_at member seat = absurd (cc)
  new-there k (q ∷ rooms) (b ∷ desks) zero room d i x s at desk_at member seat =
      let e : q ≡ room = cc in
      let f : b ≡ d = cc in
      let n : k ≡ k + zero = omega arith in
      let z : 0 + i ≡ i = omega arith in
      let here : slice_get (new_stands k q b) i ≡ Some (record { room = k; client = 0 + i; member = x; seat = s }) =
      stand-at k 0 (new_members q.doc 0 q.raw.items) (seats_for b (length q.raw.items)) i x s
      (subst (λ (p : NewRoom C Op Rules Doc Reason). slice_get (new_members p.doc 0 p.raw.items) i ≡ Some x) (sym e) member)
      (subst (λ (p : NewRoom C Op Rules Doc Reason). slice_get (seats_for b (length p.raw.items)) i ≡ Some s) (sym e) (subst (λ c. slice_get (seats_for c (length room.raw.items)) i ≡ Some s) (sym f) seat)) in (
        i,
        in-front (new_stands k q b) (all_stands (k + 1) rooms desks) i (record { room = k; client = 0 + i; member = x; seat = s }) here
            ∙ ap (λ j. Some (record { room = k; client = j; member = x; seat = s })) z ∙ ap (λ j. Some (record { room = j; client = i; member = x; seat = s })) n,
      )
  new-there k (q ∷ rooms) (b ∷ desks) (suc r) room d i x s at desk_at member seat =
      let f = new-there (k + 1) rooms desks r room d i x s at desk_at member seat in
      let n : (k + 1) + r ≡ k + suc r = omega arith in (
        length (new_stands k q b) + f.0,
        in-back (new_stands k q b) (all_stands (k + 1) rooms desks) f.0 (record { room = (k + 1) + r; client = i; member = x; seat = s }) f.1
            ∙ ap (λ j. Some (record { room = j; client = i; member = x; seat = s })) n,
      )

  from-room : (k : ℕ) (rooms : List (NewRoom C Op Rules Doc Reason)) (desks : List (DeskValue (Authority C Rules Doc Reason) Rules)) → Each (λ x. k ≤ x.room) (all_stands k rooms desks)
  from-room k rooms desks = each-as (λ x. IsNew k rooms desks x) (λ x. k ≤ x.room) (all_stands k rooms desks) (λ x h. omega (arith, h.room_is)) (all-new k rooms desks)

  -- no two stands are of one client
  pub all-differ : (k : ℕ) (rooms : List (NewRoom C Op Rules Doc Reason)) (desks : List (DeskValue (Authority C Rules Doc Reason) Rules)) → AllDiffer Others (all_stands k rooms desks)
  all-differ k [] desks = tt
  all-differ k (room ∷ rooms) [] = tt
  all-differ k (room ∷ rooms) (d ∷ desks) =
      let ms = new_members room.doc 0 room.raw.items in
      let ss = seats_for d (length room.raw.items) in
      let later = all_stands (k + 1) rooms desks in
      differ-append Others (stands_of k 0 ms ss) later (stands-differ k 0 ms ss) (all-differ (k + 1) rooms desks)
      (each-as (λ x. x.room ≡ k × 0 ≤ x.client) (λ x. Each (Others x) later) (stands_of k 0 ms ss)
      (λ x h. each-as (λ y. k + 1 ≤ y.room) (Others x) later (λ y lt same other. absurd (omega (arith, lt, same, h.0))) (from-room (k + 1) rooms desks)) (of-room k 0 ms ss))
