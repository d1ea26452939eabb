-- What callers see of a desk and of a seat.
use Rattle.std.specs.Prelude.{◌≡◌, ℕ, ◌+◌, List, [], ◌∷◌, ◌++◌, Option, Some, ◌⊎◌}
use mathlib.Core.Option.{some}
use lib.ListN.{get_elem?}
use Rattle.atomic_table.specs.Seated.{TableId}
use Rattle.pm_desk.specs.declared.history.Past.{Past}
use Rattle.pm_desk.specs.declared.history.Joined.{Joined}
use Rattle.pm_desk.specs.declared.history.Opening.{Opening}
use Rattle.pm_desk.specs.declared.history.View.{View}
use Rattle.pm_desk.specs.Histories.{state_at, calls_of, past, StartsWith, Owned}
use Rattle.pm_desk.specs.Turns.{longer}

-- a desk, and the machine and rules with which it was opened
pub record DeskValue (M R : Type 0) : Type 0 where
  pub table : TableId
  pub opening : Opening M R

-- a seat: its desk, its number, what it has seen, how many seats were split from it, and those that are joined
pub record SeatValue (M R Q : Type 0) : Type 0 where
  pub table : TableId
  pub opening : Option (Opening M R)
  pub number : ℕ
  pub seen : List (Past Q)
  pub splits : ℕ
  pub joined : List (Joined Q)

module _ {M R Q : Type 0} where
  -- what callers see of a seat with this view
  abbrev pub seat_value : TableId → View M R Q → SeatValue M R Q
  seat_value table v = record { table = table; opening = v.desk; number = v.number; seen = v.seen; splits = v.splits; joined = v.joined }

  -- the seat is of the desk
  abbrev pub IsSeatOf : DeskValue M R → SeatValue M R Q → Type 0
  IsSeatOf d s = (s.table ≡ d.table) × (s.opening ≡ Some d.opening)

  -- the desk's first seat, which has seen nothing
  abbrev pub first_seat : DeskValue M R → SeatValue M R Q
  first_seat d = record { table = d.table; opening = Some d.opening; number = 0; seen = []; splits = 0; joined = [] }

  -- the first seat after a split, and the seat that was split off, which has seen what the first has
  abbrev pub after_split : SeatValue M R Q → SeatValue M R Q
  after_split s = record s { splits = s.splits + 1 }

  abbrev pub new_seat : SeatValue M R Q → SeatValue M R Q
  new_seat s = record s { number = s.splits + 1; splits = 0; joined = [] }

  -- the first seat after it took in another: it has seen the longer of both, and keeps the other's number and what it had seen
  abbrev pub after_join : SeatValue M R Q → SeatValue M R Q → SeatValue M R Q
  after_join s t = record s { seen = longer s.seen t.seen; joined = s.joined ++ record { number = t.number; seen = t.seen } ∷ [] }

  -- The reply to q is the machine's at the end of a history, `before`. That history begins with all that the seat had
  -- seen, and of the seat's calls it has those that the seat had seen and no other. The seat t has then seen this history
  -- and its call, and else is as before. Each entry is its seat's own, and the machine was good and is good after the call.
  pub record Told {A : Type 0} (next : R → M → Q → M) (reply : R → M → Q → A) (good : R → M → Type 0) (own : ℕ → Q → Type 0) (opening : Opening M R) (s : SeatValue M R Q) (q : Q) (r : A) (t : SeatValue M R Q) : Type 0 where
    pub before : List (Past Q)
    pub begins : StartsWith before s.seen
    pub calls : calls_of s.number before ≡ calls_of s.number s.seen
    pub seen : t ≡ record s { seen = before ++ past s.number q ∷ [] }
    pub owned : Owned own before
    pub right : good opening.rules (state_at next opening.rules opening.machine before)
    pub right_after : good opening.rules (next opening.rules (state_at next opening.rules opening.machine before) q)
    pub reply_is : r ≡ reply opening.rules (state_at next opening.rules opening.machine before) q

  -- A closed history, where each seat that was split from the first is joined to it. It begins with what the first seat
  -- and each joined one had seen, and has no further call of theirs. Each entry is the first seat's or a joined one's,
  -- and is its seat's own.
  pub record IsWhole (own : ℕ → Q → Type 0) (s : SeatValue M R Q) (log : List (Past Q)) : Type 0 where
    pub begins : StartsWith log s.seen
    pub calls : calls_of 0 log ≡ calls_of 0 s.seen
    pub joined : (k : ℕ) (x : Joined Q) → get_elem? s.joined k ≡ some x → StartsWith log x.seen × (calls_of x.number log ≡ calls_of x.number x.seen)
    pub seats : (k : ℕ) (e : Past Q) → get_elem? log k ≡ some e → (e.seat ≡ 0) ⊎ ((j : ℕ) × (x : Joined Q) × (get_elem? s.joined j ≡ some x) × (x.number ≡ e.seat))
    pub owned : Owned own log

  -- The seat t stands where s stood before a call that got no reply, and that call is in no history: neither in the one at
  -- whose end a later reply to t is given, nor in the whole one that a desk leaves, be t its first seat or joined to it. Each
  -- has of the seat's calls those that s had seen, and no other.
  pub record AddsNoCall {A : Type 0} (next : R → M → Q → M) (reply : R → M → Q → A) (good : R → M → Type 0) (own : ℕ → Q → Type 0) (opening : Opening M R) (s t : SeatValue M R Q) : Type 0 where
    pub later : (q : Q) (r : A) (u : SeatValue M R Q) (told : Told next reply good own opening t q r u) → calls_of s.number told.before ≡ calls_of s.number s.seen
    pub whole : (log : List (Past Q)) → s.number ≡ 0 → IsWhole own t log → calls_of s.number log ≡ calls_of s.number s.seen
    pub joined : (first : SeatValue M R Q) (k : ℕ) (log : List (Past Q)) → get_elem? first.joined k ≡ some record { number = t.number; seen = t.seen } → IsWhole own first log
        → calls_of s.number log ≡ calls_of s.number s.seen
