-- The rule of a desk's table. Its one word is the turn, 0 while it is free.
use Rattle.std.specs.Prelude.{◌≡◌, ◌≢◌, ℕ, ◌+◌, ◌<◌, ◌≤◌, List, [], ◌∷◌, ◌++◌, length, slice_index, true, false, cond, ◌==◌, Some, None, ◌⊎◌}
use Rattle.std.proofs.Common.{ltb}
use mathlib.Core.Option.{some}
use lib.ListN.{get_elem?}
use Rattle.atomic_table.specs.Table.{State, Me, Step, rest}
use Rattle.atomic_table.specs.Seated.{TableId}
use Rattle.atomic_table.specs.declared.shared.Seat.{Seat}
use Rattle.pm_desk.specs.declared.history.Past.{Past}
use Rattle.pm_desk.specs.declared.history.Joined.{Joined}
use Rattle.pm_desk.specs.declared.history.Opening.{Opening}
use Rattle.pm_desk.specs.declared.history.Stored.{Stored}
use Rattle.pm_desk.specs.declared.history.View.{View}
use Rattle.pm_desk.specs.Histories.{state_at, calls_of, past, StartsWith, Owned}

-- n is one of these
abbrev pub Among : List ℕ → ℕ → Type 0
Among ns n = (k : ℕ) × (get_elem? ns k ≡ some n)

-- all of these but the first n
abbrev pub without : ℕ → List ℕ → List ℕ
without n [] = []
without n (m ∷ ms) = cond (m == n) ms (m ∷ without n ms)

-- the longer of two lists
abbrev pub longer : {A : Type 0} → List A → List A → List A
longer xs ys = cond (ltb (length xs) (length ys)) ys xs

-- a seat in the table: its view, and the slot values that it holds
abbrev pub Sat : Type 0 → Type 0 → Type 0 → Type 0
Sat M R Q = Me (Stored M Q) (View M R Q)

-- what a desk was opened with
abbrev pub opened : {M R : Type 0} → M → R → Opening M R
opened m r = record { machine = m; rules = r }

module _ {M R Q : Type 0} where
  -- the view of a seat that has seen this much, and of a seat that another took in
  abbrev pub newcomer : Opening M R → ℕ → List (Past Q) → View M R Q
  newcomer about n seen = record { desk = Some about; number = n; turn = false; seen = seen; had = seen; kept = []; splits = 0; out = []; joined = [] }

  abbrev pub spent : View M R Q
  spent = record { desk = None; number = 0; turn = false; seen = []; had = []; kept = []; splits = 0; out = []; joined = [] }

  -- the number is the first seat's, or one that was split from it
  abbrev pub Known : View M R Q → ℕ → Type 0
  Known v n = (n ≡ 0) ⊎ (Among v.out n ⊎ ((k : ℕ) × (x : Joined Q) × (get_elem? v.joined k ≡ some x) × (x.number ≡ n)))

  -- what the first seat knows of the others
  pub record First (log : List (Past Q)) (v : View M R Q) : Type 0 where
    pub known : (k : ℕ) (e : Past Q) → get_elem? log k ≡ some e → Known v e.seat
    pub joined : (k : ℕ) (x : Joined Q) → get_elem? v.joined k ≡ some x → StartsWith log x.seen × (calls_of x.number log ≡ calls_of x.number x.seen) × (0 < x.number) × (x.number ≤ v.splits)
    pub out : (n : ℕ) → Among v.out n → (0 < n) × (n ≤ v.splits)
    pub total : length v.out + length v.joined ≡ v.splits

  -- what holds of one live view
  pub record Fits (turn : ℕ) (log : List (Past Q)) (v : View M R Q) : Type 0 where
    pub seen : StartsWith log v.seen
    pub calls : calls_of v.number log ≡ calls_of v.number v.seen
    pub had : StartsWith log v.had
    pub had_calls : calls_of v.number log ≡ calls_of v.number v.had
    pub turn_is : v.turn ≡ true → (turn ≡ 1) × (v.kept ≡ log)
    pub first : v.number ≡ 0 → First log v

  -- what holds of two live views
  pub record Apart (v w : View M R Q) : Type 0 where
    pub numbers : v.number ≢ w.number
    pub turns : v.turn ≡ true → w.turn ≡ true → ⊥
    pub out : v.number ≡ 0 → Among v.out w.number
    pub joined : v.number ≡ 0 → (k : ℕ) (x : Joined Q) → get_elem? v.joined k ≡ some x → x.number ≢ w.number

  -- the value stores the whole history, and its machine is the one that the history leaves
  abbrev pub AtEnd : (R → M → Q → M) → (R → M → Type 0) → Opening M R → List (Past Q) → Stored M Q → Type 0
  AtEnd next good about log x = (x.history.items ≡ log) × (x.machine ≡ state_at next about.rules about.machine log) × good about.rules x.machine

  module _ (next : R → M → Q → M) (good : R → M → Type 0) (own : ℕ → Q → Type 0) (about : Opening M R) where
    -- What holds of the table between any two steps. A spent view is excepted from each part.
    pub record Kept (s : State (Stored M Q) (View M R Q)) : Type 0 where
      pub log : List (Past Q)
      pub wide : length s.words ≡ 1
      pub owned : Owned own log
      pub each : (j : ℕ) (v : View M R Q) → get_elem? s.views j ≡ some v → v.desk ≡ Some about → Fits (slice_index s.words 0) log v
      pub apart : (i j : ℕ) (v w : View M R Q) → i ≢ j → get_elem? s.views i ≡ some v → v.desk ≡ Some about → get_elem? s.views j ≡ some w → w.desk ≡ Some about → Apart v w
      pub busy : slice_index s.words 0 ≢ 0 → (j : ℕ) × (v : View M R Q) × (get_elem? s.views j ≡ some v) × (v.desk ≡ Some about) × (v.turn ≡ true)
      pub home : slice_index s.words 0 ≡ 0 → (x : Stored M Q) × (get_elem? s.homes 0 ≡ some (some x)) × AtEnd next good about log x

  -- the view of the seat that takes the turn
  abbrev pub with_turn : View M R Q → List (Past Q) → View M R Q
  with_turn v log = record v { turn = true; kept = log }

  -- and after it let the turn go
  abbrev pub without_turn : View M R Q → View M R Q
  without_turn v = record v { turn = false; kept = [] }

  -- one more call
  abbrev pub counting : View M R Q → List (Past Q) → View M R Q
  counting v log = record v { seen = log; had = log; kept = log }

  -- the first seat after a split, and the new one
  abbrev pub with_split : View M R Q → View M R Q
  with_split v = record v { splits = v.splits + 1; out = v.out ++ (v.splits + 1) ∷ [] }

  abbrev pub split_off : View M R Q → View M R Q
  split_off v = record { desk = v.desk; number = v.splits + 1; turn = false; seen = v.seen; had = v.seen; kept = []; splits = 0; out = []; joined = [] }

  abbrev pub joined_of : View M R Q → Joined Q
  joined_of w = record { number = w.number; seen = w.seen }

  -- the first seat after it took in another
  abbrev pub with_joined : View M R Q → View M R Q → View M R Q
  with_joined v w = record v { seen = longer v.seen w.seen; had = v.seen; out = without w.number v.out; joined = v.joined ++ joined_of w ∷ [] }

  -- the seat has the turn, and holds the value
  abbrev pub Seized : (R → M → Q → M) → (R → M → Type 0) → Sat M R Q → Sat M R Q → Type 0
  Seized next good m n = (about : Opening M R) → m.0.desk ≡ Some about → (x : Stored M Q) × (n.0 ≡ with_turn m.0 x.history.items) × (n.1 ≡ (0, x) ∷ m.1) × AtEnd next good about x.history.items x

  -- a try finds the turn taken, and nothing changes, or takes it
  abbrev pub tried : (R → M → Q → M) → (R → M → Type 0) → Step (Stored M Q) → Sat M R Q → ℕ → Sat M R Q → Type 0
  tried next good st m r n = (r ≢ 0 → n ≡ m) × (r ≡ 0 → Seized next good m n)

  -- The seat's call stands at the end of this history, and the turn is free. What came before begins with all that the
  -- seat had seen.
  abbrev pub Counted : (ℕ → Q → Type 0) → List (Past Q) → View M R Q → View M R Q → Type 0
  Counted own log v w = (w ≡ without_turn (counting v log)) × StartsWith v.kept v.seen × (calls_of v.number v.kept ≡ calls_of v.number v.seen) × Owned own v.kept

  -- What a release tells. The value that the seat releases has the history as the seat found it, or one call more.
  pub record Released (own : ℕ → Q → Type 0) (m n : Sat M R Q) : Type 0 where
    pub rests : n.1 ≡ rest m.1
    pub as_found : (x : Stored M Q) → m.1 ≡ (0, x) ∷ [] → x.history.items ≡ m.0.kept → n.0 ≡ without_turn m.0
    pub counted : (x : Stored M Q) (e : Past Q) → m.1 ≡ (0, x) ∷ [] → x.history.items ≡ m.0.kept ++ e ∷ [] → Counted own (m.0.kept ++ e ∷ []) m.0 n.0

  abbrev pub released : (ℕ → Q → Type 0) → Step (Stored M Q) → Sat M R Q → ℕ → Sat M R Q → Type 0
  released own st m r n = Released own m n

  -- What a read tells of a seat: it and the seats that it took in know beginnings of one history, with all calls of theirs.
  -- To the first seat it tells also that no entry has a number that is not yet given.
  pub record Sees (v : View M R Q) : Type 0 where
    pub log : List (Past Q)
    pub seen : StartsWith log v.seen
    pub calls : calls_of v.number log ≡ calls_of v.number v.seen
    pub had : StartsWith log v.had
    pub had_calls : calls_of v.number log ≡ calls_of v.number v.had
    pub joined : v.number ≡ 0 → (k : ℕ) (x : Joined Q) → get_elem? v.joined k ≡ some x → StartsWith log x.seen × (calls_of x.number log ≡ calls_of x.number x.seen)
    pub given : v.number ≡ 0 → (k : ℕ) (e : Past Q) → get_elem? log k ≡ some e → e.seat ≤ v.splits

  -- a read changes nothing
  abbrev pub looked : Step (Stored M Q) → Sat M R Q → ℕ → Sat M R Q → Type 0
  looked st m r n = (n ≡ m) × Sees m.0

  -- the seat is of the desk that was opened so, and it holds nothing
  abbrev pub AtRest : Opening M R → Sat M R Q → Type 0
  AtRest about m = (m.0.desk ≡ Some about) × (m.1 ≡ []) × (m.0.turn ≡ false) × (m.0.kept ≡ [])

  -- the seat holds a value at the end of this history
  abbrev pub HoldsEnd : (R → M → Q → M) → (R → M → Type 0) → Opening M R → List (Past Q) → Sat M R Q → Type 0
  HoldsEnd next good about log m = (x : Stored M Q) × (m.1 ≡ (0, x) ∷ []) × AtEnd next good about log x

  -- the seat has the turn, and holds the value
  abbrev pub HasTurn : (R → M → Q → M) → (R → M → Type 0) → Opening M R → View M R Q → Sat M R Q → Type 0
  HasTurn next good about v m = (log : List (Past Q)) × (m.0 ≡ with_turn v log) × HoldsEnd next good about log m

  -- the seat is of the desk with this table
  abbrev pub IsOf : TableId → Opening M R → Seat (Stored M Q) (View M R Q) → Type 0
  IsOf table about token = (token.table_id ≡ table) × AtRest about token.me

  -- the reply to q is the machine's at the end of a history that begins with all that the seat had seen, and in which
  -- the calls of the seat's number are those that it had seen. The seat has then seen this history and its call
  pub record Answered {A : Type 0} (next : R → M → Q → M) (reply : R → M → Q → A) (good : R → M → Type 0) (own : ℕ → Q → Type 0) (about : Opening M R) (v : View M R Q) (q : Q) (r : A) (w : View M R Q) : Type 0 where
    pub before : List (Past Q)
    pub begins : StartsWith before v.seen
    pub calls : calls_of v.number before ≡ calls_of v.number v.seen
    pub seen : w ≡ record v { seen = before ++ past v.number q ∷ []; had = before ++ past v.number q ∷ [] }
    pub owned : Owned own before
    pub right : good about.rules (state_at next about.rules about.machine before)
    pub right_after : good about.rules (next about.rules (state_at next about.rules about.machine before) q)
    pub reply_is : r ≡ reply about.rules (state_at next about.rules about.machine before) q

  -- what the first seat knows of a closed history, where each seat that was split from it is joined
  pub record Ending (own : ℕ → Q → Type 0) (v : View M R Q) (log : List (Past Q)) : Type 0 where
    pub begins : StartsWith log v.seen
    pub calls : calls_of 0 log ≡ calls_of 0 v.seen
    pub joined : (k : ℕ) (x : Joined Q) → get_elem? v.joined k ≡ some x → StartsWith log x.seen × (calls_of x.number log ≡ calls_of x.number x.seen)
    pub seats : (k : ℕ) (e : Past Q) → get_elem? log k ≡ some e → (e.seat ≡ 0) ⊎ ((j : ℕ) × (x : Joined Q) × (get_elem? v.joined j ≡ some x) × (x.number ≡ e.seat))
    pub owned : Owned own log
