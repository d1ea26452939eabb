-- Two meanings of an input as a file of many rooms agree.
use Rattle.std.proofs.Common.{◌≡◌, ◌+◌, ◌*◌, ℕ, zero, suc, Bool, true, false, List, [], ◌∷◌, ◌++◌, length, drop, map, refl, sym, subst, ap, ◌∙◌}
use Rattle.std.specs.Prelude.{position, slice_get, slice_set, nat_lt, nat_eq, codes, Option, Some, None, Result, Ok, Err, MatchBool, if◌then◌else◌}
use Rattle.std.specs.Cmp.Lexicographic.{pointwise}
use Rattle.serde_json.specs.Data.{Data}
use Rattle.pm_list.specs.Readings.{◌>>=◌, or_fault}
use Rattle.pm_head.specs.declared.form.Form.TheVariants.{Plain}
use Rattle.pm_head.specs.declared.code.Code.{Code}
use Rattle.pm_head.specs.declared.code.Code.TheVariants.{InputTooLong, NoSuchRoom, TooManyLines}
use Rattle.pm_head.specs.declared.fault.Refusal.{Refusal}
use Rattle.pm_head.specs.Refusals.{refused}
use Rattle.pm_head.specs.declared.reading.Head.{Head}
use Rattle.pm_head.specs.Heads.{HeadIs}
use Rattle.pm_head.specs.Lines.{lines_of, json_line}
use Rattle.pm_head.specs.Rooms.{rooms_line}
use Rattle.pm_head.specs.OneMeaning.{SameHead}
use Rattle.pm_head.proofs.OneHead.{head-apart, one-refusal as one-head-refusal, one-head}
use Rattle.pm_meaning.specs.Steps.{Step}
use Rattle.pm_ops.specs.declared.op.Op.{Op}
use Rattle.pm_session.specs.declared.line.Line.{Line}
use Rattle.pm_script.specs.declared.rooms.RoomSession.{RoomSession}
use Rattle.pm_script.specs.declared.rooms.TheConstants.{MAX_OPS}
use Rattle.pm_script.specs.declared.session.TheConstants.{MAX_INPUT}
use Rattle.pm_opjson.specs.Fields.{text_in}
use Rattle.pm_script.specs.Lines.{op_in}
use Rattle.pm_script.specs.Sessions.{at_line}
use Rattle.pm_script.specs.Rooms.{opened, moved, HeadBehind, AfterHead, AreOpened, room_in, room_op, with_op, room_with, rooms_with, room_line, rooms_behind, last_head, all_behind, BehindNames, RoomsOf, RoomsAre}
use Rattle.pm_script.specs.OneRooms.{SameRoom, SameRooms}
use Rattle.pm_script.proofs.SameLines.{op-in-alike}
use Rattle.pm_script.proofs.RoomLists.{position-map}
use Rattle.pm_script.proofs.RoomOps.{names_in}

-- two results, of which either both are these things, which are the same, or both are one fault
abbrev Alike : {A E : Type 0} → (A → A → Type 0) → Result A E → Result A E → Type 0
Alike Same (Ok x) (Ok y) = Same x y
Alike Same (Ok x) (Err f) = ⊥
Alike Same (Err e) (Ok y) = ⊥
Alike Same (Err e) (Err f) = e ≡ f

-- two results that are these
these : {A E : Type 0} (Same : A → A → Type 0) (r r' q q' : Result A E) → r ≡ r' → q ≡ q' → Alike Same r' q' → Alike Same r q
these Same r r' q q' e f a = subst (λ z. Alike Same z q) (sym e) (subst (Alike Same r') (sym f) a)

-- going on alike
then-alike : {A B E : Type 0} (Same : A → A → Type 0) (Next : B → B → Type 0) (r q : Result A E) (f g : A → Result B E)
    → Alike Same r q → ((x y : A) → Same x y → Alike Next (f x) (g y)) → Alike Next (r >>= f) (q >>= g)
then-alike Same Next (Ok x) (Ok y) f g a h = h x y a
then-alike Same Next (Ok x) (Err e) f g a h = absurd a
then-alike Same Next (Err e) (Ok y) f g a h = absurd a
then-alike Same Next (Err e) (Err d) f g a h = a

-- the same way from one result
from-one : {A B E : Type 0} (Next : B → B → Type 0) (r : Result A E) (f g : A → Result B E) → ((x : A) → Alike Next (f x) (g x)) → Alike Next (r >>= f) (r >>= g)
from-one Next (Ok x) f g h = h x
from-one Next (Err e) f g h = refl

line-alike : {A : Type 0} (Same : A → A → Type 0) (n : ℕ) (r q : Result A Code) → Alike Same r q → Alike Same (at_line n r) (at_line n q)
line-alike Same n (Ok x) (Ok y) a = a
line-alike Same n (Ok x) (Err e) a = absurd a
line-alike Same n (Err e) (Ok y) a = absurd a
line-alike Same n (Err e) (Err d) a = ap (refused n) a

-- ---- rooms that are the same

names-alike : (rs qs : List RoomSession) → SameRooms rs qs → names_in rs ≡ names_in qs
names-alike [] [] h = refl
names-alike [] (q ∷ qs) h = absurd h
names-alike (r ∷ rs) [] h = absurd h
names-alike (r ∷ rs) (q ∷ qs) h = (λ i. h.0.name i ∷ names_in rs) ∙ ap (λ l. q.name ∷ l) (names-alike rs qs h.1)

set-alike : (rs qs : List RoomSession) (i : ℕ) (r q : RoomSession) → SameRooms rs qs → SameRoom r q → SameRooms (slice_set rs i r) (slice_set qs i q)
set-alike [] [] i r q h s = tt
set-alike [] (y ∷ qs) i r q h s = absurd h
set-alike (x ∷ rs) [] i r q h s = absurd h
set-alike (x ∷ rs) (y ∷ qs) zero r q h s = (s, h.1)
set-alike (x ∷ rs) (y ∷ qs) (suc i) r q h s = (h.0, set-alike rs qs i r q h.1 s)

get-alike : (rs qs : List RoomSession) (i : ℕ) → SameRooms rs qs → Alike SameRoom (or_fault NoSuchRoom (slice_get rs i)) (or_fault NoSuchRoom (slice_get qs i))
get-alike [] [] i h = refl
get-alike [] (q ∷ qs) i h = absurd h
get-alike (r ∷ rs) [] i h = absurd h
get-alike (r ∷ rs) (q ∷ qs) zero h = h.0
get-alike (r ∷ rs) (q ∷ qs) (suc i) h = get-alike rs qs i h.1

place-alike : (rs qs : List RoomSession) (d : Data) → SameRooms rs qs → room_in rs d ≡ room_in qs d
place-alike rs qs d h =
    λ i. text_in (codes "room") d >>= (λ text. or_fault NoSuchRoom (places text i))
  where
    places : (text : List ℕ) → position (λ r. pointwise nat_eq text r.name) rs ≡ position (λ r. pointwise nat_eq text r.name) qs
    places text = sym (position-map (pointwise nat_eq text) (λ (r : RoomSession). r.name) rs) ∙ ap (position (pointwise nat_eq text)) (names-alike rs qs h) ∙ position-map (pointwise nat_eq text) (λ (r : RoomSession). r.name) qs

op-alike : (r q : RoomSession) (n : ℕ) (d : Data) → SameRoom r q → room_op r n d ≡ room_op q n d
op-alike r q n d h =
    op-in-alike r.session.head.schema.spec q.session.head.schema.spec h.session.head.types Plain r.session.head.clients r.session.lines n d
    ∙ (λ i. op_in Plain q.session.head.schema.spec (h.session.head.clients i) (h.session.lines i) n d)

with-alike : (r q : RoomSession) (op : Line Op Step) → SameRoom r q → SameRoom (with_op r op) (with_op q op)
with-alike r q op h = record { name = h.name; session = record { head = h.session.head; lines = ap (λ l. l ++ op ∷ []) h.session.lines } }

room-alike : (r q : RoomSession) (n : ℕ) (d : Data) → SameRoom r q → Alike SameRoom (room_with r n d) (room_with q n d)
room-alike r q n d h =
    subst (λ z. Alike SameRoom (room_with r n d) (z >>= (λ op. Ok (with_op q op)))) (op-alike r q n d h)
    (from-one SameRoom (room_op r n d) (λ op. Ok (with_op r op)) (λ op. Ok (with_op q op)) (λ op. with-alike r q op h))

value-alike : (rs qs : List RoomSession) (n : ℕ) (d : Data) → SameRooms rs qs → Alike SameRooms (rooms_with rs n d) (rooms_with qs n d)
unfolding rooms_with
value-alike rs qs n d h =
    subst (λ z. Alike SameRooms (rooms_with rs n d) (z >>= (λ i. or_fault NoSuchRoom (slice_get qs i) >>= (λ room. room_with room n d >>= (λ more. Ok (slice_set qs i more)))))) (place-alike rs qs d h)
    (from-one SameRooms (room_in rs d) _ _ (λ i.
    then-alike SameRoom SameRooms (or_fault NoSuchRoom (slice_get rs i)) (or_fault NoSuchRoom (slice_get qs i)) _ _ (get-alike rs qs i h) (λ r q s.
    then-alike SameRoom SameRooms (room_with r n d) (room_with q n d) _ _ (room-alike r q n d s) (λ x y same. set-alike rs qs i x y h same))))

in-line-alike : (last : ℕ) (rs qs : List RoomSession) (n : ℕ) (line : List ℕ) → SameRooms rs qs → Alike SameRooms (room_line last rs n line) (room_line last qs n line)
unfolding room_line
in-line-alike last rs qs n line h = by (nat_lt last n)
  where
    by : (b : Bool) → Alike SameRooms (if b then Err TooManyLines else (json_line line >>= (λ d. rooms_with rs n d))) (if b then Err TooManyLines else (json_line line >>= (λ d. rooms_with qs n d)))
    by true = refl
    by false = from-one SameRooms (json_line line) _ _ (λ d. value-alike rs qs n d h)

behind-alike : (last : ℕ) (rs qs : List RoomSession) (n : ℕ) (lines : List (List ℕ)) → SameRooms rs qs → Alike SameRooms (rooms_behind last rs n lines) (rooms_behind last qs n lines)
unfolding rooms_behind
behind-alike last rs qs n [] h = h
behind-alike last rs qs n (line ∷ rest) h =
    then-alike SameRooms SameRooms (at_line n (room_line last rs n line)) (at_line n (room_line last qs n line)) _ _
    (line-alike SameRooms n (room_line last rs n line) (room_line last qs n line) (in-line-alike last rs qs n line h)) (λ x y same. behind-alike last x y (n + 1) rest same)

-- ---- heads

heads-alike : (lines : List (List ℕ)) (x y : Result Head Refusal) → HeadIs Plain lines x → HeadIs Plain lines y → Alike SameHead x y
heads-alike lines (Ok g) (Ok h) f k = one-head Plain lines g h f k
heads-alike lines (Ok g) (Err refusal) f k = absurd (head-apart Plain lines g refusal f k)
heads-alike lines (Err refusal) (Ok h) f k = absurd (head-apart Plain lines h refusal k f)
heads-alike lines (Err refusal) (Err other) f k = one-head-refusal Plain lines refusal other f k

moved-alike : (n : ℕ) (x y : Result Head Refusal) → Alike SameHead x y → Alike SameHead (moved n x) (moved n y)
moved-alike n (Ok g) (Ok h) a = a
moved-alike n (Ok g) (Err e) a = absurd a
moved-alike n (Err e) (Ok h) a = absurd a
moved-alike n (Err e) (Err d) a = ap (λ (r : Refusal). refused (n + r.line) r.code) a

head-behind-alike : (n : ℕ) (lines : List (List ℕ)) (x y : Result Head Refusal) → HeadBehind n lines x → HeadBehind n lines y → Alike SameHead x y
head-behind-alike n lines x y f g = these SameHead x (moved n f.0) y (moved n g.0) f.2 g.2 (moved-alike n f.0 g.0 (heads-alike lines f.0 g.0 f.1 g.1))

opened-alike : (name : List ℕ) (g h : Head) → SameHead g h → SameRoom (opened name g) (opened name h)
opened-alike name g h e = record { name = refl; session = record { head = e; lines = refl } }

module _ (Later : Result (List RoomSession) Refusal → Type 0) (later : (x y : Result (List RoomSession) Refusal) → Later x → Later y → Alike SameRooms x y) (name : List ℕ) where
  after-alike : (g h : Result Head Refusal) → Alike SameHead g h → (x y : Result (List RoomSession) Refusal) → AfterHead Later name g x → AfterHead Later name h y → Alike SameRooms x y
  after-alike (Ok g) (Ok h) a x y f k =
      these SameRooms x (f.0 >>= (λ rooms. Ok (opened name g ∷ rooms))) y (k.0 >>= (λ rooms. Ok (opened name h ∷ rooms))) f.2 k.2
      (then-alike SameRooms SameRooms f.0 k.0 _ _ (later f.0 k.0 f.1 k.1) (λ rs qs same. (opened-alike name g h a, same)))
  after-alike (Ok g) (Err e) a x y f k = absurd a
  after-alike (Err e) (Ok h) a x y f k = absurd a
  after-alike (Err e) (Err d) a x y f k = these SameRooms x (Err e) y (Err d) f k a

all-opened-alike : (names : List (List ℕ)) (n : ℕ) (lines : List (List ℕ)) (x y : Result (List RoomSession) Refusal) → AreOpened names n lines x → AreOpened names n lines y → Alike SameRooms x y
all-opened-alike [] n lines x y f k = these SameRooms x (Ok []) y (Ok []) f k tt
all-opened-alike (name ∷ names) n lines x y f k =
    after-alike (AreOpened names (n + 3) (drop 3 lines)) (all-opened-alike names (n + 3) (drop 3 lines)) name f.0 k.0 (head-behind-alike n lines f.0 k.0 f.1 k.1) x y f.2 k.2

-- ---- the file

all-behind-alike : (count : ℕ) (x y : Result (List RoomSession) Refusal) (lines : List (List ℕ)) → Alike SameRooms x y → Alike SameRooms (all_behind count x lines) (all_behind count y lines)
all-behind-alike count (Ok rs) (Ok qs) lines a = behind-alike (last_head count + MAX_OPS) rs qs (last_head count + 1) lines a
all-behind-alike count (Ok rs) (Err e) lines a = absurd a
all-behind-alike count (Err e) (Ok qs) lines a = absurd a
all-behind-alike count (Err e) (Err d) lines a = a

behind-names-alike : (names : Result (List (List ℕ)) Code) (lines : List (List ℕ)) (x y : Result (List RoomSession) Refusal) → BehindNames names lines x → BehindNames names lines y → Alike SameRooms x y
behind-names-alike (Ok names) lines x y f k =
    let rest = drop (3 * length names) lines in
    these SameRooms x (all_behind (length names) f.0 rest) y (all_behind (length names) k.0 rest) f.2 k.2
    (all-behind-alike (length names) f.0 k.0 rest (all-opened-alike names 1 lines f.0 k.0 f.1 k.1))
behind-names-alike (Err code) lines x y f k = these SameRooms x (Err (refused 1 code)) y (Err (refused 1 code)) f k refl

of-lines : (lines : List (List ℕ)) (x y : Result (List RoomSession) Refusal) → RoomsOf lines x → RoomsOf lines y → Alike SameRooms x y
of-lines [] x y f k = these SameRooms x _ y _ f k refl
of-lines (line ∷ lines) x y f k = behind-names-alike (rooms_line line) lines x y f k

of-input : (input : List ℕ) (x y : Result (List RoomSession) Refusal) → RoomsAre input x → RoomsAre input y → Alike SameRooms x y
of-input input x y = at (nat_lt MAX_INPUT (length input))
  where
    at : (b : Bool) → MatchBool b (x ≡ Err (refused 0 InputTooLong)) (RoomsOf (lines_of input) x) → MatchBool b (y ≡ Err (refused 0 InputTooLong)) (RoomsOf (lines_of input) y) → Alike SameRooms x y
    at true f k = these SameRooms x (Err (refused 0 InputTooLong)) y (Err (refused 0 InputTooLong)) f k refl
    at false f k = of-lines (lines_of input) x y f k

pub rooms-apart : (input : List ℕ) (rooms : List RoomSession) (refusal : Refusal) → RoomsAre input (Ok rooms) → RoomsAre input (Err refusal) → ⊥
rooms-apart input rooms refusal f k = of-input input (Ok rooms) (Err refusal) f k

pub one-rooms-refusal : (input : List ℕ) (refusal other : Refusal) → RoomsAre input (Err refusal) → RoomsAre input (Err other) → refusal ≡ other
one-rooms-refusal input refusal other f k = of-input input (Err refusal) (Err other) f k

pub one-rooms : (input : List ℕ) (rooms others : List RoomSession) → RoomsAre input (Ok rooms) → RoomsAre input (Ok others) → SameRooms rooms others
one-rooms input rooms others f k = of-input input (Ok rooms) (Ok others) f k
