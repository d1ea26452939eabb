-- The heads of rooms: on which lines they may be refused, and one room after another.
use Rattle.std.proofs.Common.{◌≡◌, ◌≤◌, ◌+◌, ◌*◌, ℕ, zero, suc, List, [], ◌∷◌, ◌++◌, take, drop, map, refl, ap, sym, subst, ◌∙◌, arith, Ok, Err}
use Rattle.std.specs.Prelude.{slice_get, Some, Result}
use Rattle.std.proofs.lemmas.List.{drop-drop}
use Rattle.pm_list.specs.Readings.{◌>>=◌, with_front, with_front-more}
use Rattle.pm_tokens.specs.Tokens.{Doc}
use Rattle.pm_schema.specs.declared.schema.Schema.{Schema}
use Rattle.pm_head.specs.declared.form.Form.TheVariants.{Plain}
use Rattle.pm_head.specs.declared.code.Code.{Code}
use Rattle.pm_head.specs.declared.fault.Refusal.{Refusal}
use Rattle.pm_head.specs.declared.fault.SessionError.{SessionError}
use Rattle.pm_head.specs.declared.fault.SessionError.TheVariants as session
use Rattle.pm_head.specs.Answers.{Refuses, Reads}
use Rattle.pm_head.specs.declared.reading.Head.{Head}
use Rattle.pm_head.specs.Heads.{AfterDoc, AfterSchema, HeadIs}
use Rattle.pm_script.specs.declared.rooms.RoomSession.{RoomSession}
use Rattle.pm_script.specs.Rooms.{opened, moved, HeadBehind, AfterHead, AreOpened}

abbrev failed : Refusal → Result Head Refusal
failed refusal = Err refusal

abbrev read : Head → Result Head Refusal
read head = Ok head

-- ---- a head is refused on one of its three lines

-- ---- a head is that of its three lines

doc-three : (s : Schema) (doc : Result Doc Code) (lines : List (List ℕ)) (r : Result Head Refusal) → AfterDoc Plain s doc lines r → AfterDoc Plain s doc (take 1 lines) r
doc-three s (Err code) lines r h = h
doc-three s (Ok doc) [] r h = h
doc-three s (Ok doc) (line ∷ lines) r h = h

schema-three : (s : Result Schema Code) (lines : List (List ℕ)) (r : Result Head Refusal) → AfterSchema Plain s lines r → AfterSchema Plain s (take 2 lines) r
schema-three (Err code) lines r h = h
schema-three (Ok s) [] r h = h
schema-three (Ok s) (line ∷ lines) r h = (h.0, h.1, doc-three s h.0 lines r h.2)

pub head-three : (lines : List (List ℕ)) (r : Result Head Refusal) → HeadIs Plain lines r → HeadIs Plain (take 3 lines) r
head-three [] r h = h
head-three (line ∷ lines) r h = (h.0, h.1, schema-three h.0 lines r h.2)

-- ---- room after room

module _ (P : Result (List RoomSession) Refusal → Type 0) (rooms : List RoomSession) (name : List ℕ) (names : List (List ℕ)) (n : ℕ) (lines : List (List ℕ))
    (so : (r : Result (List RoomSession) Refusal) → AreOpened (name ∷ names) n lines r → P (with_front rooms r)) where
  pub opened-more : (head : Head) → HeadBehind n lines (Ok head) → (r : Result (List RoomSession) Refusal) → AreOpened names (n + 3) (drop 3 lines) r → P (with_front (rooms ++ opened name head ∷ []) r)
  opened-more head behind r h =
      let all : P (with_front rooms (r >>= λ rest. Ok (opened name head ∷ rest))) = so (r >>= λ rest. Ok (opened name head ∷ rest)) (Ok head, behind, (r, h, refl)) in
      subst P (sym (with_front-more rooms (opened name head) r)) all

  pub opened-fault : (refusal : Refusal) → HeadBehind n lines (Err refusal) → P (Err refusal)
  opened-fault refusal behind = so (Err refusal) (Err refusal, behind, refl)

  pub fault-opened : (e : SessionError) → Refuses (HeadBehind n lines) e → Refuses P e
  fault-opened (session.Refused refusal) h = opened-fault refusal h
  fault-opened session.NoMemory h = tt

-- what a call that fails like another one answers
pub reads-fault : {X Y : Type 0} (P : Result Y Refusal → Type 0) (view : X → Y) (r : Result X SessionError) (e d : SessionError) → r ≡ Err e → e ≡ d → Refuses P d → Reads view P r
reads-fault P view r e d is same h = subst (Reads view P) (sym is) (subst (Refuses P) (sym same) h)

-- the head of the room at place r
was-read : (n : ℕ) (lines : List (List ℕ)) (head : Head) → HeadBehind n lines (Ok head) → HeadIs Plain lines (Ok head)
was-read n lines head h = at h.0 h.1 h.2
  where
    at : (r : Result Head Refusal) → HeadIs Plain lines r → read head ≡ moved n r → HeadIs Plain lines (Ok head)
    at (Ok other) is e = let same : other ≡ head = cc in subst (λ z. HeadIs Plain lines (Ok z)) same is
    at (Err refusal) is e = absurd (cc)

further : (r : ℕ) (lines : List (List ℕ)) → drop (3 * r) (drop 3 lines) ≡ drop (3 * suc r) lines
further r lines = let e : 3 + 3 * r ≡ 3 * suc r = omega arith in drop-drop (3 * r) 3 lines ∙ ap (λ k. drop k lines) e

pub record IsOpened (lines : List (List ℕ)) (r : ℕ) (room : RoomSession) : Type 0 where
  pub head : HeadIs Plain (drop (3 * r) lines) (Ok room.session.head)
  pub none : room.session.lines ≡ []

abbrev as_rooms : List RoomSession → Result (List RoomSession) Refusal
as_rooms rooms = Ok rooms

pub record AllOpened (names lines : List (List ℕ)) (rooms : List RoomSession) : Type 0 where
  pub named : map (λ room. room.name) rooms ≡ names
  pub each : (r : ℕ) (room : RoomSession) → slice_get rooms r ≡ Some room → IsOpened lines r room

first-opened : (lines : List (List ℕ)) (name : List ℕ) (head : Head) (room : RoomSession) → HeadIs Plain lines (Ok head) → opened name head ≡ room → IsOpened lines 0 room
first-opened lines name head room is e = subst (IsOpened lines 0) e (record { head = is; none = refl })

next-opened : (lines : List (List ℕ)) (r : ℕ) (room : RoomSession) → IsOpened (drop 3 lines) r room → IsOpened lines (suc r) room
next-opened lines r room h = record { head = subst (λ ls. HeadIs Plain ls (Ok room.session.head)) (further r lines) h.head; none = h.none }

module _ (name : List ℕ) (names : List (List ℕ)) (n : ℕ) (lines : List (List ℕ)) (rooms : List RoomSession)
    (rest-opened : (rest : List RoomSession) → AreOpened names (n + 3) (drop 3 lines) (Ok rest) → AllOpened names (drop 3 lines) rest) where
  each-opened : (head : Head) (rest : List RoomSession) → HeadIs Plain lines (Ok head) → AllOpened names (drop 3 lines) rest → (r : ℕ) (room : RoomSession)
      → slice_get (opened name head ∷ rest) r ≡ Some room → IsOpened lines r room
  each-opened head rest is all zero room at = first-opened lines name head room is (cc)
  each-opened head rest is all (suc r) room at = next-opened lines r room (all.each r room at)

  later-opened : (head : Head) → HeadIs Plain lines (Ok head) → (r : Result (List RoomSession) Refusal) → AreOpened names (n + 3) (drop 3 lines) r
      → as_rooms rooms ≡ (r >>= λ rest. Ok (opened name head ∷ rest)) → AllOpened (name ∷ names) lines rooms
  later-opened head is (Err refusal) h e = absurd (cc)
  later-opened head is (Ok rest) h e =
      let same : opened name head ∷ rest ≡ rooms = cc in
      let all = rest-opened rest h in
      subst (AllOpened (name ∷ names) lines) same (record { named = ap (λ l. name ∷ l) all.named; each = each-opened head rest is all })

  behind-opened : (head : Result Head Refusal) → HeadBehind n lines head → AfterHead (AreOpened names (n + 3) (drop 3 lines)) name head (Ok rooms) → AllOpened (name ∷ names) lines rooms
  behind-opened (Err refusal) behind after = absurd (cc)
  behind-opened (Ok head) behind after = later-opened head (was-read n lines head behind) after.0 after.1 after.2

pub all-opened : (names : List (List ℕ)) (n : ℕ) (lines : List (List ℕ)) (rooms : List RoomSession) → AreOpened names n lines (Ok rooms) → AllOpened names lines rooms
all-opened [] n lines rooms h = let none : [] ≡ rooms = cc in subst (AllOpened [] lines) none (record { named = refl; each = λ r room at. absurd (cc) })
all-opened (name ∷ names) n lines rooms h = behind-opened name names n lines rooms (all-opened names (n + 3) (drop 3 lines)) h.0 h.1 h.2
