-- What is told of rooms that were played, one after another.
use Rattle.std.proofs.Common.{◌≡◌, ◌≤◌, ◌+◌, ◌<◌, ℕ, suc, List, [], ◌∷◌, ◌++◌, length, get_or, drop, refl, ap, subst, sym, ◌∙◌, arith, add-one, append_assoc, append-nil, drop-cons}
use Rattle.std.proofs.lemmas.List.{drop_all}
use Rattle.pm_session.specs.Events.{state_of}
use Rattle.pm_call.specs.declared.running_rooms.Entry.{Entry}
use Rattle.pm_call.specs.Handing.{PlayedRoom, EntriesTold}
use Rattle.pm_call.specs.RoomReports.{room_line}
use Rattle.pm_call.specs.Running.{IsTold}

-- the item at a place stands before what follows it
pub front-of : {A : Type 0} (all : List A) (k : ℕ) (x : A) → k < length all → x ≡ get_or all k x → drop k all ≡ x ∷ drop (k + 1) all
front-of all k x within is = rw add-one (drop-cons all k x within ∙ ap (λ y. y ∷ drop (suc k) all) (sym is))

-- an entry takes the room that comes next
pub one-left : {A B : Type 0} (all : List A) (k : ℕ) (x : A) (y : B) (left rest : List B) → drop k all ≡ x ∷ drop (k + 1) all → left ≡ y ∷ rest
    → length (drop k all) ≡ length left → length (drop (k + 1) all) ≡ length rest
one-left all k x y left rest front took count =
    let e : suc (length (drop (k + 1) all)) ≡ suc (length rest) = sym (ap length front) ∙ count ∙ ap length took in
    omega (arith, e)

none : {A : Type 0} (xs : List A) → 0 ≡ length xs → xs ≡ []
none [] e = refl
none (x ∷ xs) e = absurd (omega (arith, e))

joined : (text new line part more : List ℕ) → new ≡ text ++ (line ++ part) → text ++ (line ++ (part ++ more)) ≡ new ++ more
joined text new line part more is = rw is (simp append_assoc)

-- Of all entries those before place k were told. The entry there is told of the room that comes next, so that what is told of the
-- later ones goes after it.
pub next-told : (all : List Entry) (played : List PlayedRoom) (k : ℕ) (entry : Entry) (t : PlayedRoom) (left rest : List PlayedRoom) (text new part : List ℕ)
    → drop k all ≡ entry ∷ drop (k + 1) all → left ≡ t ∷ rest
    → IsTold entry.clients t.rules t.lines.items t.outcomes.items (state_of t.room) part → new ≡ text ++ (room_line entry.name ++ part)
    → ((more : List ℕ) → EntriesTold (drop k all) left more → EntriesTold all played (text ++ more))
    → (more : List ℕ) → EntriesTold (drop (k + 1) all) rest more → EntriesTold all played (new ++ more)
next-told all played k entry t left rest text new part front took told is before more after =
    let behind : List ℕ = room_line entry.name ++ (part ++ more) in
    let here : EntriesTold (entry ∷ drop (k + 1) all) (t ∷ rest) behind = (part, more, told, after, refl) in
    let left_here : EntriesTold (entry ∷ drop (k + 1) all) left behind = subst (λ (l : List PlayedRoom). EntriesTold (entry ∷ drop (k + 1) all) l behind) (sym took) here in
    let there : EntriesTold (drop k all) left behind = subst (λ (es : List Entry). EntriesTold es left behind) (sym front) left_here in
    subst (λ (l : List ℕ). EntriesTold all played l) (joined text new (room_line entry.name) part more is) (before behind there)

-- after the last entry all is told
pub last-told : (all : List Entry) (played : List PlayedRoom) (k : ℕ) (left : List PlayedRoom) (text : List ℕ) → length all ≤ k → length (drop k all) ≡ length left
    → ((more : List ℕ) → EntriesTold (drop k all) left more → EntriesTold all played (text ++ more)) → EntriesTold all played text
last-told all played k left text past count told =
    let over : drop k all ≡ [] = drop_all k all past in
    let gone : left ≡ [] = none left (sym (ap length over) ∙ count) in
    let here : EntriesTold (drop k all) left [] = subst (λ (es : List Entry). EntriesTold es left []) (sym over) (subst (λ (l : List PlayedRoom). EntriesTold [] l []) (sym gone) refl) in
    subst (λ (l : List ℕ). EntriesTold all played l) (append-nil text) (told [] here)
