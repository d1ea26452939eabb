-- The rooms of a file have names of their own.
use Rattle.std.proofs.Common.{◌≡◌, ℕ, zero, suc, Bool, true, false, List, [], ◌∷◌, ◌++◌, length, refl, ap, sym, subst, ◌∙◌, Ok}
use Rattle.std.specs.Prelude.{slice_get, Some, nat_eq, not, ◌&&◌, ◌||◌}
use Rattle.std.specs.List.{list_any}
use Rattle.std.specs.Cmp.Lexicographic.{pointwise}
use Rattle.std.proofs.lemmas.Bool.{eqb-true, eq-eqb}
use Rattle.serde_json.specs.Data.{Data, Items, no_items, item}
use Rattle.serde_json.specs.Find.{as_str, as_array}
use Rattle.pm_list.specs.Readings.{or_fault}
use Rattle.pm_head.specs.declared.code.Code.TheVariants.{WrongShape, BadRooms}
use Rattle.pm_head.specs.Names.{is_name}
use Rattle.pm_head.specs.Lines.{json_line}
use Rattle.pm_head.specs.Rooms.{is_new_name, few_rooms, next_room, rooms_from, rooms_of, rooms_line}
use Rattle.pm_script.proofs.Came.{then-ok, when-ok, both-true}
use Rattle.pm_script.proofs.RoomLists.{get-front, get-last}

-- equal texts, by the test
pub same-text : (a b : List ℕ) → pointwise nat_eq a b ≡ true → a ≡ b
same-text [] [] h = refl
same-text [] (y ∷ b) h = absurd (cc)
same-text (x ∷ a) [] h = absurd (cc)
same-text (x ∷ a) (y ∷ b) h =
    let one = both-true (nat_eq x y) (pointwise nat_eq a b) h in
    ap (λ z. z ∷ a) (eqb-true x y one.0) ∙ ap (λ l. y ∷ l) (same-text a b one.1)

pub text-same : (a : List ℕ) → pointwise nat_eq a a ≡ true
text-same [] = refl
text-same (x ∷ a) = ap (λ b. b && pointwise nat_eq a a) (eq-eqb x x refl) ∙ text-same a

-- at each place there is another name
abbrev pub NamesDiffer : List (List ℕ) → Type 0
NamesDiffer names = (i j : ℕ) (a b : List ℕ) → slice_get names i ≡ Some a → slice_get names j ≡ Some b → pointwise nat_eq a b ≡ true → i ≡ j

-- each of these names is none of those before it
abbrev Fresh : List (List ℕ) → List (List ℕ) → Type 0
Fresh earlier [] = Unit {0}
Fresh earlier (name ∷ names) = (list_any (λ other. pointwise nat_eq name other) earlier ≡ false) × Fresh (earlier ++ name ∷ []) names

not-true : (b : Bool) → not b ≡ true → b ≡ false
not-true true h = absurd (cc)
not-true false h = refl

or-right : (a b : Bool) → b ≡ true → (a || b) ≡ true
or-right true b h = refl
or-right false b h = h

any-at : (p : List ℕ → Bool) (xs : List (List ℕ)) (i : ℕ) (x : List ℕ) → slice_get xs i ≡ Some x → p x ≡ true → list_any p xs ≡ true
any-at p [] i x h t = absurd (cc)
any-at p (y ∷ xs) zero x h t = let one : y ≡ x = cc in ap (λ b. b || list_any p xs) (ap p one ∙ t)
any-at p (y ∷ xs) (suc i) x h t = or-right (p y) (list_any p xs) (any-at p xs i x h t)

apart : (earlier names : List (List ℕ)) → Fresh earlier names → (i j : ℕ) (a b : List ℕ) → slice_get earlier i ≡ Some a → slice_get names j ≡ Some b → a ≡ b → ⊥
apart earlier [] h i j a b at there e = absurd (cc)
apart earlier (name ∷ names) h i zero a b at there e =
    let one : name ≡ b = cc in
    let same : pointwise nat_eq name a ≡ true = subst (λ z. pointwise nat_eq name z ≡ true) (one ∙ sym e) (text-same name) in
    let any = any-at (λ other. pointwise nat_eq name other) earlier i a at same in
    let none = h.0 in
    absurd (cc)
apart earlier (name ∷ names) h i (suc j) a b at there e = apart (earlier ++ name ∷ []) names h.1 i j a b (get-front earlier (name ∷ []) i a at) there e

differ : (earlier names : List (List ℕ)) → Fresh earlier names → NamesDiffer names
differ earlier [] h i j a b at there e = absurd (cc)
differ earlier (name ∷ names) h zero zero a b at there e = refl
differ earlier (name ∷ names) h zero (suc j) a b at there e =
    let one : name ≡ a = cc in
    absurd (apart (earlier ++ name ∷ []) names h.1 (length earlier) j name b (get-last earlier name) there (one ∙ same-text a b e))
differ earlier (name ∷ names) h (suc i) zero a b at there e =
    let one : name ≡ b = cc in
    absurd (apart (earlier ++ name ∷ []) names h.1 (length earlier) i name a (get-last earlier name) at (one ∙ sym (same-text a b e)))
differ earlier (name ∷ names) h (suc i) (suc j) a b at there e = ap suc (differ (earlier ++ name ∷ []) names h.1 i j a b at there e)

fresh-from : (earlier : List (List ℕ)) (ds : Items) (names : List (List ℕ)) → rooms_from earlier ds ≡ Ok names → Fresh earlier names
unfolding rooms_from
fresh-from earlier no_items names h = let none : [] ≡ names = cc in subst (Fresh earlier) none tt
fresh-from earlier (item d ds) names h =
    let one = then-ok (next_room earlier d) _ names h in
    let two = then-ok (rooms_from (earlier ++ one.0 ∷ []) ds) _ names one.2 in
    let is : one.0 ∷ two.0 ≡ names = cc in
    let text = then-ok (or_fault WrongShape (as_str d)) _ one.0 one.1 in
    let new = when-ok (is_new_name earlier text.0) text.0 one.0 BadRooms text.2 in
    let both = both-true (is_name text.0) (not (list_any (λ other. pointwise nat_eq text.0 other) earlier)) new.0 in
    let none : list_any (λ other. pointwise nat_eq one.0 other) earlier ≡ false =
    subst (λ z. list_any (λ other. pointwise nat_eq z other) earlier ≡ false) new.1 (not-true (list_any (λ other. pointwise nat_eq text.0 other) earlier) both.1) in
    subst (Fresh earlier) is (none, fresh-from (earlier ++ one.0 ∷ []) ds two.0 two.1)

-- the names that line 1 lists differ
pub line-differs : (line : List ℕ) (names : List (List ℕ)) → rooms_line line ≡ Ok names → NamesDiffer names
unfolding rooms_line rooms_of
line-differs line names h =
    let one = then-ok (json_line line) rooms_of names h in
    let two = then-ok (or_fault WrongShape (as_array one.0)) _ names one.2 in
    let three = then-ok (few_rooms two.0) _ names two.2 in
    differ [] names (fresh-from [] three.0 names three.2)
