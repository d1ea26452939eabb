-- What stands in a list or an object is less deep, and is written one by one.
use Rattle.std.proofs.Common.{◌≡◌, ◌<◌, ◌≤◌, ◌+◌, ℕ, suc, zero, List, [], ◌∷◌, ◌++◌, length, drop, get_or, map, refl, arith, drop-cons, add-one, ap, sym, ◌∙◌}
use Rattle.std.proofs.lemmas.List.{drop_all}
use Rattle.serde_json.specs.Data.{Data, Items, item, no_items, Members, no_members, put}
use Rattle.serde_json.specs.View.{items_of}
use Rattle.pm_value.specs.Plain.{plains_of, depth, plains_depth}
use Rattle.pm_value.specs.Views.{plain, plains, field_pairs}
use Rattle.pm_value.specs.Writing.{written, pairs_written, members_written}
use Rattle.pm_value.specs.declared.value.Value.{Value}
use Rattle.pm_value.specs.declared.value.Field.{Field}

pub item-falls : (vs : List Value) (i : ℕ) (v : Value) → i < length vs → v ≡ get_or vs i v → depth (plain v) ≤ plains_depth (plains_of (plains vs))
item-falls [] i v within is = absurd (omega arith)
item-falls (w ∷ vs) zero v within is = rw is (omega arith)
item-falls (w ∷ vs) (suc i) v within is = omega (arith, item-falls vs i v (omega arith) is)

pub field-falls : (fs : List Field) (i : ℕ) (f : Field) → i < length fs → f ≡ get_or fs i f → depth (plain f.value) ≤ plains_depth (plains_of (map (λ p. p.1) (field_pairs fs)))
field-falls [] i f within is = absurd (omega arith)
field-falls (g ∷ fs) zero f within is = rw is (omega arith)
field-falls (g ∷ fs) (suc i) f within is = omega (arith, field-falls fs i f (omega arith) is)

-- values, and then the rest
abbrev pub before : List Data → Items → Items
before [] ds = ds
before (x ∷ xs) ds = item x (before xs ds)

before-more : (xs : List Data) (x : Data) (ds : Items) → before (xs ++ x ∷ []) ds ≡ before xs (item x ds)
before-more [] x ds = refl
before-more (y ∷ xs) x ds = ap (item y) (before-more xs x ds)

before-all : (xs : List Data) → before xs no_items ≡ items_of xs
before-all [] = refl
before-all (x ∷ xs) = ap (item x) (before-all xs)

-- one more of a list that is written one by one
pub list-step : {A : Type 0} (f : List A → Items) (g : A → Data) → ((x : A) (xs : List A) → f (x ∷ xs) ≡ item (g x) (f xs)) → (done : List Data) (xs : List A) (i : ℕ) (x : A) (d : Data) (whole : Items)
    → i < length xs → x ≡ get_or xs i x → d ≡ g x → before done (f (drop i xs)) ≡ whole → before (done ++ d ∷ []) (f (drop (i + 1) xs)) ≡ whole
list-step f g one done xs i x d whole within is wrote h =
    let split : drop i xs ≡ x ∷ drop (i + 1) xs = rw add-one (drop-cons xs i x within ∙ ap (λ y. y ∷ drop (suc i) xs) (sym is)) in
    let opened = one x (drop (i + 1) xs) in
    before-more done d (f (drop (i + 1) xs)) ∙ ap (λ y. before done (item y (f (drop (i + 1) xs)))) wrote ∙ ap (before done) (sym (ap f split ∙ opened)) ∙ h

pub list-end : {A : Type 0} (f : List A → Items) → f [] ≡ no_items → (done : List Data) (xs : List A) (i : ℕ) (whole : Items) → length xs ≤ i → before done (f (drop i xs)) ≡ whole → items_of done ≡ whole
list-end f empty done xs i whole past h = sym (ap (before done) (ap f (drop_all i xs past) ∙ empty) ∙ before-all done) ∙ h

-- one field more, from the back
pub put_before : (fs : List Field) (i j : ℕ) (f : Field) (d : Data) (ms : Members) → i < length fs → f ≡ get_or fs i f → j ≡ i + 1 → d ≡ written (plain f.value) → ms ≡ pairs_written (field_pairs (drop j fs))
    → put f.name d ms ≡ pairs_written (field_pairs (drop i fs))
unfolding written members_written
put_before fs i j f d ms within is next wrote same =
    let split : drop i fs ≡ f ∷ drop (i + 1) fs = rw add-one (drop-cons fs i f within ∙ ap (λ x. x ∷ drop (suc i) fs) (sym is)) in
    rw (same, next, wrote, split) refl

-- no field is written past the end
pub pairs-end : (fs : List Field) (ms : Members) (i : ℕ) → length fs ≤ i → ms ≡ no_members → ms ≡ pairs_written (field_pairs (drop i fs))
unfolding members_written
pairs-end fs ms i past empty = rw (drop_all i fs past) empty
