-- Values that hold kept values are kept.
use Rattle.std.proofs.Common.{◌≡◌, ℕ, ◌<◌, ◌≤◌, ◌+◌, suc, List, [], ◌∷◌, ◌++◌, length, drop, get_or, map, Result, Ok, Err, subst, sym, ap, ◌∙◌, add-one, drop-cons}
use Rattle.std.proofs.lemmas.List.{drop_all}
use Rattle.std.specs.Prelude.{IfOk}
use Rattle.pm_value.specs.Plain.{Plain, plains_of}
use Rattle.pm_value.specs.Views.{plain, plains, field_pairs}
use Rattle.pm_value.specs.Kept.{HasEach, IsKept, AreKept}
use Rattle.pm_value.specs.declared.value.Value.{Value}
use Rattle.pm_value.specs.declared.value.Field.{Field}

-- the values of fields are kept
abbrev pub FieldsKept : List Field → Type 0
FieldsKept fs = AreKept (plains_of (map (λ f. f.1) (field_pairs fs)))

abbrev pub ValuesKept : List Value → Type 0
ValuesKept vs = AreKept (plains_of (plains vs))

pub has_each : (fs : List (List ℕ × Plain)) → HasEach (map (λ f. f.0) fs) (plains_of (map (λ f. f.1) fs))
has_each [] = tt
has_each (f ∷ fs) = has_each fs

kept-last : (vs : List Plain) (v : Plain) → AreKept (plains_of vs) → IsKept v → AreKept (plains_of (vs ++ v ∷ []))
kept-last [] v h k = (k, tt)
kept-last (w ∷ vs) v h k = (h.0, kept-last vs v h.1 k)

pairs-last : (fs : List (List ℕ × Plain)) (f : List ℕ × Plain) → AreKept (plains_of (map (λ p. p.1) fs)) → IsKept f.1 → AreKept (plains_of (map (λ p. p.1) (fs ++ f ∷ [])))
pairs-last [] f h k = (k, tt)
pairs-last (g ∷ fs) f h k = (h.0, pairs-last fs f h.1 k)

values-last : (vs : List Value) (v : Value) → ValuesKept vs → IsKept (plain v) → ValuesKept (vs ++ v ∷ [])
values-last [] v h k = (k, tt)
values-last (w ∷ vs) v h k = (h.0, values-last vs v h.1 k)

-- one more value, and one more field, is read
pub value-read : (vs ws : List Value) (v : Value) → ws ≡ vs ++ v ∷ [] → ValuesKept vs → IsKept (plain v) → ValuesKept ws
value-read vs ws v is h k = subst ValuesKept (sym is) (values-last vs v h k)

pub field-read : (fs gs : List Field) (k : List ℕ) (v : Plain) → field_pairs gs ≡ field_pairs fs ++ (k, v) ∷ [] → FieldsKept fs → IsKept v → FieldsKept gs
field-read fs gs k v is h kept = subst (λ ps. AreKept (plains_of (map (λ f. f.1) ps))) (sym is) (pairs-last (field_pairs fs) (k, v) h kept)

-- one value, and one field, before those that are kept
pub value-before : (vs : List Value) (i : ℕ) (v : Value) → i < length vs → v ≡ get_or vs i v → IsKept (plain v) → ValuesKept (drop (i + 1) vs) → ValuesKept (drop i vs)
value-before vs i v within is k h =
    let split : drop i vs ≡ v ∷ drop (i + 1) vs = rw add-one (drop-cons vs i v within ∙ ap (λ y. y ∷ drop (suc i) vs) (sym is)) in
    subst ValuesKept (sym split) (k, h)

pub field-before : (fs : List Field) (i j : ℕ) (f : Field) → i < length fs → f ≡ get_or fs i f → j ≡ i + 1 → IsKept (plain f.value) → FieldsKept (drop j fs) → FieldsKept (drop i fs)
field-before fs i j f within is next k h =
    let split : drop i fs ≡ f ∷ drop (i + 1) fs = rw add-one (drop-cons fs i f within ∙ ap (λ x. x ∷ drop (suc i) fs) (sym is)) in
    subst FieldsKept (sym split) (k, subst (λ n. FieldsKept (drop n fs)) next h)

pub values-end : (vs : List Value) (i : ℕ) → length vs ≤ i → ValuesKept (drop i vs)
values-end vs i past = rw (drop_all i vs past) tt

pub fields-end : (fs : List Field) (i : ℕ) → length fs ≤ i → FieldsKept (drop i fs)
fields-end fs i past = rw (drop_all i fs past) tt

-- what follows from two facts, one on an Ok value
pub both-then : {X E : Type 0} (P K Q : X → Type 0) (r : Result X E) → ((x : X) → P x → K x → Q x) → IfOk r P → IfOk r K → IfOk r Q
both-then P K Q (Ok x) go h k = go x h k
both-then P K Q (Err e) go h k = h

pub ruleset kept = (has_each, value-read, field-read)
