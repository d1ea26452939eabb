-- A JSON value that is read is written as the same JSON value.
use Rattle.std.proofs.Common.{◌≡◌, ◌<◌, ◌≤◌, ◌^◌, ℕ, suc, List, [], ◌∷◌, ◌++◌, true, cond, refl, ap, sym, ◌∙◌, map, nat_lt, arith, length, drop, get_or, drop-cons, add-one, ◌+◌}
use Rattle.std.proofs.lemmas.List.{drop_all}
use Rattle.std.proofs.lemmas.Bool.Decides.{nat_tests}
use Rattle.std.specs.Prelude.{Some, None, pos, negsuc, ℤ, Bool, false}
use Rattle.std.specs.List.Sorted.{IsStrictlySortedBy}
use Rattle.serde_json.specs.Data.{Data, Items, item, no_items, Members, member, no_members, unsigned}
use Rattle.serde_json.specs.Find.{as_i64, of_integer}
use Rattle.serde_json.specs.Number.{num_of, is_valid}
use Rattle.serde_json.specs.View.{view, items_view, number_view}
use Rattle.serde_json.specs.declared.value.Value.{Value as Json}
use Rattle.serde_json.specs.declared.number.N.{N}
use Rattle.serde_json.specs.declared.number.N.TheVariants.{PosInt, NegInt, Float}
use Rattle.serde_json.specs.declared.number.Number.{Number}
use Rattle.pm_value.specs.Kept.{InOrder}
use Rattle.pm_value.specs.Plain.{Plain, plains_of}
use Rattle.pm_value.specs.Views.{plain, plains}
use Rattle.pm_value.specs.declared.value.Value.{Value}
use Rattle.pm_value.specs.Writing.{written, items_written, members_written, pairs_written}
use Rattle.pm_value.proofs.Again.{put_first}
use Rattle.pm_value.proofs.Keeping.{has_each}

-- ---- numbers

small : (n : ℕ) (b : Bool) (z : ℤ) → cond b (Some (pos n)) None ≡ Some z → of_integer z ≡ unsigned n
small n true z h = let e : pos n ≡ z = cc in ap of_integer (sym e)
small n false z h = absurd (cc)

number-same : (n : N) (z : ℤ) → is_valid n ≡ true → as_i64 (num_of n) ≡ Some z → of_integer z ≡ num_of n
number-same (PosInt n) z v h = small n (nat_lt n (2 ^ 63)) z h
number-same (NegInt (pos n)) z v h = absurd (grind (arith, nat_tests))
number-same (NegInt (negsuc n)) z v h = let e : negsuc n ≡ z = cc in ap of_integer (sym e)
number-same (Float x) z v h = absurd (cc)

pub int-same : (x : Number) (z : ℤ) → as_i64 (number_view x) ≡ Some z → of_integer z ≡ number_view x
int-same x z h = number-same x.n z x.valid h

-- ---- lists

-- values that are read, before the JSON values that are not yet
abbrev pub ahead : List Plain → Items → Items
ahead [] ds = ds
ahead (v ∷ vs) ds = item (written v) (ahead vs ds)

ahead-all : (vs : List Plain) → ahead vs no_items ≡ items_written (plains_of vs)
unfolding items_written
ahead-all [] = refl
ahead-all (v ∷ vs) = ap (item (written v)) (ahead-all vs)

-- one more value is read of a list
ahead-value : (vs : List Value) (v : Value) (d : Data) (ds : Items) → written (plain v) ≡ d → ahead (plains (vs ++ v ∷ [])) ds ≡ ahead (plains vs) (item d ds)
ahead-value [] v d ds e = ap (λ x. item x ds) e
ahead-value (w ∷ vs) v d ds e = ap (item (written (plain w))) (ahead-value vs v d ds e)

pub list-read : (vs ws : List Value) (v : Value) (js : List Json) (i : ℕ) (j : Json) (whole : Items) → ws ≡ vs ++ v ∷ [] → i < length js → j ≡ get_or js i j → written (plain v) ≡ view j
    → ahead (plains vs) (items_view (drop i js)) ≡ whole → ahead (plains ws) (items_view (drop (i + 1) js)) ≡ whole
list-read vs ws v js i j whole is within at same h =
    let split : drop i js ≡ j ∷ drop (i + 1) js = rw add-one (drop-cons js i j within ∙ ap (λ y. y ∷ drop (suc i) js) (sym at)) in
    ap (λ xs. ahead (plains xs) (items_view (drop (i + 1) js))) is ∙ ahead-value vs v (view j) (items_view (drop (i + 1) js)) same ∙ ap (λ xs. ahead (plains vs) (items_view xs)) (sym split) ∙ h

pub list-whole : (vs : List Value) (js : List Json) (i : ℕ) → length js ≤ i → ahead (plains vs) (items_view (drop i js)) ≡ items_view js → items_written (plains_of (plains vs)) ≡ items_view js
list-whole vs js i past h = sym (ahead-all (plains vs)) ∙ sym (ap (λ xs. ahead (plains vs) (items_view xs)) (drop_all i js past)) ∙ h

-- ---- objects

-- fields that are read, before the members that are not yet
abbrev pub front : List (List ℕ × Plain) → Members → Members
front [] ms = ms
front (f ∷ fs) ms = member f.0 (written f.1) (front fs ms)

pub front-more : (fs : List (List ℕ × Plain)) (k : List ℕ) (v : Plain) (d : Data) (ms : Members) → written v ≡ d → front (fs ++ (k, v) ∷ []) ms ≡ front fs (member k d ms)
front-more [] k v d ms e = ap (λ x. member k x ms) e
front-more (f ∷ fs) k v d ms e = ap (member f.0 (written f.1)) (front-more fs k v d ms e)

pub front-all : (fs : List (List ℕ × Plain)) → InOrder (map (λ f. f.0) fs) → front fs no_members ≡ pairs_written fs
unfolding members_written IsStrictlySortedBy
front-all [] h = refl
front-all (f ∷ fs) h =
    ap (member f.0 (written f.1)) (front-all fs h.1) ∙ sym (put_first f.0 (written f.1) (map (λ g. g.0) fs) (plains_of (map (λ g. g.1) fs)) (has_each fs) h)

pub ruleset same = int-same
