-- What a schema answers for given values is what they are read as.
use Rattle.std.proofs.Common.{◌≡◌, ◌<◌, ℕ, zero, suc, List, [], ◌∷◌, length, map, Bool, true, false, cond, refl, ap, ◌∙◌, ◌||◌, arith}
use Rattle.std.specs.Prelude.{Option, Some, None, option_map, option_and_then, is_none, slice_index_or}
use Rattle.std.specs.List.{list_any}
use Rattle.pm_value.specs.Plain.{Plain}
use Rattle.pm_schema.specs.declared.spec.AttrSpec.{AttrSpec}
use Rattle.pm_schema.specs.Attrs.{value_for, is_missing, is_unknown, is_other_kind, no_attr, no_pair, IsFirstAt, NonePasses, AreValues}
use Rattle.pm_docjson.specs.Values.{Given, all_values, values_for}

none-any : {X : Type 0} (p : X → Bool) (xs : List X) (d : X) → NonePasses p xs d → list_any p xs ≡ false
none-any p [] d h = refl
none-any p (x ∷ xs) d h = rw (h 0 (omega arith)) (none-any p xs d (λ j l. h (suc j) (omega arith)))

any-at : {X : Type 0} (p : X → Bool) (xs : List X) (d : X) (i : ℕ) → i < length xs → p (slice_index_or xs i d) ≡ true → list_any p xs ≡ true
any-at p [] d i l h = absurd (omega arith)
any-at p (x ∷ xs) d zero l h = rw h refl
any-at p (x ∷ xs) d (suc i) l h = either (p x) (list_any p xs) (any-at p xs d i (omega arith) h)
  where
    either : (a b : Bool) → b ≡ true → (a || b) ≡ true
    either true b e = refl
    either false b e = e

all-some : (attrs : List AttrSpec) (values : List Plain) (given : Given) → map Some values ≡ map (value_for given) attrs → all_values given attrs ≡ Some values
all-some [] [] given h = refl
all-some [] (v ∷ values) given h = absurd (cc)
all-some (a ∷ attrs) [] given h = absurd (cc)
all-some (a ∷ attrs) (v ∷ values) given h =
    let first : value_for given a ≡ Some v = cc in
    let rest : map Some values ≡ map (value_for given) attrs = cc in
    ap (option_and_then (λ w. option_map (λ ws. w ∷ ws) (all_values given attrs))) first ∙ ap (option_map (λ ws. v ∷ ws)) (all-some attrs values given rest)

not-all : (attrs : List AttrSpec) (given : Given) (j : ℕ) → j < length attrs → is_missing given (slice_index_or attrs j no_attr) ≡ true → all_values given attrs ≡ None
not-all [] given j l h = absurd (omega arith)
not-all (a ∷ attrs) given zero l h = by_value (value_for given a) h
  where
    by_value : (o : Option Plain) → is_none o ≡ true → option_and_then (λ v. option_map (λ vs. v ∷ vs) (all_values given attrs)) o ≡ None
    by_value None e = refl
    by_value (Some v) e = absurd (cc)
not-all (a ∷ attrs) given (suc j) l h = by_value (value_for given a) (not-all attrs given j (omega arith) h)
  where
    by_value : (o : Option Plain) → all_values given attrs ≡ None → option_and_then (λ v. option_map (λ vs. v ∷ vs) (all_values given attrs)) o ≡ None
    by_value None e = refl
    by_value (Some v) e = ap (option_map (λ vs. v ∷ vs)) e

-- no value is given for an unknown attribute, and none of another kind
pub values-yes : (attrs : List AttrSpec) (given : Given) (values : List Plain) → AreValues attrs given values → NonePasses (is_unknown attrs) given no_pair → NonePasses (is_other_kind given) attrs no_attr → values_for attrs given ≡ Some values
unfolding values_for
values-yes attrs given values are known kinds =
    ap (λ b. cond b None (cond (list_any (is_other_kind given) attrs) None (all_values given attrs))) (none-any (is_unknown attrs) given no_pair known)
    ∙ (ap (λ b. cond b None (all_values given attrs)) (none-any (is_other_kind given) attrs no_attr kinds) ∙ all-some attrs values given are)

pub values-unknown : (attrs : List AttrSpec) (given : Given) (i : ℕ) → IsFirstAt (is_unknown attrs) given no_pair i → values_for attrs given ≡ None
unfolding values_for
values-unknown attrs given i f = ap (λ b. cond b None (cond (list_any (is_other_kind given) attrs) None (all_values given attrs))) (any-at (is_unknown attrs) given no_pair i f.inside f.here)

pub values-kind : (attrs : List AttrSpec) (given : Given) (j : ℕ) → IsFirstAt (is_other_kind given) attrs no_attr j → values_for attrs given ≡ None
unfolding values_for
values-kind attrs given j f = by_test (list_any (is_unknown attrs) given)
  where
    by_test : (b : Bool) → cond b None (cond (list_any (is_other_kind given) attrs) None (all_values given attrs)) ≡ None
    by_test true = refl
    by_test false = ap (λ b. cond b None (all_values given attrs)) (any-at (is_other_kind given) attrs no_attr j f.inside f.here)

pub values-missing : (attrs : List AttrSpec) (given : Given) (j : ℕ) → IsFirstAt (is_missing given) attrs no_attr j → values_for attrs given ≡ None
unfolding values_for
values-missing attrs given j f = by_test (list_any (is_unknown attrs) given) (list_any (is_other_kind given) attrs)
  where
    by_test : (a b : Bool) → cond a None (cond b None (all_values given attrs)) ≡ None
    by_test true b = refl
    by_test false true = refl
    by_test false false = not-all attrs given j f.inside f.here
