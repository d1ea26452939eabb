-- A value that is read with so many levels nests no deeper.
use Rattle.std.proofs.Common.{◌≡◌, ◌≤◌, ◌-◌, ◌==◌, ℕ, suc, ◌^◌, List, [], ◌∷◌, Bool, true, false, cond, refl, map, subst, arith}
use Rattle.std.proofs.lemmas.Bool.Decides.{nat_tests}
use Rattle.std.specs.Prelude.{Result, IfOk, Ok, Err, Option, Some, None, nat_lt, ℤ, pos, negsuc}
use Rattle.serde_json.specs.Data.{Data, null as json_null, boolean, number, string, array, object, Items, no_items, item, Members, no_members, member}
use Rattle.serde_json.specs.Find.{as_integer}
use Rattle.pm_list.specs.Readings.{◌>>=◌}
use Rattle.pm_value.specs.declared.fault.ValueError.{ValueError}
use Rattle.pm_value.specs.declared.fault.ValueError.TheVariants.{Wide, Deep}
use Rattle.pm_value.specs.Plain.{Plain, null, truth, int, text, items, plains_of, fields_of, depth, plains_depth}
use Rattle.pm_value.specs.Answers.{Gives}
use Rattle.pm_value.specs.Views.{plain}
use Rattle.pm_value.specs.declared.value.Value.{Value}
use Rattle.pm_value.specs.Reading.{int_of, value_at, list_at, pairs_at, value_of}

-- a reading that gave something read both of its parts
pub both-read : {A B C E : Type 0} (f : A → B → C) (r : Result A E) (s : Result B E) (x : C) → (r >>= λ a. s >>= λ b. Ok (f a b)) ≡ Ok x → (p : A × B) × ((r ≡ Ok p.0) × (s ≡ Ok p.1) × (f p.0 p.1 ≡ x))
both-read f (Ok a) (Ok b) x h = ((a, b), (refl, refl, (cc)))
both-read f (Ok a) (Err e) x h = absurd (cc)
both-read f (Err e) s x h = absurd (cc)

pub one-read : {A C E : Type 0} (f : A → C) (r : Result A E) (x : C) → (r >>= λ a. Ok (f a)) ≡ Ok x → (a : A) × ((r ≡ Ok a) × (f a ≡ x))
one-read f (Ok a) x h = (a, (refl, (cc)))
one-read f (Err e) x h = absurd (cc)

entered : {A : Type 0} (n : ℕ) (r : Result A ValueError) (x : A) → cond (n == 0) (Err Deep) r ≡ Ok x → (suc (n - 1) ≤ n) × (r ≡ Ok x)
entered n r x h = from (n == 0) refl h
  where
    from : (b : Bool) → (n == 0) ≡ b → cond b (Err Deep) r ≡ Ok x → (suc (n - 1) ≤ n) × (r ≡ Ok x)
    from true e k = absurd (cc)
    from false e k = (grind (arith, nat_tests), k)

number-flat : (z : Option ℤ) (v : Plain) (n : ℕ) → int_of z ≡ Ok v → depth v ≤ n
number-flat None v n h = absurd (cc)
number-flat (Some (pos k)) v n h = small (nat_lt k (2 ^ 63)) h
  where
    small : (b : Bool) → cond b (Ok (int (pos k))) (Err Wide) ≡ Ok v → depth v ≤ n
    small true e = let same : int (pos k) ≡ v = cc in subst (λ w. depth w ≤ n) same (omega arith)
    small false e = absurd (cc)
number-flat (Some (negsuc k)) v n h = let same : int (negsuc k) ≡ v = cc in subst (λ w. depth w ≤ n) same (omega arith)

flat : (v w : Plain) (n : ℕ) (r : Result Plain ValueError) → r ≡ Ok v → depth v ≡ 0 → r ≡ Ok w → depth w ≤ n
flat v w n r is h e = let same : v ≡ w = cc in subst (λ x. depth x ≤ n) same (omega arith)

mutual
  unfolding value_at

  pub value-shallow : (d : Data) (n : ℕ) (v : Plain) → value_at d n ≡ Ok v → depth v ≤ n
  value-shallow json_null n v h = flat null v n (Ok null) refl refl h
  value-shallow (boolean b) n v h = flat (truth b) v n (Ok (truth b)) refl refl h
  value-shallow (number x) n v h = number-flat (as_integer x) v n h
  value-shallow (string bs) n v h = flat (text bs) v n (Ok (text bs)) refl refl h
  value-shallow (array ds) n v h =
      let w = entered n (list_at ds (n - 1) >>= λ vs. Ok (items (plains_of vs))) v h in
      let r = one-read (λ vs. items (plains_of vs)) (list_at ds (n - 1)) v w.1 in
      subst (λ x. depth x ≤ n) r.1.1 (omega (arith, w.0, list-shallow ds (n - 1) r.0 r.1.0))
  value-shallow (object ms) n v h =
      let w = entered n (pairs_at ms (n - 1) >>= λ fs. Ok (fields_of fs)) v h in
      let r = one-read fields_of (pairs_at ms (n - 1)) v w.1 in
      subst (λ x. depth x ≤ n) r.1.1 (omega (arith, w.0, pairs-shallow ms (n - 1) r.0 r.1.0))

  list-shallow : (ds : Items) (n : ℕ) (vs : List Plain) → list_at ds n ≡ Ok vs → plains_depth (plains_of vs) ≤ n
  list-shallow no_items n vs h = let same : [] ≡ vs = cc in subst (λ x. plains_depth (plains_of x) ≤ n) same (omega arith)
  list-shallow (item d ds) n vs h =
      let r = both-read (λ v ws. v ∷ ws) (value_at d n) (list_at ds n) vs h in
      subst (λ x. plains_depth (plains_of x) ≤ n) r.1.2 (omega (arith, value-shallow d n r.0.0 r.1.0, list-shallow ds n r.0.1 r.1.1))

  pairs-shallow : (ms : Members) (n : ℕ) (fs : List (List ℕ × Plain)) → pairs_at ms n ≡ Ok fs → plains_depth (plains_of (map (λ f. f.1) fs)) ≤ n
  pairs-shallow no_members n fs h = let same : [] ≡ fs = cc in subst (λ x. plains_depth (plains_of (map (λ f. f.1) x)) ≤ n) same (omega arith)
  pairs-shallow (member k d ms) n fs h =
      let r = both-read (λ v gs. (k, v) ∷ gs) (value_at d n) (pairs_at ms n) fs h in
      subst (λ x. plains_depth (plains_of (map (λ f. f.1) x)) ≤ n) r.1.2 (omega (arith, value-shallow d n r.0.0 r.1.0, pairs-shallow ms n r.0.1 r.1.1))

-- what a call gave that read the value
pub result-shallow : (d : Data) (r : Result Value ValueError) → Gives plain r (value_of d) → IfOk r (λ v. depth (plain v) ≤ 4)
result-shallow d (Ok v) h = value-shallow d 4 (plain v) h
result-shallow d (Err e) h = tt
