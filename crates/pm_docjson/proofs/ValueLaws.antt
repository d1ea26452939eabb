-- The attributes of a type that are given under all their names are those values.
use Rattle.std.proofs.Common.{◌≡◌, ℕ, List, [], ◌∷◌, ◌++◌, length, Bool, true, false, cond, refl, ap, sym, ◌∙◌, append_assoc, arith, not, ◌||◌}
use Rattle.std.specs.Prelude.{nat_le, Some, None, option_map, option_and_then}
use Rattle.std.specs.List.{list_any, AllByRecursion}
use Rattle.std.specs.List.Sorted.{IsStrictlySortedBy}
use Rattle.std.specs.Ordering.{nat_cmp}
use Rattle.std.specs.Cmp.Lexicographic.{slice_cmp}
use Rattle.std.specs.Str.{bytes_eq}
use Rattle.std.specs.declared.cmp.Ordering.TheVariants.{Less}
use Rattle.std.proofs.lemmas.Slice.Eq.{bytes_eq-Decides}
use Rattle.std.proofs.lemmas.Map.Text.{is_eq-slice_cmp}
use Rattle.std.proofs.Common.{is_eq}
use Rattle.pm_value.specs.Plain.{Plain, depth}
use Rattle.pm_value.specs.Kinds.{is_allowed}
use Rattle.pm_tokens.specs.Schemas.{takes}
use Rattle.pm_value.specs.Kept.{InOrder}
use Rattle.pm_value.specs.Told.{paired}
use Rattle.pm_schema.specs.declared.spec.AttrSpec.{AttrSpec}
use Rattle.pm_schema.specs.Types.{declared, fit_attrs}
use Rattle.pm_schema.specs.Attrs.{given_for, value_for, is_unknown, is_refused, is_other_kind}
use Rattle.pm_schema.proofs.FitLaws.{fit-parts}
use Rattle.std.proofs.lemmas.Bool.{and_parts}
use Rattle.pm_docjson.specs.Values.{Given, keys, all_values, values_for}

-- none of the given names is this one
abbrev NotIn : List ℕ → Given → Type 0
NotIn n given = AllByRecursion (λ g. bytes_eq n g.0 ≡ false) given

given_for-skip : (n : List ℕ) (front rest : Given) → NotIn n front → given_for n (front ++ rest) ≡ given_for n rest
given_for-skip n [] rest h = refl
given_for-skip n (g ∷ front) rest h = rw h.0 (given_for-skip n front rest h.1)

not_in-last : (n : List ℕ) (front : Given) (g : List ℕ × Plain) → NotIn n front → bytes_eq n g.0 ≡ false → NotIn n (front ++ g ∷ [])
not_in-last n [] g h e = (e, tt)
not_in-last n (f ∷ front) g h e = (h.0, not_in-last n front g h.1 e)

-- a name before another is not the other
before-differs : (k n : List ℕ) → slice_cmp nat_cmp k n ≡ Less → bytes_eq n k ≡ false
before-differs k n h = other (bytes_eq n k) refl
  where
    other : (b : Bool) → bytes_eq n k ≡ b → b ≡ false
    other true e =
        let same : n ≡ k = (bytes_eq-Decides n k).0 e in
        let here : bytes_eq k n ≡ true = (bytes_eq-Decides k n).1 (sym same) in
        let less : bytes_eq k n ≡ false = sym (is_eq-slice_cmp k n) ∙ ap is_eq h in
        absurd (cc)
    other false e = refl

all-not_in : (k : List ℕ) (v : Plain) (ns : List (List ℕ)) (front : Given) → AllByRecursion (λ n. slice_cmp nat_cmp k n ≡ Less) ns → AllByRecursion (λ n. NotIn n front) ns
    → AllByRecursion (λ n. NotIn n (front ++ (k, v) ∷ [])) ns
all-not_in k v [] front h g = tt
all-not_in k v (n ∷ ns) front h g = (not_in-last n front (k, v) g.0 (before-differs k n h.0), all-not_in k v ns front h.1 g.1)

here : (a : AttrSpec) (v : Plain) (front rest : Given) → NotIn a.name front → value_for (front ++ ((a.name, v) ∷ rest)) a ≡ Some v
here a v front rest h = rw (given_for-skip a.name front ((a.name, v) ∷ rest) h, (bytes_eq-Decides a.name a.name).1 refl) refl

all_values-again : (attrs : List AttrSpec) (values : List Plain) (front : Given) → InOrder (keys attrs) → length values ≡ length attrs → AllByRecursion (λ n. NotIn n front) (keys attrs)
    → all_values (front ++ paired (keys attrs) values) attrs ≡ Some values
unfolding IsStrictlySortedBy
all_values-again [] [] front order size apart = refl
all_values-again [] (v ∷ values) front order size apart = absurd (omega (arith, size))
all_values-again (a ∷ attrs) [] front order size apart = absurd (omega (arith, size))
all_values-again (a ∷ attrs) (v ∷ values) front order size apart =
    let more = paired (keys attrs) values in
    let moved : front ++ ((a.name, v) ∷ more) ≡ (front ++ (a.name, v) ∷ []) ++ more = sym (append_assoc front ((a.name, v) ∷ []) more) in
    let rest = all_values-again attrs values (front ++ (a.name, v) ∷ []) order.1 (omega (arith, size)) (all-not_in a.name v (keys attrs) front order.0 apart.1) in
    ap (option_and_then (λ w. option_map (λ ws. w ∷ ws) (all_values (front ++ ((a.name, v) ∷ more)) attrs))) (here a v front more apart.0)
    ∙ ap (option_map (λ ws. v ∷ ws)) (ap (λ g. all_values g attrs) moved ∙ rest)

none-apart : (ns : List (List ℕ)) → AllByRecursion (λ n. NotIn n []) ns
none-apart [] = tt
none-apart (n ∷ ns) = (tt, none-apart ns)

-- ---- the names of attributes are declared

abbrev Declared : List AttrSpec → List ℕ → Type 0
Declared attrs n = list_any (λ a. bytes_eq n a.name) attrs ≡ true

either : (a b : Bool) → b ≡ true → (a || b) ≡ true
either true b h = refl
either false b h = h

all-behind : (a : AttrSpec) (attrs : List AttrSpec) (ns : List (List ℕ)) → AllByRecursion (Declared attrs) ns → AllByRecursion (Declared (a ∷ attrs)) ns
all-behind a attrs [] h = tt
all-behind a attrs (n ∷ ns) h = (either (bytes_eq n a.name) (list_any (λ b. bytes_eq n b.name) attrs) h.0, all-behind a attrs ns h.1)

all-declared : (attrs : List AttrSpec) → AllByRecursion (Declared attrs) (keys attrs)
all-declared [] = tt
all-declared (a ∷ attrs) = (ap (λ b. b || list_any (λ c. bytes_eq a.name c.name) attrs) ((bytes_eq-Decides a.name a.name).1 refl), all-behind a attrs (keys attrs) (all-declared attrs))

none-unknown : (attrs : List AttrSpec) (ns : List (List ℕ)) (values : List Plain) → AllByRecursion (Declared attrs) ns → list_any (is_unknown attrs) (paired ns values) ≡ false
none-unknown attrs [] values h = refl
none-unknown attrs (n ∷ ns) [] h = refl
none-unknown attrs (n ∷ ns) (v ∷ values) h = ap (λ b. not b || list_any (is_unknown attrs) (paired ns values)) h.0 ∙ none-unknown attrs ns values h.1

-- ---- each value is of a kind that its attribute names

given_for-here : (n : List ℕ) (v : Plain) (front rest : Given) → NotIn n front → given_for n (front ++ ((n, v) ∷ rest)) ≡ Some v
given_for-here n v front rest h = given_for-skip n front ((n, v) ∷ rest) h ∙ rw ((bytes_eq-Decides n n).1 refl) refl

none-other : (attrs : List AttrSpec) (values : List Plain) (front : Given) → InOrder (keys attrs) → fit_attrs attrs values ≡ true → AllByRecursion (λ n. NotIn n front) (keys attrs)
    → list_any (is_other_kind (front ++ paired (keys attrs) values)) attrs ≡ false
unfolding IsStrictlySortedBy
none-other [] values front order fit apart = refl
none-other (a ∷ attrs) [] front order fit apart = absurd (cc)
none-other (a ∷ attrs) (v ∷ values) front order fit apart =
    let p = and_parts (takes (declared a) v) (fit_attrs attrs values) fit in
    let q = and_parts (nat_le (depth v) 4) (is_allowed a.validate v) p.0 in
    let more = paired (keys attrs) values in
    let moved : front ++ ((a.name, v) ∷ more) ≡ (front ++ (a.name, v) ∷ []) ++ more = sym (append_assoc front ((a.name, v) ∷ []) more) in
    let rest = none-other attrs values (front ++ (a.name, v) ∷ []) order.1 p.1 (all-not_in a.name v (keys attrs) front order.0 apart.1) in
    let first : is_other_kind (front ++ ((a.name, v) ∷ more)) a ≡ false = ap (is_refused a.validate) (given_for-here a.name v front more apart.0) ∙ ap not q.1 in
    ap (λ b. b || list_any (is_other_kind (front ++ ((a.name, v) ∷ more))) attrs) first ∙ (ap (λ g. list_any (is_other_kind g) attrs) moved ∙ rest)

-- the attributes are those values where they are given in the order of their names
pub values_for-again : (attrs : List AttrSpec) (values : List Plain) → InOrder (keys attrs) → fit_attrs attrs values ≡ true → values_for attrs (paired (keys attrs) values) ≡ Some values
unfolding values_for
values_for-again attrs values order fit =
    let given = paired (keys attrs) values in
    ap (λ b. cond b None (cond (list_any (is_other_kind given) attrs) None (all_values given attrs))) (none-unknown attrs (keys attrs) values (all-declared attrs))
    ∙ (ap (λ b. cond b None (all_values given attrs)) (none-other attrs values [] order fit (none-apart (keys attrs)))
    ∙ all_values-again attrs values [] order (fit-parts attrs values fit).many (none-apart (keys attrs)))
