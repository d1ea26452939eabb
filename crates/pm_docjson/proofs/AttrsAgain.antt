-- Attributes that are written are read again.
use Rattle.std.proofs.Common.{◌≡◌, ◌==◌, ◌<◌, ◌≤◌, ◌+◌, ℕ, zero, suc, List, [], ◌∷◌, length, drop, drop-cons, get_or, min, Bool, true, false, refl, ap, ap₂, sym, subst, ◌∙◌, add-one, arith, ◌&&◌, length-drop}
use Rattle.std.proofs.lemmas.Bool.Decides.{nat_tests}
use Rattle.std.proofs.lemmas.List.{drop_all, get_or-map, length-map}
use Rattle.std.specs.Prelude.{None, Ok, codes, nat_le}
use Rattle.std.specs.List.{list_all}
use Rattle.std.specs.List.Sorted.{IsStrictlySortedBy}
use Rattle.serde_json.specs.Data.{Data, object, Members, no_members, member, put}
use Rattle.pm_value.specs.Plain.{Plain, depth, plains_of, plains_depth}
use Rattle.pm_value.specs.Kept.{InOrder}
use Rattle.pm_value.specs.Told.{paired}
use Rattle.pm_value.specs.Reading.{value_of}
use Rattle.pm_value.specs.Writing.{written, members_written}
use Rattle.pm_schema.specs.declared.spec.AttrSpec.{AttrSpec}
use Rattle.pm_schema.specs.Types.{fit_attrs}
use Rattle.pm_schema.specs.Attrs.{no_attr}
use Rattle.pm_schema.proofs.FitLaws.{fit-parts}
use Rattle.pm_docjson.specs.Values.{keys, values_for}
use Rattle.pm_docjson.specs.Reading.{given_in, given_at, attrs_read}
use Rattle.pm_docjson.specs.Members.{attr_members, attrs_field, put_attrs}
use Rattle.pm_docjson.proofs.ValueLaws.{values_for-again}

put_first : (k : List ℕ) (d : Data) (ns : List (List ℕ)) (vs : List Plain) → length vs ≡ length ns → InOrder (k ∷ ns) → put k d (attr_members ns vs) ≡ member k d (attr_members ns vs)
unfolding members_written IsStrictlySortedBy
put_first k d [] [] each h = refl
put_first k d [] (v ∷ vs) each h = absurd (omega (arith, each))
put_first k d (n ∷ ns) [] each h = absurd (omega (arith, each))
put_first k d (n ∷ ns) (v ∷ vs) each h = rw (put_first n (written v) ns vs (omega (arith, each)) h.1, h.0.0) refl

-- one more attribute at the front
more-members : (k : List ℕ) (v : Plain) (ns : List (List ℕ)) (vs : List Plain) → put k (written v) (attr_members ns vs) ≡ attr_members (k ∷ ns) (v ∷ vs)
unfolding members_written
more-members k v ns vs = refl

more-read : (k : List ℕ) (v : Plain) (ns : List (List ℕ)) (vs : List Plain) → length vs ≡ length ns → InOrder (k ∷ ns) → value_of (written v) ≡ Ok v → given_in (attr_members ns vs) ≡ Ok (paired ns vs)
    → given_in (put k (written v) (attr_members ns vs)) ≡ Ok (paired (k ∷ ns) (v ∷ vs))
unfolding members_written given_in
more-read k v ns vs size order again rest = rw (put_first k (written v) ns vs size order, again, rest) refl

order-from : (ns : List (List ℕ)) (i : ℕ) → InOrder ns → InOrder (drop i ns)
unfolding IsStrictlySortedBy
order-from ns zero h = h
order-from [] (suc i) h = h
order-from (n ∷ ns) (suc i) h = order-from ns i h.1

-- what stands in the object from the i-th attribute on, which is read again where the attributes fit
pub record Object (fit : Bool) (ns : List (List ℕ)) (vs : List Plain) (i : ℕ) (ms : Members) : Type 0 where
  pub inside : i ≤ length vs
  pub named : i ≤ length ns
  pub wrote : ms ≡ attr_members (drop i ns) (drop i vs)
  pub read : fit ≡ true → given_in ms ≡ Ok (paired (drop i ns) (drop i vs))

-- no member without a name, nor without a value

no-names : (vs : List Plain) → attr_members [] vs ≡ no_members
unfolding members_written
no-names [] = refl
no-names (v ∷ vs) = refl

no-values : (ns : List (List ℕ)) → attr_members ns [] ≡ no_members
unfolding members_written
no-values ns = refl

past-members : (ns : List (List ℕ)) (vs : List Plain) (i : ℕ) → min (length ns) (length vs) ≤ i → attr_members (drop i ns) (drop i vs) ≡ no_members
past-members ns vs i h = by_names (nat_le (length ns) i) refl
  where
    low : (a b : ℕ) → nat_le a b ≡ true → a ≤ b
    low a b e = grind (arith, nat_tests)

    high : (a b c : ℕ) → nat_le a c ≡ false → min a b ≤ c → b ≤ c
    high a b c e g = grind (arith, nat_tests)

    by_names : (b : Bool) → nat_le (length ns) i ≡ b → attr_members (drop i ns) (drop i vs) ≡ no_members
    by_names true e = rw (drop_all i ns (low (length ns) i e)) (no-names (drop i vs))
    by_names false e = rw (drop_all i vs (high (length ns) (length vs) i e h)) (no-values (drop i ns))

pub object-start : (fit : Bool) (ns : List (List ℕ)) (vs : List Plain) (i : ℕ) → i ≡ min (length ns) (length vs) → (fit ≡ true → length vs ≡ length ns) → Object fit ns vs i no_members
unfolding given_in
object-start fit ns vs i is size = record {
  inside = omega arith;
  named = omega arith;
  wrote = sym (past-members ns vs i (omega arith));
  read = λ h. let g = size h in rw (drop_all i ns (omega (arith, g))) refl;
}

pub object-more : (fit : Bool) (ns : List (List ℕ)) (vs : List Plain) (i j : ℕ) (k : List ℕ) (v : Plain) (d : Data) (ms new : Members) → (fit ≡ true → length vs ≡ length ns) → InOrder ns → i < length vs → i < length ns → j ≡ i + 1 → k ≡ get_or ns i k → v ≡ get_or vs i v
    → d ≡ written v → (fit ≡ true → value_of d ≡ Ok v) → new ≡ put k d ms → Object fit ns vs j ms → Object fit ns vs i new
object-more fit ns vs i j k v d ms new size order within named next name value wrote again puts o =
    let nk : drop i ns ≡ k ∷ drop (i + 1) ns = rw add-one (drop-cons ns i k named ∙ ap (λ x. x ∷ drop (suc i) ns) (sym name)) in
    let nv : drop i vs ≡ v ∷ drop (i + 1) vs = rw add-one (drop-cons vs i v within ∙ ap (λ x. x ∷ drop (suc i) vs) (sym value)) in
    let behind : ms ≡ attr_members (drop (i + 1) ns) (drop (i + 1) vs) = subst (λ n. ms ≡ attr_members (drop n ns) (drop n vs)) next o.wrote in
    let is : new ≡ put k (written v) (attr_members (drop (i + 1) ns) (drop (i + 1) vs)) = puts ∙ ap₂ (put k) wrote behind in
    let ordered : InOrder (k ∷ drop (i + 1) ns) = subst InOrder nk (order-from ns i order) in
    record {
      inside = omega arith;
      named = omega arith;
      wrote = is ∙ (more-members k v (drop (i + 1) ns) (drop (i + 1) vs) ∙ ap₂ attr_members (sym nk) (sym nv));
      read = λ h.
          let g = size h in
          let rest : given_in (attr_members (drop (i + 1) ns) (drop (i + 1) vs)) ≡ Ok (paired (drop (i + 1) ns) (drop (i + 1) vs)) = subst (λ m. given_in m ≡ Ok (paired (drop (i + 1) ns) (drop (i + 1) vs))) behind (subst (λ n. given_in ms ≡ Ok (paired (drop n ns) (drop n vs))) next (o.read h)) in
          let sizes : length (drop (i + 1) vs) ≡ length (drop (i + 1) ns) = omega (arith, g, length-drop (i + 1) vs, length-drop (i + 1) ns) in
          ap given_in is ∙ (more-read k v (drop (i + 1) ns) (drop (i + 1) vs) sizes ordered (subst (λ x. value_of x ≡ Ok v) wrote (again h)) rest ∙ ap₂ (λ a b. Ok (paired a b)) (sym nk) (sym nv));
    }

-- ---- the field `attrs`

pub put_attrs-filled : (ns : List (List ℕ)) (vs : List Plain) (ms : Members) → 0 < length ns → put_attrs ns vs ms ≡ put (codes "attrs") (object (attr_members ns vs)) ms
unfolding written
put_attrs-filled [] vs ms h = absurd (omega arith)
put_attrs-filled (n ∷ ns) vs ms h = refl

pub put_attrs-empty : (ns : List (List ℕ)) (vs : List Plain) (ms : Members) → length ns ≡ 0 → put_attrs ns vs ms ≡ ms
put_attrs-empty [] vs ms h = refl
put_attrs-empty (n ∷ ns) vs ms h = absurd (omega arith)

pub fit-size : (attrs : List AttrSpec) (vs : List Plain) → fit_attrs attrs vs ≡ true → length vs ≡ length attrs
fit-size attrs vs h = (fit-parts attrs vs h).many

pub no-attrs : (vs : List Plain) → length vs ≡ 0 → attrs_read [] None ≡ Ok vs
unfolding attrs_read given_at values_for
no-attrs [] h = refl
no-attrs (v ∷ vs) h = absurd (omega (arith, h))

pub attrs-again : (attrs : List AttrSpec) (vs : List Plain) → InOrder (keys attrs) → fit_attrs attrs vs ≡ true → given_in (attr_members (keys attrs) vs) ≡ Ok (paired (keys attrs) vs)
    → attrs_read attrs (attrs_field (keys attrs) vs) ≡ Ok vs
unfolding attrs_read given_at written
attrs-again [] vs order fit read = no-attrs vs (fit-size [] vs fit)
attrs-again (a ∷ attrs) vs order fit read = rw (read, values_for-again (a ∷ attrs) vs order fit) refl

-- the name and the value at a place

pub name-at : (attrs : List AttrSpec) (i : ℕ) (k : List ℕ) → i < length attrs → k ≡ (get_or attrs i no_attr).name → k ≡ get_or (keys attrs) i k
name-at attrs i k within is = is ∙ sym (get_or-map (λ a. a.name) attrs i no_attr k within)

depth-from : (vs : List Plain) (i : ℕ) (v : Plain) → plains_depth (plains_of vs) ≤ 4 → i < length vs → v ≡ get_or vs i v → depth v ≤ 4
depth-from [] i v h within is = absurd (omega arith)
depth-from (w ∷ vs) zero v h within is = rw is (omega (arith, h))
depth-from (w ∷ vs) (suc i) v h within is = depth-from vs i v (omega (arith, h)) (omega arith) is

pub depth-at : (attrs : List AttrSpec) (vs : List Plain) (i : ℕ) (v : Plain) → fit_attrs attrs vs ≡ true → i < length vs → v ≡ get_or vs i v → depth v ≤ 4
depth-at attrs vs i v h within is = depth-from vs i v (fit-parts attrs vs h).low within is

pub keys-size : (attrs : List AttrSpec) (vs : List Plain) → fit_attrs attrs vs ≡ true → length vs ≡ length (keys attrs)
keys-size attrs vs h = fit-size attrs vs h ∙ sym (length-map attrs (λ a. a.name))

-- what was read of the values is read of the attributes
pub object-read : (ns : List (List ℕ)) (vs ws : List Plain) (ms : Members) → ms ≡ attr_members ns ws → given_in ms ≡ Ok (paired ns ws) → ws ≡ vs → given_in (attr_members ns vs) ≡ Ok (paired ns vs)
object-read ns vs ws ms wrote read is = subst (λ x. given_in (attr_members ns x) ≡ Ok (paired ns x)) is (subst (λ m. given_in m ≡ Ok (paired ns ws)) wrote read)

pub object-put : (ns : List (List ℕ)) (vs ws : List Plain) (ms old : Members) (d : Data) → 0 < length ns → d ≡ object ms → ms ≡ attr_members ns ws → ws ≡ vs → put (codes "attrs") d old ≡ put_attrs ns vs old
object-put ns vs ws ms old d some seen wrote is = ap (λ x. put (codes "attrs") x old) (seen ∙ ap object (wrote ∙ ap (attr_members ns) is)) ∙ sym (put_attrs-filled ns vs old some)

-- a type without attributes has none to write
pub none-again : (attrs : List AttrSpec) (vs : List Plain) → length attrs ≡ 0 → fit_attrs attrs vs ≡ true → attrs_read attrs (attrs_field (keys attrs) vs) ≡ Ok vs
none-again [] vs none fit = no-attrs vs (fit-size [] vs fit)
none-again (a ∷ attrs) vs none fit = absurd (omega arith)
