-- Values that fit the attributes of a type: their number, their depth and their kinds.
use Rattle.std.proofs.Common.{◌≡◌, ◌≤◌, ◌<◌, ℕ, zero, suc, Bool, true, false, ◌&&◌, List, [], ◌∷◌, length, map, nat_lt, refl, ap, arith}
use Rattle.std.specs.Prelude.{nat_le, Some, None, if◌then◌else◌}
use Rattle.std.proofs.lemmas.Bool.{leb-true, le-leb, and_parts, and_from}
use Rattle.std.proofs.lemmas.Bool.Decides.{nat_tests}
use Rattle.pm_value.specs.Plain.{Plain, depth, plains_of, plains_depth}
use Rattle.pm_value.specs.Kinds.{is_allowed}
use Rattle.pm_tokens.specs.Schemas.{takes, fit_type, node_attrs, mark_attrs}
use Rattle.pm_schema.specs.declared.spec.AttrSpec.{AttrSpec}
use Rattle.pm_schema.specs.declared.spec.SchemaSpec.{SchemaSpec}
use Rattle.pm_schema.specs.Types.{node_at, mark_at, declared, fit_attrs}
use Rattle.pm_schema.specs.Attrs.{AreOfKinds}
use Rattle.pm_schema.specs.Documents.{documents_of}

-- what it is that values fit
pub record Fits (attrs : List AttrSpec) (values : List Plain) : Type 0 where
  pub many : length values ≡ length attrs
  pub low : plains_depth (plains_of values) ≤ 4
  pub kinds : AreOfKinds attrs values

pub fits-are : (attrs : List AttrSpec) (values : List Plain) → Fits attrs values → fit_attrs attrs values ≡ true
fits-are [] [] w = refl
fits-are [] (v ∷ values) w = absurd (omega (arith, w.many))
fits-are (a ∷ attrs) [] w = absurd (omega (arith, w.many))
fits-are (a ∷ attrs) (v ∷ values) w =
    let low : depth v ≤ 4 = omega (arith, w.low) in
    let rest : Fits attrs values = record { many = omega (arith, w.many); low = omega (arith, w.low); kinds = λ i l. w.kinds (suc i) (omega (arith, l)) } in
    and_from (takes (declared a) v) (fit_attrs attrs values)
    (and_from (nat_le (depth v) 4) (is_allowed a.validate v) (le-leb (depth v) 4 low) (w.kinds 0 (omega arith))) (fits-are attrs values rest)

pub fit-parts : (attrs : List AttrSpec) (values : List Plain) → fit_attrs attrs values ≡ true → Fits attrs values
fit-parts [] [] h = record { many = refl; low = omega arith; kinds = λ i l. absurd (omega (arith, l)) }
fit-parts [] (v ∷ values) h = absurd (cc)
fit-parts (a ∷ attrs) [] h = absurd (cc)
fit-parts (a ∷ attrs) (v ∷ values) h =
    let p = and_parts (takes (declared a) v) (fit_attrs attrs values) h in
    let q = and_parts (nat_le (depth v) 4) (is_allowed a.validate v) p.0 in
    let low = leb-true (depth v) 4 q.0 in
    let rest = fit-parts attrs values p.1 in
    record { many = ap suc rest.many; low = omega (arith, low, rest.low); kinds = at q.1 rest.kinds }
  where
    at : is_allowed a.validate v ≡ true → AreOfKinds attrs values → AreOfKinds (a ∷ attrs) (v ∷ values)
    at first later zero l = first
    at first later (suc i) l = later i (omega (arith, l))

-- the same of the attributes of a type, as documents see them
with-type : (b : Bool) (attrs : List AttrSpec) (values : List Plain) → fit_type (if b then Some (map declared attrs) else None) values ≡ (b && fit_attrs attrs values)
with-type true attrs values = refl
with-type false attrs values = refl

pub node-attrs-are : (s : SchemaSpec) (k : ℕ) (values : List Plain) → node_attrs (documents_of s) k values ≡ (nat_lt k (length s.nodes) && fit_attrs (node_at s k).attrs values)
unfolding documents_of
node-attrs-are s k values = with-type (nat_lt k (length s.nodes)) (node_at s k).attrs values

pub mark-attrs-are : (s : SchemaSpec) (m : ℕ) (values : List Plain) → mark_attrs (documents_of s) m values ≡ (nat_lt m (length s.marks) && fit_attrs (mark_at s m).attrs values)
unfolding documents_of
mark-attrs-are s m values = with-type (nat_lt m (length s.marks)) (mark_at s m).attrs values

-- what a type that is there declares
pub node-declares : (s : SchemaSpec) (k : ℕ) → k < length s.nodes → (documents_of s).node_declares k ≡ Some (map declared (node_at s k).attrs)
unfolding documents_of
node-declares s k l = let e : nat_lt k (length s.nodes) ≡ true = grind (arith, nat_tests) in rw e refl

pub mark-declares : (s : SchemaSpec) (m : ℕ) → m < length s.marks → (documents_of s).mark_declares m ≡ Some (map declared (mark_at s m).attrs)
unfolding documents_of
mark-declares s m l = let e : nat_lt m (length s.marks) ≡ true = grind (arith, nat_tests) in rw e refl
