-- Attributes and marks that are read fit their types, where no default is more than four levels deep.
use Rattle.std.proofs.Common.{◌≡◌, ◌≤◌, ◌<◌, ◌==◌, ℕ, zero, suc, List, [], ◌∷◌, length, get_or, Bool, true, false, not, ◌||◌, cond, nat_lt, refl, ap, subst, ◌∙◌, arith}
use Rattle.std.proofs.lemmas.List.{length-map}
use Rattle.std.proofs.lemmas.Bool.Decides.{nat_tests}
use Rattle.std.proofs.lemmas.List.Quantifiers.{position-Some}
use Rattle.std.specs.Prelude.{codes, nat_le, Option, Some, None, Result, Ok, Err, option_map, option_and_then}
use Rattle.std.specs.List.{list_all, list_any}
use Rattle.std.specs.Str.{bytes_eq}
use Rattle.serde_json.specs.Data.{Data, Items, no_items, item, Members, no_members, member}
use Rattle.serde_json.specs.Find.{as_array, as_object}
use Rattle.pm_list.specs.Readings.{◌>>=◌, or_fault}
use Rattle.pm_value.specs.declared.fault.ValueError.{ValueError}
use Rattle.pm_value.specs.declared.value.Value.{Value}
use Rattle.pm_value.specs.Plain.{Plain, depth}
use Rattle.pm_value.specs.Views.{plain}
use Rattle.pm_value.specs.Kinds.{is_allowed}
use Rattle.pm_value.specs.Reading.{value_of}
use Rattle.pm_value.proofs.Shallow.{value-shallow}
use Rattle.pm_marks.specs.declared.mark.Mark.{Mark}
use Rattle.pm_tokens.specs.Tokens.{Marks}
use Rattle.pm_tokens.specs.Schemas.{takes}
use Rattle.pm_tokens.specs.Marks.{is_set}
use Rattle.pm_schema.specs.declared.spec.SchemaSpec.{SchemaSpec}
use Rattle.pm_schema.specs.declared.spec.AttrSpec.{AttrSpec}
use Rattle.pm_schema.specs.declared.spec.NodeSpec.{NodeSpec}
use Rattle.pm_schema.specs.declared.spec.MarkSpec.{MarkSpec}
use Rattle.pm_schema.specs.declared.schema.Schema.{Schema}
use Rattle.pm_schema.specs.Attrs.{given_for, or_default, value_for, is_unknown, is_refused, is_other_kind}
use Rattle.pm_schema.specs.Defaults.{is_shallow, are_shallow, is_kind_of_default, have_kinds, nodes_have_kinds, marks_have_kinds, HasShallowDefaults}
use Rattle.pm_schema.specs.Names.{place_of}
use Rattle.pm_schema.specs.Types.{names_of_nodes, names_of_marks, node_at, mark_at, no_node, no_mark, declared, fit_attrs}
use Rattle.pm_schema.specs.Documents.{documents_of}
use Rattle.pm_docjson.specs.declared.fault.DocReadError.TheVariants.{Shape, UnknownType, Attr, NotASet}
use Rattle.pm_docjson.specs.Fields.{field, text_at}
use Rattle.pm_docjson.specs.Reading.{as_attr, given_in, given_at, attrs_read, mark_of, mark_list, as_set, marks_of}
use Rattle.pm_docjson.specs.Values.{Given, all_values, values_for}
use Rattle.pm_docjson.specs.Writable.{mark_fits, marks_fit}
use Rattle.std.proofs.lemmas.Bool.{and_parts, and_from}

-- what was read first, where the whole reading gave something
pub first-read : {A B E : Type 0} (r : Result A E) (f : A → Result B E) (x : B) → (r >>= f) ≡ Ok x → (a : A) × ((r ≡ Ok a) × (f a ≡ Ok x))
first-read (Ok a) f x h = (a, (refl, h))
first-read (Err e) f x h = absurd (cc)

pub there : {A E : Type 0} (e : E) (o : Option A) (x : A) → or_fault e o ≡ Ok x → o ≡ Some x
there e None x h = absurd (cc)
there e (Some y) x h = let same : y ≡ x = cc in ap Some same

-- ---- values

abbrev Low : Plain → Bool
Low v = nat_le (depth v) 4

abbrev GivenLow : Given → Type 0
GivenLow given = list_all (λ g. Low g.1) given ≡ true

low-is : (n : ℕ) → n ≤ 4 → nat_le n 4 ≡ true
low-is n h = grind (arith, nat_tests)

attr-value : (r : Result Plain ValueError) (v : Plain) → as_attr r ≡ Ok v → r ≡ Ok v
attr-value (Ok w) v h = let same : w ≡ v = cc in ap Ok same
attr-value (Err e) v h = absurd (cc)

given-low : (ms : Members) (given : Given) → given_in ms ≡ Ok given → GivenLow given
unfolding given_in
given-low no_members given h = let same : [] ≡ given = cc in subst GivenLow same refl
given-low (member k d ms) given h =
    let a = first-read (as_attr (value_of d)) (λ v. given_in ms >>= λ rest. Ok ((k, v) ∷ rest)) given h in
    let b = first-read (given_in ms) (λ rest. Ok ((k, a.0) ∷ rest)) given a.1.1 in
    let same : (k, a.0) ∷ b.0 ≡ given = cc b.1.1 in
    let low = low-is (depth a.0) (value-shallow d 4 a.0 (attr-value (value_of d) a.0 a.1.0)) in
    subst GivenLow same (and_from (Low a.0) (list_all (λ g. Low g.1) b.0) low (given-low ms b.0 b.1.0))

given-at : (d : Option Data) (given : Given) → given_at d ≡ Ok given → GivenLow given
unfolding given_at
given-at None given h = let same : [] ≡ given = cc in subst GivenLow same refl
given-at (Some d) given h = let a = first-read (or_fault Shape (as_object d)) given_in given h in given-low a.0 given a.1.1

found-low : (name : List ℕ) (given : Given) (v : Plain) → GivenLow given → given_for name given ≡ Some v → Low v ≡ true
found-low name [] v h e = absurd (cc)
found-low name (g ∷ given) v h e =
    let parts = and_parts (Low g.1) (list_all (λ x. Low x.1) given) h in
    pick (bytes_eq name g.0) parts.0 (λ k. found-low name given v parts.1 k) e
  where
    pick : (b : Bool) → Low g.1 ≡ true → (given_for name given ≡ Some v → Low v ≡ true) → cond b (Some g.1) (given_for name given) ≡ Some v → Low v ≡ true
    pick true first rest e = let same : g.1 ≡ v = cc in subst (λ x. Low x ≡ true) same first
    pick false first rest e = rest e

default-low : (d : Option Value) (v : Plain) → is_shallow d ≡ true → option_map plain d ≡ Some v → Low v ≡ true
default-low None v h e = absurd (cc)
default-low (Some w) v h e = let same : plain w ≡ v = cc in subst (λ x. Low x ≡ true) same h

value-low : (given : Given) (a : AttrSpec) (v : Plain) → GivenLow given → is_shallow a.default ≡ true → value_for given a ≡ Some v → Low v ≡ true
value-low given a v low sh h = from (given_for a.name given) refl h
  where
    from : (o : Option Plain) → given_for a.name given ≡ o → or_default o (option_map plain a.default) ≡ Some v → Low v ≡ true
    from None is e = default-low a.default v sh e
    from (Some w) is e = let same : w ≡ v = cc in found-low a.name given v low (is ∙ ap Some same)

-- what is known of the defaults of a type's attributes
pub record GoodDefaults (attrs : List AttrSpec) : Type 0 where
  pub shallow : are_shallow attrs ≡ true
  pub kinds : have_kinds attrs ≡ true

-- a value that is given is of a kind that is named, and so is a default
value-kind : (given : Given) (a : AttrSpec) (v : Plain) → is_kind_of_default a.validate a.default ≡ true → is_other_kind given a ≡ false → value_for given a ≡ Some v → is_allowed a.validate v ≡ true
value-kind given a v sure none h = from (given_for a.name given) none h
  where
    un-not : (b : Bool) → not b ≡ false → b ≡ true
    un-not true e = refl
    un-not false e = absurd (cc)

    default : (d : Option Value) → is_kind_of_default a.validate d ≡ true → option_map plain d ≡ Some v → is_allowed a.validate v ≡ true
    default None k e = absurd (cc)
    default (Some w) k e = let same : plain w ≡ v = cc in subst (λ x. is_allowed a.validate x ≡ true) same k

    from : (o : Option Plain) → is_refused a.validate o ≡ false → or_default o (option_map plain a.default) ≡ Some v → is_allowed a.validate v ≡ true
    from None k e = default a.default sure e
    from (Some w) k e = let same : w ≡ v = cc in subst (λ x. is_allowed a.validate x ≡ true) same (un-not (is_allowed a.validate w) k)

neither : (a b : Bool) → (a || b) ≡ false → (a ≡ false) × (b ≡ false)
neither true b h = absurd (cc)
neither false b h = (refl, h)

values-fit : (given : Given) (attrs : List AttrSpec) (vs : List Plain) → GivenLow given → GoodDefaults attrs → list_any (is_other_kind given) attrs ≡ false → all_values given attrs ≡ Some vs → fit_attrs attrs vs ≡ true
values-fit given [] vs low good none h = let same : [] ≡ vs = cc in subst (λ xs. fit_attrs [] xs ≡ true) same refl
values-fit given (a ∷ more) vs low good none h =
    let sh = and_parts (is_shallow a.default) (are_shallow more) good.shallow in
    let ks = and_parts (is_kind_of_default a.validate a.default) (have_kinds more) good.kinds in
    let no = neither (is_other_kind given a) (list_any (is_other_kind given) more) none in
    from (value_for given a) (all_values given more)
    (λ v i. and_from (Low v) (is_allowed a.validate v) (value-low given a v low sh.0 i) (value-kind given a v ks.0 no.0 i))
    (λ ws j. values-fit given more ws low (record { shallow = sh.1; kinds = ks.1 }) no.1 j) h
  where
    from : (o : Option Plain) (os : Option (List Plain)) → ((v : Plain) → o ≡ Some v → takes (declared a) v ≡ true) → ((ws : List Plain) → os ≡ Some ws → fit_attrs more ws ≡ true)
        → option_and_then (λ v. option_map (λ ws. v ∷ ws) os) o ≡ Some vs → fit_attrs (a ∷ more) vs ≡ true
    from None os i j e = absurd (cc)
    from (Some v) None i j e = absurd (cc)
    from (Some v) (Some ws) i j e =
        let same : v ∷ ws ≡ vs = cc in
        subst (λ xs. fit_attrs (a ∷ more) xs ≡ true) same (and_from (takes (declared a) v) (fit_attrs more ws) (i v refl) (j ws refl))

-- no name is unknown and no value of another kind, where values came
known : {A : Type 0} (b c : Bool) (o : Option A) (x : A) → cond b None (cond c None o) ≡ Some x → (c ≡ false) × (o ≡ Some x)
known true c o x h = absurd (cc)
known false true o x h = absurd (cc)
known false false o x h = (refl, h)

-- the attributes that are read
pub attrs-fit : (attrs : List AttrSpec) (d : Option Data) (vs : List Plain) → GoodDefaults attrs → attrs_read attrs d ≡ Ok vs → fit_attrs attrs vs ≡ true
unfolding attrs_read values_for
attrs-fit attrs d vs good h =
    let a = first-read (given_at d) (λ given. or_fault Attr (values_for attrs given)) vs h in
    let k = known (list_any (is_unknown attrs) a.0) (list_any (is_other_kind a.0) attrs) (all_values a.0 attrs) vs (there Attr (values_for attrs a.0) vs a.1.1) in
    values-fit a.0 attrs vs (given-at d a.0 a.1.0) good k.0 k.1

-- ---- types

each : {X : Type 0} (p : X → Bool) (xs : List X) (i : ℕ) (d : X) → p d ≡ true → list_all p xs ≡ true → p (get_or xs i d) ≡ true
each p [] i d last h = last
each p (x ∷ xs) zero d last h = (and_parts (p x) (list_all p xs) h).0
each p (x ∷ xs) (suc i) d last h = each p xs i d last (and_parts (p x) (list_all p xs) h).1

-- what is known of the defaults of a schema that was built, where they are shallow
pub record KnownDefaults (s : SchemaSpec) : Type 0 where
  pub shallow : HasShallowDefaults s
  pub nodes : nodes_have_kinds s ≡ true
  pub marks : marks_have_kinds s ≡ true

pub known-defaults : (s : Schema) → HasShallowDefaults s.spec → KnownDefaults s.spec
known-defaults s sh = record { shallow = sh; nodes = s.node_defaults; marks = s.mark_defaults }

pub node-defaults : (s : SchemaSpec) (k : ℕ) → KnownDefaults s → GoodDefaults (node_at s k).attrs
node-defaults s k h = record {
  shallow = each (λ (n : NodeSpec). are_shallow n.attrs) s.nodes k no_node refl h.shallow.nodes;
  kinds = each (λ (n : NodeSpec). have_kinds n.attrs) s.nodes k no_node refl h.nodes;
}

pub mark-defaults : (s : SchemaSpec) (k : ℕ) → KnownDefaults s → GoodDefaults (mark_at s k).attrs
mark-defaults s k h = record {
  shallow = each (λ (m : MarkSpec). are_shallow m.attrs) s.marks k no_mark refl h.shallow.marks;
  kinds = each (λ (m : MarkSpec). have_kinds m.attrs) s.marks k no_mark refl h.marks;
}

inside : (name : List ℕ) (names : List (List ℕ)) (k : ℕ) → place_of name names ≡ Some k → k < length names
inside name names k h = (position-Some (λ n. bytes_eq name n) names k [] h).0

pub node-inside : (s : SchemaSpec) (name : List ℕ) (k : ℕ) → place_of name (names_of_nodes s) ≡ Some k → nat_lt k (length s.nodes) ≡ true
node-inside s name k h =
    let low = inside name (names_of_nodes s) k h in
    let same = length-map s.nodes (λ (n : NodeSpec). n.name) in
    below k (length s.nodes) (omega (arith, low, same))
  where
    below : (a b : ℕ) → a < b → nat_lt a b ≡ true
    below a b l = grind (arith, nat_tests)

mark-inside : (s : SchemaSpec) (name : List ℕ) (k : ℕ) → place_of name (names_of_marks s) ≡ Some k → nat_lt k (length s.marks) ≡ true
mark-inside s name k h =
    let low = inside name (names_of_marks s) k h in
    let same = length-map s.marks (λ (m : MarkSpec). m.name) in
    below k (length s.marks) (omega (arith, low, same))
  where
    below : (a b : ℕ) → a < b → nat_lt a b ≡ true
    below a b l = grind (arith, nat_tests)

-- ---- marks

pub mark-read : (s : SchemaSpec) (d : Data) (m : Mark (List Plain)) → KnownDefaults s → mark_of s d ≡ Ok m → mark_fits s m ≡ true
unfolding mark_of
mark-read s d m sh h =
    let a = first-read (text_at (codes "type") d) (λ name. or_fault UnknownType (place_of name (names_of_marks s)) >>= λ kind. attrs_read (mark_at s kind).attrs (field (codes "attrs") d) >>= λ attrs. Ok (record { kind = kind; attrs = attrs })) m h in
    let b = first-read (or_fault UnknownType (place_of a.0 (names_of_marks s))) (λ kind. attrs_read (mark_at s kind).attrs (field (codes "attrs") d) >>= λ attrs. Ok (record { kind = kind; attrs = attrs })) m a.1.1 in
    let c = first-read (attrs_read (mark_at s b.0).attrs (field (codes "attrs") d)) (λ attrs. Ok (record { kind = b.0; attrs = attrs })) m b.1.1 in
    let made : Mark (List Plain) = record { kind = b.0; attrs = c.0 } in
    let same : made ≡ m = cc c.1.1 in
    subst (λ x. mark_fits s x ≡ true) same
    (and_from (nat_lt b.0 (length s.marks)) (fit_attrs (mark_at s b.0).attrs c.0)
    (mark-inside s a.0 b.0 (there UnknownType (place_of a.0 (names_of_marks s)) b.0 b.1.0))
    (attrs-fit (mark_at s b.0).attrs (field (codes "attrs") d) c.0 (mark-defaults s b.0 sh) c.1.0))

marks-listed : (s : SchemaSpec) (ds : Items) (ms : Marks) → KnownDefaults s → mark_list s ds ≡ Ok ms → list_all (mark_fits s) ms ≡ true
unfolding mark_list
marks-listed s no_items ms sh h = let same : [] ≡ ms = cc in subst (λ x. list_all (mark_fits s) x ≡ true) same refl
marks-listed s (item d ds) ms sh h =
    let a = first-read (mark_of s d) (λ first. mark_list s ds >>= λ rest. Ok (first ∷ rest)) ms h in
    let b = first-read (mark_list s ds) (λ rest. Ok (a.0 ∷ rest)) ms a.1.1 in
    let same : a.0 ∷ b.0 ≡ ms = cc b.1.1 in
    subst (λ x. list_all (mark_fits s) x ≡ true) same (and_from (mark_fits s a.0) (list_all (mark_fits s) b.0) (mark-read s d a.0 sh a.1.0) (marks-listed s ds b.0 sh b.1.0))

set-read : (s : SchemaSpec) (xs ms : Marks) → as_set s xs ≡ Ok ms → (xs ≡ ms) × (is_set (documents_of s) ms ≡ true)
set-read s xs ms h = from (is_set (documents_of s) xs) refl h
  where
    from : (b : Bool) → is_set (documents_of s) xs ≡ b → cond b (Ok xs) (Err NotASet) ≡ Ok ms → (xs ≡ ms) × (is_set (documents_of s) ms ≡ true)
    from true is e = let same : xs ≡ ms = cc in (same, subst (λ x. is_set (documents_of s) x ≡ true) same is)
    from false is e = absurd (cc)

-- the marks of a node that is read
pub marks-read-fit : (s : SchemaSpec) (d : Option Data) (ms : Marks) → KnownDefaults s → marks_of s d ≡ Ok ms → marks_fit s ms ≡ true
unfolding marks_of
marks-read-fit s None ms sh h = let same : [] ≡ ms = cc in subst (λ x. marks_fit s x ≡ true) same refl
marks-read-fit s (Some d) ms sh h =
    let a = first-read (or_fault Shape (as_array d)) (λ items. mark_list s items >>= λ marks. as_set s marks) ms h in
    let b = first-read (mark_list s a.0) (as_set s) ms a.1.1 in
    let w = set-read s b.0 ms b.1.1 in
    and_from (list_all (mark_fits s) ms) (is_set (documents_of s) ms) (subst (λ x. list_all (mark_fits s) x ≡ true) w.0 (marks-listed s a.0 b.0 sh b.1.0)) w.1
