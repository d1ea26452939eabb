-- Attributes and marks have no float, so that their texts are known.
use Rattle.std.proofs.Common.{◌≡◌, ◌<◌, ℕ, List, [], ◌∷◌, ◌++◌, length, Bool, true, false, ◌||◌, refl, ap, sym, ◌∙◌, arith}
use Rattle.std.specs.Prelude.{codes, Result, Ok, Err, OnOk}
use Rattle.serde_json.specs.Data.{Members, object}
use Rattle.serde_json.specs.Written.{compact_text, has_float, members_have_float}
use Rattle.serde_json.proofs.Views.{view-Object}
use Rattle.pm_value.specs.Plain.{Plain, plains_of}
use Rattle.pm_value.specs.Writing.{written, members_written}
use Rattle.pm_schema.specs.declared.spec.SchemaSpec.{SchemaSpec}
use Rattle.pm_schema.specs.declared.spec.AttrSpec.{AttrSpec}
use Rattle.pm_schema.specs.Types.{node_at}
use Rattle.pm_node.specs.declared.node.Body.TheVariants.{Leaf}
use Rattle.pm_docjson.specs.Members.{attr_members}
use Rattle.pm_docjson.specs.Values.{keys}
use Rattle.pm_docjson.specs.Writing.{with_attrs, typed}
use Rattle.pm_docjson.proofs.NoFloat.{node-whole}
use Rattle.pm_doctext.specs.Texts.{attrs_text}

first : (x y : Bool) → (x || y) ≡ false → x ≡ false
first false y h = refl
first true y h = absurd (cc)

by-keys : (ks : List (List ℕ)) (vs : List Plain) (ms : Members) → members_have_float (with_attrs ks vs ms) ≡ false → has_float (object (attr_members ks vs)) ≡ false
unfolding written members_written
by-keys [] [] ms h = refl
by-keys [] (v ∷ vs) ms h = refl
by-keys (k ∷ ks) vs ms h = first (members_have_float (members_written (k ∷ ks) (plains_of vs))) (members_have_float ms) h

pub attrs-whole : (s : SchemaSpec) (kind : ℕ) (vs : List Plain) → has_float (object (attr_members (keys (node_at s kind).attrs) vs)) ≡ false
attrs-whole s kind vs = by-keys (keys (node_at s kind).attrs) vs (typed (node_at s kind).name) (node-whole s (record { kind = kind; attrs = vs; marks = []; body = Leaf }))

-- a type with attributes, and one without

pub attrs-some : (attrs : List AttrSpec) (vs : List Plain) → 0 < length attrs
    → attrs_text (keys attrs) vs ≡ codes "\"attrs\":" ++ (compact_text (object (attr_members (keys attrs) vs)) ++ codes ",")
unfolding written
attrs-some [] vs h = absurd (omega (arith, h))
attrs-some (a ∷ attrs) vs h = refl

pub attrs-none : (attrs : List AttrSpec) (vs : List Plain) → length attrs ≡ 0 → attrs_text (keys attrs) vs ≡ []
attrs-none [] vs h = refl
attrs-none (a ∷ attrs) vs h = absurd (omega (arith, h))

pub attrs-after : (attrs : List AttrSpec) (vs : List Plain) → 0 < length attrs → {E : Type 0} (r : Result (Unit {0}) E) (old value new : List ℕ) → value ≡ compact_text (object (attr_members (keys attrs) vs))
    → OnOk r (new ≡ old ++ (codes "\"attrs\":" ++ (value ++ codes ","))) → OnOk r (new ≡ old ++ attrs_text (keys attrs) vs)
attrs-after attrs vs h (Ok u) old value new is e = e ∙ ap (λ z. old ++ z) (ap (λ z. codes "\"attrs\":" ++ (z ++ codes ",")) is ∙ sym (attrs-some attrs vs h))
attrs-after attrs vs h (Err x) old value new is e = tt

pub ruleset whole = attrs-whole

pub ruleset views = view-Object

pub ruleset filled = (attrs-some, attrs-none)
