-- What is written of a value of an attribute, told by what is written of a mark that has it as its one attribute.
use Rattle.std.proofs.Common.{◌≡◌, ◌≤◌, ◌&&◌, ◌||◌, Bool, true, false, [], ◌∷◌, refl, arith}
use Rattle.std.proofs.lemmas.Bool.{le-leb, and_from}
use Rattle.std.specs.Prelude.{None, codes, nat_le}
use Rattle.serde_json.specs.Data.{depth}
use Rattle.serde_json.specs.Written.{has_float}
use Rattle.pm_value.specs.Plain.{Plain, depth as value_depth}
use Rattle.pm_value.specs.Writing.{written, members_written}
use Rattle.pm_marks.specs.declared.mark.Mark.{Mark}
use Rattle.pm_tokens.specs.Tokens.{Attrs}
use Rattle.pm_schema.specs.declared.spec.SchemaSpec.{SchemaSpec}
use Rattle.pm_docjson.specs.KeyOrder.{HasOrderedKeys}
use Rattle.pm_docjson.proofs.KeyOrder.{mark-ordered}
use Rattle.pm_docjson.proofs.Levels.{mark-low}
use Rattle.pm_docjson.proofs.NoFloat.{mark-whole}

-- a schema with one mark type, which has one attribute
abbrev one_mark : SchemaSpec
one_mark = record {
  nodes = [];
  marks = record { name = codes "m"; attrs = record { name = codes "a"; default = None; validate = None } ∷ []; inclusive = true; excludes = None; groups = [] } ∷ [];
  top = [];
  version = 1;
}

abbrev marked : Plain → Mark Attrs
marked v = record { kind = 0; attrs = v ∷ [] }

-- the keys of each object stand in byte order
pub value-ordered : (v : Plain) → HasOrderedKeys (written v)
unfolding written members_written
value-ordered v = (mark-ordered one_mark (marked v)).0.0

first : (x y : Bool) → (x || y) ≡ false → x ≡ false
first false y h = refl
first true y h = absurd (cc)

-- no number is a fraction
pub value-whole : (v : Plain) → has_float (written v) ≡ false
unfolding written members_written
value-whole v = first (has_float (written v)) false (first (has_float (written v) || false) false (mark-whole one_mark (marked v)))

-- where the value can be written, it nests at most four levels deep
pub value-low : (v : Plain) → value_depth v ≤ 4 → depth (written v) ≤ 4
unfolding written members_written
value-low v h =
    let l = le-leb (value_depth v) 4 h in
    let fits = and_from (nat_le (value_depth v) 4 && true) true (and_from (nat_le (value_depth v) 4) true l refl) refl in
    let d = mark-low one_mark (marked v) fits in
    omega (arith, d)
