-- What is found in an object that was written, and that putting its members in gives it.
use Rattle.std.proofs.Common.{◌≡◌, ℕ, ◌==◌, List, Bool, true, false, cond, refl}
use Rattle.std.specs.Prelude.{codes, Some, None, Ok}
use Rattle.serde_json.specs.Data.{Data, string, object, Members, no_members, member, put}
use Rattle.serde_json.specs.Find.{get}
use Rattle.pm_docjson.specs.Fields.{non_null, field}
use Rattle.pm_schema.specs.declared.spec.SchemaSpec.{SchemaSpec}
use Rattle.pm_tokens.specs.Slices.{Slice, slice_size}
use Rattle.pm_slicejson.specs.Writing.{slice_written}
use Rattle.pm_stepjson.specs.Fields.{structure_at, count, with_structure, replaced}
use Rattle.pm_stepjson.specs.Members.{put_structure, put_slice}

-- the members from `slice` to `to`, where `b` says that the slice is empty
abbrev pub tail : Bool → Bool → Data → Data → Data → Members
tail b structure w e t = cond b (member (codes "stepType") e (with_structure structure (member (codes "to") t no_members))) (member (codes "slice") w (member (codes "stepType") e (with_structure structure (member (codes "to") t no_members))))

-- the object of a replace
abbrev pub replace_object : Bool → Bool → Data → Data → Data → Data → Data
replace_object b structure w e f t = object (member (codes "from") f (tail b structure w e t))

pub replace_type : (b structure : Bool) (w e f t : Data) → get (codes "stepType") (replace_object b structure w e f t) ≡ Some e
replace_type true structure w e f t = refl
replace_type false structure w e f t = refl

pub replace_to : (b structure : Bool) (w e f t : Data) → get (codes "to") (replace_object b structure w e f t) ≡ Some t
replace_to true true w e f t = refl
replace_to true false w e f t = refl
replace_to false true w e f t = refl
replace_to false false w e f t = refl

pub replace_slice : (b structure : Bool) (w e f t : Data) → field (codes "slice") (replace_object b structure w e f t) ≡ cond b None (non_null w)
replace_slice true true w e f t = refl
replace_slice true false w e f t = refl
replace_slice false structure w e f t = refl

pub replace_structure : (b structure : Bool) (w e f t : Data) → structure_at (replace_object b structure w e f t) ≡ Ok structure
replace_structure true true w e f t = refl
replace_structure true false w e f t = refl
replace_structure false true w e f t = refl
replace_structure false false w e f t = refl

-- the object of a replaceAround, with what stands at `gapFrom`, `gapTo` and `insert`
abbrev pub around_object : Bool → Bool → Data → Data → Data → Data → Data → Data → Data → Data
around_object b structure w e f t g h i =
    object (member (codes "from") f (member (codes "gapFrom") g (member (codes "gapTo") h (member (codes "insert") i (tail b structure w e t)))))

pub around_type : (b structure : Bool) (w e f t g h i : Data) → get (codes "stepType") (around_object b structure w e f t g h i) ≡ Some e
around_type true structure w e f t g h i = refl
around_type false structure w e f t g h i = refl

pub around_to : (b structure : Bool) (w e f t g h i : Data) → get (codes "to") (around_object b structure w e f t g h i) ≡ Some t
around_to true true w e f t g h i = refl
around_to true false w e f t g h i = refl
around_to false true w e f t g h i = refl
around_to false false w e f t g h i = refl

pub around_slice : (b structure : Bool) (w e f t g h i : Data) → field (codes "slice") (around_object b structure w e f t g h i) ≡ cond b None (non_null w)
around_slice true true w e f t g h i = refl
around_slice true false w e f t g h i = refl
around_slice false structure w e f t g h i = refl

pub around_structure : (b structure : Bool) (w e f t g h i : Data) → structure_at (around_object b structure w e f t g h i) ≡ Ok structure
around_structure true true w e f t g h i = refl
around_structure true false w e f t g h i = refl
around_structure false true w e f t g h i = refl
around_structure false false w e f t g h i = refl

-- ---- members that are put in

puts-tail : (b structure : Bool) (w e t : Data) → cond b (put (codes "stepType") e (put_structure structure (member (codes "to") t no_members))) (put (codes "slice") w (put (codes "stepType") e (put_structure structure (member (codes "to") t no_members)))) ≡ tail b structure w e t
puts-tail true true w e t = refl
puts-tail true false w e t = refl
puts-tail false true w e t = refl
puts-tail false false w e t = refl

puts-from : (b structure : Bool) (w e f t : Data) → put (codes "from") f (tail b structure w e t) ≡ member (codes "from") f (tail b structure w e t)
puts-from true structure w e f t = refl
puts-from false structure w e f t = refl

puts-insert : (b structure : Bool) (w e i t : Data) → put (codes "insert") i (tail b structure w e t) ≡ member (codes "insert") i (tail b structure w e t)
puts-insert true structure w e i t = refl
puts-insert false structure w e i t = refl

pub puts_replaced : (s : SchemaSpec) (name : List ℕ) (to : ℕ) (sl : Slice) (structure : Bool)
    → put_slice s sl (put (codes "stepType") (string name) (put_structure structure (member (codes "to") (count to) no_members))) ≡ replaced s name to sl structure
puts_replaced s name to sl structure = puts-tail (slice_size sl == 0) structure (slice_written s sl) (string name) (count to)

pub puts_from : (s : SchemaSpec) (name : List ℕ) (f : Data) (to : ℕ) (sl : Slice) (structure : Bool)
    → put (codes "from") f (replaced s name to sl structure) ≡ member (codes "from") f (replaced s name to sl structure)
puts_from s name f to sl structure = puts-from (slice_size sl == 0) structure (slice_written s sl) (string name) f (count to)

pub puts_insert : (s : SchemaSpec) (name : List ℕ) (i : Data) (to : ℕ) (sl : Slice) (structure : Bool)
    → put (codes "insert") i (replaced s name to sl structure) ≡ member (codes "insert") i (replaced s name to sl structure)
puts_insert s name i to sl structure = puts-insert (slice_size sl == 0) structure (slice_written s sl) (string name) i (count to)

pub ruleset puts = (puts_replaced, puts_from, puts_insert)
