-- What is written of a slice has no float.
use Rattle.std.proofs.Common.{◌≡◌, ◌==◌, ℕ, List, Bool, true, false, cond, refl}
use Rattle.std.specs.Prelude.{codes}
use Rattle.serde_json.specs.Data.{null, number, unsigned, array, Members, no_members, member}
use Rattle.serde_json.specs.Written.{has_float, members_have_float}
use Rattle.pm_tokens.specs.Slices.{Slice, slice_size}
use Rattle.pm_schema.specs.declared.spec.SchemaSpec.{SchemaSpec}
use Rattle.pm_docjson.specs.Writing.{nodes_written}
use Rattle.pm_docjson.proofs.NoFloat.{neither, nodes-whole}
use Rattle.pm_slicejson.specs.Writing.{with_count, sides_written, slice_written}

with_count-whole : (key : List ℕ) (n : ℕ) (ms : Members) → members_have_float ms ≡ false → members_have_float (with_count key n ms) ≡ false
with_count-whole key n ms h = by_size (n == 0)
  where
    by_size : (b : Bool) → members_have_float (cond b ms (member key (number (unsigned n)) ms)) ≡ false
    by_size true = h
    by_size false = neither (has_float (number (unsigned n))) (members_have_float ms) refl h

sides-whole : (s : SchemaSpec) (sl : Slice) → has_float (sides_written s sl) ≡ false
sides-whole s sl =
    let start = with_count (codes "openStart") sl.open_start no_members in
    let ends = with_count (codes "openEnd") sl.open_end start in
    neither (has_float (array (nodes_written s sl.content))) (members_have_float ends) (nodes-whole s sl.content)
    (with_count-whole (codes "openEnd") sl.open_end start (with_count-whole (codes "openStart") sl.open_start no_members refl))

pub slice-whole : (s : SchemaSpec) (sl : Slice) → has_float (slice_written s sl) ≡ false
slice-whole s sl = by_size (slice_size sl == 0)
  where
    by_size : (b : Bool) → has_float (cond b null (sides_written s sl)) ≡ false
    by_size true = refl
    by_size false = sides-whole s sl
