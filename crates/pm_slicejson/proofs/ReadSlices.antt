-- The content of a slice that is read can be written.
use Rattle.std.proofs.Common.{◌≡◌, ◌==◌, ℕ, List, [], Bool, true, false, cond, refl, subst}
use Rattle.std.specs.Prelude.{Option, Some, None, Ok, Err, codes, is_some, option_and_then}
use Rattle.serde_json.specs.Data.{Data, null, boolean, number, string, array, object, Items}
use Rattle.serde_json.specs.Find.{get, as_array, as_null}
use Rattle.pm_list.specs.Readings.{◌>>=◌}
use Rattle.pm_tokens.specs.Slices.{Slice, is_slice, slice_size}
use Rattle.pm_schema.specs.declared.spec.SchemaSpec.{SchemaSpec}
use Rattle.pm_schema.specs.Documents.{documents_of}
use Rattle.pm_schema.specs.Types.{node_at}
use Rattle.pm_slice.specs.Sides.{sides, no_slice, or_none}
use Rattle.pm_docjson.specs.declared.fault.DocReadError.TheVariants.{Shape, Open}
use Rattle.pm_docjson.specs.declared.leaves.LeafContent.TheVariants.{Refused}
use Rattle.pm_docjson.specs.Reading.{nodes_of}
use Rattle.pm_docjson.specs.Writable.{AreWritable}
use Rattle.pm_docjson.proofs.ReadAttrs.{first-read, there, KnownDefaults}
use Rattle.pm_docjson.proofs.ReadLaws.{nodes-writable}
use Rattle.pm_docjson.proofs.ViewTexts.{HasTexts, EachHasTexts, field-texts}
use Rattle.pm_slicejson.specs.Numbers.{count_at}
use Rattle.pm_slicejson.specs.Reading.{list_at, as_slice, sides_of, slice_of}

array-texts : (e : Data) (ds : Items) → HasTexts e → as_array e ≡ Some ds → EachHasTexts ds
array-texts null ds t h = absurd (cc)
array-texts (boolean b) ds t h = absurd (cc)
array-texts (number n) ds t h = absurd (cc)
array-texts (string bs) ds t h = absurd (cc)
array-texts (array es) ds t h = let same : es ≡ ds = cc in subst EachHasTexts same t
array-texts (object ms) ds t h = absurd (cc)

list-texts : (k : List ℕ) (d : Data) (ds : Items) → HasTexts d → list_at k d ≡ Ok ds → EachHasTexts ds
list-texts k d ds t h = from (get k d) (λ x is. field-texts k d x t is) (there Shape (option_and_then as_array (get k d)) ds h)
  where
    from : (o : Option Data) → ((x : Data) → o ≡ Some x → HasTexts x) → option_and_then as_array o ≡ Some ds → EachHasTexts ds
    from None all e = absurd (cc)
    from (Some x) all e = array-texts x ds (all x refl) e

module _ (s : SchemaSpec) where
  pub none-writable : AreWritable s []
  none-writable = record { tokens = refl; pairs = refl }

  one-writable : (sl made : Slice) → AreWritable s sl.content → as_slice sl ≡ Ok made → AreWritable s made.content
  one-writable sl made w h = from (is_slice sl) h
    where
      either : (b : Bool) → AreWritable s (cond b no_slice sl).content
      either true = none-writable
      either false = w

      from : (b : Bool) → cond b (Ok (or_none sl)) (Err Open) ≡ Ok made → AreWritable s made.content
      from true e = let same : or_none sl ≡ made = cc in subst (λ (x : Slice). AreWritable s x.content) same (either (slice_size sl == 0))
      from false e = absurd (cc)

  module _ (sh : KnownDefaults s) (plain : (node_at s (documents_of s).text).attrs ≡ []) where
    sides-read : (d : Data) (sl : Slice) → HasTexts d → sides_of s d ≡ Ok sl → AreWritable s sl.content
    unfolding sides_of
    sides-read d sl t h =
        let a = first-read (list_at (codes "content") d) (λ items. nodes_of s Refused items >>= λ content. count_at (codes "openStart") d >>= λ open_start. count_at (codes "openEnd") d >>= λ open_end. as_slice (sides content open_start open_end)) sl h in
        let b = first-read (nodes_of s Refused a.0) (λ content. count_at (codes "openStart") d >>= λ open_start. count_at (codes "openEnd") d >>= λ open_end. as_slice (sides content open_start open_end)) sl a.1.1 in
        let c = first-read (count_at (codes "openStart") d) (λ open_start. count_at (codes "openEnd") d >>= λ open_end. as_slice (sides b.0 open_start open_end)) sl b.1.1 in
        let e = first-read (count_at (codes "openEnd") d) (λ open_end. as_slice (sides b.0 c.0 open_end)) sl c.1.1 in
        one-writable (sides b.0 c.0 e.0) sl (nodes-writable s sh plain a.0 (list-texts (codes "content") d a.0 t a.1.0) b.0 b.1.0) e.1.1

    pub slice-read : (d : Data) (sl : Slice) → HasTexts d → slice_of s d ≡ Ok sl → AreWritable s sl.content
    unfolding slice_of
    slice-read d sl t h = from (is_some (as_null d)) (λ e. sides-read d sl t e) h
      where
        from : (b : Bool) → (sides_of s d ≡ Ok sl → AreWritable s sl.content) → cond b (Ok no_slice) (sides_of s d) ≡ Ok sl → AreWritable s sl.content
        from true f e = let same : no_slice ≡ sl = cc in subst (λ (x : Slice). AreWritable s x.content) same none-writable
        from false f e = f e
