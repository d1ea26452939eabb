-- A slice that is written is read again.
use Rattle.std.proofs.Common.{◌≡◌, ◌==◌, ◌<◌, ℕ, ◌^◌, length, Bool, true, false, cond, refl, ap, sym, ◌∙◌, nat_lt, arith}
use Rattle.std.proofs.lemmas.Bool.Decides.{nat_tests}
use Rattle.std.specs.Prelude.{Some, None, Ok, codes}
use Rattle.serde_json.specs.Data.{Data, null, number, unsigned, array, object, no_members, member}
use Rattle.pm_tokens.specs.Slices.{Slice, is_slice, slice_size}
use Rattle.pm_tokens.proofs.PartLaws.{slice-is}
use Rattle.pm_schema.specs.declared.spec.SchemaSpec.{SchemaSpec}
use Rattle.pm_slice.specs.Sides.{no_slice, or_none}
use Rattle.pm_docjson.specs.declared.leaves.LeafContent.TheVariants.{Refused}
use Rattle.pm_docjson.specs.Reading.{node_list}
use Rattle.pm_docjson.specs.Writing.{nodes_written}
use Rattle.pm_slicejson.specs.Numbers.{count_of, count_at}
use Rattle.pm_slicejson.specs.Reading.{sides_of, slice_of}
use Rattle.pm_slicejson.specs.Writing.{sides_written, slice_written}

small : (n : ℕ) → n < 2 ^ 32 → nat_lt 4294967295 n ≡ false
small n h = grind (arith, nat_tests)

none : (n : ℕ) → (n == 0) ≡ true → n ≡ 0
none n h = grind (arith, nat_tests)

-- ---- the open sides

-- the object of a slice, where the booleans say that the sides are 0
abbrev sides_object : Bool → Bool → Data → Data → Data → Data
sides_object no_end no_start c e s = object (member (codes "content") c (cond no_end (cond no_start no_members (member (codes "openStart") s no_members)) (member (codes "openEnd") e (cond no_start no_members (member (codes "openStart") s no_members)))))

end_is : (no_end no_start : Bool) (c s : Data) (e : ℕ) → count_at (codes "openEnd") (sides_object no_end no_start c (number (unsigned e)) s) ≡ count_of (cond no_end None (Some (number (unsigned e))))
end_is true true c s e = refl
end_is true false c s e = refl
end_is false no_start c s e = refl

start_is : (no_end no_start : Bool) (c e : Data) (s : ℕ) → count_at (codes "openStart") (sides_object no_end no_start c e (number (unsigned s))) ≡ count_of (cond no_start None (Some (number (unsigned s))))
start_is true true c e s = refl
start_is true false c e s = refl
start_is false true c e s = refl
start_is false false c e s = refl

counted : (n : ℕ) → n < 2 ^ 32 → (b : Bool) → (n == 0) ≡ b → count_of (cond b None (Some (number (unsigned n)))) ≡ Ok n
counted n h true e = ap Ok (sym (none n e))
counted n h false e = rw (small n h) refl

-- the object of a slice with these sides
abbrev object_of : Data → ℕ → ℕ → Data
object_of c e s = sides_object (e == 0) (s == 0) c (number (unsigned e)) (number (unsigned s))

count-end : (c : Data) (e s : ℕ) → e < 2 ^ 32 → count_at (codes "openEnd") (object_of c e s) ≡ Ok e
count-end c e s h = end_is (e == 0) (s == 0) c (number (unsigned s)) e ∙ counted e h (e == 0) refl

count-start : (c : Data) (e s : ℕ) → s < 2 ^ 32 → count_at (codes "openStart") (object_of c e s) ≡ Ok s
count-start c e s h = start_is (e == 0) (s == 0) c (number (unsigned e)) s ∙ counted s h (s == 0) refl

-- ---- slices

-- an empty slice, which is null
pub empty-again : (s : SchemaSpec) (sl : Slice) → or_none sl ≡ sl → slice_size sl ≡ 0 → slice_of s (slice_written s sl) ≡ Ok sl
unfolding slice_of
empty-again s sl one size =
    let here : (slice_size sl == 0) ≡ true = zero_is (slice_size sl) size in
    let same : no_slice ≡ sl = sym (ap (λ b. cond b no_slice sl) here) ∙ one in
    ap (λ b. slice_of s (cond b null (sides_written s sl))) here ∙ ap Ok same
  where
    zero_is : (n : ℕ) → n ≡ 0 → (n == 0) ≡ true
    zero_is n h = grind (arith, nat_tests)

module _ (s : SchemaSpec) (sl : Slice) (is : is_slice sl ≡ true) (one : or_none sl ≡ sl) (bound : length sl.content < 2 ^ 32) (again : node_list s Refused (nodes_written s sl.content) ≡ Ok sl.content) where
  start-again : count_at (codes "openStart") (sides_written s sl) ≡ Ok sl.open_start
  start-again =
      let w = slice-is sl is in
      count-start (array (nodes_written s sl.content)) sl.open_end sl.open_start (omega (arith, w.within, bound))

  end-again : count_at (codes "openEnd") (sides_written s sl) ≡ Ok sl.open_end
  end-again =
      let w = slice-is sl is in
      count-end (array (nodes_written s sl.content)) sl.open_end sl.open_start (omega (arith, w.within, bound))

  sides-again : sides_of s (sides_written s sl) ≡ Ok sl
  unfolding sides_of
  sides-again = rw (again, small (length sl.content) bound, start-again, end-again, is) (ap Ok one)

  pub filled-again : (slice_size sl ≡ 0 → ⊥) → slice_of s (slice_written s sl) ≡ Ok sl
  unfolding slice_of
  filled-again some =
      let here : (slice_size sl == 0) ≡ false = some_is (slice_size sl) some in
      ap (λ b. slice_of s (cond b null (sides_written s sl))) here ∙ sides-again
    where
      some_is : (n : ℕ) → (n ≡ 0 → ⊥) → (n == 0) ≡ false
      some_is n h = grind (arith, nat_tests)
