-- No reading of a JSON value is want of memory.
use Rattle.std.proofs.Common.{◌==◌, ℕ, ◌-◌, ◌++◌, List, ◌∷◌, length, Bool, true, false, cond, ◌&&◌, nat_lt}
use Rattle.std.specs.Prelude.{ℤ, pos, negsuc, codes, Option, Some, None, option_and_then, Result, Ok, Err, ◌^◌, is_some}
use Rattle.std.specs.Str.{bytes_eq}
use Rattle.std.specs.Ordering.{nat_cmp, match_ordering}
use Rattle.std.specs.Cmp.Lexicographic.{slice_cmp}
use Rattle.std.specs.declared.cmp.Ordering.{Ordering}
use Rattle.std.specs.declared.cmp.Ordering.TheVariants.{Less, Equal, Greater}
use Rattle.serde_json.specs.Data.{Data, null as json_null, boolean, number, string, array, object, Items, no_items, item, Members, no_members, member}
use Rattle.serde_json.specs.Find.{get, as_array, as_object, as_bool, as_str, as_null, as_integer}
use Rattle.pm_list.specs.Readings.{◌>>=◌, or_fault}
use Rattle.pm_text.specs.Units.{utf16}
use Rattle.pm_value.specs.Plain.{items, plains_of, fields_of, int}
use Rattle.pm_value.specs.Reading.{int_of, value_at, list_at, pairs_at, value_of}
use Rattle.pm_value.specs.declared.fault.ValueError.{ValueError}
use Rattle.pm_value.specs.declared.fault.ValueError.TheVariants as value
use Rattle.pm_tokens.specs.Tokens.{Attrs, Marks, Token}
use Rattle.pm_tokens.specs.Marks.{is_set}
use Rattle.pm_tokens.specs.Slices.{Slice, is_slice}
use Rattle.pm_schema.specs.declared.spec.SchemaSpec.{SchemaSpec}
use Rattle.pm_schema.specs.declared.spec.AttrSpec.{AttrSpec}
use Rattle.pm_schema.specs.Names.{place_of}
use Rattle.pm_schema.specs.Types.{names_of_nodes, names_of_marks, node_at, mark_at}
use Rattle.pm_schema.specs.Documents.{documents_of}
use Rattle.pm_node.specs.Trees.{node_tokens}
use Rattle.pm_node.specs.declared.node.Node.{Node}
use Rattle.pm_node.specs.declared.node.Body.TheVariants.{Text}
use Rattle.pm_docjson.specs.declared.leaves.LeafContent.{LeafContent}
use Rattle.pm_docjson.specs.declared.leaves.LeafContent.TheVariants.{Refused}
use Rattle.pm_docjson.specs.declared.fault.DocReadError.{DocReadError}
use Rattle.pm_docjson.specs.declared.fault.DocReadError.TheVariants as part
use Rattle.pm_docjson.specs.Fields.{field, text_at}
use Rattle.pm_docjson.specs.Values.{values_for}
use Rattle.pm_docjson.specs.Reading.{as_attr, given_in, given_at, attrs_read, filled, refuses, no_nodes, none_at, bounded, mark_of, mark_list, as_set, marks_of, text_from, body_of, branch_from, content_for, node_from, node_of, content_in, content_of, node_list, nodes_of}
use Rattle.pm_slice.specs.Sides.{sides, no_slice, or_none}
use Rattle.pm_slicejson.specs.Numbers.{as_count, count_of, count_at}
use Rattle.pm_slicejson.specs.Reading as slices
use Rattle.pm_slicejson.specs.Reading.{sides_of, slice_of}
use Rattle.pm_meaning.specs.Steps as steps
use Rattle.pm_meaning.specs.Steps.{Step}
use Rattle.pm_stepjson.specs.declared.fault.StepReadError.{StepReadError}
use Rattle.pm_stepjson.specs.declared.fault.StepReadError.TheVariants as step
use Rattle.pm_stepjson.specs.Kinds.{kind_named}
use Rattle.pm_stepjson.specs.Fields as fields
use Rattle.pm_stepjson.specs.Fields.{number_at, flag_of, structure_at, slice_in, slice_at, as_slice, as_mark, as_value}
use Rattle.pm_stepjson.specs.Replace.{replace_from}
use Rattle.pm_stepjson.specs.Around.{around_from}
use Rattle.pm_stepjson.specs.Mark.{range_from}
use Rattle.pm_stepjson.specs.NodeMark.{node_from as at_node_from}
use Rattle.pm_stepjson.specs.Attr.{attr_from}
use Rattle.pm_stepjson.specs.DocAttr.{doc_attr_from}
use Rattle.pm_stepjson.specs.Reading.{kind_from, step_read}
use Rattle.pm_laws.specs.Memory.{IsOfValue, IsOfPart, IsOfStep, Reads, NeverMemory}

-- ---- readings one after another

module _ {E : Type 0} (Is : E → Type 0) where
  pub then-reads : {A B : Type 0} (r : Result A E) (f : A → Result B E) → Reads Is r → ((x : A) → Reads Is (f x)) → Reads Is (r >>= f)
  then-reads (Ok x) f h k = k x
  then-reads (Err e) f h k = h

  pub there-reads : {A : Type 0} (e : E) (o : Option A) → Is e → Reads Is (or_fault e o)
  there-reads e None h = h
  there-reads e (Some x) h = tt

  pub if-reads : {A : Type 0} (b : Bool) (x y : Result A E) → Reads Is x → Reads Is y → Reads Is (cond b x y)
  if-reads true x y h k = h
  if-reads false x y h k = k

  pub one-read : {A Z : Type 0} (r : Result A E) (g : A → Z) → Reads Is r → Reads Is (r >>= λ a. Ok (g a))
  one-read r g h = then-reads r (λ a. Ok (g a)) h (λ a. tt)

  pub two-read : {A B Z : Type 0} (r : Result A E) (q : A → Result B E) (g : A → B → Z) → Reads Is r → ((a : A) → Reads Is (q a))
      → Reads Is (r >>= λ a. (q a >>= λ b. Ok (g a b)))
  two-read r q g h k = then-reads r (λ a. (q a >>= λ b. Ok (g a b))) h (λ a. one-read (q a) (g a) (k a))

  pub three-read : {A B C Z : Type 0} (r : Result A E) (q : A → Result B E) (p : A → B → Result C E) (g : A → B → C → Z)
      → Reads Is r → ((a : A) → Reads Is (q a)) → ((a : A) (b : B) → Reads Is (p a b))
      → Reads Is (r >>= λ a. (q a >>= λ b. (p a b >>= λ c. Ok (g a b c))))
  three-read r q p g h k l = then-reads r (λ a. (q a >>= λ b. (p a b >>= λ c. Ok (g a b c)))) h (λ a. two-read (q a) (p a) (g a) (k a) (l a))

-- ---- values

int-reads : (z : Option ℤ) → Reads IsOfValue (int_of z)
int-reads None = tt
int-reads (Some (pos n)) = if-reads IsOfValue (nat_lt n (2 ^ 63)) (Ok (int (pos n))) (Err value.Wide) tt tt
int-reads (Some (negsuc n)) = tt

mutual
  unfolding value_at

  pub value-reads : (d : Data) (levels : ℕ) → Reads IsOfValue (value_at d levels)
  value-reads json_null levels = tt
  value-reads (boolean b) levels = tt
  value-reads (number x) levels = int-reads (as_integer x)
  value-reads (string bs) levels = tt
  value-reads (array ds) levels =
      if-reads IsOfValue (levels == 0) (Err value.Deep) (list_at ds (levels - 1) >>= λ vs. Ok (items (plains_of vs))) tt
      (one-read IsOfValue (list_at ds (levels - 1)) (λ vs. items (plains_of vs)) (list-reads ds (levels - 1)))
  value-reads (object ms) levels =
      if-reads IsOfValue (levels == 0) (Err value.Deep) (pairs_at ms (levels - 1) >>= λ fs. Ok (fields_of fs)) tt
      (one-read IsOfValue (pairs_at ms (levels - 1)) (λ fs. fields_of fs) (pairs-reads ms (levels - 1)))

  list-reads : (ds : Items) (levels : ℕ) → Reads IsOfValue (list_at ds levels)
  list-reads no_items levels = tt
  list-reads (item d ds) levels =
      two-read IsOfValue (value_at d levels) (λ first. list_at ds levels) (λ first rest. first ∷ rest) (value-reads d levels) (λ first. list-reads ds levels)

  pairs-reads : (ms : Members) (levels : ℕ) → Reads IsOfValue (pairs_at ms levels)
  pairs-reads no_members levels = tt
  pairs-reads (member k d ms) levels =
      two-read IsOfValue (value_at d levels) (λ first. pairs_at ms levels) (λ first rest. (k, first) ∷ rest) (value-reads d levels) (λ first. pairs-reads ms levels)

-- ---- attributes and marks

attr-reads : {A : Type 0} (r : Result A ValueError) → Reads IsOfPart (as_attr r)
attr-reads (Ok v) = tt
attr-reads (Err e) = tt

given-reads : (ms : Members) → Reads IsOfPart (given_in ms)
unfolding given_in
given-reads no_members = tt
given-reads (member k d ms) =
    two-read IsOfPart (as_attr (value_of d)) (λ value. given_in ms) (λ value rest. (k, value) ∷ rest) (attr-reads (value_of d)) (λ value. given-reads ms)

given-at-reads : (o : Option Data) → Reads IsOfPart (given_at o)
unfolding given_at
given-at-reads None = tt
given-at-reads (Some d) = then-reads IsOfPart (or_fault part.Shape (as_object d)) given_in (there-reads IsOfPart part.Shape (as_object d) tt) (λ ms. given-reads ms)

attrs-reads : (attrs : List AttrSpec) (o : Option Data) → Reads IsOfPart (attrs_read attrs o)
unfolding attrs_read
attrs-reads attrs o =
    then-reads IsOfPart (given_at o) (λ given. or_fault part.Attr (values_for attrs given)) (given-at-reads o) (λ given. there-reads IsOfPart part.Attr (values_for attrs given) tt)

text-at-reads : (key : List ℕ) (d : Data) → Reads IsOfPart (text_at key d)
text-at-reads key d = there-reads IsOfPart part.Shape (option_and_then as_str (get key d)) tt

module _ (s : SchemaSpec) where
  mark-reads : (d : Data) → Reads IsOfPart (mark_of s d)
  unfolding mark_of
  mark-reads d =
      three-read IsOfPart (text_at (codes "type") d) (λ name. or_fault part.UnknownType (place_of name (names_of_marks s)))
      (λ name kind. attrs_read (mark_at s kind).attrs (field (codes "attrs") d)) (λ name kind attrs. record { kind = kind; attrs = attrs })
      (text-at-reads (codes "type") d) (λ name. there-reads IsOfPart part.UnknownType (place_of name (names_of_marks s)) tt)
      (λ name kind. attrs-reads (mark_at s kind).attrs (field (codes "attrs") d))

  mark-list-reads : (ds : Items) → Reads IsOfPart (mark_list s ds)
  unfolding mark_list
  mark-list-reads no_items = tt
  mark-list-reads (item d ds) = two-read IsOfPart (mark_of s d) (λ first. mark_list s ds) (λ first rest. first ∷ rest) (mark-reads d) (λ first. mark-list-reads ds)

  set-reads : (ms : Marks) → Reads IsOfPart (as_set s ms)
  set-reads ms = if-reads IsOfPart (is_set (documents_of s) ms) (Ok ms) (Err part.NotASet) tt tt

  marks-reads : (o : Option Data) → Reads IsOfPart (marks_of s o)
  unfolding marks_of
  marks-reads None = tt
  marks-reads (Some d) =
      then-reads IsOfPart (or_fault part.Shape (as_array d)) (λ ds. (mark_list s ds >>= λ ms. as_set s ms)) (there-reads IsOfPart part.Shape (as_array d) tt)
      (λ ds. then-reads IsOfPart (mark_list s ds) (λ ms. as_set s ms) (mark-list-reads ds) (λ ms. set-reads ms))

  -- ---- nodes

  filled-reads : (text : List ℕ) → Reads IsOfPart (filled text)
  filled-reads text = if-reads IsOfPart (length text == 0) (Err part.EmptyText) (Ok text) tt tt

  no-nodes-reads : (ds : Items) → Reads IsOfPart (no_nodes ds)
  no-nodes-reads no_items = tt
  no-nodes-reads (item d ds) = tt

  none-at-reads : (o : Option Data) → Reads IsOfPart (none_at o)
  none-at-reads None = tt
  none-at-reads (Some d) = then-reads IsOfPart (or_fault part.Shape (as_array d)) no_nodes (there-reads IsOfPart part.Shape (as_array d) tt) (λ ds. no-nodes-reads ds)

  bounded-reads : (ts : List Token) → Reads IsOfPart (bounded ts)
  bounded-reads ts = if-reads IsOfPart (nat_lt (2 ^ 32 - 1) (length ts)) (Err part.Large) (Ok ts) tt tt

  text-reads : (d : Data) → Reads IsOfPart (text_from s d)
  unfolding text_from
  text-reads d =
      let node : Attrs → Marks → List ℕ → Node = λ attrs marks bytes. record { kind = (documents_of s).text; attrs = attrs; marks = marks; body = Text (utf16 bytes) } in
      then-reads IsOfPart (text_at (codes "text") d)
      (λ text. (filled text >>= λ bytes. (attrs_read (node_at s (documents_of s).text).attrs (field (codes "attrs") d) >>= λ attrs. (marks_of s (field (codes "marks") d) >>= λ marks. Ok (node attrs marks bytes)))))
      (text-at-reads (codes "text") d)
      (λ text. three-read IsOfPart (filled text) (λ bytes. attrs_read (node_at s (documents_of s).text).attrs (field (codes "attrs") d)) (λ bytes attrs. marks_of s (field (codes "marks") d))
      (λ bytes attrs marks. node attrs marks bytes) (filled-reads text) (λ bytes. attrs-reads (node_at s (documents_of s).text).attrs (field (codes "attrs") d)) (λ bytes attrs. marks-reads (field (codes "marks") d)))

  branch-reads : (kind : ℕ) (d : Data) (content : Result (List Token) DocReadError) → Reads IsOfPart content → Reads IsOfPart (branch_from s kind d content)
  unfolding branch_from
  branch-reads kind d content h =
      three-read IsOfPart (attrs_read (node_at s kind).attrs (field (codes "attrs") d)) (λ attrs. marks_of s (field (codes "marks") d)) (λ attrs marks. content)
      (λ attrs marks tokens. record { kind = kind; attrs = attrs; marks = marks; body = body_of s kind tokens })
      (attrs-reads (node_at s kind).attrs (field (codes "attrs") d)) (λ attrs. marks-reads (field (codes "marks") d)) (λ attrs marks. h)

module _ (s : SchemaSpec) (l : LeafContent) where
  for-reads : (kind : ℕ) (o : Option Data) (content : Result (List Token) DocReadError) → Reads IsOfPart content → Reads IsOfPart (content_for s l kind o content)
  for-reads kind o content h = if-reads IsOfPart (refuses l && (documents_of s).is_leaf kind) (none_at o) content (none-at-reads s o) h

  from-reads : (d : Data) (content : Result (List Token) DocReadError) → Reads IsOfPart content → Reads IsOfPart (node_from s l d content)
  unfolding node_from
  from-reads d content h =
      let of : ℕ → Result Node DocReadError = λ kind. cond (kind == (documents_of s).text) (text_from s d) (branch_from s kind d (content_for s l kind (field (codes "content") d) content)) in
      then-reads IsOfPart (text_at (codes "type") d) (λ name. (or_fault part.UnknownType (place_of name (names_of_nodes s)) >>= of)) (text-at-reads (codes "type") d)
      (λ name. then-reads IsOfPart (or_fault part.UnknownType (place_of name (names_of_nodes s))) of (there-reads IsOfPart part.UnknownType (place_of name (names_of_nodes s)) tt)
      (λ kind. if-reads IsOfPart (kind == (documents_of s).text) (text_from s d) (branch_from s kind d (content_for s l kind (field (codes "content") d) content))
      (text-reads s d) (branch-reads s kind d (content_for s l kind (field (codes "content") d) content) (for-reads kind (field (codes "content") d) content h))))

  pick-reads : (o : Ordering) (r q : Result (List Token) DocReadError) → Reads IsOfPart r → Reads IsOfPart q → Reads IsOfPart (match_ordering o q r q)
  pick-reads Less r q h k = k
  pick-reads Equal r q h k = h
  pick-reads Greater r q h k = k

  mutual
    unfolding node_of

    pub node-reads : (d : Data) → Reads IsOfPart (node_of s l d)
    node-reads json_null = tt
    node-reads (boolean b) = tt
    node-reads (number x) = tt
    node-reads (string bs) = tt
    node-reads (array ds) = tt
    node-reads (object ms) = from-reads (object ms) (content_in s l ms) (in-reads ms)

    in-reads : (ms : Members) → Reads IsOfPart (content_in s l ms)
    in-reads no_members = tt
    in-reads (member k d ms) = pick-reads (slice_cmp nat_cmp (codes "content") k) (content_of s l d) (content_in s l ms) (of-reads d) (in-reads ms)

    of-reads : (d : Data) → Reads IsOfPart (content_of s l d)
    of-reads json_null = tt
    of-reads (boolean b) = tt
    of-reads (number x) = tt
    of-reads (string bs) = tt
    of-reads (array ds) = then-reads IsOfPart (node_list s l ds) bounded (nodes-reads ds) (λ ts. bounded-reads s ts)
    of-reads (object ms) = tt

    nodes-reads : (ds : Items) → Reads IsOfPart (node_list s l ds)
    nodes-reads no_items = tt
    nodes-reads (item d ds) =
        two-read IsOfPart (node_of s l d) (λ first. node_list s l ds) (λ first rest. node_tokens first ++ rest) (node-reads d) (λ first. nodes-reads ds)

-- ---- slices

list-at-reads : (key : List ℕ) (d : Data) → Reads IsOfPart (slices.list_at key d)
list-at-reads key d = there-reads IsOfPart part.Shape (option_and_then as_array (get key d)) tt

count-reads : (o : Option Data) → Reads IsOfPart (count_of o)
count-reads None = tt
count-reads (Some d) = there-reads IsOfPart part.Shape (as_count d) tt

sided-reads : (sl : Slice) → Reads IsOfPart (slices.as_slice sl)
sided-reads sl = if-reads IsOfPart (is_slice sl) (Ok (or_none sl)) (Err part.Open) tt tt

module _ (s : SchemaSpec) where
  sides-reads : (d : Data) → Reads IsOfPart (sides_of s d)
  unfolding sides_of
  sides-reads d =
      let last : List Token → ℕ → ℕ → Result Slice DocReadError = λ content open_start open_end. slices.as_slice (sides content open_start open_end) in
      then-reads IsOfPart (slices.list_at (codes "content") d)
      (λ ds. (nodes_of s Refused ds >>= λ content. (count_at (codes "openStart") d >>= λ open_start. (count_at (codes "openEnd") d >>= λ open_end. last content open_start open_end))))
      (list-at-reads (codes "content") d)
      (λ ds. then-reads IsOfPart (nodes_of s Refused ds) (λ content. (count_at (codes "openStart") d >>= λ open_start. (count_at (codes "openEnd") d >>= λ open_end. last content open_start open_end)))
      (then-reads IsOfPart (node_list s Refused ds) bounded (nodes-reads s Refused ds) (λ ts. bounded-reads s ts))
      (λ content. then-reads IsOfPart (count_at (codes "openStart") d) (λ open_start. (count_at (codes "openEnd") d >>= λ open_end. last content open_start open_end)) (count-reads (field (codes "openStart") d))
      (λ open_start. then-reads IsOfPart (count_at (codes "openEnd") d) (λ open_end. last content open_start open_end) (count-reads (field (codes "openEnd") d))
      (λ open_end. sided-reads (sides content open_start open_end)))))

  slice-reads : (d : Data) → Reads IsOfPart (slice_of s d)
  unfolding slice_of
  slice-reads d = if-reads IsOfPart (is_some (as_null d)) (Ok no_slice) (sides_of s d) tt (sides-reads d)

-- ---- steps

number-reads : (key : List ℕ) (d : Data) → Reads IsOfStep (number_at key d)
number-reads key d = there-reads IsOfStep step.Shape (option_and_then as_count (get key d)) tt

name-reads : (key : List ℕ) (d : Data) → Reads IsOfStep (fields.text_at key d)
name-reads key d = there-reads IsOfStep step.Shape (option_and_then as_str (get key d)) tt

flag-reads : (o : Option Data) → Reads IsOfStep (flag_of o)
flag-reads None = tt
flag-reads (Some d) = there-reads IsOfStep step.Shape (as_bool d) tt

as-slice-reads : {A : Type 0} (r : Result A DocReadError) → Reads IsOfPart r → Reads IsOfStep (as_slice r)
as-slice-reads (Ok v) h = tt
as-slice-reads (Err e) h = h

as-mark-reads : {A : Type 0} (r : Result A DocReadError) → Reads IsOfPart r → Reads IsOfStep (as_mark r)
as-mark-reads (Ok v) h = tt
as-mark-reads (Err e) h = h

as-value-reads : {A : Type 0} (r : Result A ValueError) → Reads IsOfValue r → Reads IsOfStep (as_value r)
as-value-reads (Ok v) h = tt
as-value-reads (Err e) h = h

value-at-reads : (d : Data) → Reads IsOfStep (fields.value_at d)
value-at-reads d =
    then-reads IsOfStep (or_fault step.Shape (get (codes "value") d)) (λ v. as_value (value_of v)) (there-reads IsOfStep step.Shape (get (codes "value") d) tt)
    (λ v. as-value-reads (value_of v) (value-reads v 4))

attr-from-reads : (d : Data) → Reads IsOfStep (attr_from d)
unfolding attr_from
attr-from-reads d =
    three-read IsOfStep (number_at (codes "pos") d) (λ pos. fields.text_at (codes "attr") d) (λ pos name. fields.value_at d) (λ pos name value. steps.Attr pos name value)
    (number-reads (codes "pos") d) (λ pos. name-reads (codes "attr") d) (λ pos name. value-at-reads d)

doc-attr-reads : (d : Data) → Reads IsOfStep (doc_attr_from d)
unfolding doc_attr_from
doc-attr-reads d =
    two-read IsOfStep (fields.text_at (codes "attr") d) (λ name. fields.value_at d) (λ name value. steps.DocAttr name value) (name-reads (codes "attr") d) (λ name. value-at-reads d)

module _ (s : SchemaSpec) where
  slice-in-reads : (o : Option Data) → Reads IsOfStep (slice_in s o)
  slice-in-reads None = tt
  slice-in-reads (Some d) = as-slice-reads (slice_of s d) (slice-reads s d)

  mark-at-reads : (d : Data) → Reads IsOfStep (fields.mark_at s d)
  mark-at-reads d =
      then-reads IsOfStep (or_fault step.Shape (get (codes "mark") d)) (λ m. as_mark (mark_of s m)) (there-reads IsOfStep step.Shape (get (codes "mark") d) tt)
      (λ m. as-mark-reads (mark_of s m) (mark-reads s m))

  -- the slice and the flag, which come last
  last-reads : (d : Data) (g : Slice → Bool → Step) → Reads IsOfStep (slice_at s d >>= λ slice. (structure_at d >>= λ structure. Ok (g slice structure)))
  last-reads d g = two-read IsOfStep (slice_at s d) (λ slice. structure_at d) g (slice-in-reads (field (codes "slice") d)) (λ slice. flag-reads (field (codes "structure") d))

  replace-reads : (d : Data) → Reads IsOfStep (replace_from s d)
  unfolding replace_from
  replace-reads d =
      let last : ℕ → ℕ → Result Step StepReadError = λ from to. (slice_at s d >>= λ slice. (structure_at d >>= λ structure. Ok (steps.Replace from to slice structure))) in
      then-reads IsOfStep (number_at (codes "from") d) (λ from. (number_at (codes "to") d >>= λ to. last from to)) (number-reads (codes "from") d)
      (λ from. then-reads IsOfStep (number_at (codes "to") d) (λ to. last from to) (number-reads (codes "to") d)
      (λ to. last-reads d (λ slice structure. steps.Replace from to slice structure)))

  around-reads : (d : Data) → Reads IsOfStep (around_from s d)
  unfolding around_from
  around-reads d =
      let last : ℕ → ℕ → ℕ → ℕ → ℕ → Result Step StepReadError =
      λ from to gap_from gap_to insert. (slice_at s d >>= λ slice. (structure_at d >>= λ structure. Ok (steps.ReplaceAround from to gap_from gap_to slice insert structure))) in
      let fifth : ℕ → ℕ → ℕ → ℕ → Result Step StepReadError = λ from to gap_from gap_to. (number_at (codes "insert") d >>= λ insert. last from to gap_from gap_to insert) in
      let fourth : ℕ → ℕ → ℕ → Result Step StepReadError = λ from to gap_from. (number_at (codes "gapTo") d >>= λ gap_to. fifth from to gap_from gap_to) in
      let third : ℕ → ℕ → Result Step StepReadError = λ from to. (number_at (codes "gapFrom") d >>= λ gap_from. fourth from to gap_from) in
      let second : ℕ → Result Step StepReadError = λ from. (number_at (codes "to") d >>= λ to. third from to) in
      then-reads IsOfStep (number_at (codes "from") d) second (number-reads (codes "from") d)
      (λ from. then-reads IsOfStep (number_at (codes "to") d) (third from) (number-reads (codes "to") d)
      (λ to. then-reads IsOfStep (number_at (codes "gapFrom") d) (fourth from to) (number-reads (codes "gapFrom") d)
      (λ gap_from. then-reads IsOfStep (number_at (codes "gapTo") d) (fifth from to gap_from) (number-reads (codes "gapTo") d)
      (λ gap_to. then-reads IsOfStep (number_at (codes "insert") d) (last from to gap_from gap_to) (number-reads (codes "insert") d)
      (λ insert. last-reads d (λ slice structure. steps.ReplaceAround from to gap_from gap_to slice insert structure))))))

  range-reads : (d : Data) → Reads IsOfStep (range_from s d)
  unfolding range_from
  range-reads d =
      three-read IsOfStep (number_at (codes "from") d) (λ from. number_at (codes "to") d) (λ from to. fields.mark_at s d) _
      (number-reads (codes "from") d) (λ from. number-reads (codes "to") d) (λ from to. mark-at-reads d)

  at-node-reads : (d : Data) → Reads IsOfStep (at_node_from s d)
  unfolding at_node_from
  at-node-reads d =
      two-read IsOfStep (number_at (codes "pos") d) (λ pos. fields.mark_at s d) _ (number-reads (codes "pos") d) (λ pos. mark-at-reads d)

  -- by the name that is found, or the names after it
  if-named : {K : Type 0} (b : Bool) (x y : Option K) (f : K → Result Step StepReadError) → Reads IsOfStep (or_fault step.UnknownKind x >>= f) → Reads IsOfStep (or_fault step.UnknownKind y >>= f)
      → Reads IsOfStep (or_fault step.UnknownKind (cond b x y) >>= f)
  if-named true x y f h k = h
  if-named false x y f h k = k

  named-reads : (name : List ℕ) (d : Data) → Reads IsOfStep (or_fault step.UnknownKind (kind_named name) >>= λ kind. kind_from s kind d)
  named-reads name d =
      if-named (bytes_eq name (codes "replace")) _ _ _ (replace-reads d)
      (if-named (bytes_eq name (codes "replaceAround")) _ _ _ (around-reads d)
      (if-named (bytes_eq name (codes "addMark")) _ _ _ (one-read IsOfStep (range_from s d) (λ r. steps.AddMark r.from r.to r.mark) (range-reads d))
      (if-named (bytes_eq name (codes "removeMark")) _ _ _ (one-read IsOfStep (range_from s d) (λ r. steps.RemoveMark r.from r.to r.mark) (range-reads d))
      (if-named (bytes_eq name (codes "addNodeMark")) _ _ _ (one-read IsOfStep (at_node_from s d) (λ n. steps.AddNodeMark n.pos n.mark) (at-node-reads d))
      (if-named (bytes_eq name (codes "removeNodeMark")) _ _ _ (one-read IsOfStep (at_node_from s d) (λ n. steps.RemoveNodeMark n.pos n.mark) (at-node-reads d))
      (if-named (bytes_eq name (codes "attr")) _ _ _ (attr-from-reads d)
      (if-named (bytes_eq name (codes "docAttr")) _ _ _ (doc-attr-reads d) tt)))))))

  step-reads : (d : Data) → Reads IsOfStep (step_read s d)
  unfolding step_read
  step-reads d =
      then-reads IsOfStep (fields.text_at (codes "stepType") d) (λ name. (or_fault step.UnknownKind (kind_named name) >>= λ kind. kind_from s kind d)) (name-reads (codes "stepType") d)
      (λ name. named-reads name d)

pub never-memory : (s : SchemaSpec) → NeverMemory s
never-memory s = record {
  value = λ d. value-reads d 4;
  mark = λ d. mark-reads s d;
  node = λ leaves d. node-reads s leaves d;
  slice = λ d. slice-reads s d;
  step = λ d. step-reads s d;
}
