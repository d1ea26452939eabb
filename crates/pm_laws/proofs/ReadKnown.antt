-- The schema knows what is read: marks, the opens of slices, and steps.
use Rattle.std.specs.List.{AllByRecursion as Each, list_all}
use Rattle.std.specs.Ordering.{nat_cmp, match_ordering}
use Rattle.std.specs.Cmp.Lexicographic.{slice_cmp}
use Rattle.std.specs.declared.cmp.Ordering.{Ordering}
use Rattle.std.specs.declared.cmp.Ordering.TheVariants.{Less, Equal, Greater}
use Rattle.std.specs.Str.{bytes_eq}
use Rattle.std.specs.Prelude.{not, ◌&&◌, nat_lt, ◌==◌, ◌^◌, codes, Option, Some, None, Result, Ok, Err, is_some}
use Rattle.std.proofs.Common.{◌≡◌, ℕ, zero, suc, ◌-◌, Bool, true, false, cond, List, [], ◌∷◌, ◌++◌, length, take, refl, sym, ap, subst, ◌∙◌}
use Rattle.std.proofs.lemmas.Bool.{and_parts, and_from}
use Rattle.serde_json.specs.Data.{Data, null as json_null, boolean, number, string, array, object, Items, no_items, item, Members, no_members, member}
use Rattle.serde_json.specs.Find.{get, as_array, as_null}
use Rattle.pm_list.specs.Readings.{◌>>=◌, or_fault}
use Rattle.pm_marks.specs.declared.mark.Mark.{Mark}
use Rattle.pm_tokens.specs.Tokens.{Attrs, Marks, Token, Open, Close, Leaf, CodeUnit}
use Rattle.pm_tokens.specs.Kids.{text_tokens}
use Rattle.pm_tokens.specs.Marks.{is_set, have_attrs}
use Rattle.pm_tokens.specs.Scan.{are_opens}
use Rattle.pm_tokens.specs.Schemas.{node_attrs, mark_attrs}
use Rattle.pm_tokens.specs.Slices.{Slice, is_slice, slice_size}
use Rattle.pm_tokens.proofs.PartLaws.{slice-is}
use Rattle.pm_schema.specs.declared.spec.SchemaSpec.{SchemaSpec}
use Rattle.pm_schema.specs.Names.{place_of}
use Rattle.pm_schema.specs.Types.{names_of_nodes, node_at, fit_attrs}
use Rattle.pm_schema.specs.Documents.{documents_of}
use Rattle.pm_node.specs.Trees.{node_tokens}
use Rattle.pm_node.specs.declared.node.Node.{Node}
use Rattle.pm_node.specs.declared.node.Body.TheVariants.{Leaf as Childless, Children}
use Rattle.pm_docjson.specs.declared.leaves.LeafContent.TheVariants.{Refused}
use Rattle.pm_docjson.specs.declared.fault.DocReadError.{DocReadError}
use Rattle.pm_docjson.specs.declared.fault.DocReadError.TheVariants as part
use Rattle.pm_docjson.specs.Fields.{field, text_at}
use Rattle.pm_docjson.specs.Reading.{attrs_read, filled, no_nodes, none_at, bounded, mark_of, marks_of, text_from, body_of, branch_from, content_for, node_from, node_of, content_in, content_of, node_list, nodes_of}
use Rattle.pm_docjson.specs.Writable.{mark_fits, marks_fit}
use Rattle.pm_docjson.proofs.ReadAttrs.{KnownDefaults, attrs-fit, node-defaults, node-inside, mark-read, marks-read-fit}
use Rattle.pm_slice.specs.Sides.{sides, no_slice, or_none}
use Rattle.pm_slicejson.specs.Numbers.{count_at}
use Rattle.pm_slicejson.specs.Reading as slices
use Rattle.pm_slicejson.specs.Reading.{sides_of, slice_of}
use Rattle.pm_meaning.specs.Steps as steps
use Rattle.pm_meaning.specs.Steps.{Step}
use Rattle.pm_meaning.specs.Known.{knows_mark, knows_open, knows_slice, knows_step}
use Rattle.pm_stepjson.specs.declared.fault.StepReadError.{StepReadError}
use Rattle.pm_stepjson.specs.declared.fault.StepReadError.TheVariants as step
use Rattle.pm_stepjson.specs.Kinds.{kind_named}
use Rattle.pm_stepjson.specs.Fields as fields
use Rattle.pm_stepjson.specs.Fields.{number_at, structure_at, slice_in, slice_at, as_slice, as_mark}
use Rattle.pm_stepjson.specs.Replace.{replace_from}
use Rattle.pm_stepjson.specs.Around.{around_from}
use Rattle.pm_stepjson.specs.Mark.{range_from}
use Rattle.pm_stepjson.specs.NodeMark.{node_from as at_node_from}
use Rattle.pm_stepjson.specs.Attr.{attr_from}
use Rattle.pm_stepjson.specs.DocAttr.{doc_attr_from}
use Rattle.pm_stepjson.specs.Reading.{kind_from, step_read}
use Rattle.pm_stepjson.proofs.SlicesWritten.{mark-as, type-as}
use Rattle.pm_script.proofs.Came.{then-ok, fault-ok}

abbrev pub ok_of : {A : Type 0} (E : Type 0) → A → Result A E
ok_of E x = Ok x

pub from-ok : {A E : Type 0} (x y : A) → ok_of E x ≡ ok_of E y → x ≡ y
from-ok x y h = cc

module _ (s : SchemaSpec) (sh : KnownDefaults s) where
  -- ---- marks

  pub mark-known : (d : Data) (m : Mark Attrs) → mark_of s d ≡ Ok m → knows_mark (documents_of s) m ≡ true
  mark-known d m h = mark-as s m ∙ mark-read s d m sh h

  all-known : (ms : Marks) → list_all (mark_fits s) ms ≡ true → have_attrs (documents_of s) ms ≡ true
  all-known [] h = refl
  all-known (m ∷ ms) h =
      let p = and_parts (mark_fits s m) (list_all (mark_fits s) ms) h in
      and_from (mark_attrs (documents_of s) m.kind m.attrs) (have_attrs (documents_of s) ms) (mark-as s m ∙ p.0) (all-known ms p.1)

  -- ---- opens

  abbrev OpenOk : Token → Type 0
  OpenOk (Open k a m) = knows_open (documents_of s) (Open k a m) ≡ true
  OpenOk Close = Unit {0}
  OpenOk (Leaf k a m) = Unit {0}
  OpenOk (CodeUnit u m) = Unit {0}

  abbrev AllOk : List Token → Type 0
  AllOk ts = Each OpenOk ts

  both-ok : (xs ys : List Token) → AllOk xs → AllOk ys → AllOk (xs ++ ys)
  both-ok [] ys h k = k
  both-ok (x ∷ xs) ys h k = (h.0, both-ok xs ys h.1 k)

  units-ok : (m : Marks) (us : List ℕ) → AllOk (text_tokens m us)
  units-ok m [] = tt
  units-ok m (u ∷ us) = (tt, units-ok m us)

  text-ok : (d : Data) (n : Node) → text_from s d ≡ Ok n → AllOk (node_tokens n)
  unfolding text_from
  text-ok d n h =
      let a = then-ok (text_at (codes "text") d) _ n h in
      let b = then-ok (filled a.0) _ n a.2 in
      let c = then-ok (attrs_read (node_at s (documents_of s).text).attrs (field (codes "attrs") d)) _ n b.2 in
      let e = then-ok (marks_of s (field (codes "marks") d)) _ n c.2 in
      subst (λ x. AllOk (node_tokens x)) (from-ok _ n e.2) (units-ok e.0 _)

  open-ok : (k : ℕ) (a : Attrs) (m : Marks) → nat_lt k (length s.nodes) ≡ true → (k == (documents_of s).text) ≡ false → (documents_of s).is_leaf k ≡ false
      → fit_attrs (node_at s k).attrs a ≡ true → marks_fit s m ≡ true → knows_open (documents_of s) (Open k a m) ≡ true
  open-ok k a m inside no_text no_leaf fit set =
      let d = documents_of s in
      let w = and_parts (list_all (mark_fits s) m) (is_set d m) set in
      and_from (node_attrs d k a && (not (k == d.text) && not (d.is_leaf k))) (have_attrs d m && is_set d m)
      (and_from (node_attrs d k a) (not (k == d.text) && not (d.is_leaf k))
      (type-as s k a ∙ and_from (nat_lt k (length s.nodes)) (fit_attrs (node_at s k).attrs a) inside fit)
      (and_from (not (k == d.text)) (not (d.is_leaf k)) (ap not no_text) (ap not no_leaf)))
      (and_from (have_attrs d m) (is_set d m) (all-known m w.0) w.1)

  -- a node of a type that is no text, with this content, which a leaf type has not
  body-ok : (k : ℕ) (a : Attrs) (m : Marks) (ts : List Token) (leaf : Bool) → (documents_of s).is_leaf k ≡ leaf → nat_lt k (length s.nodes) ≡ true → (k == (documents_of s).text) ≡ false
      → fit_attrs (node_at s k).attrs a ≡ true → marks_fit s m ≡ true → AllOk ts → (leaf ≡ true → ts ≡ []) → AllOk (node_tokens (record { kind = k; attrs = a; marks = m; body = body_of s k ts }))
  body-ok k a m [] true is inside no_text fit set all none = subst (λ b. AllOk (node_tokens (record { kind = k; attrs = a; marks = m; body = cond b Childless (Children []) }))) (sym is) (tt, tt)
  body-ok k a m [] false is inside no_text fit set all none =
      subst (λ b. AllOk (node_tokens (record { kind = k; attrs = a; marks = m; body = cond b Childless (Children []) }))) (sym is) (open-ok k a m inside no_text is fit set, (tt, tt))
  body-ok k a m (t ∷ ts) true is inside no_text fit set all none = let no : t ∷ ts ≡ [] = none refl in absurd (cc)
  body-ok k a m (t ∷ ts) false is inside no_text fit set all none = (open-ok k a m inside no_text is fit set, both-ok (t ∷ ts) (Close ∷ []) all (tt, tt))

  content-kept : (d : Option Data) (content : Result (List Token) DocReadError) (ts : List Token) (leaf : Bool) → ((us : List Token) → content ≡ Ok us → AllOk us)
      → cond leaf (none_at d) content ≡ Ok ts → AllOk ts × (leaf ≡ true → ts ≡ [])
  content-kept d content ts true inner h = by (nothing d h)
    where
      empty : (ds : Items) → no_nodes ds ≡ Ok ts → [] ≡ ts
      empty no_items g = cc
      empty (item y ys) g = absurd (cc)

      nothing : (o : Option Data) → none_at o ≡ Ok ts → [] ≡ ts
      nothing None e = cc
      nothing (Some x) e = let a = then-ok (or_fault part.Shape (as_array x)) no_nodes ts e in empty a.0 a.2

      by : [] ≡ ts → AllOk ts × (true ≡ true → ts ≡ [])
      by same = (subst AllOk same tt, λ g. sym same)
  content-kept d content ts false inner h = (inner ts h, λ g. absurd (cc))

  branch-ok : (k : ℕ) (d : Data) (content : Result (List Token) DocReadError) (n : Node) → nat_lt k (length s.nodes) ≡ true → (k == (documents_of s).text) ≡ false → ((us : List Token) → content ≡ Ok us → AllOk us)
      → branch_from s k d (content_for s Refused k (field (codes "content") d) content) ≡ Ok n → AllOk (node_tokens n)
  unfolding branch_from
  branch-ok k d content n inside no_text inner h =
      let all = content_for s Refused k (field (codes "content") d) content in
      let a = then-ok (attrs_read (node_at s k).attrs (field (codes "attrs") d)) _ n h in
      let b = then-ok (marks_of s (field (codes "marks") d)) _ n a.2 in
      let c = then-ok all _ n b.2 in
      let w = content-kept (field (codes "content") d) content c.0 ((documents_of s).is_leaf k) inner c.1 in
      subst (λ x. AllOk (node_tokens x)) (from-ok _ n c.2)
      (body-ok k a.0 b.0 c.0 ((documents_of s).is_leaf k) refl inside no_text (attrs-fit (node_at s k).attrs (field (codes "attrs") d) a.0 (node-defaults s k sh) a.1)
      (marks-read-fit s (field (codes "marks") d) b.0 sh b.1) w.0 w.1)

  from-ok-node : (d : Data) (content : Result (List Token) DocReadError) (n : Node) → ((us : List Token) → content ≡ Ok us → AllOk us) → node_from s Refused d content ≡ Ok n → AllOk (node_tokens n)
  unfolding node_from
  from-ok-node d content n inner h =
      let a = then-ok (text_at (codes "type") d) _ n h in
      let b = then-ok (or_fault part.UnknownType (place_of a.0 (names_of_nodes s))) _ n a.2 in
      pick b.0 (node-inside s a.0 b.0 (fault-ok part.UnknownType (place_of a.0 (names_of_nodes s)) b.0 b.1)) (b.0 == (documents_of s).text) refl b.2
    where
      pick : (k : ℕ) → nat_lt k (length s.nodes) ≡ true → (b : Bool) → (k == (documents_of s).text) ≡ b
          → cond b (text_from s d) (branch_from s k d (content_for s Refused k (field (codes "content") d) content)) ≡ Ok n → AllOk (node_tokens n)
      pick k inside true is e = text-ok d n e
      pick k inside false is e = branch-ok k d content n inside is inner e

  not-large : (ts us : List Token) → bounded ts ≡ Ok us → ts ≡ us
  not-large ts us h = from (nat_lt (2 ^ 32 - 1) (length ts)) h
    where
      from : (b : Bool) → cond b (Err part.Large) (Ok ts) ≡ Ok us → ts ≡ us
      from true e = absurd (cc)
      from false e = cc

  picked : (o : Ordering) (r q : Result (List Token) DocReadError) (ts : List Token) → (r ≡ Ok ts → AllOk ts) → (q ≡ Ok ts → AllOk ts) → match_ordering o q r q ≡ Ok ts → AllOk ts
  picked Less r q ts f g e = g e
  picked Equal r q ts f g e = f e
  picked Greater r q ts f g e = g e

  none-ok : (ts : List Token) → [] ≡ ts → AllOk ts
  none-ok ts e = subst AllOk e tt

  mutual
    unfolding node_of

    node-ok : (d : Data) (n : Node) → node_of s Refused d ≡ Ok n → AllOk (node_tokens n)
    node-ok json_null n h = absurd (cc)
    node-ok (boolean b) n h = absurd (cc)
    node-ok (number x) n h = absurd (cc)
    node-ok (string bs) n h = absurd (cc)
    node-ok (array ds) n h = absurd (cc)
    node-ok (object ms) n h = from-ok-node (object ms) (content_in s Refused ms) n (λ us e. in-ok ms us e) h

    in-ok : (ms : Members) (ts : List Token) → content_in s Refused ms ≡ Ok ts → AllOk ts
    in-ok no_members ts h = none-ok ts (cc)
    in-ok (member k d ms) ts h = picked (slice_cmp nat_cmp (codes "content") k) (content_of s Refused d) (content_in s Refused ms) ts (λ e. of-ok d ts e) (λ e. in-ok ms ts e) h

    of-ok : (d : Data) (ts : List Token) → content_of s Refused d ≡ Ok ts → AllOk ts
    of-ok json_null ts h = none-ok ts (cc)
    of-ok (boolean b) ts h = absurd (cc)
    of-ok (number x) ts h = absurd (cc)
    of-ok (string bs) ts h = absurd (cc)
    of-ok (array ds) ts h =
        let a = then-ok (node_list s Refused ds) bounded ts h in
        subst AllOk (not-large a.0 ts a.2) (list-ok ds a.0 a.1)
    of-ok (object ms) ts h = absurd (cc)

    list-ok : (ds : Items) (ts : List Token) → node_list s Refused ds ≡ Ok ts → AllOk ts
    list-ok no_items ts h = none-ok ts (cc)
    list-ok (item d ds) ts h =
        let a = then-ok (node_of s Refused d) (λ first. node_list s Refused ds >>= λ rest. Ok (node_tokens first ++ rest)) ts h in
        let b = then-ok (node_list s Refused ds) (λ rest. Ok (node_tokens a.0 ++ rest)) ts a.2 in
        subst AllOk (from-ok (node_tokens a.0 ++ b.0) ts b.2) (both-ok (node_tokens a.0) b.0 (node-ok d a.0 a.1) (list-ok ds b.0 b.1))

  -- ---- slices

  front-known : (n : ℕ) (ts : List Token) → are_opens (take n ts) ≡ true → AllOk ts → list_all (knows_open (documents_of s)) (take n ts) ≡ true
  front-known zero ts o h = refl
  front-known (suc n) [] o h = refl
  front-known (suc n) (Open k a m ∷ ts) o h = and_from (knows_open (documents_of s) (Open k a m)) (list_all (knows_open (documents_of s)) (take n ts)) h.0 (front-known n ts o h.1)
  front-known (suc n) (Close ∷ ts) o h = absurd (cc)
  front-known (suc n) (Leaf k a m ∷ ts) o h = absurd (cc)
  front-known (suc n) (CodeUnit u m ∷ ts) o h = absurd (cc)

  kept-known : (sl : Slice) → is_slice sl ≡ true → AllOk sl.content → knows_slice (documents_of s) (or_none sl) ≡ true
  kept-known sl h all = by (slice_size sl == 0)
    where
      by : (b : Bool) → knows_slice (documents_of s) (cond b no_slice sl) ≡ true
      by true = refl
      by false = front-known sl.open_start sl.content (slice-is sl h).opens all

  sided-known : (b : Bool) (made sl : Slice) → is_slice made ≡ b → AllOk made.content → cond b (Ok (or_none made)) (Err part.Open) ≡ Ok sl → knows_slice (documents_of s) sl ≡ true
  sided-known true made sl is all h = subst (λ z. knows_slice (documents_of s) z ≡ true) (from-ok (or_none made) sl h) (kept-known made is all)
  sided-known false made sl is all h = absurd (cc)

  sides-known : (d : Data) (sl : Slice) → sides_of s d ≡ Ok sl → knows_slice (documents_of s) sl ≡ true
  unfolding sides_of
  sides-known d sl h =
      let a = then-ok (slices.list_at (codes "content") d) _ sl h in
      let b = then-ok (nodes_of s Refused a.0) _ sl a.2 in
      let c = then-ok (count_at (codes "openStart") d) _ sl b.2 in
      let e = then-ok (count_at (codes "openEnd") d) _ sl c.2 in
      let read = then-ok (node_list s Refused a.0) bounded b.0 b.1 in
      let all : AllOk b.0 = subst AllOk (not-large read.0 b.0 read.2) (list-ok a.0 read.0 read.1) in
      sided-known (is_slice (sides b.0 c.0 e.0)) (sides b.0 c.0 e.0) sl refl all e.2

  pub slice-known : (d : Data) (sl : Slice) → slice_of s d ≡ Ok sl → knows_slice (documents_of s) sl ≡ true
  unfolding slice_of
  slice-known d sl h = by (is_some (as_null d)) h
    where
      by : (b : Bool) → cond b (Ok no_slice) (sides_of s d) ≡ Ok sl → knows_slice (documents_of s) sl ≡ true
      by true e = subst (λ z. knows_slice (documents_of s) z ≡ true) (from-ok no_slice sl e) refl
      by false e = sides-known d sl e

  -- ---- steps

  abbrev KnownStep : Step → Type 0
  KnownStep c = knows_step (documents_of s) c ≡ true

  of-slice : {A : Type 0} (r : Result A DocReadError) (x : A) → as_slice r ≡ Ok x → r ≡ Ok x
  of-slice (Ok y) x h = cc
  of-slice (Err e) x h = absurd (cc)

  of-mark : {A : Type 0} (r : Result A DocReadError) (x : A) → as_mark r ≡ Ok x → r ≡ Ok x
  of-mark (Ok y) x h = cc
  of-mark (Err e) x h = absurd (cc)

  slice-in-known : (o : Option Data) (sl : Slice) → slice_in s o ≡ Ok sl → knows_slice (documents_of s) sl ≡ true
  slice-in-known None sl h = subst (λ z. knows_slice (documents_of s) z ≡ true) (from-ok no_slice sl h) refl
  slice-in-known (Some d) sl h = slice-known d sl (of-slice (slice_of s d) sl h)

  mark-at-known : (d : Data) (m : Mark Attrs) → fields.mark_at s d ≡ Ok m → knows_mark (documents_of s) m ≡ true
  mark-at-known d m h =
      let a = then-ok (or_fault step.Shape (get (codes "mark") d)) (λ v. as_mark (mark_of s v)) m h in
      mark-known a.0 m (of-mark (mark_of s a.0) m a.2)

  replace-known : (d : Data) (c : Step) → replace_from s d ≡ Ok c → KnownStep c
  unfolding replace_from
  replace-known d c h =
      let a = then-ok (number_at (codes "from") d) _ c h in
      let b = then-ok (number_at (codes "to") d) _ c a.2 in
      let e = then-ok (slice_at s d) _ c b.2 in
      let f = then-ok (structure_at d) _ c e.2 in
      subst KnownStep (from-ok _ c f.2) (slice-in-known (field (codes "slice") d) e.0 e.1)

  around-known : (d : Data) (c : Step) → around_from s d ≡ Ok c → KnownStep c
  unfolding around_from
  around-known d c h =
      let a = then-ok (number_at (codes "from") d) _ c h in
      let b = then-ok (number_at (codes "to") d) _ c a.2 in
      let e = then-ok (number_at (codes "gapFrom") d) _ c b.2 in
      let f = then-ok (number_at (codes "gapTo") d) _ c e.2 in
      let g = then-ok (number_at (codes "insert") d) _ c f.2 in
      let i = then-ok (slice_at s d) _ c g.2 in
      let j = then-ok (structure_at d) _ c i.2 in
      subst KnownStep (from-ok _ c j.2) (slice-in-known (field (codes "slice") d) i.0 i.1)

  -- the mark of a step over a range, and of one on a node
  add-known : (d : Data) (c : Step) → (range_from s d >>= (λ r. Ok (steps.AddMark r.from r.to r.mark))) ≡ Ok c → KnownStep c
  unfolding range_from
  add-known d c h =
      let a = then-ok (range_from s d) (λ r. Ok (steps.AddMark r.from r.to r.mark)) c h in
      let b = then-ok (number_at (codes "from") d) _ a.0 a.1 in
      let e = then-ok (number_at (codes "to") d) _ a.0 b.2 in
      let f = then-ok (fields.mark_at s d) _ a.0 e.2 in
      let same = from-ok _ a.0 f.2 in
      subst KnownStep (from-ok _ c a.2) (subst (λ m. knows_mark (documents_of s) m ≡ true) (λ i. (same i).mark) (mark-at-known d f.0 f.1))

  remove-known : (d : Data) (c : Step) → (range_from s d >>= (λ r. Ok (steps.RemoveMark r.from r.to r.mark))) ≡ Ok c → KnownStep c
  unfolding range_from
  remove-known d c h =
      let a = then-ok (range_from s d) (λ r. Ok (steps.RemoveMark r.from r.to r.mark)) c h in
      let b = then-ok (number_at (codes "from") d) _ a.0 a.1 in
      let e = then-ok (number_at (codes "to") d) _ a.0 b.2 in
      let f = then-ok (fields.mark_at s d) _ a.0 e.2 in
      let same = from-ok _ a.0 f.2 in
      subst KnownStep (from-ok _ c a.2) (subst (λ m. knows_mark (documents_of s) m ≡ true) (λ i. (same i).mark) (mark-at-known d f.0 f.1))

  add-node-known : (d : Data) (c : Step) → (at_node_from s d >>= (λ n. Ok (steps.AddNodeMark n.pos n.mark))) ≡ Ok c → KnownStep c
  unfolding at_node_from
  add-node-known d c h =
      let a = then-ok (at_node_from s d) (λ n. Ok (steps.AddNodeMark n.pos n.mark)) c h in
      let b = then-ok (number_at (codes "pos") d) _ a.0 a.1 in
      let f = then-ok (fields.mark_at s d) _ a.0 b.2 in
      let same = from-ok _ a.0 f.2 in
      subst KnownStep (from-ok _ c a.2) (subst (λ m. knows_mark (documents_of s) m ≡ true) (λ i. (same i).mark) (mark-at-known d f.0 f.1))

  remove-node-known : (d : Data) (c : Step) → (at_node_from s d >>= (λ n. Ok (steps.RemoveNodeMark n.pos n.mark))) ≡ Ok c → KnownStep c
  unfolding at_node_from
  remove-node-known d c h =
      let a = then-ok (at_node_from s d) (λ n. Ok (steps.RemoveNodeMark n.pos n.mark)) c h in
      let b = then-ok (number_at (codes "pos") d) _ a.0 a.1 in
      let f = then-ok (fields.mark_at s d) _ a.0 b.2 in
      let same = from-ok _ a.0 f.2 in
      subst KnownStep (from-ok _ c a.2) (subst (λ m. knows_mark (documents_of s) m ≡ true) (λ i. (same i).mark) (mark-at-known d f.0 f.1))

  attr-known : (d : Data) (c : Step) → attr_from d ≡ Ok c → KnownStep c
  unfolding attr_from
  attr-known d c h =
      let a = then-ok (number_at (codes "pos") d) _ c h in
      let b = then-ok (fields.text_at (codes "attr") d) _ c a.2 in
      let e = then-ok (fields.value_at d) _ c b.2 in
      subst KnownStep (from-ok _ c e.2) refl

  doc-attr-known : (d : Data) (c : Step) → doc_attr_from d ≡ Ok c → KnownStep c
  unfolding doc_attr_from
  doc-attr-known d c h =
      let b = then-ok (fields.text_at (codes "attr") d) _ c h in
      let e = then-ok (fields.value_at d) _ c b.2 in
      subst KnownStep (from-ok _ c e.2) refl

  if-named : {K : Type 0} (b : Bool) (x y : Option K) (f : K → Result Step StepReadError) (c : Step) → ((or_fault step.UnknownKind x >>= f) ≡ Ok c → KnownStep c)
      → ((or_fault step.UnknownKind y >>= f) ≡ Ok c → KnownStep c) → (or_fault step.UnknownKind (cond b x y) >>= f) ≡ Ok c → KnownStep c
  if-named true x y f c h k e = h e
  if-named false x y f c h k e = k e

  named-known : (name : List ℕ) (d : Data) (c : Step) → (or_fault step.UnknownKind (kind_named name) >>= λ kind. kind_from s kind d) ≡ Ok c → KnownStep c
  named-known name d c =
      if-named (bytes_eq name (codes "replace")) _ _ _ c (replace-known d c)
      (if-named (bytes_eq name (codes "replaceAround")) _ _ _ c (around-known d c)
      (if-named (bytes_eq name (codes "addMark")) _ _ _ c (add-known d c)
      (if-named (bytes_eq name (codes "removeMark")) _ _ _ c (remove-known d c)
      (if-named (bytes_eq name (codes "addNodeMark")) _ _ _ c (add-node-known d c)
      (if-named (bytes_eq name (codes "removeNodeMark")) _ _ _ c (remove-node-known d c)
      (if-named (bytes_eq name (codes "attr")) _ _ _ c (attr-known d c)
      (if-named (bytes_eq name (codes "docAttr")) _ _ _ c (doc-attr-known d c) (λ e. absurd (cc)))))))))

  pub step-known : (d : Data) (c : Step) → step_read s d ≡ Ok c → KnownStep c
  unfolding step_read
  step-known d c h =
      let a = then-ok (fields.text_at (codes "stepType") d) (λ name. (or_fault step.UnknownKind (kind_named name) >>= λ kind. kind_from s kind d)) c h in
      named-known a.0 d c a.2
