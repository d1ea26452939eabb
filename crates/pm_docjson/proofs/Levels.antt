-- How deep the JSON values of nodes nest.
use Rattle.std.proofs.Common.{◌≡◌, ◌≤◌, ◌+◌, ◌-◌, ◌*◌, ◌==◌, ℕ, zero, suc, max, List, [], ◌∷◌, length, Bool, true, false, cond, ◌&&◌, not, nat_lt, refl, sym, subst, ◌∙◌, arith}
use Rattle.std.proofs.lemmas.Bool.Decides.{nat_tests}
use Rattle.std.specs.Prelude.{codes, nat_le}
use Rattle.std.specs.List.{list_all}
use Rattle.std.specs.Ordering.{nat_cmp, match_ordering}
use Rattle.std.specs.Cmp.Lexicographic.{slice_cmp}
use Rattle.std.specs.declared.cmp.Ordering.{Ordering}
use Rattle.std.specs.declared.cmp.Ordering.TheVariants.{Less, Equal, Greater}
use Rattle.serde_json.specs.Data.{Data, string, Items, no_items, item, Members, no_members, member, put, depth, items_depth, members_depth}
use Rattle.pm_text.specs.Units.{utf8}
use Rattle.pm_value.specs.Plain.{Plain, null, truth, int, text as words, items, fields, Plains, none as no_values, one, plains_of, depth as value_depth, plains_depth}
use Rattle.pm_value.specs.Writing.{written, items_written, members_written}
use Rattle.pm_marks.specs.declared.mark.Mark.{Mark}
use Rattle.pm_marks.specs.Sets.{same_marks}
use Rattle.pm_attrs.specs.Attrs.{same_attrs}
use Rattle.pm_tokens.specs.Tokens.{Attrs, Marks, Token, Open, Close, Leaf, CodeUnit, Doc}
use Rattle.pm_tokens.specs.Marks.{is_set}
use Rattle.pm_tokens.specs.Faults.{Valid}
use Rattle.pm_tokens.specs.Scan.{unclosed, unmet, is_whole, deepest}
use Rattle.pm_tokens.proofs.DepthLaws.{depths-bound}
use Rattle.pm_schema.specs.declared.spec.SchemaSpec.{SchemaSpec}
use Rattle.pm_schema.specs.declared.spec.AttrSpec.{AttrSpec}
use Rattle.pm_schema.specs.Types.{node_at, mark_at, fit_attrs}
use Rattle.pm_schema.specs.Documents.{documents_of}
use Rattle.pm_schema.proofs.FitLaws.{fit-parts, node-attrs-are}
use Rattle.pm_docjson.specs.Trees.{text, branch, Trees, none, tree, with_unit, Levels, innermost, with_token, read_back}
use Rattle.pm_docjson.specs.Values.{keys}
use Rattle.pm_docjson.specs.Writable.{mark_fits, marks_fit, type_fits, is_writable, are_writable}
use Rattle.pm_docjson.specs.Writing.{typed, with_attrs, with_content, with_marks, mark_written, marks_written, text_written, branch_written, trees_written, nodes_written, doc_written}
use Rattle.pm_docjson.proofs.Writables.{content-writable}
use Rattle.std.proofs.lemmas.Bool.{and_parts}

-- the depth at the front is no deeper than the greatest
deep-low : (d : ℕ) (ts : List Token) → d ≤ deepest d ts
deep-low d [] = omega arith
deep-low d (Open k a m ∷ ts) = let i = deep-low (suc d) ts in omega (arith, i)
deep-low zero (Close ∷ ts) = omega arith
deep-low (suc d) (Close ∷ ts) = omega arith
deep-low d (Leaf k a m ∷ ts) = deep-low d ts
deep-low d (CodeUnit u m ∷ ts) = deep-low d ts

-- ---- values

put-deep : (k : List ℕ) (d : Data) (ms : Members) → members_depth (put k d ms) ≤ max (depth d) (members_depth ms)
put-deep k d no_members = omega arith
put-deep k d (member l e ms) = at (slice_cmp nat_cmp k l) (put-deep k d ms)
  where
    at : (o : Ordering) → members_depth (put k d ms) ≤ max (depth d) (members_depth ms) → members_depth (match_ordering o (member k d (member l e ms)) (member l d ms) (member l e (put k d ms))) ≤ max (depth d) (max (depth e) (members_depth ms))
    at Less h = omega arith
    at Equal h = omega arith
    at Greater h = omega (arith, h)

mutual
  unfolding written items_written members_written

  value-deep : (v : Plain) → depth (written v) ≤ value_depth v
  value-deep null = omega arith
  value-deep (truth b) = omega arith
  value-deep (int z) = omega arith
  value-deep (words bs) = omega arith
  value-deep (items vs) = let h = items-deep vs in omega (arith, h)
  value-deep (fields ns vs) = let h = members-deep ns vs in omega (arith, h)

  items-deep : (vs : Plains) → items_depth (items_written vs) ≤ plains_depth vs
  items-deep no_values = omega arith
  items-deep (one v vs) = let h = value-deep v in let k = items-deep vs in omega (arith, h, k)

  members-deep : (ns : List (List ℕ)) (vs : Plains) → members_depth (members_written ns vs) ≤ plains_depth vs
  members-deep ns no_values = omega arith
  members-deep [] (one v vs) = omega arith
  members-deep (n ∷ ns) (one v vs) =
      let h = value-deep v in
      let k = members-deep ns vs in
      let p = put-deep n (written v) (members_written ns vs) in
      omega (arith, h, k, p)

-- values that fit are at most four levels deep
attrs-low : (attrs : List AttrSpec) (vs : List Plain) → fit_attrs attrs vs ≡ true → plains_depth (plains_of vs) ≤ 4
attrs-low attrs vs h = (fit-parts attrs vs h).low

-- attributes before members that are this deep
with-attrs : (ks : List (List ℕ)) (vs : List Plain) (ms : Members) (n : ℕ) → plains_depth (plains_of vs) ≤ 4 → members_depth ms ≤ n → 5 ≤ n → members_depth (with_attrs ks vs ms) ≤ n
unfolding written
with-attrs [] vs ms n low h five = h
with-attrs (k ∷ ks) vs ms n low h five = let m = members-deep (k ∷ ks) (plains_of vs) in omega (arith, m, low, h, five)

module _ (s : SchemaSpec) where
  -- ---- marks

  pub mark-low : (m : Mark Attrs) → mark_fits s m ≡ true → depth (mark_written s m) ≤ 6
  mark-low m h =
      let p = and_parts (nat_lt m.kind (length s.marks)) (fit_attrs (mark_at s m.kind).attrs m.attrs) h in
      let w = with-attrs (keys (mark_at s m.kind).attrs) m.attrs (typed (mark_at s m.kind).name) 5 (attrs-low (mark_at s m.kind).attrs m.attrs p.1) (omega arith) (omega arith) in
      omega (arith, w)

  marks-low : (ms : Marks) → list_all (mark_fits s) ms ≡ true → items_depth (marks_written s ms) ≤ 6
  marks-low [] h = omega arith
  marks-low (m ∷ ms) h =
      let p = and_parts (mark_fits s m) (list_all (mark_fits s) ms) h in
      let first = mark-low m p.0 in
      let rest = marks-low ms p.1 in
      omega (arith, first, rest)

  with-marks : (ds : Items) (ms : Members) → items_depth ds ≤ 6 → members_depth ms ≤ 7 → members_depth (with_marks ds ms) ≤ 7
  with-marks no_items ms h low = low
  with-marks (item d ds) ms h low = omega (arith, h, low)

  set-low : (ms : Marks) → marks_fit s ms ≡ true → items_depth (marks_written s ms) ≤ 6
  set-low ms h = marks-low ms (and_parts (list_all (mark_fits s) ms) (is_set (documents_of s) ms) h).0

  -- ---- one node

  text-low : (us : List ℕ) (m : Marks) → marks_fit s m ≡ true → depth (text_written s us m) ≤ 8
  text-low us m h =
      let w = with-marks (marks_written s m) (member (codes "text") (string (utf8 us)) (typed (node_at s (documents_of s).text).name)) (set-low m h) (omega arith) in
      omega (arith, w)

  with-content : (ds : Items) (ms : Members) (n : ℕ) → suc (items_depth ds) ≤ n → members_depth ms ≤ n → members_depth (with_content ds ms) ≤ n
  with-content no_items ms n h low = low
  with-content (item d ds) ms n h low = omega (arith, h, low)

  branch-low : (k : ℕ) (a : Attrs) (m : Marks) (ds : Items) (n : ℕ) → fit_attrs (node_at s k).attrs a ≡ true → marks_fit s m ≡ true → suc (items_depth ds) ≤ n → 7 ≤ n → depth (branch_written s k a m ds) ≤ suc n
  branch-low k a m ds n fits set inner seven =
      let marks = with-marks (marks_written s m) (typed (node_at s k).name) (set-low m set) (omega arith) in
      let content = with-content ds (with_marks (marks_written s m) (typed (node_at s k).name)) n inner (omega (arith, marks, seven)) in
      let w = with-attrs (keys (node_at s k).attrs) a (with_content ds (with_marks (marks_written s m) (typed (node_at s k).name))) n (attrs-low (node_at s k).attrs a fits) content (omega (arith, seven)) in
      omega (arith, w)

  leaf-low : (k : ℕ) (a : Attrs) (m : Marks) → fit_attrs (node_at s k).attrs a ≡ true → marks_fit s m ≡ true → depth (branch_written s k a m no_items) ≤ 8
  leaf-low k a m fits set = branch-low k a m no_items 7 fits set (omega arith) (omega arith)

  -- ---- nodes in one another

  -- how deep the values of these trees nest
  abbrev trees_deep : Trees → ℕ
  trees_deep ts = items_depth (trees_written s ts)

  unit-low : (u : ℕ) (m : Marks) (ts : Trees) (n : ℕ) → marks_fit s m ≡ true → 8 ≤ n → trees_deep ts ≤ n → trees_deep (with_unit u m ts) ≤ n
  unfolding trees_written
  unit-low u m none n set eight low = let t = text-low (u ∷ []) m set in omega (arith, t, eight)
  unit-low u m (tree (text us k) ts) n set eight low = pick (same_marks same_attrs m k)
    where
      pick : (b : Bool) → trees_deep (cond b (tree (text (u ∷ us) m) ts) (tree (text (u ∷ []) m) (tree (text us k) ts))) ≤ n
      pick true = let t = text-low (u ∷ us) m set in omega (arith, t, eight, low)
      pick false = let t = text-low (u ∷ []) m set in omega (arith, t, eight, low)
  unit-low u m (tree (branch k a j inner) ts) n set eight low = let t = text-low (u ∷ []) m set in omega (arith, t, eight, low)

  -- trees of the content of a node in j others nest so deep, where no position is in more than top nodes
  abbrev AreLow : ℕ → Levels → Type 0
  AreLow top [] = Unit {0}
  AreLow top (ts ∷ levels) = (trees_deep ts ≤ 2 * (top - length levels) + 8) × AreLow top levels

  -- so many levels, each as deep as it may be
  record Fit (top d : ℕ) (levels : Levels) : Type 0 where
    count : length levels ≡ suc d
    low : AreLow top levels

  close-fits : (top d : ℕ) (levels : Levels) → Fit top d levels → Fit top (suc d) (none ∷ levels)
  unfolding trees_written
  close-fits top d levels f = record { count = omega (arith, f.count); low = (omega arith, f.low) }

  open-fits : (top d k : ℕ) (a : Attrs) (m : Marks) (levels : Levels) → fit_attrs (node_at s k).attrs a ≡ true → marks_fit s m ≡ true → suc d ≤ top → Fit top (suc d) levels → Fit top d (with_token (Open k a m) levels)
  unfolding trees_written
  open-fits top d k a m [] fits set within f = absurd (omega (arith, f.count))
  open-fits top d k a m (inner ∷ []) fits set within f = absurd (omega (arith, f.count))
  open-fits top d k a m (inner ∷ (ts ∷ levels)) fits set within f =
      let n : length levels ≡ d = omega (arith, f.count) in
      let i : trees_deep inner ≤ 2 * (top - (length levels + 1)) + 8 = omega (arith, f.low.0) in
      let b = branch-low k a m (trees_written s inner) (2 * (top - length levels) + 7) fits set (omega (arith, i, n, within)) (omega arith) in
      let t = f.low.1.0 in
      record { count = omega (arith, n); low = (omega (arith, b, t), f.low.1.1) }

  leaf-fits : (top d k : ℕ) (a : Attrs) (m : Marks) (levels : Levels) → fit_attrs (node_at s k).attrs a ≡ true → marks_fit s m ≡ true → Fit top d levels → Fit top d (with_token (Leaf k a m) levels)
  unfolding trees_written
  leaf-fits top d k a m [] fits set f = absurd (omega (arith, f.count))
  leaf-fits top d k a m (ts ∷ levels) fits set f =
      let b = leaf-low k a m fits set in
      let t = f.low.0 in
      record { count = f.count; low = (omega (arith, b, t), f.low.1) }

  unit-fits : (top d u : ℕ) (m : Marks) (levels : Levels) → marks_fit s m ≡ true → Fit top d levels → Fit top d (with_token (CodeUnit u m) levels)
  unit-fits top d u m [] set f = absurd (omega (arith, f.count))
  unit-fits top d u m (ts ∷ levels) set f =
      let t = unit-low u m ts (2 * (top - length levels) + 8) set (omega arith) f.low.0 in
      record { count = f.count; low = (t, f.low.1) }

  type-attrs : (k : ℕ) (a : Attrs) → type_fits s k a ≡ true → fit_attrs (node_at s k).attrs a ≡ true
  type-attrs k a h =
      let p = and_parts (nat_lt k (length s.nodes)) (not (k == (documents_of s).text) && fit_attrs (node_at s k).attrs a) h in
      (and_parts (not (k == (documents_of s).text)) (fit_attrs (node_at s k).attrs a) p.1).1

  -- tokens that end the nodes of a stack, read from the last to the first
  levels-fit : (top : ℕ) (stack : List ℕ) (ts : List Token) → are_writable s ts ≡ true → unmet (length stack) ts ≡ 0 → length (unclosed stack ts) ≡ 0 → deepest (length stack) ts ≤ top → Fit top (length stack) (read_back ts (none ∷ []))
  unfolding trees_written
  levels-fit top stack [] h met ends deep = record { count = omega (arith, ends); low = (omega arith, tt) }
  levels-fit top stack (Open k a m ∷ ts) h met ends deep =
      let p = and_parts (is_writable s (Open k a m)) (are_writable s ts) h in
      let q = and_parts (type_fits s k a) (not ((documents_of s).is_leaf k) && marks_fit s m) p.0 in
      let r = and_parts (not ((documents_of s).is_leaf k)) (marks_fit s m) q.1 in
      let low = deep-low (suc (length stack)) ts in
      open-fits top (length stack) k a m (read_back ts (none ∷ [])) (type-attrs k a q.0) r.1 (omega (arith, low, deep)) (levels-fit top (k ∷ stack) ts p.1 met ends deep)
  levels-fit top [] (Close ∷ ts) h met ends deep = absurd (omega (arith, met))
  levels-fit top (k ∷ stack) (Close ∷ ts) h met ends deep =
      let p = and_parts true (are_writable s ts) h in
      close-fits top (length stack) (read_back ts (none ∷ [])) (levels-fit top stack ts p.1 met ends (omega (arith, deep)))
  levels-fit top stack (Leaf k a m ∷ ts) h met ends deep =
      let p = and_parts (is_writable s (Leaf k a m)) (are_writable s ts) h in
      let q = and_parts (type_fits s k a) ((documents_of s).is_leaf k && marks_fit s m) p.0 in
      let r = and_parts ((documents_of s).is_leaf k) (marks_fit s m) q.1 in
      leaf-fits top (length stack) k a m (read_back ts (none ∷ [])) (type-attrs k a q.0) r.1 (levels-fit top stack ts p.1 met ends deep)
  levels-fit top stack (CodeUnit u m ∷ ts) h met ends deep =
      let p = and_parts (is_writable s (CodeUnit u m)) (are_writable s ts) h in
      unit-fits top (length stack) u m (read_back ts (none ∷ [])) p.0 (levels-fit top stack ts p.1 met ends deep)

  first-low : (top : ℕ) (levels : Levels) → Fit top 0 levels → trees_deep (innermost levels) ≤ 2 * top + 8
  unfolding trees_written
  first-low top [] f = omega arith
  first-low top (ts ∷ levels) f =
      let n : length levels ≡ 0 = omega (arith, f.count) in
      let t = f.low.0 in
      omega (arith, n, t)

  -- nodes that can be written, where no position is in more than top nodes
  pub nodes-low : (top : ℕ) (ts : List Token) → are_writable s ts ≡ true → is_whole ts ≡ true → deepest 0 ts ≤ top → items_depth (nodes_written s ts) ≤ 2 * top + 8
  nodes-low top ts h whole deep =
      let w = and_parts (unmet 0 ts == 0) (length (unclosed [] ts) == 0) whole in
      first-low top (read_back ts (none ∷ [])) (levels-fit top [] ts h (zero_is (unmet 0 ts) w.0) (zero_is (length (unclosed [] ts)) w.1) deep)
    where
      zero_is : (n : ℕ) → (n == 0) ≡ true → n ≡ 0
      zero_is n e = grind (arith, nat_tests)

  -- a valid document
  pub valid-low : (d : Doc) → Valid (documents_of s) d → depth (doc_written s d) ≤ 106
  unfolding documents_of
  valid-low d v =
      let w = content-writable s d v in
      let inner = nodes-low 48 d.tokens w.tokens v.whole (depths-bound 48 d.tokens v.depth) in
      let p = and_parts (nat_lt d.kind (length s.nodes)) (fit_attrs (node_at s d.kind).attrs d.attrs) (sym (node-attrs-are s d.kind d.attrs) ∙ v.top_attrs) in
      let set : marks_fit s d.marks ≡ true = subst (λ ms. marks_fit s ms ≡ true) (sym v.top_marks) refl in
      branch-low d.kind d.attrs d.marks (nodes_written s d.tokens) 105 p.1 set (omega (arith, inner)) (omega arith)
