-- The schema knows what takes a step back, and what a mapping leaves of a step; no plain outcome is that it does not.
use Rattle.std.specs.List.{AllByRecursion as Each, filter, insert}
use Rattle.std.specs.Prelude.{not, ◌&&◌, ◌||◌, nat_le, ◌==◌, Option, Some, None, Result, Ok, Err}
use Rattle.std.proofs.Common.{◌≡◌, ℕ, zero, suc, ◌+◌, Bool, true, false, cond, List, [], ◌∷◌, ◌++◌, map, length, drop, refl, sym, ap, subst, ◌∙◌}
use Rattle.std.proofs.lemmas.Bool.{and_parts}
use Rattle.pm_map.specs.declared.step_map.Moved.{Moved}
use Rattle.pm_map.specs.declared.mapping.Mirrored.{Mirrored}
use Rattle.pm_attrs.specs.Attrs.{same_attrs}
use Rattle.pm_value.specs.Plain.{Plain}
use Rattle.pm_marks.specs.declared.mark.Mark.{Mark}
use Rattle.pm_marks.specs.Sets.{same_marks, has, keeps_out, kept, rank_place, placed, added}
use Rattle.pm_tokens.specs.Tokens.{Attrs, Marks, Token, Open, Close, Leaf, CodeUnit, Doc, marks_of, with_tokens}
use Rattle.pm_tokens.specs.Marks.{have_attrs}
use Rattle.pm_tokens.specs.Scan.{plain, joins, part, is_whole, deepest}
use Rattle.pm_tokens.specs.Schemas.{Schema, compatible, mark_attrs, node_attrs, max_size, max_depth}
use Rattle.pm_tokens.specs.Slices.{is_slice, slice_size, slice_tokens, spliced, spliced_around, depths_fit}
use Rattle.pm_tokens.specs.Faults.{attrs_fit, StandsIn, Valid, fault_place}
use Rattle.pm_meaning.specs.declared.reason.Reason.{Reason}
use Rattle.pm_meaning.specs.declared.reason.Reason.TheVariants.{Range, Structure, Gap, Depth, Pair, Join, Large, Deep, NoNode, BadValue, NotInSchema}
use Rattle.pm_meaning.specs.Steps.{Step, Replace, ReplaceAround, AddMark, RemoveMark, AddNodeMark, RemoveNodeMark, Attr, DocAttr}
use Rattle.pm_meaning.specs.Known.{knows_mark, knows_step}
use Rattle.pm_meaning.specs.Attributes.{place_among, allows_among, node_kind, node_valued, top_valued}
use Rattle.pm_meaning.specs.Marked.{add, remove, mark_added, mark_removed, marked, takes_marks, starts_node, node_marked}
use Rattle.pm_meaning.specs.Outcomes.{unless, in_order, parts_no_pair, keeps_structure, unless_fault, checked, and_unless, range_outcome, node_outcome, at_place, attr_outcome, made, outcome}
use Rattle.pm_meaning.specs.Maps.{ahead, back, carry_range, carry_node, carry}
use Rattle.pm_meaning.specs.Runs.{range_steps, node_steps, Run, close_run, continues, next_run, due, run_steps}
use Rattle.pm_meaning.specs.Inverses.{replace_back, around_back, gives, first_lost, node_marks, added_back, add_node_back, inverse}
use Rattle.pm_meaning.proofs.OutcomeLaws.{made-ok}
use Rattle.pm_meaning.proofs.ReplaceLaws.{replaced, replace-restored}
use Rattle.pm_meaning.proofs.AroundLaws.{moved, around-restored}
use Rattle.pm_meaning.proofs.MarkStepLaws.{outcome-effect}
use Rattle.pm_meaning.proofs.StepLaws.{good}

-- ---- the other twelve reasons

abbrev Never : {A : Type 0} → Result A Reason → Type 0
Never r = r ≡ Err NotInSchema → ⊥

unless-never : {A : Type 0} (b : Bool) (r : Reason) (next : Result A Reason) → (r ≡ NotInSchema → ⊥) → Never next → Never (unless b r next)
unless-never true r next h k e = k e
unless-never false r next h k e = h (cc)

and-never : (b : Bool) (r : Reason) (x : Result Doc Reason) → (r ≡ NotInSchema → ⊥) → Never x → Never (and_unless b r x)
and-never b r (Ok d) h k e = unless-never b r (Ok d) h (λ f. absurd (cc)) e
and-never b r (Err s) h k e = k e

fault-never : (f : Option ℕ) (d : Doc) → Never (unless_fault f d)
fault-never None d e = absurd (cc)
fault-never (Some at) d e = absurd (cc)

module _ (s : Schema) where
  checked-never : (d : Doc) → Never (checked s d)
  checked-never d =
      unless-never (nat_le (length d.tokens) (max_size s)) Large _ (λ e. absurd (cc))
      (unless-never (nat_le (deepest 0 d.tokens) max_depth) Deep _ (λ e. absurd (cc)) (fault-never (fault_place s d) d))

  range-never : (f : ℕ → Token → Marks → Marks) (from to : ℕ) (d : Doc) → Never (range_outcome s f from to d)
  range-never f from to d =
      unless-never (in_order (from ∷ to ∷ []) (length d.tokens)) Range _ (λ e. absurd (cc))
      (unless-never (parts_no_pair d.tokens (from ∷ to ∷ [])) Pair _ (λ e. absurd (cc)) (checked-never (marked f from to d)))

  node-never : (f : Marks → Marks) (pos : ℕ) (d : Doc) → Never (node_outcome s f pos d)
  node-never f pos d =
      unless-never (in_order (pos ∷ []) (length d.tokens)) Range _ (λ e. absurd (cc))
      (unless-never (parts_no_pair d.tokens (pos ∷ [])) Pair _ (λ e. absurd (cc))
      (and-never (starts_node (drop pos d.tokens)) NoNode (checked s (node_marked f pos d)) (λ e. absurd (cc)) (checked-never (node_marked f pos d))))

  place-never : (o : Option ℕ) (next : ℕ → Result Doc Reason) → ((i : ℕ) → Never (next i)) → Never (at_place o next)
  place-never None next h e = absurd (cc)
  place-never (Some i) next h e = h i e

  attr-never : (kind : ℕ) (name : List ℕ) (value : Plain) (changed : ℕ → Doc) → Never (attr_outcome s kind name value changed)
  attr-never kind name value changed =
      place-never (place_among (s.node_declares kind) name) _
      (λ i. unless-never (allows_among (s.node_declares kind) i value) BadValue _ (λ e. absurd (cc)) (checked-never (changed i)))

  pub made-never : (c : Step) (d : Doc) → Never (made s c d)
  made-never (Replace from to sl structure) d =
      unless-never (is_slice sl) Range _ (λ e. absurd (cc))
      (unless-never (in_order (from ∷ to ∷ []) (length d.tokens)) Range _ (λ e. absurd (cc))
      (unless-never (keeps_structure structure (part from to d.tokens)) Structure _ (λ e. absurd (cc))
      (unless-never (depths_fit d.tokens from to sl) Depth _ (λ e. absurd (cc))
      (unless-never (parts_no_pair d.tokens (from ∷ to ∷ [])) Pair _ (λ e. absurd (cc))
      (unless-never (joins (compatible s) [] (spliced d.tokens from to sl)) Join _ (λ e. absurd (cc))
      (checked-never (with_tokens d (plain (spliced d.tokens from to sl)))))))))
  made-never (ReplaceAround from to gf gt sl insert structure) d =
      unless-never (is_slice sl) Range _ (λ e. absurd (cc))
      (unless-never (in_order (from ∷ gf ∷ gt ∷ to ∷ []) (length d.tokens) && nat_le insert (slice_size sl)) Range _ (λ e. absurd (cc))
      (unless-never (keeps_structure structure (part from gf d.tokens) && keeps_structure structure (part gt to d.tokens)) Structure _ (λ e. absurd (cc))
      (unless-never (is_whole (part gf gt d.tokens)) Gap _ (λ e. absurd (cc))
      (unless-never (depths_fit d.tokens from to sl) Depth _ (λ e. absurd (cc))
      (unless-never (parts_no_pair d.tokens (from ∷ gf ∷ gt ∷ to ∷ []) && parts_no_pair (slice_tokens sl) (insert ∷ [])) Pair _ (λ e. absurd (cc))
      (unless-never (joins (compatible s) [] (spliced_around d.tokens from to gf gt sl insert)) Join _ (λ e. absurd (cc))
      (checked-never (with_tokens d (plain (spliced_around d.tokens from to gf gt sl insert))))))))))
  made-never (AddMark from to mark) d = range-never (mark_added s mark) from to d
  made-never (RemoveMark from to mark) d = range-never (mark_removed s mark) from to d
  made-never (AddNodeMark pos mark) d = node-never (add s mark) pos d
  made-never (RemoveNodeMark pos mark) d = node-never (remove mark) pos d
  made-never (Attr pos name value) d =
      unless-never (in_order (pos ∷ []) (length d.tokens)) Range _ (λ e. absurd (cc))
      (unless-never (parts_no_pair d.tokens (pos ∷ [])) Pair _ (λ e. absurd (cc))
      (unless-never (starts_node (drop pos d.tokens)) NoNode _ (λ e. absurd (cc))
      (attr-never (node_kind (drop pos d.tokens)) name value (λ i. node_valued i value pos d))))
  made-never (DocAttr name value) d = attr-never d.kind name value (λ i. top_valued i value d)

  -- ---- what a mapping leaves

  abbrev Known : Step → Type 0
  Known c = knows_step s c ≡ true

  left : (b : Bool) (c e : Step) → cond b None (Some c) ≡ Some e → c ≡ e
  left true c e h = absurd (cc)
  left false c e h = cc

  range-left : (make : ℕ → ℕ → Step) (x y : Moved) (e : Step) → ((f t : ℕ) → Known (make f t)) → carry_range make x y ≡ Some e → Known e
  range-left make x y e h k = subst Known (left ((x.deleted && y.deleted) || nat_le y.pos x.pos) (make x.pos y.pos) e k) (h x.pos y.pos)

  node-left : (make : ℕ → Step) (x : Moved) (e : Step) → ((q : ℕ) → Known (make q)) → carry_node make x ≡ Some e → Known e
  node-left make x e h k = subst Known (left x.after (make x.pos) e k) (h x.pos)

  pub carried : (c e : Step) (ms : List Mirrored) → Known c → carry c ms ≡ Some e → Known e
  carried (Replace from to sl structure) e ms h k = subst Known (left _ _ e k) h
  carried (ReplaceAround from to gf gt sl insert structure) e ms h k = subst Known (left _ _ e k) h
  carried (AddMark from to mark) e ms h k = range-left (λ f t. AddMark f t mark) (ahead ms from) (back ms to) e (λ f t. h) k
  carried (RemoveMark from to mark) e ms h k = range-left (λ f t. RemoveMark f t mark) (ahead ms from) (back ms to) e (λ f t. h) k
  carried (AddNodeMark pos mark) e ms h k = node-left (λ q. AddNodeMark q mark) (ahead ms pos) e (λ q. h) k
  carried (RemoveNodeMark pos mark) e ms h k = node-left (λ q. RemoveNodeMark q mark) (ahead ms pos) e (λ q. h) k
  carried (Attr pos name value) e ms h k = node-left (λ q. Attr q name value) (ahead ms pos) e (λ q. refl) k
  carried (DocAttr name value) e ms h k = let same : DocAttr name value ≡ e = cc in subst Known same refl

  -- ---- marks

  abbrev pub AreKnown : Marks → Type 0
  AreKnown ms = Each (λ m. knows_mark s m ≡ true) ms

  are-known : (ms : Marks) → have_attrs s ms ≡ true → AreKnown ms
  are-known [] h = tt
  are-known (m ∷ ms) h = let p = and_parts (mark_attrs s m.kind m.attrs) (have_attrs s ms) h in (p.0, are-known ms p.1)

  token-known : (t : Token) → attrs_fit s t ≡ true → AreKnown (marks_of t)
  token-known (Open k a m) h = are-known m (and_parts (node_attrs s k a) (have_attrs s m) h).1
  token-known Close h = tt
  token-known (Leaf k a m) h = are-known m (and_parts (node_attrs s k a) (have_attrs s m) h).1
  token-known (CodeUnit u m) h = are-known m h

  -- the marks of all these tokens
  abbrev AllMarks : List Token → Type 0
  AllMarks ts = Each (λ t. AreKnown (marks_of t)) ts

  tokens-known : (all before ts : List Token) → all ≡ before ++ ts
      → ((b : List Token) (t : Token) (q : List Token) → StandsIn all b t q → attrs_fit s t ≡ true) → AllMarks ts
  tokens-known all before [] e h = tt
  tokens-known all before (t ∷ ts) e h =
      (token-known t (h before t ts e), tokens-known all (before ++ t ∷ []) ts (e ∙ sym (shift before t ts)) h)
    where
      shift : (xs : List Token) (x : Token) (ys : List Token) → (xs ++ x ∷ []) ++ ys ≡ xs ++ x ∷ ys
      shift [] x ys = refl
      shift (z ∷ xs) x ys = ap (λ l. z ∷ l) (shift xs x ys)

  doc-known : (d : Doc) → Valid s d → AllMarks d.tokens
  doc-known d v = tokens-known d.tokens [] d.tokens refl v.attrs

  drop-known : (n : ℕ) (ts : List Token) → AllMarks ts → AllMarks (drop n ts)
  drop-known zero ts h = h
  drop-known (suc n) [] h = tt
  drop-known (suc n) (t ∷ ts) h = drop-known n ts h.1

  head-known : (ts : List Token) → AllMarks ts → AreKnown (node_marks ts)
  head-known [] h = tt
  head-known (t ∷ ts) h = h.0

  kept-or : (b : Bool) (m : Mark Attrs) (ms : Marks) → knows_mark s m ≡ true → AreKnown ms → AreKnown (cond b (m ∷ ms) ms)
  kept-or true m ms k h = (k, h)
  kept-or false m ms k h = h

  filter-known : (p : Mark Attrs → Bool) (ms : Marks) → AreKnown ms → AreKnown (filter p ms)
  filter-known p [] h = tt
  filter-known p (m ∷ ms) h = kept-or (p m) m (filter p ms) h.0 (filter-known p ms h.1)

  insert-known : (ms : Marks) (i : ℕ) (m : Mark Attrs) → AreKnown ms → knows_mark s m ≡ true → AreKnown (insert ms i m)
  insert-known [] zero m h k = (k, tt)
  insert-known [] (suc i) m h k = (k, tt)
  insert-known (x ∷ ms) zero m h k = (k, h)
  insert-known (x ∷ ms) (suc i) m h k = (h.0, insert-known ms i m h.1 k)

  added-known : (ms : Marks) (m : Mark Attrs) → AreKnown ms → knows_mark s m ≡ true → AreKnown (add s m ms)
  unfolding added
  added-known ms m h k = by (has same_attrs ms m) (keeps_out s.excludes ms m)
    where
      by : (b c : Bool) → AreKnown (cond b ms (cond c ms (placed (kept s.excludes ms m) m)))
      by true c = h
      by false true = h
      by false false = insert-known (kept s.excludes ms m) (rank_place (kept s.excludes ms m) m) m (filter-known _ ms h) k

  -- ---- lists of steps

  abbrev AllKnown : List Step → Type 0
  AllKnown cs = Each Known cs

  both-known : (cs ds : List Step) → AllKnown cs → AllKnown ds → AllKnown (cs ++ ds)
  both-known [] ds h k = k
  both-known (c ∷ cs) ds h k = (h.0, both-known cs ds h.1 k)

  map-known : (make : Mark Attrs → Step) (ms : Marks) → ((m : Mark Attrs) → knows_mark s m ≡ true → Known (make m)) → AreKnown ms → AllKnown (map make ms)
  map-known make [] f h = tt
  map-known make (m ∷ ms) f h = (f m h.0, map-known make ms f h.1)

  range-known : (from to : ℕ) (old new : Marks) → AreKnown old → AreKnown new → AllKnown (range_steps from to old new)
  range-known from to old new h k =
      both-known (map (λ m. RemoveMark from to m) new) (map (λ m. AddMark from to m) old) (map-known (λ m. RemoveMark from to m) new (λ m i. i) k) (map-known (λ m. AddMark from to m) old (λ m i. i) h)

  nodes-known : (pos : ℕ) (old new : Marks) → AreKnown old → AreKnown new → AllKnown (node_steps pos old new)
  nodes-known pos old new h k =
      both-known (map (λ m. RemoveNodeMark pos m) new) (map (λ m. AddNodeMark pos m) old) (map-known (λ m. RemoveNodeMark pos m) new (λ m i. i) k) (map-known (λ m. AddNodeMark pos m) old (λ m i. i) h)

  abbrev RunKnown : Option Run → Type 0
  RunKnown None = Unit {0}
  RunKnown (Some r) = AreKnown r.old × AreKnown r.new

  close-known : (run : Option Run) (p : ℕ) → RunKnown run → AllKnown (close_run run p)
  close-known None p h = tt
  close-known (Some r) p h = range-known r.start p r.old r.new h.0 h.1

  next-known : (changed takes on : Bool) (run : Option Run) (p : ℕ) (old new : Marks) → RunKnown run → AreKnown old → AreKnown new → RunKnown (next_run changed takes on run p old new)
  next-known false takes on run p old new r h k = tt
  next-known true false on run p old new r h k = tt
  next-known true true false run p old new r h k = (h, k)
  next-known true true true run p old new r h k = r

  due-known : (changed takes on : Bool) (run : Option Run) (p : ℕ) (old new : Marks) → RunKnown run → AreKnown old → AreKnown new → AllKnown (due changed takes on run p old new)
  due-known false takes on run p old new r h k = close-known run p r
  due-known true false on run p old new r h k = both-known (close_run run p) (node_steps p old new) (close-known run p r) (nodes-known p old new h k)
  due-known true true false run p old new r h k = close-known run p r
  due-known true true true run p old new r h k = tt

  runs-known : (p : ℕ) (run : Option Run) (ts ns : List Token) → RunKnown run → AllMarks ts → AllMarks ns → AllKnown (run_steps s p run ts ns)
  runs-known p run [] ns r h k = close-known run p r
  runs-known p run (t ∷ ts) [] r h k = close-known run p r
  runs-known p run (t ∷ ts) (n ∷ ns) r h k =
      let changed = not (same_marks same_attrs (marks_of t) (marks_of n)) in
      let on = continues run (marks_of t) (marks_of n) in
      both-known (due changed (takes_marks s t) on run p (marks_of t) (marks_of n)) (run_steps s (p + 1) (next_run changed (takes_marks s t) on run p (marks_of t) (marks_of n)) ts ns)
      (due-known changed (takes_marks s t) on run p (marks_of t) (marks_of n) r h.0 k.0)
      (runs-known (p + 1) (next_run changed (takes_marks s t) on run p (marks_of t) (marks_of n)) ts ns (next-known changed (takes_marks s t) on run p (marks_of t) (marks_of n) r h.0 k.0) h.1 k.1)

  either-known : (b : Bool) (one : Step) (others : List Step) → Known one → AllKnown others → AllKnown (cond b (one ∷ []) others)
  either-known true one others h k = (h, tt)
  either-known false one others h k = k

  lost-or : (pos : ℕ) (mark : Mark Attrs) (b : Bool) (o : Option (Mark Attrs)) (m : Mark Attrs) → Known (added_back pos mark o) → knows_mark s m ≡ true → Known (added_back pos mark (cond b o (Some m)))
  lost-or pos mark true o m k h = k
  lost-or pos mark false o m k h = h

  lost-known : (pos : ℕ) (mark : Mark Attrs) (old new : Marks) → knows_mark s mark ≡ true → AreKnown old → Known (added_back pos mark (first_lost old new))
  lost-known pos mark [] new k h = k
  lost-known pos mark (m ∷ ms) new k h = lost-or pos mark (has same_attrs new m) (first_lost ms new) m (lost-known pos mark ms new k h.1) h.0

  add-back-known : (pos : ℕ) (mark : Mark Attrs) (old new : Marks) → knows_mark s mark ≡ true → AreKnown old → Known (add_node_back pos mark old new)
  add-back-known pos mark old new k h = by (length new == length old)
    where
      by : (b : Bool) → Known (cond b (added_back pos mark (first_lost old new)) (RemoveNodeMark pos mark))
      by true = lost-known pos mark old new k h
      by false = k

  -- the tokens of a document that a mark step gave
  after-known : (c : Step) (d next n : Doc) → Valid s d → outcome s c d ≡ Ok next → next ≡ n → AllMarks n.tokens
  after-known c d next n v h e = subst (λ z. AllMarks z.tokens) e (doc-known next (good s c d next v h))

  pub undone : (c : Step) (d next : Doc) → Valid s d → outcome s c d ≡ Ok next → AllKnown (inverse s c d)
  undone (Replace from to sl structure) d next v h =
      ((made-ok s (replace_back d from to sl) next d (replace-restored s from to sl d next v (replaced s from to sl structure d next h))).0, tt)
  undone (ReplaceAround from to gf gt sl insert structure) d next v h =
      ((made-ok s (around_back d from to gf gt sl insert structure) next d (around-restored s from to gf gt sl insert structure d next v (moved s from to gf gt sl insert structure d next h))).0, tt)
  undone (AddMark from to mark) d next v h =
      let n = marked (mark_added s mark) from to d in
      either-known (gives (outcome s (RemoveMark from to mark) n) d.tokens) (RemoveMark from to mark) (run_steps s 0 None d.tokens n.tokens) (made-ok s (AddMark from to mark) d next h).0
      (runs-known 0 None d.tokens n.tokens tt (doc-known d v) (after-known (AddMark from to mark) d next n v h (outcome-effect s (AddMark from to mark) d next refl h)))
  undone (RemoveMark from to mark) d next v h =
      let n = marked (mark_removed s mark) from to d in
      either-known (gives (outcome s (AddMark from to mark) n) d.tokens) (AddMark from to mark) (run_steps s 0 None d.tokens n.tokens) (made-ok s (RemoveMark from to mark) d next h).0
      (runs-known 0 None d.tokens n.tokens tt (doc-known d v) (after-known (RemoveMark from to mark) d next n v h (outcome-effect s (RemoveMark from to mark) d next refl h)))
  undone (AddNodeMark pos mark) d next v h =
      let k = (made-ok s (AddNodeMark pos mark) d next h).0 in
      let old = node_marks (drop pos d.tokens) in
      let known = head-known (drop pos d.tokens) (drop-known pos d.tokens (doc-known d v)) in
      either-known (gives (outcome s (add_node_back pos mark old (add s mark old)) (node_marked (add s mark) pos d)) d.tokens) (add_node_back pos mark old (add s mark old)) (node_steps pos old (add s mark old))
      (add-back-known pos mark old (add s mark old) k known) (nodes-known pos old (add s mark old) known (added-known old mark known k))
  undone (RemoveNodeMark pos mark) d next v h =
      let k = (made-ok s (RemoveNodeMark pos mark) d next h).0 in
      let old = node_marks (drop pos d.tokens) in
      let known = head-known (drop pos d.tokens) (drop-known pos d.tokens (doc-known d v)) in
      let one = cond (has same_attrs old mark) (AddNodeMark pos mark) (RemoveNodeMark pos mark) in
      either-known (gives (outcome s one (node_marked (remove mark) pos d)) d.tokens) one (node_steps pos old (remove mark old))
      (by (has same_attrs old mark) k) (nodes-known pos old (remove mark old) known (filter-known _ old known))
    where
      by : (b : Bool) → knows_mark s mark ≡ true → Known (cond b (AddNodeMark pos mark) (RemoveNodeMark pos mark))
      by true k = k
      by false k = k
  undone (Attr pos name value) d next v h = (refl, tt)
  undone (DocAttr name value) d next v h = (refl, tt)
