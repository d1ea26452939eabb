-- The laws of a change, for steps.
use Rattle.std.specs.Prelude.{◌≡◌, ℕ, ◌+◌, ◌≤◌, ◌<◌, ◌^◌, Bool, true, false, not, cond, ◌==◌, List, [], ◌∷◌, ◌++◌, map, length, drop, Option, Some, None, Result, Ok, All}
use Rattle.std.specs.List.{AllByRecursion}
use Rattle.std.proofs.lemmas.List.Elements.{All-from_recursion}
use Rattle.std.proofs.Common.{suc, refl, ap, sym, ◌∙◌, subst, arith}
use Rattle.pm_map.specs.Fits.{FitsSizes}
use Rattle.pm_change.specs.Changes.{HasInverseMap, fold}
use Rattle.pm_change.proofs.Folds.{fold-cons}
use Rattle.pm_meaning.proofs.MapLaws as maps
use Rattle.pm_attrs.specs.Attrs.{same_attrs}
use Rattle.pm_marks.specs.Sets.{same_marks, has}
use Rattle.pm_marks.specs.declared.mark.Mark.{Mark}
use Rattle.pm_tokens.specs.Faults.{Valid}
use Rattle.pm_tokens.specs.Scan.{unclosed, unmet, is_whole}
use Rattle.pm_tokens.specs.Schemas.{Schema, max_size}
use Rattle.pm_tokens.proofs.SchemaLaws.{max-size-small}
use Rattle.pm_tokens.specs.Tokens.{Token, Open, Close, Leaf, CodeUnit, Doc, marks_of, Attrs, Marks}
use Rattle.pm_tokens.proofs.ScanLaws.{unclosed-append, unmet-append, whole-of, of-whole}
use Rattle.pm_meaning.specs.Inverses.{gives, one_or, one_or_runs, node_marks, add_node_back, added_back, first_lost, inverse, replace_back, around_back, attr_back, doc_attr_back}
use Rattle.pm_meaning.specs.Maps.{step_map, is_within}
use Rattle.pm_meaning.specs.Marked.{add, remove, takes_marks, mark_added, mark_removed, marked, node_marked}
use Rattle.pm_meaning.specs.Meanings.{meaning}
use Rattle.pm_meaning.specs.Outcomes.{range_outcome, node_outcome, outcome}
use Rattle.pm_meaning.specs.Runs.{Run, node_steps, close_run, continues, next_run, due, run_steps}
use Rattle.pm_meaning.specs.declared.reason.Reason.{Reason}
use Rattle.pm_meaning.specs.Steps.{Step, Replace, ReplaceAround, AddMark, RemoveMark, AddNodeMark, RemoveNodeMark, Attr, DocAttr}
use Rattle.pm_meaning.proofs.AroundLaws.{moved, around-valid, around-restored}
use Rattle.pm_meaning.proofs.EffectLaws.{after, Alike}
use Rattle.pm_meaning.proofs.MarkStepLaws.{range-alike, node-alike, range-effect, range-order, range-checks, node-effect, node-order, node-checks, range-restores, node-restores}
use Rattle.pm_meaning.proofs.MarkingSteps.{add-back-marking, remove-back-marking}
use Rattle.pm_meaning.proofs.AttributeLaws.{attr-made, attr-valid, attr-same-size, attr-restored, doc-valid, doc-same-tokens, doc-restored}
use Rattle.pm_meaning.proofs.OutcomeLaws.{made-ok, checks-valid}
use Rattle.pm_meaning.proofs.ReplaceLaws.{replaced, replace-valid, replace-restored}
use Rattle.pm_meaning.proofs.TokenMarks.{set_marks}

unmet-set : (d : ℕ) (ms : Marks) (t : Token) (ts : List Token) → unmet d (set_marks ms t ∷ ts) ≡ unmet d (t ∷ ts)
unmet-set d ms (Open k a m) ts = refl
unmet-set d ms Close ts = refl
unmet-set d ms (Leaf k a m) ts = refl
unmet-set d ms (CodeUnit u m) ts = refl

unclosed-set : (ps : List ℕ) (ms : Marks) (t : Token) (ts : List Token) → unclosed ps (set_marks ms t ∷ ts) ≡ unclosed ps (t ∷ ts)
unclosed-set ps ms (Open k a m) ts = refl
unclosed-set ps ms Close ts = refl
unclosed-set ps ms (Leaf k a m) ts = refl
unclosed-set ps ms (CodeUnit u m) ts = refl

module _ (s : Schema) (k : ℕ) where
  alike-length : (ps : List ℕ) (ts ns : List Token) → Alike s k ps ts ns → length ns ≡ length ts
  alike-length ps [] [] a = refl
  alike-length ps [] (n ∷ ns) a = absurd a
  alike-length ps (t ∷ ts) [] a = absurd a
  alike-length ps (t ∷ ts) (n ∷ ns) a = ap suc (alike-length (after ps t) ts ns a.2)

  alike-unclosed : (ps qs : List ℕ) (ts ns : List Token) → Alike s k ps ts ns → unclosed qs ns ≡ unclosed qs ts
  alike-unclosed ps qs [] [] a = refl
  alike-unclosed ps qs [] (n ∷ ns) a = absurd a
  alike-unclosed ps qs (t ∷ ts) [] a = absurd a
  alike-unclosed ps qs (t ∷ ts) (n ∷ ns) a =
      ap (λ z. unclosed qs (z ∷ ns)) a.0 ∙ (unclosed-set qs (marks_of n) t ns ∙ (unclosed-append qs (t ∷ []) ns ∙ (alike-unclosed (after ps t) (after qs t) ts ns a.2 ∙ sym (unclosed-append qs (t ∷ []) ts))))

  alike-unmet : (ps qs : List ℕ) (ts ns : List Token) → Alike s k ps ts ns → unmet (length qs) ns ≡ unmet (length qs) ts
  alike-unmet ps qs [] [] a = refl
  alike-unmet ps qs [] (n ∷ ns) a = absurd a
  alike-unmet ps qs (t ∷ ts) [] a = absurd a
  alike-unmet ps qs (t ∷ ts) (n ∷ ns) a =
      ap (λ z. unmet (length qs) (z ∷ ns)) a.0 ∙ (unmet-set (length qs) (marks_of n) t ns ∙ (unmet-append qs (t ∷ []) ns
      ∙ (ap (λ z. unmet (length qs) (t ∷ []) + z) (alike-unmet (after ps t) (after qs t) ts ns a.2) ∙ sym (unmet-append qs (t ∷ []) ts))))

  alike-whole : (ps : List ℕ) (ts ns : List Token) → Alike s k ps ts ns → is_whole ts ≡ true → is_whole ns ≡ true
  alike-whole ps ts ns a h =
      let w = whole-of ts h in
      of-whole ns (record { met = alike-unmet ps [] ts ns a ∙ w.met; ended = alike-unclosed ps [] ts ns a ∙ w.ended })

-- a mark step within a size
abbrev IsMark : ℕ → Step → Type 0
IsMark n c = is_within c n × (step_map c ≡ [])

both : (n : ℕ) (xs ys : List Step) → AllByRecursion (IsMark n) xs → AllByRecursion (IsMark n) ys → AllByRecursion (IsMark n) (xs ++ ys)
both n [] ys h i = i
both n (x ∷ xs) ys h i = (h.0, both n xs ys h.1 i)

mapped : (n : ℕ) (f : Mark Attrs → Step) (ms : Marks) → ((m : Mark Attrs) → IsMark n (f m)) → AllByRecursion (IsMark n) (map f ms)
mapped n f [] h = tt
mapped n f (m ∷ ms) h = (h m, mapped n f ms h)

module _ (s : Schema) (n : ℕ) where
  -- where a run starts
  abbrev Starts : Option Run → ℕ → Type 0
  Starts None at = Unit {0}
  Starts (Some run) at = run.start ≤ at

  closes : (run : Option Run) (at : ℕ) → Starts run at → at ≤ n → AllByRecursion (IsMark n) (close_run run at)
  closes None at h i = tt
  closes (Some run) at h i =
      both n (map (λ m. RemoveMark run.start at m) run.new) (map (λ m. AddMark run.start at m) run.old)
      (mapped n (λ m. RemoveMark run.start at m) run.new (λ m. ((h, i), refl)))
      (mapped n (λ m. AddMark run.start at m) run.old (λ m. ((h, i), refl)))

  nodes : (at : ℕ) (old new : Marks) → at ≤ n → AllByRecursion (IsMark n) (node_steps at old new)
  nodes at old new i =
      both n (map (λ m. RemoveNodeMark at m) new) (map (λ m. AddNodeMark at m) old)
      (mapped n (λ m. RemoveNodeMark at m) new (λ m. (i, refl)))
      (mapped n (λ m. AddNodeMark at m) old (λ m. (i, refl)))

  due-marks : (c b o : Bool) (run : Option Run) (at : ℕ) (old new : Marks) → Starts run at → at ≤ n → AllByRecursion (IsMark n) (due c b o run at old new)
  due-marks false b o run at old new h i = closes run at h i
  due-marks true false o run at old new h i = both n (close_run run at) (node_steps at old new) (closes run at h i) (nodes at old new i)
  due-marks true true false run at old new h i = closes run at h i
  due-marks true true true run at old new h i = tt

  later : (run : Option Run) (at : ℕ) → Starts run at → Starts run (at + 1)
  later None at h = tt
  later (Some run) at h = omega (arith, h)

  next-starts : (c b o : Bool) (run : Option Run) (at : ℕ) (old new : Marks) → Starts run at → Starts (next_run c b o run at old new) (at + 1)
  next-starts false b o run at old new h = tt
  next-starts true false o run at old new h = tt
  next-starts true true false run at old new h = omega arith
  next-starts true true true run at old new h = later run at h

  runs-marks : (at : ℕ) (run : Option Run) (ts ns : List Token) → Starts run at → at + length ts ≤ n → AllByRecursion (IsMark n) (run_steps s at run ts ns)
  runs-marks at run [] ns h i = closes run at h (omega (arith, i))
  runs-marks at run (t ∷ ts) [] h i = closes run at h (omega (arith, i))
  runs-marks at run (t ∷ ts) (x ∷ ns) h i =
      let c = not (same_marks same_attrs (marks_of t) (marks_of x)) in
      let o = continues run (marks_of t) (marks_of x) in
      both n (due c (takes_marks s t) o run at (marks_of t) (marks_of x)) (run_steps s (at + 1) (next_run c (takes_marks s t) o run at (marks_of t) (marks_of x)) ts ns)
      (due-marks c (takes_marks s t) o run at (marks_of t) (marks_of x) h (omega (arith, i)))
      (runs-marks (at + 1) (next_run c (takes_marks s t) o run at (marks_of t) (marks_of x)) ts ns (next-starts c (takes_marks s t) o run at (marks_of t) (marks_of x) h) (omega (arith, i)))

  one-or-marks : (one : Step) (others : List Step) (d next : Doc) → IsMark n one → AllByRecursion (IsMark n) others → AllByRecursion (IsMark n) (one_or s one others d next)
  one-or-marks one others d next h i = at (gives (outcome s one next) d.tokens)
    where
      at : (b : Bool) → AllByRecursion (IsMark n) (cond b (one ∷ []) others)
      at true = (h, tt)
      at false = i

  one-or-runs-marks : (one : Step) (d next : Doc) → IsMark n one → length d.tokens ≤ n → AllByRecursion (IsMark n) (one_or_runs s one d next)
  one-or-runs-marks one d next h i = one-or-marks one (run_steps s 0 None d.tokens next.tokens) d next h (runs-marks 0 None d.tokens next.tokens tt (omega (arith, i)))

  add-node-marks : (p : ℕ) (m : Mark Attrs) (old new : Marks) → p ≤ n → IsMark n (add_node_back p m old new)
  add-node-marks p m old new h = at (length new == length old) (first_lost old new)
    where
      at : (b : Bool) (l : Option (Mark Attrs)) → IsMark n (cond b (added_back p m l) (RemoveNodeMark p m))
      at true None = (h, refl)
      at true (Some x) = (h, refl)
      at false l = (h, refl)

  remove-node-marks : (p : ℕ) (m : Mark Attrs) (old : Marks) → p ≤ n → IsMark n (cond (has same_attrs old m) (AddNodeMark p m) (RemoveNodeMark p m))
  remove-node-marks p m old h = at (has same_attrs old m)
    where
      at : (b : Bool) → IsMark n (cond b (AddNodeMark p m) (RemoveNodeMark p m))
      at true = (h, refl)
      at false = (h, refl)

map-of : (n : ℕ) (cs : List Step) → AllByRecursion (IsMark n) cs → All (λ b. step_map b ≡ []) cs
map-of n cs h = All-from_recursion (λ b. step_map b ≡ []) cs (at cs h)
  where
    at : (cs : List Step) → AllByRecursion (IsMark n) cs → AllByRecursion (λ b. step_map b ≡ []) cs
    at [] h = tt
    at (c ∷ cs) h = (h.0.1, at cs h.1)

within-of : (n : ℕ) (cs : List Step) → AllByRecursion (IsMark n) cs → All (λ b. is_within b n) cs
within-of n cs h = All-from_recursion (λ b. is_within b n) cs (at cs h)
  where
    at : (cs : List Step) → AllByRecursion (IsMark n) cs → AllByRecursion (λ b. is_within b n) cs
    at [] h = tt
    at (c ∷ cs) h = (h.0.0, at cs h.1)

-- what is known of a mark step that applies
record Marking (s : Schema) (c : Step) (d next : Doc) : Type 0 where
  pub valid : Valid s next
  pub same_size : length next.tokens ≡ length d.tokens
  pub within : is_within c (length d.tokens)
  pub back : AllByRecursion (IsMark (length next.tokens)) (inverse s c d)

module _ (s : Schema) (d next : Doc) (v : Valid s d) where
  ranged : (f : ℕ → Token → Marks → Marks) (from to : ℕ) → range_outcome s f from to d ≡ Ok next → Valid s next × (length next.tokens ≡ length d.tokens)
  ranged f from to h =
      let e = range-effect s f from to d next h in
      let a : Alike s d.kind (d.kind ∷ []) d.tokens next.tokens = subst (λ z. Alike s d.kind (d.kind ∷ []) d.tokens z.tokens) (sym e) (range-alike s d v f from to next h) in
      (checks-valid s next (alike-whole s d.kind (d.kind ∷ []) d.tokens next.tokens a v.whole) (range-checks s f from to d next h), alike-length s d.kind (d.kind ∷ []) d.tokens next.tokens a)

  noded : (f : Marks → Marks) (p : ℕ) → node_outcome s f p d ≡ Ok next → Valid s next × (length next.tokens ≡ length d.tokens)
  noded f p h =
      let e = node-effect s f p d next h in
      let a : Alike s d.kind (d.kind ∷ []) d.tokens next.tokens = subst (λ z. Alike s d.kind (d.kind ∷ []) d.tokens z.tokens) (sym e) (node-alike s d v f p) in
      (checks-valid s next (alike-whole s d.kind (d.kind ∷ []) d.tokens next.tokens a v.whole) (node-checks s f p d next h), alike-length s d.kind (d.kind ∷ []) d.tokens next.tokens a)

  add-marking : (from to : ℕ) (m : Mark Attrs) → outcome s (AddMark from to m) d ≡ Ok next → Marking s (AddMark from to m) d next
  add-marking from to m h =
      let k = (made-ok s (AddMark from to m) d next h).1 in
      let r = ranged (mark_added s m) from to k in
      let o = range-order s (mark_added s m) from to d next k in
      record { valid = r.0; same_size = r.1; within = o; back = one-or-runs-marks s (length next.tokens) (RemoveMark from to m) d (marked (mark_added s m) from to d) ((o.0, omega (arith, o.1, r.1)), refl) (omega (arith, r.1)) }

  remove-marking : (from to : ℕ) (m : Mark Attrs) → outcome s (RemoveMark from to m) d ≡ Ok next → Marking s (RemoveMark from to m) d next
  remove-marking from to m h =
      let k = (made-ok s (RemoveMark from to m) d next h).1 in
      let r = ranged (mark_removed s m) from to k in
      let o = range-order s (mark_removed s m) from to d next k in
      record { valid = r.0; same_size = r.1; within = o; back = one-or-runs-marks s (length next.tokens) (AddMark from to m) d (marked (mark_removed s m) from to d) ((o.0, omega (arith, o.1, r.1)), refl) (omega (arith, r.1)) }

  add-node-marking : (p : ℕ) (m : Mark Attrs) → outcome s (AddNodeMark p m) d ≡ Ok next → Marking s (AddNodeMark p m) d next
  add-node-marking p m h =
      let k = (made-ok s (AddNodeMark p m) d next h).1 in
      let r = noded (add s m) p k in
      let o = node-order s (add s m) p d next k in
      let old = node_marks (drop p d.tokens) in
      record { valid = r.0; same_size = r.1; within = o; back = one-or-marks s (length next.tokens) (add_node_back p m old (add s m old)) (node_steps p old (add s m old)) d (node_marked (add s m) p d) (add-node-marks s (length next.tokens) p m old (add s m old) (omega (arith, o, r.1))) (nodes s (length next.tokens) p old (add s m old) (omega (arith, o, r.1))) }

  remove-node-marking : (p : ℕ) (m : Mark Attrs) → outcome s (RemoveNodeMark p m) d ≡ Ok next → Marking s (RemoveNodeMark p m) d next
  remove-node-marking p m h =
      let k = (made-ok s (RemoveNodeMark p m) d next h).1 in
      let r = noded (remove m) p k in
      let o = node-order s (remove m) p d next k in
      let old = node_marks (drop p d.tokens) in
      record { valid = r.0; same_size = r.1; within = o; back = one-or-marks s (length next.tokens) (cond (has same_attrs old m) (AddNodeMark p m) (RemoveNodeMark p m)) (node_steps p old (remove m old)) d (node_marked (remove m) p d) (remove-node-marks s (length next.tokens) p m old (omega (arith, o, r.1))) (nodes s (length next.tokens) p old (remove m old) (omega (arith, o, r.1))) }

pub good : (s : Schema) (c : Step) (d next : Doc) → Valid s d → outcome s c d ≡ Ok next → Valid s next
good s (Replace from to sl st) d next v h = replace-valid s from to sl d next v (replaced s from to sl st d next h)
good s (ReplaceAround from to gf gt sl ins st) d next v h = around-valid s from to gf gt sl ins st d next v (moved s from to gf gt sl ins st d next h)
good s (AddMark from to m) d next v h = (add-marking s d next v from to m h).valid
good s (RemoveMark from to m) d next v h = (remove-marking s d next v from to m h).valid
good s (AddNodeMark p m) d next v h = (add-node-marking s d next v p m h).valid
good s (RemoveNodeMark p m) d next v h = (remove-node-marking s d next v p m h).valid
good s (Attr p name value) d next v h = attr-valid s p name value d next v h
good s (DocAttr name value) d next v h = doc-valid s name value d next v h

pub small : (s : Schema) (d : Doc) → Valid s d → length d.tokens < 2 ^ 32
small s d v = let l : length d.tokens ≤ max_size s = v.size in omega (arith, l, max-size-small s)

one-back : (s : Schema) (b : Step) (d next back : Doc) → outcome s b next ≡ Ok d → fold meaning s next (b ∷ []) ≡ Some back → back ≡ d
one-back s b d next back h f =
    let c = fold-cons meaning s next back b [] f in
    ends c.0 back d c.2 (sym c.1 ∙ h)
  where
    ends : (x y z : Doc) → Some x ≡ Some y → (let r : Result Doc Reason = Ok x in r) ≡ Ok z → y ≡ z
    ends x y z e g = let i : x ≡ y = cc in let j : x ≡ z = cc in sym i ∙ j

pub restores : (s : Schema) (c : Step) (d next back : Doc) → Valid s d → outcome s c d ≡ Ok next → fold meaning s next (inverse s c d) ≡ Some back → back ≡ d
restores s (Replace from to sl st) d next back v h f = one-back s (replace_back d from to sl) d next back (replace-restored s from to sl d next v (replaced s from to sl st d next h)) f
restores s (ReplaceAround from to gf gt sl ins st) d next back v h f =
    one-back s (around_back d from to gf gt sl ins st) d next back (around-restored s from to gf gt sl ins st d next v (moved s from to gf gt sl ins st d next h)) f
restores s (AddMark from to m) d next back v h f = range-restores s d v (mark_added s m) from to (RemoveMark from to m) next back refl (made-ok s (AddMark from to m) d next h).1 f
restores s (RemoveMark from to m) d next back v h f = range-restores s d v (mark_removed s m) from to (AddMark from to m) next back refl (made-ok s (RemoveMark from to m) d next h).1 f
restores s (AddNodeMark p m) d next back v h f =
    let old = node_marks (drop p d.tokens) in node-restores s d v (add s m) p (add_node_back p m old (add s m old)) next back (add-back-marking p m old (add s m old)) (made-ok s (AddNodeMark p m) d next h).1 f
restores s (RemoveNodeMark p m) d next back v h f =
    node-restores s d v (remove m) p (cond (has same_attrs (node_marks (drop p d.tokens)) m) (AddNodeMark p m) (RemoveNodeMark p m)) next back (remove-back-marking p m (node_marks (drop p d.tokens))) (made-ok s (RemoveNodeMark p m) d next h).1 f
restores s (Attr p name value) d next back v h f = one-back s (attr_back s p name d) d next back (attr-restored s p name value d next v h) f
restores s (DocAttr name value) d next back v h f = one-back s (doc_attr_back s name d) d next back (doc-restored s name value d next v h) f

no-range : (n k : ℕ) → k ≡ n → FitsSizes [] n k
no-range n k e = (omega arith, sym e)

pub fits : (s : Schema) (c : Step) (d next : Doc) → Valid s d → outcome s c d ≡ Ok next → FitsSizes (step_map c) (length d.tokens) (length next.tokens)
fits s (Replace from to sl st) d next v h = maps.replace-fits s from to sl st d next v h
fits s (ReplaceAround from to gf gt sl ins st) d next v h = maps.around-fits s from to gf gt sl ins st d next v h
fits s (AddMark from to m) d next v h = no-range (length d.tokens) (length next.tokens) (add-marking s d next v from to m h).same_size
fits s (RemoveMark from to m) d next v h = no-range (length d.tokens) (length next.tokens) (remove-marking s d next v from to m h).same_size
fits s (AddNodeMark p m) d next v h = no-range (length d.tokens) (length next.tokens) (add-node-marking s d next v p m h).same_size
fits s (RemoveNodeMark p m) d next v h = no-range (length d.tokens) (length next.tokens) (remove-node-marking s d next v p m h).same_size
fits s (Attr p name value) d next v h = no-range (length d.tokens) (length next.tokens) (attr-same-size s p name value d next v h)
fits s (DocAttr name value) d next v h = no-range (length d.tokens) (length next.tokens) (ap length (doc-same-tokens s name value d next v h))

pub within : (s : Schema) (c : Step) (d next : Doc) → Valid s d → outcome s c d ≡ Ok next → is_within c (length d.tokens)
within s (Replace from to sl st) d next v h = maps.replace-within s from to sl st d next v h
within s (ReplaceAround from to gf gt sl ins st) d next v h = maps.around-within s from to gf gt sl ins st d next v h
within s (AddMark from to m) d next v h = (add-marking s d next v from to m h).within
within s (RemoveMark from to m) d next v h = (remove-marking s d next v from to m h).within
within s (AddNodeMark p m) d next v h = (add-node-marking s d next v p m h).within
within s (RemoveNodeMark p m) d next v h = (remove-node-marking s d next v p m h).within
within s (Attr p name value) d next v h = (attr-made s p name value d next v h).ordered
within s (DocAttr name value) d next v h = tt

pub inverse_within : (s : Schema) (c : Step) (d next : Doc) → Valid s d → outcome s c d ≡ Ok next → All (λ b. is_within b (length next.tokens)) (inverse s c d)
inverse_within s (Replace from to sl st) d next v h =
    All-from_recursion (λ b. is_within b (length next.tokens)) (replace_back d from to sl ∷ []) (maps.replace-inverse-within s from to sl st d next v h, tt)
inverse_within s (ReplaceAround from to gf gt sl ins st) d next v h =
    All-from_recursion (λ b. is_within b (length next.tokens)) (around_back d from to gf gt sl ins st ∷ []) (maps.around-inverse-within s from to gf gt sl ins st d next v h, tt)
inverse_within s (AddMark from to m) d next v h = within-of (length next.tokens) (inverse s (AddMark from to m) d) (add-marking s d next v from to m h).back
inverse_within s (RemoveMark from to m) d next v h = within-of (length next.tokens) (inverse s (RemoveMark from to m) d) (remove-marking s d next v from to m h).back
inverse_within s (AddNodeMark p m) d next v h = within-of (length next.tokens) (inverse s (AddNodeMark p m) d) (add-node-marking s d next v p m h).back
inverse_within s (RemoveNodeMark p m) d next v h = within-of (length next.tokens) (inverse s (RemoveNodeMark p m) d) (remove-node-marking s d next v p m h).back
inverse_within s (Attr p name value) d next v h =
    All-from_recursion (λ b. is_within b (length next.tokens)) (attr_back s p name d ∷ []) (subst (λ n. p ≤ n) (sym (attr-same-size s p name value d next v h)) (attr-made s p name value d next v h).ordered, tt)
inverse_within s (DocAttr name value) d next v h = All-from_recursion (λ b. is_within b (length next.tokens)) (doc_attr_back s name d ∷ []) (tt, tt)

pub inverse_map : (s : Schema) (c : Step) (d next : Doc) → Valid s d → outcome s c d ≡ Ok next → HasInverseMap meaning s (step_map c) (inverse s c d)
inverse_map s (Replace from to sl st) d next v h = maps.replace-inverse-map s from to sl st d next v h
inverse_map s (ReplaceAround from to gf gt sl ins st) d next v h = maps.around-inverse-map s from to gf gt sl ins st d next v h
inverse_map s (AddMark from to m) d next v h = map-of (length next.tokens) (inverse s (AddMark from to m) d) (add-marking s d next v from to m h).back
inverse_map s (RemoveMark from to m) d next v h = map-of (length next.tokens) (inverse s (RemoveMark from to m) d) (remove-marking s d next v from to m h).back
inverse_map s (AddNodeMark p m) d next v h = map-of (length next.tokens) (inverse s (AddNodeMark p m) d) (add-node-marking s d next v p m h).back
inverse_map s (RemoveNodeMark p m) d next v h = map-of (length next.tokens) (inverse s (RemoveNodeMark p m) d) (remove-node-marking s d next v p m h).back
inverse_map s (Attr p name value) d next v h = All-from_recursion (λ b. step_map b ≡ []) (attr_back s p name d ∷ []) (refl, tt)
inverse_map s (DocAttr name value) d next v h = All-from_recursion (λ b. step_map b ≡ []) (doc_attr_back s name d ∷ []) (refl, tt)
