-- What mark steps make of the tokens, where they apply; and that the steps of the runs give the old marks back.
use Rattle.std.specs.Prelude.{◌≡◌, ℕ, ◌+◌, Bool, true, false, ◌&&◌, not, List, [], ◌∷◌, ◌++◌, map, length, take, drop, Option, Some, None}
use Rattle.std.proofs.lemmas.List.{append-nil, length-map}
use Rattle.std.proofs.Common.{refl, ap, sym, ◌∙◌, subst, arith, append_assoc, length-append}
use Rattle.pm_attrs.specs.Attrs.{same_attrs}
use Rattle.pm_marks.specs.Sets.{same_marks}
use Rattle.pm_marks.specs.declared.mark.Mark.{Mark}
use Rattle.pm_tokens.specs.Marks.{is_set}
use Rattle.pm_tokens.specs.Scan.{head_of, tail_of, unclosed, part}
use Rattle.pm_tokens.specs.Schemas.{Schema, mark_attrs}
use Rattle.pm_tokens.specs.Tokens.{Token, Open, Close, Leaf, CodeUnit, marks_of, Attrs, Marks}
use Rattle.pm_tokens.proofs.MarkLaws.{marks-equal}
use Rattle.pm_tokens.proofs.PartLaws.{Split, split-front, split-part, split-back, split-rest}
use Rattle.pm_tokens.proofs.ScanLaws.{unclosed-append}
use Rattle.pm_meaning.specs.Marked.{add, remove, with_marks, takes_marks, mark_added, mark_removed, with_node_marks}
use Rattle.pm_meaning.specs.Runs.{Run, range_steps, node_steps, close_run, continues, next_run, due, run_steps}
use Rattle.pm_meaning.specs.Steps.{Step, Replace, ReplaceAround, AddMark, RemoveMark, AddNodeMark, RemoveNodeMark, Attr, DocAttr}
use Rattle.pm_meaning.proofs.MarkSuits.{are_suited, marks_suit}
use Rattle.pm_meaning.proofs.RunLaws.{add_all, remove_each, removed-all}
use Rattle.pm_meaning.proofs.TokenMarks.{set_marks, set-own}
use Rattle.std.proofs.lemmas.Bool.{and_parts, and_from}

-- the tokens with their marks changed, and as they are under a step that is no mark step
abbrev pub effect : Schema → ℕ → Step → List Token → List Token
effect s k (Replace from to sl structure) ts = ts
effect s k (ReplaceAround from to gf gt sl insert structure) ts = ts
effect s k (AddMark from to m) ts = take from ts ++ (with_marks (mark_added s m) (unclosed (k ∷ []) (take from ts)) (part from to ts) ++ drop to ts)
effect s k (RemoveMark from to m) ts = take from ts ++ (with_marks (mark_removed s m) (unclosed (k ∷ []) (take from ts)) (part from to ts) ++ drop to ts)
effect s k (AddNodeMark p m) ts = take p ts ++ with_node_marks (add s m) (drop p ts)
effect s k (RemoveNodeMark p m) ts = take p ts ++ with_node_marks (remove m) (drop p ts)
effect s k (Attr p name value) ts = ts
effect s k (DocAttr name value) ts = ts

abbrev pub effects : Schema → ℕ → List Step → List Token → List Token
effects s k [] ts = ts
effects s k (c ∷ cs) ts = effects s k cs (effect s k c ts)

abbrev pub after : List ℕ → Token → List ℕ
after ps t = unclosed ps (t ∷ [])

abbrev pub dressed : Marks → List Token → List Token
dressed ms ts = map (set_marks ms) ts

abbrev pub are_run : Schema → List Token → Bool
are_run s [] = true
are_run s (t ∷ ts) = takes_marks s t && are_run s ts

abbrev pub allowed : Schema → List ℕ → Mark Attrs → List Token → Bool
allowed s ps m [] = true
allowed s ps m (t ∷ ts) = s.allows (head_of ps) m.kind && allowed s (after ps t) m ts

abbrev pub all_allowed : Schema → List ℕ → Marks → List Token → Bool
all_allowed s ps [] ts = true
all_allowed s ps (m ∷ ms) ts = allowed s ps m ts && all_allowed s ps ms ts

pub after-set : (ps : List ℕ) (ms : Marks) (t : Token) → after ps (set_marks ms t) ≡ after ps t
after-set ps ms (Open k a m) = refl
after-set ps ms Close = refl
after-set ps ms (Leaf k a m) = refl
after-set ps ms (CodeUnit u m) = refl

pub with-one : (f : ℕ → Token → Marks → Marks) (ps : List ℕ) (t : Token) (ts : List Token) → with_marks f ps (t ∷ ts) ≡ set_marks (f (head_of ps) t (marks_of t)) t ∷ with_marks f (after ps t) ts
with-one f ps (Open k a m) ts = refl
with-one f ps Close ts = refl
with-one f ps (Leaf k a m) ts = refl
with-one f ps (CodeUnit u m) ts = refl

pub unclosed-dressed : (ps : List ℕ) (ms : Marks) (ts : List Token) → unclosed ps (dressed ms ts) ≡ unclosed ps ts
unclosed-dressed ps ms [] = refl
unclosed-dressed ps ms (Open k a m ∷ ts) = unclosed-dressed (k ∷ ps) ms ts
unclosed-dressed ps ms (Close ∷ ts) = unclosed-dressed (tail_of ps) ms ts
unclosed-dressed ps ms (Leaf k a m ∷ ts) = unclosed-dressed ps ms ts
unclosed-dressed ps ms (CodeUnit u m ∷ ts) = unclosed-dressed ps ms ts

module _ (s : Schema) where
  removed-one : (m : Mark Attrs) (p : ℕ) (cur : Marks) (t : Token) → takes_marks s t ≡ true → set_marks (mark_removed s m p (set_marks cur t) (marks_of (set_marks cur t))) (set_marks cur t) ≡ set_marks (remove m cur) t
  removed-one m p cur (Open k a n) h = rw (and_parts (s.is_inline k) (s.is_atom k) h).0 refl
  removed-one m p cur Close h = refl
  removed-one m p cur (Leaf k a n) h = rw h refl
  removed-one m p cur (CodeUnit u n) h = refl

  added-one : (m : Mark Attrs) (p : ℕ) (cur : Marks) (t : Token) → takes_marks s t ≡ true → s.allows p m.kind ≡ true → set_marks (mark_added s m p (set_marks cur t) (marks_of (set_marks cur t))) (set_marks cur t) ≡ set_marks (add s m cur) t
  added-one m p cur (Open k a n) h i = let b = and_parts (s.is_inline k) (s.is_atom k) h in rw (b.0, b.1, i) refl
  added-one m p cur Close h i = refl
  added-one m p cur (Leaf k a n) h i = rw (h, i) refl
  added-one m p cur (CodeUnit u n) h i = rw i refl

  pub dress-removed : (m : Mark Attrs) (ps : List ℕ) (cur : Marks) (ts : List Token) → are_run s ts ≡ true → with_marks (mark_removed s m) ps (dressed cur ts) ≡ dressed (remove m cur) ts
  dress-removed m ps cur [] h = refl
  dress-removed m ps cur (t ∷ ts) h =
      let b = and_parts (takes_marks s t) (are_run s ts) h in
      with-one (mark_removed s m) ps (set_marks cur t) (dressed cur ts)
      ∙ (ap (λ z. z ∷ with_marks (mark_removed s m) (after ps (set_marks cur t)) (dressed cur ts)) (removed-one m (head_of ps) cur t b.0)
      ∙ ap (λ z. set_marks (remove m cur) t ∷ z) (dress-removed m (after ps (set_marks cur t)) cur ts b.1))

  pub dress-added : (m : Mark Attrs) (ps : List ℕ) (cur : Marks) (ts : List Token) → are_run s ts ≡ true → allowed s ps m ts ≡ true → with_marks (mark_added s m) ps (dressed cur ts) ≡ dressed (add s m cur) ts
  dress-added m ps cur [] h i = refl
  dress-added m ps cur (t ∷ ts) h i =
      let b = and_parts (takes_marks s t) (are_run s ts) h in
      let c = and_parts (s.allows (head_of ps) m.kind) (allowed s (after ps t) m ts) i in
      with-one (mark_added s m) ps (set_marks cur t) (dressed cur ts)
      ∙ (ap (λ z. z ∷ with_marks (mark_added s m) (after ps (set_marks cur t)) (dressed cur ts)) (added-one m (head_of ps) cur t b.0 c.0)
      ∙ ap (λ z. set_marks (add s m cur) t ∷ z) (dress-added m (after ps (set_marks cur t)) cur ts b.1 (ap (λ z. allowed s z m ts) (after-set ps cur t) ∙ c.1)))

  module _ (k : ℕ) where
    effects-append : (cs ds : List Step) (ts : List Token) → effects s k (cs ++ ds) ts ≡ effects s k ds (effects s k cs ts)
    effects-append [] ds ts = refl
    effects-append (c ∷ cs) ds ts = effects-append cs ds (effect s k c ts)

    module _ {xs p x q : List Token} {from to : ℕ} (w : Split xs p x q from to) where
      pub remove-at : (m : Mark Attrs) → effect s k (RemoveMark from to m) xs ≡ p ++ (with_marks (mark_removed s m) (unclosed (k ∷ []) p) x ++ q)
      remove-at m = rw (split-front w, split-part w, split-back w) refl

      pub add-at : (m : Mark Attrs) → effect s k (AddMark from to m) xs ≡ p ++ (with_marks (mark_added s m) (unclosed (k ∷ []) p) x ++ q)
      add-at m = rw (split-front w, split-part w, split-back w) refl

    module _ (p r q : List Token) (from to : ℕ) (hp : length p ≡ from) (hr : from + length r ≡ to) (run : are_run s r ≡ true) where
      here : (cur : Marks) → Split (p ++ (dressed cur r ++ q)) p (dressed cur r) q from to
      here cur = record { is = refl; at_from = hp; at_to = omega (arith, hr, length-map r (set_marks cur)) }

      removes : (ms cur : Marks) → effects s k (map (λ m. RemoveMark from to m) ms) (p ++ (dressed cur r ++ q)) ≡ p ++ (dressed (remove_each ms cur) r ++ q)
      removes [] cur = refl
      removes (m ∷ ms) cur =
          ap (effects s k (map (λ m. RemoveMark from to m) ms)) (remove-at (here cur) m ∙ ap (λ z. p ++ (z ++ q)) (dress-removed m (unclosed (k ∷ []) p) cur r run))
          ∙ removes ms (remove m cur)

      adds : (ms cur : Marks) → all_allowed s (unclosed (k ∷ []) p) ms r ≡ true → effects s k (map (λ m. AddMark from to m) ms) (p ++ (dressed cur r ++ q)) ≡ p ++ (dressed (add_all s cur ms) r ++ q)
      adds [] cur h = refl
      adds (m ∷ ms) cur h =
          let b = and_parts (allowed s (unclosed (k ∷ []) p) m r) (all_allowed s (unclosed (k ∷ []) p) ms r) h in
          ap (effects s k (map (λ m. AddMark from to m) ms)) (add-at (here cur) m ∙ ap (λ z. p ++ (z ++ q)) (dress-added m (unclosed (k ∷ []) p) cur r run b.0))
          ∙ adds ms (add s m cur) b.1

      -- the steps of a run give its old marks
      ranged : (old new : Marks) → is_set s old ≡ true → all_allowed s (unclosed (k ∷ []) p) old r ≡ true → effects s k (range_steps from to old new) (p ++ (dressed new r ++ q)) ≡ p ++ (dressed old r ++ q)
      ranged old new h a =
          effects-append (map (λ m. RemoveMark from to m) new) (map (λ m. AddMark from to m) old) (p ++ (dressed new r ++ q))
          ∙ (ap (effects s k (map (λ m. AddMark from to m) old)) (removes new new ∙ ap (λ z. p ++ (dressed z r ++ q)) (removed-all new))
          ∙ (adds old [] a ∙ ap (λ z. p ++ (dressed z r ++ q)) (marks-equal (add_all s [] old) old h)))

    abbrev pub is_node : Token → Bool
    is_node (Open k a m) = true
    is_node Close = false
    is_node (Leaf k a m) = true
    is_node (CodeUnit u m) = false

    pub node-one : (f : Marks → Marks) (cur : Marks) (t : Token) (q : List Token) → is_node t ≡ true → with_node_marks f (set_marks cur t ∷ q) ≡ set_marks (f cur) t ∷ q
    node-one f cur (Open k a m) q h = refl
    node-one f cur Close q h = absurd (cc)
    node-one f cur (Leaf k a m) q h = refl
    node-one f cur (CodeUnit u m) q h = absurd (cc)

    module _ (p : List Token) (t : Token) (q : List Token) (pos : ℕ) (hp : length p ≡ pos) (n : is_node t ≡ true) where
      node-here : (cur : Marks) → Split (p ++ (set_marks cur t ∷ q)) p (set_marks cur t ∷ []) q pos (pos + 1)
      node-here cur = record { is = refl; at_from = hp; at_to = refl }

      node-removes : (ms cur : Marks) → effects s k (map (λ m. RemoveNodeMark pos m) ms) (p ++ (set_marks cur t ∷ q)) ≡ p ++ (set_marks (remove_each ms cur) t ∷ q)
      node-removes [] cur = refl
      node-removes (m ∷ ms) cur =
          ap (effects s k (map (λ m. RemoveNodeMark pos m) ms)) (rw (split-front (node-here cur), split-rest (node-here cur)) (ap (λ z. p ++ z) (node-one (remove m) cur t q n)))
          ∙ node-removes ms (remove m cur)

      node-adds : (ms cur : Marks) → effects s k (map (λ m. AddNodeMark pos m) ms) (p ++ (set_marks cur t ∷ q)) ≡ p ++ (set_marks (add_all s cur ms) t ∷ q)
      node-adds [] cur = refl
      node-adds (m ∷ ms) cur =
          ap (effects s k (map (λ m. AddNodeMark pos m) ms)) (rw (split-front (node-here cur), split-rest (node-here cur)) (ap (λ z. p ++ z) (node-one (add s m) cur t q n)))
          ∙ node-adds ms (add s m cur)

      pub noded : (old new : Marks) → is_set s old ≡ true → effects s k (node_steps pos old new) (p ++ (set_marks new t ∷ q)) ≡ p ++ (set_marks old t ∷ q)
      noded old new h =
          effects-append (map (λ m. RemoveNodeMark pos m) new) (map (λ m. AddNodeMark pos m) old) (p ++ (set_marks new t ∷ q))
          ∙ (ap (effects s k (map (λ m. AddNodeMark pos m) old)) (node-removes new new ∙ ap (λ z. p ++ (set_marks z t ∷ q)) (removed-all new))
          ∙ (node-adds old [] ∙ ap (λ z. p ++ (set_marks z t ∷ q)) (marks-equal (add_all s [] old) old h)))

    abbrev pub dress_new : Option Run → List Token → List Token
    dress_new None r = []
    dress_new (Some run) r = dressed run.new r

    abbrev pub dress_old : Option Run → List Token → List Token
    dress_old None r = []
    dress_old (Some run) r = dressed run.old r

    -- the run up to a position: p are the tokens before it, and r its tokens
    abbrev Holds : Option Run → List Token → List Token → ℕ → Type 0
    Holds None p r at = (r ≡ []) × (length p ≡ at)
    Holds (Some run) p r at =
        (length p ≡ run.start) × (run.start + length r ≡ at) × (are_run s r ≡ true)
        × (all_allowed s (unclosed (k ∷ []) p) run.old r ≡ true) × (is_set s run.old ≡ true)

    closed : (run : Option Run) (p r q : List Token) (at : ℕ) → Holds run p r at → effects s k (close_run run at) (p ++ (dress_new run r ++ q)) ≡ p ++ (dress_old run r ++ q)
    closed None p r q at h = refl
    closed (Some run) p r q at h = ranged p r q run.start at h.0 h.1 h.2 run.old run.new h.4 h.3

    old-length : (run : Option Run) (p r : List Token) (at : ℕ) → Holds run p r at → length (p ++ dress_old run r) ≡ at
    old-length None p r at h = ap length (append-nil p) ∙ h.1
    old-length (Some run) p r at h = omega (arith, h.0, h.1, length-append p (dressed run.old r), length-map r (set_marks run.old))

    old-unclosed : (run : Option Run) (p r : List Token) (at : ℕ) → Holds run p r at → unclosed (k ∷ []) (p ++ dress_old run r) ≡ unclosed (unclosed (k ∷ []) p) r
    old-unclosed None p r at h = unclosed-append (k ∷ []) p [] ∙ ap (unclosed (unclosed (k ∷ []) p)) (sym h.0)
    old-unclosed (Some run) p r at h = unclosed-append (k ∷ []) p (dressed run.old r) ∙ unclosed-dressed (unclosed (k ∷ []) p) run.old r

    -- the same tokens but for their marks, of which the old ones fit
    abbrev pub Alike : List ℕ → List Token → List Token → Type 0
    Alike ps [] [] = Unit {0}
    Alike ps [] (n ∷ ns) = ⊥
    Alike ps (t ∷ ts) [] = ⊥
    Alike ps (t ∷ ts) (n ∷ ns) = (n ≡ set_marks (marks_of n) t) × (marks_suit s (head_of ps) (marks_of t) ≡ true) × Alike (after ps t) ts ns

    abbrev Back : List Token → List Token → Type 0
    Back ts ns = (p r : List Token) (run : Option Run) (at : ℕ) → Holds run p r at → Alike (unclosed (unclosed (k ∷ []) p) r) ts ns
        → effects s k (run_steps s at run ts ns) (p ++ (dress_new run r ++ ns)) ≡ p ++ (dress_old run r ++ ts)

    pub allowed-one : (ps : List ℕ) (t : Token) (ms : Marks) → are_suited s (head_of ps) ms ≡ true → all_allowed s ps ms (t ∷ []) ≡ true
    allowed-one ps t [] h = refl
    allowed-one ps t (m ∷ ms) h =
        let b = and_parts (s.allows (head_of ps) m.kind && mark_attrs s m.kind m.attrs) (are_suited s (head_of ps) ms) h in
        let c = and_parts (s.allows (head_of ps) m.kind) (mark_attrs s m.kind m.attrs) b.0 in
        and_from (allowed s ps m (t ∷ [])) (all_allowed s ps ms (t ∷ [])) (and_from (s.allows (head_of ps) m.kind) true c.0 refl) (allowed-one ps t ms b.1)

    allowed-push : (ps : List ℕ) (m : Mark Attrs) (r : List Token) (t : Token) → allowed s ps m r ≡ true → s.allows (head_of (unclosed ps r)) m.kind ≡ true → allowed s ps m (r ++ (t ∷ [])) ≡ true
    allowed-push ps m [] t h i = and_from (s.allows (head_of ps) m.kind) true i refl
    allowed-push ps m (x ∷ r) t h i =
        let b = and_parts (s.allows (head_of ps) m.kind) (allowed s (after ps x) m r) h in
        and_from (s.allows (head_of ps) m.kind) (allowed s (after ps x) m (r ++ (t ∷ []))) b.0
        (allowed-push (after ps x) m r t b.1 (subst (λ z. s.allows (head_of z) m.kind ≡ true) (unclosed-append ps (x ∷ []) r) i))

    pub all-allowed-push : (ps : List ℕ) (ms : Marks) (r : List Token) (t : Token) → all_allowed s ps ms r ≡ true → are_suited s (head_of (unclosed ps r)) ms ≡ true → all_allowed s ps ms (r ++ (t ∷ [])) ≡ true
    all-allowed-push ps [] r t h i = refl
    all-allowed-push ps (m ∷ ms) r t h i =
        let a = and_parts (allowed s ps m r) (all_allowed s ps ms r) h in
        let b = and_parts (s.allows (head_of (unclosed ps r)) m.kind && mark_attrs s m.kind m.attrs) (are_suited s (head_of (unclosed ps r)) ms) i in
        let c = and_parts (s.allows (head_of (unclosed ps r)) m.kind) (mark_attrs s m.kind m.attrs) b.0 in
        and_from (allowed s ps m (r ++ (t ∷ []))) (all_allowed s ps ms (r ++ (t ∷ []))) (allowed-push ps m r t a.0 c.0) (all-allowed-push ps ms r t a.1 b.1)

    pub run-push : (r : List Token) (t : Token) → are_run s r ≡ true → takes_marks s t ≡ true → are_run s (r ++ (t ∷ [])) ≡ true
    run-push [] t h i = and_from (takes_marks s t) true i refl
    run-push (x ∷ r) t h i =
        let b = and_parts (takes_marks s x) (are_run s r) h in
        and_from (takes_marks s x) (are_run s (r ++ (t ∷ []))) b.0 (run-push r t b.1 i)

    pub dressed-push : (ms : Marks) (r : List Token) (t : Token) (q : List Token) → dressed ms (r ++ (t ∷ [])) ++ q ≡ dressed ms r ++ (set_marks ms t ∷ q)
    dressed-push ms [] t q = refl
    dressed-push ms (x ∷ r) t q = ap (λ z. set_marks ms x ∷ z) (dressed-push ms r t q)

    pub node-of : (t n : Token) → n ≡ set_marks (marks_of n) t → not (same_marks same_attrs (marks_of t) (marks_of n)) ≡ true → takes_marks s t ≡ false → is_node t ≡ true
    node-of (Open j a m) n e h i = refl
    node-of Close n e h i =
        let z : not (same_marks same_attrs [] (marks_of n)) ≡ true = h in
        let y : marks_of n ≡ [] = ap marks_of e in
        let w : not (same_marks same_attrs [] []) ≡ true = subst (λ v. not (same_marks same_attrs [] v) ≡ true) y z in
        absurd (cc)
    node-of (Leaf j a m) n e h i = refl
    node-of (CodeUnit u m) n e h i = absurd (cc)

    pub not-not : (b : Bool) → not b ≡ false → b ≡ true
    not-not true h = refl
    not-not false h = absurd (cc)

    module _ (t n : Token) (ts ns : List Token) (ih : Back ts ns) (p r : List Token) (run : Option Run) (at : ℕ) (h : Holds run p r at) (al : Alike (unclosed (unclosed (k ∷ []) p) r) (t ∷ ts) (n ∷ ns)) where
      abbrev old : Marks
      old = marks_of t

      abbrev new : Marks
      new = marks_of n

      abbrev so_far : List Token
      so_far = p ++ dress_old run r

      abbrev ps : List ℕ
      ps = unclosed (unclosed (k ∷ []) p) r

      at-is : length so_far ≡ at
      at-is = old-length run p r at h

      fits : (is_set s old ≡ true) × (are_suited s (head_of ps) old ≡ true)
      fits = and_parts (is_set s old) (are_suited s (head_of ps) old) al.1

      ended : effects s k (close_run run at) (p ++ (dress_new run r ++ (n ∷ ns))) ≡ so_far ++ (n ∷ ns)
      ended = closed run p r (n ∷ ns) at h ∙ sym (append_assoc p (dress_old run r) (n ∷ ns))

      fresh : effects s k (run_steps s (at + 1) None ts ns) (so_far ++ (t ∷ ns)) ≡ p ++ (dress_old run r ++ (t ∷ ts))
      fresh =
          let p' = so_far ++ (t ∷ []) in
          let u : unclosed (k ∷ []) p' ≡ after ps t = unclosed-append (k ∷ []) so_far (t ∷ []) ∙ ap (λ z. after z t) (old-unclosed run p r at h) in
          let e = ih p' [] None (at + 1) (refl, omega (arith, at-is, length-append so_far (t ∷ []))) (subst (λ z. Alike z ts ns) (sym u) al.2) in
          ap (effects s k (run_steps s (at + 1) None ts ns)) (sym (append_assoc so_far (t ∷ []) ns)) ∙ (e ∙ (append_assoc so_far (t ∷ []) ts ∙ append_assoc p (dress_old run r) (t ∷ ts)))

      one : (c b o : Bool) → not (same_marks same_attrs old new) ≡ c → takes_marks s t ≡ b → continues run old new ≡ o
          → effects s k (due c b o run at old new ++ run_steps s (at + 1) (next_run c b o run at old new) ts ns) (p ++ (dress_new run r ++ (n ∷ ns))) ≡ p ++ (dress_old run r ++ (t ∷ ts))
      one false b o x y z =
          let same : n ≡ t = al.0 ∙ (ap (λ m. set_marks m t) (sym (marks-equal old new (not-not (same_marks same_attrs old new) x))) ∙ set-own t) in
          effects-append (close_run run at) (run_steps s (at + 1) None ts ns) (p ++ (dress_new run r ++ (n ∷ ns)))
          ∙ (ap (effects s k (run_steps s (at + 1) None ts ns)) (ended ∙ ap (λ m. so_far ++ (m ∷ ns)) same) ∙ fresh)
      one true false o x y z =
          let node = node-of t n al.0 x y in
          effects-append (close_run run at ++ node_steps at old new) (run_steps s (at + 1) None ts ns) (p ++ (dress_new run r ++ (n ∷ ns)))
          ∙ (ap (effects s k (run_steps s (at + 1) None ts ns))
          (effects-append (close_run run at) (node_steps at old new) (p ++ (dress_new run r ++ (n ∷ ns)))
          ∙ (ap (effects s k (node_steps at old new)) (ended ∙ ap (λ m. so_far ++ (m ∷ ns)) al.0)
          ∙ (noded so_far t ns at at-is node old new fits.0 ∙ ap (λ m. so_far ++ (m ∷ ns)) (set-own t)))) ∙ fresh)
      one true true false x y z =
          let ru : Run = record { start = at; old = old; new = new } in
          let u : unclosed (k ∷ []) so_far ≡ ps = old-unclosed run p r at h in
          let e = ih so_far (t ∷ []) (Some ru) (at + 1)
          (at-is, refl, and_from (takes_marks s t) true y refl, subst (λ v. all_allowed s v old (t ∷ []) ≡ true) (sym u) (allowed-one ps t old fits.1), fits.0)
          (subst (λ v. Alike (after v t) ts ns) (sym u) al.2) in
          effects-append (close_run run at) (run_steps s (at + 1) (Some ru) ts ns) (p ++ (dress_new run r ++ (n ∷ ns)))
          ∙ (ap (effects s k (run_steps s (at + 1) (Some ru) ts ns)) (ended ∙ ap (λ m. so_far ++ (m ∷ ns)) al.0)
          ∙ (e ∙ (ap (λ m. so_far ++ (m ∷ ts)) (set-own t) ∙ append_assoc p (dress_old run r) (t ∷ ts))))
      one true true true x y z = on run refl h z
        where
          on : (ru : Option Run) → run ≡ ru → Holds ru p r at → continues ru old new ≡ true → effects s k (run_steps s (at + 1) run ts ns) (p ++ (dress_new run r ++ (n ∷ ns))) ≡ p ++ (dress_old run r ++ (t ∷ ts))
          on None e hh c = absurd (cc)
          on (Some ru) e hh c =
              let b = and_parts (same_marks same_attrs ru.old old) (same_marks same_attrs ru.new new) c in
              let eo = marks-equal ru.old old b.0 in
              let en = marks-equal ru.new new b.1 in
              let i = ih p (r ++ (t ∷ [])) (Some ru) (at + 1)
              (hh.0, omega (arith, hh.1, length-append r (t ∷ [])), run-push r t hh.2 y, all-allowed-push (unclosed (k ∷ []) p) ru.old r t hh.3 (subst (λ v. are_suited s (head_of ps) v ≡ true) (sym eo) fits.1), hh.4)
              (subst (λ v. Alike v ts ns) (sym (unclosed-append (unclosed (k ∷ []) p) r (t ∷ []))) al.2) in
              rw e
              (ap (λ v. effects s k (run_steps s (at + 1) (Some ru) ts ns) (p ++ v)) (ap (λ v. dressed ru.new r ++ (v ∷ ns)) (al.0 ∙ ap (λ m. set_marks m t) (sym en)) ∙ sym (dressed-push ru.new r t ns))
              ∙ (i ∙ ap (λ v. p ++ v) (dressed-push ru.old r t ts ∙ ap (λ v. dressed ru.old r ++ (v ∷ ts)) (ap (λ m. set_marks m t) eo ∙ set-own t))))

      step-back : effects s k (run_steps s at run (t ∷ ts) (n ∷ ns)) (p ++ (dress_new run r ++ (n ∷ ns))) ≡ p ++ (dress_old run r ++ (t ∷ ts))
      step-back = one (not (same_marks same_attrs old new)) (takes_marks s t) (continues run old new) refl refl refl

    back : (ts ns : List Token) → Back ts ns
    back [] [] p r run at h a = closed run p r [] at h
    back [] (n ∷ ns) p r run at h a = absurd a
    back (t ∷ ts) [] p r run at h a = absurd a
    back (t ∷ ts) (n ∷ ns) p r run at h a = step-back t n ts ns (back ts ns) p r run at h a

    -- the steps of the runs give the old tokens
    pub runs-back : (ts ns : List Token) → Alike (k ∷ []) ts ns → effects s k (run_steps s 0 None ts ns) ns ≡ ts
    runs-back ts ns a = back ts ns [] [] None 0 (refl, refl) a
