-- In a loose schema the list of steps that gives the marks of a document back applies, run by run. A border of a run never
-- parts a pair: the two halves had equal marks and have equal marks, so they stand in one run or in none.
use Rattle.std.specs.Prelude.{◌≡◌, ℕ, ◌+◌, ◌<◌, ◌⊎◌, Bool, true, false, not, List, [], ◌∷◌, ◌++◌, length, Option, Some, None}
use Rattle.std.proofs.lemmas.List.{append-nil}
use Rattle.std.proofs.Common.{suc, refl, ap, sym, ◌∙◌, subst, arith, inl, inr, append_assoc, length-append}
use Rattle.pm_attrs.specs.Attrs.{same_attrs}
use Rattle.pm_marks.specs.Sets.{same_marks}
use Rattle.pm_change.specs.Changes.{fold}
use Rattle.pm_tokens.specs.Tokens.{Marks, Token, Open, Close, Leaf, CodeUnit, Doc, with_tokens, marks_of}
use Rattle.pm_tokens.specs.Schemas.{Schema}
use Rattle.pm_tokens.specs.Scan.{head_of, unclosed, ends_high}
use Rattle.pm_tokens.specs.Marks.{is_set}
use Rattle.pm_tokens.specs.Faults.{low_next, Valid}
use Rattle.pm_tokens.specs.Loose.{IsLoose}
use Rattle.pm_tokens.proofs.ScanLaws.{unclosed-append}
use Rattle.pm_tokens.proofs.PairLaws.{true-false, high-last}
use Rattle.pm_tokens.proofs.MarkLaws.{marks-equal, marks-itself}
use Rattle.pm_meaning.specs.Steps.{Step}
use Rattle.pm_meaning.specs.Marked.{takes_marks}
use Rattle.pm_meaning.specs.Runs.{Run, node_steps, close_run, continues, next_run, due, run_steps}
use Rattle.pm_meaning.specs.Meanings.{meaning}
use Rattle.pm_meaning.proofs.TokenMarks.{set_marks, set-own}
use Rattle.pm_meaning.proofs.MarkSuits.{are_suited, marks_suit}
use Rattle.pm_meaning.proofs.EffectLaws.{after, dressed, are_run, all_allowed, unclosed-dressed, Alike, is_node, node-of, not-not, allowed-one, all-allowed-push, run-push, dressed-push, dress_new, dress_old}
use Rattle.pm_meaning.proofs.MarkStepLaws.{Fits}
use Rattle.pm_meaning.proofs.LooseLaws.{Shaped, Paired, paired-token}
use Rattle.pm_meaning.proofs.MixedLaws.{FitAt, ends-dressed, run-applies}
use Rattle.pm_meaning.proofs.MixedNodes.{node-applies}
use Rattle.pm_meaning.proofs.HalvedPairs.{Clear, Agrees, Halved, Link, is_unit, next-link, half-of}
use Rattle.std.proofs.lemmas.Bool.{and_parts, and_from}

fit-one : (s : Schema) (ps : List ℕ) (ms : Marks) (t : Token) → marks_suit s (head_of ps) ms ≡ true → FitAt s ps ms (t ∷ [])
fit-one s ps ms t h = (h, tt)

fit-push : (s : Schema) (ps : List ℕ) (ms : Marks) (r : List Token) (t : Token) → FitAt s ps ms r → marks_suit s (head_of (unclosed ps r)) ms ≡ true → FitAt s ps ms (r ++ (t ∷ []))
fit-push s ps ms [] t h i = (i, tt)
fit-push s ps ms (x ∷ r) t h i =
    (h.0, fit-push s (after ps x) ms r t h.1 (subst (λ z. marks_suit s (head_of z) ms ≡ true) (unclosed-append ps (x ∷ []) r) i))

module _ (s : Schema) (l : IsLoose s) (d : Doc) (v : Valid s d) where
  abbrev k : ℕ
  k = d.kind

  abbrev under : List Token → List ℕ
  under p = unclosed (k ∷ []) p

  -- a run that stands after p, with the tokens r up to a position
  record Running (run : Run) (p r : List Token) (at : ℕ) : Type 0 where
    pub starts : length p ≡ run.start
    pub stops : run.start + length r ≡ at
    pub some : 0 < length r
    pub runs : are_run s r ≡ true
    pub allowed : all_allowed s (under p) run.old r ≡ true
    pub old_set : is_set s run.old ≡ true
    pub old_fits : FitAt s (under p) run.old r
    pub new_fits : FitAt s (under p) run.new r
    pub clear : ends_high p ≡ false
    pub differ : same_marks same_attrs run.old run.new ≡ false

  -- what stands before the position: p, and then the tokens r of the run
  abbrev Stands : Option Run → List Token → List Token → ℕ → Type 0
  Stands None p r at = (r ≡ []) × (length p ≡ at)
  Stands (Some run) p r at = Running run p r at

  abbrev was : Option Run → List Token → List Token
  was run r = dress_old s k run r

  abbrev is : Option Run → List Token → List Token
  is run r = dress_new s k run r

  abbrev go : List Step → Doc → Option Doc
  go cs x = fold meaning s x cs

  stands-length : (run : Option Run) (p r : List Token) (at : ℕ) → Stands run p r at → length (p ++ was run r) ≡ at
  stands-length None p r at h = ap length (append-nil p) ∙ h.1
  stands-length (Some run) p r at h = omega (arith, h.starts, h.stops, length-append p (dressed run.old r), length-dressed run.old r)
    where
      length-dressed : (ms : Marks) (ts : List Token) → length (dressed ms ts) ≡ length ts
      length-dressed ms [] = refl
      length-dressed ms (t ∷ ts) = ap suc (length-dressed ms ts)

  stands-under : (run : Option Run) (p r : List Token) (at : ℕ) → Stands run p r at → under (p ++ was run r) ≡ unclosed (under p) r
  stands-under None p r at h = unclosed-append (k ∷ []) p [] ∙ ap (unclosed (under p)) (sym h.0)
  stands-under (Some run) p r at h = unclosed-append (k ∷ []) p (dressed run.old r) ∙ unclosed-dressed (under p) run.old r

  ends-same : (p xs ys : List Token) → ends_high xs ≡ ends_high ys → 0 < length xs → 0 < length ys → ends_high (p ++ xs) ≡ ends_high (p ++ ys)
  ends-same p [] ys h i j = absurd (omega (arith, i))
  ends-same p (x ∷ xs) [] h i j = absurd (omega (arith, j))
  ends-same p (x ∷ xs) (y ∷ ys) h i j = high-last p x xs ∙ (h ∙ sym (high-last p y ys))

  dressed-some : (ms : Marks) (r : List Token) → 0 < length r → 0 < length (dressed ms r)
  dressed-some ms [] h = h
  dressed-some ms (x ∷ r) h = omega arith

  stands-ends : (run : Option Run) (p r : List Token) (at : ℕ) → Stands run p r at → ends_high (p ++ was run r) ≡ ends_high (p ++ r)
  stands-ends None p r at h = ap (λ z. ends_high (p ++ z)) (sym h.0)
  stands-ends (Some run) p r at h = ends-same p (dressed run.old r) r (ends-dressed run.old r) (dressed-some run.old r h.some) h.some

  -- the steps of the run apply, if there is one
  closing : (run : Option Run) (p r : List Token) (at : ℕ) (olds news : List Token) (rest : List Step) → Stands run p r at → d.tokens ≡ p ++ (was run r ++ olds)
      → ((z : Run) → run ≡ Some z → Clear (p ++ r) olds news) → Shaped olds news → Fits s (unclosed (under p) r) news
      → go (close_run run at ++ rest) (with_tokens d (p ++ (is run r ++ news))) ≡ go rest (with_tokens d (p ++ (was run r ++ news)))
  closing None p r at olds news rest h ds e sh fn = refl
  closing (Some run) p [] at olds news rest h ds e sh fn = absurd (omega (arith, h.some))
  closing (Some run) p (x ∷ r) at olds news rest h ds e sh fn =
      let c = e run refl in
      run-applies s l d v p x r olds news run.old ds h.clear (sym (high-last p x r) ∙ c.ends) sh fn c.new_paired run.start at h.starts h.stops h.runs run.new rest h.old_set h.new_fits h.old_fits h.allowed

  alike-shaped : (ps : List ℕ) (ts ns : List Token) → Alike s k ps ts ns → Shaped ts ns
  alike-shaped ps [] [] h = tt
  alike-shaped ps [] (n ∷ ns) h = absurd h
  alike-shaped ps (t ∷ ts) [] h = absurd h
  alike-shaped ps (t ∷ ts) (n ∷ ns) h = (marks_of n, h.0, alike-shaped (after ps t) ts ns h.2)

  after-same : (ps : List ℕ) (t n : Token) → n ≡ set_marks (marks_of n) t → after ps n ≡ after ps t
  after-same ps (Open j a m) n e = ap (after ps) e
  after-same ps Close n e = ap (after ps) e
  after-same ps (Leaf j a m) n e = ap (after ps) e
  after-same ps (CodeUnit u m) n e = ap (after ps) e

  -- from here on the steps apply, and give the document back
  abbrev GivesBack : List Token → List Token → Type 0
  GivesBack ts ns = (p r : List Token) (run : Option Run) (at : ℕ) → Stands run p r at → d.tokens ≡ p ++ (was run r ++ ts)
      → Alike s k (unclosed (under p) r) ts ns → Fits s (unclosed (under p) r) ns → Link run (p ++ r) ts ns
      → go (run_steps s at run ts ns) (with_tokens d (p ++ (is run r ++ ns))) ≡ Some d

  module _ (t n : Token) (ts ns : List Token) (ih : GivesBack ts ns) (p r : List Token) (run : Option Run) (at : ℕ) (st : Stands run p r at) (ds : d.tokens ≡ p ++ (was run r ++ (t ∷ ts)))
      (al : Alike s k (unclosed (under p) r) (t ∷ ts) (n ∷ ns)) (fi : Fits s (unclosed (under p) r) (n ∷ ns)) (li : Link run (p ++ r) (t ∷ ts) (n ∷ ns)) where
    abbrev old : Marks
    old = marks_of t

    abbrev new : Marks
    new = marks_of n

    abbrev so_far : List Token
    so_far = p ++ was run r

    abbrev ps : List ℕ
    ps = unclosed (under p) r

    so-under : under so_far ≡ ps
    so-under = stands-under run p r at st

    so-tokens : d.tokens ≡ so_far ++ (t ∷ ts)
    so-tokens = ds ∙ sym (append_assoc p (was run r) (t ∷ ts))

    fits : (is_set s old ≡ true) × (are_suited s (head_of ps) old ≡ true)
    fits = and_parts (is_set s old) (are_suited s (head_of ps) old) al.1

    fits-next : Fits s (after ps t) ns
    fits-next = subst (λ z. Fits s z ns) (after-same ps t n al.0) fi.1

    pairs : (ru : Option Run) (q : List Token) → (is_unit t ≡ true → Agrees ru old new) → Link ru (q ++ (t ∷ [])) ts ns
    pairs ru q w = by li
      where
        by : Link run (p ++ r) (t ∷ ts) (n ∷ ns) → Link ru (q ++ (t ∷ [])) ts ns
        by (inl c) = next-link ru q t n None None ts ns al.0 w c.old_paired c.new_paired
        by (inr c) = next-link ru q t n (Some c.old) (Some c.new) ts ns al.0 w c.old_paired c.new_paired

    -- what a half of a pair tells of the run
    halved : Halved run (t ∷ ts) (n ∷ ns) → (takes_marks s t ≡ true)
        × (((run ≡ None) × (not (same_marks same_attrs old new) ≡ false)) ⊎ ((not (same_marks same_attrs old new) ≡ true) × (continues run old new ≡ true)))
    halved h =
        let f = half-of s t n ts ns h.old h.new al.0 h.old_low h.new_low in
        (f.takes, by run refl h.agrees st f.old_is f.new_is)
      where
        by : (ru : Option Run) → run ≡ ru → Agrees ru h.old h.new → Stands ru p r at → old ≡ h.old → new ≡ h.new
            → ((run ≡ None) × (not (same_marks same_attrs old new) ≡ false)) ⊎ ((not (same_marks same_attrs old new) ≡ true) × (continues run old new ≡ true))
        by None e a w x y = inl (e, ap not (ap (λ z. same_marks same_attrs z new) (x ∙ (a ∙ sym y)) ∙ marks-itself new))
        by (Some ru) e a w x y =
            let eo : ru.old ≡ old = a.0 ∙ sym x in
            let en : ru.new ≡ new = a.1 ∙ sym y in
            inr (
              ap not (ap (λ z. same_marks same_attrs z new) (sym eo) ∙ (ap (λ z. same_marks same_attrs ru.old z) (sym en) ∙ w.differ)),
              ap (λ z. continues z old new) e ∙ and_from (same_marks same_attrs ru.old old) (same_marks same_attrs ru.new new)
                  (ap (λ z. same_marks same_attrs ru.old z) (sym eo) ∙ marks-itself ru.old) (ap (λ z. same_marks same_attrs ru.new z) (sym en) ∙ marks-itself ru.new),
            )

    no-run : (z : Run) → run ≡ None → run ≡ Some z → ⊥
    no-run z e f = let g : ◌≡◌ {A = Option Run} None (Some z) = sym e ∙ f in absurd (cc)

    -- an unchanged token ends a run where no pair is parted
    clear-same : not (same_marks same_attrs old new) ≡ false → (z : Run) → run ≡ Some z → Clear (p ++ r) (t ∷ ts) (n ∷ ns)
    clear-same c z e = by li
      where
        by : Link run (p ++ r) (t ∷ ts) (n ∷ ns) → Clear (p ++ r) (t ∷ ts) (n ∷ ns)
        by (inl x) = x
        by (inr h) = elim (halved h).1 [ inl x ↦ absurd (no-run z x.0 e) | inr x ↦ true-false (not (same_marks same_attrs old new)) x.0 c ]

    -- and so does a changed one that is in no run, or begins one
    clear-changed : not (same_marks same_attrs old new) ≡ true → (takes_marks s t ≡ false) ⊎ (continues run old new ≡ false) → Clear (p ++ r) (t ∷ ts) (n ∷ ns)
    clear-changed c e = by li
      where
        by : Link run (p ++ r) (t ∷ ts) (n ∷ ns) → Clear (p ++ r) (t ∷ ts) (n ∷ ns)
        by (inl x) = x
        by (inr h) = elim (halved h).1 [
          | inl x ↦ true-false (not (same_marks same_attrs old new)) c x.1
          | inr x ↦ elim e [ inl y ↦ true-false (takes_marks s t) (halved h).0 y | inr y ↦ true-false (continues run old new) x.1 y ]
        ]

    shape : Shaped (t ∷ ts) (n ∷ ns)
    shape = alike-shaped ps (t ∷ ts) (n ∷ ns) al

    ended : (rest : List Step) → ((z : Run) → run ≡ Some z → Clear (p ++ r) (t ∷ ts) (n ∷ ns)) → go (close_run run at ++ rest) (with_tokens d (p ++ (is run r ++ (n ∷ ns)))) ≡ go rest (with_tokens d (so_far ++ (n ∷ ns)))
    ended rest c = closing run p r at (t ∷ ts) (n ∷ ns) rest st ds c shape fi ∙ ap (λ z. go rest (with_tokens d z)) (sym (append_assoc p (was run r) (n ∷ ns)))

    -- after a token that has its old marks
    fresh : (is_unit t ≡ true → old ≡ new) → go (run_steps s (at + 1) None ts ns) (with_tokens d (so_far ++ (t ∷ ns))) ≡ Some d
    fresh w =
        let p' = so_far ++ (t ∷ []) in
        let u : under p' ≡ after ps t = unclosed-append (k ∷ []) so_far (t ∷ []) ∙ ap (λ z. after z t) so-under in
        let e = ih p' [] None (at + 1) (refl, omega (arith, stands-length run p r at st, length-append so_far (t ∷ [])))
        (so-tokens ∙ sym (append_assoc so_far (t ∷ []) ts))
        (subst (λ z. Alike s k z ts ns) (sym u) al.2) (subst (λ z. Fits s z ns) (sym u) fits-next)
        (subst (λ z. Link None z ts ns) (sym (append-nil p')) (pairs None so_far w)) in
        ap (λ z. go (run_steps s (at + 1) None ts ns) (with_tokens d z)) (sym (append_assoc so_far (t ∷ []) ns)) ∙ e

    node-facts : is_node s k t ≡ true → (is_unit t ≡ false) × (ends_high (t ∷ []) ≡ false) × (Paired None (n ∷ ns) → Paired None ns)
    node-facts h = by t h al.0
      where
        by : (x : Token) → is_node s k x ≡ true → n ≡ set_marks new x → (is_unit x ≡ false) × (ends_high (x ∷ []) ≡ false) × (Paired None (n ∷ ns) → Paired None ns)
        by (Open j a m) h e = (refl, refl, λ q. (paired-token None (Open j a new) ns (subst (λ z. Paired None (z ∷ ns)) e q)).1)
        by Close h e = absurd (cc)
        by (Leaf j a m) h e = (refl, refl, λ q. (paired-token None (Leaf j a new) ns (subst (λ z. Paired None (z ∷ ns)) e q)).1)
        by (CodeUnit u m) h e = absurd (cc)

    noded : is_node s k t ≡ true → Clear (p ++ r) (t ∷ ts) (n ∷ ns) → (rest : List Step) → go (node_steps at old new ++ rest) (with_tokens d (so_far ++ (n ∷ ns))) ≡ go rest (with_tokens d (so_far ++ (t ∷ ns)))
    noded h c rest =
        let f = node-facts h in
        let hp : ends_high so_far ≡ false = stands-ends run p r at st ∙ c.ends in
        let tokens : d.tokens ≡ so_far ++ (set_marks old t ∷ ts) = so-tokens ∙ ap (λ z. so_far ++ (z ∷ ts)) (sym (set-own t)) in
        let fn : Fits s (unclosed (under so_far) (t ∷ [])) ns = subst (λ z. Fits s (after z t) ns) (sym so-under) fits-next in
        let wn : marks_suit s (head_of (under so_far)) new ≡ true = subst (λ z. marks_suit s (head_of z) new ≡ true) (sym so-under) fi.0 in
        let wo : marks_suit s (head_of (under so_far)) old ≡ true = subst (λ z. marks_suit s (head_of z) old ≡ true) (sym so-under) al.1 in
        ap (λ z. go (node_steps at old new ++ rest) (with_tokens d (so_far ++ (z ∷ ns)))) al.0
        ∙ (node-applies s l d v so_far t ts ns old tokens hp f.1 shape.2 fn (f.2 c.new_paired) at (stands-length run p r at st) h new rest fits.0 wn wo
        ∙ ap (λ z. go rest (with_tokens d (so_far ++ (z ∷ ns)))) (set-own t))

    begun : takes_marks s t ≡ true → not (same_marks same_attrs old new) ≡ true → Clear (p ++ r) (t ∷ ts) (n ∷ ns)
        → go (run_steps s (at + 1) (Some (record { start = at; old = old; new = new })) ts ns) (with_tokens d (so_far ++ (n ∷ ns))) ≡ Some d
    begun b c cl =
        let ru : Run = record { start = at; old = old; new = new } in
        let running : Running ru so_far (t ∷ []) (at + 1) = record {
          starts = stands-length run p r at st;
          stops = refl;
          some = omega arith;
          runs = and_from (takes_marks s t) true b refl;
          allowed = subst (λ z. all_allowed s z old (t ∷ []) ≡ true) (sym so-under) (allowed-one s k ps t old fits.1);
          old_set = fits.0;
          old_fits = (subst (λ z. marks_suit s (head_of z) old ≡ true) (sym so-under) al.1, tt);
          new_fits = (subst (λ z. marks_suit s (head_of z) new ≡ true) (sym so-under) fi.0, tt);
          clear = stands-ends run p r at st ∙ cl.ends;
          differ = not-one (same_marks same_attrs old new) c;
        } in
        ap (λ z. go (run_steps s (at + 1) (Some ru) ts ns) (with_tokens d (so_far ++ (z ∷ ns)))) al.0
        ∙ ih so_far (t ∷ []) (Some ru) (at + 1) running (so-tokens ∙ ap (λ z. so_far ++ (z ∷ ts)) (sym (set-own t)))
        (subst (λ z. Alike s k (after z t) ts ns) (sym so-under) al.2) (subst (λ z. Fits s (after z t) ns) (sym so-under) fits-next) (pairs (Some ru) so_far (λ _. (refl, refl)))
      where
        not-one : (b : Bool) → not b ≡ true → b ≡ false
        not-one true h = absurd (cc)
        not-one false h = refl

    gone-on : takes_marks s t ≡ true → continues run old new ≡ true → go (run_steps s (at + 1) run ts ns) (with_tokens d (p ++ (is run r ++ (n ∷ ns)))) ≡ Some d
    gone-on b o = by run refl st o ds
      where
        by : (ru : Option Run) → run ≡ ru → Stands ru p r at → continues ru old new ≡ true → d.tokens ≡ p ++ (was ru r ++ (t ∷ ts)) → go (run_steps s (at + 1) run ts ns) (with_tokens d (p ++ (is run r ++ (n ∷ ns)))) ≡ Some d
        by None e w c x = absurd (cc)
        by (Some ru) e w c x =
            let parts = and_parts (same_marks same_attrs ru.old old) (same_marks same_attrs ru.new new) c in
            let eo = marks-equal ru.old old parts.0 in
            let en = marks-equal ru.new new parts.1 in
            let to : unclosed (under p) (r ++ (t ∷ [])) ≡ after ps t = unclosed-append (under p) r (t ∷ []) in
            let running : Running ru p (r ++ (t ∷ [])) (at + 1) = record {
              starts = w.starts;
              stops = omega (arith, w.stops, length-append r (t ∷ []));
              some = omega (arith, w.some, length-append r (t ∷ []));
              runs = run-push s k r t w.runs b;
              allowed = all-allowed-push s k (under p) ru.old r t w.allowed (subst (λ z. are_suited s (head_of ps) z ≡ true) (sym eo) fits.1);
              old_set = w.old_set;
              old_fits = fit-push s (under p) ru.old r t w.old_fits (subst (λ z. marks_suit s (head_of ps) z ≡ true) (sym eo) al.1);
              new_fits = fit-push s (under p) ru.new r t w.new_fits (subst (λ z. marks_suit s (head_of ps) z ≡ true) (sym en) fi.0);
              clear = w.clear;
              differ = w.differ;
            } in
            let tokens : d.tokens ≡ p ++ (dressed ru.old (r ++ (t ∷ [])) ++ ts) =
            x ∙ ap (λ z. p ++ z) (ap (λ z. dressed ru.old r ++ (z ∷ ts)) (sym (set-own t) ∙ ap (λ m. set_marks m t) (sym eo)) ∙ sym (dressed-push s k ru.old r t ts)) in
            let link : Link (Some ru) (p ++ (r ++ (t ∷ []))) ts ns = subst (λ z. Link (Some ru) z ts ns) (append_assoc p r (t ∷ [])) (pairs (Some ru) (p ++ r) (λ _. (eo, en))) in
            rw e
            (ap (λ z. go (run_steps s (at + 1) (Some ru) ts ns) (with_tokens d (p ++ z))) (ap (λ z. dressed ru.new r ++ (z ∷ ns)) (al.0 ∙ ap (λ m. set_marks m t) (sym en)) ∙ sym (dressed-push s k ru.new r t ns))
            ∙ ih p (r ++ (t ∷ [])) (Some ru) (at + 1) running tokens (subst (λ z. Alike s k z ts ns) (sym to) al.2) (subst (λ z. Fits s z ns) (sym to) fits-next) link)

    one : (c b o : Bool) → not (same_marks same_attrs old new) ≡ c → takes_marks s t ≡ b → continues run old new ≡ o
        → go (due c b o run at old new ++ run_steps s (at + 1) (next_run c b o run at old new) ts ns) (with_tokens d (p ++ (is run r ++ (n ∷ ns)))) ≡ Some d
    one false b o x y z =
        let marks : old ≡ new = marks-equal old new (not-not s k (same_marks same_attrs old new) x) in
        let same : n ≡ t = al.0 ∙ (ap (λ m. set_marks m t) (sym marks) ∙ set-own t) in
        ended (run_steps s (at + 1) None ts ns) (clear-same x)
        ∙ (ap (λ m. go (run_steps s (at + 1) None ts ns) (with_tokens d (so_far ++ (m ∷ ns)))) same ∙ fresh (λ _. marks))
    one true false o x y z =
        let is_one = node-of s k t n al.0 x y in
        let c = clear-changed x (inl y) in
        let rest = run_steps s (at + 1) None ts ns in
        ap (λ m. go m (with_tokens d (p ++ (is run r ++ (n ∷ ns))))) (append_assoc (close_run run at) (node_steps at old new) rest)
        ∙ (ended (node_steps at old new ++ rest) (λ z e. c)
        ∙ (noded is_one c rest ∙ fresh (λ u. true-false (is_unit t) u (node-facts is_one).0)))
    one true true false x y z =
        let c = clear-changed x (inr z) in
        ended (run_steps s (at + 1) (Some (record { start = at; old = old; new = new })) ts ns) (λ w e. c) ∙ begun y x c
    one true true true x y z = gone-on y z

    step : go (run_steps s at run (t ∷ ts) (n ∷ ns)) (with_tokens d (p ++ (is run r ++ (n ∷ ns)))) ≡ Some d
    step = one (not (same_marks same_attrs old new)) (takes_marks s t) (continues run old new) refl refl refl

  clear-end : (run : Option Run) (q : List Token) → Link run q [] [] → Clear q [] []
  clear-end run q (inl c) = c
  clear-end run q (inr h) = let x : low_next h.old [] ≡ true = h.old_low in absurd (cc)

  gives : (ts ns : List Token) → GivesBack ts ns
  gives [] [] p r run at st ds al fi li =
      let end : go (close_run run at ++ []) (with_tokens d (p ++ (is run r ++ []))) ≡ Some d =
      closing run p r at [] [] [] st ds (λ z e. clear-end run (p ++ r) li) tt fi ∙ ap (λ z. Some (with_tokens d z)) (sym ds) in
      ap (λ z. go z (with_tokens d (p ++ (is run r ++ [])))) (sym (append-nil (close_run run at))) ∙ end
  gives [] (n ∷ ns) p r run at st ds al fi li = absurd al
  gives (t ∷ ts) [] p r run at st ds al fi li = absurd al
  gives (t ∷ ts) (n ∷ ns) p r run at st ds al fi li = step t n ts ns (gives ts ns) p r run at st ds al fi li

  -- the steps of the runs apply to the document with the new marks, and give the old document
  pub runs-apply : (ns : List Token) → Alike s k (k ∷ []) d.tokens ns → Fits s (k ∷ []) ns → Paired None d.tokens → Paired None ns → fold meaning s (with_tokens d ns) (run_steps s 0 None d.tokens ns) ≡ Some d
  runs-apply ns al fi x y = gives d.tokens ns [] [] None 0 (refl, refl) refl al fi (inl (record { ends = refl; old_paired = x; new_paired = y }))
