-- The steps of one run apply, in a loose schema: p and r are tokens of a valid document, and news are the new tokens after
-- them.
use Rattle.std.specs.Prelude.{◌≡◌, ℕ, ◌+◌, Bool, true, false, not, nat_le, cond, List, [], ◌∷◌, ◌++◌, map, length, Option, Some, None, Ok}
use Rattle.std.proofs.lemmas.Bool.{le-leb, and_parts, and_from}
use Rattle.std.proofs.lemmas.List.{length-map}
use Rattle.std.proofs.Common.{refl, ap, sym, ◌∙◌, subst, arith, append_assoc}
use Rattle.pm_change.specs.Changes.{fold, then_some}
use Rattle.pm_attrs.specs.Attrs.{same_attrs}
use Rattle.pm_marks.specs.Sets.{same_marks}
use Rattle.pm_marks.specs.declared.mark.Mark.{Mark}
use Rattle.pm_tokens.specs.Faults.{low_next, pair_fits, high_of, Valid}
use Rattle.pm_tokens.specs.Kids.{goes_on}
use Rattle.pm_tokens.specs.Loose.{IsLoose}
use Rattle.pm_tokens.specs.Marks.{is_set, have_attrs}
use Rattle.pm_tokens.specs.Scan.{head_of, unclosed, is_high, ends_high, parts_pair}
use Rattle.pm_tokens.specs.Schemas.{Schema, mark_attrs}
use Rattle.pm_tokens.specs.Tokens.{Token, Open, Close, Leaf, CodeUnit, Doc, with_tokens, marks_of, Attrs, Marks}
use Rattle.std.specs.Char.Utf16.{is_high_surrogate, is_low_surrogate}
use Rattle.pm_tokens.proofs.MarkLaws.{marks-itself}
use Rattle.pm_tokens.proofs.ValidLaws.{valid-tokens}
use Rattle.pm_tokens.proofs.PairLaws.{no-left, high-last}
use Rattle.pm_tokens.proofs.PartLaws.{Split, split-front, split-fronts, split-back, split-rest, split-length}
use Rattle.pm_tokens.proofs.ScanLaws.{unclosed-append}
use Rattle.pm_meaning.specs.Marked.{add, remove}
use Rattle.pm_meaning.specs.Meanings.{meaning}
use Rattle.pm_meaning.specs.Outcomes.{checked, in_order, parts_no_pair, outcome}
use Rattle.pm_meaning.specs.Runs.{range_steps}
use Rattle.pm_meaning.specs.declared.reason.Reason.TheVariants.{Range, Pair}
use Rattle.pm_meaning.specs.Steps.{Step, AddMark, RemoveMark}
use Rattle.pm_meaning.proofs.EffectLaws.{effect, after, dressed, are_run, all_allowed, allowed, after-set, unclosed-dressed, dress-removed, dress-added, remove-at, add-at}
use Rattle.pm_meaning.proofs.LooseLaws.{Shaped, Paired, remarked-checks}
use Rattle.pm_meaning.proofs.MarkStepLaws.{Fits, fits-front, doc-fits}
use Rattle.pm_meaning.proofs.MarkSuits.{marks_suit, suit-known, known-behind, fit-removed, fit-front}
use Rattle.pm_meaning.proofs.OutcomeLaws.{ok-unless, known-made}
use Rattle.pm_meaning.proofs.PairedLaws.{paired-of, paired-front}
use Rattle.pm_meaning.proofs.ReplaceLaws.{no-pair-at}
use Rattle.pm_meaning.proofs.RunLaws.{remove_each, removed-all, add-last}
use Rattle.pm_meaning.proofs.TokenMarks.{set_marks, set-own}

high-set : (ms : Marks) (t : Token) → is_high (set_marks ms t) ≡ is_high t
high-set ms (Open k a m) = refl
high-set ms Close = refl
high-set ms (Leaf k a m) = refl
high-set ms (CodeUnit u m) = refl

pub ends-dressed : (ms : Marks) (ts : List Token) → ends_high (dressed ms ts) ≡ ends_high ts
ends-dressed ms [] = refl
ends-dressed ms (t ∷ []) = high-set ms t
ends-dressed ms (t ∷ t₂ ∷ ts) = ends-dressed ms (t₂ ∷ ts)

pub shaped-self : (p ys zs : List Token) → Shaped ys zs → Shaped (p ++ ys) (p ++ zs)
shaped-self [] ys zs h = h
shaped-self (t ∷ p) ys zs h = (marks_of t, sym (set-own t), shaped-self p ys zs h)

pub shaped-dressed : (ms : Marks) (r ys zs : List Token) → Shaped ys zs → Shaped (r ++ ys) (dressed ms r ++ zs)
shaped-dressed ms [] ys zs h = h
shaped-dressed ms (t ∷ r) ys zs h = (ms, refl, shaped-dressed ms r ys zs h)

pub paired-rest : (t : Token) (high : Option Marks) (xs zs : List Token) → ends_high (t ∷ xs) ≡ false → Paired high (t ∷ (xs ++ zs)) → Paired None zs
paired-rest (Open k a m) high [] zs e p = p
paired-rest Close high [] zs e p = p
paired-rest (Leaf k a m) high [] zs e p = p
paired-rest (CodeUnit u m) high [] zs e p = subst (λ z. Paired z zs) (ap (λ b. cond b (Some m) None) e) p.1
paired-rest (Open k a m) high (x ∷ xs) zs e p = paired-rest x None xs zs e p
paired-rest Close high (x ∷ xs) zs e p = paired-rest x None xs zs e p
paired-rest (Leaf k a m) high (x ∷ xs) zs e p = paired-rest x None xs zs e p
paired-rest (CodeUnit u m) high (x ∷ xs) zs e p = paired-rest x (high_of (CodeUnit u m)) xs zs e p.1

pub front : (p ys zs : List Token) → ends_high p ≡ false → Paired None (p ++ zs) → (Paired None zs → Paired None ys) → Paired None (p ++ ys)
front [] ys zs e h f = f h
front (t ∷ p) ys zs e h f = paired-front t None p ys zs e h (f (paired-rest t None p zs e h))

-- a run of equal marks, with other equal marks
low-dressed : (o m : Marks) (t : Token) (xs ys : List Token) → low_next o (set_marks o t ∷ xs) ≡ true → low_next m (set_marks m t ∷ ys) ≡ true
low-dressed o m (Open k a n) xs ys h = absurd (cc)
low-dressed o m Close xs ys h = absurd (cc)
low-dressed o m (Leaf k a n) xs ys h = absurd (cc)
low-dressed o m (CodeUnit u n) xs ys h = and_from (is_low_surrogate u) (same_marks same_attrs m m) (and_parts (is_low_surrogate u) (same_marks same_attrs o o) h).0 (marks-itself m)

goes-dressed : (b : Bool) (o m : Marks) → goes_on (cond b (Some o) None) o ≡ true → goes_on (cond b (Some m) None) m ≡ true
goes-dressed true o m h = marks-itself m
goes-dressed false o m h = absurd (cc)

fits-unit : (u : ℕ) (b : Bool) (o m : Marks) (xs ys : List Token) → (low_next o xs ≡ true → low_next m ys ≡ true) → pair_fits (cond b (Some o) None) (CodeUnit u o) xs ≡ true → pair_fits (cond b (Some m) None) (CodeUnit u m) ys ≡ true
fits-unit u b o m xs ys f h = at (is_high_surrogate u) (is_low_surrogate u) h
  where
    at : (p q : Bool) → cond p (low_next o xs) (cond q (goes_on (cond b (Some o) None) o) true) ≡ true → cond p (low_next m ys) (cond q (goes_on (cond b (Some m) None) m) true) ≡ true
    at true q h = f h
    at false true h = goes-dressed b o m h
    at false false h = refl

last-unit : (u : ℕ) (b : Bool) (o m : Marks) (xs ys : List Token) → is_high_surrogate u ≡ false → pair_fits (cond b (Some o) None) (CodeUnit u o) xs ≡ true → pair_fits (cond b (Some m) None) (CodeUnit u m) ys ≡ true
last-unit u b o m xs ys e h = rw e (at (is_low_surrogate u) (let i : cond false (low_next o xs) (cond (is_low_surrogate u) (goes_on (cond b (Some o) None) o) true) ≡ true = subst (λ p. cond p (low_next o xs) (cond (is_low_surrogate u) (goes_on (cond b (Some o) None) o) true) ≡ true) e h in i))
  where
    at : (q : Bool) → cond q (goes_on (cond b (Some o) None) o) true ≡ true → cond q (goes_on (cond b (Some m) None) m) true ≡ true
    at true h = goes-dressed b o m h
    at false h = refl

paired-dressed : (o m : Marks) (t : Token) (b : Bool) (r olds news : List Token) → ends_high (t ∷ r) ≡ false → Paired (cond b (Some o) None) (dressed o (t ∷ r) ++ olds) → Paired None news → Paired (cond b (Some m) None) (dressed m (t ∷ r) ++ news)
paired-dressed o m (Open k a n) b [] olds news e h q = q
paired-dressed o m Close b [] olds news e h q = q
paired-dressed o m (Leaf k a n) b [] olds news e h q = q
paired-dressed o m (CodeUnit u n) b [] olds news e h q = (last-unit u b o m olds news e h.0, subst (λ z. Paired z news) (sym (ap (λ b. cond b (Some m) None) e)) q)
paired-dressed o m (Open k a n) b (x ∷ r) olds news e h q = paired-dressed o m x false r olds news e h q
paired-dressed o m Close b (x ∷ r) olds news e h q = paired-dressed o m x false r olds news e h q
paired-dressed o m (Leaf k a n) b (x ∷ r) olds news e h q = paired-dressed o m x false r olds news e h q
paired-dressed o m (CodeUnit u n) b (x ∷ r) olds news e h q = (
  fits-unit u b o m (dressed o (x ∷ r) ++ olds) (dressed m (x ∷ r) ++ news) (low-dressed o m x (dressed o r ++ olds) (dressed m r ++ news)) h.0,
  paired-dressed o m x (is_high_surrogate u) r olds news e h.1 q,
)

-- these marks fit at each of the tokens
abbrev pub FitAt : Schema → List ℕ → Marks → List Token → Type 0
FitAt s ps ms [] = Unit {0}
FitAt s ps ms (t ∷ ts) = (marks_suit s (head_of ps) ms ≡ true) × FitAt s (after ps t) ms ts

pub fit-each : (s : Schema) (ps : List ℕ) (a b : Marks) (ts : List Token) → ((parent : ℕ) → marks_suit s parent a ≡ true → marks_suit s parent b ≡ true) → FitAt s ps a ts → FitAt s ps b ts
fit-each s ps a b [] f h = tt
fit-each s ps a b (t ∷ ts) f h = (f (head_of ps) h.0, fit-each s (after ps t) a b ts f h.1)

fits-both : (s : Schema) (ps : List ℕ) (xs ys : List Token) → Fits s ps xs → Fits s (unclosed ps xs) ys → Fits s ps (xs ++ ys)
fits-both s ps [] ys h i = i
fits-both s ps (x ∷ xs) ys h i = (h.0, fits-both s (after ps x) xs ys h.1 (subst (λ z. Fits s z ys) (unclosed-append ps (x ∷ []) xs) i))

pub fits-set : (s : Schema) (p : ℕ) (ms : Marks) (t : Token) → marks_suit s p ms ≡ true → marks_suit s p (marks_of (set_marks ms t)) ≡ true
fits-set s p ms (Open k a m) h = h
fits-set s p ms Close h = refl
fits-set s p ms (Leaf k a m) h = h
fits-set s p ms (CodeUnit u m) h = h

fits-dressed : (s : Schema) (ps : List ℕ) (ms : Marks) (ts : List Token) → FitAt s ps ms ts → Fits s ps (dressed ms ts)
fits-dressed s ps ms [] h = tt
fits-dressed s ps ms (t ∷ ts) h = (fits-set s (head_of ps) ms t h.0, subst (λ z. Fits s z (dressed ms ts)) (sym (after-set ps ms t)) (fits-dressed s (after ps t) ms ts h.1))

pub ends-both : (p : List Token) (t : Token) (r : List Token) → ends_high (t ∷ r) ≡ false → ends_high (p ++ (t ∷ r)) ≡ false
ends-both p t r h = high-last p t r ∙ h

module _ (s : Schema) (l : IsLoose s) (d : Doc) (v : Valid s d) (p : List Token) (t : Token) (r olds news : List Token) (o : Marks)
    (ds : d.tokens ≡ p ++ (dressed o (t ∷ r) ++ olds)) (hp : ends_high p ≡ false) (hr : ends_high (t ∷ r) ≡ false)
    (sh : Shaped olds news) (fn : Fits s (unclosed (unclosed (d.kind ∷ []) p) (t ∷ r)) news) (pn : Paired None news)
    (from to : ℕ) (lp : length p ≡ from) (lr : from + length (t ∷ r) ≡ to) where
  abbrev ps : List ℕ
  ps = d.kind ∷ []

  abbrev mix : Marks → Doc
  mix cur = with_tokens d (p ++ (dressed cur (t ∷ r) ++ news))

  paired-doc : Paired None (p ++ (dressed o (t ∷ r) ++ olds))
  paired-doc = subst (λ z. Paired None z) ds (paired-of s ps None d.tokens (valid-tokens s d v))

  set-twice : (ms : Marks) (x : Token) → set_marks ms x ≡ set_marks ms (set_marks o x)
  set-twice ms (Open k a m) = refl
  set-twice ms Close = refl
  set-twice ms (Leaf k a m) = refl
  set-twice ms (CodeUnit u m) = refl

  dressed-twice : (ms : Marks) (xs : List Token) → dressed ms xs ≡ dressed ms (dressed o xs)
  dressed-twice ms [] = refl
  dressed-twice ms (x ∷ xs) = rw (sym (set-twice ms x), sym (dressed-twice ms xs)) refl

  pub mixed : (cur : Marks) → FitAt s (unclosed ps p) cur (t ∷ r) → checked s (mix cur) ≡ Ok (mix cur)
  mixed cur f =
      let shape : Shaped d.tokens (p ++ (dressed cur (t ∷ r) ++ news)) =
      subst (λ z. Shaped z (p ++ (dressed cur (t ∷ r) ++ news))) (sym ds)
      (shaped-self p (dressed o (t ∷ r) ++ olds) (dressed cur (t ∷ r) ++ news)
      (subst (λ z. Shaped (dressed o (t ∷ r) ++ olds) (z ++ news)) (sym (dressed-twice cur (t ∷ r))) (shaped-dressed cur (dressed o (t ∷ r)) olds news sh))) in
      let w : Fits s ps (p ++ (dressed o (t ∷ r) ++ olds)) = subst (Fits s ps) ds (doc-fits s d v) in
      let fit : Fits s ps (p ++ (dressed cur (t ∷ r) ++ news)) =
      fits-both s ps p (dressed cur (t ∷ r) ++ news) (fits-front s ps p (dressed o (t ∷ r) ++ olds) w)
      (fits-both s (unclosed ps p) (dressed cur (t ∷ r)) news (fits-dressed s (unclosed ps p) cur (t ∷ r) f)
      (subst (λ z. Fits s z news) (sym (unclosed-dressed (unclosed ps p) cur (t ∷ r))) fn)) in
      let pair : Paired None (p ++ (dressed cur (t ∷ r) ++ news)) =
      front p (dressed cur (t ∷ r) ++ news) (dressed o (t ∷ r) ++ olds) hp paired-doc (λ h. paired-dressed o cur t false r olds news hr h pn) in
      remarked-checks s l d (p ++ (dressed cur (t ∷ r) ++ news)) v shape fit pair

  here : (cur : Marks) → Split (p ++ (dressed cur (t ∷ r) ++ news)) p (dressed cur (t ∷ r)) news from to
  here cur = record { is = refl; at_from = lp; at_to = omega (arith, lr, length-map (t ∷ r) (set_marks cur)) }

  ordered : (cur : Marks) → in_order (from ∷ to ∷ []) (length (mix cur).tokens) ≡ true
  ordered cur = and_from (nat_le from to) _ (le-leb from to (omega (arith, lr))) (le-leb to (length (mix cur).tokens) (omega (arith, split-length (here cur))))

  unparted : (cur : Marks) → parts_no_pair (mix cur).tokens (from ∷ to ∷ []) ≡ true
  unparted cur =
      let x = (mix cur).tokens in
      and_from (not (parts_pair x from)) _ (no-pair-at x p (dressed cur (t ∷ r) ++ news) from (split-front (here cur)) (split-rest (here cur)) (no-left p (dressed cur (t ∷ r) ++ news) hp))
      (and_from (not (parts_pair x to)) true (no-pair-at x (p ++ dressed cur (t ∷ r)) news to (split-fronts (here cur)) (split-back (here cur))
      (no-left (p ++ dressed cur (t ∷ r)) news (ends-both p (set_marks cur t) (dressed cur r) (ends-dressed cur (t ∷ r) ∙ hr)))) refl)

  abbrev go : List Step → Doc → Option Doc
  go cs x = fold meaning s x cs

  module _ (run : are_run s (t ∷ r) ≡ true) where
    remove-applies : (m : Mark Attrs) (cur : Marks) → mark_attrs s m.kind m.attrs ≡ true → FitAt s (unclosed ps p) cur (t ∷ r) → outcome s (RemoveMark from to m) (mix cur) ≡ Ok (mix (remove m cur))
    remove-applies m cur kn f =
        let e : effect s d.kind (RemoveMark from to m) (mix cur).tokens ≡ (mix (remove m cur)).tokens =
        remove-at s d.kind (here cur) m ∙ ap (λ z. p ++ (z ++ news)) (dress-removed s m (unclosed ps p) cur (t ∷ r) run) in
        known-made s (RemoveMark from to m) (mix cur) kn ∙ ok-unless _ Range _ (mix (remove m cur)) (ordered cur) (ok-unless _ Pair _ (mix (remove m cur)) (unparted cur)
        (subst (λ z. checked s (with_tokens d z) ≡ Ok (mix (remove m cur))) (sym e) (mixed (remove m cur) (fit-each s (unclosed ps p) cur (remove m cur) (t ∷ r) (λ q h. fit-removed s q m cur h) f))))

    add-applies : (m : Mark Attrs) (cur : Marks) → mark_attrs s m.kind m.attrs ≡ true → FitAt s (unclosed ps p) (add s m cur) (t ∷ r) → allowed s (unclosed ps p) m (t ∷ r) ≡ true → outcome s (AddMark from to m) (mix cur) ≡ Ok (mix (add s m cur))
    add-applies m cur kn f a =
        let e : effect s d.kind (AddMark from to m) (mix cur).tokens ≡ (mix (add s m cur)).tokens =
        add-at s d.kind (here cur) m ∙ ap (λ z. p ++ (z ++ news)) (dress-added s m (unclosed ps p) cur (t ∷ r) run a) in
        known-made s (AddMark from to m) (mix cur) kn ∙ ok-unless _ Range _ (mix (add s m cur)) (ordered cur) (ok-unless _ Pair _ (mix (add s m cur)) (unparted cur)
        (subst (λ z. checked s (with_tokens d z) ≡ Ok (mix (add s m cur))) (sym e) (mixed (add s m cur) f)))

    removes-apply : (ms cur : Marks) (rest : List Step) → have_attrs s ms ≡ true → FitAt s (unclosed ps p) cur (t ∷ r) → go (map (λ m. RemoveMark from to m) ms ++ rest) (mix cur) ≡ go rest (mix (remove_each ms cur))
    removes-apply [] cur rest kn f = refl
    removes-apply (m ∷ ms) cur rest kn f =
        let k = and_parts (mark_attrs s m.kind m.attrs) (have_attrs s ms) kn in
        ap (λ z. then_some meaning s z (λ x. go (map (λ m. RemoveMark from to m) ms ++ rest) x)) (remove-applies m cur k.0 f)
        ∙ removes-apply ms (remove m cur) rest k.1 (fit-each s (unclosed ps p) cur (remove m cur) (t ∷ r) (λ q h. fit-removed s q m cur h) f)

    adds-apply : (ms cur : Marks) (rest : List Step) → is_set s (cur ++ ms) ≡ true → FitAt s (unclosed ps p) (cur ++ ms) (t ∷ r) → all_allowed s (unclosed ps p) ms (t ∷ r) ≡ true
        → go (map (λ m. AddMark from to m) ms ++ rest) (mix cur) ≡ go rest (mix (cur ++ ms))
    adds-apply [] cur rest w f a = ap (λ z. go rest (mix z)) (nil cur)
      where
        nil : (xs : Marks) → xs ≡ xs ++ []
        nil [] = refl
        nil (x ∷ xs) = ap (λ z. x ∷ z) (nil xs)
    adds-apply (m ∷ ms) cur rest w f a =
        let b = and_parts (allowed s (unclosed ps p) m (t ∷ r)) (all_allowed s (unclosed ps p) ms (t ∷ r)) a in
        let e : add s m cur ≡ cur ++ (m ∷ []) = add-last s m cur ms w in
        let k : cur ++ (m ∷ ms) ≡ (cur ++ (m ∷ [])) ++ ms = sym (append_assoc cur (m ∷ []) ms) in
        let g : FitAt s (unclosed ps p) ((cur ++ (m ∷ [])) ++ ms) (t ∷ r) = subst (λ z. FitAt s (unclosed ps p) z (t ∷ r)) k f in
        let h : FitAt s (unclosed ps p) (add s m cur) (t ∷ r) = subst (λ z. FitAt s (unclosed ps p) z (t ∷ r)) (sym e) (fit-each s (unclosed ps p) ((cur ++ (m ∷ [])) ++ ms) (cur ++ (m ∷ [])) (t ∷ r) (λ q h. fit-front s q (cur ++ (m ∷ [])) ms h) g) in
        let n = and_parts (mark_attrs s m.kind m.attrs) (have_attrs s ms) (known-behind s cur (m ∷ ms) (suit-known s (head_of (unclosed ps p)) (cur ++ (m ∷ ms)) f.0)) in
        ap (λ z. then_some meaning s z (λ x. go (map (λ m. AddMark from to m) ms ++ rest) x)) (add-applies m cur n.0 h b.0)
        ∙ (ap (λ z. go (map (λ m. AddMark from to m) ms ++ rest) (mix z)) e
        ∙ (adds-apply ms (cur ++ (m ∷ [])) rest (subst (λ z. is_set s z ≡ true) k w) g b.1 ∙ ap (λ z. go rest (mix z)) (sym k)))

    -- the steps of a run apply, and the run has its old marks then
    pub run-applies : (new : Marks) (rest : List Step) → is_set s o ≡ true → FitAt s (unclosed ps p) new (t ∷ r) → FitAt s (unclosed ps p) o (t ∷ r) → all_allowed s (unclosed ps p) o (t ∷ r) ≡ true
        → go (range_steps from to o new ++ rest) (mix new) ≡ go rest (mix o)
    run-applies new rest w fn fo a =
        ap (λ z. go z (mix new)) (append_assoc (map (λ m. RemoveMark from to m) new) (map (λ m. AddMark from to m) o) rest)
        ∙ (removes-apply new new (map (λ m. AddMark from to m) o ++ rest) (suit-known s (head_of (unclosed ps p)) new fn.0) fn
        ∙ (ap (λ z. go (map (λ m. AddMark from to m) o ++ rest) (mix z)) (removed-all new) ∙ adds-apply o [] rest w fo a))
