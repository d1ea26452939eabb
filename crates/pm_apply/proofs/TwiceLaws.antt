-- Marks changed and changed back: whether the tokens are the old ones.
use Rattle.std.specs.Prelude.{◌≡◌, ℕ, ◌-◌, ◌≤◌, ◌<◌, Bool, true, false, ◌&&◌, List, [], ◌∷◌, ◌++◌, length, take, drop}
use Rattle.std.proofs.Common.{zero, suc, refl, ap, sym, ◌∙◌, arith}
use Rattle.pm_attrs.specs.Attrs.{same_attrs}
use Rattle.pm_marks.specs.Sets.{same_marks}
use Rattle.pm_tokens.specs.Tokens.{Attrs, Marks, Token, Open, Close, Leaf, CodeUnit}
use Rattle.pm_tokens.specs.Kids.{text_tokens}
use Rattle.pm_tokens.specs.Faults.{under}
use Rattle.pm_tokens.specs.Scan.{Balanced, head_of, is_high, ends_high, starts_low, parts_pair}
use Rattle.pm_tokens.specs.Schemas.{Schema}
use Rattle.pm_tokens.proofs.MarkLaws.{marks-equal}
use Rattle.pm_meaning.specs.Inverses.{same_token, same_tokens}
use Rattle.pm_step.specs.declared.marking.Marking.{Marking}
use Rattle.pm_apply.specs.declared.marking.Reach.TheVariants.{Inline}
use Rattle.pm_apply.specs.Markings.{marked_in, new_marks}
use Rattle.pm_apply.specs.Backs.{marked_twice, twice}
use Rattle.pm_apply.proofs.MarkedLaws.{read, read-is, read-nodes, read-node, read-length, in_range, remarked}
use Rattle.pm_apply.proofs.SameTokens.{and-yes-right, open-same, leaf-same, unit-same, token-itself, tokens-itself, same-append}
use Rattle.pm_tokens.proofs.PairLaws.{and-right}
use Rattle.std.proofs.lemmas.Bool.{and_from}

-- ---- what a change of marks keeps

module _ (f : ℕ → Token → Marks → Marks) where
  pub under-in : (from to : ℕ) (ps qs : List ℕ) (t : Token) → under qs (in_range f from to ps t) ≡ under qs t
  under-in zero zero ps qs t = refl
  under-in zero (suc to) ps qs (Open k a m) = refl
  under-in zero (suc to) ps qs Close = refl
  under-in zero (suc to) ps qs (Leaf k a m) = refl
  under-in zero (suc to) ps qs (CodeUnit u m) = refl
  under-in (suc from) to ps qs t = refl

  high-kept : (from to : ℕ) (ps : List ℕ) (t : Token) → is_high (in_range f from to ps t) ≡ is_high t
  high-kept zero zero ps t = refl
  high-kept zero (suc to) ps (Open k a m) = refl
  high-kept zero (suc to) ps Close = refl
  high-kept zero (suc to) ps (Leaf k a m) = refl
  high-kept zero (suc to) ps (CodeUnit u m) = refl
  high-kept (suc from) to ps t = refl

  low-kept : (from to : ℕ) (ps : List ℕ) (t : Token) (xs ys : List Token) → starts_low (in_range f from to ps t ∷ xs) ≡ starts_low (t ∷ ys)
  low-kept zero zero ps (Open k a m) xs ys = refl
  low-kept zero zero ps Close xs ys = refl
  low-kept zero zero ps (Leaf k a m) xs ys = refl
  low-kept zero zero ps (CodeUnit u m) xs ys = refl
  low-kept zero (suc to) ps (Open k a m) xs ys = refl
  low-kept zero (suc to) ps Close xs ys = refl
  low-kept zero (suc to) ps (Leaf k a m) xs ys = refl
  low-kept zero (suc to) ps (CodeUnit u m) xs ys = refl
  low-kept (suc from) to ps (Open k a m) xs ys = refl
  low-kept (suc from) to ps Close xs ys = refl
  low-kept (suc from) to ps (Leaf k a m) xs ys = refl
  low-kept (suc from) to ps (CodeUnit u m) xs ys = refl

  read-take : (ps : List ℕ) (from to p : ℕ) (ts : List Token) → take p (read f ps from to ts) ≡ read f ps from to (take p ts)
  read-take ps from to zero ts = refl
  read-take ps from to (suc p) [] = refl
  read-take ps from to (suc p) (t ∷ ts) = ap (λ z. in_range f from to ps t ∷ z) (read-take (under ps t) (from - 1) (to - 1) p ts)

  ends-kept : (ps : List ℕ) (from to : ℕ) (ts : List Token) → ends_high (read f ps from to ts) ≡ ends_high ts
  ends-kept ps from to [] = refl
  ends-kept ps from to (t ∷ []) = high-kept from to ps t
  ends-kept ps from to (t ∷ u ∷ ts) = ends-kept (under ps t) (from - 1) (to - 1) (u ∷ ts)

  starts-kept : (ps : List ℕ) (from to p : ℕ) (ts : List Token) → starts_low (drop p (read f ps from to ts)) ≡ starts_low (drop p ts)
  starts-kept ps from to zero [] = refl
  starts-kept ps from to zero (t ∷ ts) = low-kept from to ps t (read f (under ps t) (from - 1) (to - 1) ts) ts
  starts-kept ps from to (suc p) [] = refl
  starts-kept ps from to (suc p) (t ∷ ts) = starts-kept (under ps t) (from - 1) (to - 1) p ts

  -- a position parts a pair afterwards where it did before
  pub pairs-kept : (ps : List ℕ) (from to p : ℕ) (ts : List Token) → parts_pair (read f ps from to ts) p ≡ parts_pair ts p
  pairs-kept ps from to p ts =
      ap (λ z. ends_high z && starts_low (drop p (read f ps from to ts))) (read-take ps from to p ts)
      ∙ (ap (λ z. z && starts_low (drop p (read f ps from to ts))) (ends-kept ps from to (take p ts))
      ∙ ap (λ z. ends_high (take p ts) && z) (starts-kept ps from to p ts))

-- ---- one change after another

module _ (s : Schema) (m b : Marking) where
  remarked-twice : (ps : List ℕ) (t : Token) → remarked (new_marks s b Inline) ps (remarked (new_marks s m Inline) ps t) ≡ remarked (twice s m b) ps t
  remarked-twice ps (Open k a n) = refl
  remarked-twice ps Close = refl
  remarked-twice ps (Leaf k a n) = refl
  remarked-twice ps (CodeUnit u n) = refl

  in-twice : (from to : ℕ) (ps : List ℕ) (t : Token) → in_range (new_marks s b Inline) from to ps (in_range (new_marks s m Inline) from to ps t) ≡ in_range (twice s m b) from to ps t
  in-twice zero zero ps t = refl
  in-twice zero (suc to) ps t = remarked-twice ps t
  in-twice (suc from) to ps t = refl

  read-twice : (ps : List ℕ) (from to : ℕ) (ts : List Token) → read (new_marks s b Inline) ps from to (read (new_marks s m Inline) ps from to ts) ≡ read (twice s m b) ps from to ts
  read-twice ps from to [] = refl
  read-twice ps from to (t ∷ ts) =
      let f = new_marks s m Inline in
      let g = new_marks s b Inline in
      ap (λ z. z ∷ read g (under ps (in_range f from to ps t)) (from - 1) (to - 1) (read f (under ps t) (from - 1) (to - 1) ts)) (in-twice from to ps t)
      ∙ (ap (λ z. in_range (twice s m b) from to ps t ∷ read g z (from - 1) (to - 1) (read f (under ps t) (from - 1) (to - 1) ts)) (under-in f from to ps ps t)
      ∙ ap (λ z. in_range (twice s m b) from to ps t ∷ z) (read-twice (under ps t) (from - 1) (to - 1) ts))

  pub twice-is : (ps : List ℕ) (from to : ℕ) (ts : List Token) → from ≤ to → marked_twice s m b ps from to ts ≡ read (twice s m b) ps from to ts
  twice-is ps from to ts h =
      let f = new_marks s m Inline in
      let g = new_marks s b Inline in
      read-is g ps from to (marked_in f ps from to ts) h ∙ (ap (read g ps from to) (read-is f ps from to ts h) ∙ read-twice ps from to ts)

-- ---- the test, part by part

module _ (h : ℕ → Token → Marks → Marks) (ps : List ℕ) where
  -- the tokens with the marks in from..to changed are the old ones
  abbrev pub kept : ℕ → ℕ → List Token → Bool
  kept from to ts = same_tokens (read h ps from to ts) ts

  pub kept-more : (from to : ℕ) (xs ys : List Token) → Balanced xs → kept from to xs ≡ true → kept (from - length xs) (to - length xs) ys ≡ true → kept from to (xs ++ ys) ≡ true
  kept-more from to xs ys b p q =
      ap (λ z. same_tokens z (xs ++ ys)) (read-nodes h ps from to xs ys b)
      ∙ (same-append (read h ps from to xs) xs (read h ps (from - length xs) (to - length xs) ys) ys (read-length h ps from to xs)
      ∙ and_from (kept from to xs) (kept (from - length xs) (to - length xs) ys) p q)

  kept-front : (from to : ℕ) (xs ys : List Token) → Balanced xs → kept from to (xs ++ ys) ≡ (kept from to xs && kept (from - length xs) (to - length xs) ys)
  kept-front from to xs ys b =
      ap (λ z. same_tokens z (xs ++ ys)) (read-nodes h ps from to xs ys b)
      ∙ same-append (read h ps from to xs) xs (read h ps (from - length xs) (to - length xs) ys) ys (read-length h ps from to xs)

  pub lost-part : (from to : ℕ) (xs ys zs : List Token) → Balanced xs → Balanced ys → kept (from - length xs) (to - length xs) ys ≡ false → kept from to (xs ++ (ys ++ zs)) ≡ false
  lost-part from to xs ys zs b c q =
      let f = from - length xs in
      let t = to - length xs in
      kept-front from to xs (ys ++ zs) b
      ∙ (ap (λ z. kept from to xs && z) (kept-front f t ys zs c ∙ ap (λ z. z && kept (f - length ys) (t - length ys) zs) q)
      ∙ and-right (kept from to xs))

  pub kept-leaf : (from to k : ℕ) (a : Attrs) (m : Marks) → from < to → from < 1 → kept from to (Leaf k a m ∷ []) ≡ same_marks same_attrs (h (head_of ps) (Leaf k a m) m) m
  kept-leaf zero zero k a m i j = absurd (omega (arith, i))
  kept-leaf zero (suc to) k a m i j =
      and-yes-right (same_token (Leaf k a (h (head_of ps) (Leaf k a m) m)) (Leaf k a m)) ∙ leaf-same k a (h (head_of ps) (Leaf k a m) m) m
  kept-leaf (suc from) to k a m i j = absurd (omega (arith, j))

  -- the open of a node, which is changed where it stands in the range
  open-kept : (from to k : ℕ) (a : Attrs) (m : Marks) → (from ≡ 0 → same_marks same_attrs (h (head_of ps) (Open k a m) m) m ≡ true) → same_token (in_range h from to ps (Open k a m)) (Open k a m) ≡ true
  open-kept zero zero k a m i = token-itself (Open k a m)
  open-kept zero (suc to) k a m i = open-same k a (h (head_of ps) (Open k a m) m) m ∙ i refl
  open-kept (suc from) to k a m i = token-itself (Open k a m)

  open-lost : (from to k : ℕ) (a : Attrs) (m : Marks) → from ≡ 0 → 0 < to → same_marks same_attrs (h (head_of ps) (Open k a m) m) m ≡ false → same_token (in_range h from to ps (Open k a m)) (Open k a m) ≡ false
  open-lost zero zero k a m e i j = absurd (omega (arith, i))
  open-lost zero (suc to) k a m e i j = open-same k a (h (head_of ps) (Open k a m) m) m ∙ j
  open-lost (suc from) to k a m e i j = absurd (omega (arith, e))

module _ (h : ℕ → Token → Marks → Marks) (ps : List ℕ) (k : ℕ) (a : Attrs) (m : Marks) (inner : List Token) (b : Balanced inner) where
  kept-open : (from to : ℕ)
      → kept h ps from to (Open k a m ∷ (inner ++ (Close ∷ []))) ≡ (same_token (in_range h from to ps (Open k a m)) (Open k a m) && kept h (k ∷ ps) (from - 1) (to - 1) inner)
  kept-open from to =
      let made = read h (k ∷ ps) (from - 1) (to - 1) inner in
      let head = same_token (in_range h from to ps (Open k a m)) (Open k a m) in
      ap (λ z. same_tokens z (Open k a m ∷ (inner ++ (Close ∷ [])))) (read-node h ps from to k a m inner b)
      ∙ ap (λ z. head && z)
      (same-append made inner (Close ∷ []) (Close ∷ []) (read-length h (k ∷ ps) (from - 1) (to - 1) inner) ∙ and-yes-right (same_tokens made inner))

  pub kept-node : (from to : ℕ) → (from ≡ 0 → same_marks same_attrs (h (head_of ps) (Open k a m) m) m ≡ true)
      → kept h ps from to (Open k a m ∷ (inner ++ (Close ∷ []))) ≡ kept h (k ∷ ps) (from - 1) (to - 1) inner
  kept-node from to i = kept-open from to ∙ ap (λ z. z && kept h (k ∷ ps) (from - 1) (to - 1) inner) (open-kept h ps from to k a m i)

  pub lost-node : (from to : ℕ) → from ≡ 0 → 0 < to → same_marks same_attrs (h (head_of ps) (Open k a m) m) m ≡ false → kept h ps from to (Open k a m ∷ (inner ++ (Close ∷ []))) ≡ false
  lost-node from to e i j = kept-open from to ∙ ap (λ z. z && kept h (k ∷ ps) (from - 1) (to - 1) inner) (open-lost h ps from to k a m e i j)

-- a text, each unit of which in the range gets the marks g
module _ (h : ℕ → Token → Marks → Marks) (ps : List ℕ) (m g : Marks) (same : (u : ℕ) → h (head_of ps) (CodeUnit u m) m ≡ g) where
  text-kept : g ≡ m → (from to : ℕ) (us : List ℕ) → read h ps from to (text_tokens m us) ≡ text_tokens m us
  text-kept e from to [] = refl
  text-kept e zero zero (u ∷ us) = ap (λ z. CodeUnit u m ∷ z) (text-kept e (0 - 1) (0 - 1) us)
  text-kept e zero (suc to) (u ∷ us) =
      ap (λ z. CodeUnit u z ∷ read h ps (0 - 1) (suc to - 1) (text_tokens m us)) (same u ∙ e) ∙ ap (λ z. CodeUnit u m ∷ z) (text-kept e (0 - 1) (suc to - 1) us)
  text-kept e (suc from) to (u ∷ us) = ap (λ z. CodeUnit u m ∷ z) (text-kept e (suc from - 1) (to - 1) us)

  text-lost : same_marks same_attrs g m ≡ false → (from to : ℕ) (us : List ℕ) → from < to → from < length us → kept h ps from to (text_tokens m us) ≡ false
  text-lost n from to [] i j = absurd (omega (arith, j))
  text-lost n zero zero (u ∷ us) i j = absurd (omega (arith, i))
  text-lost n zero (suc to) (u ∷ us) i j =
      ap (λ z. z && kept h ps (0 - 1) (suc to - 1) (text_tokens m us)) (ap (λ z. same_token (CodeUnit u z) (CodeUnit u m)) (same u) ∙ (unit-same u g m ∙ n))
  text-lost n (suc from) zero (u ∷ us) i j = absurd (omega (arith, i))
  text-lost n (suc from) (suc to) (u ∷ us) i j =
      let e : suc from - 1 ≡ from = omega arith in
      let f : suc to - 1 ≡ to = omega arith in
      ap (λ z. z && kept h ps (suc from - 1) (suc to - 1) (text_tokens m us)) (token-itself (CodeUnit u m))
      ∙ rw (e, f) (text-lost n from to us (omega (arith, i)) (omega (arith, j)))

  pub kept-text : (from to : ℕ) (us : List ℕ) → from < to → from < length us → kept h ps from to (text_tokens m us) ≡ same_marks same_attrs g m
  kept-text from to us i j = by (same_marks same_attrs g m) refl
    where
      by : (b : Bool) → same_marks same_attrs g m ≡ b → kept h ps from to (text_tokens m us) ≡ same_marks same_attrs g m
      by true e = ap (λ z. same_tokens z (text_tokens m us)) (text-kept (marks-equal g m e) from to us) ∙ (tokens-itself (text_tokens m us) ∙ sym e)
      by false e = text-lost e from to us i j ∙ sym e
