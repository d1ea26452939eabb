-- Tokens with the marks in a range changed, read one after another.
use Rattle.std.specs.Prelude.{◌≡◌, ℕ, ◌-◌, ◌≤◌, List, [], ◌∷◌, ◌++◌, length, take, drop}
use Rattle.std.proofs.Common.{zero, suc, refl, ap, sym, ◌∙◌, arith}
use Rattle.pm_tokens.specs.Tokens.{Attrs, Marks, Token, Open, Close, Leaf, CodeUnit}
use Rattle.pm_tokens.specs.Kids.{text_tokens}
use Rattle.pm_tokens.specs.Faults.{under}
use Rattle.pm_tokens.specs.Scan.{head_of, unclosed, part, Balanced}
use Rattle.pm_tokens.proofs.ListLaws.{drop-nil, take-nil}
use Rattle.pm_tokens.proofs.BalanceLaws.{unclosed-balanced}
use Rattle.pm_meaning.specs.Marked.{with_marks}
use Rattle.pm_apply.specs.Markings.{marked_in}
use Rattle.pm_tokens.proofs.ValidLaws.{under-is}

module _ (f : ℕ → Token → Marks → Marks) where
  -- a token with its marks changed
  abbrev pub remarked : List ℕ → Token → Token
  remarked ps (Open k a m) = Open k a (f (head_of ps) (Open k a m) m)
  remarked ps Close = Close
  remarked ps (Leaf k a m) = Leaf k a (f (head_of ps) (Leaf k a m) m)
  remarked ps (CodeUnit u m) = CodeUnit u (f (head_of ps) (CodeUnit u m) m)

  -- the first token, changed where it stands in from..to
  abbrev pub in_range : ℕ → ℕ → List ℕ → Token → Token
  in_range zero zero ps t = t
  in_range zero (suc to) ps t = remarked ps t
  in_range (suc from) to ps t = t

  abbrev pub read : List ℕ → ℕ → ℕ → List Token → List Token
  read ps from to [] = []
  read ps from to (t ∷ ts) = in_range from to ps t ∷ read (under ps t) (from - 1) (to - 1) ts

  with-more : (ps : List ℕ) (t : Token) (ts : List Token) → with_marks f ps (t ∷ ts) ≡ remarked ps t ∷ with_marks f (under ps t) ts
  with-more ps (Open k a m) ts = refl
  with-more ps Close ts = refl
  with-more ps (Leaf k a m) ts = refl
  with-more ps (CodeUnit u m) ts = refl

  -- outside of the range nothing changes
  pub read-none : (ps : List ℕ) (from to : ℕ) (ts : List Token) → to ≤ from → read ps from to ts ≡ ts
  read-none ps from to [] h = refl
  read-none ps zero zero (t ∷ ts) h = ap (λ z. t ∷ z) (read-none (under ps t) (0 - 1) (0 - 1) ts (omega arith))
  read-none ps zero (suc to) (t ∷ ts) h = absurd (omega (arith, h))
  read-none ps (suc from) to (t ∷ ts) h = ap (λ z. t ∷ z) (read-none (under ps t) (suc from - 1) (to - 1) ts (omega (arith, h)))

  pub read-past : (ps : List ℕ) (from to : ℕ) (ts : List Token) → length ts ≤ from → read ps from to ts ≡ ts
  read-past ps from to [] h = refl
  read-past ps zero to (t ∷ ts) h = absurd (omega (arith, h))
  read-past ps (suc from) to (t ∷ ts) h = ap (λ z. t ∷ z) (read-past (under ps t) (suc from - 1) (to - 1) ts (omega (arith, h)))

  -- the reading is the list
  pub read-is : (ps : List ℕ) (from to : ℕ) (ts : List Token) → from ≤ to → marked_in f ps from to ts ≡ read ps from to ts
  read-is ps from to [] h =
      let a : take {A = Token} from [] ≡ [] = take-nil from in
      let b : drop {A = Token} to [] ≡ [] = drop-nil to in
      let c : part {A = Token} from to [] ≡ [] = ap (take (to - from)) (drop-nil from) ∙ take-nil (to - from) in
      rw (a, b, c) refl
  read-is ps zero zero (t ∷ ts) h = ap (λ z. t ∷ z) (sym (read-none (under ps t) (0 - 1) (0 - 1) ts (omega arith)))
  read-is ps zero (suc to) (t ∷ ts) h =
      let e : suc to - 0 ≡ suc to = omega arith in
      let d : suc to - 1 ≡ to = omega arith in
      let g : to - 0 ≡ to = omega arith in
      let i = read-is (under ps t) 0 to ts (omega arith) in
      let j : with_marks f (under ps t) (take to ts) ++ drop to ts ≡ read (under ps t) 0 to ts = rw g at i in
      rw (e, d) (ap (λ z. z ++ drop to ts) (with-more ps t (take to ts)) ∙ ap (λ z. remarked ps t ∷ z) j)
  read-is ps (suc from) zero (t ∷ ts) h = absurd (omega (arith, h))
  read-is ps (suc from) (suc to) (t ∷ ts) h =
      let e : suc to - suc from ≡ to - from = omega arith in
      let d : suc to - 1 ≡ to = omega arith in
      let g : suc from - 1 ≡ from = omega arith in
      let i = read-is (under ps t) from to ts (omega (arith, h)) in
      rw (e, d, g)
      (ap (λ z. t ∷ (take from ts ++ (with_marks f z (part from to ts) ++ drop to ts))) (under-is ps t (take from ts)) ∙ ap (λ z. t ∷ z) i)

  -- one after another
  pub read-append : (ps : List ℕ) (from to : ℕ) (xs ys : List Token) → read ps from to (xs ++ ys) ≡ read ps from to xs ++ read (unclosed ps xs) (from - length xs) (to - length xs) ys
  read-append ps from to [] ys =
      let d : from - 0 ≡ from = omega arith in
      let e : to - 0 ≡ to = omega arith in
      rw (d, e) refl
  read-append ps from to (t ∷ xs) ys =
      let d : from - 1 - length xs ≡ from - suc (length xs) = omega arith in
      let e : to - 1 - length xs ≡ to - suc (length xs) = omega arith in
      ap (λ z. in_range from to ps t ∷ z)
      (read-append (under ps t) (from - 1) (to - 1) xs ys
      ∙ (ap (λ n. read (under ps t) (from - 1) (to - 1) xs ++ read (unclosed (under ps t) xs) n (to - 1 - length xs) ys) d
      ∙ (ap (λ n. read (under ps t) (from - 1) (to - 1) xs ++ read (unclosed (under ps t) xs) (from - suc (length xs)) n ys) e
      ∙ ap (λ s. read (under ps t) (from - 1) (to - 1) xs ++ read s (from - suc (length xs)) (to - suc (length xs)) ys) (sym (under-is ps t xs)))))

  pub read-nodes : (ps : List ℕ) (from to : ℕ) (xs ys : List Token) → Balanced xs → read ps from to (xs ++ ys) ≡ read ps from to xs ++ read ps (from - length xs) (to - length xs) ys
  read-nodes ps from to xs ys b = read-append ps from to xs ys ∙ ap (λ s. read ps from to xs ++ read s (from - length xs) (to - length xs) ys) (unclosed-balanced ps b)

  -- no token more, none less
  pub read-length : (ps : List ℕ) (from to : ℕ) (ts : List Token) → length (read ps from to ts) ≡ length ts
  read-length ps from to [] = refl
  read-length ps from to (t ∷ ts) = ap suc (read-length (under ps t) (from - 1) (to - 1) ts)

  in-close : (from to : ℕ) (ps : List ℕ) → in_range from to ps Close ≡ Close
  in-close zero zero ps = refl
  in-close zero (suc to) ps = refl
  in-close (suc from) to ps = refl

  -- a node with content
  pub read-node : (ps : List ℕ) (from to k : ℕ) (a : Attrs) (m : Marks) (inner : List Token) → Balanced inner
      → read ps from to (Open k a m ∷ (inner ++ (Close ∷ []))) ≡ in_range from to ps (Open k a m) ∷ (read (k ∷ ps) (from - 1) (to - 1) inner ++ (Close ∷ []))
  read-node ps from to k a m inner b =
      ap (λ z. in_range from to ps (Open k a m) ∷ z)
      (read-nodes (k ∷ ps) (from - 1) (to - 1) inner (Close ∷ []) b
      ∙ ap (λ t. read (k ∷ ps) (from - 1) (to - 1) inner ++ (t ∷ [])) (in-close (from - 1 - length inner) (to - 1 - length inner) (k ∷ ps)))

  -- a text: each of its units gets the marks g
  module _ (ps : List ℕ) (m g : Marks) (same : (u : ℕ) → f (head_of ps) (CodeUnit u m) m ≡ g) where
    pub read-text : (from to : ℕ) (us : List ℕ) → from ≤ to
        → read ps from to (text_tokens m us) ≡ text_tokens m (take from us) ++ (text_tokens g (part from to us) ++ text_tokens m (drop to us))
    read-text from to [] h =
        let a : take {A = ℕ} from [] ≡ [] = take-nil from in
        let b : drop {A = ℕ} to [] ≡ [] = drop-nil to in
        let c : part {A = ℕ} from to [] ≡ [] = ap (take (to - from)) (drop-nil from) ∙ take-nil (to - from) in
        rw (a, b, c) refl
    read-text zero zero (u ∷ us) h = ap (λ z. CodeUnit u m ∷ z) (read-none ps (0 - 1) (0 - 1) (text_tokens m us) (omega arith))
    read-text zero (suc to) (u ∷ us) h =
        let e : suc to - 0 ≡ suc to = omega arith in
        let d : suc to - 1 ≡ to = omega arith in
        let z₀ : 0 - 1 ≡ 0 = omega arith in
        let k : to - 0 ≡ to = omega arith in
        let i = read-text 0 to us (omega arith) in
        let j : read ps 0 to (text_tokens m us) ≡ text_tokens g (take to us) ++ text_tokens m (drop to us) = rw k at i in
        rw (e, d) (ap (λ z. CodeUnit u z ∷ read ps 0 to (text_tokens m us)) (same u) ∙ ap (λ z. CodeUnit u g ∷ z) j)
    read-text (suc from) zero (u ∷ us) h = absurd (omega (arith, h))
    read-text (suc from) (suc to) (u ∷ us) h =
        let e : suc to - suc from ≡ to - from = omega arith in
        let d : suc to - 1 ≡ to = omega arith in
        let k : suc from - 1 ≡ from = omega arith in
        rw (e, d, k) (ap (λ z. CodeUnit u m ∷ z) (read-text from to us (omega (arith, h))))
