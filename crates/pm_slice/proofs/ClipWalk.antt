-- What is made of the children of a content that a part lies among.
use Rattle.std.specs.Prelude.{◌≡◌, ℕ, ◌+◌, ◌-◌, ◌≤◌, ◌<◌, List, [], ◌∷◌, ◌++◌, length, take, drop, get_or}
use Rattle.std.specs.declared.sync.Arc.{Arc}
use Rattle.std.specs.Arc.{arc_value}
use Rattle.std.proofs.Common.{zero, suc, inl, inr, refl, ap, sym, ◌∙◌, arith, length-append}
use Rattle.std.proofs.lemmas.Bool.{cases_lt}
use Rattle.std.proofs.lemmas.List.{append-nil, take-append-drop}
use Rattle.pm_tokens.specs.Tokens.{Token}
use Rattle.pm_tokens.specs.Scan.{Balanced, part}
use Rattle.pm_node.specs.declared.node.Node.{Node}
use Rattle.pm_node.specs.Trees.{node_tokens, list_tokens, EachWhole}
use Rattle.pm_node.specs.Among.{Stands}
use Rattle.pm_node.proofs.TreeLaws.{list_tokens-append}
use Rattle.pm_node.proofs.WalkLaws.{front, front-more, list-split, rest}
use Rattle.pm_node.proofs.RunLaws.{part-at}
use Rattle.pm_slice.specs.Sides.{clipped, Clipped}
use Rattle.pm_slice.proofs.ClipLaws.{clipped-append, clipped-past, clipped-none, clipped-whole}
use Rattle.pm_build.proofs.SpanLaws.{front-whole}

run-whole : {Z : Type 0} (xs : List (Arc Node Z)) (i n : ℕ) → EachWhole xs → Balanced (front (drop i xs) n)
run-whole xs zero n w = front-whole xs n w
run-whole [] (suc i) n w = front-whole [] n w
run-whole (x ∷ xs) (suc i) n w = run-whole xs i n w.1

item-at : {A : Type 0} (xs : List A) (i : ℕ) → i < length xs → (x : A) × (x ≡ get_or xs i x)
item-at [] i h = absurd (omega (arith, h))
item-at (x ∷ xs) zero h = (x, refl)
item-at (x ∷ xs) (suc i) h = item-at xs i (omega (arith, h))

-- a position that is inside of a child has one
pub stands-before : {Z : Type 0} {xs : List (Arc Node Z)} {p i r : ℕ} → Stands xs p i r → (r ≡ 0 → ⊥) → i < length xs
stands-before {xs = xs} {i = i} s some = elim (cases_lt i (length xs)) [
  | inl lt ↦ lt
  | inr ge ↦ let w = s.within in absurd (some (s.at_end (omega (arith, w, ge))))
]

-- the first j children are the first i and a run
pub front-run : {Z : Type 0} (xs : List (Arc Node Z)) (i j : ℕ) → i ≤ j → front xs j ≡ front xs i ++ list_tokens (part i j xs)
front-run xs i j h =
    let a : j - 0 ≡ j = omega arith in
    let b : i - 0 ≡ i = omega arith in
    let joined : take j xs ≡ take i xs ++ part i j xs = ap (λ n. take n xs) (sym a) ∙ (part-at 0 i j xs (omega arith) h ∙ ap (λ n. take n xs ++ part i j xs) b) in
    ap list_tokens joined ∙ list_tokens-append (take i xs) (part i j xs)

-- all children are the first i and the rest
pub front-rest : {Z : Type 0} (xs : List (Arc Node Z)) (i : ℕ) → list_tokens xs ≡ front xs i ++ rest xs i
front-rest xs i = ap list_tokens (sym (take-append-drop i xs)) ∙ list_tokens-append (take i xs) (drop i xs)

module _ {Z : Type 0} (xs : List (Arc Node Z)) (f t : ℕ) (h : f ≤ t) (w : EachWhole xs) where
  -- the part begins between two children
  pub clipped-start : (i r : ℕ) (m : List Token) → Stands xs f i r → r ≡ 0 → m ≡ [] → Clipped xs i f t m
  clipped-start i r m s z e =
      let at : length (front xs i) + r ≡ f = s.offset in
      record {
        within = s.within;
        starts = omega (arith, at, z);
        made = e ∙ sym (clipped-past (front xs i) f t (front-whole xs i w) (omega (arith, at)) h);
        small = omega (arith, ap length e);
      }

  -- what is made with one more child
  more : (i : ℕ) (x : Arc Node Z) → i < length xs → x ≡ get_or xs i x → clipped (front xs (i + 1)) f t ≡ clipped (front xs i) f t ++ clipped (node_tokens (arc_value x)) (f - length (front xs i)) (t - length (front xs i))
  more i x k r = ap (λ z. clipped z f t) (front-more xs i x k r) ∙ clipped-append (front xs i) (node_tokens (arc_value x)) f t (front-whole xs i w) h

  -- it begins inside of a child
  pub clipped-first : (i r e : ℕ) (x : Arc Node Z) (old m : List Token) → Stands xs f i r → i < length xs → x ≡ get_or xs i x → e ≡ t - (f - r) → old ≡ [] → m ≡ old ++ clipped (node_tokens (arc_value x)) r e → length (clipped (node_tokens (arc_value x)) r e) ≤ length (node_tokens (arc_value x)) → Clipped xs (i + 1) f t m
  clipped-first i r e x old m s k q ee n is small =
      let ts = node_tokens (arc_value x) in
      let piece = clipped ts r e in
      let at : length (front xs i) + r ≡ f = s.offset in
      let g = front-more xs i x k q in
      let lt = s.inside x k q in
      let u : f - length (front xs i) ≡ r = omega (arith, at) in
      let v : t - length (front xs i) ≡ e = omega (arith, at, ee) in
      let none_before : clipped (front xs i) f t ≡ [] = clipped-past (front xs i) f t (front-whole xs i w) (omega (arith, at)) h in
      let all : clipped (front xs (i + 1)) f t ≡ piece =
      more i x k q ∙ (ap (λ z. z ++ clipped ts (f - length (front xs i)) (t - length (front xs i))) none_before ∙ (ap (λ z. clipped ts z (t - length (front xs i))) u ∙ ap (clipped ts r) v)) in
      let made : m ≡ piece = is ∙ ap (λ z. z ++ piece) n in
      record {
        within = omega (arith, k);
        starts = omega (arith, at, lt, ap length g, length-append (front xs i) ts);
        made = made ∙ sym all;
        small = omega (arith, ap length made, small, ap length g, length-append (front xs i) ts);
      }

  -- whole children up to the one that the part ends in
  pub clipped-run : (i j r : ℕ) (m m' : List Token) → Clipped xs i f t m → i ≤ j → Stands xs t j r → m' ≡ m ++ list_tokens (part i j xs) → Clipped xs j f t m'
  clipped-run i j r m m' c l s e =
      let n = length (front xs i) in
      let run = list_tokens (part i j xs) in
      let at : length (front xs j) + r ≡ t = s.offset in
      let g = front-run xs i j l in
      let len = length-append (front xs i) run in
      let whole : Balanced run = run-whole xs i (j - i) w in
      let same : clipped run (f - n) (t - n) ≡ run = clipped-whole run (f - n) (t - n) whole (omega (arith, c.starts)) (omega (arith, at, ap length g, len)) in
      let all : clipped (front xs j) f t ≡ clipped (front xs i) f t ++ run =
      ap (λ z. clipped z f t) g ∙ (clipped-append (front xs i) run f t (front-whole xs i w) h ∙ ap (λ z. clipped (front xs i) f t ++ z) same) in
      record {
        within = s.within;
        starts = omega (arith, c.starts, ap length g, len);
        made = e ∙ (ap (λ z. z ++ run) c.made ∙ sym all);
        small = omega (arith, ap length e, length-append m run, c.small, ap length g, len);
      }

  -- what is made has room for the run
  pub part-room : (i j r : ℕ) (m : List Token) → Clipped xs i f t m → i ≤ j → Stands xs t j r → length m + length (list_tokens (part i j xs)) ≤ length (list_tokens xs)
  part-room i j r m c l s =
      omega (arith, c.small, ap length (front-run xs i j l), length-append (front xs i) (list_tokens (part i j xs)), ap length (front-rest xs j), length-append (front xs j) (rest xs j))

  -- and for the child after it
  pub last-room : (i : ℕ) (x : Arc Node Z) (m : List Token) → Clipped xs i f t m → i < length xs → x ≡ get_or xs i x → length m + length (node_tokens (arc_value x)) ≤ length (list_tokens xs)
  last-room i x m c k q =
      let ts = node_tokens (arc_value x) in
      let behind = list_tokens (drop (i + 1) xs) in
      omega (arith, c.small, ap length (list-split xs i x k q), length-append (front xs i) (ts ++ behind), length-append ts behind)

  -- the part ends inside of a child
  pub clipped-last : (i r : ℕ) (x : Arc Node Z) (m m' : List Token) → Clipped xs i f t m → Stands xs t i r → i < length xs → x ≡ get_or xs i x → m' ≡ m ++ clipped (node_tokens (arc_value x)) 0 r → length (clipped (node_tokens (arc_value x)) 0 r) ≤ length (node_tokens (arc_value x)) → Clipped xs (i + 1) f t m'
  clipped-last i r x m m' c s k q e small =
      let ts = node_tokens (arc_value x) in
      let piece = clipped ts 0 r in
      let at : length (front xs i) + r ≡ t = s.offset in
      let g = front-more xs i x k q in
      let u : f - length (front xs i) ≡ 0 = omega (arith, c.starts) in
      let v : t - length (front xs i) ≡ r = omega (arith, at) in
      let all : clipped (front xs (i + 1)) f t ≡ clipped (front xs i) f t ++ piece =
      more i x k q ∙ ap (λ z. clipped (front xs i) f t ++ z) (ap (λ z. clipped ts z (t - length (front xs i))) u ∙ ap (clipped ts 0) v) in
      record {
        within = omega (arith, k);
        starts = omega (arith, c.starts, ap length g, length-append (front xs i) ts);
        made = e ∙ (ap (λ z. z ++ piece) c.made ∙ sym all);
        small = omega (arith, ap length e, length-append m piece, c.small, small, ap length g, length-append (front xs i) ts);
      }

  -- nothing of the rest is in the part
  pub clipped-end : (i : ℕ) (m : List Token) → Clipped xs i f t m → t ≤ length (front xs i) → m ≡ clipped (list_tokens xs) f t
  clipped-end i m c l =
      let n = length (front xs i) in
      let nothing : clipped (rest xs i) (f - n) (t - n) ≡ [] = clipped-none (rest xs i) (f - n) (t - n) (omega (arith, l)) (omega (arith, h)) in
      let all : clipped (list_tokens xs) f t ≡ clipped (front xs i) f t =
      ap (λ z. clipped z f t) (front-rest xs i) ∙ (clipped-append (front xs i) (rest xs i) f t (front-whole xs i w) h ∙ (ap (λ z. clipped (front xs i) f t ++ z) nothing ∙ append-nil (clipped (front xs i) f t))) in
      c.made ∙ sym all

  pub clipped-small : (i : ℕ) (m : List Token) → Clipped xs i f t m → length m ≤ length (list_tokens xs)
  clipped-small i m c = omega (arith, c.small, ap length (front-rest xs i), length-append (front xs i) (rest xs i))

  -- a position stands at or before the end of the children after it
  pub stands-within : (i j r : ℕ) → Stands xs t j r → j < i → i ≤ length xs → t ≤ length (front xs i)
  stands-within i j r s l k =
      let at : length (front xs j) + r ≡ t = s.offset in
      let lt : j < length xs = omega (arith, l, k) in
      let item = item-at xs j lt in
      let inside = s.inside item.0 lt item.1 in
      let n = node_tokens (arc_value item.0) in
      omega (arith, at, inside, ap length (front-more xs j item.0 lt item.1), length-append (front xs j) n, ap length (front-run xs (j + 1) i (omega (arith, l))), length-append (front xs (j + 1)) (list_tokens (part (j + 1) i xs)))
