-- Clipped parts: of nodes one after another, and of one node.
use Rattle.std.specs.Prelude.{◌≡◌, ℕ, ◌+◌, ◌-◌, ◌≤◌, ◌<◌, min, List, [], ◌∷◌, ◌++◌, length, take, drop, reverse, replicate}
use Rattle.std.proofs.Common.{zero, suc, inl, inr, refl, ap, sym, ◌∙◌, subst, arith, append_assoc, length-append}
use Rattle.std.proofs.lemmas.List.{append-nil, take_all, replicate_more}
use Rattle.std.proofs.lemmas.Bool.{cases_lt}
use Rattle.pm_tokens.specs.Tokens.{Marks, Token, Open, Close, CodeUnit}
use Rattle.pm_tokens.specs.Kids.{text_tokens}
use Rattle.pm_tokens.specs.Scan.{unclosed, around, part, depth_at, Balanced}
use Rattle.pm_tokens.proofs.ListLaws.{part-append, part_all, part_past, part_none}
use Rattle.pm_tokens.proofs.BalanceLaws.{unclosed-balanced}
use Rattle.pm_tokens.proofs.CutLaws.{around-length}
use Rattle.std.proofs.lemmas.List.{nil_from_length}
use Rattle.pm_node.specs.declared.node.Node.{Node}
use Rattle.pm_node.specs.declared.node.Body.TheVariants.{Text, Children}
use Rattle.pm_node.specs.Trees.{node_tokens}
use Rattle.pm_node.proofs.TreeLaws.{node_tokens_at, balanced-node, length-text_tokens}
use Rattle.pm_tokens.proofs.OwnedParts.{length-part, part_min}
use Rattle.pm_build.specs.Positions.{path}
use Rattle.pm_build.proofs.PositionLaws.{depth-behind, depth-first, depth-inside, depth-flat, path-behind, path-first, path-inside, path-flat}
use Rattle.pm_slice.specs.Sides.{clipped}

-- ---- at the ends of whole nodes

pub path-start : (ts : List Token) (f : ℕ) → f ≡ 0 → path ts f ≡ []
path-start ts f e = ap (path ts) e

depth-start : (ts : List Token) (t : ℕ) → t ≡ 0 → depth_at ts t ≡ 0
depth-start ts t e = ap (depth_at ts) e

depth-past : (ts : List Token) (t : ℕ) → Balanced ts → length ts ≤ t → depth_at ts t ≡ 0
depth-past ts t b h = ap (λ z. length (unclosed [] z)) (take_all t ts h) ∙ ap length (unclosed-balanced [] b)

path-past : (ts : List Token) (f : ℕ) → Balanced ts → length ts ≤ f → path ts f ≡ []
path-past ts f b h = ap reverse (nil_from_length (around [] (take f ts)) (around-length [] [] (take f ts) refl ∙ depth-past ts f b h))

-- a clipped part whose pieces are known
made : (ts : List Token) (f t n : ℕ) (p q : List Token) → path ts f ≡ p → part f t ts ≡ q → depth_at ts t ≡ n → clipped ts f t ≡ p ++ (q ++ replicate n Close)
made ts f t n p q a b c =
    ap (λ z. z ++ (part f t ts ++ replicate (depth_at ts t) Close)) a
    ∙ (ap (λ z. p ++ (z ++ replicate (depth_at ts t) Close)) b ∙ ap (λ k. p ++ (q ++ replicate k Close)) c)

pub clipped-past : (ts : List Token) (f t : ℕ) → Balanced ts → length ts ≤ f → f ≤ t → clipped ts f t ≡ []
clipped-past ts f t b h k = made ts f t 0 [] [] (path-past ts f b h) (part_past f t ts h) (depth-past ts t b (omega (arith, h, k)))

pub clipped-none : (ts : List Token) (f t : ℕ) → t ≡ 0 → f ≤ t → clipped ts f t ≡ []
clipped-none ts f t e k = made ts f t 0 [] [] (path-start ts f (omega (arith, e, k))) (part_none f t ts (omega (arith, e))) (depth-start ts t e)

pub clipped-whole : (ts : List Token) (f t : ℕ) → Balanced ts → f ≡ 0 → length ts ≤ t → clipped ts f t ≡ ts
clipped-whole ts f t b e h = made ts f t 0 [] ts (path-start ts f e) (part_all f t ts e h) (depth-past ts t b h) ∙ append-nil ts

-- positions after the end are as good as the end
pub clipped-within : (ts : List Token) (f t n u v : ℕ) → Balanced ts → f ≤ t → n ≡ length ts → u ≡ min n f → v ≡ min n t → clipped ts u v ≡ clipped ts f t
clipped-within ts f t n u v b h size eu ev = elim (cases_lt f n) [
  | inl k ↦
      let same : u ≡ f = omega (arith, k, eu) in
      let tokens : part f v ts ≡ part f t ts = ap (λ z. part f z ts) (ev ∙ ap (λ z. min z t) size) ∙ part_min f t ts in
      ap (λ z. clipped ts z v) same ∙ (elim (cases_lt t n) [
        | inl i ↦ ap (clipped ts f) (let e : v ≡ t = omega (arith, i, ev) in e)
        | inr i ↦ made ts f v 0 (path ts f) (part f t ts) refl tokens (depth-past ts v b (omega (arith, i, ev, size))) ∙ sym (made ts f t 0 (path ts f) (part f t ts) refl refl (depth-past ts t b (omega (arith, i, size))))
      ])
  | inr k ↦ clipped-past ts u v b (omega (arith, k, eu, size)) (omega (arith, eu, ev, h)) ∙ sym (clipped-past ts f t b (omega (arith, k, size)) h)
]

-- ---- one after another

module _ (xs ys : List Token) (f t : ℕ) (b : Balanced xs) (h : f ≤ t) where
  abbrev u : ℕ
  u = f - length xs

  abbrev v : ℕ
  v = t - length xs

  -- the part begins after the first nodes
  behind : length xs ≤ f → clipped (xs ++ ys) f t ≡ clipped xs f t ++ clipped ys u v
  behind k =
      let q : part f t (xs ++ ys) ≡ part u v ys = part-append f t xs ys ∙ ap (λ z. z ++ part u v ys) (part_past f t xs k) in
      made (xs ++ ys) f t (depth_at ys v) (path ys u) (part u v ys) (path-behind xs ys f b k) q (depth-behind xs ys t b (omega (arith, h, k)))
      ∙ ap (λ z. z ++ clipped ys u v) (sym (clipped-past xs f t b k h))

  -- it goes over their end
  over : f < length xs → length xs ≤ t → clipped (xs ++ ys) f t ≡ clipped xs f t ++ clipped ys u v
  over k i =
      let p = path xs f in
      let q = part f t xs in
      let r = part u v ys in
      let d = replicate (depth_at ys v) Close in
      let left : clipped xs f t ≡ p ++ q = made xs f t 0 p q refl refl (depth-past xs t b i) ∙ ap (λ z. p ++ z) (append-nil q) in
      let right : clipped ys u v ≡ r ++ d = made ys u v (depth_at ys v) [] r (path-start ys u (omega (arith, k))) refl refl in
      made (xs ++ ys) f t (depth_at ys v) p (q ++ r) (path-first xs ys f k) (part-append f t xs ys) (depth-behind xs ys t b i)
      ∙ (ap (λ z. p ++ z) (append_assoc q r d) ∙ (sym (append_assoc p q (r ++ d)) ∙ (ap (λ z. z ++ (r ++ d)) (sym left) ∙ ap (λ z. clipped xs f t ++ z) (sym right))))

  -- it ends in them
  within : t < length xs → clipped (xs ++ ys) f t ≡ clipped xs f t ++ clipped ys u v
  within k =
      let right : clipped ys u v ≡ [] = clipped-none ys u v (omega (arith, k)) (omega (arith, h, k)) in
      let q : part f t (xs ++ ys) ≡ part f t xs = part-append f t xs ys ∙ (ap (λ z. part f t xs ++ z) (part_none u v ys (omega (arith, k))) ∙ append-nil (part f t xs)) in
      made (xs ++ ys) f t (depth_at xs t) (path xs f) (part f t xs) (path-first xs ys f (omega (arith, h, k))) q (depth-first xs ys t k)
      ∙ (sym (append-nil (clipped xs f t)) ∙ ap (λ z. clipped xs f t ++ z) (sym right))

  pub clipped-append : clipped (xs ++ ys) f t ≡ clipped xs f t ++ clipped ys u v
  clipped-append = elim (cases_lt (length xs) (suc f)) [
    | inl k ↦ behind (omega (arith, k))
    | inr k ↦ (elim (cases_lt t (length xs)) [ inl i ↦ within i | inr i ↦ over (omega (arith, k)) i ])
  ]

-- ---- one node with content

replicate-last : (d : ℕ) → replicate (1 + d) Close ≡ replicate d Close ++ (Close ∷ [])
replicate-last d = ap (λ n. replicate n Close) (let e : 1 + d ≡ d + 1 = omega arith in e) ∙ sym (replicate_more d Close)

part-open : (f t : ℕ) (o : Token) → 0 < f → part f t (o ∷ []) ≡ []
part-open f t o h = part_past f t (o ∷ []) (omega (arith, h))

module _ (n : Node) (inner : List Token) (f t : ℕ) (is : n.body ≡ Children inner) (b : Balanced inner) (h : f ≤ t) (lt : f < length (node_tokens n)) (some : 0 < t) where
  abbrev o : Token
  o = Open n.kind n.attrs n.marks

  abbrev p : List Token
  p = path inner (f - 1)

  abbrev q : List Token
  q = part (f - 1) (t - 1) inner

  tokens : node_tokens n ≡ o ∷ (inner ++ (Close ∷ []))
  tokens = node_tokens_at n (Children inner) is

  size : length (node_tokens n) ≡ length inner + 2
  size = omega (arith, ap length tokens, length-append inner (Close ∷ []))

  middle : part f t (node_tokens n) ≡ part f t (o ∷ []) ++ (q ++ part (f - 1 - length inner) (t - 1 - length inner) (Close ∷ []))
  middle = ap (part f t) tokens ∙ (part-append f t (o ∷ []) (inner ++ (Close ∷ [])) ∙ ap (λ z. part f t (o ∷ []) ++ z) (part-append (f - 1) (t - 1) inner (Close ∷ [])))

  -- the end lies in the node: its close is added
  module _ (i : t < length (node_tokens n)) where
    no-close : part (f - 1 - length inner) (t - 1 - length inner) (Close ∷ []) ≡ []
    no-close = part_none (f - 1 - length inner) (t - 1 - length inner) (Close ∷ []) (omega (arith, i, size))

    deep : depth_at (node_tokens n) t ≡ 1 + depth_at inner (t - 1)
    deep = depth-inside n inner t is b some i

    closes : (q ++ []) ++ replicate (1 + depth_at inner (t - 1)) Close ≡ (q ++ replicate (depth_at inner (t - 1)) Close) ++ (Close ∷ [])
    closes =
        ap (λ z. z ++ replicate (1 + depth_at inner (t - 1)) Close) (append-nil q)
        ∙ (ap (λ z. q ++ z) (replicate-last (depth_at inner (t - 1))) ∙ sym (append_assoc q (replicate (depth_at inner (t - 1)) Close) (Close ∷ [])))

    from-start : f ≡ 0 → clipped (node_tokens n) f t ≡ o ∷ (clipped inner (f - 1) (t - 1) ++ (Close ∷ []))
    from-start e =
        let first : part f t (o ∷ []) ≡ o ∷ [] = part_all f t (o ∷ []) e (omega (arith, some)) in
        let m : part f t (node_tokens n) ≡ o ∷ (q ++ []) = middle ∙ (ap (λ z. part f t (o ∷ []) ++ (q ++ z)) no-close ∙ ap (λ z. z ++ (q ++ [])) first) in
        let start : p ≡ [] = path-start inner (f - 1) (omega (arith, e)) in
        made (node_tokens n) f t (1 + depth_at inner (t - 1)) [] (o ∷ (q ++ [])) (path-start (node_tokens n) f e) m deep
        ∙ (ap (λ z. o ∷ z) closes ∙ ap (λ z. o ∷ ((z ++ (q ++ replicate (depth_at inner (t - 1)) Close)) ++ (Close ∷ []))) (sym start))

    from-inside : 0 < f → clipped (node_tokens n) f t ≡ o ∷ (clipped inner (f - 1) (t - 1) ++ (Close ∷ []))
    from-inside k =
        let m : part f t (node_tokens n) ≡ q ++ [] = middle ∙ (ap (λ z. part f t (o ∷ []) ++ (q ++ z)) no-close ∙ ap (λ z. z ++ (q ++ [])) (part-open f t o k)) in
        made (node_tokens n) f t (1 + depth_at inner (t - 1)) (o ∷ p) (q ++ []) (path-inside n inner f is b k lt) m deep
        ∙ (ap (λ z. o ∷ (p ++ z)) closes ∙ ap (λ z. o ∷ z) (sym (append_assoc p (q ++ replicate (depth_at inner (t - 1)) Close) (Close ∷ []))))

  -- the end lies after it: its close is there
  to-end : 0 < f → length (node_tokens n) ≤ t → clipped (node_tokens n) f t ≡ o ∷ (clipped inner (f - 1) (t - 1) ++ (Close ∷ []))
  to-end k i =
      let close : part (f - 1 - length inner) (t - 1 - length inner) (Close ∷ []) ≡ Close ∷ [] = part_all (f - 1 - length inner) (t - 1 - length inner) (Close ∷ []) (omega (arith, lt, size)) (omega (arith, i, size)) in
      let m : part f t (node_tokens n) ≡ q ++ (Close ∷ []) = middle ∙ (ap (λ z. part f t (o ∷ []) ++ (q ++ z)) close ∙ ap (λ z. z ++ (q ++ (Close ∷ []))) (part-open f t o k)) in
      let whole : Balanced (node_tokens n) = subst Balanced (sym tokens) (balanced-node n.kind n.attrs n.marks b) in
      let inside : clipped inner (f - 1) (t - 1) ≡ p ++ q = made inner (f - 1) (t - 1) 0 p q refl refl (depth-past inner (t - 1) b (omega (arith, i, size))) ∙ ap (λ z. p ++ z) (append-nil q) in
      made (node_tokens n) f t 0 (o ∷ p) (q ++ (Close ∷ [])) (path-inside n inner f is b k lt) m (depth-past (node_tokens n) t whole i)
      ∙ (ap (λ z. o ∷ (p ++ z)) (append-nil (q ++ (Close ∷ []))) ∙ (ap (λ z. o ∷ z) (sym (append_assoc p q (Close ∷ []))) ∙ ap (λ z. o ∷ (z ++ (Close ∷ []))) (sym inside)))

  pub clipped-node : ((f ≡ 0) → t < length (node_tokens n)) → clipped (node_tokens n) f t ≡ o ∷ (clipped inner (f - 1) (t - 1) ++ (Close ∷ []))
  clipped-node parted = elim (cases_lt t (length (node_tokens n))) [
    | inl i ↦ (elim (cases_lt 0 f) [ inl k ↦ from-inside i k | inr k ↦ from-start i (omega (arith, k)) ])
    | inr i ↦ (elim (cases_lt 0 f) [ inl k ↦ to-end k i | inr k ↦ absurd (let e : f ≡ 0 = omega (arith, k) in omega (arith, parted e, i)) ])
  ]

-- ---- a text or a leaf

pub clipped-flat : (n : Node) (f t : ℕ) → ((x : List Token) → n.body ≡ Children x → ⊥) → clipped (node_tokens n) f t ≡ part f t (node_tokens n)
clipped-flat n f t h =
    made (node_tokens n) f t 0 [] (part f t (node_tokens n)) (path-flat n f h) refl (depth-flat n t h) ∙ append-nil (part f t (node_tokens n))

-- units before and after text_tokens
text-take : (n : ℕ) (m : Marks) (us : List ℕ) → take n (text_tokens m us) ≡ text_tokens m (take n us)
text-take zero m us = refl
text-take (suc n) m [] = refl
text-take (suc n) m (u ∷ us) = ap (λ z. CodeUnit u m ∷ z) (text-take n m us)

text-drop : (n : ℕ) (m : Marks) (us : List ℕ) → drop n (text_tokens m us) ≡ text_tokens m (drop n us)
text-drop zero m us = refl
text-drop (suc n) m [] = refl
text-drop (suc n) m (u ∷ us) = text-drop n m us

-- a part of a text is a text
pub clipped-text : (n : Node) (us cut : List ℕ) (f t : ℕ) → n.body ≡ Text us → cut ≡ part f t us → text_tokens n.marks cut ≡ clipped (node_tokens n) f t
clipped-text n us cut f t is e =
    let flat : (x : List Token) → n.body ≡ Children x → ⊥ = λ x h. absurd (let g : Text us ≡ Children x = sym is ∙ h in cc) in
    ap (text_tokens n.marks) e ∙ sym (clipped-flat n f t flat ∙ (ap (part f t) (node_tokens_at n (Text us) is)
    ∙ (ap (take (t - f)) (text-drop f n.marks us) ∙ text-take (t - f) n.marks (drop f us))))

pub text-small : (m : Marks) (us : List ℕ) (f t : ℕ) → length (text_tokens m (part f t us)) ≤ length (text_tokens m us)
text-small m us f t = omega (arith, length-text_tokens m us, length-text_tokens m (part f t us), length-part f t us)
