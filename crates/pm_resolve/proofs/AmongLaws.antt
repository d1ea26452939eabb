-- A position among children: how many end at or before it, and how deep it is.
use Rattle.std.specs.Prelude.{◌≡◌, ℕ, zero, suc, ◌+◌, ◌-◌, ◌≤◌, ◌<◌, nat_le, cond, List, [], ◌∷◌, ◌++◌, length, take, get_or}
use Rattle.std.specs.List.{filter}
use Rattle.std.specs.declared.sync.Arc.{Arc}
use Rattle.std.specs.Arc.{arc_value}
use Rattle.std.proofs.Common.{refl, ap, ◌∙◌, arith, length-append, inl, inr}
use Rattle.std.proofs.lemmas.Bool.{le-leb, lt-leb, cases_lt}
use Rattle.std.proofs.lemmas.List.{take_all, take-append-le}
use Rattle.pm_tokens.specs.Tokens.{Attrs, Marks, Token}
use Rattle.pm_tokens.specs.Scan.{unclosed, depth_at, Balanced, none}
use Rattle.pm_tokens.specs.Kids.{text_tokens}
use Rattle.pm_tokens.proofs.ListLaws.{take_over, take-nil}
use Rattle.pm_tokens.proofs.ScanLaws.{unclosed-append}
use Rattle.pm_tokens.proofs.BalanceLaws.{unclosed-balanced, balanced-append}
use Rattle.pm_node.specs.declared.node.Node.{Node}
use Rattle.pm_node.specs.declared.node.Body.{Body}
use Rattle.pm_node.specs.declared.node.Body.TheVariants.{Text, Leaf as Childless, Children}
use Rattle.pm_node.specs.Trees.{node_tokens, body_tokens, list_tokens, IsNormal, EachWhole}
use Rattle.pm_node.specs.Among.{Stands}
use Rattle.pm_node.proofs.WalkLaws.{front, whole-node}
use Rattle.pm_node.proofs.KindLaws.{child_tokens, children-list}
use Rattle.pm_resolve.specs.Places.{ends, ended}

-- ---- how many end at or before it

none-ended : (cs : List (List Token)) (at p : ℕ) → p < at → filter (λ e. nat_le e p) (ends at cs) ≡ []
none-ended [] at p h = refl
none-ended (c ∷ cs) at p h =
    ap (λ b. cond b ((at + length c) ∷ filter (λ e. nat_le e p) (ends (at + length c) cs)) (filter (λ e. nat_le e p) (ends (at + length c) cs))) (lt-leb (at + length c) p (omega (arith, h)))
    ∙ none-ended cs (at + length c) p (omega (arith, h))

counted : {Z : Type 0} (xs : List (Arc Node Z)) (at i r p : ℕ) → at + (length (front xs i) + r) ≡ p → i ≤ length xs → ((x : Arc Node Z) → i < length xs → x ≡ get_or xs i x → r < length (node_tokens (arc_value x)))
    → length (filter (λ e. nat_le e p) (ends at (child_tokens xs))) ≡ i
counted [] at zero r p e h f = refl
counted [] at (suc i) r p e h f = absurd (omega (arith, h))
counted (x ∷ xs) at zero r p e h f =
    let n = length (node_tokens (arc_value x)) in
    let lt : r < n = f x (omega arith) refl in
    let rest = ends (at + n) (child_tokens xs) in
    ap (λ b. length (cond b ((at + n) ∷ filter (λ e. nat_le e p) rest) (filter (λ e. nat_le e p) rest))) (lt-leb (at + n) p (omega (arith, e, lt)))
    ∙ ap length (none-ended (child_tokens xs) (at + n) p (omega (arith, e, lt)))
counted (x ∷ xs) at (suc i) r p e h f =
    let t = node_tokens (arc_value x) in
    let n = length t in
    let rest = ends (at + n) (child_tokens xs) in
    let l : length (t ++ front xs i) ≡ n + length (front xs i) = length-append t (front xs i) in
    ap (λ b. length (cond b ((at + n) ∷ filter (λ e. nat_le e p) rest) (filter (λ e. nat_le e p) rest))) (le-leb (at + n) p (omega (arith, e, l)))
    ∙ ap suc (counted xs (at + n) i r p (omega (arith, e, l)) (omega (arith, h)) (λ y lt s. f y (omega (arith, lt)) s))

pub ended-stands : {Z : Type 0} (xs : List (Arc Node Z)) (pos i r : ℕ) → IsNormal xs → EachWhole xs → Stands xs pos i r → ended (list_tokens xs) pos ≡ i
ended-stands xs pos i r n w s =
    ap (λ cs. length (filter (λ e. nat_le e pos) (ends 0 cs))) (children-list xs n w) ∙ counted xs 0 i r pos (omega (arith, s.offset)) s.within s.inside

-- ---- how deep it is

pub front-whole : {Z : Type 0} (xs : List (Arc Node Z)) (i : ℕ) → EachWhole xs → Balanced (front xs i)
front-whole xs zero w = none
front-whole [] (suc i) w = none
front-whole (x ∷ xs) (suc i) w = balanced-append (whole-node (arc_value x) w.0) (front-whole xs i w.1)

-- between whole nodes it is in none
pub depth-between : (xs ys : List Token) (p : ℕ) → Balanced xs → p ≡ length xs → depth_at (xs ++ ys) p ≡ 0
depth-between xs ys p b e =
    let t : take p (xs ++ ys) ≡ xs = take-append-le p xs ys (omega (arith, e)) ∙ take_all p xs (omega (arith, e)) in
    ap (λ z. length (unclosed [] z)) t ∙ ap length (unclosed-balanced [] b)

unclosed-text : (s : List ℕ) (n : ℕ) (m : Marks) (us : List ℕ) → unclosed s (take n (text_tokens m us)) ≡ s
unclosed-text s zero m us = refl
unclosed-text s (suc n) m [] = refl
unclosed-text s (suc n) m (u ∷ us) = unclosed-text s n m us

unclosed-flat : (k : ℕ) (a : Attrs) (m : Marks) (b : Body) (n : ℕ) → ((ts : List Token) → b ≡ Children ts → ⊥) → unclosed [] (take n (body_tokens k a m b)) ≡ []
unclosed-flat k a m (Text us) n h = unclosed-text [] n m us
unclosed-flat k a m Childless zero h = refl
unclosed-flat k a m Childless (suc n) h = ap (unclosed []) (take-nil n)
unclosed-flat k a m (Children ts) n h = absurd (h ts refl)

-- nor is it in a text or a leaf
pub depth-flat : (xs ys : List Token) (n : Node) (p r : ℕ) → Balanced xs → p ≡ length xs + r → r ≤ length (node_tokens n) → ((ts : List Token) → n.body ≡ Children ts → ⊥) → depth_at (xs ++ (node_tokens n ++ ys)) p ≡ 0
depth-flat xs ys n p r b e h f =
    let t = node_tokens n in
    let q : p - length xs ≡ r = omega (arith, e) in
    let split : take p (xs ++ (t ++ ys)) ≡ xs ++ take r t =
    take_over p xs (t ++ ys) ∙ (ap (λ z. z ++ take (p - length xs) (t ++ ys)) (take_all p xs (omega (arith, e))) ∙ (ap (λ k. xs ++ take k (t ++ ys)) q ∙ ap (λ z. xs ++ z) (take-append-le r t ys h))) in
    ap (λ z. length (unclosed [] z)) split
    ∙ (ap length (unclosed-append [] xs (take r t)) ∙ (ap (λ s. length (unclosed s (take r t))) (unclosed-balanced [] b) ∙ ap length (unclosed-flat n.kind n.attrs n.marks n.body r f)))

-- a position that is into the next child has one
pub next-there : {Z : Type 0} {xs : List (Arc Node Z)} {pos i r : ℕ} → Stands xs pos i r → 0 < r → i < length xs
next-there {xs = xs} {i = i} s h = elim (cases_lt i (length xs)) [
  | inl lt ↦ lt
  | inr ge ↦ let w = s.within in let z = s.at_end (omega (arith, w, ge)) in absurd (omega (arith, z, h))
]
