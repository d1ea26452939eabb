-- The states that were found, as bits.
use Rattle.std.proofs.Common.{◌≡◌, ℕ, zero, suc, ◌<◌, List, [], ◌∷◌, ◌++◌, length, get_or, inl, inr, ap, sym, ◌∙◌, subst, arith, append-nil, length-append}
use Rattle.pm_auto.specs.declared.places.Row.{Row}
use Rattle.pm_auto.specs.declared.sets.PlaceSet.{PlaceSet}
use Rattle.pm_auto.specs.declared.sets.BitSet.{BitSet}
use Rattle.pm_auto.specs.declared.known.Known.{Known}
use Rattle.pm_auto.specs.States.{set_at}
use Rattle.pm_auto.specs.Found.{Grows, Placed}
use Rattle.pm_auto.specs.Bits.{as_set}
use Rattle.pm_auto.specs.Known.{All_known, Recalls}
use Rattle.pm_auto.proofs.StateLaws.{grows-at, grows-length, at-end}

pub recalls-at : (ks : List Known) (i : ℕ) (k : Known) (s : BitSet) → i < length ks → k ≡ get_or ks i k → k.set ≡ s → Recalls s k.state ks
recalls-at [] i k s l is e = absurd (omega arith)
recalls-at (x ∷ ks) zero k s l is e = inl (ap (λ (y : Known). y.set) (sym is) ∙ e, ap (λ (y : Known). y.state) (sym is))
recalls-at (x ∷ ks) (suc i) k s l is e = inr (recalls-at ks i k s (omega arith) is e)

-- what is recalled is a state that was found
pub recalled : (rs : List Row) (ss : List PlaceSet) (s : BitSet) (t : ℕ) (ks : List Known) → All_known rs ss ks → Recalls s t ks → (t < length ss) × (set_at ss t ≡ as_set rs s)
recalled rs ss s t [] h r = absurd r
recalled rs ss s t (k ∷ ks) h (inl e) =
    (subst (λ n. n < length ss) e.1 h.0.0, ap (set_at ss) (sym e.1) ∙ sym h.0.1 ∙ ap (as_set rs) e.0)
recalled rs ss s t (k ∷ ks) h (inr r) = recalled rs ss s t ks h.1 r

pub known-grows : (rs : List Row) (a b : List PlaceSet) (ks : List Known) → Grows a b → All_known rs a ks → All_known rs b ks
known-grows rs a b [] g h = tt
known-grows rs a b (k ∷ ks) g h =
    ((let n = grows-length a b g in let l = h.0.0 in omega (arith, n, l), h.0.1 ∙ sym (grows-at a b k.state g h.0.0)), known-grows rs a b ks g h.1)

known-end : (rs : List Row) (ss : List PlaceSet) (ks : List Known) (k : Known) → All_known rs ss ks → k.state < length ss → as_set rs k.set ≡ set_at ss k.state → All_known rs ss (ks ++ k ∷ [])
known-end rs ss [] k h l e = ((l, e), tt)
known-end rs ss (x ∷ ks) k h l e = (h.0, known-end rs ss ks k h.1 l e)

placed-grows : (old new : List PlaceSet) (s : PlaceSet) (t : ℕ) → Placed old s t new → Grows old new × (t < length new) × (set_at new t ≡ s)
placed-grows old new s t (inl p) =
    (([], p.0 ∙ sym (append-nil old)), subst (λ (ss : List PlaceSet). t < length ss) (sym p.0) p.1, ap (λ (ss : List PlaceSet). set_at ss t) p.0 ∙ p.2)
placed-grows old new s t (inr p) =
    ((s ∷ [], p.0), (let n = ap length p.0 ∙ length-append old (s ∷ []) in omega (arith, n, p.1)), ap (λ (ss : List PlaceSet). set_at ss t) p.0 ∙ ap (set_at (old ++ s ∷ [])) p.1 ∙ at-end old s)

-- one state more is known
pub known-placed : (rs : List Row) (old new : List PlaceSet) (ks : List Known) (k : Known) (s : PlaceSet) → All_known rs old ks → s ≡ as_set rs k.set → Placed old s k.state new → All_known rs new (ks ++ k ∷ [])
known-placed rs old new ks k s h e p =
    let q = placed-grows old new s k.state p in
    known-end rs new ks k (known-grows rs old new ks q.0 h) q.1 (sym e ∙ sym q.2)
