-- Few items, and items however they lie.
use Rattle.std.specs.Prelude.{◌≡◌, ℕ, ◌+◌, ◌-◌, ◌≤◌, ◌<◌, ◌^◌, List, [], ◌∷◌, ◌++◌, length, take, get_or}
use Rattle.std.specs.declared.sync.Arc.{Arc}
use Rattle.std.specs.declared.alloc.Global.{Global}
use Rattle.std.specs.Arc.{arc_value}
use Rattle.std.proofs.Common.{zero, suc, ap, sym, ◌∙◌, subst, arith, length-append}
use Rattle.std.proofs.lemmas.List.{take_more, get_or_default}
use Rattle.pm_sized.specs.declared.few.Few.{Few}
use Rattle.pm_sized.specs.declared.chunks.Chunks.{Chunks}
use Rattle.pm_sized.specs.declared.chunks.Chunks.TheVariants.{Few as AsFew, Many as AsMany, Groups as AsGroups}
use Rattle.pm_sized.specs.Pairs.{pairs_of, total_of, EachCounts, IsFew, IsLaid, Stands}
use Rattle.pm_sized.specs.Parts.{part, all_but_last, values_in}
use Rattle.pm_sized.specs.Bound.{find_bound}
use Rattle.pm_sized.proofs.PairLaws.{total_of-append}
use Rattle.pm_sized.proofs.PartLaws.{values-append, values-part, part-one, values-take, length-values, counts-append, total-next, part-front}
use Rattle.pm_sized.proofs.LastLaws.{split-last}

module _ {T : Type 0} (ps : List (T × ℕ)) (i : ℕ) (p : T × ℕ) (l : i < length ps) (e : p ≡ get_or ps i p) where
  -- the first items and one more
  pub first-more : take (i + 1) ps ≡ take i ps ++ p ∷ []
  first-more = take_more ps i p l ∙ ap (λ z. take i ps ++ z ∷ []) (sym e)

  pub total-more : total_of (take (i + 1) ps) ≡ total_of (take i ps) + p.1
  total-more = omega (arith, ap total_of first-more, total_of-append (take i ps) (p ∷ []))

  -- they have no greater sum than all
  pub total-within : total_of (take i ps) + p.1 ≤ total_of ps
  total-within = omega (arith, total-next 0 i ps p (omega arith) l e, ap total_of (part-front i ps))

  -- a position before the end of item i stands there
  pub stands-first : (pos start : ℕ) → start ≡ total_of (take i ps) → start ≤ pos → pos < start + p.1 → Stands ps pos i start
  stands-first pos start s low high = record { within = omega (arith, l); start_is = s; reached = low; next = λ _. omega (arith, total-more, s, high) }

pub counts-at : {T : Type 0} (ps : List (T × ℕ)) (i : ℕ) (p : T × ℕ) → EachCounts ps → i < length ps → p ≡ get_or ps i p → 1 ≤ p.1
counts-at [] i p h l e = absurd (omega (arith, l))
counts-at (q ∷ ps) zero p h l e = omega (arith, h.0, ap (λ z. z.1) e)
counts-at (q ∷ ps) (suc i) p h l e = counts-at ps i p h.1 (omega (arith, l)) e

pub counts-take : {T : Type 0} (n : ℕ) (ps : List (T × ℕ)) → EachCounts ps → EachCounts (take n ps)
counts-take zero ps h = tt
counts-take (suc n) [] h = tt
counts-take (suc n) (p ∷ ps) h = (h.0, counts-take n ps h.1)

-- one item more
pub few-push : {T : Type 0} (f g : Few T) (x : T) (m : ℕ) → g.items.items ≡ f.items.items ++ (x, m) ∷ [] → g.total ≡ f.total + m → IsFew f → length f.items.items < 6 → 1 ≤ m → total_of f.items.items + m < 2 ^ 32 → IsFew g
few-push {T} f g x m e t h fewer some room =
    let xs = f.items.items in
    let p : T × ℕ = (x, m) in
    record {
      counts = subst EachCounts (sym e) (counts-append xs (p ∷ []) h.counts (some, tt));
      most = omega (arith, ap length e, length-append xs (p ∷ []), fewer);
      total = omega (arith, t, h.total, ap total_of e, total_of-append xs (p ∷ []));
      bound = omega (arith, t, h.total, room);
    }

-- another item in the place of the last one
module _ {T : Type 0} (xs : List (T × ℕ)) (q : T × ℕ) (some : 0 < length xs) (e : q ≡ get_or xs (length xs - 1) q) where
  pub total-all : total_of xs ≡ total_of (all_but_last xs) + q.1
  total-all = omega (arith, ap total_of (split-last xs q some e), total_of-append (all_but_last xs) (q ∷ []))

pub few-last : {T : Type 0} (f g : Few T) (q : T × ℕ) (x : T) (m : ℕ) → 0 < length f.items.items → q ≡ get_or f.items.items (length f.items.items - 1) q → g.items.items ≡ all_but_last f.items.items ++ (x, m) ∷ [] → g.total ≡ (f.total - q.1) + m → IsFew f → 1 ≤ m → total_of (all_but_last f.items.items) + m < 2 ^ 32 → IsFew g
few-last {T} f g q x m some is e t h counts room =
    let xs = f.items.items in
    let p : T × ℕ = (x, m) in
    let n = length xs - 1 in
    let all = total-all xs q some is in
    record {
      counts = subst EachCounts (sym e) (counts-append (all_but_last xs) (p ∷ []) (counts-take n xs h.counts) (counts, tt));
      most = omega (arith, ap length e, length-append (all_but_last xs) (p ∷ []), ap length (split-last xs q some is), length-append (all_but_last xs) (q ∷ []), h.most);
      total = omega (arith, t, h.total, all, ap total_of e, total_of-append (all_but_last xs) (p ∷ []));
      bound = omega (arith, t, h.total, all, room);
    }

-- values of the first items and one more
pub values-more-of : {T : Type 0} (ps : List (Arc T Global × ℕ)) (i : ℕ) (p : Arc T Global × ℕ) (item : Arc T Global) (m : ℕ) (vs : List (T × ℕ)) → i < length ps → p ≡ get_or ps i p → arc_value item ≡ arc_value p.0 → m ≡ p.1 → vs ≡ values_in (take i ps) → vs ++ (arc_value item, m) ∷ [] ≡ values_in (take (i + 1) ps)
values-more-of ps i p item m vs l e a k s =
    ap (λ z. z ++ (arc_value item, m) ∷ []) s ∙ (ap (λ z. values_in (take i ps) ++ (z, m) ∷ []) a ∙ (ap (λ z. values_in (take i ps) ++ (arc_value p.0, z) ∷ []) k
    ∙ (sym (values-append (take i ps) (p ∷ [])) ∙ ap values_in (sym (first-more ps i p l e)))))

-- the sum of items that lie as they should is below 2^32
pub laid-bound : {T : Type 0} (c : Chunks T) → IsLaid c → total_of (pairs_of c) < 2 ^ 32
laid-bound (AsFew f) h = omega (arith, h.total, h.bound)
laid-bound (AsMany m) h = omega (arith, h.total, h.bound)
laid-bound (AsGroups b) h = h.bound

-- a search of few takes no more steps than are counted for a chunk
pub few-bound : {T : Type 0} (ps : List (T × ℕ)) (before after : ℕ) → length ps ≤ 6 → after ≤ before + length ps → after ≤ before + find_bound (length ps)
unfolding find_bound
few-bound ps before after h k = omega (arith, h, k)

-- the values before the last one
pub front-values : {T : Type 0} (ps : List (Arc T Global × ℕ)) → values_in (all_but_last ps) ≡ all_but_last (values_in ps)
front-values ps = values-take (length ps - 1) ps ∙ ap (λ n. take (n - 1) (values_in ps)) (sym (length-values ps))

-- another one in the place of the last one, seen by values
pub values-last : {T : Type 0} (ps qs : List (Arc T Global × ℕ)) (x : Arc T Global) (m : ℕ) → qs ≡ all_but_last ps ++ (x, m) ∷ [] → values_in qs ≡ all_but_last (values_in ps) ++ (arc_value x, m) ∷ []
values-last ps qs x m e = ap values_in e ∙ (values-append (all_but_last ps) ((x, m) ∷ []) ∙ ap (λ z. z ++ (arc_value x, m) ∷ []) (front-values ps))

pub values-push : {T : Type 0} (ps qs : List (Arc T Global × ℕ)) (x : Arc T Global) (m : ℕ) → qs ≡ ps ++ (x, m) ∷ [] → values_in qs ≡ values_in ps ++ (arc_value x, m) ∷ []
values-push ps qs x m e = ap values_in e ∙ values-append ps ((x, m) ∷ [])

-- one value
pub one-value : {T : Type 0} (ps : List (Arc T Global × ℕ)) (i : ℕ) (p : Arc T Global × ℕ) → i < length ps → p ≡ get_or ps i p → part i (i + 1) (values_in ps) ≡ (arc_value p.0, p.1) ∷ []
one-value ps i p l e = sym (values-part i (i + 1) ps) ∙ ap values_in (part-one i ps p l e)

-- an item and its measure
pub entry-is : {T : Type 0} (ps : List (Arc T Global × ℕ)) (i : ℕ) (x : Arc T Global) (m : ℕ) → i < length ps → x ≡ (get_or {A = Arc T Global × ℕ} ps i (x, 0)).0 → m ≡ (get_or {A = Arc T Global × ℕ} ps i (x, 0)).1 → part i (i + 1) (values_in ps) ≡ (arc_value x, m) ∷ []
entry-is {T} ps i x m l e f =
    let d : Arc T Global × ℕ = get_or ps i (x, 0) in
    let p : (x, m) ≡ d = ap (λ z. (z, m)) e ∙ ap (λ z. (d.0, z)) f in
    one-value ps i (x, m) l (p ∙ get_or_default ps i (x, 0) (x, m) l)

-- a search of items that are few
pub few-steps : {T : Type 0} (c : Chunks T) (f : Few T) (before after : ℕ) → c ≡ AsFew f → IsLaid c → after ≤ before + length f.items.items → after ≤ before + find_bound (length (pairs_of c))
few-steps {T} c f before after e h k =
    let P : Chunks T → Type 0 = λ z. after ≤ before + find_bound (length (pairs_of z)) in
    let Q : Chunks T → Type 0 = IsLaid in
    let l : IsFew f = subst Q e h in
    subst P (sym e) (few-bound f.items.items before after l.most k)
