-- Lists in parts.
use Rattle.std.specs.Prelude.{◌≡◌, ℕ, zero, suc, ◌+◌, ◌-◌, ◌≤◌, List, [], ◌∷◌, ◌++◌, length, take, drop, All, refl}
use Rattle.std.specs.List.{AllByRecursion as Each}
use Rattle.std.proofs.Common.{sym, ap, arith}
use Rattle.std.proofs.lemmas.List.Elements.{All-append, All-from_recursion}

pub All-more : {X : Type 0} (P Q : X → Type 0) (xs : List X) → ((x : X) → P x → Q x) → All P xs → All Q xs
All-more P Q xs f h k d l = f _ (h k d l)

pub All-push : {X : Type 0} (P : X → Type 0) (xs : List X) (y : X) → All P xs → P y → All P (xs ++ y ∷ [])
All-push P xs y h p = All-append P xs (y ∷ []) h (All-from_recursion P (y ∷ []) (p, tt))

pub Each-append : {X : Type 0} (P : X → Type 0) (xs ys : List X) → Each P xs → Each P ys → Each P (xs ++ ys)
Each-append P [] ys h k = k
Each-append P (x ∷ xs) ys h k = (h.0, Each-append P xs ys h.1 k)

pub Each-front : {X : Type 0} (P : X → Type 0) (xs ys : List X) → Each P (xs ++ ys) → Each P xs
Each-front P [] ys h = tt
Each-front P (x ∷ xs) ys h = (h.0, Each-front P xs ys h.1)

pub Each-back : {X : Type 0} (P : X → Type 0) (xs ys : List X) → Each P (xs ++ ys) → Each P ys
Each-back P [] ys h = h
Each-back P (x ∷ xs) ys h = Each-back P xs ys h.1

-- a list without length is empty
pub nothing : {A : Type 0} (xs : List A) → length xs ≡ 0 → xs ≡ []
nothing [] h = refl
nothing (x ∷ xs) h = absurd (omega arith)

-- the front of two lists is the first
pub take-seam : {A : Type 0} (xs ys : List A) (k : ℕ) → length xs ≡ k → take k (xs ++ ys) ≡ xs
take-seam [] ys zero e = refl
take-seam [] ys (suc k) e = absurd (omega arith)
take-seam (x ∷ xs) ys zero e = absurd (omega arith)
take-seam (x ∷ xs) ys (suc k) e = ap (λ l. x ∷ l) (take-seam xs ys k (omega arith))

-- a part of a list from before a place to past it, and what stands from that place on
pub part-past : {A : Type 0} (before entries after front past : List A) → before ++ entries ++ after ≡ front ++ past
    → length before ≤ length front → length front ≤ length before + length entries → drop (length front - length before) entries ++ after ≡ past
part-past [] entries after [] past e l u = e
part-past [] [] after (y ∷ front) past e l u = absurd (omega arith)
part-past [] (x ∷ entries) after (y ∷ front) past e l u =
    let t : entries ++ after ≡ front ++ past = cc in
    let r = part-past [] entries after front past t (omega arith) (omega arith) in
    let f : suc (length front) - 0 ≡ suc (length front - 0) = omega arith in rw f r
part-past (x ∷ before) entries after [] past e l u = absurd (omega arith)
part-past (x ∷ before) entries after (y ∷ front) past e l u =
    let t : before ++ entries ++ after ≡ front ++ past = cc in
    let r = part-past before entries after front past t (omega arith) (omega arith) in
    let f : suc (length front) - suc (length before) ≡ length front - length before = omega arith in rw f r

-- two ways to part a list, the second at an earlier place
pub two-parts : {A : Type 0} (rest after standing foreign : List A) → rest ++ after ≡ standing ++ foreign → length standing ≤ length rest
    → (front : List A) × (rest ≡ standing ++ front) × (foreign ≡ front ++ after)
two-parts rest after [] foreign e l = (rest, refl, sym e)
two-parts [] after (x ∷ standing) foreign e l = absurd (omega arith)
two-parts (y ∷ rest) after (x ∷ standing) foreign e l =
    let t : rest ++ after ≡ standing ++ foreign = cc in
    let h : y ≡ x = cc in
    let p = two-parts rest after standing foreign t (omega arith) in
    (p.0, rw h (ap (λ r. x ∷ r) p.1), p.2)
