-- Pieces of lines: texts of at most eight bytes, none of which is a control byte or beyond ASCII.
use Rattle.std.proofs.Common.{◌≡◌, ℕ, zero, suc, ◌*◌, ◌<◌, ◌≤◌, Bool, true, ◌&&◌, nat_lt, nat_le, List, [], ◌∷◌, ◌++◌, length, decimal, bytes_eq, inl, inr, refl, ap₂, subst, arith, length-append, leb-true, ltb-true, lt-ltb}
use Rattle.std.specs.List.{list_all}
use Rattle.std.specs.Fmt.{digits}
use Rattle.std.proofs.lemmas.Bool.{and_parts, cases_lt}
use Rattle.std.proofs.lemmas.Slice.Eq.{bytes_eq-Decides}
use Rattle.json.specs.Print.{escape, escape_byte}
use Rattle.json.proofs.Printed.Utf8.{are_ascii}
use Rattle.pm_gen.specs.Lines.{joined}

abbrev pub is_shown : ℕ → Bool
is_shown b = nat_le 32 b && nat_lt b 127

abbrev pub all_shown : List ℕ → Bool
all_shown text = list_all is_shown text

abbrev pub IsPiece : List ℕ → Type 0
IsPiece text = (all_shown text ≡ true) × (nat_le (length text) 8 ≡ true)

abbrev pub ArePieces : List (List ℕ) → Type 0
ArePieces [] = Unit {0}
ArePieces (p ∷ ps) = IsPiece p × ArePieces ps

pub shown-append : (xs ys : List ℕ) → all_shown xs ≡ true → all_shown ys ≡ true → all_shown (xs ++ ys) ≡ true
shown-append [] ys a b = b
shown-append (x ∷ xs) ys a b = let p = and_parts (is_shown x) (all_shown xs) a in ap₂ ◌&&◌ p.0 (shown-append xs ys p.1 b)

pub shown-joined : (ps : List (List ℕ)) → ArePieces ps → all_shown (joined ps) ≡ true
shown-joined [] h = refl
shown-joined (p ∷ ps) h = shown-append p (joined ps) h.0.0 (shown-joined ps h.1)

pub short-joined : (ps : List (List ℕ)) → ArePieces ps → length (joined ps) ≤ 8 * length ps
short-joined [] h = omega arith
short-joined (p ∷ ps) h =
    let first : length p ≤ 8 = leb-true (length p) 8 h.0.1 in
    let rest : length (joined ps) ≤ 8 * length ps = short-joined ps h.1 in
    omega (arith, length-append p (joined ps))

pub ascii-shown : (xs : List ℕ) → all_shown xs ≡ true → are_ascii xs ≡ true
ascii-shown [] e = refl
ascii-shown (x ∷ xs) e =
    let p = and_parts (is_shown x) (all_shown xs) e in
    let q = and_parts (nat_le 32 x) (nat_lt x 127) p.0 in
    let l : x < 127 = ltb-true x 127 q.1 in
    ap₂ ◌&&◌ (lt-ltb x 128 (omega arith)) (ascii-shown xs p.1)

-- a test of each number below n
abbrev pub below : (ℕ → Bool) → ℕ → Bool
below p zero = true
below p (suc n) = p n && below p n

pub at-below : (p : ℕ → Bool) (n : ℕ) → below p n ≡ true → (k : ℕ) → k < n → p k ≡ true
at-below p zero e k h = absurd (omega arith)
at-below p (suc n) e k h =
    let a = and_parts (p n) (below p n) e in
    elim (cases_lt k n) [
      | inl less ↦ at-below p n a.1 k less
      | inr more ↦ (let same : n ≡ k = omega arith in subst (λ (j : ℕ). p j ≡ true) same a.0)
    ]

-- ---- decimal numbers

abbrev is_plain_number : ℕ → Bool
is_plain_number n = all_shown (decimal n) && (nat_le (length (decimal n)) 8 && bytes_eq (escape (decimal n)) (decimal n))

plain-numbers : below is_plain_number 64 ≡ true
unfolding digits escape_byte
plain-numbers = refl

plain-at : (n : ℕ) → n < 64 → is_plain_number n ≡ true
plain-at n h = at-below is_plain_number 64 plain-numbers n h

pub decimal-piece : (n : ℕ) → n < 64 → IsPiece (decimal n)
decimal-piece n h =
    let p = and_parts (all_shown (decimal n)) (nat_le (length (decimal n)) 8 && bytes_eq (escape (decimal n)) (decimal n)) (plain-at n h) in
    let q = and_parts (nat_le (length (decimal n)) 8) (bytes_eq (escape (decimal n)) (decimal n)) p.1 in
    (p.0, q.0)

pub decimal-plain : (n : ℕ) → n < 64 → escape (decimal n) ≡ decimal n
decimal-plain n h =
    let p = and_parts (all_shown (decimal n)) (nat_le (length (decimal n)) 8 && bytes_eq (escape (decimal n)) (decimal n)) (plain-at n h) in
    let q = and_parts (nat_le (length (decimal n)) 8) (bytes_eq (escape (decimal n)) (decimal n)) p.1 in
    (bytes_eq-Decides (escape (decimal n)) (decimal n)).0 q.1
