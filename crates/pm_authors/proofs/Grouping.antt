-- Runs that grow at their end, and runs as long as can be.
use Rattle.std.specs.Prelude.{◌≡◌, ◌≢◌, ℕ, zero, suc, ◌+◌, ◌≤◌, ◌<◌, ◌^◌, Bool, true, false, ◌==◌, List, [], ◌∷◌, ◌++◌, length, replicate, Some, None, refl}
use Rattle.std.proofs.Common.{arith, ap, sym, subst, ◌∙◌, append-nil, append_assoc, length-append}
use Rattle.std.proofs.lemmas.Bool.{and_parts, eqb-true, eq-eqb, true≢false}
use Rattle.std.proofs.lemmas.List.{length-replicate, replicate-append-replicate}
use Rattle.std.proofs.lemmas.List.Sums.{sum_by-cons}
use Rattle.pm_authors.specs.declared.run.Run.{Run}
use Rattle.pm_authors.specs.Runs.{Author, same_author, spelled, tokens_of, fronted, grouped, AreMaximal}

-- ---- one author

pub one-author : (a b : Author) → same_author a b ≡ true → a ≡ b
one-author None None h = refl
one-author None (Some b) h = absurd (true≢false (sym h))
one-author (Some a) None h = absurd (true≢false (sym h))
one-author (Some a) (Some b) h =
    let p = and_parts (a.client == b.client) (a.serial == b.serial) h in
    ap (λ c. Some (record { client = c; serial = a.serial })) (eqb-true a.client b.client p.0)
    ∙ ap (λ s. Some (record { client = b.client; serial = s })) (eqb-true a.serial b.serial p.1)

itself : (a : Author) → same_author a a ≡ true
itself None = refl
itself (Some a) = rw (eq-eqb a.client a.client refl, eq-eqb a.serial a.serial refl) refl

two-authors : (a b : Author) → same_author a b ≡ false → a ≢ b
two-authors a b h e = true≢false (sym (itself a) ∙ ap (same_author a) e ∙ h)

other-author : (a b : Author) → a ≢ b → same_author a b ≡ false
other-author a b h = from (same_author a b) refl
  where
    from : (t : Bool) → same_author a b ≡ t → same_author a b ≡ false
    from true e = absurd (h (one-author a b e))
    from false e = e

-- ---- growing at the end

spelled-last : (rs : List Run) (r : Run) → spelled (rs ++ r ∷ []) ≡ spelled rs ++ replicate r.count r.author
spelled-last [] r = append-nil (replicate r.count r.author)
spelled-last (s ∷ rs) r =
    ap (λ xs. replicate s.count s.author ++ xs) (spelled-last rs r) ∙ sym (append_assoc (replicate s.count s.author) (spelled rs) (replicate r.count r.author))

last-longer : (rs : List Run) (last : Run) (a : Author) (n : ℕ) → last.author ≡ a
    → spelled (rs ++ record { author = a; count = n + last.count } ∷ []) ≡ spelled (rs ++ last ∷ []) ++ replicate n a
last-longer rs last a n e =
    spelled-last rs (record { author = a; count = n + last.count })
    ∙ ap (λ k. spelled rs ++ replicate k a) (swapped n last.count)
    ∙ ap (λ xs. spelled rs ++ xs) (sym (replicate-append-replicate last.count n a))
    ∙ sym (append_assoc (spelled rs) (replicate last.count a) (replicate n a))
    ∙ ap (λ b. spelled rs ++ replicate last.count b ++ replicate n a) (sym e)
    ∙ ap (λ xs. xs ++ replicate n a) (sym (spelled-last rs last))
  where
    swapped : (j k : ℕ) → j + k ≡ k + j
    swapped j k = omega arith

last-count : (rs : List Run) (last : Run) → last.count ≤ length (spelled (rs ++ last ∷ []))
last-count rs last =
    let long = ap (λ (xs : List Author). length xs) (spelled-last rs last) ∙ length-append (spelled rs) (replicate last.count last.author) in
    let run = length-replicate last.count last.author in
    omega (arith, long, run)

maximal-longer : (rs : List Run) (last run : Run) → last.author ≡ run.author → 0 < run.count → AreMaximal (rs ++ last ∷ []) → AreMaximal (rs ++ run ∷ [])
maximal-longer [] last run e h m = h
maximal-longer (x ∷ []) last run e h m = (m.0, λ q. m.1 (q ∙ sym e), h)
maximal-longer (x ∷ y ∷ rs) last run e h m = (m.0, m.1, maximal-longer (y ∷ rs) last run e h m.2)

maximal-more : (rs : List Run) (last run : Run) → last.author ≢ run.author → 0 < run.count → AreMaximal (rs ++ last ∷ []) → AreMaximal (rs ++ last ∷ [] ++ run ∷ [])
maximal-more [] last run d h m = (m, d, h)
maximal-more (x ∷ []) last run d h m = (m.0, m.1, maximal-more [] last run d h m.2)
maximal-more (x ∷ y ∷ rs) last run d h m = (m.0, m.1, maximal-more (y ∷ rs) last run d h m.2)

-- Runs that one more run follows spell the old ones and so many tokens of this author, and are as long as can be.
pub record IsGrown (old front : List Run) (run : Run) (a : Author) (n : ℕ) : Type 0 where
  pub tokens : spelled (front ++ run ∷ []) ≡ spelled old ++ replicate n a
  pub maximal : AreMaximal old → AreMaximal (front ++ run ∷ [])

pub grown-same : (old front : List Run) (last : Run) (a : Author) (n : ℕ) → 0 < n → old ≡ front ++ last ∷ [] → last.author ≡ a → IsGrown old front (record { author = a; count = n + last.count }) a n
grown-same old front last a n h is e =
    let more : 0 < n + last.count = omega (arith, h) in
    record {
      tokens = last-longer front last a n e ∙ ap (λ rs. spelled rs ++ replicate n a) (sym is);
      maximal = λ m. maximal-longer front last (record { author = a; count = n + last.count }) e more (subst AreMaximal is m);
    }

pub grown-more : (old front all : List Run) (last : Run) (a : Author) (n : ℕ) → 0 < n → old ≡ front ++ last ∷ [] → all ≡ front ++ last ∷ [] → same_author last.author a ≡ false
    → IsGrown old all (record { author = a; count = n }) a n
grown-more old front all last a n h is back d =
    let run : Run = record { author = a; count = n } in
    record {
      tokens = spelled-last all run ∙ ap (λ rs. spelled rs ++ replicate n a) (back ∙ sym is);
      maximal = λ m. subst (λ rs. AreMaximal (rs ++ run ∷ [])) (sym back) (maximal-more front last run (two-authors last.author a d) h (subst AreMaximal is m));
    }

pub grown-first : (old front : List Run) (a : Author) (n : ℕ) → 0 < n → (old ≡ []) × (front ≡ []) → IsGrown old front (record { author = a; count = n }) a n
grown-first old front a n h e =
    let run : Run = record { author = a; count = n } in
    record {
      tokens = spelled-last front run ∙ ap (λ rs. spelled rs ++ replicate n a) (e.1 ∙ sym e.0);
      maximal = λ m. subst (λ rs. AreMaximal (rs ++ run ∷ [])) (sym e.1) h;
    }

-- the last run has room for as many tokens as the runs have
pub room-in : (old front : List Run) (last : Run) (n : ℕ) → old ≡ front ++ last ∷ [] → length (spelled old) + n < 2 ^ 64 → n + last.count < 2 ^ 64
room-in old front last n is h =
    let long = last-count front last in
    let same = ap (λ rs. length (spelled rs)) is in
    omega (arith, long, same, h)

-- ---- as long as can be

-- the first run, where there is one, is another author's
abbrev Opens : Author → List Run → Type 0
Opens a [] = Unit {0}
Opens a (r ∷ rs) = same_author a r.author ≡ false

begun : (a : Author) (rs : List Run) → Opens a rs → fronted a rs ≡ record { author = a; count = 1 } ∷ rs
begun a [] o = refl
begun a (r ∷ rs) o = rw o refl

gone-on : (a : Author) (n : ℕ) (xs : List Author) (rs : List Run) → grouped xs ≡ rs → Opens a rs → grouped (replicate (suc n) a ++ xs) ≡ record { author = a; count = suc n } ∷ rs
gone-on a zero xs rs e o = ap (fronted a) e ∙ begun a rs o
gone-on a (suc n) xs rs e o = ap (fronted a) (gone-on a n xs rs e o) ∙ rw (itself a) (ap (λ k. record { author = a; count = k } ∷ rs) (one-more (suc n)))
  where
    one-more : (k : ℕ) → k + 1 ≡ suc k
    one-more k = omega arith

led : (a : Author) (n : ℕ) (rs : List Run) → 0 < n → grouped (spelled rs) ≡ rs → Opens a rs → grouped (replicate n a ++ spelled rs) ≡ record { author = a; count = n } ∷ rs
led a zero rs h e o = absurd (omega (arith, h))
led a (suc n) rs h e o = gone-on a n (spelled rs) rs e o

-- runs as long as can be are those of their own tokens
pub grouped-spelled : (rs : List Run) → AreMaximal rs → grouped (spelled rs) ≡ rs
grouped-spelled [] m = refl
grouped-spelled (r ∷ []) m = led r.author r.count [] m refl tt
grouped-spelled (r ∷ s ∷ rs) m = led r.author r.count (s ∷ rs) m.0 (grouped-spelled (s ∷ rs) m.2) (other-author r.author s.author m.1)

pub length-spelled : (rs : List Run) → length (spelled rs) ≡ tokens_of rs
length-spelled [] = refl
length-spelled (r ∷ rs) =
    length-append (replicate r.count r.author) (spelled rs) ∙ ap (λ n. n + length (spelled rs)) (length-replicate r.count r.author) ∙ ap (λ n. r.count + n) (length-spelled rs)
    ∙ sym (sum_by-cons (λ (s : Run). s.count) r rs)
