-- Pairs in a mapping that grows stay pairs.
use Rattle.std.specs.Prelude.{◌≡◌, ◌==◌, ℕ, zero, suc, ◌<◌, true, List, [], ◌∷◌, ◌++◌, length, Option, Some, None, refl}
use Rattle.std.proofs.Common.{arith, length-append}
use Rattle.std.proofs.lemmas.Bool.{eqb-true, eq-eqb, and_parts, and_from, true≢false}
use Rattle.pm_map.specs.declared.step_map.Span.{Span}
use Rattle.pm_map.specs.declared.mapping.Mirrored.{Mirrored}
use Rattle.pm_map.specs.Through.{partner, IsPairedAt, ArePaired, SameShape}
use Rattle.pm_map.specs.Mirrors.{has_shape, entry, gap_for, fronted, enclosed, pushed, awaiting, paired_with}

pub fit-shape : (rs ss : List Span) → has_shape rs ss ≡ true → SameShape rs ss
fit-shape [] [] h = tt
fit-shape [] (s ∷ ss) h = absurd (true≢false (cc))
fit-shape (r ∷ rs) [] h = absurd (true≢false (cc))
fit-shape (r ∷ rs) (s ∷ ss) h = let p = and_parts (s.new_size == r.old_size) (has_shape rs ss) h in (eqb-true s.new_size r.old_size p.0, fit-shape rs ss p.1)

pub partner-append : (es fs : List Mirrored) (k : ℕ) → k < length es → partner (es ++ fs) k ≡ partner es k
partner-append [] fs k h = absurd (omega arith)
partner-append (e ∷ es) fs zero h = refl
partner-append (e ∷ es) fs (suc k) h = partner-append es fs k (omega arith)

pub paired_at-append : (ranges : List Span) (later : Option ℕ) (es fs : List Mirrored) → IsPairedAt ranges later es → IsPairedAt ranges later (es ++ fs)
paired_at-append ranges None es fs h = tt
paired_at-append ranges (Some gap) es fs h = (omega (arith, h.0, length-append es fs), h.1, rw (partner-append es fs gap h.0) h.2)

pub paired-append : (es fs : List Mirrored) → ArePaired es → ArePaired fs → ArePaired (es ++ fs)
paired-append [] fs h k = k
paired-append (e ∷ es) fs h k = (paired_at-append e.map e.later es fs h.0, paired-append es fs h.1 k)

pub last-partner : (ms : List Mirrored) (e : Mirrored) → partner (ms ++ e ∷ []) (length ms) ≡ e.map
last-partner [] e = refl
last-partner (d ∷ ms) e = last-partner ms e

paired_at-last : (front : List Span) (ms : List Mirrored) (behind : List Span) → SameShape front behind → IsPairedAt front (gap_for front (length ms)) (pushed ms behind)
paired_at-last [] ms behind same = tt
paired_at-last (r ∷ rs) ms behind same =
    (omega (arith, length-append ms (entry behind None ∷ [])), omega arith, rw (last-partner ms (entry behind None)) same)

-- a pair around a mapping
pub paired-enclosed : (ms : List Mirrored) (front behind : List Span) → SameShape front behind → ArePaired (ms ++ entry behind None ∷ []) → ArePaired (enclosed ms front behind)
paired-enclosed ms front behind same paired = (paired_at-last front ms behind same, paired)

pub paired-fronted : (ms : List Mirrored) (front : List Span) → ArePaired ms → ArePaired (fronted ms front)
paired-fronted ms front h = (tt, h)

pub paired-around : (ms : List Mirrored) (front behind : List Span) → SameShape front behind → ArePaired ms → ArePaired (enclosed ms front behind)
paired-around ms front behind same h = paired-enclosed ms front behind same (paired-append ms (entry behind None ∷ []) h (tt, tt))

-- a pair of an earlier map and a new one after
length-awaiting : (ms : List Mirrored) (i : ℕ) → length (awaiting ms i) ≡ length ms
length-awaiting [] i = refl
length-awaiting (e ∷ es) zero = refl
length-awaiting (e ∷ es) (suc i) = rw (length-awaiting es i) refl

partner-awaiting : (ms : List Mirrored) (i k : ℕ) → partner (awaiting ms i) k ≡ partner ms k
partner-awaiting [] i k = refl
partner-awaiting (e ∷ es) zero zero = refl
partner-awaiting (e ∷ es) zero (suc k) = refl
partner-awaiting (e ∷ es) (suc i) zero = refl
partner-awaiting (e ∷ es) (suc i) (suc k) = partner-awaiting es i k

paired_at-awaiting : (ranges : List Span) (later : Option ℕ) (es : List Mirrored) (i : ℕ) → IsPairedAt ranges later es → IsPairedAt ranges later (awaiting es i)
paired_at-awaiting ranges None es i h = tt
paired_at-awaiting ranges (Some gap) es i h = (rw (length-awaiting es i) h.0, h.1, rw (partner-awaiting es i gap) h.2)

pub paired-with : (ms : List Mirrored) (map : List Span) (i : ℕ) → SameShape (partner ms i) map → ArePaired ms → ArePaired (paired_with ms map i)
paired-with [] map i same h = (tt, tt)
paired-with (e ∷ es) map zero same h = (paired_at-last e.map es map same, paired-append es (entry map None ∷ []) h.1 (tt, tt))
paired-with (e ∷ es) map (suc i) same h =
    (paired_at-append e.map e.later (awaiting es i) (entry map None ∷ []) (paired_at-awaiting e.map e.later es i h.0), paired-with es map i same h.1)
