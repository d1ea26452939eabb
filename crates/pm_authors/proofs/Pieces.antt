-- A part of the tokens of runs, run by run.
use Rattle.std.specs.Prelude.{◌≡◌, ℕ, zero, suc, ◌+◌, ◌-◌, ◌<◌, ◌^◌, min, List, ◌∷◌, ◌++◌, length, take, drop, replicate, refl}
use Rattle.std.proofs.Common.{arith, ap, sym, ◌∙◌, append_assoc, get_or}
use Rattle.std.proofs.lemmas.List.{drop_more}
use Rattle.pm_authors.specs.declared.run.Run.{Run}
use Rattle.pm_authors.specs.Runs.{Author, spelled}

module _ {A : Type 0} where
  drop-front : (a : A) (rest : List A) (n skip : ℕ) → drop skip (replicate n a ++ rest) ≡ replicate (n - skip) a ++ drop (skip - n) rest
  drop-front a rest zero skip =
      let e : 0 - skip ≡ 0 = omega arith in
      let d : skip - 0 ≡ skip = omega arith in
      rw (e, d) refl
  drop-front a rest (suc n) zero =
      let e : suc n - 0 ≡ suc n = omega arith in
      let d : 0 - suc n ≡ 0 = omega arith in
      rw (e, d) refl
  drop-front a rest (suc n) (suc skip) =
      let e : suc n - suc skip ≡ n - skip = omega arith in
      let d : suc skip - suc n ≡ skip - n = omega arith in
      rw (e, d) (drop-front a rest n skip)

  take-front : (a : A) (rest : List A) (n left : ℕ) → take left (replicate n a ++ rest) ≡ replicate (min n left) a ++ take (left - min n left) rest
  take-front a rest zero left =
      let e : min 0 left ≡ 0 = omega arith in
      let d : left - 0 ≡ left = omega arith in
      rw (e, d) refl
  take-front a rest (suc n) zero =
      let e : min (suc n) 0 ≡ 0 = omega arith in
      rw e refl
  take-front a rest (suc n) (suc left) =
      let e : min (suc n) (suc left) ≡ suc (min n left) = omega arith in
      let d : suc left - suc (min n left) ≡ left - min n left = omega arith in
      rw (e, d) (ap (λ xs. a ∷ xs) (take-front a rest n left))

-- what is to come of these runs: so many tokens, without so many before them
abbrev pub coming : ℕ → ℕ → List Run → List Author
coming left skip rs = take left (drop skip (spelled rs))

coming-run : (r : Run) (rs : List Run) (left skip taken : ℕ) → taken ≡ min (r.count - skip) left
    → coming left skip (r ∷ rs) ≡ replicate taken r.author ++ coming (left - taken) (skip - r.count) rs
coming-run r rs left skip taken e =
    ap (take left) (drop-front r.author (spelled rs) r.count skip)
    ∙ take-front r.author (drop (skip - r.count) (spelled rs)) (r.count - skip) left
    ∙ ap (λ k. replicate k r.author ++ coming (left - k) (skip - r.count) rs) (sym e)

-- What was copied and what is to come of the runs from place i on are all of these.
pub record IsCopied (runs : List Run) (i left skip : ℕ) (so all : List Author) : Type 0 where
  pub same : so ++ coming left skip (drop i runs) ≡ all
  pub fits : length all < 2 ^ 64

pub one-copied : (runs : List Run) (i : ℕ) (d : Run) (left skip taken next : ℕ) (so new all : List Author) → i < length runs → taken ≡ min ((get_or runs i d).count - skip) left
    → next ≡ skip - (get_or runs i d).count → new ≡ so ++ replicate taken (get_or runs i d).author → IsCopied runs i left skip so all → IsCopied runs (i + 1) (left - taken) next new all
one-copied runs i d left skip taken next so new all l e k n c =
    let r : Run = get_or runs i d in
    let rest : List Run = drop (i + 1) runs in
    record {
      same = ap (λ xs. xs ++ coming (left - taken) next rest) n
          ∙ ap (λ s. so ++ replicate taken r.author ++ coming (left - taken) s rest) k
          ∙ append_assoc so (replicate taken r.author) (coming (left - taken) (skip - r.count) rest)
          ∙ ap (λ xs. so ++ xs) (sym (coming-run r rest left skip taken e))
          ∙ ap (λ rs. so ++ coming left skip rs) (sym (drop_more runs i d l))
          ∙ c.same;
      fits = c.fits;
    }
