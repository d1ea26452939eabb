-- Steps in parts, and the checkpoints of a log that goes on.
use Rattle.std.specs.Prelude.{◌≡◌, ◌⊎◌, ℕ, zero, suc, ◌+◌, ◌-◌, ◌*◌, ◌/◌, ◌%◌, ◌<◌, ◌≤◌, ◌==◌, Bool, true, false, if◌then◌else◌, List, [], ◌∷◌, ◌++◌, length, take, drop, slice_get, slice_range, Some, Result, Ok, refl}
use Rattle.std.proofs.Common.{sym, ap, subst, ◌∙◌, inl, inr, arith, length-append}
use Rattle.std.proofs.lemmas.List.{take-append-drop}
use Rattle.std.proofs.Math.Seq.{take-add}
use Rattle.std.proofs.lemmas.Bool.{eqb-true, eq-eqb}
use Rattle.pm_change.specs.Changes.{Meaning, Laws, fold}
use Rattle.pm_change.proofs.Folds.{fold-cons, fold-append, fold-good}
use Rattle.pm_authority.specs.declared.named.Named.{Named}
use Rattle.pm_authority.specs.Runs.{changes_of, AllApply}
use Rattle.pm_authority.proofs.RunFolds.{changes-append}
use Rattle.pm_client.proofs.Prefixes.{front-applies}
use Rattle.pm_versions.specs.declared.versions.Versions.{Versions}
use Rattle.pm_versions.specs.Checkpoints.{checkpoints, IsVersions}

-- an item of a list with one more, which is the last
get-push : {A : Type 0} (xs : List A) (y : A) (i : ℕ) (d : A) → slice_get (xs ++ y ∷ []) i ≡ Some d → ((i < length xs) × (slice_get xs i ≡ Some d)) ⊎ ((i ≡ length xs) × (d ≡ y))
get-push [] y zero d h = inr (refl, (let e : y ≡ d = cc in sym e))
get-push [] y (suc i) d h = absurd (cc)
get-push (x ∷ xs) y zero d h = inl (omega arith, h)
get-push (x ∷ xs) y (suc i) d h = more (get-push xs y i d h)
  where
    more : ((i < length xs) × (slice_get xs i ≡ Some d)) ⊎ ((i ≡ length xs) × (d ≡ y)) → ((suc i < length (x ∷ xs)) × (slice_get xs i ≡ Some d)) ⊎ ((suc i ≡ length (x ∷ xs)) × (d ≡ y))
    more (inl h) = inl (omega (arith, h.0), h.1)
    more (inr h) = inr (omega (arith, h.0), h.1)

pub get-within : {A : Type 0} (xs : List A) (i : ℕ) (d : A) → slice_get xs i ≡ Some d → i < length xs
get-within [] i d h = absurd (cc)
get-within (x ∷ xs) zero d h = omega arith
get-within (x ∷ xs) (suc i) d h = let r = get-within xs i d h in omega arith

take-front : {A : Type 0} (xs ys : List A) (n : ℕ) → n ≤ length xs → take n (xs ++ ys) ≡ take n xs
take-front xs ys zero l = refl
take-front [] ys (suc n) l = absurd (omega arith)
take-front (x ∷ xs) ys (suc n) l = ap (λ zs. x ∷ zs) (take-front xs ys n (omega arith))

pub take-all : {A : Type 0} (xs : List A) (n : ℕ) → n ≡ length xs → take n xs ≡ xs
take-all [] n e = rw e refl
take-all (x ∷ xs) zero e = absurd (omega arith)
take-all (x ∷ xs) (suc n) e = ap (λ zs. x ∷ zs) (take-all xs n (omega arith))

pub same-ok : {A E : Type 0} (r : Result A E) (x y : A) → r ≡ Ok x → r ≡ Ok y → x ≡ y
same-ok r x y h k = cc

module _ {Rules Doc Reason C : Type 0} (m : Meaning Rules Doc Reason C) (rules : Rules) where
  -- one after another
  pub applies-append : (doc mid end : Doc) (xs ys : List (Named C)) → AllApply m rules doc xs mid → AllApply m rules mid ys end → AllApply m rules doc (xs ++ ys) end
  applies-append doc mid end xs ys h k = rw changes-append (fold-append m rules doc mid (changes_of xs) (changes_of ys) h ∙ k)

  -- the later steps apply to what the first ones give
  pub applies-rest : (doc mid end : Doc) (xs ys : List (Named C)) → AllApply m rules doc xs mid → AllApply m rules doc (xs ++ ys) end → AllApply m rules mid ys end
  applies-rest doc mid end xs ys h k = sym (fold-append m rules doc mid (changes_of xs) (changes_of ys) h) ∙ rw changes-append at k

  -- the first step applies, and the later ones to what it gives
  pub applies-first : (doc end : Doc) (x : Named C) (xs : List (Named C)) → AllApply m rules doc (x ∷ xs) end
      → (next : Doc) × (m.outcome rules x.change doc ≡ Ok next) × AllApply m rules next xs end
  applies-first doc end x xs h = fold-cons m rules doc end x.change (changes_of xs) h

  pub applies-one : (doc next : Doc) (x : Named C) → m.outcome rules x.change doc ≡ Ok next → AllApply m rules doc (x ∷ []) next
  applies-one doc next x e = rw e refl

  module _ (laws : Laws m) where
    pub applied-good : (doc end : Doc) (xs : List (Named C)) → m.is_good rules doc → AllApply m rules doc xs end → m.is_good rules end
    applied-good doc end xs good h = fold-good m rules laws doc end (changes_of xs) good h

  -- ---- checkpoints

  pub checkpoint-good : Laws m → (v : Versions C Rules Doc Reason) → IsVersions m rules v → (i : ℕ) (d : Doc) → slice_get (checkpoints v) i ≡ Some d → m.is_good rules d
  checkpoint-good laws v kept i d at = applied-good laws v.first d (take (64 * i) v.log) kept.first_good (kept.each i d at)

  module _ (v : Versions C Rules Doc Reason) (kept : IsVersions m rules v) (x : Named C) (after : Doc) (gives : AllApply m rules v.doc (x ∷ []) after) where
    more-folded : AllApply m rules v.first (v.log ++ x ∷ []) after
    more-folded = applies-append v.first v.doc after v.log (x ∷ []) kept.folded gives

    old-each : (i : ℕ) (d : Doc) → slice_get (checkpoints v) i ≡ Some d → AllApply m rules v.first (take (64 * i) (v.log ++ x ∷ [])) d
    old-each i d h =
        let l = get-within (checkpoints v) i d h in
        let short : 64 * i ≤ length v.log = omega (arith, l, kept.count) in
        rw (take-front v.log (x ∷ []) (64 * i) short) (kept.each i d h)

    -- with one step more, and a checkpoint where one is due
    pub pushed-kept : IsVersions m rules (record v {
      doc = after;
      log = v.log ++ x ∷ [];
      later = if length (v.log ++ x ∷ []) % 64 == 0 then v.later ++ after ∷ [] else v.later;
    })
    pushed-kept = by-test (length (v.log ++ x ∷ []) % 64 == 0) refl
      where
        due : length (v.log ++ x ∷ []) % 64 ≡ 0 → IsVersions m rules (record v { doc = after; log = v.log ++ x ∷ []; later = v.later ++ after ∷ [] })
        due e =
            let n = length-append v.log (x ∷ []) in
            let k = length-append v.later (after ∷ []) in
            record {
              first_good = kept.first_good;
              folded = more-folded;
              count = omega (arith, e, n, k, kept.count);
              each = λ i d h. by-place i d (get-push (checkpoints v) after i d h);
            }
          where
            by-place : (i : ℕ) (d : Doc) → ((i < length (checkpoints v)) × (slice_get (checkpoints v) i ≡ Some d)) ⊎ ((i ≡ length (checkpoints v)) × (d ≡ after))
                → AllApply m rules v.first (take (64 * i) (v.log ++ x ∷ [])) d
            by-place i d (inl h) = old-each i d h.1
            by-place i d (inr h) =
                let all : 64 * i ≡ length (v.log ++ x ∷ []) = omega (arith, e, h.0, length-append v.log (x ∷ []), kept.count) in
                rw (take-all (v.log ++ x ∷ []) (64 * i) all, h.1) more-folded

        between : (length (v.log ++ x ∷ []) % 64 ≡ 0 → ⊥) → IsVersions m rules (record v { doc = after; log = v.log ++ x ∷ [] })
        between e = record {
          first_good = kept.first_good;
          folded = more-folded;
          count = omega (arith, e, length-append v.log (x ∷ []), kept.count);
          each = old-each;
        }

        by-test : (b : Bool) → (length (v.log ++ x ∷ []) % 64 == 0) ≡ b → IsVersions m rules (record v {
          doc = after;
          log = v.log ++ x ∷ [];
          later = if length (v.log ++ x ∷ []) % 64 == 0 then v.later ++ after ∷ [] else v.later;
        })
        by-test true e =
            subst (λ (b : Bool). IsVersions m rules (record v { doc = after; log = v.log ++ x ∷ []; later = if b then v.later ++ after ∷ [] else v.later })) (sym e)
            (due (eqb-true (length (v.log ++ x ∷ []) % 64) 0 e))
        by-test false e =
            subst (λ (b : Bool). IsVersions m rules (record v { doc = after; log = v.log ++ x ∷ []; later = if b then v.later ++ after ∷ [] else v.later })) (sym e)
            (between (λ z. let t : (length (v.log ++ x ∷ []) % 64 == 0) ≡ true = eq-eqb (length (v.log ++ x ∷ []) % 64) 0 z in absurd (cc)))

  module _ (v : Versions C Rules Doc Reason) (kept : IsVersions m rules v) (n : ℕ) (short : n ≤ length v.log) (d : Doc) (at : slice_get (checkpoints v) (n / 64) ≡ Some d) where
    -- the first n steps are those before a checkpoint, and some more
    parts : take n v.log ≡ take (64 * (n / 64)) v.log ++ slice_range v.log (64 * (n / 64)) n
    parts =
        let e : n ≡ 64 * (n / 64) + (n - 64 * (n / 64)) = omega arith in
        ap (λ k. take k v.log) e ∙ take-add (64 * (n / 64)) (n - 64 * (n / 64)) v.log

    -- the steps after a checkpoint apply to it
    pub rest-applies : (end : Doc) × AllApply m rules d (slice_range v.log (64 * (n / 64)) n) end
    rest-applies =
        let whole = ap (λ l. fold m rules v.first (changes_of l)) (take-append-drop n v.log) ∙ kept.folded in
        let front = front-applies m rules v.first v.doc (take n v.log) (drop n v.log) whole in
        let xs = take (64 * (n / 64)) v.log in
        let ys = slice_range v.log (64 * (n / 64)) n in
        let both : AllApply m rules v.first (xs ++ ys) front.0 = subst (λ l. AllApply m rules v.first l front.0) parts front.1 in
        (front.0, applies-rest v.first d front.0 xs ys (kept.each (n / 64) d at) both)

    -- and give the document after the first n steps
    pub rest-gives : (end : Doc) → AllApply m rules d (slice_range v.log (64 * (n / 64)) n) end → AllApply m rules v.first (take n v.log) end
    rest-gives end h =
        let xs = take (64 * (n / 64)) v.log in
        let ys = slice_range v.log (64 * (n / 64)) n in
        subst (λ l. AllApply m rules v.first l end) (sym parts) (applies-append v.first d end xs ys (kept.each (n / 64) d at) h)
