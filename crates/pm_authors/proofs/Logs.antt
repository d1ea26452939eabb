-- Authors over one step after another.
use Rattle.std.specs.Prelude.{◌≡◌, ℕ, ◌+◌, ◌<◌, ◌^◌, suc, List, [], ◌∷◌, length, drop, replicate, Some, None}
use Rattle.std.proofs.Common.{arith, ap, sym, subst, ◌∙◌, get_or}
use Rattle.std.proofs.Math.Seq.{drop-cons}
use Rattle.std.proofs.lemmas.List.{length-replicate}
use Rattle.pm_map.specs.declared.step_map.Span.{Span}
use Rattle.pm_map.specs.Fits.{FitsSizes}
use Rattle.pm_change.specs.Changes.{Meaning, Laws}
use Rattle.pm_change.proofs.Folds.{fold-cons}
use Rattle.pm_authority.specs.declared.named.Named.{Named}
use Rattle.pm_authority.specs.Runs.{AllApply, changes_of}
use Rattle.pm_authors.specs.declared.run.Run.{Run}
use Rattle.pm_authors.specs.Runs.{Author, spelled, grouped, tokens_of, AreMaximal}
use Rattle.pm_authors.specs.Stepping.{over}
use Rattle.pm_authors.specs.Authors.{ApplyFrom, authors_from, authors_of}
use Rattle.pm_authors.proofs.Grouping.{grouped-spelled, length-spelled}
use Rattle.pm_authors.proofs.Ranges.{over-size}

module _ {Rules Doc Reason C : Type 0} (m : Meaning Rules Doc Reason C) where
  -- The steps that are left apply to a document with these tokens, and lead their authors to all in the end.
  pub record IsOnWay (steps : List (Named C)) (xs all : List Author) : Type 0 where
    pub start : ApplyFrom m steps (length xs)
    pub ends : authors_from m steps xs ≡ all

  pub begun : (steps : List (Named C)) (size : ℕ) (xs : List Author) → xs ≡ replicate size None → ApplyFrom m steps size → IsOnWay steps xs (authors_of m steps size)
  begun steps size xs e f =
      let long : size ≡ length xs = sym (length-replicate {A = Author} size None) ∙ ap (λ (ys : List Author). length ys) (sym e) in
      record { start = subst (ApplyFrom m steps) long f; ends = ap (authors_from m steps) e }

  -- what one step needs and gives
  record IsStepping (n : Named C) (ns : List (Named C)) (xs all : List Author) : Type 0 where
    pub had : (size : ℕ) × (size < 2 ^ 32) × m.is_within n.change size
    pub room : length (over (Some n.name) (m.step_map n.change) 0 xs) < 2 ^ 64
    pub next : IsOnWay ns (over (Some n.name) (m.step_map n.change) 0 xs) all

  stepped : Laws m → (n : Named C) (ns : List (Named C)) (xs all : List Author) → IsOnWay (n ∷ ns) xs all → IsStepping n ns xs all
  stepped laws n ns xs all w =
      let s = w.start in
      let f = fold-cons m s.rules s.first s.last n.change (changes_of ns) s.apply in
      let good : m.is_good s.rules f.0 = laws.good s.rules n.change s.first f.0 s.good f.1 in
      let small : m.size f.0 < 2 ^ 32 = laws.small s.rules f.0 good in
      let fits : FitsSizes (m.step_map n.change) (length xs) (m.size f.0) =
      subst (λ (k : ℕ). FitsSizes (m.step_map n.change) k (m.size f.0)) s.sized (laws.fits s.rules n.change s.first f.0 s.good f.1) in
      let long : length (over (Some n.name) (m.step_map n.change) 0 xs) ≡ m.size f.0 = over-size (Some n.name) (m.step_map n.change) (m.size f.0) xs fits in
      record {
        had = (m.size s.first, laws.small s.rules s.first s.good, laws.within s.rules n.change s.first f.0 s.good f.1);
        room = omega (arith, long, small);
        next = record {
          start = record { rules = s.rules; first = f.0; last = s.last; good = good; apply = f.2; sized = sym long };
          ends = w.ends;
        };
      }

  pub one-room : Laws m → (n : Named C) (ns : List (Named C)) (xs ys all : List Author) (ranges : List Span) → ranges ≡ m.step_map n.change → ys ≡ xs → IsOnWay (n ∷ ns) xs all
      → length (over (Some n.name) ranges 0 ys) < 2 ^ 64
  one-room laws n ns xs ys all ranges e s w =
      subst (λ rs. length (over (Some n.name) rs 0 ys) < 2 ^ 64) (sym e)
      (subst (λ zs. length (over (Some n.name) (m.step_map n.change) 0 zs) < 2 ^ 64) (sym s) (stepped laws n ns xs all w).room)

  pub one-on : Laws m → (n : Named C) (ns : List (Named C)) (xs ys new all : List Author) (ranges : List Span) → ranges ≡ m.step_map n.change → ys ≡ xs → new ≡ over (Some n.name) ranges 0 ys
      → IsOnWay (n ∷ ns) xs all → IsOnWay ns new all
  one-on laws n ns xs ys new all ranges e s is w =
      subst (λ zs. IsOnWay ns zs all) (sym (is ∙ ap (λ rs. over (Some n.name) rs 0 ys) e ∙ ap (over (Some n.name) (m.step_map n.change) 0) s)) (stepped laws n ns xs all w).next

  -- the steps from a place on
  pub at-named : (steps : List (Named C)) (i : ℕ) (n : Named C) (xs all : List Author) → i < length steps → n ≡ get_or steps i n → IsOnWay (drop i steps) xs all → IsOnWay (n ∷ drop (i + 1) steps) xs all
  at-named steps i n xs all l is w =
      subst (λ ns. IsOnWay ns xs all) (drop-cons steps i n l ∙ ap (λ x. x ∷ drop (suc i) steps) (sym is) ∙ ap (λ j. n ∷ drop j steps) (sym (one-more i))) w
    where
      one-more : (k : ℕ) → k + 1 ≡ suc k
      one-more k = omega arith

  come : (xs all : List Author) → IsOnWay [] xs all → xs ≡ all
  come xs all w = w.ends

  -- the runs at the end of the steps
  pub told : (steps : List (Named C)) (i : ℕ) (rs : List Run) (all : List Author) → drop i steps ≡ [] → IsOnWay (drop i steps) (spelled rs) all → AreMaximal rs → rs ≡ grouped all
  told steps i rs all none w h = sym (grouped-spelled rs h) ∙ ap grouped (come (spelled rs) all (subst (λ ns. IsOnWay ns (spelled rs) all) none w))

  sizes : Laws m → (rules : Rules) (doc end : Doc) (ns : List (Named C)) (xs : List Author) → m.is_good rules doc → AllApply m rules doc ns end → m.size doc ≡ length xs
      → length (authors_from m ns xs) ≡ m.size end
  sizes laws rules doc end [] xs good h e =
      let same : doc ≡ end = cc in
      sym e ∙ ap m.size same
  sizes laws rules doc end (n ∷ ns) xs good h e =
      let f = fold-cons m rules doc end n.change (changes_of ns) h in
      let fits : FitsSizes (m.step_map n.change) (length xs) (m.size f.0) = subst (λ (k : ℕ). FitsSizes (m.step_map n.change) k (m.size f.0)) e (laws.fits rules n.change doc f.0 good f.1) in
      sizes laws rules f.0 end ns (over (Some n.name) (m.step_map n.change) 0 xs) (laws.good rules n.change doc f.0 good f.1) f.2 (sym (over-size (Some n.name) (m.step_map n.change) (m.size f.0) xs fits))

  -- they are the tokens of the document after the steps
  pub whole-document : Laws m → (steps : List (Named C)) (size i : ℕ) (rs : List Run) → drop i steps ≡ [] → IsOnWay (drop i steps) (spelled rs) (authors_of m steps size) → (f : ApplyFrom m steps size)
      → tokens_of rs ≡ m.size f.last
  whole-document laws steps size i rs none w f =
      let all = come (spelled rs) (authors_of m steps size) (subst (λ ns. IsOnWay ns (spelled rs) (authors_of m steps size)) none w) in
      sym (length-spelled rs) ∙ ap (λ (xs : List Author). length xs) all
      ∙ sizes laws f.rules f.first f.last steps (replicate size None) f.good f.apply (f.sized ∙ sym (length-replicate {A = Author} size None))
