-- The maps of items, and the items at their places.
use Rattle.std.proofs.Common.{◌≡◌, ℕ, zero, suc, ◌+◌, ◌<◌, ◌≤◌, ◌&&◌, ◌||◌, Bool, true, false, if◌then◌else◌, List, [], ◌∷◌, length, drop, get_or, Option, Some, None, refl, ap, sym, ◌∙◌, arith, subst, length-drop}
use Rattle.std.proofs.Math.Seq.{drop-cons}
use Rattle.std.proofs.lemmas.List.{get_or-drop}
use Rattle.pm_change.specs.declared.name.Name.{Name}
use Rattle.pm_map.specs.declared.step_map.Span.{Span}
use Rattle.pm_map.specs.declared.mapping.Mirrored.{Mirrored}
use Rattle.pm_map.specs.Mirrors.{may_mirror}
use Rattle.pm_map.proofs.Growths.{fit-shape}
use Rattle.pm_map.specs.declared.step_map.Moved.{Moved}
use Rattle.pm_map.specs.declared.step_map.Recover.{Recover}
use Rattle.pm_map.specs.Moves.{kept_at}
use Rattle.pm_map.specs.Through.{ArePaired, IsPairedAt, IsIn, joined, new_at, partner, skipped, stepped}
use Rattle.pm_map.proofs.Recovers.{partner-fits}
use Rattle.pm_history.specs.declared.item.Item.{Item}
use Rattle.pm_history.specs.Items.{one_step}
use Rattle.pm_history.specs.Laters.{entry_at}
use Rattle.pm_history.specs.Pairs.{later_in, one_more, paired}

-- the item of a slice at a place, and those after it
pub drop-next : {A : Type 0} (xs : List A) (k : ℕ) (x : A) → x ≡ get_or xs k x → k < length xs → drop k xs ≡ x ∷ drop (k + 1) xs
drop-next xs k x e l = drop-cons xs k x l ∙ ap (λ y. y ∷ drop (suc k) xs) (sym e) ∙ ap (λ j. x ∷ drop j xs) (one-more k)
  where
    one-more : (k : ℕ) → suc k ≡ k + 1
    one-more k = omega arith

module _ {C : Type 0} where
  pub paired-length : (is : List (Item C)) → length (paired is) ≡ length is
  paired-length [] = refl
  paired-length (i ∷ is) = ap suc (paired-length is)

  -- each pair fits
  pub pairs-fit : (is : List (Item C)) → ArePaired (paired is)
  pairs-fit [] = tt
  pairs-fit (i ∷ is) = (at i.name i.map is, pairs-fit is)
    where
      add : (rs : List Span) (x : Item C) (xs : List (Item C)) (o : Option ℕ) → IsPairedAt rs o (paired xs) → IsPairedAt rs (one_more o) (paired (x ∷ xs))
      add rs x xs None h = tt
      add rs x xs (Some k) h = (omega (arith, h.0), h.1, h.2)

      here : (rs : List Span) (x : Item C) (xs : List (Item C)) → may_mirror rs x.map ≡ true → IsPairedAt rs (Some 0) (paired (x ∷ xs))
      here [] x xs h = absurd (cc)
      here (r ∷ rs) x xs h = (omega arith, omega arith, fit-shape (r ∷ rs) x.map h)

      pick : (t u : Bool) (rs : List Span) (x : Item C) (xs : List (Item C)) (o : Option ℕ) → (u ≡ true → IsPairedAt rs (Some 0) (paired (x ∷ xs)))
          → IsPairedAt rs (one_more o) (paired (x ∷ xs)) → IsPairedAt rs (if t && u then Some 0 else one_more o) (paired (x ∷ xs))
      pick true true rs x xs o f h = f refl
      pick true false rs x xs o f h = h
      pick false u rs x xs o f h = h

      at : (n : Option Name) (rs : List Span) (xs : List (Item C)) → IsPairedAt rs (later_in n rs xs) (paired xs)
      at n rs [] = tt
      at n rs (x ∷ xs) = pick (one_step n x.undoes) (may_mirror rs x.map) rs x xs (later_in n rs xs) (here rs x xs) (add rs x xs (later_in n rs xs) (at n rs xs))

  -- the entry of the item at a place
  pub entry-is : (is : List (Item C)) (k : ℕ) (x : Item C) → k < length is → x ≡ get_or is k x → entry_at is k ≡ record { map = x.map; later = later_in x.name x.map (drop (k + 1) is) }
  entry-is [] k x l e = absurd (omega (arith, l))
  entry-is (i ∷ is) zero x l e = ap (λ (y : Item C). record { map = y.map; later = later_in y.name y.map is }) (sym e) ∙ ap (λ j. record { map = x.map; later = later_in x.name x.map (drop j (i ∷ is)) }) one
    where
      one : suc 0 ≡ 0 + 1
      one = omega arith
  entry-is (i ∷ is) (suc k) x l e = entry-is is k x (omega (arith, l)) e ∙ ap (λ j. record { map = x.map; later = later_in x.name x.map (drop j (i ∷ is)) }) (two k)
    where
      two : (k : ℕ) → suc (k + 1) ≡ suc k + 1
      two k = omega arith

  pub entry-there : (is : List (Item C)) (k : ℕ) (d : Mirrored) → k < length is → get_or (paired is) k d ≡ entry_at is k
  entry-there [] k d l = absurd (omega (arith, l))
  entry-there (i ∷ is) zero d l = refl
  entry-there (i ∷ is) (suc k) d l = entry-there is k d (omega (arith, l))

  pub drop-paired : (k : ℕ) (is : List (Item C)) → drop k (paired is) ≡ paired (drop k is)
  drop-paired zero is = refl
  drop-paired (suc k) [] = refl
  drop-paired (suc k) (i ∷ is) = drop-paired k is

  -- where it has a mirror, that stands among the items after it
  pub entry-fits : (is : List (Item C)) (k : ℕ) → k < length is → IsPairedAt (entry_at is k).map (entry_at is k).later (paired (drop (k + 1) is))
  entry-fits [] k l = absurd (omega (arith, l))
  entry-fits (i ∷ is) zero l = subst (λ j. IsPairedAt i.map (later_in i.name i.map is) (paired (drop j (i ∷ is)))) one (pairs-fit (i ∷ is)).0
    where
      one : suc 0 ≡ 0 + 1
      one = omega arith
  entry-fits (i ∷ is) (suc k) l = subst (λ j. IsPairedAt (entry_at is k).map (entry_at is k).later (paired (drop j (i ∷ is)))) (two k) (entry-fits is k (omega (arith, l)))
    where
      two : (k : ℕ) → suc (k + 1) ≡ suc k + 1
      two k = omega arith

  pub mirror-within : (is : List (Item C)) (k gap : ℕ) → k < length is → (entry_at is k).later ≡ Some gap → (k + 1) + gap < length is
  mirror-within is k gap l e =
      let fits : gap < length (paired (drop (k + 1) is)) = (subst (λ o. IsPairedAt (entry_at is k).map o (paired (drop (k + 1) is))) e (entry-fits is k l)).0 in
      omega (arith, fits, paired-length (drop (k + 1) is), length-drop (k + 1) is)

  partner-there : (is : List (Item C)) (k : ℕ) (x : Item C) → k < length is → x ≡ get_or is k x → partner (paired is) k ≡ x.map
  partner-there [] k x l e = absurd (omega (arith, l))
  partner-there (i ∷ is) zero x l e = ap (λ (y : Item C). y.map) (sym e)
  partner-there (i ∷ is) (suc k) x l e = partner-there is k x (omega (arith, l)) e

  pub partner-behind : (is : List (Item C)) (k gap : ℕ) (x : Item C) → k < length is → (entry_at is k).later ≡ Some gap → x ≡ get_or is ((k + 1) + gap) x → partner (paired (drop (k + 1) is)) gap ≡ x.map
  partner-behind is k gap x l e at =
      partner-there (drop (k + 1) is) gap x (omega (arith, mirror-within is k gap l e, length-drop (k + 1) is)) (at ∙ sym (get_or-drop (k + 1) is gap x))

  -- a place within the map lies within the mirror's range
  pub mirror-fits : (is : List (Item C)) (k gap : ℕ) (r : Recover) (x : Item C) → k < length is → (entry_at is k).later ≡ Some gap → IsIn (entry_at is k).map r → x ≡ get_or is ((k + 1) + gap) x
      → (r.range < length x.map) × (r.offset ≤ new_at x.map r.range)
  mirror-fits is k gap r x l e h at =
      subst (λ (rs : List Span). (r.range < length rs) × (r.offset ≤ new_at rs r.range)) (partner-behind is k gap x l e at)
      (partner-fits (entry_at is k).map (paired (drop (k + 1) is)) (entry_at is k).later gap (Some r) r (entry-fits is k l) e refl h)

-- without a place from which a position can come back there is no jump
pub no-jump : (so m : Moved) (later : Option ℕ) (found : Option Recover) (es : List Mirrored) → found ≡ None → joined so m ≡ stepped so m later found es
no-jump so m None found es e = refl
no-jump so m (Some gap) None es e = refl
no-jump so m (Some gap) (Some r) es e = absurd (cc)

pub no-skip : (later : Option ℕ) (found : Option Recover) → found ≡ None → 0 ≡ skipped later found
no-skip None found e = refl
no-skip (Some gap) None e = refl
no-skip (Some gap) (Some r) e = absurd (cc)

-- after a step nothing is left to recover
pub step-clean : (so m : Moved) (later : Option ℕ) (found : Option Recover) (es : List Mirrored) → (stepped so m later found es).recover ≡ None
step-clean so m None found es = refl
step-clean so m (Some gap) None es = refl
step-clean so m (Some gap) (Some r) es = refl

-- over a map that leaves a position whole only its place changes
pub whole-step : (so m : Moved) (p : ℕ) (later : Option ℕ) (es : List Mirrored) → so.recover ≡ None → m ≡ kept_at p → record so { pos = p } ≡ stepped so m later m.recover es
whole-step so m p later es clean e = same ∙ no-jump so (kept_at p) later None es refl ∙ ap (λ (x : Moved). stepped so x later x.recover es) (sym e)
  where
    or-none : (a : Bool) → a ≡ (a || false)
    or-none true = refl
    or-none false = refl

    same : record so { pos = p } ≡ joined so (kept_at p)
    same = cc (clean, or-none so.deleted, or-none so.across, or-none so.after)

pub whole-skip : (m : Moved) (p : ℕ) (later : Option ℕ) → m ≡ kept_at p → 0 ≡ skipped later m.recover
whole-skip m p later e = no-skip later m.recover (ap (λ (x : Moved). x.recover) e)
