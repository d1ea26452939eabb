-- A number of each state, by which it is found.
use Rattle.std.proofs.Common.{◌≡◌, ℕ, ◌<◌, ◌⊎◌, inl, inr, List, [], ◌∷◌, ◌++◌, length, get_or, refl, ap, sym, ◌∙◌, arith, length-append}
use Rattle.std.proofs.lemmas.Bool.{cases_eq}
use Rattle.pm_auto.specs.declared.sets.PlaceSet.{PlaceSet}
use Rattle.pm_auto.specs.States.{set_at}
use Rattle.pm_auto.specs.Prints.{print_of, Are_prints}
use Rattle.pm_auto.proofs.GroupLaws.{number-front, number-last}
use Rattle.pm_auto.proofs.StateLaws.{at-append, at-end, at-is}

pub prints-end : (ss : List PlaceSet) (ns : List ℕ) (s : PlaceSet) (n : ℕ) → Are_prints ss ns → n ≡ print_of s → Are_prints (ss ++ s ∷ []) (ns ++ n ∷ [])
prints-end ss ns s n h e = record {
  full = let m = h.full in omega (arith, length-append ss (s ∷ []), length-append ns (n ∷ []), m);
  each = λ i l. at i (cases_eq i (length ss)) l;
}
  where
    at : (i : ℕ) → (i ≡ length ss) ⊎ (i ≡ length ss → ⊥) → i < length (ss ++ s ∷ []) → ◌≡◌ {A = ℕ} (get_or (ns ++ n ∷ []) i 0) (print_of (set_at (ss ++ s ∷ []) i))
    at i (inl q) l =
        ap (λ k. get_or (ns ++ n ∷ []) k 0) (q ∙ sym h.full) ∙ number-last ns n ∙ e ∙ ap print_of (sym (ap (set_at (ss ++ s ∷ [])) q ∙ at-end ss s))
    at i (inr o) l =
        let m : i < length ss = omega (arith, length-append ss (s ∷ []), l) in
        number-front ns n i (let f = h.full in omega (arith, m, f)) ∙ h.each i m ∙ ap print_of (sym (at-append ss (s ∷ []) i m))

pub print-is : (ss : List PlaceSet) (ns : List ℕ) (i : ℕ) (s : PlaceSet) → Are_prints ss ns → i < length ss → s ≡ get_or ss i s → get_or ns i 0 ≡ print_of s
print-is ss ns i s h l is = h.each i l ∙ ap print_of (sym (at-is ss ss i s refl l is))
