-- Lemmas: where steps stand among items whose names differ.
use Rattle.std.specs.Prelude.{◌≡◌, ℕ, zero, suc, ◌+◌, ◌-◌, ◌<◌, ◌≤◌, ◌||◌, min, Bool, true, false, if◌then◌else◌, List, [], ◌∷◌, length, drop, get_or, Option, Some, None, refl}
use Rattle.std.proofs.Common.{sym, ap, subst, ◌∙◌, arith}
use Rattle.std.proofs.lemmas.Bool.{true≢false}
use Rattle.std.proofs.Math.Seq.{drop-cons}
use Rattle.pm_change.specs.declared.name.Name.{Name}
use Rattle.pm_history.specs.declared.item.Item.{Item}
use Rattle.pm_history.specs.Items.{one_step}
use Rattle.pm_history.specs.Remembers.{Lacks}
use Rattle.pm_history.specs.Starts.{is_named, start_of}
use Rattle.pm_history.specs.Tidy.{NotNamed, NamesDiffer}
use Rattle.pm_history.proofs.Events.{one-name}

module _ {C : Type 0} where
  start-none : (is : List (Item C)) → start_of [] is ≡ length is
  start-none [] = refl
  start-none (i ∷ is) = ap suc (start-none is)

  -- a step that does not stand there
  start-lacks : (n : Name) (is : List (Item C)) → Lacks is n → start_of (n ∷ []) is ≡ length is
  start-lacks n [] h = refl
  start-lacks n (i ∷ is) h = ap (λ t. if◌then◌else◌ {A = ℕ} (t || false) 0 (suc (start_of (n ∷ []) is))) h.0 ∙ ap suc (start-lacks n is h.1)

  -- and one more step
  start-more : (n : Name) (ns : List Name) (is : List (Item C)) → start_of (n ∷ ns) is ≡ min (start_of (n ∷ []) is) (start_of ns is)
  start-more n ns [] = refl
  start-more n ns (i ∷ is) = from (one_step (Some n) i.name) (is_named ns i.name) (start-more n ns is)
    where
      from : (s t : Bool) → start_of (n ∷ ns) is ≡ min (start_of (n ∷ []) is) (start_of ns is)
          → if◌then◌else◌ {A = ℕ} (s || t) 0 (suc (start_of (n ∷ ns) is))
          ≡ min (if◌then◌else◌ {A = ℕ} (s || false) 0 (suc (start_of (n ∷ []) is))) (if◌then◌else◌ {A = ℕ} t 0 (suc (start_of ns is)))
      from true true h = omega arith
      from true false h = omega arith
      from false true h = omega arith
      from false false h = omega (arith, h)

  pub start-within : (ns : List Name) (is : List (Item C)) → start_of ns is ≤ length is
  start-within ns [] = omega arith
  start-within ns (i ∷ is) = from (is_named ns i.name) (start-within ns is)
    where
      from : (t : Bool) → start_of ns is ≤ length is → if◌then◌else◌ {A = ℕ} t 0 (suc (start_of ns is)) ≤ suc (length is)
      from true h = omega arith
      from false h = omega (arith, h)

  -- a step that stands at this place
  there-named : (o : Option Name) (is : List (Item C)) (k : ℕ) (d : Item C) → k < length is → NotNamed o is → (n : Name) → o ≡ Some n → one_step (Some n) (get_or is k d).name ≡ false
  there-named o [] k d l h n e = absurd (omega (arith, l))
  there-named None (i ∷ is) k d l h n e = absurd (cc)
  there-named (Some m) (i ∷ is) zero d l h n e = let s : m ≡ n = cc in ap (λ x. one_step (Some x) i.name) (sym s) ∙ h.0
  there-named (Some m) (i ∷ is) (suc k) d l h n e = there-named (Some m) is k d (omega (arith, l)) h.1 n e

  start-there : (n : Name) (is : List (Item C)) (k : ℕ) (d : Item C) → NamesDiffer is → k < length is → one_step (Some n) (get_or is k d).name ≡ true → start_of (n ∷ []) is ≡ k
  start-there n [] k d h l e = absurd (omega (arith, l))
  start-there n (i ∷ is) zero d h l e = ap (λ t. if◌then◌else◌ {A = ℕ} (t || false) 0 (suc (start_of (n ∷ []) is))) e
  start-there n (i ∷ is) (suc k) d h l e = from (one_step (Some n) i.name) refl (start-there n is k d h.1 (omega (arith, l)) e)
    where
      named : (o : Option Name) → one_step (Some n) o ≡ true → o ≡ Some n
      named None s = absurd (true≢false (sym s))
      named (Some m) s = ap Some (sym (one-name n m s))

      from : (t : Bool) → one_step (Some n) i.name ≡ t → start_of (n ∷ []) is ≡ k → start_of (n ∷ []) (i ∷ is) ≡ suc k
      from true s r = absurd (true≢false (sym e ∙ there-named i.name is k d (omega (arith, l)) h.0 n (named i.name s)))
      from false s r = ap (λ t. if◌then◌else◌ {A = ℕ} (t || false) 0 (suc (start_of (n ∷ []) is))) s ∙ ap suc r

  -- one item more that does not have the name
  pub lacks-before : (n : Name) (is : List (Item C)) (i : ℕ) (d : Item C) → 0 < i → i ≤ length is → one_step (Some n) (get_or is (i - 1) d).name ≡ false → Lacks (drop i is) n
      → Lacks (drop (i - 1) is) n
  lacks-before n is i d z l e h =
      let one : suc (i - 1) ≡ i = omega (arith, z) in
      subst (λ xs. Lacks xs n) (sym (drop-cons is (i - 1) d (omega (arith, z, l)) ∙ ap (λ j. get_or is (i - 1) d ∷ drop j is) one)) (e, h)

  pub latest_there : (n : Name) (is : List (Item C)) (k : ℕ) (d : Item C) → k < length is → one_step (Some n) (get_or is k d).name ≡ true → NamesDiffer is → k ≡ start_of (n ∷ []) is
  latest_there n is k d l e h = sym (start-there n is k d h l e)

  pub latest_none : (n : Name) (is : List (Item C)) (k : ℕ) → k ≤ 0 → Lacks (drop k is) n → NamesDiffer is → length is ≡ start_of (n ∷ []) is
  latest_none n is zero l h t = sym (start-lacks n is h)
  latest_none n is (suc k) l h t = absurd (omega (arith, l))

  -- the earliest of the steps gone through and of those left
  pub earliest-begins : (ns : List Name) (is : List (Item C)) (a : ℕ) → a ≡ length is → min a (start_of ns is) ≡ start_of ns is
  earliest-begins ns is a e = omega (arith, e, start-within ns is)

  pub earliest-next : (ns : List Name) (is : List (Item C)) (k a p b : ℕ) (d : Name) → k < length ns → p ≡ start_of (get_or ns k d ∷ []) is → b ≡ min a p
      → min a (start_of (drop k ns) is) ≡ start_of ns is → min b (start_of (drop (k + 1) ns) is) ≡ start_of ns is
  earliest-next ns is k a p b d l e f h =
      let one : suc k ≡ k + 1 = omega arith in
      let s = ap (λ xs. start_of xs is) (drop-cons ns k d l) ∙ start-more (get_or ns k d) (drop (suc k) ns) is ∙ ap (λ j. min (start_of (get_or ns k d ∷ []) is) (start_of (drop j ns) is)) one in
      omega (arith, e, f, h, s)

  pub earliest-ends : (ns : List Name) (is : List (Item C)) (k a : ℕ) → length ns ≤ k → a ≤ length is → min a (start_of (drop k ns) is) ≡ start_of ns is → a ≡ start_of ns is
  earliest-ends [] is zero a l w h = omega (arith, w, h, start-none is)
  earliest-ends [] is (suc k) a l w h = omega (arith, w, h, start-none is)
  earliest-ends (n ∷ ns) is zero a l w h = absurd (omega (arith, l))
  earliest-ends (n ∷ ns) is (suc k) a l w h = sym (least a (start_of (drop k ns) is) (length is) w (behind ns is k (omega (arith, l)))) ∙ h
    where
      behind : (ns : List Name) (is : List (Item C)) (k : ℕ) → length ns ≤ k → start_of (drop k ns) is ≡ length is
      behind [] is zero l = start-none is
      behind [] is (suc k) l = start-none is
      behind (n ∷ ns) is zero l = absurd (omega (arith, l))
      behind (n ∷ ns) is (suc k) l = behind ns is k (omega (arith, l))

      least : (a s n : ℕ) → a ≤ n → s ≡ n → min a s ≡ a
      least a s n w e = omega (arith, w, e)
