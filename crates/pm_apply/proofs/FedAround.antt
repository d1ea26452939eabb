-- A spliced list with a gap as five parts, fed or passed over one after another.
use Rattle.std.specs.Prelude.{◌≡◌, ℕ, ◌+◌, ◌-◌, ◌≤◌, Bool, true, false, List, [], ◌++◌, length, Result, Err}
use Rattle.std.proofs.Common.{refl, ap, sym, ◌∙◌, subst, arith, append_assoc, length-append}
use Rattle.pm_tokens.specs.Tokens.{Token}
use Rattle.pm_tokens.specs.Scan.{Owned, unclosed, owned, plain, joins, part, Balanced}
use Rattle.pm_tokens.specs.Slices.{Slice, is_slice, slice_size, content_end, spliced_around}
use Rattle.pm_tokens.proofs.ScanLaws.{whole-of}
use Rattle.pm_tokens.proofs.BalanceLaws.{balanced-whole}
use Rattle.pm_tokens.proofs.PartLaws.{slice-is}
use Rattle.pm_tokens.proofs.OwnedParts.{length-part}
use Rattle.pm_tokens.proofs.SpliceLaws.{length-plain, around-parts, around-size, around-whole}
use Rattle.pm_meaning.proofs.ReplaceLaws.{depths-of}
use Rattle.pm_build.specs.declared.refused.Refused.{Refused}
use Rattle.pm_build.specs.Fed.{Appended, Crossed, ForJoin}
use Rattle.pm_build.proofs.FedLaws.{appended-more, refused-more, refused-first, for_weaker}
use Rattle.pm_build.proofs.CrossLaws.{crossed-more, stopped-more, stopped-first}
use Rattle.pm_replace.specs.Splices.{Splices, Joins}
use Rattle.pm_replace.proofs.FedSplices.{end-is}
use Rattle.pm_apply.specs.declared.around.Ends.{Ends}
use Rattle.pm_apply.specs.Around.{IsPlaced}

-- the list is these five parts
pub record InFive (all p₁ p₂ p₃ p₄ p₅ : List Owned) : Type 0 where
  pub is : all ≡ p₁ ++ (p₂ ++ (p₃ ++ (p₄ ++ p₅)))

abbrev pub around_of : List Token → Ends → Slice → List Owned
around_of ts ends sl = spliced_around ts ends.from ends.to ends.gap_from ends.gap_to sl ends.insert

-- by what the code reads of the content and of the slice
pub in-five : (ts : List Token) (ends : Ends) (sl : Slice) (inner : List Token) (start added size : ℕ)
    → is_slice sl ≡ true → ends.insert ≤ slice_size sl → inner ≡ sl.content → start ≡ sl.open_start → added ≡ slice_size sl → size ≡ length ts
    → InFive (around_of ts ends sl) (part 0 ends.from (owned [] ts)) (part start (start + ends.insert) (owned [] inner)) (part ends.gap_from ends.gap_to (owned [] ts))
    (part (start + ends.insert) (start + added) (owned [] inner)) (part ends.to size (owned [] ts))
in-five ts ends sl inner start added size w h e f g k =
    let end : start + added ≡ content_end sl = omega (arith, f, g, end-is sl w) in
    record { is = around-parts ts ends.from ends.to ends.gap_from ends.gap_to sl ends.insert h ∙ sym (rw (end, f, e, k) refl) }

module _ (c : ℕ → ℕ → Bool) (all : List Owned) where
  -- a refusal, at what a `?` returns
  pub splice_err : (result : Result (List Token) Refused) (e y : Refused) (P : Type 0) → result ≡ Err y → y ≡ e → ForJoin P e → (P → joins c [] all ≡ false) → Splices c all result
  splice_err result e y P w s h f =
      let k : ForJoin (joins c [] all ≡ false) y = for_weaker P (joins c [] all ≡ false) y f (subst (ForJoin P) (sym s) h) in
      rw w k

  pub join_err : (result : Result (Unit {0}) Refused) (e y : Refused) (P : Type 0) → result ≡ Err y → y ≡ e → ForJoin P e → (P → joins c [] all ≡ false) → Joins c all result
  join_err result e y P w s h f =
      let k : ForJoin (joins c [] all ≡ false) y = for_weaker P (joins c [] all ≡ false) y f (subst (ForJoin P) (sym s) h) in
      rw w k

  -- the parts done are fed, and those left are not
  pub record FedSoFar (done left : List Owned) (b : List Token) : Type 0 where
    pub is : all ≡ done ++ left
    pub fed : Appended c [] done b

  fed-start : (b : List Token) → b ≡ [] → FedSoFar [] all b
  fed-start b e = record { is = refl; fed = record { tokens = e; joined = refl } }

  fed-next : (done p left : List Owned) (b a : List Token) → FedSoFar done (p ++ left) b → Appended c b p a → FedSoFar (done ++ p) left a
  fed-next done p left b a s x = record { is = s.is ∙ sym (append_assoc done p left); fed = appended-more c [] b a done p s.fed x }

  fed-last : (done p : List Owned) (b a : List Token) → FedSoFar done p b → Appended c b p a → Appended c [] all a
  fed-last done p b a s x = subst (λ q. Appended c [] q a) (sym s.is) (appended-more c [] b a done p s.fed x)

  fed-refused : (done p left : List Owned) (b : List Token) → FedSoFar done (p ++ left) b → joins c (unclosed [] b) p ≡ false → joins c [] all ≡ false
  fed-refused done p left b s x = ap (joins c []) s.is ∙ refused-more c [] b done (p ++ left) s.fed (refused-first c b p left x)

  fed-refused-last : (done p : List Owned) (b : List Token) → FedSoFar done p b → joins c (unclosed [] b) p ≡ false → joins c [] all ≡ false
  fed-refused-last done p b s x = ap (joins c []) s.is ∙ refused-more c [] b done p s.fed x

  fed-length : (done left : List Owned) (b : List Token) → FedSoFar done left b → length b ≡ length done
  fed-length done left b s = ap length s.fed.tokens ∙ length-plain done

  -- the parts done are passed over, and those left are not
  pub record OverSoFar (done left : List Owned) (b : List ℕ) : Type 0 where
    pub is : all ≡ done ++ left
    pub over : Crossed c [] done b

  over-start : (b : List ℕ) → b ≡ [] → OverSoFar [] all b
  over-start b e = record { is = refl; over = record { opened = e; joined = refl } }

  over-next : (done p left : List Owned) (b a : List ℕ) → OverSoFar done (p ++ left) b → Crossed c b p a → OverSoFar (done ++ p) left a
  over-next done p left b a s x = record { is = s.is ∙ sym (append_assoc done p left); over = crossed-more c [] b a done p s.over x }

  over-last : (done p : List Owned) (b a : List ℕ) → OverSoFar done p b → Crossed c b p a → joins c [] all ≡ true
  over-last done p b a s x = ap (joins c []) s.is ∙ (crossed-more c [] b a done p s.over x).joined

  over-stopped : (done p left : List Owned) (b : List ℕ) → OverSoFar done (p ++ left) b → joins c b p ≡ false → joins c [] all ≡ false
  over-stopped done p left b s x = ap (joins c []) s.is ∙ stopped-more c [] b done (p ++ left) s.over (stopped-first c b p left x)

  over-stopped-last : (done p : List Owned) (b : List ℕ) → OverSoFar done p b → joins c b p ≡ false → joins c [] all ≡ false
  over-stopped-last done p b s x = ap (joins c []) s.is ∙ stopped-more c [] b done p s.over x

module _ (c : ℕ → ℕ → Bool) {all p₁ p₂ p₃ p₄ p₅ : List Owned} (r : InFive all p₁ p₂ p₃ p₄ p₅) where
  module _ (b₀ : List Token) (start : b₀ ≡ []) where
    none : FedSoFar c all [] (p₁ ++ (p₂ ++ (p₃ ++ (p₄ ++ p₅)))) b₀
    none = record { is = r.is; fed = (fed-start c all b₀ start).fed }

    pub refused-1 : joins c (unclosed [] b₀) p₁ ≡ false → joins c [] all ≡ false
    refused-1 x = fed-refused c all [] p₁ (p₂ ++ (p₃ ++ (p₄ ++ p₅))) b₀ none x

    module _ (b₁ : List Token) (x₁ : Appended c b₀ p₁ b₁) where
      one : FedSoFar c all p₁ (p₂ ++ (p₃ ++ (p₄ ++ p₅))) b₁
      one = fed-next c all [] p₁ (p₂ ++ (p₃ ++ (p₄ ++ p₅))) b₀ b₁ none x₁

      pub refused-2 : joins c (unclosed [] b₁) p₂ ≡ false → joins c [] all ≡ false
      refused-2 x = fed-refused c all p₁ p₂ (p₃ ++ (p₄ ++ p₅)) b₁ one x

      pub length-1 : length b₁ ≡ length p₁
      length-1 = fed-length c all p₁ (p₂ ++ (p₃ ++ (p₄ ++ p₅))) b₁ one

      module _ (b₂ : List Token) (x₂ : Appended c b₁ p₂ b₂) where
        two : FedSoFar c all (p₁ ++ p₂) (p₃ ++ (p₄ ++ p₅)) b₂
        two = fed-next c all p₁ p₂ (p₃ ++ (p₄ ++ p₅)) b₁ b₂ one x₂

        pub refused-3 : joins c (unclosed [] b₂) p₃ ≡ false → joins c [] all ≡ false
        refused-3 x = fed-refused c all (p₁ ++ p₂) p₃ (p₄ ++ p₅) b₂ two x

        pub length-2 : length b₂ ≡ length p₁ + length p₂
        length-2 = fed-length c all (p₁ ++ p₂) (p₃ ++ (p₄ ++ p₅)) b₂ two ∙ length-append p₁ p₂

        module _ (b₃ : List Token) (x₃ : Appended c b₂ p₃ b₃) where
          three : FedSoFar c all ((p₁ ++ p₂) ++ p₃) (p₄ ++ p₅) b₃
          three = fed-next c all (p₁ ++ p₂) p₃ (p₄ ++ p₅) b₂ b₃ two x₃

          pub refused-4 : joins c (unclosed [] b₃) p₄ ≡ false → joins c [] all ≡ false
          refused-4 x = fed-refused c all ((p₁ ++ p₂) ++ p₃) p₄ p₅ b₃ three x

          pub length-3 : length b₃ ≡ length p₁ + length p₂ + length p₃
          length-3 = omega (arith, fed-length c all ((p₁ ++ p₂) ++ p₃) (p₄ ++ p₅) b₃ three, length-append (p₁ ++ p₂) p₃, length-append p₁ p₂)

          module _ (b₄ : List Token) (x₄ : Appended c b₃ p₄ b₄) where
            four : FedSoFar c all (((p₁ ++ p₂) ++ p₃) ++ p₄) p₅ b₄
            four = fed-next c all ((p₁ ++ p₂) ++ p₃) p₄ p₅ b₃ b₄ three x₄

            pub refused-5 : joins c (unclosed [] b₄) p₅ ≡ false → joins c [] all ≡ false
            refused-5 x = fed-refused-last c all (((p₁ ++ p₂) ++ p₃) ++ p₄) p₅ b₄ four x

            pub length-4 : length b₄ ≡ length p₁ + length p₂ + length p₃ + length p₄
            length-4 = omega (arith, fed-length c all (((p₁ ++ p₂) ++ p₃) ++ p₄) p₅ b₄ four, length-append ((p₁ ++ p₂) ++ p₃) p₄, length-append (p₁ ++ p₂) p₃, length-append p₁ p₂)

            pub all-fed : (b₅ : List Token) → Appended c b₄ p₅ b₅ → Appended c [] all b₅
            all-fed b₅ x₅ = fed-last c all (((p₁ ++ p₂) ++ p₃) ++ p₄) p₅ b₄ b₅ four x₅

  module _ (b₀ : List ℕ) (start : b₀ ≡ []) where
    over : OverSoFar c all [] (p₁ ++ (p₂ ++ (p₃ ++ (p₄ ++ p₅)))) b₀
    over = record { is = r.is; over = (over-start c all b₀ start).over }

    pub stopped-1 : joins c b₀ p₁ ≡ false → joins c [] all ≡ false
    stopped-1 x = over-stopped c all [] p₁ (p₂ ++ (p₃ ++ (p₄ ++ p₅))) b₀ over x

    module _ (b₁ : List ℕ) (x₁ : Crossed c b₀ p₁ b₁) where
      over-1 : OverSoFar c all p₁ (p₂ ++ (p₃ ++ (p₄ ++ p₅))) b₁
      over-1 = over-next c all [] p₁ (p₂ ++ (p₃ ++ (p₄ ++ p₅))) b₀ b₁ over x₁

      pub stopped-2 : joins c b₁ p₂ ≡ false → joins c [] all ≡ false
      stopped-2 x = over-stopped c all p₁ p₂ (p₃ ++ (p₄ ++ p₅)) b₁ over-1 x

      module _ (b₂ : List ℕ) (x₂ : Crossed c b₁ p₂ b₂) where
        over-2 : OverSoFar c all (p₁ ++ p₂) (p₃ ++ (p₄ ++ p₅)) b₂
        over-2 = over-next c all p₁ p₂ (p₃ ++ (p₄ ++ p₅)) b₁ b₂ over-1 x₂

        pub stopped-3 : joins c b₂ p₃ ≡ false → joins c [] all ≡ false
        stopped-3 x = over-stopped c all (p₁ ++ p₂) p₃ (p₄ ++ p₅) b₂ over-2 x

        module _ (b₃ : List ℕ) (x₃ : Crossed c b₂ p₃ b₃) where
          over-3 : OverSoFar c all ((p₁ ++ p₂) ++ p₃) (p₄ ++ p₅) b₃
          over-3 = over-next c all (p₁ ++ p₂) p₃ (p₄ ++ p₅) b₂ b₃ over-2 x₃

          pub stopped-4 : joins c b₃ p₄ ≡ false → joins c [] all ≡ false
          stopped-4 x = over-stopped c all ((p₁ ++ p₂) ++ p₃) p₄ p₅ b₃ over-3 x

          module _ (b₄ : List ℕ) (x₄ : Crossed c b₃ p₄ b₄) where
            over-4 : OverSoFar c all (((p₁ ++ p₂) ++ p₃) ++ p₄) p₅ b₄
            over-4 = over-next c all ((p₁ ++ p₂) ++ p₃) p₄ p₅ b₃ b₄ over-3 x₄

            pub stopped-5 : joins c b₄ p₅ ≡ false → joins c [] all ≡ false
            stopped-5 x = over-stopped-last c all (((p₁ ++ p₂) ++ p₃) ++ p₄) p₅ b₄ over-4 x

            pub all-crossed : (b₅ : List ℕ) → Crossed c b₄ p₅ b₅ → joins c [] all ≡ true
            all-crossed b₅ x₅ = over-last c all (((p₁ ++ p₂) ++ p₃) ++ p₄) p₅ b₄ b₅ over-4 x₅

-- a part has no more tokens than lie between its ends
pub part-at-most : {A : Type 0} (f t k : ℕ) (xs : List A) → t ≤ f + k → length (part f t xs) ≤ k
part-at-most f t k xs h = omega (arith, h, length-part f t xs)

-- what is made has no open node left, and its size is told by those of its parts
module _ (c : ℕ → ℕ → Bool) (ts : List Token) (ends : Ends) (sl : Slice) (b : Balanced ts) (p : IsPlaced ts ends sl) where
  pub around-ended : (made : List Token) → Appended c [] (around_of ts ends sl) made → unclosed [] made ≡ []
  around-ended made a =
      let d = depths-of ts ends.from ends.to sl p.depths in
      ap (unclosed []) a.tokens
      ∙ (around-whole c ts ends.from ends.to ends.gap_from ends.gap_to sl ends.insert (balanced-whole b) (slice-is sl p.slice) p.before p.gap p.behind p.within p.insert
      (whole-of (part ends.gap_from ends.gap_to ts) p.whole) d.0 d.1 a.joined).ended

  pub large-around : length (plain (around_of ts ends sl)) + ((ends.gap_from - ends.from) + (ends.to - ends.gap_to)) ≡ length ts + slice_size sl
  large-around =
      let d = depths-of ts ends.from ends.to sl p.depths in
      around-size c ts ends.from ends.to ends.gap_from ends.gap_to sl ends.insert (balanced-whole b) (slice-is sl p.slice) p.before p.gap p.behind p.within p.insert
      (whole-of (part ends.gap_from ends.gap_to ts) p.whole) d.0 d.1
