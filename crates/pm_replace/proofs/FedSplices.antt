-- A spliced list as three parts, fed one after another.
use Rattle.std.specs.Prelude.{◌≡◌, ℕ, ◌+◌, ◌-◌, ◌≤◌, Bool, true, false, List, [], ◌++◌, length, Result, Err}
use Rattle.std.proofs.Common.{ap, sym, ◌∙◌, subst, arith, length-append}
use Rattle.pm_tokens.specs.Tokens.{Token}
use Rattle.pm_tokens.specs.Scan.{Owned, unclosed, owned, plain, joins, part, Balanced}
use Rattle.pm_tokens.proofs.BalanceLaws.{balanced-whole}
use Rattle.pm_meaning.proofs.ReplaceLaws.{depths-of}
use Rattle.pm_tokens.specs.Slices.{Slice, is_slice, slice_size, content_end, spliced, depths_fit}
use Rattle.pm_tokens.proofs.ScanLaws.{length-owned}
use Rattle.pm_tokens.proofs.PartLaws.{slice-is}
use Rattle.pm_tokens.proofs.OwnedParts.{length-part}
use Rattle.pm_tokens.proofs.SpliceLaws.{length-plain, spliced-parts, spliced-whole}
use Rattle.pm_build.specs.declared.refused.Refused.{Refused}
use Rattle.pm_build.specs.Fed.{Appended, Crossed, ForJoin}
use Rattle.pm_build.proofs.FedLaws.{appended-more, refused-more, refused-first, for_weaker}
use Rattle.pm_build.proofs.CrossLaws.{crossed-more, stopped-more, stopped-first}
use Rattle.pm_replace.specs.Splices.{Splices, Joins}

-- what the code reads of the slice and of the content: the slice's own tokens stand in `inner` from `start` to `end`
pub record Read (ts : List Token) (sl : Slice) (inner : List Token) (start end size : ℕ) : Type 0 where
  pub content : inner ≡ sl.content
  pub starts : start ≡ sl.open_start
  pub ends : end ≡ content_end sl
  pub sized : size ≡ length ts

-- where the slice's own tokens end
pub end-is : (sl : Slice) → is_slice sl ≡ true → sl.open_start + slice_size sl ≡ content_end sl
end-is sl h = let w = slice-is sl h in omega (arith, w.within)

pub end-within : (sl : Slice) → is_slice sl ≡ true → content_end sl ≤ length sl.content
end-within sl h = omega arith

pub read : (ts : List Token) (sl : Slice) (inner : List Token) (start added size : ℕ)
    → is_slice sl ≡ true → inner ≡ sl.content → start ≡ sl.open_start → added ≡ slice_size sl → size ≡ length ts → Read ts sl inner start (start + added) size
read ts sl inner start added size w e f g h = record { content = e; starts = f; ends = omega (arith, f, g, end-is sl w); sized = h }

module _ (c : ℕ → ℕ → Bool) (from to : ℕ) {ts : List Token} {sl : Slice} {inner : List Token} {os end size : ℕ} (r : Read ts sl inner os end size) where
  abbrev pub before : List Owned
  before = part 0 from (owned [] ts)

  abbrev pub middle : List Owned
  middle = part os end (owned [] inner)

  abbrev pub after : List Owned
  after = part to size (owned [] ts)

  in-parts : spliced ts from to sl ≡ before ++ (middle ++ after)
  in-parts =
      spliced-parts ts from to sl
      ∙ (ap (λ n. before ++ (part n (content_end sl) (owned [] sl.content) ++ part to (length ts) (owned [] ts))) (sym r.starts)
      ∙ (ap (λ n. before ++ (part os n (owned [] sl.content) ++ part to (length ts) (owned [] ts))) (sym r.ends)
      ∙ (ap (λ z. before ++ (part os end (owned [] z) ++ part to (length ts) (owned [] ts))) (sym r.content)
      ∙ ap (λ n. before ++ (middle ++ part to n (owned [] ts))) (sym r.sized))))

  refused-is : joins c [] (before ++ (middle ++ after)) ≡ false → joins c [] (spliced ts from to sl) ≡ false
  refused-is h = ap (joins c []) in-parts ∙ h

  -- a refusal, at what a `?` returns
  pub splice_err : (result : Result (List Token) Refused) (e y : Refused) (P : Type 0) → result ≡ Err y → y ≡ e → ForJoin P e → (P → joins c [] (spliced ts from to sl) ≡ false) → Splices c (spliced ts from to sl) result
  splice_err result e y P w s h f =
      let k : ForJoin (joins c [] (spliced ts from to sl) ≡ false) y = for_weaker P (joins c [] (spliced ts from to sl) ≡ false) y f (subst (ForJoin P) (sym s) h) in
      rw w k

  pub join_err : (result : Result (Unit {0}) Refused) (e y : Refused) (P : Type 0) → result ≡ Err y → y ≡ e → ForJoin P e → (P → joins c [] (spliced ts from to sl) ≡ false) → Joins c (spliced ts from to sl) result
  join_err result e y P w s h f =
      let k : ForJoin (joins c [] (spliced ts from to sl) ≡ false) y = for_weaker P (joins c [] (spliced ts from to sl) ≡ false) y f (subst (ForJoin P) (sym s) h) in
      rw w k

  module _ (b₀ : List Token) (start : b₀ ≡ []) where
    pub refused-1 : joins c (unclosed [] b₀) before ≡ false → joins c [] (spliced ts from to sl) ≡ false
    refused-1 x =
        let y : joins c [] before ≡ false = subst (λ z. joins c (unclosed [] z) before ≡ false) start x in
        refused-is (refused-first c [] before (middle ++ after) y)

    module _ (m₁ : List Token) (x : Appended c b₀ before m₁) where
      first : Appended c [] before m₁
      first = subst (λ z. Appended c z before m₁) start x

      pub refused-2 : joins c (unclosed [] m₁) middle ≡ false → joins c [] (spliced ts from to sl) ≡ false
      refused-2 y = refused-is (refused-more c [] m₁ before (middle ++ after) first (refused-first c m₁ middle after y))

      pub length-1 : from ≤ length ts → length m₁ ≡ from
      length-1 h = omega (arith, h, ap length first.tokens, length-plain before, length-part 0 from (owned [] ts), length-owned [] ts)

      module _ (m₂ : List Token) (y : Appended c m₁ middle m₂) where
        pub refused-3 : joins c (unclosed [] m₂) after ≡ false → joins c [] (spliced ts from to sl) ≡ false
        refused-3 z = refused-is (refused-more c [] m₁ before (middle ++ after) first (refused-more c m₁ m₂ middle after y z))

        pub length-2 : from ≤ length ts → length m₂ ≤ from + (end - os)
        length-2 h = omega (arith, length-1 h, ap length y.tokens, length-append m₁ (plain middle), length-plain middle, length-part os end (owned [] inner))

        module _ (m₃ : List Token) (z : Appended c m₂ after m₃) where
          pub all-fed : Appended c [] (spliced ts from to sl) m₃
          all-fed = subst (λ p. Appended c [] p m₃) (sym in-parts) (appended-more c [] m₁ m₃ before (middle ++ after) first (appended-more c m₁ m₂ m₃ middle after y z))

          pub none-open : Balanced ts → is_slice sl ≡ true → from ≤ to → to ≤ length ts → depths_fit ts from to sl ≡ true → unclosed [] m₃ ≡ []
          none-open b w h i e =
              let d = depths-of ts from to sl e in
              ap (unclosed []) all-fed.tokens ∙ (spliced-whole c ts from to sl (balanced-whole b) (slice-is sl w) h i d.0 d.1 all-fed.joined).ended

  module _ (b₀ : List ℕ) (start : b₀ ≡ []) where
    pub stopped-1 : joins c b₀ before ≡ false → joins c [] (spliced ts from to sl) ≡ false
    stopped-1 x = refused-is (stopped-first c [] before (middle ++ after) (subst (λ z. joins c z before ≡ false) start x))

    module _ (m₁ : List ℕ) (x : Crossed c b₀ before m₁) where
      over : Crossed c [] before m₁
      over = subst (λ z. Crossed c z before m₁) start x

      pub stopped-2 : joins c m₁ middle ≡ false → joins c [] (spliced ts from to sl) ≡ false
      stopped-2 y = refused-is (stopped-more c [] m₁ before (middle ++ after) over (stopped-first c m₁ middle after y))

      module _ (m₂ : List ℕ) (y : Crossed c m₁ middle m₂) where
        pub stopped-3 : joins c m₂ after ≡ false → joins c [] (spliced ts from to sl) ≡ false
        stopped-3 z = refused-is (stopped-more c [] m₁ before (middle ++ after) over (stopped-more c m₁ m₂ middle after y z))

        pub all-crossed : (m₃ : List ℕ) → Crossed c m₂ after m₃ → joins c [] (spliced ts from to sl) ≡ true
        all-crossed m₃ z = ap (joins c []) in-parts ∙ (crossed-more c [] m₁ m₃ before (middle ++ after) over (crossed-more c m₁ m₂ m₃ middle after y z)).joined
