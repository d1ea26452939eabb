-- The units of a text that is not broken are whole.
use Rattle.std.proofs.Common.{◌≡◌, ℕ, ◌+◌, zero, suc, List, [], ◌∷◌, Bool, true, false, cond, refl, ◌&&◌, ◌||◌, not}
use Rattle.std.specs.Prelude.{Option, Some, None, slice_index}
use Rattle.std.specs.Char.Utf16.{is_high_surrogate, is_low_surrogate}
use Rattle.pm_attrs.specs.Attrs.{same_attrs}
use Rattle.pm_marks.specs.Sets.{same_marks}
use Rattle.pm_text.specs.Lone.{is_lone, HasNoLone}
use Rattle.pm_tokens.specs.Tokens.{Marks, CodeUnit}
use Rattle.pm_tokens.specs.Kids.{text_tokens, goes_on}
use Rattle.pm_tokens.specs.Faults.{low_next, high_of, first_broken}
use Rattle.pm_docjson.proofs.Pairs.{first_whole, later}

no-and : (a : Bool) → (a && false) ≡ false
no-and true = refl
no-and false = refl

lone-by : (high low before after next goes : Bool) → (next ≡ true → after ≡ true) → (goes ≡ true → before ≡ true) → cond high next (cond low goes true) ≡ true
    → ((high || low) && not (before && low) && not (high && after)) ≡ false
lone-by true low before after next goes f g h = rw (f h) (no-and (not (before && low)))
lone-by false true before after next goes f g h = rw (g h) refl
lone-by false false before after next goes f g h = refl

first-half : (a b : Bool) → (a && b) ≡ true → a ≡ true
first-half true b h = refl
first-half false b h = absurd (cc)

low-first : (m : Marks) (us : List ℕ) → low_next m (text_tokens m us) ≡ true → is_low_surrogate (slice_index us 0) ≡ true
low-first m [] h = absurd (cc)
low-first m (u ∷ us) h = first-half (is_low_surrogate u) (same_marks same_attrs m m) h

high-before : (b : Bool) (m : Marks) → goes_on (cond b (Some m) None) m ≡ true → b ≡ true
high-before true m h = refl
high-before false m h = absurd (cc)

whole-from : (b : ℕ) (m : Marks) (us : List ℕ) (at : ℕ) (high : Option Marks) → (goes_on high m ≡ true → is_high_surrogate b ≡ true) → first_broken at high (text_tokens m us) ≡ None → (i : ℕ)
    → is_lone (slice_index (b ∷ us) i) (slice_index us i) (slice_index us (suc i)) ≡ false
whole-from b m [] at high g h zero = refl
whole-from b m [] at high g h (suc i) = refl
whole-from b m (u ∷ us) at high g h zero =
    lone-by (is_high_surrogate u) (is_low_surrogate u) (is_high_surrogate b) (is_low_surrogate (slice_index us 0)) (low_next m (text_tokens m us)) (goes_on high m) (low-first m us) g (first_whole at high (CodeUnit u m) (text_tokens m us) h)
whole-from b m (u ∷ us) at high g h (suc i) = whole-from u m us (at + 1) (high_of (CodeUnit u m)) (high-before (is_high_surrogate u) m) (later at high (CodeUnit u m) (text_tokens m us) h) i

none-before : (m : Marks) → goes_on None m ≡ true → is_high_surrogate 0 ≡ true
none-before m h = absurd (cc)

pub no-lone : (m : Marks) (us : List ℕ) → first_broken 1 None (text_tokens m us) ≡ None → HasNoLone us
no-lone m us h i = whole-from 0 m us 1 None (none-before m) h i
