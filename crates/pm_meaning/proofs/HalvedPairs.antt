-- Halves of pairs at the place where the old and the new tokens of a document are read: the two halves had equal marks and
-- have equal marks, so they stand in one run or in none.
use Rattle.std.specs.Prelude.{◌≡◌, ◌⊎◌, Bool, true, false, cond, List, [], ◌∷◌, ◌++◌, Option, Some, None}
use Rattle.std.specs.Char.Utf16.{is_high_surrogate, is_low_surrogate}
use Rattle.std.proofs.Common.{refl, sym, ◌∙◌, subst, inl, inr}
use Rattle.pm_attrs.specs.Attrs.{same_attrs}
use Rattle.pm_marks.specs.Sets.{same_marks}
use Rattle.pm_tokens.specs.Tokens.{Marks, Token, Open, Close, Leaf, CodeUnit, marks_of}
use Rattle.pm_tokens.specs.Schemas.{Schema}
use Rattle.pm_tokens.specs.Scan.{ends_high}
use Rattle.pm_tokens.specs.Kids.{goes_on}
use Rattle.pm_tokens.specs.Faults.{low_next}
use Rattle.pm_tokens.proofs.PairLaws.{high-last}
use Rattle.pm_tokens.proofs.MarkLaws.{marks-equal}
use Rattle.pm_meaning.specs.Marked.{takes_marks}
use Rattle.pm_meaning.specs.Runs.{Run}
use Rattle.pm_meaning.proofs.TokenMarks.{set_marks}
use Rattle.pm_meaning.proofs.LooseLaws.{Paired, paired-token}
use Rattle.std.proofs.lemmas.Bool.{and_parts}

-- the last of the tokens is no half of a pair that goes on
pub record Clear (q ts ns : List Token) : Type 0 where
  pub ends : ends_high q ≡ false
  pub old_paired : Paired None ts
  pub new_paired : Paired None ns

-- the marks agree with the run, or are the same where none is
abbrev pub Agrees : Option Run → Marks → Marks → Type 0
Agrees None old new = old ≡ new
Agrees (Some run) old new = (run.old ≡ old) × (run.new ≡ new)

-- the last of the tokens is a high surrogate, whose other half comes next
pub record Halved (run : Option Run) (ts ns : List Token) : Type 0 where
  pub old : Marks
  pub new : Marks
  pub old_low : low_next old ts ≡ true
  pub new_low : low_next new ns ≡ true
  pub old_paired : Paired (Some old) ts
  pub new_paired : Paired (Some new) ns
  pub agrees : Agrees run old new

abbrev pub Link : Option Run → List Token → List Token → List Token → Type 0
Link run q ts ns = Clear q ts ns ⊎ Halved run ts ns

-- a unit of text
abbrev pub is_unit : Token → Bool
is_unit (Open k a m) = false
is_unit Close = false
is_unit (Leaf k a m) = false
is_unit (CodeUnit u m) = true

-- what a token leaves to those after it
pub next-link : (run : Option Run) (q : List Token) (t n : Token) (g h : Option Marks) (ts ns : List Token) → n ≡ set_marks (marks_of n) t → (is_unit t ≡ true → Agrees run (marks_of t) (marks_of n))
    → Paired g (t ∷ ts) → Paired h (n ∷ ns) → Link run (q ++ (t ∷ [])) ts ns
next-link run q (Open k a m) n g h ts ns e w x y =
    inl (record { ends = high-last q (Open k a m) []; old_paired = x; new_paired = (paired-token h (Open k a (marks_of n)) ns (subst (λ z. Paired h (z ∷ ns)) e y)).1 })
next-link run q Close n g h ts ns e w x y =
    inl (record { ends = high-last q Close []; old_paired = x; new_paired = (paired-token h Close ns (subst (λ z. Paired h (z ∷ ns)) e y)).1 })
next-link run q (Leaf k a m) n g h ts ns e w x y =
    inl (record { ends = high-last q (Leaf k a m) []; old_paired = x; new_paired = (paired-token h (Leaf k a (marks_of n)) ns (subst (λ z. Paired h (z ∷ ns)) e y)).1 })
next-link run q (CodeUnit u m) n g h ts ns e w x y = by (is_high_surrogate u) refl (subst (λ z. Paired h (z ∷ ns)) e y)
  where
    by : (b : Bool) → is_high_surrogate u ≡ b → Paired h (CodeUnit u (marks_of n) ∷ ns) → Link run (q ++ (CodeUnit u m ∷ [])) ts ns
    by true i z = inr (record {
      old = m;
      new = marks_of n;
      old_low = subst (λ b. cond b (low_next m ts) (cond (is_low_surrogate u) (goes_on g m) true) ≡ true) i x.0;
      new_low = subst (λ b. cond b (low_next (marks_of n) ns) (cond (is_low_surrogate u) (goes_on h (marks_of n)) true) ≡ true) i z.0;
      old_paired = subst (λ b. Paired (cond b (Some m) None) ts) i x.1;
      new_paired = subst (λ b. Paired (cond b (Some (marks_of n)) None) ns) i z.1;
      agrees = w refl;
    })
    by false i z = inl (record {
      ends = high-last q (CodeUnit u m) [] ∙ i;
      old_paired = subst (λ b. Paired (cond b (Some m) None) ts) i x.1;
      new_paired = subst (λ b. Paired (cond b (Some (marks_of n)) None) ns) i z.1;
    })

-- the other half of a pair
pub record Half (s : Schema) (t n : Token) (old new : Marks) : Type 0 where
  pub old_is : marks_of t ≡ old
  pub new_is : marks_of n ≡ new
  pub takes : takes_marks s t ≡ true

pub half-of : (s : Schema) (t n : Token) (ts ns : List Token) (old new : Marks) → n ≡ set_marks (marks_of n) t → low_next old (t ∷ ts) ≡ true → low_next new (n ∷ ns) ≡ true → Half s t n old new
half-of s (Open k a m) n ts ns old new e x y = absurd (cc)
half-of s Close n ts ns old new e x y = absurd (cc)
half-of s (Leaf k a m) n ts ns old new e x y = absurd (cc)
half-of s (CodeUnit u m) n ts ns old new e x y =
    let z : low_next new (CodeUnit u (marks_of n) ∷ ns) ≡ true = subst (λ z. low_next new (z ∷ ns) ≡ true) e y in
    record {
      old_is = sym (marks-equal old m (and_parts (is_low_surrogate u) (same_marks same_attrs old m) x).1);
      new_is = sym (marks-equal new (marks_of n) (and_parts (is_low_surrogate u) (same_marks same_attrs new (marks_of n)) z).1);
      takes = refl;
    }
