-- One step after another.
use Rattle.std.proofs.Common.{◌≡◌, ◌≢◌, ◌+◌, ◌++◌, ◌∙◌, ℕ, Bool, true, false, List, [], ◌∷◌, length, take, refl, ap, sym, subst, inl, inr, append_assoc, arith}
use Rattle.std.specs.Prelude.{Option, None, Some}
use Rattle.std.proofs.lemmas.List.{append-nil, length-append}
use Rattle.std.proofs.Math.Seq.{take-append-add}
use Rattle.std.specs.Io.KnownBytes.{Consumes}
use Rattle.std.proofs.KnownBytes.{Consumes-trans}
use Rattle.pm_io.specs.Moves.{Adds}
use Rattle.pm_io.proofs.Chains.{Adds-chain}
use Rattle.pm_serve.specs.Lines.{with_lf, AreLines}
use Rattle.pm_serve.specs.Bytes.{has_lf}
use Rattle.pm_serve.specs.Reads.{EndCame}
use Rattle.pm_serve.specs.declared.serving.Served.{Served}
use Rattle.pm_serve.specs.declared.serving.Served.TheVariants.{End, Closed, ReadFault, WriteFault, Spent}
use Rattle.pm_serve.specs.Serves.{kept, FrontWritten, Tells, Answers, Stepped, SoFar, SaysLast, OverBy}

with_lf-more : (lines : List (List ℕ)) (l : List ℕ) → with_lf (lines ++ l ∷ []) ≡ with_lf lines ++ (l ++ 10 ∷ [])
with_lf-more [] l = refl
with_lf-more (k ∷ lines) l = ap (λ r. k ++ 10 ∷ r) (with_lf-more lines l) ∙ sym (append_assoc k (10 ∷ with_lf lines) (l ++ 10 ∷ []))

lines-more : (lines : List (List ℕ)) (l : List ℕ) → AreLines lines → has_lf l ≡ false → AreLines (lines ++ l ∷ [])
lines-more [] l h o = (o, tt)
lines-more (k ∷ lines) l h o = (h.0, lines-more lines l h.1 o)

pub none-taken : (left : Option (List ℕ)) → Consumes left left []
none-taken None = tt
none-taken (Some xs) = refl

pub none-added : (old : Option (List ℕ)) → Adds old old []
none-added None = tt
none-added (Some xs) = sym (append-nil xs)

split-more : (before taken more whole now after : List ℕ) (lines : List (List ℕ)) → before ++ taken ≡ with_lf lines ++ now → now ++ more ≡ whole ++ 10 ∷ after
    → before ++ (taken ++ more) ≡ with_lf (lines ++ whole ∷ []) ++ after
split-more before taken more whole now after lines e f =
    sym (append_assoc before taken more) ∙ ap (λ r. r ++ more) e ∙ append_assoc (with_lf lines) now more ∙ ap (λ r. with_lf lines ++ r) f
    ∙ sym (ap (λ r. r ++ after) (with_lf-more lines whole) ∙ append_assoc (with_lf lines) (whole ++ 10 ∷ []) after ∙ ap (λ r. with_lf lines ++ r) (append_assoc whole (10 ∷ []) after))

-- a front of a text that stands after another
pub front-behind : (a b c : Option (List ℕ)) (text more : List ℕ) → Adds a b text → FrontWritten more b c → FrontWritten (text ++ more) a c
front-behind a b c text more h f = record {
  count = length text + f.count;
  within = let w = f.within in omega (arith, length-append text more);
  front = rw take-append-add (Adds-chain a b c text (take f.count more) h f.front);
}

module _ {S : Type 0} (replies : S → List ℕ → List ℕ → Bool → S → Type 0) (last : S → List ℕ) (no_memory : List ℕ) where
  answers-more : (s : S) (lines : List (List ℕ)) (out : List ℕ) (mid : S) (l text : List ℕ) (t : S)
      → Answers replies last no_memory s lines out mid → Tells replies last no_memory mid (kept l) text true t → Answers replies last no_memory s (lines ++ l ∷ []) (out ++ text) t
  answers-more s [] out mid l text t a h =
      (text, t, [], subst (λ (m : S). Tells replies last no_memory m (kept l) text true t) a.1 h, ap (λ r. r ++ text) a.0 ∙ sym (append-nil text), (refl, refl))
  answers-more s (k ∷ lines) out mid l text t a h =
      (a.0, a.1, a.2 ++ text, a.3, ap (λ r. r ++ text) a.4 ∙ append_assoc a.0 a.2 text, answers-more a.1 lines a.2 mid l text t a.5 h)

  pub at-first : (s : S) (left : Option (List ℕ)) (before : List ℕ) (old : Option (List ℕ)) → SoFar replies last no_memory s s left left before before old old
  at-first s left before old = record {
    lines = [];
    taken = [];
    took = none-taken left;
    split = append-nil before;
    each = tt;
    out = [];
    answers = (refl, refl);
    added = none-added old;
  }

  pub one-more : (s mid t : S) (left then rest : Option (List ℕ)) (before now after : List ℕ) (old mean new : Option (List ℕ))
      → SoFar replies last no_memory s mid left then before now old mean → Stepped replies last no_memory mid t then rest now after mean new → SoFar replies last no_memory s t left rest before after old new
  one-more s mid t left then rest before now after old mean new f p = record {
    lines = f.lines ++ p.came.whole ∷ [];
    taken = f.taken ++ p.came.taken;
    took = Consumes-trans left then rest f.taken p.came.taken f.took p.came.took;
    split = split-more before f.taken p.came.taken p.came.whole now after f.lines f.split p.came.split;
    each = lines-more f.lines p.came.whole f.each p.came.one;
    out = f.out ++ p.text;
    answers = answers-more s f.lines f.out mid p.came.whole p.text t f.answers (subst (λ (l : List ℕ). Tells replies last no_memory mid l p.text true t) p.came.kept p.tells);
    added = Adds-chain old mean new f.out p.text f.added p.added;
  }

  pub one-more-count : (s mid t : S) (left then rest : Option (List ℕ)) (before now after : List ℕ) (old mean new : Option (List ℕ))
      (f : SoFar replies last no_memory s mid left then before now old mean) (p : Stepped replies last no_memory mid t then rest now after mean new)
      → length (one-more s mid t left then rest before now after old mean new f p).lines ≡ length f.lines + 1
  unfolding one-more
  one-more-count s mid t left then rest before now after old mean new f p = length-append f.lines (p.came.whole ∷ [])

  -- what is said at the end of input, after the answer to a last line
  pub said-behind : (r : Served) (s t : S) (left rest : Option (List ℕ)) (before after line text : List ℕ) (old mean new : Option (List ℕ))
      → EndCame left rest before after line → line ≢ [] → Tells replies last no_memory s line text true t → Adds old mean text → SaysLast (last t) r mean new
      → OverBy replies last no_memory 0 r s t left rest before after old new
  said-behind End s t left rest before after line text old mean new e ne h a l = record {
    line = line;
    came = e;
    out = text ++ last t;
    is = inr (ne, (text, h, refl));
    added = Adds-chain old mean new text (last t) a l;
  }
  said-behind Closed s t left rest before after line text old mean new e ne h a l = absurd l
  said-behind ReadFault s t left rest before after line text old mean new e ne h a l = absurd l
  said-behind WriteFault s t left rest before after line text old mean new e ne h a l = record {
    line = line;
    came = inr e;
    out = text ++ last t;
    is = inr (inr (ne, (text, h, refl)));
    front = front-behind old mean new text (last t) a l;
  }
  said-behind Spent s t left rest before after line text old mean new e ne h a l = absurd l

  -- what is said at the end of input, where there is no last line
  pub said-alone : (r : Served) (s : S) (left rest : Option (List ℕ)) (before after line : List ℕ) (old new : Option (List ℕ))
      → EndCame left rest before after line → line ≡ [] → SaysLast (last s) r old new → OverBy replies last no_memory 0 r s s left rest before after old new
  said-alone End s left rest before after line old new e n l = record { line = line; came = e; out = last s; is = inl (n, refl, refl); added = l }
  said-alone Closed s left rest before after line old new e n l = absurd l
  said-alone ReadFault s left rest before after line old new e n l = absurd l
  said-alone WriteFault s left rest before after line old new e n l = record { line = line; came = inr e; out = last s; is = inr (inl (n, refl, refl)); front = l }
  said-alone Spent s left rest before after line old new e n l = absurd l
