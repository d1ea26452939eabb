-- Lines after lines.
use Rattle.std.proofs.Common.{◌≡◌, ◌≤◌, ◌+◌, ◌++◌, ◌∙◌, ℕ, Bool, List, [], ◌∷◌, length, refl, ap, sym, subst, append_assoc, arith, inl, inr}
use Rattle.std.specs.Prelude.{Option}
use Rattle.std.proofs.lemmas.List.{length-append}
use Rattle.std.proofs.KnownBytes.{Consumes-trans}
use Rattle.pm_io.proofs.Chains.{Adds-chain}
use Rattle.pm_serve.specs.Lines.{with_lf, AreLines}
use Rattle.pm_serve.specs.declared.serving.Served.{Served}
use Rattle.pm_serve.specs.declared.serving.Served.TheVariants.{End, Closed, ReadFault, WriteFault, Spent}
use Rattle.pm_serve.specs.Reads.{most}
use Rattle.pm_serve.specs.Serves.{Answers, SoFar, OverBy, Serves}
use Rattle.pm_serve.proofs.Steps.{none-taken, none-added}

pub with_lf-append : (lines more : List (List ℕ)) → with_lf (lines ++ more) ≡ with_lf lines ++ with_lf more
with_lf-append [] more = refl
with_lf-append (l ∷ lines) more = ap (λ r. l ++ 10 ∷ r) (with_lf-append lines more) ∙ sym (append_assoc l (10 ∷ with_lf lines) (with_lf more))

pub lines-append : (lines more : List (List ℕ)) → AreLines lines → AreLines more → AreLines (lines ++ more)
lines-append [] more h m = m
lines-append (l ∷ lines) more h m = (h.0, lines-append lines more h.1 m)

pub split-append : (before taken later now after : List ℕ) (lines more : List (List ℕ)) → before ++ taken ≡ with_lf lines ++ now → now ++ later ≡ with_lf more ++ after
    → before ++ (taken ++ later) ≡ with_lf (lines ++ more) ++ after
split-append before taken later now after lines more e f =
    sym (append_assoc before taken later) ∙ ap (λ r. r ++ later) e ∙ append_assoc (with_lf lines) now later ∙ ap (λ r. with_lf lines ++ r) f
    ∙ sym (ap (λ r. r ++ after) (with_lf-append lines more) ∙ append_assoc (with_lf lines) (with_lf more) after)

module _ {S : Type 0} (replies : S → List ℕ → List ℕ → Bool → S → Type 0) (last : S → List ℕ) (no_memory : List ℕ) where
  answers-append : (s : S) (lines : List (List ℕ)) (out : List ℕ) (mid : S) (more : List (List ℕ)) (later : List ℕ) (t : S)
      → Answers replies last no_memory s lines out mid → Answers replies last no_memory mid more later t
      → Answers replies last no_memory s (lines ++ more) (out ++ later) t
  answers-append s [] out mid more later t a b =
      subst (λ (o : List ℕ). Answers replies last no_memory s more (o ++ later) t) (sym a.0)
      (subst (λ (m : S). Answers replies last no_memory m more later t) a.1 b)
  answers-append s (l ∷ lines) out mid more later t a b =
      (a.0, a.1, a.2 ++ later, a.3, ap (λ r. r ++ later) a.4 ∙ append_assoc a.0 a.2 later, answers-append a.1 lines a.2 mid more later t a.5 b)

  pub joined : (s mid t : S) (left then rest : Option (List ℕ)) (before now after : List ℕ) (old mean new : Option (List ℕ))
      → SoFar replies last no_memory s mid left then before now old mean → SoFar replies last no_memory mid t then rest now after mean new
      → SoFar replies last no_memory s t left rest before after old new
  joined s mid t left then rest before now after old mean new f g = record {
    lines = f.lines ++ g.lines;
    taken = f.taken ++ g.taken;
    took = Consumes-trans left then rest f.taken g.taken f.took g.took;
    split = split-append before f.taken g.taken now after f.lines g.lines f.split g.split;
    each = lines-append f.lines g.lines f.each g.each;
    out = f.out ++ g.out;
    answers = answers-append s f.lines f.out mid g.lines g.out t f.answers g.answers;
    added = Adds-chain old mean new f.out g.out f.added g.added;
  }

  -- how it was over after so many lines, after more
  pub after-more : (n m : ℕ) (served : Served) (s t : S) (left rest : Option (List ℕ)) (before after : List ℕ) (old new : Option (List ℕ)) → n ≤ m
      → OverBy replies last no_memory n served s t left rest before after old new → OverBy replies last no_memory m served s t left rest before after old new
  after-more n m End s t left rest before after old new h o = o
  after-more n m Closed s t left rest before after old new h o = o
  after-more n m ReadFault s t left rest before after old new h o = o
  after-more n m WriteFault s t left rest before after old new h o = o
  after-more n m Spent s t left rest before after old new h o = record {
    taken = o.taken;
    took = o.took;
    same = o.same;
    none = o.none;
    many = elim o.many [ inl k ↦ inl (omega (arith, k)) | inr long ↦ inr long ];
  }

  -- lines were answered, and then it was over
  pub over-behind : (served : Served) (s mid t : S) (left then rest : Option (List ℕ)) (before now after : List ℕ) (old mean new : Option (List ℕ))
      → SoFar replies last no_memory s mid left then before now old mean → OverBy replies last no_memory 0 served mid t then rest now after mean new
      → Serves replies last no_memory served s t left rest before after old new
  over-behind served s mid t left then rest before now after old mean new f o = record {
    mid = mid;
    left_then = then;
    there_then = now;
    written_then = mean;
    lines_came = f;
    over = after-more 0 (length f.lines) served mid t then rest now after mean new (omega arith) o;
  }

  -- lines were answered, and then others, to the end
  pub behind : (served : Served) (s mid t : S) (left then rest : Option (List ℕ)) (before now after : List ℕ) (old mean new : Option (List ℕ))
      → SoFar replies last no_memory s mid left then before now old mean → Serves replies last no_memory served mid t then rest now after mean new
      → Serves replies last no_memory served s t left rest before after old new
  unfolding joined
  behind served s mid t left then rest before now after old mean new f g = record {
    mid = g.mid;
    left_then = g.left_then;
    there_then = g.there_then;
    written_then = g.written_then;
    lines_came = joined s mid g.mid left then g.left_then before now g.there_then old mean g.written_then f g.lines_came;
    over = after-more (length g.lines_came.lines) (length (f.lines ++ g.lines_came.lines)) served g.mid t g.left_then rest g.there_then after g.written_then new
        (omega (arith, length-append f.lines g.lines_came.lines)) g.over;
  }

  -- so many lines were answered, and no further one is read
  pub stopped : (s t : S) (left rest : Option (List ℕ)) (before after : List ℕ) (old new : Option (List ℕ)) (f : SoFar replies last no_memory s t left rest before after old new)
      → most ≤ length f.lines → Serves replies last no_memory Spent s t left rest before after old new
  stopped s t left rest before after old new f h = record {
    mid = t;
    left_then = rest;
    there_then = after;
    written_then = new;
    lines_came = f;
    over = record { taken = []; took = none-taken rest; same = refl; none = none-added new; many = inl h };
  }
