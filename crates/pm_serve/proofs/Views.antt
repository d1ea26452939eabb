-- A service whose states are seen as others: what it answers is what they are answered.
use Rattle.std.proofs.Common.{◌≡◌, ◌++◌, ◌∙◌, ℕ, Bool, List, [], ◌∷◌, length, ap, inl, inr}
use Rattle.std.specs.Prelude.{Option}
use Rattle.pm_serve.specs.declared.serving.Served.{Served}
use Rattle.pm_serve.specs.declared.serving.Served.TheVariants.{End, Closed, ReadFault, WriteFault, Spent}
use Rattle.pm_serve.specs.Serves.{kept, Tells, Answers, Stepped, IsEnd, OverBy, Serves}

module _ {S T : Type 0} (mine : S → List ℕ → List ℕ → Bool → S → Type 0) (last : S → List ℕ)
    (replies : T → List ℕ → List ℕ → Bool → T → Type 0) (said : T → List ℕ) (no_memory : List ℕ)
    (view : S → T) (says : (t : S) → last t ≡ said (view t)) where
  -- in this state the service answers what the view of the state is answered
  abbrev pub Mirrors : S → Type 0
  Mirrors s = (line text : List ℕ) (more : Bool) (t : S) → mine s line text more t → replies (view s) line text more (view t)

  tells-seen : (s : S) (line text : List ℕ) (more : Bool) (t : S) → Mirrors s
      → Tells mine last no_memory s line text more t → Tells replies said no_memory (view s) line text more (view t)
  tells-seen s line text more t m h = elim h [ inl r ↦ inl (m line text more t r) | inr w ↦ inr (w.0, w.1, ap view w.2) ]

  pub stepped-seen : (s t : S) (left rest : Option (List ℕ)) (before after : List ℕ) (old new : Option (List ℕ)) → Mirrors s
      → Stepped mine last no_memory s t left rest before after old new → Stepped replies said no_memory (view s) (view t) left rest before after old new
  stepped-seen s t left rest before after old new m p = record {
    line = p.line;
    came = p.came;
    text = p.text;
    tells = tells-seen s p.line p.text _ t m p.tells;
    added = p.added;
  }

  end-seen : (s t : S) (line out : List ℕ) → Mirrors s → IsEnd mine last no_memory s t line out → IsEnd replies said no_memory (view s) (view t) line out
  end-seen s t line out m h =
      elim h [
        | inl e ↦ inl (e.0, ap view e.1, e.2 ∙ says t)
        | inr e ↦ inr (e.0, (e.1.0, tells-seen s line e.1.0 _ t m e.1.1, e.1.2 ∙ ap (λ x. e.1.0 ++ x) (says t)))
      ]

  pub over-seen : (count : ℕ) (served : Served) (s t : S) (left rest : Option (List ℕ)) (before after : List ℕ) (old new : Option (List ℕ)) → Mirrors s
      → OverBy mine last no_memory count served s t left rest before after old new
      → OverBy replies said no_memory count served (view s) (view t) left rest before after old new
  over-seen count End s t left rest before after old new m o = record {
    line = o.line;
    came = o.came;
    out = o.out;
    is = end-seen s t o.line o.out m o.is;
    added = o.added;
  }
  over-seen count Closed s t left rest before after old new m o = record {
    line = o.line;
    came = o.came;
    text = o.text;
    tells = tells-seen s o.line o.text _ t m o.tells;
    added = o.added;
  }
  over-seen count ReadFault s t left rest before after old new m o = record { taken = o.taken; took = o.took; same = ap view o.same; none = o.none }
  over-seen count WriteFault s t left rest before after old new m o = record {
    line = o.line;
    came = o.came;
    out = o.out;
    is = elim o.is [ inl w ↦ inl (w.0, tells-seen s o.line o.out w.0 t m w.1) | inr e ↦ inr (end-seen s t o.line o.out m e) ];
    front = o.front;
  }
  over-seen count Spent s t left rest before after old new m o = record { taken = o.taken; took = o.took; same = ap view o.same; none = o.none; many = o.many }

  answers-seen : (s : S) (lines : List (List ℕ)) (out : List ℕ) (t : S) → ((s : S) → Mirrors s)
      → Answers mine last no_memory s lines out t → Answers replies said no_memory (view s) lines out (view t)
  answers-seen s [] out t m a = (a.0, ap view a.1)
  answers-seen s (l ∷ lines) out t m a = (a.0, view a.1, a.2, tells-seen s (kept l) a.0 _ a.1 (m s) a.3, a.4, answers-seen a.1 lines a.2 t m a.5)

  -- the view of all that was served
  pub serves-seen : (served : Served) (s t : S) (left rest : Option (List ℕ)) (before after : List ℕ) (old new : Option (List ℕ)) → ((s : S) → Mirrors s)
      → Serves mine last no_memory served s t left rest before after old new → Serves replies said no_memory served (view s) (view t) left rest before after old new
  serves-seen served s t left rest before after old new m h =
      let f = h.lines_came in
      record {
        mid = view h.mid;
        left_then = h.left_then;
        there_then = h.there_then;
        written_then = h.written_then;
        lines_came = record {
          lines = f.lines;
          taken = f.taken;
          took = f.took;
          split = f.split;
          each = f.each;
          out = f.out;
          answers = answers-seen s f.lines f.out h.mid m f.answers;
          added = f.added;
        };
        over = over-seen (length f.lines) served h.mid t h.left_then rest h.there_then after h.written_then new (m h.mid) h.over;
      }
