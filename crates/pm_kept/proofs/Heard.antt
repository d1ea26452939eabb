-- Lines that are heard one after another.
use Rattle.std.proofs.Common.{◌≡◌, ℕ, Bool, true, false, List, [], ◌∷◌, ◌++◌, map, inl, inr, refl, sym, ◌∙◌, ap, subst, append_assoc}
use Rattle.std.specs.Prelude.{◌≢◌, Option, Some, MatchBool, if◌then◌else◌}
use Rattle.std.proofs.lemmas.List.{append-nil, map-append}
use Rattle.pm_journal.specs.Lines.{lines_of, HoldsLines}
use Rattle.pm_journal.specs.declared.group.Group.{Group}
use Rattle.pm_serve.specs.Lines.{with_lf}
use Rattle.pm_serve.specs.Reads.{WasWaiting}
use Rattle.pm_serve.specs.Serves.{kept}
use Rattle.pm_serve.proofs.Joins.{with_lf-append, lines-append}
use Rattle.pm_kept.specs.Means.{Meaning}
use Rattle.pm_kept.specs.Behind.{Takes}
use Rattle.pm_kept.specs.Kept.{held_lines, AreHeld}
use Rattle.pm_kept.specs.Runs.{Told, Hears, HearsSome, HearsAll, TakesFurther}

-- whether one was waiting
pub was_waiting : (b : Bool) (before after line : List ℕ) → b ≡ true → TakesFurther b before after line → WasWaiting before after line
was_waiting true before after line is h = h
was_waiting false before after line is h = absurd (cc)

pub not_waiting : (b : Bool) (before after line : List ℕ) → b ≡ false → TakesFurther b before after line → after ≡ before
not_waiting true before after line is h = absurd (cc)
not_waiting false before after line is h = h

module _ {S : Type 0} (m : Meaning S) where
  -- lines, and then others
  pub hears_append : (lines later : List (List ℕ)) (first : S) (out : List ℕ) (some : List (List ℕ)) (mid : S) (rest : List ℕ) (new : List (List ℕ)) (now : S)
      → Hears m first lines out some mid → Hears m mid later rest new now → Hears m first (lines ++ later) (out ++ rest) (some ++ new) now
  hears_append [] later first out some mid rest new now a b =
      subst (λ (o : List ℕ). Hears m first later (o ++ rest) (some ++ new) now) (sym a.0)
      (subst (λ (s : List (List ℕ)). Hears m first later rest (s ++ new) now) (sym a.1) (subst (λ (t : S). Hears m t later rest new now) a.2 b))
  hears_append (line ∷ lines) later first out some mid rest new now a b = (
    a.0,
    a.1,
    a.2,
    a.3 ++ rest,
    a.4 ++ new,
    a.5,
    ap (λ (o : List ℕ). o ++ rest) a.6 ∙ append_assoc a.0 a.3 rest,
    ap (λ (s : List (List ℕ)). s ++ new) a.7 ∙ append_assoc a.2 a.4 new,
    hears_append lines later a.1 a.3 a.4 mid rest new now a.8 b,
  )

  hears_one : (was : S) (line text : List ℕ) (now : S) (new : List (List ℕ)) → Told m was line text true now new → Hears m was (line ∷ []) text new now
  hears_one was line text now new told = (text, now, new, [], [], told, sym (append-nil text), sym (append-nil new), (refl, refl, refl))

  -- where the last one is answered so that further lines are
  pub all_heard : (first : S) (lines : List (List ℕ)) (out : List ℕ) (some : List (List ℕ)) (now : S) → HearsSome m first lines out some true now → Hears m first lines out some now
  all_heard first lines out some now h =
      let all = hears_append h.front (h.line ∷ []) first h.out_front h.some_front h.mid h.text h.new now h.hears (hears_one h.mid h.line h.text now h.new h.told) in
      subst (λ (ls : List (List ℕ)). Hears m first ls out some now) (sym h.split)
      (subst (λ (o : List ℕ). Hears m first (h.front ++ h.line ∷ []) o some now) (sym h.out_is)
      (subst (λ (s : List (List ℕ)). Hears m first (h.front ++ h.line ∷ []) (h.out_front ++ h.text) s now) (sym h.some_is) all))

  -- the line that came
  pub first_heard : (was now : S) (first before : List ℕ) (old new : Option Group) (out text : List ℕ) (some : List (List ℕ)) (more : Bool) → Told m was first text more now some
      → out ≡ text → held_lines new ≡ held_lines old ++ some → HearsAll m was now first before before old new out more
  first_heard was now first before old new out text some more told said held =
      record {
        lines = [];
        split = refl;
        each = tt;
        some = some;
        hears = record { front = []; line = first; split = refl; out_front = []; some_front = []; mid = was; hears = (refl, refl, refl); text = text; new = some; told = told; out_is = said; some_is = refl };
        are_held = held;
      }

  -- and one that was waiting
  pub further_heard : (was mid next : S) (first before there after line : List ℕ) (old mean new : Option Group) (said out text : List ℕ) (some : List (List ℕ)) (more : Bool)
      → HearsAll m was mid first before there old mean said true → WasWaiting there after line → Told m mid line text more next some → out ≡ said ++ text
      → held_lines new ≡ held_lines mean ++ some → HearsAll m was next first before after old new out more
  further_heard was mid next first before there after line old mean new said out text some more h w told says held =
      let one = w.whole ∷ [] in
      record {
        lines = h.lines ++ one;
        split = h.split ∙ ap (λ (r : List ℕ). with_lf h.lines ++ r) w.split
            ∙ sym (ap (λ (r : List ℕ). r ++ after) (with_lf-append h.lines one) ∙ append_assoc (with_lf h.lines) (w.whole ++ 10 ∷ []) after
            ∙ ap (λ (r : List ℕ). with_lf h.lines ++ r) (append_assoc w.whole (10 ∷ []) after));
        each = lines-append h.lines one h.each (w.one, tt);
        some = h.some ++ some;
        hears = record {
          front = first ∷ map kept h.lines;
          line = line;
          split = ap (λ (ls : List (List ℕ)). first ∷ ls) (map-append kept h.lines one) ∙ ap (λ (l : List ℕ). (first ∷ map kept h.lines) ++ l ∷ []) (sym w.kept);
          out_front = said;
          some_front = h.some;
          mid = mid;
          hears = all_heard was (first ∷ map kept h.lines) said h.some mid h.hears;
          text = text;
          new = some;
          told = told;
          out_is = says;
          some_is = refl;
        };
        are_held = held ∙ ap (λ (ls : List (List ℕ)). ls ++ some) h.are_held ∙ append_assoc (held_lines old) h.some some;
      }

  -- where none was
  pub heard_still : (was now : S) (first before there after : List ℕ) (old new : Option Group) (said out : List ℕ) (more : Bool) → HearsAll m was now first before there old new said more
      → after ≡ there → out ≡ said → HearsAll m was now first before after old new out more
  heard_still was now first before there after old new said out more h same says =
      subst (λ (r : List ℕ). HearsAll m was now first before r old new out more) (sym same) (subst (λ (o : List ℕ). HearsAll m was now first before there old new o more) (sym says) h)

-- ---- a line that is held or not

-- what is held then, by whether the line changed something
pub held_so : {S : Type 0} (was next : S) (line : List ℕ) (changed : Bool) (old new : Option Group) (more : Group) → MatchBool changed (next ≢ was) (next ≡ was)
    → lines_of more.text.items ≡ held_lines old ++ line ∷ [] → new ≡ (if changed then Some more else old)
    → (lines : List (List ℕ)) × Takes was line next lines × (held_lines new ≡ held_lines old ++ lines)
held_so was next line true old new more other lines is = (line ∷ [], inl (other, refl), ap held_lines is ∙ lines)
held_so was next line false old new more same lines is = ([], inr (same, refl), ap held_lines is ∙ sym (append-nil (held_lines old)))

pub held_good : (changed : Bool) (old new : Option Group) (more : Group) → AreHeld old → HoldsLines more.text.items → new ≡ (if changed then Some more else old) → AreHeld new
held_good true old new more were holds is = subst AreHeld (sym is) holds
held_good false old new more were holds is = subst AreHeld (sym is) were
