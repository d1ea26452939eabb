-- Lines that suit a room suit it also in another order, where each client's lines stand in theirs.
use Rattle.std.specs.List.{AllByRecursion as Each}
use Rattle.std.specs.Prelude.{◌≡◌, ◌≢◌, ℕ, ◌+◌, ◌==◌, ◌&&◌, Bool, true, false, List, [], ◌∷◌, ◌++◌, cond, refl}
use Rattle.std.proofs.Common.{sym, ap, ◌∙◌, subst, arith}
use Rattle.std.proofs.lemmas.Bool.{eqb-true}
use Rattle.std.proofs.lemmas.Grind.{common_steps}
use mathlib.Core.Logic.{dite}
use native.Mathlib.Decide.{ℕ_discrete}
use Rattle.pm_session.specs.declared.line.Line.{Line}
use Rattle.pm_session.specs.declared.line.Act.{Act}
use Rattle.pm_session.specs.Suits.{composes_one, gets_one, done_by, composed_by, answered_by, NamesOneOf, AllSuit, LinesSuit}
use Rattle.pm_session.specs.Events.{State}
use Rattle.pm_session.specs.Members.{kinds_of}
use Rattle.pm_workers.specs.Threads.{own_lines}
use Rattle.pm_workers.proofs.Owns.{own-here, own-there}

module _ {Op C : Type 0} (does : Act Op C → Bool) (i : ℕ) where
  -- one line more
  pub done-more : (lines : List (Line Op C)) (line : Line Op C) → done_by does i (lines ++ line ∷ []) ≡ done_by does i lines + cond ((line.client == i) && does line.act) 1 0
  done-more lines line = grind (arith, common_steps)

  -- one line more of another client
  done-other : (lines : List (Line Op C)) (line : Line Op C) → line.client ≢ i → done_by does i (lines ++ line ∷ []) ≡ done_by does i lines
  done-other lines line ne = by (line.client == i) refl (done-more lines line)
    where
      by : (b : Bool) → (line.client == i) ≡ b → done_by does i (lines ++ line ∷ []) ≡ done_by does i lines + cond (b && does line.act) 1 0
          → done_by does i (lines ++ line ∷ []) ≡ done_by does i lines
      by true e h = absurd (ne (eqb-true line.client i e))
      by false e h = omega (arith, h)

module _ {Op C : Type 0} where
  -- client i composed and got as much on the one lines as on the others
  abbrev pub AsMuch : ℕ → List (Line Op C) → List (Line Op C) → Type 0
  AsMuch i xs ys = (composed_by i xs ≡ composed_by i ys) × (answered_by i xs ≡ answered_by i ys)

  much-more : (i : ℕ) (xs ys : List (Line Op C)) (line : Line Op C) → AsMuch i xs ys → AsMuch i (xs ++ line ∷ []) (ys ++ line ∷ [])
  much-more i xs ys line h = (
    done-more composes_one i xs line ∙ ap (λ n. n + cond ((line.client == i) && composes_one line.act) 1 0) h.0 ∙ sym (done-more composes_one i ys line),
    done-more gets_one i xs line ∙ ap (λ n. n + cond ((line.client == i) && gets_one line.act) 1 0) h.1 ∙ sym (done-more gets_one i ys line),
  )

  much-other : (i : ℕ) (xs : List (Line Op C)) (line : Line Op C) → line.client ≢ i → AsMuch i (xs ++ line ∷ []) xs
  much-other i xs line ne = (done-other composes_one i xs line ne, done-other gets_one i xs line ne)

  pub own-are : (i : ℕ) (lines : List (Line Op C)) → Each (λ line. line.client ≡ i) (own_lines i lines)
  own-are i [] = tt
  own-are i (line ∷ lines) = dite (ℕ_discrete line.client i)
      (λ e. subst (λ l. Each (λ x. x.client ≡ i) l) (sym (own-here i line lines e)) (e, own-are i lines))
      (λ ne. subst (λ l. Each (λ x. x.client ≡ i) l) (sym (own-there i line lines ne)) (own-are i lines))

  -- one client's lines suit by what that client composed and got
  suit-same : (raw : List Bool) (i : ℕ) (xs ys lines : List (Line Op C)) → AsMuch i xs ys → Each (λ line. line.client ≡ i) lines → AllSuit raw xs lines → AllSuit raw ys lines
  suit-same raw i xs ys [] much own h = tt
  suit-same raw i xs ys (line ∷ lines) much own h =
      let c = line.client in
      let here : AsMuch c xs ys = subst (λ k. AsMuch k xs ys) (sym own.0) much in (
        record {
          kind = h.0.kind;
          named = subst (λ n. NamesOneOf n (answered_by c ys) line.act) here.0 (subst (λ n. NamesOneOf (composed_by c xs) n line.act) here.1 h.0.named);
        },
        suit-same raw i (xs ++ line ∷ []) (ys ++ line ∷ []) lines (much-more i xs ys line much) own.1 h.1,
      )

  -- so each client's lines suit by themselves
  pub suit-own : (raw : List Bool) (earlier lines : List (Line Op C)) → AllSuit raw earlier lines → (i : ℕ) → AllSuit raw earlier (own_lines i lines)
  suit-own raw earlier [] h i = tt
  suit-own raw earlier (line ∷ lines) h i =
      let more = suit-own raw (earlier ++ line ∷ []) lines h.1 i in
      dite (ℕ_discrete line.client i)
      (λ e. subst (λ l. AllSuit raw earlier l) (sym (own-here i line lines e)) (h.0, more))
      (λ ne. subst (λ l. AllSuit raw earlier l) (sym (own-there i line lines ne))
      (suit-same raw i (earlier ++ line ∷ []) earlier (own_lines i lines) (much-other i earlier line ne) (own-are i lines) more))

  -- and where they do, all do
  pub suit-all : (raw : List Bool) (earlier lines : List (Line Op C)) → ((i : ℕ) → AllSuit raw earlier (own_lines i lines)) → AllSuit raw earlier lines
  suit-all raw earlier [] h = tt
  suit-all raw earlier (line ∷ lines) h =
      let c = line.client in
      let mine : AllSuit raw earlier (line ∷ own_lines c lines) = subst (λ l. AllSuit raw earlier l) (own-here c line lines refl) (h c) in (
        mine.0,
        suit-all raw (earlier ++ line ∷ []) lines (λ i. dite (ℕ_discrete c i)
            (λ e. subst (λ k. AllSuit raw (earlier ++ line ∷ []) (own_lines k lines)) e mine.1)
            (λ ne. let much = much-other i earlier line ne in
            suit-same raw i earlier (earlier ++ line ∷ []) (own_lines i lines) (sym much.0, sym much.1) (own-are i lines)
            (subst (λ l. AllSuit raw earlier l) (own-there i line lines ne) (h i)))),
      )

-- Lines suit a room in each order that keeps the order of each client's lines.
pub suit-order : {Rules Doc Reason C Op : Type 0} (s : State C Rules Doc Reason) (lines ordered : List (Line Op C)) → ((i : ℕ) → own_lines i ordered ≡ own_lines i lines)
    → LinesSuit s lines → LinesSuit s ordered
suit-order s lines ordered own h = record {
  earlier = h.earlier;
  counted = h.counted;
  suit = suit-all (kinds_of s.members) h.earlier ordered (λ i. subst (λ l. AllSuit (kinds_of s.members) h.earlier l) (sym (own i)) (suit-own (kinds_of s.members) h.earlier lines h.suit i));
}
