-- After every number of lines a client that came late is as one that pulled.
use Rattle.std.specs.Prelude.{◌≡◌, ℕ, zero, suc, ◌==◌, ◌&&◌, ◌||◌, MatchBool, Bool, true, false, List, [], ◌∷◌, ◌++◌, take, Some, Result, refl}
use Rattle.std.proofs.Common.{sym, subst, ◌∙◌}
use Rattle.std.proofs.lemmas.Bool.{or_from}
use Rattle.pm_change.specs.Changes.{Meaning, Laws}
use Rattle.pm_change.specs.declared.no_step.NoStep.{NoStep}
use Rattle.pm_session.specs.declared.line.Line.{Line}
use Rattle.pm_session.specs.declared.member.Member.{Member}
use Rattle.pm_session.specs.Events.{State, played}
use Rattle.pm_session.specs.Members.{kinds_of}
use Rattle.pm_session.specs.Sessions.{session}
use Rattle.pm_session.specs.Sounds.{Sound}
use Rattle.pm_session.specs.Suits.{enters, Suits}
use Rattle.pm_versions.specs.Late.{late_played}
use Rattle.pm_versions.specs.LateSessions.{LateLinesSuit, late_session, AllAsPulled}
use Rattle.pm_versions.specs.Pulled.{AsPulled, EntersNew, IsAsPulled, entered_with, pulled_line, pulled_lines}
use Rattle.pm_versions.specs.Suiting.{has_line, has_entered, EntersFirst, AllSuitLate}
use Rattle.pm_versions.proofs.LateLines.{none-more, enters-new, late-first, late-rest, late-sound}
use Rattle.pm_versions.proofs.Pulls.{late-pulled}

-- which clients entered by the end of these lines
abbrev entered_after : {Op C : Type 0} → (ℕ → Bool) → List (Line Op C) → ℕ → Bool
entered_after has lines i = has_entered i lines || has i

-- who enters by one of these lines did not enter before
abbrev AllOnce : {Op C : Type 0} → (ℕ → Bool) → List (Line Op C) → Type 0
AllOnce has [] = Unit {0}
AllOnce has (line ∷ lines) = (enters line.act ≡ true → has line.client ≡ false) × AllOnce (entered_with has line) lines

or-last : (a b c : Bool) → ((a || b) || c) ≡ (b || (a || c))
or-last true true c = refl
or-last true false c = refl
or-last false b c = refl

or-none : (a : Bool) → (a || false) ≡ a
or-none true = refl
or-none false = refl

module _ {Op C : Type 0} where
  -- where only clients with an earlier line have entered, nobody enters twice
  all-once : (raw : List Bool) (earlier lines : List (Line Op C)) (has : ℕ → Bool) → AllSuitLate raw earlier lines
      → ((i : ℕ) → has_line i earlier ≡ false → has i ≡ false) → AllOnce has lines
  all-once raw earlier [] has suit fresh = tt
  all-once raw earlier (line ∷ lines) has suit fresh = (
    λ comes. fresh line.client (subst (λ b. MatchBool b (EntersFirst raw earlier line) (Suits raw earlier line)) comes suit.0).first,
    all-once raw (earlier ++ line ∷ []) lines (entered_with has line) suit.1
        (λ i none.
        let parts = none-more i earlier line none in
        or_from (enters line.act && (line.client == i)) (has i) (and_right (enters line.act) (line.client == i) parts.1) (fresh i parts.0)),
  )
    where
      and_right : (a b : Bool) → b ≡ false → (a && b) ≡ false
      and_right true b e = e
      and_right false b e = refl

module _ {Rules Doc Reason C : Type 0} where
  -- the same clients entered
  as-same : (has now : ℕ → Bool) (s t : State C Rules Doc Reason) → ((i : ℕ) → now i ≡ has i) → AsPulled has s t → AsPulled now s t
  as-same has now s t same h = record {
    authority = h.authority;
    count = h.count;
    members = λ i x y at_x at_y. subst (λ b. IsAsPulled b x y) (sym (same i)) (h.members i x y at_x at_y);
  }

  as-none : (s : State C Rules Doc Reason) → AsPulled (λ i. false) s s
  as-none s = record { authority = refl; count = refl; members = λ i x y at_x at_y. some-inj y x (sym at_y ∙ at_x) }
    where
      some-inj : (a b : Member C Rules Doc Reason) → Some a ≡ Some b → a ≡ b
      some-inj a b h = cc

module _ {Rules Doc Reason C Op : Type 0} (m : Meaning Rules Doc Reason C) (rules : Rules) (makes : Doc → Op → Result (List C) NoStep) (laws : Laws m) where
  runs-pulled : (has : ℕ → Bool) (s t : State C Rules Doc Reason) (lines : List (Line Op C)) → Sound m rules s → LateLinesSuit s lines → AllOnce has lines → AsPulled has s t → (k : ℕ)
      → AsPulled (entered_after has (take k lines)) (late_session m rules makes s (take k lines)).1 (session m rules makes t (take k (pulled_lines has lines))).1
  runs-pulled has s t [] sound suit once was zero = was
  runs-pulled has s t [] sound suit once was (suc k) = was
  runs-pulled has s t (line ∷ lines) sound suit once was zero = was
  runs-pulled has s t (line ∷ lines) sound suit once was (suc k) =
      let next = (late_played m rules makes s line).1 in
      let other = (played m rules makes t (pulled_line has line)).1 in
      let new : EntersNew has s line = record {
        new = λ comes.
            enters-new s line lines suit (subst (λ b. MatchBool b (EntersFirst (kinds_of s.members) suit.earlier line) (Suits (kinds_of s.members) suit.earlier line)) comes suit.suit.0);
        once = once.0;
      } in
      let one : AsPulled (entered_with has line) next other =
      late-pulled m rules makes has s t line sound was (late-first s line lines suit m rules laws makes sound) new in
      let rest = runs-pulled (entered_with has line) next other lines (late-sound s line lines suit m rules laws makes sound) (late-rest s line lines suit m rules laws makes sound) once.1 one k in
      as-same (entered_after (entered_with has line) (take k lines)) (entered_after has (line ∷ take k lines)) (late_session m rules makes next (take k lines)).1
      (session m rules makes other (take k (pulled_lines (entered_with has line) lines))).1
      (λ i. or-last (enters line.act && (line.client == i)) (has_entered i (take k lines)) (has i)) rest

  -- after every number of lines
  pub all-pulled : (s : State C Rules Doc Reason) (lines : List (Line Op C)) → Sound m rules s → LateLinesSuit s lines → AllAsPulled m rules makes s lines
  all-pulled s lines sound suit k =
      let none : ℕ → Bool = λ i. false in
      let once = all-once (kinds_of s.members) suit.earlier lines none suit.suit (λ i h. refl) in
      as-same (entered_after none (take k lines)) (λ i. has_entered i (take k lines)) (late_session m rules makes s (take k lines)).1 (session m rules makes s (take k (pulled_lines none lines))).1
      (λ i. sym (or-none (has_entered i (take k lines)))) (runs-pulled none s s lines sound suit once (as-none s) k)
