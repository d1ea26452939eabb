use Rattle.std.specs.Prelude.{MatchBool, if◌then◌else◌}
use Rattle.std.proofs.Common.{◌≡◌, true, false, sym, ap, subst, ◌∙◌}
use Rattle.std.proofs.lemmas.Bool.{true≢false}
use Rattle.pm_session.specs.Events.{state_of, played}
use Rattle.pm_session.specs.Standing.{CursorsStay}
use Rattle.pm_session.specs.Suits.{enters, SuitsRoom}
use Rattle.pm_versions.specs.Late.{IsEditorIdle, IsLate, entered, late_played}
use Rattle.pm_versions.specs.Pulled.{AsPulled, entered_with, pulled_line}
use Rattle.pm_versions.proofs.Lates.{played-late, left-late}
use Rattle.pm_versions.proofs.Pulls.{late-pulled}
use Rattle.pm_versions.proofs.late.LateRoom.play.Goals as goal
use Rattle.pm_versions.proofs.late.LateRoom.play.Goals.{then-enters+in_ok-outcome, else-enters+in_ok-outcome-2}

pub enter-requires-clause-idle : goal.enter-requires-clause-idle
enter-requires-clause-idle g c =
    let s = state_of c.args.self.now.room in
    let line = c.args.line.now in
    let comes : enters line.act ≡ true = sym c.enters.ensures ∙ c.if-enters.true in
    let idle = subst (λ b. MatchBool b (IsEditorIdle s line.client) (SuitsRoom s line)) comes c.requires.suits in
    subst (λ r. IsEditorIdle (state_of r) line.client) (sym c.reach.ensures.room) idle

pub returns-in_err-outcome-2-clause-kept : goal.returns-in_err-outcome-2-clause-kept
returns-in_err-outcome-2-clause-kept g c =
    left-late g.C.Change.means c.args.rules.now g.met.C.Change.laws c.reach.new.self c.play.new.self c.reach.ensures.kept c.play.ensures.sound c.args.line.now
    c.in_err-outcome-2.ensures.left

pub reach-requires-2 : goal.reach-requires-2
reach-requires-2 g c =
    let m = g.C.Change.means in
    let rules_now = c.args.rules.now in
    let s = state_of c.args.self.now.room in
    let line = c.args.line.now in
    let l = c.reach.new.self in
    elim c.if-enters.branch [
      | then-enters+in_ok-outcome w ↦ subst (IsLate m rules_now) (sym w.self-is) w.enter.ensures.kept
      | else-enters+in_ok-outcome-2 w ↦
          let stays : enters line.act ≡ false = sym c.enters.ensures ∙ w.if-enters.false in
          let suits = subst (λ b. MatchBool b (IsEditorIdle s line.client) (SuitsRoom s line)) stays c.requires.suits in
          let there = subst (λ r. SuitsRoom (state_of r) line) (sym c.reach.ensures.room) suits in
          subst (IsLate m rules_now) (sym w.self-is)
          (played-late m rules_now g.met.C.Change.laws l w.play.new.self c.reach.ensures.kept w.play.ensures.sound (g.K.Maker.makes c.args.maker.now rules_now) line w.in_ok-outcome-2.outcome there
          w.in_ok-outcome-2.ensures.plays)
    ]

pub returns-clause-cursors : goal.returns-clause-cursors
returns-clause-cursors g c stays =
    let m = g.C.Change.means in
    let s = state_of c.args.self.now.room in
    let line = c.args.line.now in
    elim c.if-enters.branch [
      | then-enters+in_ok-outcome w ↦
          let comes : enters line.act ≡ true = sym c.enters.ensures ∙ w.if-enters.true in
          absurd (true≢false (sym comes ∙ stays))
      | else-enters+in_ok-outcome-2 w ↦
          let last : c.reach-2.new.self.room ≡ w.play.new.self = c.reach-2.ensures.room ∙ ap (λ l. l.room) w.self-is in
          subst (λ r. CursorsStay m s (state_of r)) (sym last)
          (subst (λ r. CursorsStay m (state_of r) (state_of w.play.new.self)) c.reach.ensures.room w.play.ensures.cursors)
    ]

pub returns-clause-pulled : goal.returns-clause-pulled
returns-clause-pulled g c has t new was =
    let m = g.C.Change.means in
    let rules_now = c.args.rules.now in
    let makes = g.K.Maker.makes c.args.maker.now rules_now in
    let s = state_of c.args.self.now.room in
    let line = c.args.line.now in
    let pulled = late-pulled m rules_now makes has s t line c.requires.kept.sound was c.requires.suits new in
    let last : state_of c.reach-2.new.self.room ≡ (late_played m rules_now makes s line).1 =
    elim c.if-enters.branch [
      | then-enters+in_ok-outcome w ↦
          let comes : enters line.act ≡ true = sym c.enters.ensures ∙ w.if-enters.true in
          ap state_of (c.reach-2.ensures.room ∙ ap (λ l. l.room) w.self-is) ∙ ap (λ p. p.1) w.in_ok-outcome.ensures.enters
          ∙ ap (λ r. (entered (state_of r) line.client).1) c.reach.ensures.room
          ∙ sym (ap (λ b. (if b then entered s line.client else played m rules_now makes s line).1) comes)
      | else-enters+in_ok-outcome-2 w ↦
          let no_entry : enters line.act ≡ false = sym c.enters.ensures ∙ w.if-enters.false in
          ap state_of (c.reach-2.ensures.room ∙ ap (λ l. l.room) w.self-is) ∙ ap (λ p. p.1) w.in_ok-outcome-2.ensures.plays
          ∙ ap (λ r. (played m rules_now makes (state_of r) line).1) c.reach.ensures.room
          ∙ sym (ap (λ b. (if b then entered s line.client else played m rules_now makes s line).1) no_entry)
    ] in
    subst (λ r. AsPulled (entered_with has line) r (played m rules_now makes t (pulled_line has line)).1) (sym last) pulled
