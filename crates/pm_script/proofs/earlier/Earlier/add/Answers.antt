use Rattle.std.proofs.Common.{rules, true, refl}
use Rattle.pm_session.specs.Suits.{composes_one, gets_one, sets_one}
use Rattle.pm_script.proofs.Tallies.{counted-more}
use Rattle.pm_script.proofs.earlier.Earlier.add.Goals as goal

pub invariant_of-self-2 : goal.invariant_of-self-2
invariant_of-self-2 c =
    let s = c.args.self.now in
    let line = c.args.line in
    record {
      composed_is = λ k h. rw c.in_ok-push.ensures.items
          (counted-more composes_one s.composed.items c.count.new.counts.items s.lines.items line c.composes-composes.result
          c.composes-composes.ensures (search rules) (search rules) c.count.ensures.counted (λ j l. s.composed_is j (search rules)) k (search rules));
      answered_is = λ k h. rw c.in_ok-push.ensures.items
          (counted-more gets_one s.answered.items c.count-2.new.counts.items s.lines.items line c.answers-answers.result
          c.answers-answers.ensures (search rules) (search rules) c.count-2.ensures.counted (λ j l. s.answered_is j (search rules)) k (search rules));
      cursors_are = λ k h. rw c.in_ok-push.ensures.items
          (counted-more sets_one s.cursors.items c.count-3.new.counts.items s.lines.items line c.sets_cursor-sets.result
          c.sets_cursor-sets.ensures (search rules) (search rules) c.count-3.ensures.counted (λ j l. s.cursors_are j (search rules)) k (search rules));
      own_are = λ k h. rw c.in_ok-push.ensures.items
          (counted-more (λ act. true) s.own.items c.count-4.new.counts.items s.lines.items line true
          refl (search rules) (search rules) c.count-4.ensures.counted (λ j l. s.own_are j (search rules)) k (search rules));
    }
