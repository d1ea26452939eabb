use Rattle.std.specs.Prelude.{option_to_list}
use Rattle.std.proofs.Common.{rules, ◌≡◌, ◌++◌, slice_index_or, ◌∙◌}
use Rattle.pm_workers.proofs.MergeLaws.{length-set}
use Rattle.pm_workers.proofs.Handing.{dealt-next}
use Rattle.pm_workers.proofs.hands.deal.Goals.{in-Some+in_ok-push, in_default}
use Rattle.pm_workers.proofs.hands.deal.Goals as goal

pub loop-turn-preserved : goal.loop-turn-preserved
loop-turn-preserved g c =
    let k = c.loop-turn.turn-index in
    let turns = c.args.turns.now in
    let left = c.loop-turn.left.items in
    let before = c.loop-turn.dealt.items in
    let after = c.match-pop_front.dealt.items in
    let grown : after ≡ before ++ option_to_list c.pop_front.result =
    elim c.match-pop_front.branch [ in-Some+in_ok-push w ↦ search rules | in_default w ↦ search rules ] in
    record {
      hands = length-set left (slice_index_or turns k 0) c.pop_front.new.self ∙ c.loop-turn.invariant.hands;
      dealt = dealt-next (λ q. q.items) turns k left c.index_mut.result.now c.pop_front.new.self c.pop_front.result before after _
          (search rules) (search rules) (search rules) c.pop_front.ensures.items c.pop_front.ensures.rest grown c.loop-turn.invariant.dealt;
    }
