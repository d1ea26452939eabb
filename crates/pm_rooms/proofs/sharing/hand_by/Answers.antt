use Rattle.std.proofs.Common.{rules, ◌≡◌, ◌++◌, ◌<◌, [], slice_index_or, length, ap, ap₂, arith}
use Rattle.pm_rooms.specs.Handed.{handed}
use Rattle.pm_rooms.proofs.Handings.{hand-next, hand-done, popped}
use Rattle.pm_rooms.proofs.Readiness.{all-at}
use Rattle.pm_rooms.proofs.sharing.hand_by.Goals as goal

pub loop-turn-init : goal.loop-turn-init
loop-turn-init g c = record {
  count = c.in_ok-hands.ensures.count;
  left = omega (arith, ap length c.from-left.ensures.0, c.args.items.ok.0, c.requires.each);
  own = λ i own at. ap₂ (λ a b. a ++ handed i c.args.turns.now b) (all-at (λ v. v.items ≡ []) c.in_ok-hands.hands.items c.in_ok-hands.ensures.empty i own at) c.from-left.ensures.0;
}

pub index_mut-requires : goal.index_mut-requires
index_mut-requires g c = let lt = c.requires.turns c.loop-turn.turn-index 0 c.loop-turn-test.true in omega (arith, lt, c.loop-turn.invariant.count)

pub loop-turn-preserved : goal.loop-turn-preserved
loop-turn-preserved g c =
    let k = c.loop-turn.turn-index in
    let turns = c.args.turns.now in
    let turn = slice_index_or turns k 0 in
    let hands = c.loop-turn.hands.items in
    let i = c.loop-turn.invariant in
    let lt = c.requires.turns k 0 c.loop-turn-test.true in
    let within : turn < length hands = omega (arith, lt, i.count, c.loop-turn.hands.ok.0) in
    let front = popped c.loop-turn.left.items c.pop_front.new.self.items c.pop_front.result c.unwrap-item.result c.pop_front.ensures.items c.unwrap-item.ensures in
    record {
      count = i.count;
      left = omega (arith, i.left, ap length front);
      own = hand-next (λ v. v.items) turns k c.loop-turn-test.true hands (λ j. handed j turns c.args.items.items) c.index_mut.result.now c.push.new.self c.loop-turn.left.items c.pop_front.new.self.items c.unwrap-item.result
          within (search rules) front c.in_ok-push.ensures.items i.own;
    }

pub returns-clause-handed : goal.returns-clause-handed
returns-clause-handed g c = λ i own at. hand-done c.args.turns.now c.loop-turn.turn-index c.loop-turn-test.false i own.items c.loop-turn.left.items _ (c.loop-turn.invariant.own i own at)
