use Rattle.std.proofs.Common.{◌≡◌, ◌++◌, ℕ, List, ◌∷◌, length, sym, ap, ◌∙◌, subst, arith, string_bytes, length-drop}
use Rattle.std.specs.Vec.Iter.{into_iter_items}
use Rattle.std.proofs.lemmas.List.Elements.{All-same, All-head, All-rest}
use Rattle.pm_call.specs.Handing.{PlayedRoom, EntriesTold}
use Rattle.pm_call.proofs.RoomRuns.{IsSound}
use Rattle.pm_call.proofs.RoomTellings.{front-of, one-left, next-told, last-told}
use Rattle.pm_call.proofs.running_rooms.tell_rooms.Goals as goal

pub push_told-requires : goal.push_told-requires
push_told-requires c =
    let rest = into_iter_items c.next.new.self in
    All-head IsSound c.in-Some.room rest (All-same IsSound (c.in-Some.room ∷ rest) (into_iter_items c.loop-entry.rest) (sym c.in-Some.ensures.cases.0) c.loop-entry.invariant.sound)

pub loop-entry-init : goal.loop-entry-init
loop-entry-init c = record {
  sound = All-same IsSound (into_iter_items c.into_iter-rest.result) c.args.played.items c.into_iter-rest.ensures.rest c.requires.sound;
  count = c.requires.count ∙ c.args.played.ok.0 ∙ sym (ap length c.into_iter-rest.ensures.rest);
  told = λ more told.
      subst (λ (l : List ℕ). EntriesTold c.args.entries.now c.args.played.items (l ++ more)) (sym c.new-text.ensures.bytes)
      (subst (λ (l : List PlayedRoom). EntriesTold c.args.entries.now l more) c.into_iter-rest.ensures.rest told);
}

pub loop-entry-preserved : goal.loop-entry-preserved
loop-entry-preserved c =
    let k = c.loop-entry.entry-index in
    let all = c.args.entries.now in
    let entry = c.entry-item.result in
    let room = c.in-Some.room in
    let left = into_iter_items c.loop-entry.rest in
    let rest = into_iter_items c.next.new.self in
    let took = c.in-Some.ensures.cases.0 in
    let front = front-of all k entry c.loop-entry-test.true c.entry-item.is in
    let told = c.in_ok-push_told.ensures in
    record {
      sound = All-rest IsSound room rest left took c.loop-entry.invariant.sound;
      count = one-left all k entry room left rest front took c.loop-entry.invariant.count;
      told = next-told all c.args.played.items k entry room left rest (string_bytes c.loop-entry.text) (string_bytes c.push_told.new.text) told.0 front took told.1 told.2 c.loop-entry.invariant.told;
    }

pub returns : goal.returns
returns c =
    last-told c.args.entries.now c.args.played.items c.loop-entry.entry-index (into_iter_items c.loop-entry.rest) (string_bytes c.loop-entry.text)
    c.loop-entry-test.false c.loop-entry.invariant.count c.loop-entry.invariant.told

-- there are as many rooms as entries, so that none is lacking
pub returns-in_default : goal.returns-in_default
returns-in_default c =
    let left : length (into_iter_items c.loop-entry.rest) ≡ 0 = sym c.loop-entry.rest.rest.ok.0 ∙ c.in_default.ensures.cases.0 in
    absurd (omega (arith, left, c.loop-entry.invariant.count, c.loop-entry-test.true, length-drop c.loop-entry.entry-index c.args.entries.now))
