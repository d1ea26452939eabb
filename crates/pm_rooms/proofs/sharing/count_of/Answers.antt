use Rattle.std.specs.Prelude.{nat_lt}
use Rattle.std.proofs.Common.{◌≡◌, ℕ, ◌+◌, ◌<◌, ◌≤◌, Bool, true, false, List, [], get_or, length, map, refl, sym, ap, ◌∙◌, subst, arith}
use Rattle.std.proofs.lemmas.Bool.{ltb-true, ltb-false}
use Rattle.std.proofs.lemmas.List.{get_or_past, get_or-map}
use Rattle.pm_workers.proofs.MergeLaws.{length-map}
use Rattle.pm_rooms.specs.Opened.{person_of}
use Rattle.pm_rooms.proofs.Highest.{most-next}
use Rattle.pm_rooms.proofs.sharing.count_of.Goals as goal

below-all : (people : List (List ℕ)) (k highest : ℕ) → length people ≤ k → ((client room : ℕ) → room < k → person_of people room client ≤ highest) → (room client : ℕ) → person_of people room client < highest + 1
below-all people k highest past h room client = by (nat_lt room k) refl
  where
    by : (b : Bool) → nat_lt room k ≡ b → person_of people room client < highest + 1
    by true e = let f = h client room (ltb-true room k e) in omega (arith, f)
    by false e =
        let beyond = ltb-false room k e in
        let z : person_of people room client ≡ 0 = ap (λ l. get_or l client 0) (get_or_past people room [] (omega (arith, past, beyond))) in
        omega (arith, z)

pub loop-room-preserved : goal.loop-room-preserved
loop-room-preserved c = λ client.
    let people = c.args.people.now in
    let k = c.loop-room.room-index in
    let lists = map (λ v. v.items) people in
    let here : get_or lists k [] ≡ c.as_slice.result.now =
    get_or-map (λ v. v.items) people k c.room-item.result [] c.loop-room-test.true ∙ ap (λ v. v.items) (sym c.room-item.is) ∙ sym c.as_slice.ensures.value in
    most-next (λ room. person_of lists room client) k c.loop-room.highest c.highest_of-highest.result c.highest_of-highest.ensures.more
    (subst (λ l. get_or l client 0 ≤ c.highest_of-highest.result) (sym here) (c.highest_of-highest.ensures.most client)) (c.loop-room.invariant client)

pub returns : goal.returns
returns c =
    let people = c.args.people.now in
    let past : length (map (λ v. v.items) people) ≤ c.loop-room.room-index = subst (λ n. n ≤ c.loop-room.room-index) (sym (length-map (λ v. v.items) people)) c.loop-room-test.false in
    below-all (map (λ v. v.items) people) c.loop-room.room-index c.loop-room.highest past c.loop-room.invariant
