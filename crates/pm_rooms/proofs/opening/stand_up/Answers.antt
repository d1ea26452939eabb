use Rattle.std.proofs.Common.{◌≡◌, ◌+◌, ◌++◌, ◌<◌, [], ◌∷◌, length, refl, sym, ap, ap₂, ◌∙◌, arith, append_assoc, append-nil}
use Rattle.pm_workers.proofs.Closing.{removed}
use Rattle.pm_rooms.specs.Opened.{stands_of}
use Rattle.pm_rooms.proofs.Mergings.{none-of}
use Rattle.pm_rooms.proofs.opening.stand_up.Goals as goal

pub loop-client-init : goal.loop-client-init
loop-client-init g c = record {
  members = omega arith;
  seats = omega (arith, c.requires.each, c.args.members.ok.0, c.args.seats.ok.0);
  stands = refl;
}

pub remove-member-requires : goal.remove-member-requires
remove-member-requires g c = let h = c.loop-client.invariant in omega (arith, h.members, c.loop-client.members.ok.0, c.args.members.ok.0, c.loop-client-test.true)

pub remove-seat-requires : goal.remove-seat-requires
remove-seat-requires g c = let h = c.loop-client.invariant in omega (arith, h.members, h.seats, c.loop-client.seats.ok.0, c.args.members.ok.0, c.loop-client-test.true)

pub loop-client-preserved : goal.loop-client-preserved
loop-client-preserved g c =
    let h = c.loop-client.invariant in
    let k = c.loop-client.client in
    let r = c.args.room in
    let ms = c.loop-client.members.items in
    let ss = c.loop-client.seats.items in
    let x = c.remove-member.result in
    let s = c.remove-seat.result in
    let some : 0 < length ms = omega (arith, h.members, c.args.members.ok.0, c.loop-client-test.true) in
    let took : x ∷ c.remove-member.new.self.items ≡ ms = removed ms c.remove-member.new.self.items x c.remove-member.ensures.value c.remove-member.ensures.items some in
    let taken : s ∷ c.remove-seat.new.self.items ≡ ss = removed ss c.remove-seat.new.self.items s c.remove-seat.ensures.value c.remove-seat.ensures.items (omega (arith, some, h.seats)) in
    record {
      members = omega (arith, h.members, ap length took);
      seats = omega (arith, h.seats, ap length took, ap length taken);
      stands = ap (λ l. l ++ stands_of r (k + 1) c.remove-member.new.self.items c.remove-seat.new.self.items) c.in_ok-push.ensures.items
          ∙ append_assoc c.loop-client.stands.items (_ ∷ []) (stands_of r (k + 1) c.remove-member.new.self.items c.remove-seat.new.self.items)
          ∙ ap₂ (λ a b. c.loop-client.stands.items ++ stands_of r k a b) took taken ∙ h.stands;
    }

pub returns : goal.returns
returns g c =
    let h = c.loop-client.invariant in
    let none = none-of c.loop-client.members.items (omega (arith, h.members, c.args.members.ok.0, c.loop-client-test.false)) in
    sym (append-nil c.loop-client.stands.items) ∙ ap (λ l. c.loop-client.stands.items ++ stands_of c.args.room c.loop-client.client l c.loop-client.seats.items) (sym none) ∙ h.stands
