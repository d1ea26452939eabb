use Rattle.std.proofs.Common.{◌≡◌, ◌<◌, ◌∷◌, length, All, ap, ◌∙◌, subst, arith}
use Rattle.pm_workers.proofs.Closing.{removed, closing, cover-all}
use Rattle.pm_workers.proofs.apart.close_desk.Goals as goal

pub remove-first-requires : goal.remove-first-requires
remove-first-requires g c = omega (arith, c.requires.some, c.args.left.seats.ok.0)

pub close_all-rules-requires-clause-first : goal.close_all-rules-requires-clause-first
close_all-rules-requires-clause-first g c =
    let left = c.args.left in
    let first = c.remove-first.result in
    let rest = c.remove-first.new.self.items in
    let is : first ∷ rest ≡ left.seats.items = removed left.seats.items rest first c.remove-first.ensures.value c.remove-first.ensures.items c.requires.some in
    let z = closing c.args.desk first rest left.seats.items is c.requires in
    z.seat

pub close_all-rules-requires-clause-number : goal.close_all-rules-requires-clause-number
close_all-rules-requires-clause-number g c =
    let left = c.args.left in
    let first = c.remove-first.result in
    let rest = c.remove-first.new.self.items in
    let is : first ∷ rest ≡ left.seats.items = removed left.seats.items rest first c.remove-first.ensures.value c.remove-first.ensures.items c.requires.some in
    let z = closing c.args.desk first rest left.seats.items is c.requires in
    z.number

pub close_all-rules-requires-clause-none : goal.close_all-rules-requires-clause-none
close_all-rules-requires-clause-none g c =
    let left = c.args.left in
    let first = c.remove-first.result in
    let rest = c.remove-first.new.self.items in
    let is : first ∷ rest ≡ left.seats.items = removed left.seats.items rest first c.remove-first.ensures.value c.remove-first.ensures.items c.requires.some in
    let z = closing c.args.desk first rest left.seats.items is c.requires in
    z.none_joined

pub close_all-rules-requires-clause-seats : goal.close_all-rules-requires-clause-seats
close_all-rules-requires-clause-seats g c =
    let left = c.args.left in
    let first = c.remove-first.result in
    let rest = c.remove-first.new.self.items in
    let is : first ∷ rest ≡ left.seats.items = removed left.seats.items rest first c.remove-first.ensures.value c.remove-first.ensures.items c.requires.some in
    let z = closing c.args.desk first rest left.seats.items is c.requires in
    z.of_desk

pub close_all-rules-requires-clause-all : goal.close_all-rules-requires-clause-all
close_all-rules-requires-clause-all g c =
    let left = c.args.left in
    let first = c.remove-first.result in
    let rest = c.remove-first.new.self.items in
    let is : first ∷ rest ≡ left.seats.items = removed left.seats.items rest first c.remove-first.ensures.value c.remove-first.ensures.items c.requires.some in
    let z = closing c.args.desk first rest left.seats.items is c.requires in
    c.remove-first.new.self.ok.0 ∙ z.all

pub returns-clause-covered : goal.returns-clause-covered
returns-clause-covered g c =
    let left = c.args.left in
    let first = c.remove-first.result in
    let rest = c.remove-first.new.self.items in
    let is : first ∷ rest ≡ left.seats.items = removed left.seats.items rest first c.remove-first.ensures.value c.remove-first.ensures.items c.requires.some in
    let z = closing c.args.desk first rest left.seats.items is c.requires in
    cover-all c.args.desk first rest c.close_all-rules.result.history.items left.seats.items is c.close_all-rules.ensures.first c.close_all-rules.ensures.seats

pub returns-clause-callers : goal.returns-clause-callers
returns-clause-callers g c =
    let left = c.args.left in
    let first = c.remove-first.result in
    let rest = c.remove-first.new.self.items in
    let is : first ∷ rest ≡ left.seats.items = removed left.seats.items rest first c.remove-first.ensures.value c.remove-first.ensures.items c.requires.some in
    let z = closing c.args.desk first rest left.seats.items is c.requires in
    subst (λ n. All (λ past. past.seat < n) c.close_all-rules.result.history.items) (ap length is) (c.close_all-rules.ensures.callers (length (first ∷ rest)) (omega arith) z.numbers)
