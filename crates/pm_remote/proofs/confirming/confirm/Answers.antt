use Rattle.std.proofs.Common.{◌++◌, take}
use Rattle.pm_remote.proofs.Confirmings.{stands-on, confirm-stands, confirm-kin, confirm-told, confirm-version}
use Rattle.pm_remote.proofs.confirming.confirm.Goals as goal

pub take-told-requires-clause-stands : goal.take-told-requires-clause-stands
take-told-requires-clause-stands g c =
    let client = c.args.client.now in
    rw (c.in_ok-keep.ensures.kept, c.version-from.ensures)
    (confirm-stands g.C.Change.means c.args.rules.now client c.requires.stands c.requires.bare c.args.count c.requires.within
    (rw c.version-from.ensures at c.in_ok-version_after.ensures.short))

pub returns-clause-confirms : goal.returns-clause-confirms
returns-clause-confirms g c =
    let client = c.args.client.now in
    rw c.forget.ensures.forgets
    (confirm-told g.C.Change.means c.args.rules.now client c.requires.stands c.requires.bare c.args.count c.requires.within c.in_ok-told.field-0 c.take-told.new.self c.requires.some
    (rw (c.in_ok-keep.ensures.kept, c.version-from.ensures) at c.in_ok-told.ensures.takes))

pub returns-clause-version : goal.returns-clause-version
returns-clause-version g c =
    let client = c.args.client.now in
    rw c.forget.ensures.forgets
    (confirm-version g.C.Change.means c.args.rules.now client c.requires.stands c.requires.bare c.args.count c.requires.within c.in_ok-told.field-0 c.take-told.new.self c.requires.some
    (rw (c.in_ok-keep.ensures.kept, c.version-from.ensures) at c.in_ok-told.ensures.takes))

pub returns-clause-stands : goal.returns-clause-stands
returns-clause-stands g c =
    let client = c.args.client.now in
    let rules = c.args.rules.now in
    let kept =
    confirm-stands g.C.Change.means rules client c.requires.stands c.requires.bare c.args.count c.requires.within
    (rw c.version-from.ensures at c.in_ok-version_after.ensures.short) in
    stands-on g.C.Change.means rules c.keep.new.self c.forget.new.self (rw (c.in_ok-keep.ensures.kept, c.version-from.ensures) kept)
    (λ first log kin. c.forget.ensures.kin rules first log (c.take-told.ensures.kin first log kin))

pub returns-clause-kin : goal.returns-clause-kin
returns-clause-kin g c first log kin =
    let client = c.args.client.now in
    let rules = c.args.rules.now in
    let on = confirm-kin g.C.Change.means rules client c.requires.stands c.requires.bare c.args.count c.requires.within first log kin in
    let to = take client.version log ++ take c.args.count client.pending in
    c.forget.ensures.kin rules first to (c.take-told.ensures.kin first to (rw (c.in_ok-keep.ensures.kept, c.version-from.ensures) on))
