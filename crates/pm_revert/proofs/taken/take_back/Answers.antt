use Rattle.std.proofs.Common.{◌∙◌}
use Rattle.pm_revert.proofs.Made.{made-all}
use Rattle.pm_revert.proofs.Takings.{may-back, have-later, may-all}
use Rattle.pm_revert.proofs.taken.take_back.Goals as goal

pub backs_of-requires : goal.backs_of-requires
backs_of-requires g c = may-back g.C.Change.means c.args.rules.now c.args.before.now c.args.entries.now c.args.later.now c.args.doc.now c.requires

pub maps_over-requires : goal.maps_over-requires
maps_over-requires g c =
    have-later g.C.Change.means c.args.rules.now g.met.C.Change.laws c.args.before.now c.args.entries.now c.args.later.now c.args.doc.now c.requires

pub take_all-requires : goal.take_all-requires
take_all-requires g c =
    may-all g.C.Change.means c.args.rules.now g.met.C.Change.laws c.args.before.now c.args.entries.now c.args.later.now c.args.doc.now c.requires c.in_ok-so_far.so_far c.in_ok-maps.maps c.new.result
    c.as_slice.result.now c.in_ok-so_far.ensures c.in_ok-maps.ensures c.new.ensures (c.as_slice.ensures.value ∙ c.in_ok-backs.ensures)

pub returns-in-Ok-clause-applies : goal.returns-in-Ok-clause-applies
returns-in-Ok-clause-applies g c =
    made-all g.C.Change.means c.args.rules.now c.as_slice.result.now (record { doc = c.in_ok-so_far.so_far; maps = c.in_ok-maps.maps; made = c.new.result }) c.in-Ok.so c.args.doc.now c.in_ok-so_far.ensures
    c.new.ensures c.in-Ok.ensures
