use Rattle.std.proofs.Common.{◌∙◌, ap, sym}
use Rattle.pm_history.specs.Live.{has_room}
use Rattle.pm_history.proofs.Lives.{near-put, far-put}
use Rattle.pm_history.proofs.live.Live.put.Goals as goal

pub returns-then-has_room : goal.returns-then-has_room
returns-then-has_room c =
    near-put c.args.self.now c.put_near.new.self c.args.name.now c.args.behind.now c.requires
    (ap (λ o. has_room o c.args.name.now.serial) (sym c.there.ensures) ∙ sym c.has_room.ensures ∙ c.if-has_room.true)
    c.put_near.ensures.near c.put_near.ensures.far

pub returns : goal.returns
returns c =
    far-put c.args.self.now c.put_far.new.self c.args.name.now c.args.behind.now c.requires
    (ap (λ o. has_room o c.args.name.now.serial) (sym c.there.ensures) ∙ sym c.has_room.ensures ∙ c.if-has_room.false)
    (ap (λ v. v.items) c.in_ok-put_far.ensures.near) c.in_ok-put_far.ensures.far
