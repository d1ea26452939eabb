use Rattle.std.proofs.Common.{[], ◌∷◌, ◌++◌, ap, ◌∙◌}
use Rattle.pm_sized.proofs.PairLaws.{grown}
use Rattle.pm_sized.proofs.chunk.Chunk.push.Goals as goal

pub returns-clause-ok : goal.returns-clause-ok
returns-clause-ok g c =
    let s = c.args.self.now in
    grown s.items c.push.new.self s.starts c.push-2.new.self s.size c.args.measure c.args.item c.in_ok-push.ensures.items
    (c.in_ok-push-2.ensures.items ∙ ap (λ z. z ++ s.size ∷ []) c.reserve.ensures.items) c.requires.counted c.requires.some
