use Rattle.std.proofs.Common.{◌∙◌, ◌+◌, ◌++◌, List, ℕ, [], ◌∷◌, ap, sym}
use Rattle.pm_told.proofs.Listings.{serials-more}
use Rattle.pm_told.proofs.listing.serials_from.Goals as goal

pub loop-i-init : goal.loop-i-init
loop-i-init c = c.new-all.ensures.items

pub loop-i-preserved : goal.loop-i-preserved
loop-i-preserved c =
    c.in_ok-push.ensures.items ∙ ap (λ (l : List ℕ). l ++ ((c.args.first + c.loop-i.i) ∷ [])) c.loop-i.invariant
    ∙ sym (serials-more c.args.first c.loop-i.i)
