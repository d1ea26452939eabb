use Rattle.pm_auto.proofs.bits.no_bits.Goals as goal

pub returns : goal.returns
returns c = c.in_ok-bits.ensures.items_if_clones_equal (λ y h. h)
