use Rattle.std.proofs.Common.{◌≡◌, ◌+◌, ◌++◌, ◌∷◌, [], List, Bool, length, drop, sym, ap, ◌∙◌, append_assoc, arith}
use Rattle.std.proofs.lemmas.List.{length-map}
use Rattle.pm_auto.specs.declared.sets.PlaceSet.{PlaceSet}
use Rattle.pm_auto.specs.declared.auto.Edge.{Edge}
use Rattle.pm_auto.specs.Fills.{fits_on, fits_from}
use Rattle.pm_auto.proofs.WayLaws.{fits-next, fits-end}
use Rattle.pm_auto.proofs.fills.ends_of.Goals as goal

pub loop-state-init : goal.loop-state-init
loop-state-init c =
    let a = c.args.auto.now in
    ap (λ (l : List Bool). l ++ fits_from a.sets c.as_slice-edges.result.now c.args.to_end c.args.after.now 0 a.sets) (sym c.new-list.ensures)

pub loop-state-preserved : goal.loop-state-preserved
loop-state-preserved c =
    let a = c.args.auto.now in
    let es = c.as_slice-edges.result.now in
    let i = c.loop-state.state in
    let long : length c.ends-ends-items.result.now ≡ length a.sets = ap length c.ends-ends-items.ensures ∙ length-map a.sets (λ (p : PlaceSet). p.ends) in
    let more : c.push.new.self ≡ c.loop-state.list ++ fits_on a.sets es c.args.to_end i c.args.after.now ∷ [] = c.in_ok-push.ensures.ok ∙ ap (λ (b : Bool). c.loop-state.list ++ b ∷ []) c.fits.ensures in
    let rest = fits_from a.sets es c.args.to_end c.args.after.now (i + 1) (drop (i + 1) a.sets) in
    c.loop-state.invariant
    ∙ ap (λ (l : List Bool). c.loop-state.list ++ l) (fits-next a.sets es c.args.to_end c.args.after.now i a.sets i (omega (arith, long, c.loop-state-test.true)))
    ∙ sym (append_assoc c.loop-state.list (fits_on a.sets es c.args.to_end i c.args.after.now ∷ []) rest)
    ∙ ap (λ (l : List Bool). l ++ rest) (sym more)

pub returns : goal.returns
returns c =
    let a = c.args.auto.now in
    let es = c.as_slice-edges.result.now in
    let long : length c.ends-ends-items.result.now ≡ length a.sets = ap length c.ends-ends-items.ensures ∙ length-map a.sets (λ (p : PlaceSet). p.ends) in
    sym (c.loop-state.invariant ∙ fits-end a.sets es c.args.to_end c.args.after.now c.loop-state.list c.loop-state.state a.sets c.loop-state.state (omega (arith, long, c.loop-state-test.false)))
    ∙ ap (λ (ess : List (List Edge)). fits_from a.sets ess c.args.to_end c.args.after.now 0 a.sets) c.as_slice-edges.ensures
