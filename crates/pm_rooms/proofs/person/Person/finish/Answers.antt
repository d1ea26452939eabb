use Rattle.std.proofs.Common.{◌≡◌, ℕ, List, ◌++◌, length, take, drop, vec_len, refl, sym, ap, ◌∙◌, subst, arith, append-nil}
use Rattle.pm_session.proofs.Opening.{drop-past}
use Rattle.pm_workers.proofs.Working.{take-all}
use Rattle.pm_rooms.specs.People.{StandsFinished}
use Rattle.pm_rooms.proofs.person.Person.finish.Goals as goal

-- what was written over a whole list
written : {A : Type 0} (n : ℕ) (ws vs : List A) → n ≡ length ws → length vs ≡ length ws → take n (vs ++ drop (length vs) ws) ≡ vs
written n ws vs is same =
    ap (λ l. take n (vs ++ l)) (drop-past ws (length vs) (omega (arith, same))) ∙ ap (take n) (append-nil vs) ∙ take-all vs n (omega (arith, is, same))

pub returns : goal.returns
returns g c =
    let m = g.C.Change.means in
    let desks = c.args.floor.now.desks.now in
    let makes = g.K.Maker.makes c.args.floor.now.crew.now.maker.now in
    let p = c.args.self.now in
    let old = p.stands.items in
    let new = c.play-played.new.stands in
    let outs = c.play-played.new.outcomes.items in
    let lent = c.as_mut_slice in
    let did = subst (λ s. StandsFinished m desks makes p.lines.items s outs new) lent.ensures.value
    (subst (λ l. StandsFinished m desks makes l lent.result.now outs new) c.as_slice.ensures.value c.play-played.ensures) in
    let long : vec_len p.stands ≡ length old = sym lent.ensures.len ∙ ap length lent.ensures.value in
    record {
      lines = refl;
      stands = subst (λ s. StandsFinished m desks makes p.lines.items old outs s) (sym (written (vec_len p.stands) old new long did.count)) did;
    }
