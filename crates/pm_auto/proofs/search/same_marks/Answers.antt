use Rattle.std.proofs.Common.{◌≡◌, ◌∙◌, sym, true, false}
use Rattle.std.specs.Cmp.{booleans_Decides}
use Rattle.std.proofs.lemmas.Slice.Eq.{slice_eq-Decides}
use Rattle.pm_auto.proofs.search.same_marks.Goals as goal

pub returns-clause-equal : goal.returns-clause-equal
returns-clause-equal c = (slice_eq-Decides booleans_Decides c.args.a.now c.args.b.now c.eq.result c.eq.ensures).0

pub returns-clause-different : goal.returns-clause-different
returns-clause-different c = λ f h. let t : true ≡ false = sym ((slice_eq-Decides booleans_Decides c.args.a.now c.args.b.now c.eq.result c.eq.ensures).1 h) ∙ f in cc
