use Rattle.std.proofs.Common.{◌≡◌, ◌∙◌, sym, ap, subst, drop}
use Rattle.std.proofs.lemmas.List.{take_rest}
use Rattle.pm_history.specs.Starts.{start_of}
use Rattle.pm_history.specs.Tidy.{NamesDiffer}
use Rattle.pm_history.proofs.branches.Branches.since.Goals as goal

pub returns : goal.returns
returns g c = λ differ.
    let names = c.args.names.now in
    let e = c.items-items.ensures in
    let k = c.earliest-start.result in
    let first : k ≡ start_of names c.args.self.now.items = c.earliest-start.ensures.start (subst NamesDiffer (sym e) differ) ∙ ap (start_of names) e in
    take_rest c.items-items.result.now k ∙ ap (drop k) e ∙ ap (λ j. drop j c.args.self.now.items) first
