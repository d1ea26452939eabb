use Rattle.std.proofs.Common.{◌+◌, ◌∙◌, ap, sym, subst, drop}
use Rattle.pm_map.specs.declared.mapping.Mirrored.{Mirrored}
use Rattle.pm_history.specs.Laters.{items_of, TellsOf}
use Rattle.pm_history.specs.Pairs.{later_in}
use Rattle.pm_history.proofs.Leading.{entry-is}
use Rattle.pm_history.proofs.Tables.{later-none}
use Rattle.pm_history.proofs.later.Later.mirror_of.Goals as goal

pub returns-in-Some-Some : goal.returns-in-Some-Some
returns-in-Some-Some g c =
    c.search.ensures ∙ sym (ap (λ (e : Mirrored). e.later) (entry-is (items_of c.args.self.now) c.args.i c.at-item.result.now c.requires.within c.at-item.ensures))

pub returns-in_default : goal.returns-in_default
returns-in_default g c =
    let is = items_of c.args.self.now in
    let x = c.at-item.result.now in
    sym (ap (λ (e : Mirrored). e.later) (entry-is is c.args.i x c.requires.within c.at-item.ensures) ∙ ap (λ n. later_in n x.map (drop (c.args.i + 1) is)) (sym c.name.ensures ∙ c.in_default.is-1)
    ∙ later-none x.map (drop (c.args.i + 1) is))

pub returns-in_default-2 : goal.returns-in_default-2
returns-in_default-2 g c = sym (subst (λ o. TellsOf o (items_of c.args.self.now) c.args.i) c.in_default.is-0 c.requires.told)
