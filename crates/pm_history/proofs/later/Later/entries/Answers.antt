use Rattle.std.proofs.Common.{◌≡◌, ◌++◌, ◌∷◌, [], ◌∙◌, ap, sym, arith, length, take, ◌<◌}
use Rattle.std.proofs.lemmas.List.{take_all, take_more}
use Rattle.pm_map.specs.declared.mapping.Mirrored.{Mirrored}
use Rattle.pm_history.specs.Laters.{items_of, entry_at}
use Rattle.pm_history.specs.Pairs.{paired}
use Rattle.pm_history.proofs.Leading.{entry-is, entry-there, paired-length}
use Rattle.pm_history.proofs.Restorers.{tells-each}
use Rattle.pm_history.proofs.later.Later.entries.Goals as goal

pub mirror_of-requires-clause-told : goal.mirror_of-requires-clause-told
mirror_of-requires-clause-told g c = tells-each c.args.self.now.undoers (items_of c.args.self.now) c.loop-i.i c.requires

pub loop-i-preserved : goal.loop-i-preserved
loop-i-preserved g c =
    let is = items_of c.args.self.now in
    let i = c.loop-i.i in
    let below : i < length is = omega (arith, c.loop-i-test.true, c.len-count.ensures) in
    let e : Mirrored = record { map = c.map.result; later = c.mirror_of.result } in
    let entry : e ≡ entry_at is i =
    ap (λ rs. record { map = rs; later = c.mirror_of.result }) c.map.ensures ∙ ap (λ o. record { map = c.at.result.now.map; later = o }) (c.mirror_of.ensures ∙ ap (λ (x : Mirrored). x.later) (entry-is is i c.at.result.now below c.at.ensures))
    ∙ sym (entry-is is i c.at.result.now below c.at.ensures) in
    record {
      within = omega (arith, below);
      same = c.in_ok-push.ensures.items ∙ ap (λ ms. ms ++ e ∷ []) c.loop-i.invariant.same ∙ ap (λ x. take i (paired is) ++ x ∷ []) (entry ∙ sym (entry-there is i e below))
          ∙ sym (take_more (paired is) i e (omega (arith, below, paired-length is)));
    }

pub returns : goal.returns
returns g c =
    let is = items_of c.args.self.now in
    c.loop-i.invariant.same ∙ take_all c.loop-i.i (paired is) (omega (arith, c.loop-i-test.false, c.len-count.ensures, paired-length is))
