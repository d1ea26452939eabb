use Rattle.std.proofs.Common.{◌≡◌, ◌+◌, ◌<◌, ◌^◌, ◌∙◌, ap, sym, subst, drop, List, Option, IfSome}
use Rattle.pm_map.specs.declared.mapping.Mirrored.{Mirrored}
use Rattle.pm_map.specs.declared.step_map.Moved.{Moved}
use Rattle.pm_map.specs.declared.step_map.Span.{Span}
use Rattle.pm_map.specs.declared.step_map.Recover.{Recover}
use Rattle.pm_map.specs.Moves.{is_before, moved}
use Rattle.pm_map.specs.Through.{IsIn, skipped, stepped}
use Rattle.pm_history.specs.Laters.{items_of, entry_at}
use Rattle.pm_history.specs.Pairs.{paired}
use Rattle.pm_history.proofs.Leading.{entry-is, no-jump, no-skip}
use Rattle.pm_history.proofs.Restorers.{tells-deleted}
use Rattle.pm_history.proofs.later.Later.over.Goals as goal

pub moved-m-requires : goal.moved-m-requires
moved-m-requires g c =
    subst (λ (rs : List Span). (moved rs c.args.so.pos c.args.side).pos < 2 ^ 64)
    (ap (λ (e : Mirrored). e.map) (entry-is (items_of c.args.self.now) c.args.i c.at.result.now c.requires.within c.at.ensures)) c.requires.room

pub recovered-requires-clause-back : goal.recovered-requires-clause-back
recovered-requires-clause-back g c =
    subst (λ (rs : List Span). IsIn rs c.in-Some.r)
    (sym (ap (λ (e : Mirrored). e.map) (entry-is (items_of c.args.self.now) c.args.i c.at.result.now c.requires.within c.at.ensures)))
    (subst (λ (o : Option Recover). IfSome o (IsIn c.at.result.now.map)) c.in-Some.is c.moved-m.ensures.back)

pub recovered-requires-clause-told : goal.recovered-requires-clause-told
recovered-requires-clause-told g c =
    let is = items_of c.args.self.now in
    let same : (entry_at is c.args.i).map ≡ c.at.result.now.map = ap (λ (x : Mirrored). x.map) (entry-is is c.args.i c.at.result.now c.requires.within c.at.ensures) in
    let m : c.moved-m.result ≡ moved (entry_at is c.args.i).map c.args.so.pos c.args.side = c.moved-m.ensures.moved ∙ ap (λ (rs : List Span). moved rs c.args.so.pos c.args.side) (sym same) in
    tells-deleted c.args.self.now.undoers is c.args.i c.args.so.pos (is_before c.args.side) c.in-Some.r c.requires.told (sym (ap (λ (x : Moved). x.recover) m) ∙ c.in-Some.is)

pub returns-in-Some-clause-state : goal.returns-in-Some-clause-state
returns-in-Some-clause-state g c =
    let is = items_of c.args.self.now in
    let e = entry_at is c.args.i in
    let same : e.map ≡ c.at.result.now.map = ap (λ (x : Mirrored). x.map) (entry-is is c.args.i c.at.result.now c.requires.within c.at.ensures) in
    let m : c.moved-m.result ≡ moved e.map c.args.so.pos c.args.side = c.moved-m.ensures.moved ∙ ap (λ (rs : List Span). moved rs c.args.so.pos c.args.side) (sym same) in
    c.recovered.ensures.state ∙ ap (λ (o : Option Recover). stepped c.args.so c.moved-m.result e.later o (paired (drop (c.args.i + 1) is))) (sym c.in-Some.is)
    ∙ ap (λ (x : Moved). stepped c.args.so x e.later x.recover (paired (drop (c.args.i + 1) is))) m

pub returns-in-Some-clause-skip : goal.returns-in-Some-clause-skip
returns-in-Some-clause-skip g c =
    let is = items_of c.args.self.now in
    let e = entry_at is c.args.i in
    let same : e.map ≡ c.at.result.now.map = ap (λ (x : Mirrored). x.map) (entry-is is c.args.i c.at.result.now c.requires.within c.at.ensures) in
    let m : c.moved-m.result ≡ moved e.map c.args.so.pos c.args.side = c.moved-m.ensures.moved ∙ ap (λ (rs : List Span). moved rs c.args.so.pos c.args.side) (sym same) in
    c.recovered.ensures.skip ∙ ap (λ (o : Option Recover). skipped e.later o) (sym c.in-Some.is) ∙ ap (λ (x : Moved). skipped e.later x.recover) m

pub returns-in-None-clause-state : goal.returns-in-None-clause-state
returns-in-None-clause-state g c =
    let is = items_of c.args.self.now in
    let e = entry_at is c.args.i in
    let same : e.map ≡ c.at.result.now.map = ap (λ (x : Mirrored). x.map) (entry-is is c.args.i c.at.result.now c.requires.within c.at.ensures) in
    let m : c.moved-m.result ≡ moved e.map c.args.so.pos c.args.side = c.moved-m.ensures.moved ∙ ap (λ (rs : List Span). moved rs c.args.so.pos c.args.side) (sym same) in
    c.join.ensures ∙ no-jump c.args.so c.moved-m.result e.later c.moved-m.result.recover (paired (drop (c.args.i + 1) is)) c.in-None.is
    ∙ ap (λ (x : Moved). stepped c.args.so x e.later x.recover (paired (drop (c.args.i + 1) is))) m

pub returns-in-None-clause-skip : goal.returns-in-None-clause-skip
returns-in-None-clause-skip g c =
    let is = items_of c.args.self.now in
    let e = entry_at is c.args.i in
    let same : e.map ≡ c.at.result.now.map = ap (λ (x : Mirrored). x.map) (entry-is is c.args.i c.at.result.now c.requires.within c.at.ensures) in
    let m : c.moved-m.result ≡ moved e.map c.args.so.pos c.args.side = c.moved-m.ensures.moved ∙ ap (λ (rs : List Span). moved rs c.args.so.pos c.args.side) (sym same) in
    no-skip e.later c.moved-m.result.recover c.in-None.is ∙ ap (λ (x : Moved). skipped e.later x.recover) m
