use Rattle.std.proofs.Common.{IsTrue, inl, inr, refl, sym, subst}
use Rattle.pm_house.specs.Keeping.{house_meaning}
use Rattle.pm_live.specs.Keeping.{error_status_of, NotOpenedFor}
use Rattle.pm_live.proofs.Files.{behind_file, by_error}
use Rattle.pm_live.proofs.packing.run_pack.Goals as goal

pub returns-in-Ok-clause-output : goal.returns-in-Ok-clause-output
returns-in-Ok-clause-output g c =
    let seen = g.O.Disk.seen in
    let opened = c.in-Ok.opened in
    inr record {
      opened = opened.service;
      stands = λ clean. behind_file house_meaning opened.found opened.service (seen c.args.from) (seen c.open-opened.new.disk) c.open-opened.ensures.seen (c.in-Ok.ensures.lines clean) c.in-Ok.ensures.stands;
      packs = c.pack-status.ensures.packs;
    }

pub returns-in-Err-clause-output : goal.returns-in-Err-clause-output
returns-in-Err-clause-output g c =
    let seen = g.O.Disk.seen in
    let faults = g.O.Disk.faults in
    let is_clean = g.O.Disk.is_clean in
    let was = c.args.from in
    let now = c.open-opened.new.disk in
    let error = c.in-Err.error in
    let fails = by_error house_meaning error (faults was) (faults now) (IsTrue (is_clean now)) (seen now) c.in-Err.ensures.faults in
    let told = subst (λ file. NotOpenedFor house_meaning (error_status_of error) (faults was) (faults now) (IsTrue (is_clean now)) file) c.open-opened.ensures.seen fails in
    inl record {
      why = c.status_of_error.result;
      is = refl;
      cause = subst (λ status. NotOpenedFor house_meaning status (faults was) (faults now) (IsTrue (is_clean now)) (seen was)) (sym c.status_of_error.ensures) told;
      untouched = record { same = refl; crash = λ left is. is };
      silent = (refl, refl);
    }
