use Rattle.std.proofs.Common.{◌≡◌, ℕ, List, true, false, IsTrue, inl, inr, refl, rules, sym, subst, ◌∙◌}
use Rattle.std.specs.Result.{is_err}
use Rattle.pm_serve.specs.Serves.{FrontWritten}
use Rattle.pm_live.proofs.Files.{durable, begun_at, behind_file, lines_before, by_error, takes_up, served_up, on_err, on_ok}
use Rattle.pm_live.specs.Keeping.{NotOpenedFor, TakesUp, error_status_of}
use Rattle.pm_live.proofs.keeping.run_open.Goals as goal

pub resume-kept-requires-clause-durable : goal.resume-kept-requires-clause-durable
resume-kept-requires-clause-durable g c =
    durable g.S.Keepable.means g.D.Disk.seen g.D.Disk.may_leave g.D.Disk.is_clean g.D.Disk.is_usable g.D.Disk.faults c.args.disk c.open.new.disk c.open.ensures.seen c.open.ensures.crash c.open.ensures.clean c.requires.durable

pub returns-clause-output : goal.returns-clause-output
returns-clause-output g c =
    let seen = g.D.Disk.seen in
    let may_leave = g.D.Disk.may_leave in
    let is_clean = g.D.Disk.is_clean in
    let is_usable = g.D.Disk.is_usable in
    let faults = g.D.Disk.faults in
    let kept = c.resume-kept.result in
    let opened = c.in-Ok.opened in
    let wrote : is_err c.write_all.result ≡ false = search rules in
    let still : g.W.Sink.faults c.write_all.new.sink ≡ g.W.Sink.faults c.args.sink.now = on_ok c.write_all.result _ wrote c.write_all.ensures.no_fault in
    inr (inr record {
      opened = c.open.new.disk;
      untouched = record { same = c.open.ensures.seen; crash = c.open.ensures.crash };
      first = opened.service;
      stands = λ clean. behind_file g.S.Keepable.means opened.found opened.service (seen c.args.disk) (seen c.open.new.disk) c.open.ensures.seen (c.in-Ok.ensures.lines clean) c.in-Ok.ensures.stands;
      taken_up = c.in-Ok.ensures.begun;
      said = g.W.Sink.written c.write_all.new.sink;
      says = search rules;
      talked = begun_at g.S.Keepable.means seen may_leave is_clean is_usable faults c.keep.result.status kept.service (g.S.Keepable.means.limited c.args.limit opened.service) _ _ kept.journal.disk c.open.new.disk c.keep.result.disk _ _ _ _ _ _ _ _ _
          c.resume-kept.ensures.service (λ clean. lines_before seen kept c.open.new.disk (seen c.args.disk) c.resume-kept.ensures.held c.resume-kept.ensures.disk c.open.ensures.seen)
          c.resume-kept.ensures.disk still c.keep.ensures.talked;
    })

pub returns-clause-again : goal.returns-clause-again
returns-clause-again g c = inr c.keep.ensures.again

pub returns-clause-reopens : goal.returns-clause-reopens
returns-clause-reopens g c =
    let t = c.keep.ensures.talked in
    λ again clean some. served_up t.served _ t.end.failed c.keep.result.status (g.D.Disk.seen c.args.disk) t.says

pub returns-in-Err-clause-reopens : goal.returns-in-Err-clause-reopens
returns-in-Err-clause-reopens g c =
    let means = g.S.Keepable.means in
    let seen = g.D.Disk.seen in
    let faults = g.D.Disk.faults in
    let is_clean = g.D.Disk.is_clean in
    let was = c.args.disk in
    let now = c.open.new.disk in
    let error = c.in-Err.error in
    let fails = by_error means error (faults was) (faults now) (IsTrue (is_clean now)) (seen now) c.in-Err.ensures.faults in
    let told = subst (λ file. NotOpenedFor means (error_status_of error) (faults was) (faults now) (IsTrue (is_clean now)) file) c.open.ensures.seen fails in
    λ again clean some. subst (λ status. TakesUp status (seen was)) (sym c.status_of_error.ensures)
    (takes_up means again (error_status_of error) (faults was) (faults now) (IsTrue (is_clean now)) (seen was) told clean some)

pub returns-in-Err-clause-output : goal.returns-in-Err-clause-output
returns-in-Err-clause-output g c =
    let seen = g.D.Disk.seen in
    let may_leave = g.D.Disk.may_leave in
    let is_clean = g.D.Disk.is_clean in
    let is_usable = g.D.Disk.is_usable in
    let faults = g.D.Disk.faults in
    let was = c.args.disk in
    let now = c.open.new.disk in
    let error = c.in-Err.error in
    let fails = by_error g.S.Keepable.means error (faults was) (faults now) (IsTrue (is_clean now)) (seen now) c.in-Err.ensures.faults in
    let told = subst (λ file. NotOpenedFor g.S.Keepable.means (error_status_of error) (faults was) (faults now) (IsTrue (is_clean now)) file) c.open.ensures.seen fails in
    inl record {
      untouched = record { same = c.open.ensures.seen; crash = c.open.ensures.crash };
      cause = subst (λ status. NotOpenedFor g.S.Keepable.means status (faults was) (faults now) (IsTrue (is_clean now)) (seen was)) (sym c.status_of_error.ensures) told;
      nothing = record { read = refl; written = refl; reads = refl; writes = refl };
    }

pub returns-then-is_err-clause-output : goal.returns-then-is_err-clause-output
returns-then-is_err-clause-output g c =
    let seen = g.D.Disk.seen in
    let opened = c.in-Ok.opened in
    let text : c.as_bytes.result.now ≡ g.S.Keepable.means.resumed opened.service = c.as_bytes.ensures.value ∙ c.in-Ok-Ok.ensures' in
    let failed : is_err c.write_all.result ≡ true = search rules in
    let front = on_err c.write_all.result _ failed c.write_all.ensures.front in
    let part : FrontWritten c.as_bytes.result.now (g.W.Sink.written c.args.sink.now) (g.W.Sink.written c.write_all.new.sink) =
    record { count = front.0; within = front.1; front = front.2 } in
    inr (inl record {
      untouched = record { same = c.open.ensures.seen; crash = c.open.ensures.crash };
      first = opened.service;
      stands = λ clean. behind_file g.S.Keepable.means opened.found opened.service (seen c.args.disk) (seen c.open.new.disk) c.open.ensures.seen (c.in-Ok.ensures.lines clean) c.in-Ok.ensures.stands;
      is = refl;
      front = subst (λ (bytes : List ℕ). FrontWritten bytes (g.W.Sink.written c.args.sink.now) (g.W.Sink.written c.write_all.new.sink)) text part;
      rose = on_err c.write_all.result _ failed c.write_all.ensures.fault;
      read = refl;
      reads = refl;
    })
