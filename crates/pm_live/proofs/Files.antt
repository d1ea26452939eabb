-- What is known of a file that was read, and not written.
use Rattle.std.proofs.Common.{◌≡◌, ◌++◌, inl, inr, ◌∙◌, ℕ, Bool, true, false, List, [], IsTrue, refl, sym, ap, subst}
use Rattle.std.specs.Prelude.{Option, None, Result, Ok, Err}
use Rattle.std.specs.Result.{is_err, OnErr, OnOk}
use Rattle.std.proofs.lemmas.List.{append-nil}
use Rattle.sqlite_disk.specs.Disk.{Only}
use Rattle.pm_journal.specs.Lines.{recorded}
use Rattle.pm_journal.specs.Journal.{IsRecovered, texts}
use Rattle.pm_journal.specs.declared.group.Group.{Group}
use Rattle.pm_journal.specs.declared.recovery.Recovered.{Recovered}
use Rattle.pm_journal.specs.declared.errors.RecoverError.{RecoverError}
use Rattle.pm_journal.specs.declared.errors.RecoverError.TheVariants as recover
use Rattle.pm_journal.proofs.Lines.{at_rest_recorded}
use Rattle.pm_serve.specs.declared.serving.Served.{Served}
use Rattle.pm_kept.specs.declared.opening.OpenError.{OpenError}
use Rattle.pm_kept.specs.declared.opening.OpenError.TheVariants as error
use Rattle.pm_kept.specs.declared.kept.Kept.{Kept}
use Rattle.pm_kept.specs.Means.{Meaning}
use Rattle.pm_kept.specs.Behind.{Behind, KeepsSome}
use Rattle.pm_kept.specs.Kept.{accepted, held_lines}
use Rattle.pm_kept.specs.Laws.{AllReopen}
use Rattle.pm_kept.specs.Opens.{OpenFails}
use Rattle.pm_live.specs.declared.keeping.FileStatus.{FileStatus}
use Rattle.pm_live.specs.declared.keeping.FileStatus.TheVariants as ends
use Rattle.pm_live.specs.Keeping.{KeptTalked, error_status_of, file_status_of, IsNotOurs, NotOpenedFor, TakesUp}

-- what holds on an error, at one
pub on_err : {T E : Type 0} (r : Result T E) (P : Type 0) → is_err r ≡ true → OnErr r P → P
on_err (Ok x) P failed h = absurd (cc)
on_err (Err e) P failed h = h

-- what holds where there is no error, at one
pub on_ok : {T E : Type 0} (r : Result T E) (P : Type 0) → is_err r ≡ false → OnOk r P → P
on_ok (Ok x) P no_error h = h
on_ok (Err e) P no_error h = absurd (cc)

-- a service stands behind its lines
pub behind_file : {S : Type 0} (m : Meaning S) (found : Recovered) (service : S) (old new : List ℕ) → new ≡ old → IsRecovered found new → Behind m (texts found) m.start service
    → Behind m (recorded old) m.start service
behind_file m found service old new same is behind =
    subst (λ (ls : List (List ℕ)). Behind m ls m.start service) (sym (at_rest_recorded (texts found) new is.at_rest) ∙ ap recorded same) behind

by_recover : {S : Type 0} (m : Meaning S) (e : RecoverError) (old new : ℕ) (clean : Type 0) (file : List ℕ) → OpenFails m (error.Unread e) old new clean file → NotOpenedFor m (error_status_of (error.Unread e)) old new clean file
by_recover m (recover.Failed x) old new clean file fails = fails.0
by_recover m recover.Memory old new clean file fails = (refl, fails.0)
by_recover m recover.Broken old new clean file fails = (fails.0, λ c. inl (fails.1 refl c))

-- why it was not taken up
pub by_error : {S : Type 0} (m : Meaning S) (e : OpenError) (old new : ℕ) (clean : Type 0) (file : List ℕ) → OpenFails m e old new clean file → NotOpenedFor m (error_status_of e) old new clean file
by_error m (error.Unread e) old new clean file fails = by_recover m e old new clean file fails
by_error m error.Memory old new clean file fails = (refl, fails)
by_error m (error.NotAccepted number) old new clean file fails = fails
by_error m error.NoDocument old new clean file fails = (fails.0, λ c. inr (fails.1 c))

-- a file that a crash may have left
pub takes_up : {S : Type 0} (m : Meaning S) → AllReopen m → (status : FileStatus) (old new : ℕ) (clean : Type 0) (bytes : List ℕ) → NotOpenedFor m status old new clean bytes → clean → KeepsSome m bytes → TakesUp status bytes
takes_up m again (ends.Served status) old new clean bytes cause c some = tt
takes_up m again ends.DiskFault old new clean bytes cause c some = tt
takes_up m again ends.FileIsThere old new clean bytes cause c some = tt
takes_up m again ends.NotOurs old new clean bytes cause c some = from (cause.1 c)
  where
    from : IsNotOurs m bytes → TakesUp ends.NotOurs bytes
    from (inl none) = none
    from (inr more) = λ lines any rest. (again bytes some).opens (λ e. any (sym (at_rest_recorded lines bytes rest) ∙ e)) more
takes_up m again (ends.NotAccepted line) old new clean bytes cause c some = (again bytes some).accepted line (cause.1 c)

-- and one over which a service was served
pub served_up : (served : Served) (is_open failed : Bool) (status : FileStatus) (bytes : List ℕ) → status ≡ file_status_of served is_open failed → TakesUp status bytes
served_up served is_open true status bytes says = subst (λ (s : FileStatus). TakesUp s bytes) (sym says) tt
served_up served is_open false status bytes says = subst (λ (s : FileStatus). TakesUp s bytes) (sym says) tt

module _ {D : Type 0} (seen : D → List ℕ) where
  -- where none is held, the lines of a service are those of its file
  lines_in_file : {S : Type 0} (k : Kept S D) → k.held ≡ None → accepted seen k ≡ recorded (seen k.journal.disk)
  lines_in_file k none = ap (λ (h : Option Group). recorded (seen k.journal.disk) ++ held_lines h) none ∙ append-nil (recorded (seen k.journal.disk))

  pub lines_before : {S : Type 0} (k : Kept S D) (opened : D) (file : List ℕ) → k.held ≡ None → k.journal.disk ≡ opened → seen opened ≡ file → accepted seen k ≡ recorded file
  lines_before k opened file none over same = lines_in_file k none ∙ ap (λ (d : D). recorded (seen d)) over ∙ ap recorded same

module _ {S D : Type 0} (m : Meaning S) (seen : D → List ℕ) (may_leave : D → List ℕ → Type 0) (is_clean is_usable : D → Bool) (faults : D → ℕ) where
  -- a crash still leaves what is read
  pub durable : (old new : D) → seen new ≡ seen old → ((c : List ℕ) → may_leave new c → may_leave old c) → (IsTrue (is_clean new) → IsTrue (is_clean old))
      → (IsTrue (is_clean old) → Only (seen old) (may_leave old)) → IsTrue (is_clean new) → Only (seen new) (may_leave new)
  durable old new same crash was only clean c left = only (was clean) c (crash c left) ∙ sym same

  -- the service, its lines and the disk that it began with, by other terms
  pub begun_at : (status : FileStatus) (first other : S) (lines others : List (List ℕ)) (opened file disk : D) (left rest old new : Option (List ℕ)) (r r_new w w_was w_new : ℕ)
      → first ≡ other → (IsTrue (is_clean file) → lines ≡ others) → opened ≡ file → w ≡ w_was
      → KeptTalked m seen may_leave is_clean is_usable faults status first lines opened disk left rest old new r r_new w w_new
      → KeptTalked m seen may_leave is_clean is_usable faults status other others file disk left rest old new r r_new w_was w_new
  begun_at status first other lines others opened file disk left rest old new r r_new w w_was w_new same_service same_lines same_disk same_faults talked =
      let t : KeptTalked m seen may_leave is_clean is_usable faults status other lines file disk left rest old new r r_new w_was w_new =
      subst (λ (n : ℕ). KeptTalked m seen may_leave is_clean is_usable faults status other lines file disk left rest old new r r_new n w_new) same_faults
      (subst (λ (d : D). KeptTalked m seen may_leave is_clean is_usable faults status other lines d disk left rest old new r r_new w w_new) same_disk
      (subst (λ (t : S). KeptTalked m seen may_leave is_clean is_usable faults status t lines opened disk left rest old new r r_new w w_new) same_service talked)) in
      record {
        served = t.served;
        begin = t.begin;
        end = t.end;
        unread = t.unread;
        begins = t.begins;
        over = t.over;
        before = λ clean. t.before clean ∙ same_lines clean;
        up = t.up;
        was_good = t.was_good;
        run = t.run;
        ends = t.ends;
        good = t.good;
        gives = t.gives;
        says = t.says;
      }
