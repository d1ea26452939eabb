-- What packing leaves of a file.
use Rattle.std.proofs.Common.{◌≡◌, ◌⊎◌, inl, inr, ◌∙◌, ◌++◌, ℕ, Bool, true, false, List, [], length, IsTrue, refl, sym, ap, subst}
use Rattle.std.specs.Prelude.{Option, None}
use Rattle.std.proofs.lemmas.Bool.{false≢true}
use Rattle.std.proofs.lemmas.List.{append-nil}
use Rattle.sqlite_disk.specs.Disk.{Only}
use Rattle.pm_io.specs.Moves.{Adds}
use Rattle.pm_serve.specs.declared.serving.Served.{Served}
use Rattle.pm_serve.specs.Serves.{FrontWritten}
use Rattle.pm_journal.specs.Lines.{recorded, IsAtRest}
use Rattle.pm_journal.specs.Journal.{TakesLines}
use Rattle.pm_journal.specs.declared.group.Group.{Group}
use Rattle.pm_journal.specs.declared.journal.Journal.{Journal}
use Rattle.pm_kept.specs.declared.kept.Kept.{Kept}
use Rattle.pm_kept.specs.Behind.{Stands}
use Rattle.pm_kept.specs.Kept.{held_lines, lines_so_far, accepted, IsInStep, IsUp, IsGoodKept, CouldNotKeep}
use Rattle.pm_kept.specs.Runs.{OverBy, KeptRun}
use Rattle.pm_kept.proofs.Files.{up_leaves}
use Rattle.pm_house.specs.declared.house.House.{House}
use Rattle.pm_house.specs.declared.limited.LimitedHouse.{LimitedHouse}
use Rattle.pm_house.specs.Keeping.{house_meaning, resumed_text}
use Rattle.pm_live.specs.declared.packing.PackStatus.{PackStatus}
use Rattle.pm_live.specs.declared.packing.PackStatus.TheVariants as pack
use Rattle.pm_live.specs.declared.filling.Filling.{Filling}
use Rattle.pm_live.specs.declared.filling.Filling.TheVariants as filling
use Rattle.pm_live.specs.Keeping.{LeavesSome}
use Rattle.pm_live.specs.Packing.{plain, StandsIn, CouldNotKeepSome, FillsAs, PacksAs, JudgedAs, EndsAs}

module _ {D : Type 0} (seen : D → List ℕ) (may_leave : D → List ℕ → Type 0) (is_clean is_usable : D → Bool) where
  takes_rest : (journal : Journal D) → TakesLines seen may_leave is_clean is_usable journal → IsTrue (is_clean journal.disk)
      → (seen journal.disk ≡ []) ⊎ IsAtRest (recorded (seen journal.disk)) (seen journal.disk)
  takes_rest journal (inl blank) clean = inl (blank.empty clean)
  takes_rest journal (inr open_one) clean = inr (open_one.ready.settled clean).file

  takes_only : (journal : Journal D) → TakesLines seen may_leave is_clean is_usable journal → IsTrue (is_clean journal.disk)
      → Only (seen journal.disk) (may_leave journal.disk)
  takes_only journal (inl blank) clean = subst (λ (file : List ℕ). Only file (may_leave journal.disk)) (sym (blank.empty clean)) (blank.durable clean)
  takes_only journal (inr open_one) clean = (open_one.ready.settled clean).durable

  -- a house that is in step with its file, where no line is held
  step_stands : (t : LimitedHouse) (held : Option Group) (journal : Journal D) → IsInStep house_meaning seen may_leave is_clean is_usable t held journal
      → held ≡ None → StandsIn seen may_leave is_clean t.house journal.disk
  step_stands t held journal step none =
      let lines : lines_so_far seen held journal ≡ recorded (seen journal.disk) =
      ap (λ (h : Option Group). recorded (seen journal.disk) ++ held_lines h) none ∙ append-nil (recorded (seen journal.disk)) in
      record {
        behind = λ clean. subst (λ (ls : List (List ℕ)). Stands house_meaning ls t) lines (step.behind clean);
        rest = takes_rest journal step.file;
        durable = takes_only journal step.file;
      }

  up_stands : (failed : Bool) (t : LimitedHouse) (held : Option Group) (journal : Journal D) → failed ≡ false
      → IsUp house_meaning seen may_leave is_clean is_usable failed t held journal → StandsIn seen may_leave is_clean t.house journal.disk
  up_stands true t held journal e up = absurd (false≢true (sym e))
  up_stands false t held journal e up = step_stands t held journal up.0 (up.1 refl)

  -- what a crash leaves of a file in which a house stands
  stands_leaves : (house : House) (disk : D) → StandsIn seen may_leave is_clean house disk → LeavesSome house_meaning may_leave is_clean disk
  stands_leaves house disk is clean c left =
      (plain house, recorded (seen disk), record { found = ap recorded (is.durable clean c left); behind = is.behind clean })

module _ {D : Type 0} (seen : D → List ℕ) (may_leave : D → List ℕ → Type 0) (is_clean is_usable : D → Bool) (faults : D → ℕ) where
  -- a call of the disk failed while lines were served
  over_cause : (count : ℕ) (served : Served) (was : LimitedHouse) (lines : List (List ℕ)) (begin end : Kept LimitedHouse D) (left rest : Option (List ℕ)) (before after : List ℕ)
      (old new : Option (List ℕ)) → begin.failed ≡ false → end.failed ≡ true
      → OverBy house_meaning may_leave is_clean faults count served was lines begin end left rest before after old new
      → CouldNotKeepSome seen may_leave is_clean faults begin.journal.disk end.journal.disk
  over_cause count served was lines begin end left rest before after old new up down over = from over
    where
      none : end.failed ≡ begin.failed → ⊥
      none same = false≢true (sym up ∙ sym same ∙ down)

      from : OverBy house_meaning may_leave is_clean faults count served was lines begin end left rest before after old new
          → CouldNotKeepSome seen may_leave is_clean faults begin.journal.disk end.journal.disk
      from (inl quiet) = absurd (none quiet.is_kept.up)
      from (inr (inl ended)) = absurd (none ended.is_kept.up)
      from (inr (inr (inl shut))) = absurd (none shut.is_kept.up)
      from (inr (inr (inr (inl broken)))) = absurd (none broken.is_kept.up)
      from (inr (inr (inr (inr lost)))) = (lines, lost.some, lost.is_lost.cause)

  -- what the file is after a run in which the lines of a house were served
  pub fills : (f : Filling) (house : House) (served : Served) (begin end : Kept LimitedHouse D) (left rest : Option (List ℕ)) (before after : List ℕ) (old new : Option (List ℕ))
      → JudgedAs f house end.service.house end.failed → begin.failed ≡ false → IsGoodKept house_meaning seen may_leave is_clean is_usable end
      → KeptRun house_meaning seen may_leave is_clean faults served begin end left rest before after old new
      → FillsAs seen may_leave is_clean faults f house begin.journal.disk end.journal.disk
  fills filling.Same house served begin end left rest before after old new judged up good run =
      record {
        next = end.service.house;
        stands = up_stands seen may_leave is_clean is_usable end.failed end.service end.held end.journal judged.0 good.up;
        compared = judged.1;
      }
  fills filling.Other house served begin end left rest before after old new judged up good run =
      record {
        next = end.service.house;
        stands = up_stands seen may_leave is_clean is_usable end.failed end.service end.held end.journal judged.0 good.up;
        compared = judged.1;
      }
  fills filling.DiskFault house served begin end left rest before after old new judged up good run = (
    up_leaves house_meaning seen may_leave is_clean is_usable end.failed end.service end.held end.journal good.up,
    over_cause (length run.lines) served run.mid (accepted seen begin ++ run.some) begin end run.left_then rest run.there_then after run.written_then new up judged run.over,
  )
  fills filling.NoMemory house served begin end left rest before after old new judged up good run =
      up_leaves house_meaning seen may_leave is_clean is_usable end.failed end.service end.held end.journal good.up

  -- whatever it is, a crash leaves a house behind its lines
  pub fills_leave : (f : Filling) (house : House) (was disk : D) → FillsAs seen may_leave is_clean faults f house was disk → LeavesSome house_meaning may_leave is_clean disk
  fills_leave filling.Same house was disk filled = stands_leaves seen may_leave is_clean is_usable filled.next disk filled.stands
  fills_leave filling.Other house was disk filled = stands_leaves seen may_leave is_clean is_usable filled.next disk filled.stands
  fills_leave filling.DiskFault house was disk filled = filled.0
  fills_leave filling.NoMemory house was disk filled = filled

  -- and so packing ends
  pub packs : (f : Filling) (status : PackStatus) (house : House) (text : List ℕ) (was blank disk : D) (old new : Option (List ℕ)) (w w_new : ℕ)
      → faults blank ≡ faults was → text ≡ resumed_text house → FillsAs seen may_leave is_clean faults f house blank disk → EndsAs f text status old new w w_new
      → PacksAs seen may_leave is_clean faults status house was disk old new w w_new
  packs filling.Same pack.Packed house text was blank disk old new w w_new same is filled ends =
      (filled, subst (λ (t : List ℕ). Adds old new t) is ends.0, ends.1)
  packs filling.Same pack.WriteFault house text was blank disk old new w w_new same is filled ends =
      (filled, subst (λ (t : List ℕ). FrontWritten t old new) is ends.0, ends.1)
  packs filling.Same pack.NoMemory house text was blank disk old new w w_new same is filled ends = absurd ends
  packs filling.Same pack.DiskFault house text was blank disk old new w w_new same is filled ends = absurd ends
  packs filling.Same pack.FileIsThere house text was blank disk old new w w_new same is filled ends = absurd ends
  packs filling.Same pack.NotPacked house text was blank disk old new w w_new same is filled ends = absurd ends
  packs filling.Same (pack.NotOpened why) house text was blank disk old new w w_new same is filled ends = absurd ends
  packs filling.Other status house text was blank disk old new w w_new same is filled ends =
      subst (λ (s : PackStatus). PacksAs seen may_leave is_clean faults s house was disk old new w w_new) (sym ends.0) (filled, ends.1)
  packs filling.DiskFault status house text was blank disk old new w w_new same is filled ends =
      let cause : CouldNotKeep may_leave is_clean (faults was) (faults disk) disk filled.1.0 filled.1.1 =
      subst (λ (n : ℕ). CouldNotKeep may_leave is_clean n (faults disk) disk filled.1.0 filled.1.1) same filled.1.2 in
      subst (λ (s : PackStatus). PacksAs seen may_leave is_clean faults s house was disk old new w w_new) (sym ends.0)
      (inr (filled.0, (filled.1.0, filled.1.1, cause)), ends.1)
  packs filling.NoMemory status house text was blank disk old new w w_new same is filled ends =
      subst (λ (s : PackStatus). PacksAs seen may_leave is_clean faults s house was disk old new w w_new) (sym ends.0) (inr filled, ends.1)
