-- What a file keeps, a group of lines later.
use Rattle.std.proofs.Common.{◌≡◌, inl, inr, ⊎_elim, ℕ, ◌+◌, ◌≤◌, ◌^◌, Bool, true, false, List, [], ◌∷◌, ◌++◌, length, map, IsTrue, refl, sym, ◌∙◌, ap, subst, arith, append_assoc}
use Rattle.std.specs.Prelude.{Option, None, if◌then◌else◌}
use Rattle.std.proofs.lemmas.List.{append-nil}
use Rattle.sqlite_disk.specs.Disk.{MoreFaults}
use Rattle.pm_journal.specs.Lines.{recorded, records, lines_of, HoldsLines}
use Rattle.pm_journal.specs.Journal.{IsBlank, IsOpen, TakesLines, AppendFails}
use Rattle.pm_journal.specs.declared.errors.AppendError.{AppendError}
use Rattle.pm_journal.specs.declared.errors.AppendError.TheVariants as append
use Rattle.pm_journal.specs.declared.group.Group.{Group}
use Rattle.pm_journal.specs.declared.journal.Journal.{Journal}
use Rattle.pm_journal.proofs.Lines.{length-records_more}
use Rattle.pm_serve.specs.Serves.{kept}
use Rattle.pm_kept.specs.declared.kept.Kept.{Kept}
use Rattle.pm_kept.specs.Means.{Meaning, Laws, unlimited}
use Rattle.pm_kept.specs.Behind.{Stands, in_file, Keeps, KeepsSome}
use Rattle.pm_kept.specs.Kept.{held_lines, AreHeld, lines_so_far, accepted, IsInStep, IsUp, IsGoodKept, Leaves, CouldNotKeep, Went, Lost, InFile, NotInFile, PutsHeld}
use Rattle.pm_kept.specs.Runs.{HearsSome, HearsAll, GroupHeard, GroupLost}
use Rattle.pm_kept.proofs.Stands.{some_behind, some_closed}

not_closed : true ≡ false → ⊥
not_closed e = absurd (cc)

-- ---- why lines could not be kept

module _ {D : Type 0} (seen : D → List ℕ) (may_leave : D → List ℕ → Type 0) (is_clean is_usable : D → Bool) where
  takes_end : (journal : Journal D) → TakesLines seen may_leave is_clean is_usable journal → IsTrue (is_clean journal.disk) → journal.end ≡ length (records (recorded (seen journal.disk)))
  takes_end journal (inl blank) clean = blank.end ∙ sym (ap (λ (f : List ℕ). length (records (recorded f))) (blank.empty clean))
  takes_end journal (inr opens) clean = (opens.ready.settled clean).end

  by_error : (e : AppendError) (old new end : ℕ) (disk : D) (lines more : List (List ℕ)) → AppendFails e old new end
      → (IsTrue (is_clean disk) → end + 2 ≡ length (records (lines ++ more)) + 1) → CouldNotKeep may_leave is_clean old new disk lines more
  by_error (append.Failed x) old new end disk lines more fails is = inl fails
  by_error append.TooLong old new end disk lines more fails is = inr (λ clean. subst (λ (n : ℕ). 2 ^ 64 ≤ n) (is clean) fails.1)

  pub could_not : (e : AppendError) (old new : ℕ) (journal : Journal D) (disk : D) (group : Group) → AppendFails e old new (journal.end + 1 + length group.text.items)
      → TakesLines seen may_leave is_clean is_usable journal → HoldsLines group.text.items → (IsTrue (is_clean disk) → IsTrue (is_clean journal.disk))
      → CouldNotKeep may_leave is_clean old new disk (recorded (seen journal.disk)) (lines_of group.text.items)
  could_not e old new journal disk group fails takes holds was =
      by_error e old new (journal.end + 1 + length group.text.items) disk (recorded (seen journal.disk)) (lines_of group.text.items) fails
      (λ clean. omega (arith, takes_end journal takes (was clean), length-records_more (recorded (seen journal.disk)) group.text.items holds))

  -- ---- what a crash leaves

  takes_leaves : (journal : Journal D) → TakesLines seen may_leave is_clean is_usable journal → IsTrue (is_clean journal.disk) → (c : List ℕ) → may_leave journal.disk c
      → recorded c ≡ recorded (seen journal.disk)
  takes_leaves journal (inl blank) clean c left = ap recorded (blank.durable clean c left ∙ sym (blank.empty clean))
  takes_leaves journal (inr opens) clean c left = ap recorded ((opens.ready.settled clean).durable c left)

module _ {S D : Type 0} (m : Meaning S) (seen : D → List ℕ) (may_leave : D → List ℕ → Type 0) (is_clean is_usable : D → Bool) where
  -- the lines of the file are those that are to be there
  settled : (service : S) (held : Option Group) (journal : Journal D) → IsInStep m seen may_leave is_clean is_usable service held journal → (m.is_begun service ≡ true → held ≡ None)
      → IsTrue (is_clean journal.disk) → recorded (seen journal.disk) ≡ in_file m service (lines_so_far seen held journal)
  settled service held journal is none clean = by_begun (m.is_begun service) refl
    where
      by_begun : (b : Bool) → m.is_begun service ≡ b → recorded (seen journal.disk) ≡ (if b then lines_so_far seen held journal else [])
      by_begun true begun = sym (ap (λ (h : Option Group). recorded (seen journal.disk) ++ held_lines h) (none begun) ∙ append-nil (recorded (seen journal.disk)))
      by_begun false begun = is.unbegun begun clean

  pub step_leaves : (service : S) (held : Option Group) (journal : Journal D) → IsInStep m seen may_leave is_clean is_usable service held journal → (m.is_begun service ≡ true → held ≡ None)
      → Leaves m may_leave is_clean journal.disk service (lines_so_far seen held journal)
  step_leaves service held journal is none clean c left =
      record { found = takes_leaves seen may_leave is_clean is_usable journal is.file clean c left ∙ settled service held journal is none clean; behind = is.behind clean }

  pub up_step : (failed : Bool) (service : S) (held : Option Group) (journal : Journal D) → failed ≡ false → IsUp m seen may_leave is_clean is_usable failed service held journal
      → IsInStep m seen may_leave is_clean is_usable service held journal × (m.is_begun service ≡ true → held ≡ None)
  up_step true service held journal up is = absurd (not_closed up)
  up_step false service held journal up is = is

  pub up_leaves : (failed : Bool) (service : S) (held : Option Group) (journal : Journal D) → IsUp m seen may_leave is_clean is_usable failed service held journal
      → IsTrue (is_clean journal.disk) → (c : List ℕ) → may_leave journal.disk c → KeepsSome m c
  up_leaves true service held journal is clean c left = is clean c left
  up_leaves false service held journal is clean c left = (service, lines_so_far seen held journal, step_leaves service held journal is.0 is.1 clean c left)

  pub good_leaves : (k : Kept S D) → k.failed ≡ false → IsGoodKept m seen may_leave is_clean is_usable k → Leaves m may_leave is_clean k.journal.disk k.service (accepted seen k)
  good_leaves k up good =
      let step = up_step k.failed k.service k.held k.journal up good.up in
      step_leaves k.service k.held k.journal step.0 step.1

  -- a service before its first line, over an empty file
  pub fresh : (service : S) (journal : Journal D) → unlimited m service ≡ m.start → IsBlank seen may_leave is_clean is_usable journal → IsInStep m seen may_leave is_clean is_usable service None journal
  fresh service journal is blank =
      record {
        file = inl blank;
        are_held = tt;
        behind = λ clean. subst (λ (f : List ℕ). Stands m (recorded f ++ []) service) (sym (blank.empty clean)) is;
        unbegun = λ closed clean. ap recorded (blank.empty clean);
      }

  -- the service behind the lines of a file
  pub resumed : (service : S) (journal : Journal D) → m.is_begun service ≡ true → IsOpen seen may_leave is_clean is_usable journal
      → (IsTrue (is_clean journal.disk) → Stands m (recorded (seen journal.disk)) service) → IsInStep m seen may_leave is_clean is_usable service None journal
  resumed service journal opens is stands =
      record {
        file = inr is;
        are_held = tt;
        behind = λ clean. subst (λ (ls : List (List ℕ)). Stands m ls service) (sym (append-nil (recorded (seen journal.disk)))) (stands clean);
        unbegun = λ closed clean. absurd (not_closed (sym opens ∙ closed));
      }

  -- ---- lines that were heard, and are held

  held_all : (k mid : Kept S D) (some : List (List ℕ)) → mid.journal ≡ k.journal → held_lines mid.held ≡ held_lines k.held ++ some → accepted seen mid ≡ accepted seen k ++ some
  held_all k mid some same held =
      ap (λ (j : Journal D). recorded (seen j.disk) ++ held_lines mid.held) same ∙ ap (λ (ls : List (List ℕ)). recorded (seen k.journal.disk) ++ ls) held
      ∙ sym (append_assoc (recorded (seen k.journal.disk)) (held_lines k.held) some)

module _ {S D : Type 0} (m : Meaning S) (laws : Laws m) (seen : D → List ℕ) (may_leave : D → List ℕ → Type 0) (is_clean is_usable : D → Bool) where
  heard_step : (k mid : Kept S D) (heard : List (List ℕ)) (out : List ℕ) (some : List (List ℕ)) (more : Bool) → IsInStep m seen may_leave is_clean is_usable k.service k.held k.journal → mid.journal ≡ k.journal → AreHeld mid.held
      → held_lines mid.held ≡ held_lines k.held ++ some → HearsSome m k.service heard out some more mid.service
      → IsInStep m seen may_leave is_clean is_usable mid.service mid.held mid.journal
  heard_step k mid heard out some more is same are_held held hears =
      let all = held_all m seen may_leave is_clean is_usable k mid some same held in
      record {
        file = subst (TakesLines seen may_leave is_clean is_usable) (sym same) is.file;
        are_held = are_held;
        behind = λ clean. subst (λ (ls : List (List ℕ)). Stands m ls mid.service) (sym all)
            (some_behind m laws heard (accepted seen k) m.start k.service out some more mid.service (is.behind (subst (λ (j : Journal D). IsTrue (is_clean j.disk)) same clean)) hears);
        unbegun = λ closed clean. ap (λ (j : Journal D). recorded (seen j.disk)) same
            ∙ is.unbegun (some_closed m laws heard k.service out some more mid.service hears closed) (subst (λ (j : Journal D). IsTrue (is_clean j.disk)) same clean);
      }

module _ {S D : Type 0} (m : Meaning S) (laws : Laws m) (seen : D → List ℕ) (may_leave : D → List ℕ → Type 0) (is_clean is_usable : D → Bool) (faults : D → ℕ) where
  -- ---- lines that were held, and are put into the file

  pub puts_all : (b : Bool) (old new : Kept S D) → b ≡ true → PutsHeld m seen may_leave is_clean is_usable faults b old new → InFile m seen may_leave is_clean is_usable faults old new
  puts_all true old new is puts = puts
  puts_all false old new is puts = absurd (not_closed (sym is))

  pub puts_none : (b : Bool) (old new : Kept S D) → b ≡ false → PutsHeld m seen may_leave is_clean is_usable faults b old new → NotInFile m seen may_leave is_clean is_usable faults old new
  puts_none true old new is puts = absurd (not_closed is)
  puts_none false old new is puts = puts

  put_step : (mid t : Kept S D) → IsInStep m seen may_leave is_clean is_usable mid.service mid.held mid.journal → t.service ≡ mid.service → InFile m seen may_leave is_clean is_usable faults mid t
      → IsInStep m seen may_leave is_clean is_usable t.service t.held t.journal
  put_step mid t is same put =
      record {
        file = put.file;
        are_held = put.are_held;
        behind = λ clean. subst (λ (ls : List (List ℕ)). Stands m ls t.service) (sym (put.same clean)) (subst (Stands m (accepted seen mid)) (sym same) (is.behind (put.clean clean)));
        unbegun = λ closed clean.
            let shut = sym (ap m.is_begun same) ∙ closed in
            ap (λ (j : Journal D). recorded (seen j.disk)) (put.still shut) ∙ is.unbegun shut (put.clean clean);
      }

  -- all of it is in the file
  pub put_all : (k mid t : Kept S D) (heard : List (List ℕ)) (out : List ℕ) (some : List (List ℕ)) (more : Bool) → IsInStep m seen may_leave is_clean is_usable k.service k.held k.journal
      → mid.journal ≡ k.journal → mid.failed ≡ k.failed → AreHeld mid.held → held_lines mid.held ≡ held_lines k.held ++ some → HearsSome m k.service heard out some more mid.service
      → t.service ≡ mid.service → InFile m seen may_leave is_clean is_usable faults mid t
      → (IsInStep m seen may_leave is_clean is_usable t.service t.held t.journal × (m.is_begun t.service ≡ true → t.held ≡ None)) × Went m seen may_leave is_clean faults k t some
  put_all k mid t heard out some more is same up are_held held hears service put =
      let step = put_step mid t (heard_step m laws seen may_leave is_clean is_usable k mid heard out some more is same are_held held hears) service put in
      let none : m.is_begun t.service ≡ true → t.held ≡ None = λ opens. put.none (sym (ap m.is_begun service) ∙ opens) in (
        (step, none),
        record {
          up = put.up ∙ up;
          no_fault = put.no_fault ∙ ap (λ (j : Journal D). faults j.disk) same;
          clean = λ clean. subst (λ (j : Journal D). IsTrue (is_clean j.disk)) same (put.clean clean);
          lines = λ clean. put.same clean ∙ held_all m seen may_leave is_clean is_usable k mid some same held;
          leaves = step_leaves m seen may_leave is_clean is_usable t.service t.held t.journal step none;
        },
      )

  -- all of it is in the file or none
  pub put_lost : (k mid t : Kept S D) (heard : List (List ℕ)) (out : List ℕ) (some : List (List ℕ)) (more : Bool) → IsInStep m seen may_leave is_clean is_usable k.service k.held k.journal
      → (m.is_begun k.service ≡ true → k.held ≡ None) → mid.journal ≡ k.journal → AreHeld mid.held → held_lines mid.held ≡ held_lines k.held ++ some
      → HearsSome m k.service heard out some more mid.service → t.service ≡ mid.service → NotInFile m seen may_leave is_clean is_usable faults mid t → Lost m seen may_leave is_clean faults k t some
  put_lost k mid t heard out some more is none same are_held held hears service put =
      let all = held_all m seen may_leave is_clean is_usable k mid some same held in
      let step = heard_step m laws seen may_leave is_clean is_usable k mid heard out some more is same are_held held hears in
      let was : IsTrue (is_clean t.journal.disk) → IsTrue (is_clean k.journal.disk) = λ clean. subst (λ (j : Journal D). IsTrue (is_clean j.disk)) same (put.clean clean) in
      record {
        down = put.down;
        cause = ⊎_elim
            (λ (rose : MoreFaults (faults mid.journal.disk) (faults t.journal.disk)). inl (subst (λ (j : Journal D). MoreFaults (faults j.disk) (faults t.journal.disk)) same rose))
            (λ (long : IsTrue (is_clean t.journal.disk) → 2 ^ 64 ≤ length (records (accepted seen mid)) + 1).
            inr (λ clean. subst (λ (ls : List (List ℕ)). 2 ^ 64 ≤ length (records ls) + 1) all (long clean))) put.cause;
        clean = was;
        leaves = λ clean c left. ⊎_elim
            (λ (before : recorded c ≡ recorded (seen mid.journal.disk)). inl record {
              found = before ∙ ap (λ (j : Journal D). recorded (seen j.disk)) same ∙ settled m seen may_leave is_clean is_usable k.service k.held k.journal is none (was clean);
              behind = is.behind (was clean);
            })
            (λ (after : recorded c ≡ accepted seen mid). inr record {
              found = after ∙ all ∙ in_open t.service (accepted seen k ++ some) (ap m.is_begun service ∙ put.opens);
              behind = subst (λ (ls : List (List ℕ)). Stands m ls t.service) all (subst (Stands m (accepted seen mid)) (sym service) (step.behind (put.clean clean)));
            }) (put.crash clean c left);
      }
    where
      in_open : (service : S) (lines : List (List ℕ)) → m.is_begun service ≡ true → lines ≡ in_file m service lines
      in_open service lines begun = sym (ap (λ (b : Bool). if b then lines else []) begun)

  -- so a service stands behind what a crash leaves
  pub lost_up : (k t : Kept S D) (some : List (List ℕ)) → Lost m seen may_leave is_clean faults k t some → IsUp m seen may_leave is_clean is_usable t.failed t.service t.held t.journal
  lost_up k t some lost =
      subst (λ (b : Bool). IsUp m seen may_leave is_clean is_usable b t.service t.held t.journal) (sym lost.down)
      (λ clean c left. ⊎_elim (λ (before : Keeps m c k.service (accepted seen k)). (k.service, accepted seen k, before))
      (λ (after : Keeps m c t.service (accepted seen k ++ some)). (t.service, accepted seen k ++ some, after)) (lost.leaves clean c left))

  -- ---- a whole group

  pub group_heard : (k mid t : Kept S D) (line before after out : List ℕ) (more : Bool) → IsGoodKept m seen may_leave is_clean is_usable k → k.failed ≡ false → mid.journal ≡ k.journal
      → mid.failed ≡ k.failed → AreHeld mid.held → m.good mid.service → HearsAll m k.service mid.service line before after k.held mid.held out more → t.service ≡ mid.service
      → InFile m seen may_leave is_clean is_usable faults mid t
      → GroupHeard m seen may_leave is_clean faults k t line before after out more × IsGoodKept m seen may_leave is_clean is_usable t
  group_heard k mid t line before after out more good up same same_up are_held service_good h service put =
      let step = up_step m seen may_leave is_clean is_usable k.failed k.service k.held k.journal up good.up in
      let all = put_all k mid t (line ∷ map kept h.lines) out h.some more step.0 same same_up are_held h.are_held h.hears service put in (
        record {
          lines = h.lines;
          split = h.split;
          each = h.each;
          some = h.some;
          hears = subst (HearsSome m k.service (line ∷ map kept h.lines) out h.some more) (sym service) h.hears;
          went = all.1;
        },
        record {
          service = subst m.good (sym service) service_good;
          up = subst (λ (b : Bool). IsUp m seen may_leave is_clean is_usable b t.service t.held t.journal) (sym (all.1.up ∙ up)) all.0;
        },
      )

  pub group_lost : (k mid t : Kept S D) (line before after out : List ℕ) (more : Bool) → IsGoodKept m seen may_leave is_clean is_usable k → k.failed ≡ false → mid.journal ≡ k.journal
      → AreHeld mid.held → m.good mid.service → HearsAll m k.service mid.service line before after k.held mid.held out more → t.service ≡ mid.service
      → NotInFile m seen may_leave is_clean is_usable faults mid t
      → GroupLost m seen may_leave is_clean faults k t line before after × IsGoodKept m seen may_leave is_clean is_usable t
  group_lost k mid t line before after out more good up same are_held service_good h service put =
      let step = up_step m seen may_leave is_clean is_usable k.failed k.service k.held k.journal up good.up in
      let lost = put_lost k mid t (line ∷ map kept h.lines) out h.some more step.0 step.1 same are_held h.are_held h.hears service put in (
        record {
          lines = h.lines;
          split = h.split;
          each = h.each;
          out = out;
          some = h.some;
          more = more;
          hears = subst (HearsSome m k.service (line ∷ map kept h.lines) out h.some more) (sym service) h.hears;
          lost = lost;
        },
        record { service = subst m.good (sym service) service_good; up = lost_up k t h.some lost },
      )

  -- the same, by whether the lines were put into the file
  pub all_in_file : (k t : Kept S D) (service : S) (held : Option Group) (line before after out : List ℕ) (heard more put : Bool) → IsGoodKept m seen may_leave is_clean is_usable k → k.failed ≡ false
      → AreHeld held → m.good service → HearsAll m k.service service line before after k.held held out heard → heard ≡ more → t.service ≡ service → put ≡ true
      → PutsHeld m seen may_leave is_clean is_usable faults put record { service = service; held = held; journal = k.journal; failed = k.failed } t
      → GroupHeard m seen may_leave is_clean faults k t line before after out more × IsGoodKept m seen may_leave is_clean is_usable t
  all_in_file k t service held line before after out heard more put good up are_held service_good h same is all puts =
      let mid : Kept S D = record { service = service; held = held; journal = k.journal; failed = k.failed } in
      group_heard k mid t line before after out more good up refl refl are_held service_good
      (subst (λ (b : Bool). HearsAll m k.service service line before after k.held held out b) same h) is (puts_all put mid t all puts)

  pub all_or_none : (k t : Kept S D) (service : S) (held : Option Group) (line before after out : List ℕ) (more put : Bool) → IsGoodKept m seen may_leave is_clean is_usable k → k.failed ≡ false
      → AreHeld held → m.good service → HearsAll m k.service service line before after k.held held out more → t.service ≡ service → put ≡ false
      → PutsHeld m seen may_leave is_clean is_usable faults put record { service = service; held = held; journal = k.journal; failed = k.failed } t
      → GroupLost m seen may_leave is_clean faults k t line before after × IsGoodKept m seen may_leave is_clean is_usable t
  all_or_none k t service held line before after out more put good up are_held service_good h is failed puts =
      let mid : Kept S D = record { service = service; held = held; journal = k.journal; failed = k.failed } in
      group_lost k mid t line before after out more good up refl are_held service_good h is (puts_none put mid t failed puts)
