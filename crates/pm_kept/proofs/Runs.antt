-- What a run over a file leaves.
use Rattle.std.proofs.Common.{◌≡◌, ◌≢◌, ◌⊎◌, inl, inr, ⊎_elim, ℕ, Bool, true, false, List, [], ◌∷◌, ◌++◌, ◌+◌, ◌^◌, ◌≤◌, length, map, take, drop, IsTrue, refl, sym, ◌∙◌, ap, subst, arith, append_assoc}
use Rattle.std.specs.Prelude.{Option, ◌||◌, ◌==◌}
use Rattle.std.proofs.lemmas.List.{append-nil, map-append, length-append, take-append-drop}
use Rattle.std.specs.Io.KnownBytes.{Consumes}
use Rattle.std.proofs.KnownBytes.{Consumes-trans}
use Rattle.pm_io.specs.Moves.{Adds}
use Rattle.pm_io.proofs.Chains.{Adds-chain}
use Rattle.pm_serve.specs.declared.unread.TheConstants.{KEPT}
use Rattle.pm_serve.specs.declared.serving.Served.{Served}
use Rattle.pm_serve.specs.declared.serving.Served.TheVariants.{End, Closed, ReadFault, WriteFault, Spent}
use Rattle.pm_serve.specs.declared.serving.Next.{Next}
use Rattle.pm_serve.specs.declared.serving.Next.TheVariants.{More, Over}
use Rattle.pm_serve.specs.Bytes.{has_lf}
use Rattle.pm_serve.specs.Lines.{with_lf, AreLines}
use Rattle.pm_serve.specs.Reads.{LineCame, EndCame, PartCame, LongCame, IsLong, most}
use Rattle.pm_serve.specs.Serves.{FrontWritten, SaysLast, kept}
use Rattle.pm_serve.proofs.Joins.{lines-append, split-append}
use Rattle.pm_serve.proofs.Steps.{none-taken, none-added, front-behind}
use Rattle.sqlite_disk.specs.Disk.{MoreFaults}
use Rattle.pm_journal.specs.Lines.{IsLine, records}
use Rattle.pm_kept.specs.declared.kept.Kept.{Kept}
use Rattle.pm_kept.specs.Means.{Meaning}
use Rattle.pm_kept.specs.Behind.{Keeps}
use Rattle.pm_kept.specs.Kept.{accepted, Leaves, Went, Lost}
use Rattle.pm_kept.specs.Runs.{Hears, HearsSome, CameWhole, last_line, CameSome, ToSay, IsKept, IsLost, Quiet, OverBy, SoFar, GroupServed, KeptRun, GroupLost, AnswersAll, SaysFault}
use Rattle.pm_kept.proofs.Heard.{hears_append, all_heard}

-- ---- what came is lines

not_over : true ≡ false → ⊥
not_over e = absurd (cc)

neither : (a b : Bool) → (a || b) ≡ false → (a ≡ false) × (b ≡ false)
neither true b h = absurd (not_over h)
neither false b h = (refl, h)

no_byte : (b : ℕ) (rest : Bool) → ((b == 10) || rest) ≡ false → (b ≢ 10) × (rest ≡ false)
no_byte b rest h =
    let both = neither (b == 10) rest h in
    (λ (is : b ≡ 10). not_over (sym (ap (λ (n : ℕ). n == 10) is) ∙ both.0), both.1)

all_lines : (bytes : List ℕ) → has_lf bytes ≡ false → IsLine bytes
all_lines [] h = tt
all_lines (b ∷ bytes) h =
    let both = no_byte b (has_lf bytes) h in
    (both.0, all_lines bytes both.1)

front_line : (front rest : List ℕ) → IsLine (front ++ rest) → IsLine front
front_line [] rest is = tt
front_line (b ∷ front) rest is = (is.0, front_line front rest is.1)

pub kept_line : (line bytes : List ℕ) → line ≡ take KEPT bytes → has_lf bytes ≡ false → IsLine line
kept_line line bytes is h =
    subst IsLine (sym is) (front_line (take KEPT bytes) (drop KEPT bytes) (subst IsLine (sym (take-append-drop KEPT bytes)) (all_lines bytes h)))

-- ---- how lines come

pub came_group : (left rest : Option (List ℕ)) (before there after line : List ℕ) (lines : List (List ℕ)) (came : LineCame left rest before there line) → there ≡ with_lf lines ++ after → AreLines lines
    → CameWhole left rest before after (came.whole ∷ lines)
came_group left rest before there after line lines came split each =
    record {
      taken = came.taken;
      took = came.took;
      split = came.split ∙ ap (λ (r : List ℕ). came.whole ++ 10 ∷ r) split ∙ sym (append_assoc came.whole (10 ∷ with_lf lines) after);
      each = (came.one, each);
    }

-- no line waits at the end of input
none_waiting : (lines : List (List ℕ)) (after : List ℕ) → [] ≡ with_lf lines ++ after → (lines ≡ []) × (after ≡ [])
none_waiting [] after e = (refl, sym e)
none_waiting (line ∷ lines) after e =
    absurd (omega (arith, ap length e, length-append (line ++ 10 ∷ with_lf lines) after, length-append line (10 ∷ with_lf lines)))

last_is : (line : List ℕ) → line ≢ [] → last_line line ≡ line ∷ []
last_is [] some = absurd (some refl)
last_is (b ∷ line) some = refl

at_end : (left rest : Option (List ℕ)) (before there after line : List ℕ) → EndCame left rest before there line → after ≡ [] → EndCame left rest before after line
at_end left rest before there after line came none =
    record { taken = came.taken; whole = came.whole; took = came.took; split = came.split; one = came.one; kept = came.kept; over = came.over; none_left = none }

came_last : (left rest : Option (List ℕ)) (before there after line : List ℕ) (lines : List (List ℕ)) → EndCame left rest before there line → line ≢ [] → there ≡ with_lf lines ++ after
    → EndCame left rest before after line × (line ∷ map kept lines ≡ last_line line)
came_last left rest before there after line lines came some split =
    let none = none_waiting lines after (sym came.none_left ∙ split) in
    (at_end left rest before there after line came none.1, ap (λ (ls : List (List ℕ)). line ∷ map kept ls) none.0 ∙ sym (last_is line some))

module _ {S D : Type 0} (m : Meaning S) (seen : D → List ℕ) (may_leave : D → List ℕ → Type 0) (is_clean : D → Bool) (faults : D → ℕ) where
  -- ---- what is in the file

  pub stayed : (k : Kept S D) → Leaves m may_leave is_clean k.journal.disk k.service (accepted seen k) → Went m seen may_leave is_clean faults k k []
  stayed k leaves = record { up = refl; no_fault = refl; clean = λ c. c; lines = λ c. sym (append-nil (accepted seen k)); leaves = leaves }

  went_on : (k t u : Kept S D) (a b : List (List ℕ)) → Went m seen may_leave is_clean faults k t a → Went m seen may_leave is_clean faults t u b → Went m seen may_leave is_clean faults k u (a ++ b)
  went_on k t u a b first next =
      record {
        up = next.up ∙ first.up;
        no_fault = next.no_fault ∙ first.no_fault;
        clean = λ c. first.clean (next.clean c);
        lines = λ c. next.lines c ∙ ap (λ (ls : List (List ℕ)). ls ++ b) (first.lines (next.clean c)) ∙ append_assoc (accepted seen k) a b;
        leaves = next.leaves;
      }

  went_kept : (k t : Kept S D) (some : List (List ℕ)) → Went m seen may_leave is_clean faults k t some → IsKept m may_leave is_clean faults (accepted seen k ++ some) k t
  went_kept k t some went =
      record {
        leaves = λ clean c left. subst (Keeps m c t.service) (went.lines clean) (went.leaves clean c left);
        clean = went.clean;
        up = went.up;
        no_fault = went.no_fault;
      }

  lost_kept : (k t : Kept S D) (some : List (List ℕ)) → Lost m seen may_leave is_clean faults k t some → IsLost m may_leave is_clean faults k.service (accepted seen k) some k t
  lost_kept k t some lost = record { leaves = lost.leaves; clean = lost.clean; down = lost.down; cause = lost.cause }

  -- ---- what one group does

  abbrev IsOver : Served → Kept S D → Kept S D → Option (List ℕ) → Option (List ℕ) → List ℕ → List ℕ → Option (List ℕ) → Option (List ℕ) → Type 0
  IsOver served k t left rest before after old new = OverBy m may_leave is_clean faults 0 served k.service (accepted seen k) k t left rest before after old new

  shut : (k t : Kept S D) (left rest : Option (List ℕ)) (before after out : List ℕ) (heard some : List (List ℕ)) (old new : Option (List ℕ)) → CameSome left rest before after heard
      → HearsSome m k.service heard out some false t.service → Went m seen may_leave is_clean faults k t some → Adds old new out → IsOver Closed k t left rest before after old new
  shut k t left rest before after out heard some old new came hears went added =
      inr (inr (inl record { is = refl; heard = heard; came = came; out = out; some = some; hears = hears; added = added; is_kept = went_kept k t some went }))

  broken : (k t : Kept S D) (left rest : Option (List ℕ)) (before after text : List ℕ) (some : List (List ℕ)) (old new : Option (List ℕ)) → ToSay m k.service t.service left rest before after some text
      → Went m seen may_leave is_clean faults k t some → FrontWritten text old new → IsOver WriteFault k t left rest before after old new
  broken k t left rest before after text some old new to_say went front =
      inr (inr (inr (inl record { is = refl; text = text; some = some; to_say = to_say; front = front; is_kept = went_kept k t some went })))

  failed : (served : Served) (k t : Kept S D) (left rest : Option (List ℕ)) (before after out : List ℕ) (heard some : List (List ℕ)) (more : Bool) (old new : Option (List ℕ))
      → CameSome left rest before after heard → HearsSome m k.service heard out some more t.service → Lost m seen may_leave is_clean faults k t some
      → SaysFault served old new → IsOver served k t left rest before after old new
  failed served k t left rest before after out heard some more old new came hears lost says =
      inr (inr (inr (inr record { heard = heard; came = came; out = out; some = some; more = more; hears = hears; says = says; is_lost = lost_kept k t some lost })))

  -- a group of lines, and then it is over
  pub group_over : (served : Served) (k t : Kept S D) (left rest : Option (List ℕ)) (before first there after : List ℕ) (old new : Option (List ℕ))
      → AnswersAll m seen may_leave is_clean faults (Over served) k t first there after old new
      → ((lines : List (List ℕ)) → there ≡ with_lf lines ++ after → AreLines lines → CameSome left rest before after (first ∷ map kept lines))
      → IsOver served k t left rest before after old new
  group_over End k t left rest before first there after old new all came = absurd all
  group_over Closed k t left rest before first there after old new (inl h) came =
      shut k t left rest before after h.0 (first ∷ map kept h.1.lines) h.1.some old new (came h.1.lines h.1.split h.1.each) h.1.hears h.1.went h.2
  group_over Closed k t left rest before first there after old new (inr h) came =
      failed Closed k t left rest before after h.0.out (first ∷ map kept h.0.lines) h.0.some h.0.more old new (came h.0.lines h.0.split h.0.each) h.0.hears h.0.lost h.1
  group_over ReadFault k t left rest before first there after old new all came = absurd all
  group_over WriteFault k t left rest before first there after old new (inl h) came =
      broken k t left rest before after h.0 h.2.some old new (inl (first ∷ map kept h.2.lines, h.1, came h.2.lines h.2.split h.2.each, h.2.hears)) h.2.went h.3
  group_over WriteFault k t left rest before first there after old new (inr h) came =
      failed WriteFault k t left rest before after h.0.out (first ∷ map kept h.0.lines) h.0.some h.0.more old new (came h.0.lines h.0.split h.0.each) h.0.hears h.0.lost h.1
  group_over Spent k t left rest before first there after old new all came = absurd all

  abbrev HeardSo : Kept S D → Kept S D → List ℕ → List ℕ → List ℕ → Option (List ℕ) → Option (List ℕ) → Type 0
  HeardSo k t first there after old new = AnswersAll m seen may_leave is_clean faults More k t first there after old new

  pub line_over : (served : Served) (k t : Kept S D) (left rest : Option (List ℕ)) (before line there after : List ℕ) (old new : Option (List ℕ)) → LineCame left rest before there line
      → AnswersAll m seen may_leave is_clean faults (Over served) k t line there after old new → IsOver served k t left rest before after old new
  line_over served k t left rest before line there after old new came all =
      group_over served k t left rest before line there after old new all
      (λ lines split each. inl (came.whole ∷ lines, came_group left rest before there after line lines came split each, ap (λ (l : List ℕ). l ∷ map kept lines) came.kept))

  pub last_over : (served : Served) (k t : Kept S D) (left rest : Option (List ℕ)) (before line there after : List ℕ) (old new : Option (List ℕ)) → EndCame left rest before there line → line ≢ []
      → AnswersAll m seen may_leave is_clean faults (Over served) k t line there after old new → IsOver served k t left rest before after old new
  last_over served k t left rest before line there after old new came some all =
      group_over served k t left rest before line there after old new all
      (λ lines split each. let last = came_last left rest before there after line lines came some split in inr (line, last.0, last.1))

  pub line_more : (k t : Kept S D) (left rest : Option (List ℕ)) (before line there after : List ℕ) (old new : Option (List ℕ)) → LineCame left rest before there line → HeardSo k t line there after old new
      → GroupServed m seen may_leave is_clean faults More k t left rest before after old new
  line_more k t left rest before line there after old new came all =
      let h = all.1 in
      let lines = came.whole ∷ h.lines in (
        record {
          lines = lines;
          came = came_group left rest before there after line h.lines came h.split h.each;
          out = all.0;
          some = h.some;
          hears = all_heard m k.service (map kept lines) all.0 h.some t.service (subst (λ (l : List ℕ). HearsSome m k.service (l ∷ map kept h.lines) all.0 h.some true t.service) came.kept h.hears);
          added = all.2;
          went = h.went;
        },
        λ (none : lines ≡ []). absurd (omega (arith, ap length none)),
      )

  -- the bytes after the last LF, and what is said at the end
  pub last_said : (served : Served) (k t : Kept S D) (left rest : Option (List ℕ)) (before line there after : List ℕ) (old mean new : Option (List ℕ)) → EndCame left rest before there line → line ≢ []
      → HeardSo k t line there after old mean → SaysLast (m.last t.service) served mean new → IsOver served k t left rest before after old new
  last_said End k t left rest before line there after old mean new came some all says =
      let h = all.1 in
      let last = came_last left rest before there after line h.lines came some h.split in
      inr (inl record {
        is = refl;
        line = line;
        came = last.0;
        out = all.0;
        some = h.some;
        hears = subst (λ (ls : List (List ℕ)). Hears m k.service ls all.0 h.some t.service) last.1 (all_heard m k.service (line ∷ map kept h.lines) all.0 h.some t.service h.hears);
        added = Adds-chain old mean new all.0 (m.last t.service) all.2 says;
        is_kept = went_kept k t h.some h.went;
      })
  last_said Closed k t left rest before line there after old mean new came some all says = absurd says
  last_said ReadFault k t left rest before line there after old mean new came some all says = absurd says
  last_said WriteFault k t left rest before line there after old mean new came some all says =
      let h = all.1 in
      let last = came_last left rest before there after line h.lines came some h.split in
      let hears = subst (λ (ls : List (List ℕ)). Hears m k.service ls all.0 h.some t.service) last.1 (all_heard m k.service (line ∷ map kept h.lines) all.0 h.some t.service h.hears) in
      broken k t left rest before after (all.0 ++ m.last t.service) h.some old new (inr (line, all.0, last.0, hears, refl)) h.went
      (front-behind old mean new all.0 (m.last t.service) all.2 says)
  last_said Spent k t left rest before line there after old mean new came some all says = absurd says

  -- the end of input, where there are no such bytes
  pub end_said : (served : Served) (k : Kept S D) (left rest : Option (List ℕ)) (before line after : List ℕ) (old new : Option (List ℕ)) → EndCame left rest before after line → line ≡ []
      → Leaves m may_leave is_clean k.journal.disk k.service (accepted seen k) → SaysLast (m.last k.service) served old new → IsOver served k k left rest before after old new
  end_said End k left rest before line after old new came none leaves says =
      inr (inl record {
        is = refl;
        line = line;
        came = came;
        out = [];
        some = [];
        hears = subst (λ (l : List ℕ). Hears m k.service (last_line l) [] [] k.service) (sym none) (refl, refl, refl);
        added = says;
        is_kept = went_kept k k [] (stayed k leaves);
      })
  end_said Closed k left rest before line after old new came none leaves says = absurd says
  end_said ReadFault k left rest before line after old new came none leaves says = absurd says
  end_said WriteFault k left rest before line after old new came none leaves says =
      let hears : Hears m k.service (last_line line) [] [] k.service = subst (λ (l : List ℕ). Hears m k.service (last_line l) [] [] k.service) (sym none) (refl, refl, refl) in
      broken k k left rest before after (m.last k.service) [] old new (inr (line, [], came, hears, refl)) (stayed k leaves) says
  end_said Spent k left rest before line after old new came none leaves says = absurd says

  quiet : (served : Served) (count : ℕ) (k : Kept S D) (left rest : Option (List ℕ)) (before after taken : List ℕ) (old : Option (List ℕ))
      → (served ≡ ReadFault) ⊎ ((served ≡ Spent) × ((most ≤ count) ⊎ IsLong before taken after)) → Leaves m may_leave is_clean k.journal.disk k.service (accepted seen k)
      → Consumes left rest taken → Quiet m may_leave is_clean faults count served k.service (accepted seen k) k k left rest before after old old
  quiet served count k left rest before after taken old cause leaves took =
      record {
        taken = taken;
        took = took;
        same = refl;
        none = none-added old;
        cause = cause;
        is_kept = record { leaves = leaves; clean = λ c. c; up = refl; no_fault = refl };
      }

  pub read_failed : (k : Kept S D) (left rest : Option (List ℕ)) (before after : List ℕ) (old : Option (List ℕ)) → PartCame left rest before
      → Leaves m may_leave is_clean k.journal.disk k.service (accepted seen k) → IsOver ReadFault k k left rest before after old old
  read_failed k left rest before after old part leaves = inl (quiet ReadFault 0 k left rest before after part.taken old (inl refl) leaves part.took)

  pub read_long : (k : Kept S D) (left rest : Option (List ℕ)) (before after : List ℕ) (old : Option (List ℕ)) → LongCame left rest before after
      → Leaves m may_leave is_clean k.journal.disk k.service (accepted seen k) → IsOver Spent k k left rest before after old old
  read_long k left rest before after old long leaves = inl (quiet Spent 0 k left rest before after long.taken old (inr (refl, inr long.is_long)) leaves long.took)

  -- ---- one group after another

  pub at_first : (k : Kept S D) (left : Option (List ℕ)) (before : List ℕ) (old : Option (List ℕ)) → Leaves m may_leave is_clean k.journal.disk k.service (accepted seen k)
      → SoFar m seen may_leave is_clean faults k k left left before before old old
  at_first k left before old leaves =
      record {
        lines = [];
        came = record { taken = []; took = none-taken left; split = append-nil before; each = tt };
        out = [];
        some = [];
        hears = (refl, refl, refl);
        added = none-added old;
        went = stayed k leaves;
      }

  pub joined : (k t u : Kept S D) (left then rest : Option (List ℕ)) (before now after : List ℕ) (old mean new : Option (List ℕ))
      → SoFar m seen may_leave is_clean faults k t left then before now old mean → SoFar m seen may_leave is_clean faults t u then rest now after mean new
      → SoFar m seen may_leave is_clean faults k u left rest before after old new
  joined k t u left then rest before now after old mean new f g =
      record {
        lines = f.lines ++ g.lines;
        came = record {
          taken = f.came.taken ++ g.came.taken;
          took = Consumes-trans left then rest f.came.taken g.came.taken f.came.took g.came.took;
          split = split-append before f.came.taken g.came.taken now after f.lines g.lines f.came.split g.came.split;
          each = lines-append f.lines g.lines f.came.each g.came.each;
        };
        out = f.out ++ g.out;
        some = f.some ++ g.some;
        hears = subst (λ (ls : List (List ℕ)). Hears m k.service ls (f.out ++ g.out) (f.some ++ g.some) u.service) (sym (map-append kept f.lines g.lines))
            (hears_append m (map kept f.lines) (map kept g.lines) k.service f.out f.some t.service g.out g.some u.service f.hears g.hears);
        added = Adds-chain old mean new f.out g.out f.added g.added;
        went = went_on k t u f.some g.some f.went g.went;
      }

  some_length : (lines : List (List ℕ)) → lines ≢ [] → 1 ≤ length lines
  some_length [] some = absurd (some refl)
  some_length (line ∷ lines) some = omega arith

  pub joined_count : (k t u : Kept S D) (left then rest : Option (List ℕ)) (before now after : List ℕ) (old mean new : Option (List ℕ))
      (f : SoFar m seen may_leave is_clean faults k t left then before now old mean) (g : SoFar m seen may_leave is_clean faults t u then rest now after mean new) → g.lines ≢ []
      → length f.lines + 1 ≤ length (joined k t u left then rest before now after old mean new f g).lines
  unfolding joined
  joined_count k t u left then rest before now after old mean new f g some = omega (arith, length-append f.lines g.lines, some_length g.lines some)

  -- ---- how it was over, after other groups

  kept_since : (k t end : Kept S D) (some new : List (List ℕ)) → Went m seen may_leave is_clean faults k t some → IsKept m may_leave is_clean faults (accepted seen t ++ new) t end
      → IsKept m may_leave is_clean faults ((accepted seen k ++ some) ++ new) k end
  kept_since k t end some new went is =
      record {
        leaves = λ clean c left. subst (λ (ls : List (List ℕ)). Keeps m c end.service (ls ++ new)) (went.lines (is.clean clean)) (is.leaves clean c left);
        clean = λ clean. went.clean (is.clean clean);
        up = is.up ∙ went.up;
        no_fault = is.no_fault ∙ went.no_fault;
      }

  quiet_since : (k t end : Kept S D) (some : List (List ℕ)) → Went m seen may_leave is_clean faults k t some → IsKept m may_leave is_clean faults (accepted seen t) t end
      → IsKept m may_leave is_clean faults (accepted seen k ++ some) k end
  quiet_since k t end some went is =
      record {
        leaves = λ clean c left. subst (λ (ls : List (List ℕ)). Keeps m c end.service ls) (went.lines (is.clean clean)) (is.leaves clean c left);
        clean = λ clean. went.clean (is.clean clean);
        up = is.up ∙ went.up;
        no_fault = is.no_fault ∙ went.no_fault;
      }

  lost_since : (k t end : Kept S D) (some new : List (List ℕ)) → Went m seen may_leave is_clean faults k t some → IsLost m may_leave is_clean faults t.service (accepted seen t) new t end
      → IsLost m may_leave is_clean faults t.service (accepted seen k ++ some) new k end
  lost_since k t end some new went is =
      record {
        leaves = λ clean c left. subst (λ (ls : List (List ℕ)). Keeps m c t.service ls ⊎ Keeps m c end.service (ls ++ new)) (went.lines (is.clean clean)) (is.leaves clean c left);
        clean = λ clean. went.clean (is.clean clean);
        down = is.down;
        cause = ⊎_elim (λ (rose : MoreFaults (faults t.journal.disk) (faults end.journal.disk)). inl (subst (λ (n : ℕ). MoreFaults n (faults end.journal.disk)) went.no_fault rose))
            (λ (long : IsTrue (is_clean end.journal.disk) → 2 ^ 64 ≤ length (records (accepted seen t ++ new)) + 1).
            inr (λ clean. subst (λ (ls : List (List ℕ)). 2 ^ 64 ≤ length (records (ls ++ new)) + 1) (went.lines (is.clean clean)) (long clean))) is.cause;
      }

  over_since : (served : Served) (k t end : Kept S D) (count : ℕ) (some : List (List ℕ)) (left rest : Option (List ℕ)) (before after : List ℕ) (old new : Option (List ℕ))
      → Went m seen may_leave is_clean faults k t some → IsOver served t end left rest before after old new
      → OverBy m may_leave is_clean faults count served t.service (accepted seen k ++ some) k end left rest before after old new
  over_since served k t end count some left rest before after old new went (inl o) =
      inl record {
        taken = o.taken;
        took = o.took;
        same = o.same;
        none = o.none;
        cause = ⊎_elim (λ (failed : served ≡ ReadFault). inl failed)
            (λ (spent : (served ≡ Spent) × ((most ≤ 0) ⊎ IsLong before o.taken after)).
            inr (spent.0, ⊎_elim (λ (many : most ≤ 0). inl (omega (arith, many))) (λ (long : IsLong before o.taken after). inr long) spent.1)) o.cause;
        is_kept = quiet_since k t end some went o.is_kept;
      }
  over_since served k t end count some left rest before after old new went (inr (inl o)) =
      inr (inl record { is = o.is; line = o.line; came = o.came; out = o.out; some = o.some; hears = o.hears; added = o.added; is_kept = kept_since k t end some o.some went o.is_kept })
  over_since served k t end count some left rest before after old new went (inr (inr (inl o))) =
      inr (inr (inl record { is = o.is; heard = o.heard; came = o.came; out = o.out; some = o.some; hears = o.hears; added = o.added; is_kept = kept_since k t end some o.some went o.is_kept }))
  over_since served k t end count some left rest before after old new went (inr (inr (inr (inl o)))) =
      inr (inr (inr (inl record { is = o.is; text = o.text; some = o.some; to_say = o.to_say; front = o.front; is_kept = kept_since k t end some o.some went o.is_kept })))
  over_since served k t end count some left rest before after old new went (inr (inr (inr (inr o)))) =
      inr (inr (inr (inr record { heard = o.heard; came = o.came; out = o.out; some = o.some; more = o.more; hears = o.hears; says = o.says; is_lost = lost_since k t end some o.some went o.is_lost })))

  pub over_behind : (served : Served) (k t end : Kept S D) (left then rest : Option (List ℕ)) (before now after : List ℕ) (old mean new : Option (List ℕ))
      → SoFar m seen may_leave is_clean faults k t left then before now old mean → GroupServed m seen may_leave is_clean faults (Over served) t end then rest now after mean new
      → KeptRun m seen may_leave is_clean faults served k end left rest before after old new
  over_behind served k t end left then rest before now after old mean new f o =
      record {
        mid = t.service;
        left_then = then;
        there_then = now;
        written_then = mean;
        lines = f.lines;
        came = f.came;
        out = f.out;
        some = f.some;
        hears = f.hears;
        added = f.added;
        over = over_since served k t end (length f.lines) f.some then rest now after mean new f.went o;
      }

  -- so many lines were answered
  pub stopped : (k t : Kept S D) (left rest : Option (List ℕ)) (before after : List ℕ) (old new : Option (List ℕ)) (f : SoFar m seen may_leave is_clean faults k t left rest before after old new)
      → most ≤ length f.lines → KeptRun m seen may_leave is_clean faults Spent k t left rest before after old new
  stopped k t left rest before after old new f many =
      record {
        mid = t.service;
        left_then = rest;
        there_then = after;
        written_then = new;
        lines = f.lines;
        came = f.came;
        out = f.out;
        some = f.some;
        hears = f.hears;
        added = f.added;
        over = inl record {
          taken = [];
          took = none-taken rest;
          same = refl;
          none = none-added new;
          cause = inr (refl, inl many);
          is_kept = record {
            leaves = λ clean c left. subst (Keeps m c t.service) (f.went.lines clean) (f.went.leaves clean c left);
            clean = f.went.clean;
            up = f.went.up;
            no_fault = f.went.no_fault;
          };
        };
      }

  -- ---- what is written for a group

  pub fault_said : (served : Served) (k t : Kept S D) (line before after : List ℕ) (old new : Option (List ℕ)) → GroupLost m seen may_leave is_clean faults k t line before after
      → SaysFault served old new → AnswersAll m seen may_leave is_clean faults (Over served) k t line before after old new
  fault_said End k t line before after old new lost says = absurd says
  fault_said Closed k t line before after old new lost says = inr (lost, says)
  fault_said ReadFault k t line before after old new lost says = absurd says
  fault_said WriteFault k t line before after old new lost says = inr (lost, says)
  fault_said Spent k t line before after old new lost says = absurd says

  pub line_served : (next : Next) (k t : Kept S D) (left rest : Option (List ℕ)) (before line there after : List ℕ) (old new : Option (List ℕ)) → LineCame left rest before there line
      → AnswersAll m seen may_leave is_clean faults next k t line there after old new → GroupServed m seen may_leave is_clean faults next k t left rest before after old new
  line_served More k t left rest before line there after old new came all = line_more k t left rest before line there after old new came all
  line_served (Over served) k t left rest before line there after old new came all = line_over served k t left rest before line there after old new came all
