-- What `run` writes for an input in one order of the lines is one text.
use Rattle.std.specs.List.{AllByRecursion as Each}
use Rattle.std.specs.Prelude.{slice_get, Option, Some, None}
use Rattle.std.proofs.Common.{◌≡◌, ℕ, zero, suc, ◌<◌, List, [], ◌∷◌, ◌++◌, length, refl, sym, ap, subst, ◌∙◌, arith}
use Rattle.pm_tokens.specs.Tokens.{Doc}
use Rattle.pm_schema.specs.Built.{IsBuilt}
use Rattle.pm_schemajson.proofs.SameDocuments.{documents-alike}
use Rattle.pm_meaning.specs.Steps.{Step}
use Rattle.pm_ops.specs.declared.op.Op.{Op}
use Rattle.pm_head.specs.Clients.{raw_flags}
use Rattle.pm_session.specs.declared.line.Line.{Line}
use Rattle.pm_session.specs.Sessions.{opened, session, settled}
use Rattle.pm_workers.specs.Threads.{with_some, in_order}
use Rattle.pm_report.specs.declared.outcomes.Numbered.{Numbered}
use Rattle.pm_report.specs.Outcomes.{with_numbers}
use Rattle.pm_report.specs.Report.{report}
use Rattle.pm_same.proofs.SameSteps.{makes-alike}
use Rattle.pm_same.proofs.SameTexts.{report-alike}
use Rattle.pm_script.specs.declared.session.Session.{Session}
use Rattle.pm_script.specs.OneMeaning.{SameSession}
use Rattle.pm_call.specs.Playing.{LineOutcome, playing, room_settled}
use Rattle.pm_call.specs.Running.{reordered, order_line, InFileOrder, IsTold, IsRun}
use Rattle.pm_laws.proofs.SameKins.{by}
use Rattle.pm_laws.proofs.Sortings.{Misses, Differ, Apart, order-differs, one-sorting}

-- ---- the numbers of lines

-- the numbers of these lines rise
abbrev pub NumbersRise : List (Line Op Step) → Type 0
NumbersRise [] = Unit {0}
NumbersRise (l ∷ lines) = Each (λ m. l.number < m.number) lines × NumbersRise lines

at-later : (a : ℕ) (lines : List (Line Op Step)) (j : ℕ) (m : Line Op Step) → Each (λ l. a < l.number) lines → slice_get lines j ≡ Some m → a < m.number
at-later a [] j m e h = absurd (cc)
at-later a (l ∷ lines) zero m e h = let same : l ≡ m = cc in subst (λ x. a < x.number) same e.0
at-later a (l ∷ lines) (suc j) m e h = at-later a lines j m e.1 h

-- so lines at two places have two numbers
one-place : (lines : List (Line Op Step)) (i j : ℕ) (l m : Line Op Step) → NumbersRise lines → slice_get lines i ≡ Some l → slice_get lines j ≡ Some m → l.number ≡ m.number → i ≡ j
one-place [] i j l m r h k e = absurd (cc)
one-place (x ∷ lines) zero zero l m r h k e = refl
one-place (x ∷ lines) zero (suc j) l m r h k e =
    let same : x ≡ l = cc in
    let lt : x.number < m.number = at-later x.number lines j m r.0 k in
    absurd (omega (arith, lt, ap (λ z. z.number) same, e))
one-place (x ∷ lines) (suc i) zero l m r h k e =
    let same : x ≡ m = cc in
    let lt : x.number < l.number = at-later x.number lines i l r.0 h in
    absurd (omega (arith, lt, ap (λ z. z.number) same, e))
one-place (x ∷ lines) (suc i) (suc j) l m r h k e = ap suc (one-place lines i j l m r.1 h k e)

number_of : Numbered → ℕ
number_of o = o.number

-- ---- lines in an order that has each once

module _ (lines : List (Line Op Step)) (rise : NumbersRise lines) where
  none-alike : (i : ℕ) (l : Line Op Step) → slice_get lines i ≡ Some l → (order : List ℕ) → Misses i order → Each (λ (m : Line Op Step). m.number ≡ l.number → ⊥) (in_order lines order)
  none-alike i l at [] h = tt
  none-alike i l at (k ∷ order) h = add (slice_get lines k) refl (none-alike i l at order h.1)
    where
      add : (o : Option (Line Op Step)) → slice_get lines k ≡ o → Each (λ (m : Line Op Step). m.number ≡ l.number → ⊥) (in_order lines order)
          → Each (λ (m : Line Op Step). m.number ≡ l.number → ⊥) (with_some o (in_order lines order))
      add None e others = others
      add (Some m) e others = ((λ same. h.0 (one-place lines k i m l rise e at same)), others)

  order-apart : (order : List ℕ) → Differ order → Apart (λ (l : Line Op Step). l.number) (in_order lines order)
  order-apart [] d = tt
  order-apart (k ∷ order) d = add (slice_get lines k) refl (order-apart order d.1)
    where
      add : (o : Option (Line Op Step)) → slice_get lines k ≡ o → Apart (λ (l : Line Op Step). l.number) (in_order lines order)
          → Apart (λ (l : Line Op Step). l.number) (with_some o (in_order lines order))
      add None e others = others
      add (Some l) e others = (none-alike k l e order d.0, others)

told-others : (n : ℕ) (lines : List (Line Op Step)) (outcomes : List LineOutcome) → Each (λ (m : Line Op Step). m.number ≡ n → ⊥) lines → Each (λ (o : Numbered). o.number ≡ n → ⊥) (with_numbers lines outcomes)
told-others n [] outcomes h = tt
told-others n (l ∷ lines) [] h = tt
told-others n (l ∷ lines) (o ∷ outcomes) h = (h.0, told-others n lines outcomes h.1)

told-apart : (lines : List (Line Op Step)) (outcomes : List LineOutcome) → Apart (λ (l : Line Op Step). l.number) lines → Apart (λ (o : Numbered). o.number) (with_numbers lines outcomes)
told-apart [] outcomes a = tt
told-apart (l ∷ lines) [] a = tt
told-apart (l ∷ lines) (o ∷ outcomes) a = (told-others l.number lines outcomes a.0, told-apart lines outcomes a.1)

-- ---- two sessions that are the same, in one order

module _ (s t : Session) (e : SameSession s t) (bs : IsBuilt s.head.schema) (bt : IsBuilt t.head.schema) where
  playing-alike : playing s ≡ playing t
  playing-alike =
      λ i. session (by (documents-alike s.head.schema.spec t.head.schema.spec e.head.types i)) s.head.schema
      (λ (d : Doc) (o : Op). makes-alike s.head.schema t.head.schema e.head.types bs bt d o i)
      (opened (e.head.doc i) (raw_flags (e.head.clients i))) (e.lines i)

  settled-alike : room_settled s ≡ room_settled t
  settled-alike = λ i. settled (by (documents-alike s.head.schema.spec t.head.schema.spec e.head.types i)) s.head.schema (playing-alike i).1

  told-alike : (apart : Apart (λ (l : Line Op Step). l.number) s.lines) (text other : List ℕ)
      → IsTold s.head.clients s.head.schema s.lines (playing s).0 (playing s).1 text → IsTold t.head.clients t.head.schema t.lines (playing t).0 (playing t).1 other → text ≡ other
  told-alike apart text other x y =
      let by_lines : InFileOrder s.lines (playing t).0 y.told = subst (λ l. InFileOrder l (playing t).0 y.told) (sym e.lines) y.in_order in
      let theirs : InFileOrder s.lines (playing s).0 y.told = subst (λ o. InFileOrder s.lines o y.told) (sym (ap (λ p. p.0) playing-alike)) by_lines in
      let differ : Apart (λ (o : Numbered). o.number) (with_numbers s.lines (playing s).0) = told-apart s.lines (playing s).0 apart in
      let same : x.told ≡ y.told = one-sorting (λ (o : Numbered). o.number) (with_numbers s.lines (playing s).0) x.told y.told differ x.in_order.all x.in_order.increasing theirs.all theirs.increasing in
      let reports : report s.head.schema.spec s.head.clients x.told (playing s).1 (room_settled s) ≡ report t.head.schema.spec t.head.clients y.told (playing t).1 (room_settled t) =
      (λ i. report s.head.schema.spec (e.head.clients i) (same i) (playing-alike i).1 (settled-alike i))
      ∙ report-alike s.head.schema.spec t.head.schema.spec e.head.types t.head.clients y.told (playing t).1 (room_settled t) in
      x.written ∙ ((λ i. order_line (e.lines i) ++ reports i) ∙ sym y.written)

-- the texts of two sessions that are the same, in one order
pub same-run : (s t : Session) → SameSession s t → IsBuilt s.head.schema → IsBuilt t.head.schema → NumbersRise s.lines → (text other : List ℕ) (x : IsRun s text) (y : IsRun t other) → x.order ≡ y.order → text ≡ other
same-run s t e bs bt rise text other x y o =
    let apart = order-apart s.lines rise x.order (order-differs (length s.head.clients) s.lines x.order x.once) in
    told-alike (reordered s x.order) (reordered t y.order) (record { head = e.head; lines = λ i. in_order (e.lines i) (o i) }) bs bt apart text other x.told y.told
