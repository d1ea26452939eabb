-- What a call leaves, from what its steps say.
use Rattle.std.specs.Prelude.{Result, Ok, Err, IfOk, IfErr}
use Rattle.std.proofs.Common.{◌≡◌, ℕ, List, [], ◌∷◌, ◌++◌, get_or, Some, true, false, sym, ap, ◌∙◌, subst}
use mathlib.Core.Option.{none}
use Rattle.atomic_table.specs.Table.{step, rest, Allows}
use Rattle.pm_desk.specs.declared.history.Past.{Past}
use Rattle.pm_desk.specs.declared.history.Back.{Back}
use Rattle.pm_desk.specs.declared.history.Opening.{Opening}
use Rattle.pm_desk.specs.declared.history.Stored.{Stored}
use Rattle.pm_desk.specs.declared.history.View.{View}
use Rattle.pm_desk.specs.Histories.{state_at, past}
use Rattle.pm_desk.specs.Turns.{AtEnd, AtRest, Sat, Kept, HoldsEnd, HasTurn, Released, released, Answered, with_turn, without_turn, counting}
use Rattle.pm_desk.proofs.Histories.{state_at-push}
use Rattle.pm_desk.proofs.Moves.{releases_as_found, releases_counted}

module _ {M R Q A : Type 0} (next : R → M → Q → M) (reply : R → M → Q → A) (good : R → M → Type 0) (own : ℕ → Q → Type 0) (about : Opening M R) where
  -- the value after one more call
  pub one_more_call : (x : Stored M Q) (rules : R) (e : Past Q) (machine : M) (log items : List (Past Q)) → AtEnd next good about log x → rules ≡ about.rules
      → items ≡ x.history.items ++ e ∷ [] → machine ≡ next rules x.machine e.request → good rules machine
      → (items ≡ log ++ e ∷ []) × (machine ≡ state_at next about.rules about.machine (log ++ e ∷ [])) × good about.rules machine
  one_more_call x rules e machine log items h is i m right = (
    i ∙ ap (λ l. l ++ e ∷ []) h.0,
    m ∙ (ap (λ r. next r x.machine e.request) is ∙ (ap (λ y. next about.rules y e.request) h.1 ∙ sym (state_at-push next about.rules about.machine log e))),
    subst (λ r. good r machine) is right,
  )

  -- what the seat holds once its request got a reply, and where it found no memory
  abbrev pub Replied : List (Past Q) → ℕ → Q → Sat M R Q → Result A (Back Q) → Type 0
  Replied log n q m r = IfOk r (λ a. (a ≡ reply about.rules (state_at next about.rules about.machine log) q) × HoldsEnd next good about (log ++ past n q ∷ []) m)

  abbrev pub Unanswered : List (Past Q) → Q → Sat M R Q → Result A (Back Q) → Type 0
  Unanswered log q m r = IfErr r (λ b. (b.request ≡ q) × HoldsEnd next good about log m)

  -- the seat may let the turn go
  pub may_release : (slots id : ℕ) (n : ℕ) (q : Q) (m : Sat M R Q) (r : Result A (Back Q)) → slots ≡ 1 → m.0.desk ≡ Some about → m.0.turn ≡ true → n ≡ m.0.number → own n q → Replied m.0.kept n q m r → Unanswered m.0.kept q m r
      → Allows (Kept next good own about) slots id m 0 (λ _. 0) (λ _. released own (step slots 0 0 0 none) m 0)
  may_release slots id n q m (Ok a) one live has by may ok err = releases_counted next good own about slots id m ok.1.0 (past n q) one live has ok.1.1 ok.1.2 by may
  may_release slots id n q m (Err b) one live has by may ok err = releases_as_found next good own about slots id m err.1.0 one live has err.1.1 err.1.2

  -- the view of a seat that took the turn and let it go with one more call
  with_call : (v : View M R Q) (log longer : List (Past Q)) → v.turn ≡ false → v.kept ≡ [] → without_turn (counting (with_turn v log) longer) ≡ record v { seen = longer; had = longer }
  with_call v log longer idle empty = λ i. record v { turn = sym idle i; seen = longer; had = longer; kept = sym empty i }

  left : (u : Sat M R Q) (log : List (Past Q)) (k : ℕ) (q : Q) (c : List (ℕ × Stored M Q)) (r : Result A (Back Q)) (n : Sat M R Q) → AtRest about u → k ≡ u.0.number
      → good about.rules (state_at next about.rules about.machine log) → Replied log k q (with_turn u.0 log, c) r → Released own (with_turn u.0 log, c) n → IfOk r (λ a. Answered next reply good own about u.0 q a n.0)
  left u log k q c (Err b) n at_rest by right ok gone = tt
  left u log k q c (Ok a) n at_rest by right ok gone =
      let e = past k q in
      let v = u.0 in
      let h = ok.1 in
      let t = gone.counted h.0 e h.1 h.2.0 in
      record {
        before = log;
        begins = t.1;
        calls = t.2;
        seen = t.0 ∙ (with_call v log (log ++ e ∷ []) at_rest.2 at_rest.3 ∙ ap (λ j. record v { seen = log ++ past j q ∷ []; had = log ++ past j q ∷ [] }) by);
        owned = t.3;
        right = right;
        right_after = subst (good about.rules) (h.2.1 ∙ state_at-push next about.rules about.machine log e) h.2.2;
        reply_is = ok.0;
      }

  -- u is the seat before the call, t after it took the turn, m after the answer, and n after it let the turn go
  pub leaves : (u t m n : Sat M R Q) (k : ℕ) (q : Q) (r : Result A (Back Q)) → AtRest about u → k ≡ u.0.number → HasTurn next good about u.0 t → m.0 ≡ t.0
      → Replied t.0.kept k q m r → Released own m n → IfOk r (λ a. Answered next reply good own about u.0 q a n.0)
  leaves u t m n k q r at_rest by h same ok gone =
      let log = h.0 in
      let x = h.2 in
      subst (λ (w : View M R Q). Replied log k q (w, m.1) r → Released own (w, m.1) n → IfOk r (λ a. Answered next reply good own about u.0 q a n.0)) (sym (same ∙ h.1))
      (left u log k q m.1 r n at_rest by (subst (good about.rules) x.2.1 x.2.2))
      (subst (λ l. Replied l k q m r) (ap (λ w. w.kept) h.1) ok) gone

  -- and m may let the turn go
  pub may_go : (slots id : ℕ) (u t m : Sat M R Q) (k : ℕ) (q : Q) (r : Result A (Back Q)) → slots ≡ 1 → AtRest about u → k ≡ u.0.number → own k q → HasTurn next good about u.0 t → m.0 ≡ t.0
      → Replied t.0.kept k q m r → Unanswered t.0.kept q m r → Allows (Kept next good own about) slots id m 0 (λ _. 0) (λ _. released own (step slots 0 0 0 none) m 0)
  may_go slots id u t m k q r one at_rest by may h same ok err =
      let view = same ∙ h.1 in
      let kept : t.0.kept ≡ m.0.kept = ap (λ w. w.kept) (sym same) in
      may_release slots id k q m r one (ap (λ w. w.desk) view ∙ at_rest.0) (ap (λ w. w.turn) view) (by ∙ sym (ap (λ w. w.number) view)) may
      (subst (λ l. Replied l k q m r) kept ok) (subst (λ l. Unanswered l q m r) kept err)

  -- what the seat that has the turn holds
  pub holds : (v : View M R Q) (t : Sat M R Q) → HasTurn next good about v t → HoldsEnd next good about t.0.kept t
  holds v t h = subst (λ l. HoldsEnd next good about l t) (sym (ap (λ w. w.kept) h.1)) h.2

  -- the value that the slot lends is the one that the seat holds, and the seat holds no other
  pub lent : (log : List (Past Q)) (m : Sat M R Q) (y : Stored M Q) → HoldsEnd next good about log m → m.1 ≡ (0, y) ∷ rest m.1 → AtEnd next good about log y × (rest m.1 ≡ [])
  lent log m y h is =
      let same : h.0 ≡ y = ap (λ (l : List (ℕ × Stored M Q)). (get_or l 0 (0, h.0)).1) (sym h.1 ∙ is) in
      (subst (AtEnd next good about log) same h.2, ap rest h.1)
