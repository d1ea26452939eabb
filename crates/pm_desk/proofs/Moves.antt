-- Each step of a desk's table keeps its rule.
use Rattle.std.proofs.Common.{◌≡◌, ◌≢◌, ℕ, eqb, zero, suc, ◌<◌, List, [], ◌∷◌, ◌++◌, length, get_or, set, Some, Bool, true, false, true≢false, refl, eq-eqb, ne_eqb, sym, ap, ◌∙◌, subst, inl, inr, ⊎_elim, arith, length-append, length-set, get_or-set_same}
use mathlib.Core.Option.{some, none, some-ne-none}
use mathlib.Core.Logic.{dite}
use native.Mathlib.Decide.{ℕ_discrete}
use lib.ListN.{get_elem?}
use prog.Atomic.{either}
use lib.Seq.{set-get_or}
use Rattle.atomic_table.specs.Table.{State, step, Act, Valid, keeps, takes, gives, stepped, carried_after, Allows}
use Rattle.atomic_table.proofs.Lists.{at_set, at_snoc, set_again, set_here}
use Rattle.pm_desk.specs.declared.history.Past.{Past}
use Rattle.pm_desk.specs.declared.history.Opening.{Opening}
use Rattle.pm_desk.specs.declared.history.Stored.{Stored}
use Rattle.pm_desk.specs.declared.history.View.{View}
use Rattle.pm_desk.specs.Histories.{state_at, calls_of, StartsWith, Owned}
use Rattle.pm_desk.specs.Turns.{Among, First, Fits, Apart, AtEnd, Kept, Sat, with_turn, without_turn, counting, Seized, tried, released}
use Rattle.pm_desk.proofs.Histories.{calls_of-other, starts_longer, starts_same}

off : false ≡ true → ⊥
off e = true≢false (sym e)

pub at_inside : {A : Type 0} (l : List A) (i : ℕ) (a : A) → get_elem? l i ≡ some a → i < length l
at_inside [] i a e = absurd (some-ne-none a (sym e))
at_inside (x ∷ xs) zero a e = omega arith
at_inside (x ∷ xs) (suc i) a e = let h = at_inside xs i a e in omega arith

module _ {M R Q : Type 0} (next : R → M → Q → M) (good : R → M → Type 0) (own : ℕ → Q → Type 0) (about : Opening M R) where
  abbrev V : Type 0
  V = View M R Q

  abbrev S : Type 0
  S = Stored M Q

  abbrev Rule : State S V → Type 0
  Rule = Kept next good own about

  abbrev turn_of : State S V → ℕ
  turn_of s = get_or s.words 0 0

  -- every live view but one stays, and that one becomes w
  pub each_set : (turn : ℕ) (log : List (Past Q)) (vs : List V) (id : ℕ) (w : V) → ((j : ℕ) (u : V) → j ≢ id → get_elem? vs j ≡ some u → u.desk ≡ Some about → Fits turn log u) → Fits turn log w
      → (j : ℕ) (u : V) → get_elem? (set vs id w) j ≡ some u → u.desk ≡ Some about → Fits turn log u
  each_set turn log vs id w others mine j u e live = ⊎_elim
      (λ (t : (j ≡ id) × (w ≡ u)). subst (Fits turn log) t.1 mine)
      (λ (t : (j ≢ id) × (get_elem? vs j ≡ some u)). others j u t.0 t.1 live)
      (at_set vs id j w u e)

  pub apart_set : (vs : List V) (id : ℕ) (w : V)
      → ((i j : ℕ) (u x : V) → i ≢ j → get_elem? vs i ≡ some u → u.desk ≡ Some about → get_elem? vs j ≡ some x → x.desk ≡ Some about → Apart u x)
      → ((j : ℕ) (u : V) → j ≢ id → get_elem? vs j ≡ some u → u.desk ≡ Some about → Apart w u × Apart u w)
      → (i j : ℕ) (u x : V) → i ≢ j → get_elem? (set vs id w) i ≡ some u → u.desk ≡ Some about → get_elem? (set vs id w) j ≡ some x → x.desk ≡ Some about → Apart u x
  apart_set vs id w old new i j u x ne ei li ej lj = ⊎_elim
      (λ (a : (i ≡ id) × (w ≡ u)). ⊎_elim
      (λ (b : (j ≡ id) × (w ≡ x)). absurd (ne (a.0 ∙ sym b.0)))
      (λ (b : (j ≢ id) × (get_elem? vs j ≡ some x)). subst (λ y. Apart y x) a.1 (new j x b.0 b.1 lj).0)
      (at_set vs id j w x ej))
      (λ (a : (i ≢ id) × (get_elem? vs i ≡ some u)). ⊎_elim
      (λ (b : (j ≡ id) × (w ≡ x)). subst (λ y. Apart u y) b.1 (new i u a.0 a.1 li).1)
      (λ (b : (j ≢ id) × (get_elem? vs j ≡ some x)). old i j u x ne a.1 li b.1 lj)
      (at_set vs id j w x ej))
      (at_set vs id i w u ei)

  -- a view that differs in its turn, its history and what it has seen alone
  abbrev Same : V → V → Type 0
  Same v w = (w.desk ≡ v.desk) × (w.number ≡ v.number) × (w.splits ≡ v.splits) × (w.out ≡ v.out) × (w.joined ≡ v.joined)

  pub apart_left : (v w u : V) → w.number ≡ v.number → w.out ≡ v.out → w.joined ≡ v.joined → (w.turn ≡ true → u.turn ≡ true → ⊥) → Apart v u → Apart w u
  apart_left v w u n o l turns a = record {
    numbers = λ e. a.numbers (sym n ∙ e);
    turns = turns;
    out = λ z. subst (λ ns. Among ns u.number) (sym o) (a.out (sym n ∙ z));
    joined = λ z k x e. a.joined (sym n ∙ z) k x (ap (λ xs. get_elem? xs k) (sym l) ∙ e);
  }

  pub apart_right : (v w u : V) → w.number ≡ v.number → (u.turn ≡ true → w.turn ≡ true → ⊥) → Apart u v → Apart u w
  apart_right v w u n turns a = record {
    numbers = λ e. a.numbers (e ∙ n);
    turns = turns;
    out = λ z. subst (Among u.out) (sym n) (a.out z);
    joined = λ z k x e f. a.joined z k x e (f ∙ n);
  }

  -- one more call, of a seat with the number of v, for another live view
  fits_longer : (turn : ℕ) (log : List (Past Q)) (v u : V) (e : Past Q) → e.seat ≡ v.number → (u.turn ≡ true → ⊥) → Apart u v → Fits turn log u → Fits turn (log ++ e ∷ []) u
  fits_longer turn log v u e by idle a f = record {
    seen = starts_longer log u.seen (e ∷ []) f.seen;
    calls = calls_of-other u.number log e (λ p. a.numbers (sym p ∙ by)) ∙ f.calls;
    had = starts_longer log u.had (e ∷ []) f.had;
    had_calls = calls_of-other u.number log e (λ p. a.numbers (sym p ∙ by)) ∙ f.had_calls;
    turn_is = λ t. absurd (idle t);
    first = λ z. let g = f.first z in record {
      known = λ k y at. ⊎_elim (λ was. g.known k y was) (λ (is : e ≡ y). inr (inl (subst (Among u.out) (sym by ∙ ap (λ (p : Past Q). p.seat) is) (a.out z)))) (at_snoc log e y k at);
      joined = λ k x at. let h = g.joined k x at in (starts_longer log x.seen (e ∷ []) h.0, calls_of-other x.number log e (λ p. a.joined z k x at (sym p ∙ by)) ∙ h.1, h.2, h.3);
      out = g.out;
      total = g.total;
    };
  }

  -- and for the view of that seat
  fits_counted : (turn : ℕ) (log : List (Past Q)) (v : V) (e : Past Q) → e.seat ≡ v.number → v.turn ≡ true → Fits turn log v → Fits turn (log ++ e ∷ []) (counting v (log ++ e ∷ []))
  fits_counted turn log v e by has f = record {
    seen = starts_same (log ++ e ∷ []);
    calls = refl;
    had = starts_same (log ++ e ∷ []);
    had_calls = refl;
    turn_is = λ t. ((f.turn_is has).0, refl);
    first = λ z. let g = f.first z in record {
      known = λ k y at. ⊎_elim (λ was. g.known k y was) (λ (is : e ≡ y). inl (ap (λ (p : Past Q). p.seat) (sym is) ∙ (by ∙ z))) (at_snoc log e y k at);
      joined = λ k x at. let h = g.joined k x at in let some_number : 0 < x.number = h.2 in
          (starts_longer log x.seen (e ∷ []) h.0, calls_of-other x.number log e (λ p. let q : x.number ≡ 0 = sym p ∙ (by ∙ z) in omega arith) ∙ h.1, h.2, h.3);
      out = g.out;
      total = g.total;
    };
  }

  first_same : (log : List (Past Q)) (v : V) (turn : Bool) (seen kept : List (Past Q)) → First log v → First log (record v { turn = turn; seen = seen; kept = kept })
  first_same log v turn seen kept g = record { known = g.known; joined = g.joined; out = g.out; total = g.total }

  -- another turn word, for a view that has not the turn
  fits_idle : (turn turn' : ℕ) (log : List (Past Q)) (u : V) → (u.turn ≡ true → ⊥) → Fits turn log u → Fits turn' log u
  fits_idle turn turn' log u idle f = record { seen = f.seen; calls = f.calls; had = f.had; had_calls = f.had_calls; turn_is = λ t. absurd (idle t); first = f.first }

  live_same : (o : Opening M R) (v : V) → v.desk ≡ Some about → v.desk ≡ Some o → about ≡ o
  live_same o v a b = let c : Some about ≡ Some o = sym a ∙ b in cc

  -- the turn word is found free
  seizes : (s : State S V) → Rule s → (id : ℕ) (m : Sat M R Q) → length s.homes ≡ 1 → get_elem? s.views id ≡ some m.0 → m.0.desk ≡ Some about → turn_of s ≡ 0
      → (w : V) × (a : Act S) × Valid s.homes m.1 a × Rule (stepped s 0 1 id m.1 w a) × Seized next good m (w, carried_after m.1 a)
  seizes s r id m long at live free =
      let h = r.home free in
      let x = h.0 in
      let v = m.0 in
      let w : V = with_turn v x.history.items in
      let wide = r.wide in
      let now : get_or (set s.words 0 1) 0 0 ≡ 1 = get_or-set_same s.words 0 1 0 (omega arith) in
      let idle : (j : ℕ) (u : V) → get_elem? s.views j ≡ some u → u.desk ≡ Some about → u.turn ≡ true → ⊥ = λ j u e l t. let one = ((r.each j u e l).turn_is t).0 in omega arith in
      let f = r.each id v at live in (
        w,
        takes 0 x,
        h.1,
        record {
          log = r.log;
          wide = length-set s.words 0 1 ∙ wide;
          owned = r.owned;
          each = each_set (get_or (set s.words 0 1) 0 0) r.log s.views id w (λ j u _ e l. fits_idle (turn_of s) _ r.log u (idle j u e l) (r.each j u e l))
              record { seen = f.seen; calls = f.calls; had = f.had; had_calls = f.had_calls; turn_is = λ _. (now, h.2.0); first = λ z. first_same r.log v true v.seen x.history.items (f.first z) };
          apart = apart_set s.views id w r.apart
              (λ j u ne e l. (apart_left v w u refl refl refl (λ _. idle j u e l) (r.apart id j v u (λ p. ne (sym p)) at live e l), apart_right v w u refl (λ t _. idle j u e l t) (r.apart j id u v ne e l at live)));
          busy = λ _. (id, w, set_here s.views id w (at_inside s.views id v at), live, refl);
          home = λ z. absurd (omega arith);
        },
        λ o is. (x, refl, refl, let same = live_same o v live is in subst (λ (p : Opening M R). AtEnd next good p x.history.items x) same (refl, h.2.1 ∙ ap (state_at next about.rules about.machine) (sym h.2.0), h.2.2)),
      )

  pub tries : (slots id : ℕ) (m : Sat M R Q) → slots ≡ 1 → m.0.desk ≡ Some about → Allows Rule slots id m 0 (λ n. either (eqb n 0) 1 n) (tried next good (step slots 0 0 1 none) m)
  tries slots id m one live s r long at small = dite (ℕ_discrete (turn_of s) 0)
      (λ free. let t = seizes s r id m (long ∙ one) at live free in
      (t.0, t.1, t.2, subst (λ n. Rule (stepped s 0 n id m.1 t.0 t.1)) (sym (ap (λ b. either b 1 (turn_of s)) (eq-eqb (turn_of s) 0 free))) t.3, ((λ ne. absurd (ne free)), λ _. t.4)))
      (λ ne. (m.0, keeps, tt, unmoved s r id m at ne, ((λ _. refl), λ free. absurd (ne free))))
    where
      unmoved : (s : State S V) → Rule s → (id : ℕ) (m : Sat M R Q) → get_elem? s.views id ≡ some m.0 → turn_of s ≢ 0 → Rule (stepped s 0 (either (eqb (turn_of s) 0) 1 (turn_of s)) id m.1 m.0 keeps)
      unmoved s r id m at ne = subst (λ (t : List ℕ × List V). Rule record { words = t.0; homes = s.homes; views = t.1 })
          (λ i. (sym (ap (λ b. set s.words 0 (either b 1 (turn_of s))) (ne_eqb (turn_of s) 0 ne) ∙ set-get_or s.words 0 0) i, sym (set_again s.views id m.0 at) i)) r

  -- the view of a seat that releases the turn
  fits_released : (turn : ℕ) (log : List (Past Q)) (v : V) → Fits turn log v → Fits 0 log (without_turn v)
  fits_released turn log v f = record { seen = f.seen; calls = f.calls; had = f.had; had_calls = f.had_calls; turn_is = λ e. absurd (off e); first = λ z. first_same log v false v.seen [] (f.first z) }

  -- the turn word becomes free, with the value at home and this history
  frees : (s : State S V) → Rule s → (id : ℕ) (v w : V) (x : S) (log : List (Past Q)) → length s.homes ≡ 1 → get_elem? s.views id ≡ some v → v.desk ≡ Some about → v.turn ≡ true
      → w.number ≡ v.number → w.out ≡ v.out → w.joined ≡ v.joined → w.turn ≡ false → AtEnd next good about log x → Owned own log
      → ((j : ℕ) (u : V) → j ≢ id → get_elem? s.views j ≡ some u → u.desk ≡ Some about → (u.turn ≡ true → ⊥) → Fits 0 log u) → Fits 0 log w
      → Rule (stepped s 0 0 id ((0, x) ∷ []) w gives)
  frees s r id v w x log one at live has n o l done right owned others mine =
      let wide = r.wide in
      let now : get_or (set s.words 0 0) 0 0 ≡ 0 = get_or-set_same s.words 0 0 0 (omega arith) in
      let idle : (j : ℕ) (u : V) → j ≢ id → get_elem? s.views j ≡ some u → u.desk ≡ Some about → u.turn ≡ true → ⊥ = λ j u ne g a has'. (r.apart j id u v ne g a at live).turns has' has in
      record {
        log = log;
        wide = length-set s.words 0 0 ∙ wide;
        owned = owned;
        each = subst (λ turn. (j : ℕ) (u : V) → get_elem? (set s.views id w) j ≡ some u → u.desk ≡ Some about → Fits turn log u) (sym now)
            (each_set 0 log s.views id w (λ j u ne g a. others j u ne g a (idle j u ne g a)) mine);
        apart = apart_set s.views id w r.apart
            (λ j u ne g a. (apart_left v w u n o l (λ e _. off (sym done ∙ e)) (r.apart id j v u (λ p. ne (sym p)) at live g a), apart_right v w u n (λ _ e. off (sym done ∙ e)) (r.apart j id u v ne g a at live)));
        busy = λ ne. absurd (ne now);
        home = λ _. (x, set_here s.homes 0 (some x) (omega arith), right);
      }

  -- one list holds one value
  held_is : (x y : S) → ◌≡◌ {A = List (ℕ × S)} ((0, x) ∷ []) ((0, y) ∷ []) → x ≡ y
  held_is x y e = ap (λ (l : List (ℕ × S)). (get_or l 0 (0, x)).1) e

  one_more : (log : List (Past Q)) (e : Past Q) → log ≡ log ++ e ∷ [] → ⊥
  one_more log e is = let l = ap length is in omega (arith, length-append log (e ∷ []))

  -- the seat that has the turn drops it, with the history as it found it
  pub releases_as_found : (slots id : ℕ) (m : Sat M R Q) (x : S) → slots ≡ 1 → m.0.desk ≡ Some about → m.0.turn ≡ true → m.1 ≡ (0, x) ∷ [] → AtEnd next good about m.0.kept x
      → Allows Rule slots id m 0 (λ _. 0) (λ _. released own (step slots 0 0 0 none) m 0)
  releases_as_found slots id m x one live has holds right = subst (λ (c : List (ℕ × S)). Allows Rule slots id (m.0, c) 0 (λ _. 0) (λ _. released own (step slots 0 0 0 none) (m.0, c) 0)) (sym holds)
      (λ s r long at small.
      let v = m.0 in
      let f = r.each id v at live in
      let is = (f.turn_is has).1 in (
        without_turn v,
        gives,
        tt,
        frees s r id v (without_turn v) x v.kept (long ∙ one) at live has refl refl refl refl right
            (λ k y g. r.owned k y (subst (λ l. get_elem? l k ≡ some y) is g))
            (λ j u ne g l idle. subst (λ log. Fits 0 log u) (sym is) (fits_idle (turn_of s) 0 r.log u idle (r.each j u g l)))
            (subst (λ log. Fits 0 log (without_turn v)) (sym is) (fits_released (turn_of s) r.log v f)),
        record {
          rests = refl;
          as_found = λ _ _ _. refl;
          counted = λ y e held more. absurd (one_more v.kept e (sym right.0 ∙ (ap (λ (z : S). z.history.items) (held_is x y held) ∙ more)));
        },
      ))

  -- and with one more call, of its own
  pub releases_counted : (slots id : ℕ) (m : Sat M R Q) (x : S) (e : Past Q) → slots ≡ 1 → m.0.desk ≡ Some about → m.0.turn ≡ true → m.1 ≡ (0, x) ∷ [] → AtEnd next good about (m.0.kept ++ e ∷ []) x
      → e.seat ≡ m.0.number → own e.seat e.request → Allows Rule slots id m 0 (λ _. 0) (λ _. released own (step slots 0 0 0 none) m 0)
  releases_counted slots id m x e one live has holds right by may = subst (λ (c : List (ℕ × S)). Allows Rule slots id (m.0, c) 0 (λ _. 0) (λ _. released own (step slots 0 0 0 none) (m.0, c) 0)) (sym holds)
      (λ s r long at small.
      let v = m.0 in
      let f = r.each id v at live in
      let is = (f.turn_is has).1 in
      let log = v.kept ++ e ∷ [] in
      let w : V = without_turn (counting v log) in
      let owned : Owned own v.kept = λ k y g. r.owned k y (subst (λ l. get_elem? l k ≡ some y) is g) in (
        w,
        gives,
        tt,
        frees s r id v w x log (long ∙ one) at live has refl refl refl refl right
            (λ k y g. ⊎_elim (λ was. owned k y was) (λ (q : e ≡ y). subst (λ (p : Past Q). own p.seat p.request) q may) (at_snoc v.kept e y k g))
            (λ j u ne g l idle. subst (λ h. Fits 0 (h ++ e ∷ []) u) (sym is) (fits_longer 0 r.log v u e by idle (r.apart j id u v ne g l at live) (fits_idle (turn_of s) 0 r.log u idle (r.each j u g l))))
            (subst (λ h. Fits 0 (h ++ e ∷ []) (without_turn (counting v (h ++ e ∷ [])))) (sym is) (fits_released (turn_of s) (r.log ++ e ∷ []) (counting v (r.log ++ e ∷ [])) (fits_counted (turn_of s) r.log v e by has f))),
        record {
          rests = refl;
          as_found = λ y held same. absurd (one_more v.kept e (sym same ∙ (ap (λ (z : S). z.history.items) (sym (held_is x y held)) ∙ right.0)));
          counted = λ y e' held more. (
            ap (λ l. without_turn (counting v l)) (sym right.0 ∙ (ap (λ (z : S). z.history.items) (held_is x y held) ∙ more)),
            subst (λ l. StartsWith l v.seen) (sym is) f.seen,
            ap (calls_of v.number) is ∙ f.calls,
            owned,
          );
        },
      ))
