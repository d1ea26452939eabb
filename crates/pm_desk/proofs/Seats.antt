-- Seats that are split from the first one and joined to it, and the end.
use Rattle.std.proofs.Common.{◌≡◌, ◌≢◌, ◌⊎◌, ℕ, eqb, ltb, zero, suc, ◌+◌, ◌<◌, ◌≤◌, List, [], ◌∷◌, ◌++◌, length, get_or, set, cond, Some, None, Bool, true, false, refl, eq-eqb, ne_eqb, sym, ap, ◌∙◌, subst, inl, inr, ⊎_elim, arith, length-append, ltb-true, ltb-false}
use mathlib.Core.Option.{some, some-ne-none, some-injective}
use mathlib.Core.Logic.{dite}
use native.Mathlib.Decide.{ℕ_discrete}
use lib.ListN.{get_elem?}
use Rattle.atomic_table.specs.Table.{State, Splits, Joins, Final, Seen, opening}
use Rattle.atomic_table.proofs.Lists.{at_set, at_last, at_longer, set_here, set_else}
use Rattle.pm_desk.specs.declared.history.Past.{Past}
use Rattle.pm_desk.specs.declared.history.Joined.{Joined}
use Rattle.pm_desk.specs.declared.history.Opening.{Opening}
use Rattle.pm_desk.specs.declared.history.Stored.{Stored}
use Rattle.pm_desk.specs.declared.history.View.{View}
use Rattle.pm_desk.specs.Histories.{calls_of, StartsWith}
use Rattle.pm_desk.specs.Turns.{Among, without, longer, newcomer, spent, First, Fits, Apart, AtEnd, Kept, with_split, split_off, joined_of, with_joined, Ending}
use Rattle.pm_desk.proofs.Histories.{calls_of-none, calls_between, starts_same}
use Rattle.pm_desk.proofs.Moves.{at_inside, each_set, apart_set, apart_right}

module _ {A : Type 0} where
  -- one more at the end, with its place
  pub at_end : (l : List A) (a b : A) (j : ℕ) → get_elem? (l ++ a ∷ []) j ≡ some b → (get_elem? l j ≡ some b) ⊎ ((j ≡ length l) × (a ≡ b))
  at_end [] a b zero e = inr (refl, some-injective a b e)
  at_end [] a b (suc j) e = absurd (some-ne-none b (sym e))
  at_end (x ∷ xs) a b zero e = inl e
  at_end (x ∷ xs) a b (suc j) e = ⊎_elim (λ t. inl t) (λ t. inr (ap suc t.0, t.1)) (at_end xs a b j e)

among_more : (ns : List ℕ) (m n : ℕ) → Among ns n → Among (ns ++ m ∷ []) n
among_more ns m n a = (a.0, at_longer ns (m ∷ []) a.0 n a.1)

among_last : (ns : List ℕ) (n : ℕ) → Among (ns ++ n ∷ []) n
among_last ns n = (length ns, at_last ns n (length ns) refl)

-- one that is not taken out stays
among_without : (m : ℕ) (ns : List ℕ) (n : ℕ) → m ≢ n → Among ns n → Among (without m ns) n
among_without m [] n ne a = a
among_without m (x ∷ xs) n ne (zero, e) = let x_is : x ≡ n = some-injective x n e in
    let off : eqb x m ≡ false = ne_eqb x m (λ p. ne (sym p ∙ x_is)) in
    (zero, ap (λ b. get_elem? (cond b xs (x ∷ without m xs)) zero) off ∙ e)
among_without m (x ∷ xs) n ne (suc k, e) = dite (ℕ_discrete x m)
    (λ is. (k, ap (λ b. get_elem? (cond b xs (x ∷ without m xs)) k) (eq-eqb x m is) ∙ e))
    (λ other. let r = among_without m xs n ne (k, e) in (suc r.0, ap (λ b. get_elem? (cond b xs (x ∷ without m xs)) (suc r.0)) (ne_eqb x m other) ∙ r.1))

among_with : (m : ℕ) (ns : List ℕ) (n : ℕ) → Among (without m ns) n → Among ns n
among_with m [] n a = a
among_with m (x ∷ xs) n a = dite (ℕ_discrete x m)
    (λ is. let b = subst (λ b. Among (cond b xs (x ∷ without m xs)) n) (eq-eqb x m is) a in (suc b.0, b.1))
    (λ other. tail (λ k e. among_with m xs n (k, e)) (subst (λ b. Among (cond b xs (x ∷ without m xs)) n) (ne_eqb x m other) a))
  where
    tail : ((k : ℕ) → get_elem? (without m xs) k ≡ some n → Among xs n) → Among (x ∷ without m xs) n → Among (x ∷ xs) n
    tail rec (zero, e) = (zero, e)
    tail rec (suc k, e) = let r = rec k e in (suc r.0, r.1)

length-without : (m : ℕ) (ns : List ℕ) → Among ns m → length (without m ns) + 1 ≡ length ns
length-without m [] (k, e) = absurd (some-ne-none m (sym e))
length-without m (x ∷ xs) (zero, e) = let on : eqb x m ≡ true = eq-eqb x m (some-injective x m e) in rw on (omega arith)
length-without m (x ∷ xs) (suc k, e) = dite (ℕ_discrete x m)
    (λ is. rw (eq-eqb x m is) (omega arith))
    (λ other. rw (ne_eqb x m other) (let r = length-without m xs (k, e) in omega arith))

module _ {M R Q : Type 0} (next : R → M → Q → M) (good : R → M → Type 0) (own : ℕ → Q → Type 0) (about : Opening M R) where
  abbrev V : Type 0
  V = View M R Q

  abbrev S : Type 0
  S = Stored M Q

  abbrev Rule : State S V → Type 0
  Rule = Kept next good own about

  -- the table at the start
  pub begins : (x : Stored M Q) → x.history.items ≡ [] → x.machine ≡ about.machine → good about.rules x.machine → Rule (opening (0 ∷ []) (x ∷ []) (newcomer about 0 []))
  begins x none same right = record {
    log = [];
    wide = refl;
    owned = λ k e at. absurd (some-ne-none e (sym at));
    each = one;
    apart = two;
    busy = λ ne. absurd (ne refl);
    home = λ _. (x, refl, (none, same, right));
  }
    where
      first_view : V
      first_view = newcomer about 0 []

      one : (j : ℕ) (v : V) → get_elem? (newcomer about 0 [] ∷ []) j ≡ some v → v.desk ≡ Some about → Fits 0 [] v
      one zero v e live = subst (Fits 0 []) (some-injective _ v e) record {
        seen = starts_same [];
        calls = refl;
        had = starts_same [];
        had_calls = refl;
        turn_is = λ t. absurd (cc);
        first = λ _. record { known = λ k e at. absurd (some-ne-none e (sym at)); joined = λ k x at. absurd (some-ne-none x (sym at)); out = λ n a. absurd (some-ne-none n (sym a.1)); total = refl };
      }
      one (suc j) v e live = absurd (some-ne-none v (sym e))

      two : (i j : ℕ) (v w : V) → i ≢ j → get_elem? (newcomer about 0 [] ∷ []) i ≡ some v → v.desk ≡ Some about → get_elem? (newcomer about 0 [] ∷ []) j ≡ some w → w.desk ≡ Some about → Apart v w
      two zero zero v w ne a la b lb = absurd (ne refl)
      two (suc i) j v w ne a la b lb = absurd (some-ne-none v (sym a))
      two zero (suc j) v w ne a la b lb = absurd (some-ne-none w (sym b))

  -- a new seat
  pub splits : (id : ℕ) (v : V) → v.desk ≡ Some about → v.number ≡ 0 → Splits Rule id v (with_split v) (split_off v)
  splits id v live first s r at =
      let f = r.each id v at live in
      let g = f.first first in
      let turn = get_or s.words 0 0 in
      let n = v.splits + 1 in
      let w : V = with_split v in
      let new : V = split_off v in
      let vs = set s.views id w in
      let low : (k : ℕ) (e : Past Q) → get_elem? r.log k ≡ some e → e.seat ≢ n = λ k e there is. ⊎_elim (λ z. absurd (omega arith)) (λ t. ⊎_elim (λ a. let b = (g.out e.seat a).1 in absurd (omega arith)) (λ j. let b = (g.joined j.0 j.1 j.2).3 in let c = j.3 in absurd (omega arith)) t) (g.known k e there) in
      let none = calls_of-none n r.log low in
      let none_seen = calls_of-none n v.seen (λ k e there. low k e (subst (λ l. get_elem? l k ≡ some e) (sym f.seen.1) (at_longer v.seen f.seen.0 k e there))) in
      let fits_new : Fits turn r.log new = record { seen = f.seen; calls = none ∙ sym none_seen; had = f.seen; had_calls = none ∙ sym none_seen; turn_is = λ t. absurd (cc); first = λ z. absurd (omega arith) } in
      let fits_first : Fits turn r.log w = record {
        seen = f.seen;
        calls = f.calls;
        had = f.had;
        had_calls = f.had_calls;
        turn_is = f.turn_is;
        first = λ z. record {
          known = λ k e there. ⊎_elim (λ z. inl z) (λ t. inr (⊎_elim (λ a. inl (among_more v.out n e.seat a)) (λ j. inr j) t)) (g.known k e there);
          joined = λ k x there. let h = g.joined k x there in let le = h.3 in (h.0, h.1, h.2, omega arith);
          out = out_more v g;
          total = let t = g.total in omega (arith, length-append v.out (n ∷ []));
        };
      } in
      let others : (j : ℕ) (u : V) → j ≢ id → get_elem? s.views j ≡ some u → u.desk ≡ Some about → Apart w u × Apart u w = λ j u ne there l.
      let a = r.apart id j v u (λ p. ne (sym p)) at live there l in
      (record { numbers = a.numbers; turns = a.turns; out = λ z. among_more v.out n u.number (a.out z); joined = a.joined }, apart_right next good own about v w u refl (r.apart j id u v ne there l at live).turns (r.apart j id u v ne there l at live)) in
      let each' = each_set next good own about turn r.log s.views id w (λ j u ne there l. r.each j u there l) fits_first in
      let apart' = apart_set next good own about s.views id w r.apart others in
      let beside : (i : ℕ) (u : V) → get_elem? vs i ≡ some u → u.desk ≡ Some about → Apart u new × Apart new u = λ i u there l. ⊎_elim
      (λ (t : (i ≡ id) × (w ≡ u)). subst (λ y. Apart y new × Apart new y) t.1 (beside_first v live first g, beside_first' v live first))
      (λ (t : (i ≢ id) × (get_elem? s.views i ≡ some u)). beside_other v u g first (r.apart id i v u (λ p. t.0 (sym p)) at live t.1 l))
      (at_set s.views id i w u there) in
      record {
        log = r.log;
        wide = r.wide;
        owned = r.owned;
        each = λ j u there l. ⊎_elim (λ was. each' j u was l) (λ t. subst (Fits turn r.log) t.1 fits_new) (at_end vs new u j there);
        apart = λ i j u x ne a la b lb. ⊎_elim
            (λ ai. ⊎_elim (λ bj. apart' i j u x ne ai la bj lb) (λ bj. subst (λ y. Apart u y) bj.1 (beside i u ai la).0) (at_end vs new x j b))
            (λ ai. ⊎_elim (λ bj. subst (λ y. Apart y x) ai.1 (beside j x bj lb).1) (λ bj. absurd (ne (ai.0 ∙ sym bj.0))) (at_end vs new x j b))
            (at_end vs new u i a);
        busy = λ ne. let b = r.busy ne in dite (ℕ_discrete b.0 id)
            (λ is. let same : v ≡ b.1 = some-injective v b.1 (sym at ∙ (ap (get_elem? s.views) (sym is) ∙ b.2)) in
            (id, w, at_longer vs (new ∷ []) id w (set_here s.views id w (at_inside s.views id v at)), live, ap (λ (y : V). y.turn) same ∙ b.4))
            (λ other. (b.0, b.1, at_longer vs (new ∷ []) b.0 b.1 (set_else s.views id b.0 w other ∙ b.2), b.3, b.4));
        home = r.home;
      }
    where
      out_more : (v : V) {log : List (Past Q)} → First log v → (m : ℕ) → Among (v.out ++ (v.splits + 1) ∷ []) m → (0 < m) × (m ≤ v.splits + 1)
      out_more v g m a = ⊎_elim (λ was. let h = g.out m (a.0, was) in let up = h.0 in let le = h.1 in (up, omega arith)) (λ t. let is = t.1 in (omega arith, omega arith)) (at_end v.out (v.splits + 1) m a.0 a.1)

      beside_first : (v : V) {log : List (Past Q)} → v.desk ≡ Some about → v.number ≡ 0 → First log v → Apart (with_split v) (split_off v)
      beside_first v live first g = record { numbers = λ e. omega arith; turns = λ _ t. absurd (cc); out = λ _. among_last v.out (v.splits + 1); joined = λ _ k x there is. let h = (g.joined k x there).3 in omega arith }

      beside_first' : (v : V) → v.desk ≡ Some about → v.number ≡ 0 → Apart (split_off v) (with_split v)
      beside_first' v live first = record { numbers = λ e. omega arith; turns = λ t _. absurd (cc); out = λ z. absurd (omega arith); joined = λ z. absurd (omega arith) }

      beside_other : (v u : V) {log : List (Past Q)} → First log v → v.number ≡ 0 → Apart v u → Apart u (split_off v) × Apart (split_off v) u
      beside_other v u g first a = let le = (g.out u.number (a.out first)).1 in let up = (g.out u.number (a.out first)).0 in (
        record { numbers = λ e. omega arith; turns = λ _ t. absurd (cc); out = λ z. absurd (omega arith); joined = λ z. absurd (omega arith) },
        record { numbers = λ e. omega arith; turns = λ t _. absurd (cc); out = λ z. absurd (omega arith); joined = λ z. absurd (omega arith) },
      )

  pub longer_cases : (P : List (Past Q) → Type 0) (xs ys : List (Past Q)) → (length ys ≤ length xs → P xs) → (length xs ≤ length ys → P ys) → P (longer xs ys)
  longer_cases P xs ys a b = cases (ltb (length xs) (length ys)) (λ e. let ge = ltb-false (length xs) (length ys) e in a (omega arith)) (λ e. let lt = ltb-true (length xs) (length ys) e in b (omega arith))
    where
      cases : (c : Bool) → (c ≡ false → P xs) → (c ≡ true → P ys) → P (cond c ys xs)
      cases true a b = b refl
      cases false a b = a refl

  -- a seat takes in another
  pub joins : (id : ℕ) (v : V) (other : ℕ) (w : V) → v.desk ≡ Some about → v.number ≡ 0 → w.desk ≡ Some about → w.turn ≡ false → Joins Rule id v other w (with_joined v w) spent
  joins id v other w live first alive idle s r at two there =
      let f = r.each id v at live in
      let g = f.first first in
      let turn = get_or s.words 0 0 in
      let u : V = with_joined v w in
      let vs = set s.views id u in
      let w_at : get_elem? s.views other ≡ some w = sym (set_else s.views id other u two) ∙ there in
      let fw = r.each other w w_at alive in
      let a = r.apart id other v w (λ p. two (sym p)) at live w_at alive in
      let mine = a.out first in
      let fits : Fits turn r.log u = record {
        seen = longer_cases (StartsWith r.log) v.seen w.seen (λ _. f.seen) (λ _. fw.seen);
        calls = longer_cases (λ l. calls_of v.number r.log ≡ calls_of v.number l) v.seen w.seen (λ _. f.calls) (λ le. calls_between v.number r.log v.seen w.seen f.seen fw.seen le f.calls);
        had = f.seen;
        had_calls = f.calls;
        turn_is = f.turn_is;
        first = λ z. record {
          known = λ k e e_at. ⊎_elim (λ z. inl z) (λ t. inr (⊎_elim (known_out v w e.seat) (λ j. inr (j.0, j.1, at_longer v.joined (joined_of w ∷ []) j.0 j.1 j.2, j.3)) t)) (g.known k e e_at);
          joined = λ k x x_at. ⊎_elim (λ was. g.joined k x was) (λ t. subst (JoinedIn r.log v.splits) t.1 (fw.seen, fw.calls, (g.out w.number mine).0, (g.out w.number mine).1)) (at_end v.joined (joined_of w) x k x_at);
          out = λ n b. g.out n (among_with w.number v.out n b);
          total = let t = g.total in let d = length-without w.number v.out mine in omega (arith, length-append v.joined (joined_of w ∷ []));
        };
      } in
      let each' = each_set next good own about turn r.log s.views id u (λ j x ne e l. r.each j x e l) fits in
      let others : (j : ℕ) (x : V) → j ≢ id → j ≢ other → get_elem? s.views j ≡ some x → x.desk ≡ Some about → Apart u x × Apart x u = λ j x ne no_other e l.
      let b = r.apart id j v x (λ p. ne (sym p)) at live e l in
      let c = r.apart other j w x (λ p. no_other (sym p)) w_at alive e l in (
        record {
          numbers = b.numbers;
          turns = b.turns;
          out = λ z. among_without w.number v.out x.number c.numbers (b.out z);
          joined = λ z k y y_at. ⊎_elim (λ was. b.joined z k y was) (λ t is. c.numbers (ap (λ (q : Joined Q). q.number) t.1 ∙ is)) (at_end v.joined (joined_of w) y k y_at);
        },
        apart_right next good own about v u x refl (r.apart j id x v ne e l at live).turns (r.apart j id x v ne e l at live),
      ) in
      record {
        log = r.log;
        wide = r.wide;
        owned = r.owned;
        each = λ j x e l. ⊎_elim (λ (t : (j ≡ other) × (spent ≡ x)). absurd (not_live x t.1 l)) (λ (t : (j ≢ other) × (get_elem? vs j ≡ some x)). each' j x t.1 l) (at_set vs other j spent x e);
        apart = λ i j x y ne xa xl ya yl. ⊎_elim
            (λ (t : (i ≡ other) × (spent ≡ x)). absurd (not_live x t.1 xl))
            (λ (t : (i ≢ other) × (get_elem? vs i ≡ some x)). ⊎_elim
            (λ (q : (j ≡ other) × (spent ≡ y)). absurd (not_live y q.1 yl))
            (λ (q : (j ≢ other) × (get_elem? vs j ≡ some y)). ⊎_elim
            (λ (c : (i ≡ id) × (u ≡ x)). ⊎_elim
            (λ (d : (j ≡ id) × (u ≡ y)). absurd (ne (c.0 ∙ sym d.0)))
            (λ (d : (j ≢ id) × (get_elem? s.views j ≡ some y)). subst (λ p. Apart p y) c.1 (others j y d.0 q.0 d.1 yl).0)
            (at_set s.views id j u y q.1))
            (λ (c : (i ≢ id) × (get_elem? s.views i ≡ some x)). ⊎_elim
            (λ (d : (j ≡ id) × (u ≡ y)). subst (λ p. Apart x p) d.1 (others i x c.0 t.0 c.1 xl).1)
            (λ (d : (j ≢ id) × (get_elem? s.views j ≡ some y)). r.apart i j x y ne c.1 xl d.1 yl)
            (at_set s.views id j u y q.1))
            (at_set s.views id i u x t.1))
            (at_set vs other j spent y ya))
            (at_set vs other i spent x xa);
        busy = λ ne. let b = r.busy ne in dite (ℕ_discrete b.0 other)
            (λ is. let same : w ≡ b.1 = some-injective w b.1 (sym w_at ∙ (ap (get_elem? s.views) (sym is) ∙ b.2)) in absurd (let t : w.turn ≡ true = ap (λ (y : V). y.turn) same ∙ b.4 in let e : true ≡ false = sym t ∙ idle in cc))
            (λ not_it. dite (ℕ_discrete b.0 id)
            (λ is. let same : v ≡ b.1 = some-injective v b.1 (sym at ∙ (ap (get_elem? s.views) (sym is) ∙ b.2)) in
            (id, u, set_else vs other id spent (λ p. two (sym p)) ∙ set_here s.views id u (at_inside s.views id v at), live, ap (λ (y : V). y.turn) same ∙ b.4))
            (λ ne'. (b.0, b.1, set_else vs other b.0 spent not_it ∙ (set_else s.views id b.0 u ne' ∙ b.2), b.3, b.4)));
        home = r.home;
      }
    where
      JoinedIn : List (Past Q) → ℕ → Joined Q → Type 0
      JoinedIn log n x = StartsWith log x.seen × (calls_of x.number log ≡ calls_of x.number x.seen) × (0 < x.number) × (x.number ≤ n)

      not_live : (x : V) → spent ≡ x → x.desk ≡ Some about → ⊥
      not_live x is l = let e : None ≡ Some about = ap (λ (y : V). y.desk) is ∙ l in cc

      known_out : (v w : V) (n : ℕ) → Among v.out n → Among (without w.number v.out) n ⊎ ((k : ℕ) × (x : Joined Q) × (get_elem? (v.joined ++ joined_of w ∷ []) k ≡ some x) × (x.number ≡ n))
      known_out v w n a = dite (ℕ_discrete w.number n)
          (λ is. inr (length v.joined, joined_of w, at_last v.joined (joined_of w) (length v.joined) refl, is))
          (λ ne. inl (among_without w.number v.out n ne a))

  among_none : (ns : List ℕ) (n : ℕ) → length ns ≡ 0 → Among ns n → ⊥
  among_none [] n e a = some-ne-none n (sym a.1)
  among_none (x ∷ xs) n e a = omega arith

  -- the end
  pub ends : (id : ℕ) (v : V) (ws : List ℕ) (xs : List S) → Final (Seen Rule id v) ws xs → v.desk ≡ Some about → v.number ≡ 0 → v.turn ≡ false → length v.joined ≡ v.splits
      → (x : Stored M Q) × (get_elem? xs 0 ≡ some x) × AtEnd next good about x.history.items x × Ending own v x.history.items
  ends id v ws xs final live first idle all =
      let s = final.0 in
      let r = final.1.0 in
      let at = final.1.1 in
      let f = r.each id v at live in
      let g = f.first first in
      let t = g.total in
      let none : length v.out ≡ 0 = omega arith in
      let free : get_or s.words 0 0 ≡ 0 = dite (ℕ_discrete (get_or s.words 0 0) 0) (λ e. e) (λ ne. absurd (busy_none s r id v at live first idle none (r.busy ne))) in
      let h = r.home free in
      let x = h.0 in (
        x,
        final.4 0 x h.1,
        subst (λ l. AtEnd next good about l x) (sym h.2.0) h.2,
        subst (Ending own v) (sym h.2.0) record {
          begins = f.seen;
          calls = subst (λ n. calls_of n r.log ≡ calls_of n v.seen) first f.calls;
          joined = λ k y e. let j = g.joined k y e in (j.0, j.1);
          seats = λ k e e_at. ⊎_elim (λ z. inl z) (λ q. ⊎_elim (λ a. absurd (among_none v.out e.seat none a)) (λ j. inr j) q) (g.known k e e_at);
          owned = r.owned;
        },
      )
    where
      busy_none : (s : State S V) (r : Rule s) (id : ℕ) (v : V) → get_elem? s.views id ≡ some v → v.desk ≡ Some about → v.number ≡ 0 → v.turn ≡ false → length v.out ≡ 0
          → (j : ℕ) × (u : V) × (get_elem? s.views j ≡ some u) × (u.desk ≡ Some about) × (u.turn ≡ true) → ⊥
      busy_none s r id v at live first idle none b = dite (ℕ_discrete b.0 id)
          (λ is. let same : v ≡ b.1 = some-injective v b.1 (sym at ∙ (ap (get_elem? s.views) (sym is) ∙ b.2)) in let t : v.turn ≡ true = ap (λ (y : V). y.turn) same ∙ b.4 in let e : true ≡ false = sym t ∙ idle in cc)
          (λ ne. among_none v.out b.1.number none ((r.apart id b.0 v b.1 (λ p. ne (sym p)) at live b.2 b.3).out first))

  pub begins_at : (items : List S) (x : Stored M Q) → items ≡ x ∷ [] → x.history.items ≡ [] → x.machine ≡ about.machine → good about.rules x.machine → Rule (opening (0 ∷ []) items (newcomer about 0 []))
  begins_at items x is none same right = subst (λ (l : List S). Rule (opening (0 ∷ []) l (newcomer about 0 []))) (sym is) (begins x none same right)

  -- what is found in the slot
  pub closes : (id : ℕ) (v : V) (ws : List ℕ) (xs : List S) (out : S) → Final (Seen Rule id v) ws xs → v.desk ≡ Some about → v.number ≡ 0 → v.turn ≡ false → length v.joined ≡ v.splits → get_elem? xs 0 ≡ some out
      → AtEnd next good about out.history.items out × Ending own v out.history.items
  closes id v ws xs out final live first idle all found =
      let e = ends id v ws xs final live first idle all in
      subst (λ (x : S). AtEnd next good about x.history.items x × Ending own v x.history.items) (some-injective e.0 out (sym e.1 ∙ found)) (e.2, e.3)
