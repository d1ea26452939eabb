-- Stretches of maps that move nothing: a map, what moves nothing, and then the map back as the first one's mirror.
use Rattle.std.specs.Prelude.{◌≡◌, ℕ, suc, ◌+◌, ◌-◌, Bool, true, false, ◌||◌, List, [], ◌∷◌, ◌++◌, length, Option, Some, None, refl}
use Rattle.std.proofs.Common.{arith, ap, sym, subst, ◌∙◌}
use Rattle.pm_map.specs.declared.step_map.Span.{Span}
use Rattle.pm_map.specs.declared.step_map.Moved.{Moved}
use Rattle.pm_map.specs.declared.step_map.Recover.{Recover}
use Rattle.pm_map.specs.declared.mapping.Mirrored.{Mirrored}
use Rattle.pm_map.specs.Moves.{moved_from, kept_at, inverted_ranges}
use Rattle.pm_map.specs.Through.{through_from, stepped, skipped, joined, at_pos, partner, result_start, ArePaired}
use Rattle.pm_map.specs.Mirrors.{entry, enclosed, pushed}
use Rattle.pm_map.specs.Stills.{MovesNothing, AreApart}
use Rattle.pm_map.proofs.Growths.{last-partner}
use Rattle.pm_map.proofs.Backs.{GoesBack, IsBack, goes-back}
use Rattle.pm_map.proofs.Joins.{through-append, through-joined, through-none, goes-on, one-behind, one-in-front}

-- it stays where it is, without a flag but `after` by `Before`
pub record Stays (x : Moved) (p : ℕ) (before : Bool) : Type 0 where
  pub pos : x.pos ≡ p
  pub deleted : x.deleted ≡ false
  pub across : x.across ≡ false
  pub after : before ≡ false → x.after ≡ false
  pub none : x.recover ≡ None

all-kept : (x : Moved) (p : ℕ) → Stays x p false → x ≡ kept_at p
all-kept x p s =
    ap (λ (o : Option Recover). record { pos = x.pos; deleted = x.deleted; across = x.across; after = x.after; recover = o }) s.none
    ∙ ap (λ (t : Bool). record { pos = x.pos; deleted = x.deleted; across = x.across; after = t; recover = None }) (s.after refl)
    ∙ ap (λ (t : Bool). record { pos = x.pos; deleted = x.deleted; across = t; after = false; recover = None }) s.across
    ∙ ap (λ (t : Bool). record { pos = x.pos; deleted = t; across = false; after = false; recover = None }) s.deleted
    ∙ ap kept_at s.pos

abbrev AllStay : List Mirrored → Type 0
AllStay ms = (p : ℕ) (b : Bool) → Stays (through_from ms 0 b (kept_at p)) p b

moves-nothing : (ms : List Mirrored) → AllStay ms → MovesNothing ms
moves-nothing ms h = record {
  ahead = λ p. all-kept _ p (h p false);
  back = λ p. (h p true).pos;
  back_deleted = λ p. (h p true).deleted;
  back_across = λ p. (h p true).across;
}

all-stay : (ms : List Mirrored) → MovesNothing ms → AllStay ms
all-stay ms h p true = record {
  pos = h.back p;
  deleted = h.back_deleted p;
  across = h.back_across p;
  after = λ e. absurd (cc);
  none = through-none ms 0 true (kept_at p) refl;
}
all-stay ms h p false = rw (h.ahead p) (record { pos = refl; deleted = refl; across = refl; after = λ e. refl; none = refl })

either : (t u : Bool) → t ≡ false → u ≡ false → (t || u) ≡ false
either t u h k = rw (h, k) refl

stays-joined : (x y : Moved) (p : ℕ) (b : Bool) → Stays x p b → Stays y x.pos b → Stays (joined x y) p b
stays-joined x y p b h k = record {
  pos = k.pos ∙ h.pos;
  deleted = either x.deleted y.deleted h.deleted k.deleted;
  across = either x.across y.across h.across k.across;
  after = λ e. either x.after y.after (h.after e) (k.after e);
  none = refl;
}

stays-shifted : (p : ℕ) (b : Bool) → Stays (kept_at ((p + 0) - 0)) p b
stays-shifted p b = record { pos = omega arith; deleted = refl; across = refl; after = λ e. refl; none = refl }

-- one after another
pub both : (ms ns : List Mirrored) → ArePaired ms → MovesNothing ms → MovesNothing ns → MovesNothing (ms ++ ns)
both ms ns paired h k = moves-nothing (ms ++ ns) (λ p b. rw (goes-on ms ns b p paired)
    (stays-joined (through_from ms 0 b (kept_at p)) _ p b (all-stay ms h p b) (all-stay ns k (through_from ms 0 b (kept_at p)).pos b)))

-- a jump passes all that stands between
jump-over : (ms : List Mirrored) (e : Mirrored) (b : Bool) (so : Moved) → through_from (ms ++ e ∷ []) (suc (length ms)) b so ≡ so
jump-over [] e b so = refl
jump-over (d ∷ ms) e b so = jump-over ms e b so

-- It was not deleted: it goes over what stands between from its new place, and then back.
comes-back : (ms : List Mirrored) (inv : List Span) (p : ℕ) (b : Bool) (m : Moved) → ArePaired ms → MovesNothing ms
    → IsBack m (moved_from inv 0 0 0 m.pos b) p b → Stays (through_from (pushed ms inv) 0 b (joined (kept_at p) m)) p b
comes-back ms inv p b m paired h i =
    let so = joined (kept_at p) m in
    let x = through_from ms 0 b (kept_at m.pos) in
    let s : Stays x m.pos b = all-stay ms h m.pos b in
    let k : IsBack m (moved_from inv 0 0 0 x.pos b) p b = subst (λ q. IsBack m (moved_from inv 0 0 0 q b) p b) (sym s.pos) i in
    rw (through-append ms (entry inv None ∷ []) 0 b so paired (omega arith), through-joined ms 0 b so refl) (record {
      pos = k.pos;
      deleted = either (m.deleted || x.deleted) _ (either m.deleted x.deleted k.deleted s.deleted) k.back_deleted;
      across = either (m.across || x.across) _ (either m.across x.across k.across s.across) k.back_across;
      after = λ e. either (m.after || x.after) _ (either m.after x.after (k.after e) (s.after e)) (k.back_after e);
      none = refl;
    })

by_found : (ms : List Mirrored) (inv : List Span) (p : ℕ) (b : Bool) (m : Moved) (found : Option Recover) → m.recover ≡ found → ArePaired ms → MovesNothing ms
    → (m.recover ≡ None → IsBack m (moved_from inv 0 0 0 m.pos b) p b)
    → ((r : Recover) → m.recover ≡ Some r → result_start inv r.range + r.offset ≡ p)
    → Stays (through_from (pushed ms inv) (skipped (Some (length ms)) found) b (stepped (kept_at p) m (Some (length ms)) found (pushed ms inv))) p b
by_found ms inv p b m None e paired h back jump = comes-back ms inv p b m paired h (back e)
by_found ms inv p b m (Some r) e paired h back jump =
    let q = result_start (partner (pushed ms inv) (length ms)) r.range + r.offset in
    let at : q ≡ p = ap (λ rs. result_start rs r.range + r.offset) (last-partner ms (entry inv None)) ∙ jump r e in
    rw (jump-over ms (entry inv None) b (at_pos (kept_at p) q)) (record { pos = at; deleted = refl; across = refl; after = λ k. refl; none = refl })

jumps-to : (rs : List Span) (p : ℕ) (b : Bool) (m : Moved) → GoesBack rs 0 0 0 0 p b m → (r : Recover) → m.recover ≡ Some r
    → result_start (inverted_ranges rs) r.range + r.offset ≡ p
jumps-to rs p b m g r e =
    let j = rw e at g.jumps in
    let z : r.range - 0 ≡ r.range = omega arith in
    rw z at j.1

pub around : (ms : List Mirrored) (rs : List Span) → ArePaired ms → MovesNothing ms → AreApart rs 0 → MovesNothing (enclosed ms rs (inverted_ranges rs))
around ms [] paired h a = moves-nothing (enclosed ms [] []) (λ p b.
    let q = (p + 0) - 0 in
    let x = through_from ms 0 b (kept_at q) in
    let y = kept_at ((x.pos + 0) - 0) in
    let behind : Stays (through_from (pushed ms []) 0 b (kept_at q)) q b =
    rw (one-behind ms [] b q paired) (stays-joined x y q b (all-stay ms h q b) (stays-shifted x.pos b)) in
    rw (one-in-front (pushed ms []) [] b p) (stays-joined (kept_at q) (through_from (pushed ms []) 0 b (kept_at q)) p b (stays-shifted p b) behind))
around ms (r ∷ rs) paired h a = moves-nothing (enclosed ms (r ∷ rs) (inverted_ranges (r ∷ rs))) (λ p b.
    let g = goes-back (r ∷ rs) 0 0 0 0 p b a (omega arith) (omega arith) in
    let m = moved_from (r ∷ rs) 0 0 0 p b in
    by_found ms (inverted_ranges (r ∷ rs)) p b m m.recover refl paired h g.goes (jumps-to (r ∷ rs) p b m g))

pub nothing : MovesNothing []
nothing = record { ahead = λ p. refl; back = λ p. refl; back_deleted = λ p. refl; back_across = λ p. refl }
