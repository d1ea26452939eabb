-- A seat reads the table. It then knows how the seats that it took in stand in the one history, and which numbers have
-- no call.
use Rattle.std.proofs.Common.{◌≡◌, ℕ, ◌+◌, ◌≤◌, List, [], length, Some, refl, sym, ◌∙◌, subst, ⊎_elim, arith}
use mathlib.Core.Option.{none, some}
use lib.ListN.{get_elem?}
use lib.Seq.{set-get_or}
use Rattle.atomic_table.specs.Table.{step, keeps, Allows}
use Rattle.atomic_table.proofs.Lists.{at_last, at_longer, set_again}
use Rattle.pm_desk.specs.declared.history.Past.{Past}
use Rattle.pm_desk.specs.declared.history.Opening.{Opening}
use Rattle.pm_desk.specs.declared.history.View.{View}
use Rattle.pm_desk.specs.Histories.{calls_of, StartsWith, Gathers}
use Rattle.pm_desk.specs.Turns.{longer, First, Kept, Sat, Sees, looked, with_joined, joined_of}
use Rattle.pm_desk.proofs.Histories.{calls_between, calls_of-none, starts_between, starts_same}
use Rattle.pm_desk.proofs.Seats.{longer_cases}

module _ {M R Q : Type 0} (next : R → M → Q → M) (good : R → M → Type 0) (own : ℕ → Q → Type 0) (about : Opening M R) where
  pub looks : (slots id : ℕ) (m : Sat M R Q) → m.0.desk ≡ Some about → Allows (Kept next good own about) slots id m 0 (λ n. n) (looked (step slots 0 0 0 none) m)
  looks slots id m live s r long at small =
      let f = r.each id m.0 at live in (
        m.0,
        keeps,
        tt,
        subst (λ (t : List ℕ × List (View M R Q)). Kept next good own about record { words = t.0; homes = s.homes; views = t.1 })
            (λ i. (sym (set-get_or s.words 0 0) i, sym (set_again s.views id m.0 at) i)) r,
        (
          refl,
          record {
            log = r.log;
            seen = f.seen;
            calls = f.calls;
            had = f.had;
            had_calls = f.had_calls;
            joined = λ z k x e. let j = (f.first z).joined k x e in (j.0, j.1);
            given = λ z. given_by m.0 (f.first z);
          },
        ),
      )
    where
      given_by : (v : View M R Q) {log : List (Past Q)} → First log v → (k : ℕ) (e : Past Q) → get_elem? log k ≡ some e → e.seat ≤ v.splits
      given_by v g k e e_at = ⊎_elim (λ z. omega arith) (λ t. ⊎_elim (λ a. (g.out e.seat a).1) (λ j. let le = (g.joined j.0 j.1 j.2).3 in let is = j.3 in omega arith) t) (g.known k e e_at)

  -- no call has a number that is not given yet
  pub no_call : (v : View M R Q) → v.number ≡ 0 → Sees v → calls_of (v.splits + 1) v.seen ≡ []
  no_call v first see = calls_of-none (v.splits + 1) v.seen
      (λ k e there. let le = see.given first k e (subst (λ l. get_elem? l k ≡ some e) (sym see.seen.1) (at_longer v.seen see.seen.0 k e there)) in λ is. omega arith)

  pub gathers : (v w : View M R Q) → v.number ≡ 0 → Sees (with_joined v w) → Gathers v.number v.seen w.number w.seen (longer v.seen w.seen)
  gathers v w first see =
      let j = see.joined first (length v.joined) (joined_of w) (at_last v.joined (joined_of w) (length v.joined) refl) in
      record {
        first_begins = longer_cases next good own about (λ l. StartsWith l v.seen) v.seen w.seen (λ _. starts_same v.seen) (λ le. starts_between see.log v.seen w.seen see.had j.0 le);
        first_calls = sym see.calls ∙ see.had_calls;
        other_begins = longer_cases next good own about (λ l. StartsWith l w.seen) v.seen w.seen (λ le. starts_between see.log w.seen v.seen j.0 see.had le) (λ _. starts_same w.seen);
        other_calls = longer_cases next good own about (λ l. calls_of w.number l ≡ calls_of w.number w.seen) v.seen w.seen
            (λ le. sym (calls_between w.number see.log w.seen v.seen j.0 see.had le j.1) ∙ j.1) (λ _. refl);
      }
