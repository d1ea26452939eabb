-- A call that got no reply is in no history that its seat tells of.
use Rattle.std.specs.Prelude.{◌≡◌, ℕ, Result, Ok, Err, IfErr}
use Rattle.std.proofs.Common.{sym, subst}
use Rattle.pm_desk.specs.declared.history.Back.{Back}
use Rattle.pm_desk.specs.declared.history.Opening.{Opening}
use Rattle.pm_desk.specs.Histories.{calls_of}
use Rattle.pm_desk.specs.Desks.{SeatValue, AddsNoCall}

module _ {M R Q A : Type 0} (next : R → M → Q → M) (reply : R → M → Q → A) (good : R → M → Type 0) (own : ℕ → Q → Type 0) (opening : Opening M R) where
  -- a seat adds no call to what it has seen
  adds-none : (s : SeatValue M R Q) → AddsNoCall next reply good own opening s s
  adds-none s = record {
    later = λ q r u told. told.calls;
    whole = λ log zero w. subst (λ n. calls_of n log ≡ calls_of n s.seen) (sym zero) w.calls;
    joined = λ first k log at w. (w.joined k record { number = s.number; seen = s.seen } at).1;
  }

  pub absent : (s t : SeatValue M R Q) (q : Q) (r : Result A (Back Q)) → IfErr r (λ b. (b.request ≡ q) × (t ≡ s))
      → IfErr r (λ _. AddsNoCall next reply good own opening s t)
  absent s t q (Ok x) h = tt
  absent s t q (Err b) h = subst (λ u. AddsNoCall next reply good own opening s u) (sym h.1) (adds-none s)
