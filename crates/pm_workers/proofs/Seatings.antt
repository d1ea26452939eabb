-- What a seat has seen, and what it sees later.
use Rattle.std.proofs.Common.{◌≡◌, List, [], ◌∷◌, ◌++◌, sym, ap, ◌∙◌, subst, append-nil, append_assoc}
use Rattle.pm_desk.specs.Desks.{SeatValue}
use Rattle.pm_desk.specs.Histories.{StartsWith}
use Rattle.pm_workers.specs.Seats.{SeesMore}

-- what follows a beginning that is the whole is nothing
pub none-behind : {A : Type 0} (xs ys : List A) → xs ++ ys ≡ xs → ys ≡ []
none-behind [] ys e = e
none-behind (x ∷ xs) ys e = none-behind xs ys (cc)

module _ {A : Type 0} where
  pub starts-same : (xs : List A) → StartsWith xs xs
  starts-same xs = ([], sym (append-nil xs))

  -- a beginning of a beginning
  pub starts-on : (zs ys xs : List A) → StartsWith zs ys → StartsWith ys xs → StartsWith zs xs
  starts-on zs ys xs a b = (b.0 ++ a.0, a.1 ∙ ap (λ l. l ++ a.0) b.1 ∙ append_assoc xs b.0 a.0)

module _ {M R Q : Type 0} where
  pub sees-same : (s t : SeatValue M R Q) → t ≡ s → SeesMore s t
  sees-same s t is = (
    is ∙ ap (λ (v : SeatValue M R Q). record s { seen = v.seen }) (sym is),
    subst (λ (v : SeatValue M R Q). StartsWith v.seen s.seen) (sym is) (starts-same s.seen),
  )

  pub sees-on : (s t u : SeatValue M R Q) → SeesMore s t → SeesMore t u → SeesMore s u
  sees-on s t u a b = (b.0 ∙ ap (λ (v : SeatValue M R Q). record v { seen = u.seen }) a.0, starts-on u.seen t.seen s.seen b.1 a.1)
