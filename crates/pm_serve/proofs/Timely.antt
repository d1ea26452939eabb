-- One read more, made while no whole line was there.
use Rattle.std.proofs.Common.{◌≡◌, ◌++◌, ◌∙◌, ℕ, false, List, [], ◌∷◌, refl, ap, sym, append_assoc}
use Rattle.std.specs.Prelude.{Option, None, Some}
use Rattle.std.specs.List.{concat}
use Rattle.std.proofs.lemmas.List.{append-nil}
use Rattle.std.proofs.lemmas.List.Folds.{concat-append}
use Rattle.pm_serve.specs.Bytes.{has_lf}
use Rattle.pm_serve.specs.Pieces.{Gave, InTime, AskedInTime}

none-given : (old : Option (List (List ℕ))) → Gave old old []
none-given None = tt
none-given (Some xs) = sym (append-nil xs)

gave-chain : (a b c : Option (List (List ℕ))) (xs ys : List (List ℕ)) → Gave a b xs → Gave b c ys → Gave a c (xs ++ ys)
gave-chain None None None xs ys p q = tt
gave-chain (Some a) b None xs ys p q = tt
gave-chain None (Some b) c xs ys p q = absurd p
gave-chain None None (Some c) xs ys p q = absurd q
gave-chain (Some a) None (Some c) xs ys p q = absurd q
gave-chain (Some a) (Some b) (Some c) xs ys p q = q ∙ ap (λ z. z ++ ys) p ∙ append_assoc a xs ys

in-time-more : (before : List ℕ) (pieces : List (List ℕ)) (piece : List ℕ) → InTime before pieces → has_lf (before ++ concat pieces) ≡ false → InTime before (pieces ++ piece ∷ [])
in-time-more before [] piece i h = (ap has_lf (sym (append-nil before)) ∙ h, tt)
in-time-more before (q ∷ qs) piece i h = (i.0, in-time-more (before ++ q) qs piece i.1 (ap has_lf (append_assoc before q (concat qs)) ∙ h))

-- the pieces are what was taken, and each was asked for in time
pub record Asked (old new : Option (List (List ℕ))) (before taken : List ℕ) : Type 0 where
  pub pieces : List (List ℕ)
  pub gave : Gave old new pieces
  pub whole : concat pieces ≡ taken
  pub in_time : InTime before pieces

pub none-asked : (old : Option (List (List ℕ))) (before : List ℕ) → Asked old old before []
none-asked old before = record { pieces = []; gave = none-given old; whole = refl; in_time = tt }

pub asked-more : (a b c : Option (List (List ℕ))) (before taken piece : List ℕ) → Asked a b before taken → has_lf (before ++ taken) ≡ false → Gave b c (piece ∷ []) → Asked a c before (taken ++ piece)
asked-more a b c before taken piece k h g = record {
  pieces = k.pieces ++ piece ∷ [];
  gave = gave-chain a b c k.pieces (piece ∷ []) k.gave g;
  whole = concat-append k.pieces (piece ∷ []) ∙ ap (λ r. concat k.pieces ++ r) (append-nil piece) ∙ ap (λ r. r ++ piece) k.whole;
  in_time = in-time-more before k.pieces piece k.in_time (ap (λ r. has_lf (before ++ r)) k.whole ∙ h);
}

pub so-far : (a b : Option (List (List ℕ))) (before taken : List ℕ) → Asked a b before taken → AskedInTime before a b
so-far a b before taken k = record { pieces = k.pieces; gave = k.gave; in_time = k.in_time }
