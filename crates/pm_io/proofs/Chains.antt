-- One read after another, and one write after another.
use Rattle.std.proofs.Common.{ℕ, List, [], ◌++◌, ◌∙◌, ap, append_assoc, subst, take, drop, ◌+◌}
use Rattle.std.specs.Prelude.{Option, None, Some}
use Rattle.std.proofs.lemmas.List.{append-nil}
use Rattle.std.proofs.Math.Seq.{take-add}
use Rattle.std.specs.Io.KnownBytes.{Consumes}
use Rattle.std.proofs.KnownBytes.{Consumes-trans}
use Rattle.pm_io.specs.Moves.{Adds}

-- two writes add their bytes one after the other
pub Adds-chain : (a b c : Option (List ℕ)) (xs ys : List ℕ)
    → Adds a b xs → Adds b c ys → Adds a c (xs ++ ys)
Adds-chain None None None xs ys p q = tt
Adds-chain (Some a) b None xs ys p q = tt
Adds-chain None (Some b) c xs ys p q = absurd p
Adds-chain None None (Some c) xs ys p q = absurd q
Adds-chain (Some a) None (Some c) xs ys p q = absurd q
Adds-chain (Some a) (Some b) (Some c) xs ys p q = q ∙ ap (λ z. z ++ ys) p ∙ append_assoc a xs ys

-- a write of the next n bytes of a text makes its front n bytes longer
pub Adds-front : (a b c : Option (List ℕ)) (bytes : List ℕ) (i n : ℕ)
    → Adds a b (take i bytes) → Adds b c (take n (drop i bytes)) → Adds a c (take (i + n) bytes)
Adds-front a b c bytes i n p q = rw take-add (Adds-chain a b c (take i bytes) (take n (drop i bytes)) p q)

-- a read of no bytes takes nothing more
pub Consumes-stop : (a b c : Option (List ℕ)) (xs : List ℕ)
    → Consumes a b xs → Consumes b c [] → Consumes a c xs
Consumes-stop a b c xs p q =
    let P : List ℕ → Type 0 = λ l. Consumes a c l in
    subst P (append-nil xs) (Consumes-trans a b c xs [] p q)
