-- The run over the table is the run over places, and only the members of a state matter.
use Rattle.std.specs.Prelude.{◌≡◌, ℕ, List, [], ◌∷◌, map, Bool, eqb}
use Rattle.std.proofs.Common.{refl, ap, sym, ◌∙◌}
use Rattle.pm_auto.specs.Core.{Core, Place, kind, follow, first, nullable, when, nexts, may_end, runs, accepts}
use Rattle.pm_auto.specs.Table.{rows}
use Rattle.pm_auto.specs.Numbers.{number}
use Rattle.pm_auto.specs.Runs.{next_rows, end_rows, runs_rows, accepts_rows}
use Rattle.pm_auto.proofs.HasLaws.{Has, Found, has-find, has-back}
use Rattle.pm_auto.proofs.TableLaws.{map-join, map-when, firsts-first}
use Rattle.pm_auto.proofs.LookLaws.{look-row}

next-same : (e : Core) (k : ℕ) (ps : List (Place e)) → next_rows (rows 0 e) k (map (number 0 e) ps) ≡ map (number 0 e) (nexts e k ps)
next-same e k [] = refl
next-same e k (p ∷ ps) =
    rw (look-row e p, next-same e k ps) (sym (map-join (number 0 e) (when (eqb (kind e p) k) (follow e p)) (nexts e k ps) ∙ rw (map-when (number 0 e) (eqb (kind e p) k) (follow e p)) refl))

end-same : (e : Core) (k : ℕ) (ps : List (Place e)) → end_rows (rows 0 e) k (map (number 0 e) ps) ≡ may_end e k ps
end-same e k [] = refl
end-same e k (p ∷ ps) = rw (look-row e p, end-same e k ps) refl

runs-same : (e : Core) (w : List ℕ) (ps : List (Place e)) (end : Bool) → runs_rows (rows 0 e) (map (number 0 e) ps) end w ≡ runs e ps end w
runs-same e [] ps end = refl
runs-same e (k ∷ w) ps end = rw (next-same e k ps, end-same e k ps) (runs-same e w (nexts e k ps) (may_end e k ps))

-- the run over the table accepts as the run over places does
pub accepts-same : (e : Core) (w : List ℕ) → accepts_rows e w ≡ accepts e w
accepts-same e w = ap (λ z. runs_rows (rows 0 e) z (nullable e) w) (sym (firsts-first 0 e)) ∙ runs-same e w (first e) (nullable e)

-- states with the same members lead to an end by the same lists
pub has-members : {A : Type 0} (P : A → Type 0) (xs ys : List A) → ((x : A) → Has (λ y. y ≡ x) xs → Has (λ y. y ≡ x) ys) → Has P xs → Has P ys
has-members P xs ys g h = let f : Found P xs = has-find P xs h in has-back P ys f.it (g f.it f.at) f.holds
