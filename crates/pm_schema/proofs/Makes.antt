-- In a schema without dead ends the generatable types are those that can be made by themselves.
use Rattle.std.proofs.Common.{◌≡◌, ℕ, zero, suc, ◌<◌, List, [], ◌∷◌, Bool, true, false, length, map, get_or, refl, ◌∙◌, sym, subst, arith}
use Rattle.pm_auto.specs.declared.auto.Auto.{Auto}
use Rattle.pm_auto.specs.Finish.{Finishes}
use Rattle.pm_schema.specs.declared.spec.NodeSpec.{NodeSpec}
use Rattle.pm_schema.specs.Contents.{Runs, All_run}
use Rattle.pm_schema.specs.Made.{can_be_made}
use Rattle.pm_schema.specs.Generated.{nth, IsClosed, IsGeneratable, AutosOf, AllFinishing, NeverStuck}
use Rattle.pm_schema.proofs.Tables.{all_run-at, all-run}

map-at : (ns : List NodeSpec) (k : ℕ) → k < length ns → get_or (map can_be_made ns) k false ≡ can_be_made (nth ns k)
map-at [] k l = absurd (omega arith)
map-at (n ∷ ns) zero l = refl
map-at (n ∷ ns) (suc k) l = map-at ns k (omega arith)

makeable-closed : (ns : List NodeSpec) → IsClosed ns (map can_be_made ns)
makeable-closed ns k l m = map-at ns k l ∙ m.can

-- tables that agree at each place are equal
same-table : (ns : List NodeSpec) (table : List Bool) → length table ≡ length ns → ((k : ℕ) → k < length ns → get_or table k false ≡ can_be_made (nth ns k)) → table ≡ map can_be_made ns
same-table [] [] l h = refl
same-table [] (b ∷ table) l h = absurd (omega (arith, l))
same-table (n ∷ ns) [] l h = absurd (omega (arith, l))
same-table (n ∷ ns) (b ∷ table) l h =
    let z : 0 < suc (length ns) = omega arith in
    let k : length table ≡ length ns = omega (arith, l) in
    let e : b ≡ can_be_made n = h 0 z in
    rw (e, same-table ns table k (λ i j. h (suc i) (omega (arith, j)))) refl

some-auto : (as' : List Auto) (k : ℕ) → k < length as' → Auto
some-auto [] k l = absurd (omega arith)
some-auto (a ∷ as') k l = a

pub makes-all : (ns : List NodeSpec) (autos : List Auto) (table : List Bool) → length autos ≡ length ns → All_run ns autos → IsGeneratable ns table → AllFinishing table autos → table ≡ map can_be_made ns
makes-all ns autos table full runs g live = same-table ns table g.full (λ k l. at k l (can_be_made (nth ns k)) refl (get_or table k false) refl)
  where
    at : (k : ℕ) → k < length ns → (b : Bool) → can_be_made (nth ns k) ≡ b → (t : Bool) → get_or table k false ≡ t → get_or table k false ≡ can_be_made (nth ns k)
    at k l true e true f = f ∙ sym e
    at k l false e false f = f ∙ sym e
    at k l true e false f =
        let m : k < length autos = omega (arith, full, l) in
        let a : Auto = some-auto autos k m in
        let r : Runs (nth ns k).content (get_or autos k a) = all_run-at ns autos k a m runs in
        let s : Finishes table (get_or autos k a) 0 = live k a m 0 (get_or autos k a).some in
        g.closed k l record { can = e; list = s.list; of_table = s.makeable; fit = sym (r.accepts s.list) ∙ s.ends } ∙ sym e
    at k l false e true f = absurd (let z : get_or (map can_be_made ns) k false ≡ true = g.least (map can_be_made ns) (makeable-closed ns) k f in let y : true ≡ false = sym z ∙ map-at ns k l ∙ e in cc)

-- the same of tables that are lent

pub runs-of : (ns ms : List NodeSpec) (autos lent : List Auto) → ms ≡ ns → lent ≡ autos → length autos ≡ length ns → AutosOf ns autos → All_run ms lent
runs-of ns ms autos lent en ea full a = subst (λ (x : List NodeSpec). All_run x lent) (sym en) (subst (λ (y : List Auto). All_run ns y) (sym ea) (all-run ns autos full a))

pub live-of : (table t : List Bool) (autos lent : List Auto) → t ≡ table → lent ≡ autos → AllFinishing t lent → AllFinishing table autos
live-of table t autos lent et ea h = subst (λ (x : List Bool). AllFinishing x autos) et (subst (λ (y : List Auto). AllFinishing t y) ea h)

pub never-stuck : (table : List Bool) (autos : List Auto) → AllFinishing table autos → NeverStuck table autos
never-stuck table autos h k d s l m n = n (h k d l s m)
