-- The test holds exactly where later steps lie apart.
use Rattle.std.specs.Prelude.{◌≡◌, ◌↔◌, ◌==◌, ◌+◌, nat_lt, Bool, true, List, [], ◌∷◌, length, refl}
use Rattle.std.specs.Bool.{Decides}
use Rattle.std.proofs.lemmas.Bool.{false≢true}
use Rattle.std.proofs.lemmas.Bool.Decides.{Decides-ltb, Decides-eqb, Decides-not, Decides-and, Decides-or, same_from_decides}
use Rattle.pm_map.specs.declared.step_map.Span.{Span}
use Rattle.pm_meaning.specs.Steps.{Step, Replace, ReplaceAround, AddMark, RemoveMark, AddNodeMark, RemoveNodeMark, Attr, DocAttr}
use Rattle.pm_selective.specs.declared.telling.Reach.{Reach}
use Rattle.pm_selective.specs.Apart.{IsBeyond, IsBeyondAll, IsApart, AreApartFrom, moved_reaches, event_ranges}
use Rattle.pm_selective.specs.Carried.{IsSplice, AreSplices, step_maps}
use Rattle.pm_selective.specs.Tests.{is_beyond, beyond_all, apart_from}
use Rattle.pm_revert.specs.Aparts.{is_splice, are_splices, are_apart_from, lies_apart}
use Rattle.pm_revert.specs.Reverts.{LieApartFrom}

beyond : (r : Span) (x : Reach) → Decides (is_beyond r x) (IsBeyond r x)
beyond r x =
    Decides-or (nat_lt (r.start + r.old_size) x.from) (nat_lt x.to r.start) (Decides-ltb (r.start + r.old_size) x.from) (Decides-ltb x.to r.start)

beyond-each : (r : Span) (xs : List Reach) → Decides (beyond_all r xs) (IsBeyondAll r xs)
beyond-each r [] = (λ e. tt, λ u. refl)
beyond-each r (x ∷ xs) = Decides-and (is_beyond r x) (beyond_all r xs) (beyond r x) (beyond-each r xs)

apart : (l : List Span) (xs : List Reach) → Decides (apart_from l xs) (IsApart l xs)
apart [] xs = (λ e. tt, λ u. refl)
apart (r ∷ rs) xs = Decides-and (beyond_all r xs) (apart_from rs xs) (beyond-each r xs) (apart rs xs)

apart-each : (ls : List (List Span)) (xs : List Reach) → Decides (are_apart_from xs ls) (AreApartFrom xs ls)
apart-each [] xs = (λ e. tt, λ u. refl)
apart-each (l ∷ ls) xs =
    Decides-and (apart_from l xs) (are_apart_from (moved_reaches l xs) ls) (apart l xs) (apart-each ls (moved_reaches l xs))

splice : (c : Step) → Decides (is_splice c) (IsSplice c)
splice (Replace from to sl st) = (λ e. tt, λ u. refl)
splice (ReplaceAround from to gap_from gap_to sl insert st) = Decides-not (gap_from == gap_to) (Decides-eqb gap_from gap_to)
splice (AddMark from to mark) = (λ e. absurd (false≢true e), λ u. absurd u)
splice (RemoveMark from to mark) = (λ e. absurd (false≢true e), λ u. absurd u)
splice (AddNodeMark p mark) = (λ e. absurd (false≢true e), λ u. absurd u)
splice (RemoveNodeMark p mark) = (λ e. absurd (false≢true e), λ u. absurd u)
splice (Attr p name value) = (λ e. absurd (false≢true e), λ u. absurd u)
splice (DocAttr name value) = (λ e. absurd (false≢true e), λ u. absurd u)

splices : (cs : List Step) → Decides (are_splices cs) (AreSplices cs)
splices [] = (λ e. tt, λ u. refl)
splices (c ∷ cs) = Decides-and (is_splice c) (are_splices cs) (splice c) (splices cs)

pub apart-test : (es later : List Step) → Decides (lies_apart es later) (LieApartFrom es later)
apart-test es later =
    let ranges = event_ranges (step_maps es) [] in
    let maps = Decides-and (are_splices later) (are_apart_from ranges (step_maps later)) (splices later) (apart-each (step_maps later) ranges) in
    let all = Decides-and (are_splices es) _ (splices es) maps in
    let whole = Decides-and (nat_lt 0 (length es)) _ (Decides-ltb 0 (length es)) all in (
      λ e. (let h = whole.0 e in record { some = h.0; entries_splice = h.1.0; later_splice = h.1.1.0; apart = h.1.1.1 }),
      λ a. whole.1 (a.some, (a.entries_splice, (a.later_splice, a.apart))),
    )

-- what tells it is the test
pub told-same : (told : Bool) (es later : List Step) → ((told ≡ true) ↔ LieApartFrom es later) → told ≡ lies_apart es later
told-same told es later h = same_from_decides told (lies_apart es later) h (apart-test es later)
