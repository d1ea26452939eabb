-- What a stand is after some of its own lines.
use Rattle.std.proofs.Common.{◌≡◌, ◌≤◌, List, [], ◌∷◌, ◌++◌, length, take, Result, refl, sym, ap, ◌∙◌, subst, arith, append-nil, length-append}
use Rattle.pm_change.specs.Changes.{Meaning}
use Rattle.pm_change.specs.declared.no_step.NoStep.{NoStep}
use Rattle.pm_authority.specs.declared.authority.Authority.{Authority}
use Rattle.pm_desk.specs.Desks.{DeskValue}
use Rattle.pm_session.specs.declared.line.Line.{Line}
use Rattle.pm_session.specs.declared.outcome.Outcome.{Outcome}
use Rattle.pm_session.specs.Members.{name_of}
use Rattle.pm_session.specs.Sounds.{MemberStands}
use Rattle.pm_session.specs.Suits.{SuitsMember}
use Rattle.pm_workers.specs.Seats.{SeesMore, authority_after, Serves}
use Rattle.pm_workers.specs.Suiting.{SuitMember}
use Rattle.pm_workers.specs.Worked.{ActedAt, Worked, Finished, IsReady}
use Rattle.pm_workers.proofs.Seatings.{sees-same}
use Rattle.pm_workers.proofs.Suitings.{acts-counted, suits-now, suits-later}
use Rattle.pm_workers.proofs.Working.{worked-none, worked-more, worked-began, works-each}
use Rattle.pm_rooms.specs.declared.stand.Stand.{Stand}

module _ {Rules Doc Reason C Op : Type 0} (m : Meaning Rules Doc Reason C) (makes : Rules → Doc → Op → Result (List C) NoStep)
    (d : DeskValue (Authority C Rules Doc Reason) Rules) where
  -- The stand x became y by the first of its own lines, with these outcomes, and the rest suit it as it stands.
  pub record StandAt (x y : Stand C Rules Doc Reason) (front rest : List (Line Op C)) (outcomes : List (Outcome C Rules Doc Reason)) : Type 0 where
    pub worked : Worked m (makes d.opening.rules) d front x.member x.seat outcomes y.member y.seat
    pub suit : SuitMember y.member rest
    pub serves : Serves m d y.seat d.opening.rules (name_of x.member)
    pub stands : MemberStands m d.opening.rules d.opening.machine.first (authority_after m d y.seat.seen).log y.member
    pub name : name_of y.member ≡ name_of x.member

  pub stand-begins : (x : Stand C Rules Doc Reason) (lines : List (Line Op C)) → IsReady m d lines x.member x.seat [] → StandAt x x [] lines []
  stand-begins x lines h = record {
    worked = worked-none m (makes d.opening.rules) d x.member x.seat;
    suit = h.suit;
    serves = h.serves;
    stands = h.stands;
    name = refl;
  }

  module _ (x y : Stand C Rules Doc Reason) (front rest : List (Line Op C)) (outcomes : List (Outcome C Rules Doc Reason)) where
    -- the next line suits the stand, which its seat serves
    pub next-suits : (line : Line Op C) → StandAt x y front (line ∷ rest) outcomes → SuitsMember y.member line
    next-suits line h = suits-now y.member line rest h.suit

    pub next-served : (line : Line Op C) → StandAt x y front (line ∷ rest) outcomes → Serves m d y.seat d.opening.rules line.client
    next-served line h = subst (λ n. Serves m d y.seat d.opening.rules n) (sym h.name ∙ (next-suits line h).client) h.serves

    -- one line more
    pub stand-plays : (line : Line Op C) → StandAt x y front (line ∷ rest) outcomes → (o : Outcome C Rules Doc Reason) (z : Stand C Rules Doc Reason)
        → ActedAt m (makes d.opening.rules) d line.act y.member y.seat o z.member z.seat → Serves m d z.seat d.opening.rules line.client
        → MemberStands m d.opening.rules d.opening.machine.first (authority_after m d z.seat.seen).log z.member
        → StandAt x z (front ++ line ∷ []) rest (outcomes ++ o ∷ [])
    stand-plays line h o z acted serves stands =
        let own = next-suits line h in
        let counted = acts-counted m d.opening.rules (makes d.opening.rules) _ _ line.act y.member o z.member own.suits acted.acts in
        record {
          worked = worked-more m (makes d.opening.rules) d x.member x.seat front outcomes y.member y.seat h.worked line o z.member z.seat acted;
          suit = suits-later y.member z.member line rest h.suit counted;
          serves = subst (λ n. Serves m d z.seat d.opening.rules n) (sym own.client ∙ h.name) serves;
          stands = stands;
          name = counted.name ∙ h.name;
        }

    -- the lines that were played are the first ones
    front-within : length front ≤ length (front ++ rest)
    front-within = let long = length-append front rest in omega (arith, long)

    front-worked : StandAt x y front rest outcomes → Worked m (makes d.opening.rules) d (take (length front) (front ++ rest)) x.member x.seat outcomes y.member y.seat
    front-worked h = subst (λ l. Worked m (makes d.opening.rules) d l x.member x.seat outcomes y.member y.seat) (sym (take_front front rest)) h.worked
      where
        take_front : {A : Type 0} (xs ys : List A) → take (length xs) (xs ++ ys) ≡ xs
        take_front [] [] = refl
        take_front [] (y ∷ ys) = refl
        take_front (x ∷ xs) ys = ap (λ l. x ∷ l) (take_front xs ys)

    outcomes-each : StandAt x y front rest outcomes → length outcomes ≡ length front
    outcomes-each h = ap length h.worked.outcomes_are ∙ works-each m d.opening.rules (makes d.opening.rules) front x.member h.worked.answers

    -- no line more is played
    pub stand-ends : StandAt x y front rest outcomes → Finished m (makes d.opening.rules) d (front ++ rest) x.member x.seat outcomes y.member y.seat
    stand-ends h = record {
      began = worked-began m (makes d.opening.rules) d x.member x.seat (front ++ rest) (length front) outcomes y.member y.seat y.seat front-within (front-worked h) (sees-same y.seat y.seat refl);
      worked = λ all. subst (λ l. Worked m (makes d.opening.rules) d l x.member x.seat outcomes y.member y.seat) (sym (whole rest all)) h.worked;
      serves = h.serves;
    }
      where
        whole : (ys : List (Line Op C)) → length outcomes ≡ length (front ++ ys) → front ++ ys ≡ front
        whole [] all = append-nil front
        whole (y ∷ ys) all = let long = length-append front (y ∷ ys) in let each = outcomes-each h in absurd (omega (arith, long, each, all))

  -- the next line ran out of memory, and left z
  pub stand-breaks : (x y z : Stand C Rules Doc Reason) (front rest : List (Line Op C)) (line : Line Op C) (outcomes : List (Outcome C Rules Doc Reason))
      → StandAt x y front (line ∷ rest) outcomes → SeesMore y.seat z.seat → Serves m d z.seat d.opening.rules line.client
      → Finished m (makes d.opening.rules) d (front ++ line ∷ rest) x.member x.seat outcomes z.member z.seat
  stand-breaks x y z front rest line outcomes h seat serves =
      let lines = front ++ line ∷ rest in
      let long = length-append front (line ∷ rest) in
      let each = outcomes-each x y front (line ∷ rest) outcomes h in
      record {
        began = worked-began m (makes d.opening.rules) d x.member x.seat lines (length front) outcomes y.member y.seat z.seat (front-within x y front (line ∷ rest) outcomes)
            (front-worked x y front (line ∷ rest) outcomes h) seat;
        worked = λ all. absurd (omega (arith, long, each, all));
        serves = subst (λ n. Serves m d z.seat d.opening.rules n) (sym (next-suits x y front rest outcomes line h).client ∙ h.name) serves;
      }
