-- The stands of a person, one line after another.
use Rattle.std.proofs.Common.{◌≡◌, ◌≢◌, ℕ, ◌<◌, List, [], ◌∷◌, ◌++◌, length, slice_get, Some, Result, refl, sym, ap, ◌∙◌, subst, arith, length-append}
use Rattle.std.proofs.lemmas.Option.{slice_get_within}
use Rattle.std.specs.declared.alloc.AllocError.{AllocError}
use mathlib.Core.Logic.{dite}
use native.Mathlib.Decide.{ℕ_discrete}
use Rattle.pm_change.specs.Changes.{Meaning}
use Rattle.pm_change.specs.declared.no_step.NoStep.{NoStep}
use Rattle.pm_authority.specs.declared.authority.Authority.{Authority}
use Rattle.pm_client.proofs.Takings.{get-index}
use Rattle.pm_desk.specs.Desks.{DeskValue}
use Rattle.pm_session.specs.declared.line.Line.{Line}
use Rattle.pm_session.specs.declared.outcome.Outcome.{Outcome}
use Rattle.pm_session.specs.Sounds.{MemberStands}
use Rattle.pm_workers.specs.Seats.{authority_after, Serves}
use Rattle.pm_workers.specs.Worked.{ActedAt, Finished}
use Rattle.pm_workers.proofs.Interleaved.{member-at, set-elsewhere}
use Rattle.pm_workers.proofs.MergeLaws.{set-there, length-set}
use Rattle.pm_rooms.specs.declared.line.RoomLine.{RoomLine}
use Rattle.pm_rooms.specs.declared.stand.Stand.{Stand}
use Rattle.pm_rooms.specs.Stands.{IsPlayedBy, HasStand, StandsDiffer, stand_lines, stand_outcomes}
use Rattle.pm_rooms.specs.People.{StandsReady, LineReady, LinePlayed, StandsFinished}
use Rattle.pm_rooms.proofs.HallRooms.{some-same}
use Rattle.pm_rooms.proofs.StandLines.{stand-here, stand-there, stand-append, stand-more, stand-other, given-more, given-other, given-front}
use Rattle.pm_rooms.proofs.StandPlays.{StandAt, stand-begins, next-suits, next-served, stand-plays, stand-ends, stand-breaks}

module _ {Rules Doc Reason C Op : Type 0} (m : Meaning Rules Doc Reason C) (desks : List (DeskValue (Authority C Rules Doc Reason) Rules))
    (makes : Rules → Doc → Op → Result (List C) NoStep) where
  abbrev AtDesk : Stand C Rules Doc Reason → DeskValue (Authority C Rules Doc Reason) Rules → Type 0
  AtDesk x d = slice_get desks x.room ≡ Some d

  -- The stands were `old`, and played the first of the lines with these outcomes. The rest are to be played.
  pub record AllAt (old stands : List (Stand C Rules Doc Reason)) (front rest : List (RoomLine Op C)) (outcomes : List (Outcome C Rules Doc Reason)) : Type 0 where
    pub count : length stands ≡ length old
    pub same : (j : ℕ) (x y : Stand C Rules Doc Reason) → slice_get old j ≡ Some x → slice_get stands j ≡ Some y → (y.room ≡ x.room) × (y.client ≡ x.client)
    pub each : (j : ℕ) (x y : Stand C Rules Doc Reason) (d : DeskValue (Authority C Rules Doc Reason) Rules) → slice_get old j ≡ Some x → slice_get stands j ≡ Some y → AtDesk x d
        → StandAt m makes d x y (stand_lines x front) (stand_lines x rest) (stand_outcomes x front outcomes)

  pub all-begin : (old : List (Stand C Rules Doc Reason)) (lines : List (RoomLine Op C)) → StandsReady m desks old lines → AllAt old old [] lines []
  all-begin old lines h = record {
    count = refl;
    same = λ j x y at at_y. let e : x ≡ y = some-same x y (sym at ∙ at_y) in (ap (λ z. z.room) (sym e), ap (λ z. z.client) (sym e));
    each = λ j x y d at at_y desk.
        subst (λ z. StandAt m makes d x z [] (stand_lines x lines) []) (some-same x y (sym at ∙ at_y)) (stand-begins m makes d x (stand_lines x lines) (h.ready j x d at desk));
  }

  module _ (old stands : List (Stand C Rules Doc Reason)) (front : List (RoomLine Op C)) (outcomes : List (Outcome C Rules Doc Reason)) where
    -- a stand, as it was
    was : (rest : List (RoomLine Op C)) → AllAt old stands front rest outcomes → (j : ℕ) (y : Stand C Rules Doc Reason) → slice_get stands j ≡ Some y
        → (x : Stand C Rules Doc Reason) × (slice_get old j ≡ Some x)
    was rest h j y at = member-at old j (subst (λ n. j < n) h.count (slice_get_within stands j y at))

    -- the stands that play a line are the same
    as-before : (rest : List (RoomLine Op C)) → AllAt old stands front rest outcomes → (line : RoomLine Op C) (j : ℕ) (x y : Stand C Rules Doc Reason) → slice_get old j ≡ Some x
        → slice_get stands j ≡ Some y → IsPlayedBy y line → IsPlayedBy x line
    as-before rest h line j x y at at_y by = let s = h.same j x y at at_y in record { room = sym s.0 ∙ by.room; client = sym s.1 ∙ by.client }

    pub all-has : (rest : List (RoomLine Op C)) → AllAt old stands front rest outcomes → (line : RoomLine Op C) → HasStand old line → HasStand stands line
    all-has rest h line has =
        let there = member-at stands has.place (subst (λ n. has.place < n) (sym h.count) (slice_get_within old has.place has.stand has.at)) in
        let s = h.same has.place has.stand there.0 has.at there.1 in
        record { place = has.place; stand = there.0; at = there.1; by = record { room = s.0 ∙ has.by.room; client = s.1 ∙ has.by.client } }

    pub all-ends : (rest : List (RoomLine Op C)) → length outcomes ≡ length front → AllAt old stands front rest outcomes
        → StandsFinished m desks makes (front ++ rest) old outcomes stands
    all-ends rest count h = record {
      within = let long = length-append front rest in omega (arith, long, count);
      count = h.count;
      each = λ j x y d at at_y desk. record {
        room = (h.same j x y at at_y).0;
        client = (h.same j x y at at_y).1;
        finished = ended x y d (h.each j x y d at at_y desk);
      };
    }
      where
        ended : (x y : Stand C Rules Doc Reason) (d : DeskValue (Authority C Rules Doc Reason) Rules)
            → StandAt m makes d x y (stand_lines x front) (stand_lines x rest) (stand_outcomes x front outcomes)
            → Finished m (makes d.opening.rules) d (stand_lines x (front ++ rest)) x.member x.seat (stand_outcomes x (front ++ rest) outcomes) y.member y.seat
        ended x y d s =
            subst (λ l. Finished m (makes d.opening.rules) d l x.member x.seat (stand_outcomes x (front ++ rest) outcomes) y.member y.seat) (sym (stand-append x front rest))
            (subst (λ o. Finished m (makes d.opening.rules) d (stand_lines x front ++ stand_lines x rest) x.member x.seat o y.member y.seat) (sym (given-front x front rest outcomes count))
            (stand-ends m makes d x y (stand_lines x front) (stand_lines x rest) (stand_outcomes x front outcomes) s))

    module _ (line : RoomLine Op C) (rest : List (RoomLine Op C)) (h : AllAt old stands front (line ∷ rest) outcomes) where
      -- what a stand of the line is before it
      before : (x y : Stand C Rules Doc Reason) (d : DeskValue (Authority C Rules Doc Reason) Rules) → IsPlayedBy x line
          → StandAt m makes d x y (stand_lines x front) (stand_lines x (line ∷ rest)) (stand_outcomes x front outcomes)
          → StandAt m makes d x y (stand_lines x front) (line.line ∷ stand_lines x rest) (stand_outcomes x front outcomes)
      before x y d by s = subst (λ l. StandAt m makes d x y (stand_lines x front) l (stand_outcomes x front outcomes)) (stand-here x line rest by) s

      pub all-line-ready : LineReady m desks stands line
      all-line-ready j y d at_y desk by =
          let x = was (line ∷ rest) h j y at_y in
          let by_x = as-before (line ∷ rest) h line j x.0 y x.1 at_y by in
          let s = before x.0 y d by_x (h.each j x.0 y d x.1 at_y (ap (slice_get desks) by_x.room ∙ desk)) in
          let own = stand_lines x.0 rest in
          let outs = stand_outcomes x.0 front outcomes in (
            next-served m makes d x.0 y (stand_lines x.0 front) own outs line.line s,
            next-suits m makes d x.0 y (stand_lines x.0 front) own outs line.line s,
            s.stands,
          )

      module _ (r : Result (Outcome C Rules Doc Reason) AllocError) (new : List (Stand C Rules Doc Reason)) (p : LinePlayed m desks makes stands line r new)
          (differ : StandsDiffer old) where
        new-there : slice_get new p.place ≡ Some p.y
        new-there = subst (λ l. slice_get l p.place ≡ Some p.y) (sym p.new_is) (set-there stands p.place p.y p.x p.at)

        new-other : (j : ℕ) → p.place ≢ j → slice_get new j ≡ slice_get stands j
        new-other j ne = ap (λ l. slice_get l j) p.new_is ∙ set-elsewhere stands p.place j p.y ne

        -- no other stand plays the line
        no-other : (j : ℕ) (x : Stand C Rules Doc Reason) → slice_get old j ≡ Some x → p.place ≢ j → IsPlayedBy x line → ⊥
        no-other j x at ne by =
            let o = was (line ∷ rest) h p.place p.x p.at in
            let s = h.same p.place o.0 p.x o.1 p.at in
            ne (sym (differ j p.place x o.0 at o.1 (by.room ∙ sym p.by.room ∙ s.0) (by.client ∙ sym p.by.client ∙ s.1)))

        new-count : length new ≡ length old
        new-count = ap length p.new_is ∙ length-set stands p.place p.y ∙ h.count

        new-same : (j : ℕ) (x y : Stand C Rules Doc Reason) → slice_get old j ≡ Some x → slice_get new j ≡ Some y → (y.room ≡ x.room) × (y.client ≡ x.client)
        new-same j x y at at_y = dite (ℕ_discrete p.place j)
            (λ e.
            let is : p.y ≡ y = some-same p.y y (sym new-there ∙ ap (slice_get new) e ∙ at_y) in
            let s = h.same j x p.x at (ap (slice_get stands) (sym e) ∙ p.at) in
            (ap (λ z. z.room) (sym is) ∙ p.room ∙ s.0, ap (λ z. z.client) (sym is) ∙ p.client ∙ s.1))
            (λ ne. h.same j x y at (sym (new-other j ne) ∙ at_y))

        -- the stand that played, and what it was before the line
        record Here (x y : Stand C Rules Doc Reason) (d : DeskValue (Authority C Rules Doc Reason) Rules) : Type 0 where
          by : IsPlayedBy x line
          y_is : p.y ≡ y
          d_is : p.d ≡ d
          was_at : StandAt m makes d x p.x (stand_lines x front) (line.line ∷ stand_lines x rest) (stand_outcomes x front outcomes)

        here : (j : ℕ) → p.place ≡ j → (x y : Stand C Rules Doc Reason) (d : DeskValue (Authority C Rules Doc Reason) Rules) → slice_get old j ≡ Some x → slice_get new j ≡ Some y
            → AtDesk x d → Here x y d
        here j e x y d at at_y desk =
            let there : slice_get stands j ≡ Some p.x = ap (slice_get stands) (sym e) ∙ p.at in
            let by_x = as-before (line ∷ rest) h line j x p.x at there p.by in
            record {
              by = by_x;
              y_is = some-same p.y y (sym new-there ∙ ap (slice_get new) e ∙ at_y);
              d_is = some-same p.d d (sym p.desk ∙ ap (slice_get desks) (sym by_x.room) ∙ desk);
              was_at = before x p.x d by_x (h.each j x p.x d at there desk);
            }

        serves-there : (d : DeskValue (Authority C Rules Doc Reason) Rules) → p.d ≡ d → Serves m d p.y.seat d.opening.rules line.line.client
        serves-there d is = subst (λ k. Serves m k p.y.seat k.opening.rules line.line.client) is p.serves

        -- the line was played
        pub all-plays : (o : Outcome C Rules Doc Reason) → ActedAt m (makes p.d.opening.rules) p.d line.line.act p.x.member p.x.seat o p.y.member p.y.seat → length outcomes ≡ length front
            → AllAt old new (front ++ line ∷ []) rest (outcomes ++ o ∷ [])
        all-plays o acts each = record {
          count = new-count;
          same = new-same;
          each = λ j x y d at at_y desk. dite (ℕ_discrete p.place j) (λ e. played_at x y d (here j e x y d at at_y desk))
              (λ ne. other_at x y d (no-other j x at ne) (h.each j x y d at (sym (new-other j ne) ∙ at_y) desk));
        }
          where
            to : (x y : Stand C Rules Doc Reason) (d : DeskValue (Authority C Rules Doc Reason) Rules) (f k r l : List (Line Op C)) (a b : List (Outcome C Rules Doc Reason))
                → f ≡ k → r ≡ l → a ≡ b → StandAt m makes d x y f r a → StandAt m makes d x y k l b
            to x y d f k r l a b e1 e2 e3 s =
                subst (λ v. StandAt m makes d x y v l b) e1 (subst (λ v. StandAt m makes d x y f v b) e2 (subst (λ v. StandAt m makes d x y f r v) e3 s))

            played_at : (x y : Stand C Rules Doc Reason) (d : DeskValue (Authority C Rules Doc Reason) Rules) → Here x y d
                → StandAt m makes d x y (stand_lines x (front ++ line ∷ [])) (stand_lines x rest) (stand_outcomes x (front ++ line ∷ []) (outcomes ++ o ∷ []))
            played_at x y d t =
                let acted = subst (λ k. ActedAt m (makes k.opening.rules) k line.line.act p.x.member p.x.seat o p.y.member p.y.seat) t.d_is acts in
                let stood = subst (λ k. MemberStands m k.opening.rules k.opening.machine.first (authority_after m k p.y.seat.seen).log p.y.member) t.d_is p.stands_on in
                let z = stand-plays m makes d x p.x (stand_lines x front) (stand_lines x rest) (stand_outcomes x front outcomes) line.line t.was_at o p.y acted (serves-there d t.d_is) stood in
                subst (λ v. StandAt m makes d x v (stand_lines x (front ++ line ∷ [])) (stand_lines x rest) (stand_outcomes x (front ++ line ∷ []) (outcomes ++ o ∷ []))) t.y_is
                (to x p.y d (stand_lines x front ++ line.line ∷ []) (stand_lines x (front ++ line ∷ [])) (stand_lines x rest) (stand_lines x rest) (stand_outcomes x front outcomes ++ o ∷ [])
                (stand_outcomes x (front ++ line ∷ []) (outcomes ++ o ∷ [])) (sym (stand-more x front line t.by)) refl (sym (given-more x front outcomes line o each t.by)) z)

            other_at : (x y : Stand C Rules Doc Reason) (d : DeskValue (Authority C Rules Doc Reason) Rules) → (IsPlayedBy x line → ⊥)
                → StandAt m makes d x y (stand_lines x front) (stand_lines x (line ∷ rest)) (stand_outcomes x front outcomes)
                → StandAt m makes d x y (stand_lines x (front ++ line ∷ [])) (stand_lines x rest) (stand_outcomes x (front ++ line ∷ []) (outcomes ++ o ∷ []))
            other_at x y d other s =
                to x y d (stand_lines x front) (stand_lines x (front ++ line ∷ [])) (stand_lines x (line ∷ rest)) (stand_lines x rest) (stand_outcomes x front outcomes)
                (stand_outcomes x (front ++ line ∷ []) (outcomes ++ o ∷ [])) (sym (stand-other x front line other)) (stand-there x line rest other) (sym (given-other x front outcomes line o each other)) s

        -- the line ran out of memory
        pub all-breaks : length outcomes ≡ length front → StandsFinished m desks makes (front ++ line ∷ rest) old outcomes new
        all-breaks each = record {
          within = let long = length-append front (line ∷ rest) in omega (arith, long, each);
          count = new-count;
          each = λ j x y d at at_y desk. record {
            room = (new-same j x y at at_y).0;
            client = (new-same j x y at at_y).1;
            finished = dite (ℕ_discrete p.place j) (λ e. broken x y d (here j e x y d at at_y desk))
                (λ ne. ((all-ends (line ∷ rest) each h).each j x y d at (sym (new-other j ne) ∙ at_y) desk).finished);
          };
        }
          where
            broken : (x y : Stand C Rules Doc Reason) (d : DeskValue (Authority C Rules Doc Reason) Rules) → Here x y d
                → Finished m (makes d.opening.rules) d (stand_lines x (front ++ line ∷ rest)) x.member x.seat (stand_outcomes x (front ++ line ∷ rest) outcomes) y.member y.seat
            broken x y d t =
                let own = stand_lines x front ++ line.line ∷ stand_lines x rest in
                let all : stand_lines x (front ++ line ∷ rest) ≡ own = stand-append x front (line ∷ rest) ∙ ap (λ l. stand_lines x front ++ l) (stand-here x line rest t.by) in
                subst (λ v. Finished m (makes d.opening.rules) d (stand_lines x (front ++ line ∷ rest)) x.member x.seat (stand_outcomes x (front ++ line ∷ rest) outcomes) v.member v.seat) t.y_is
                (subst (λ l. Finished m (makes d.opening.rules) d l x.member x.seat (stand_outcomes x (front ++ line ∷ rest) outcomes) p.y.member p.y.seat) (sym all)
                (subst (λ v. Finished m (makes d.opening.rules) d own x.member x.seat v p.y.member p.y.seat) (sym (given-front x front (line ∷ rest) outcomes each))
                (stand-breaks m makes d x p.x p.y (stand_lines x front) (stand_lines x rest) line.line (stand_outcomes x front outcomes) t.was_at p.seat (serves-there d t.d_is))))

  -- the desk of a line's room is there
  pub desk-there : (old : List (Stand C Rules Doc Reason)) (lines : List (RoomLine Op C)) → StandsReady m desks old lines → (line : RoomLine Op C) → HasStand old line → line.room < length desks
  desk-there old lines h line has =
      let read = get-index old has.place has.stand has.at in
      let lt = h.desks_there has.place has.stand read.0 in
      subst (λ r. r < length desks) (ap (λ z. z.room) (read.1 has.stand) ∙ has.by.room) lt
