-- Workers of a room just opened, and what they are once they have played.
use Rattle.std.specs.Prelude.{◌≡◌, ℕ, ◌<◌, Bool, List, [], length, map, slice_get, slice_index_or, Some, All, Result}
use Rattle.pm_change.specs.Changes.{Meaning}
use Rattle.pm_authority.specs.declared.authority.Authority.{Authority}
use Rattle.pm_authority.specs.declared.machine.Request.{Request}
use Rattle.pm_desk.specs.Desks.{DeskValue, SeatValue}
use Rattle.pm_session.specs.declared.line.Line.{Line}
use Rattle.pm_session.specs.declared.member.Member.{Member}
use Rattle.pm_change.specs.declared.no_step.NoStep.{NoStep}
use Rattle.pm_session.specs.Sessions.{new_members, opened}
use Rattle.pm_session.specs.Suits.{LinesSuit}
use Rattle.pm_workers.specs.declared.file.File.{File}
use Rattle.pm_workers.specs.declared.worker.Worker.{Worker}
use Rattle.pm_workers.specs.Filed.{IsFileOf}
use Rattle.pm_workers.specs.Seatings.{seats_for}
use Rattle.pm_workers.specs.Threads.{own_lines}
use Rattle.pm_workers.specs.Worked.{Worked}

module _ {Rules Doc Reason C : Type 0} (m : Meaning Rules Doc Reason C) where
  -- A desk over a new authority at this document, which is good by the desk's rules.
  pub record IsOpen (d : DeskValue (Authority C Rules Doc Reason) Rules) (doc : Doc) : Type 0 where
    pub machine : d.opening.machine ≡ record { first = doc; doc = doc; log = [] }
    pub good : m.is_good d.opening.rules doc

  -- The clients of a room just opened at this document, each with a seat of the desk that has its number. Nobody has called.
  pub record AreSeated (d : DeskValue (Authority C Rules Doc Reason) Rules) (doc : Doc) (raw : List Bool)
      (members : List (Member C Rules Doc Reason)) (seats : List (SeatValue (Authority C Rules Doc Reason) Rules (Request C))) : Type 0 where
    pub opening : IsOpen d doc
    pub members_are : members ≡ new_members doc 0 raw
    pub seats_are : seats ≡ seats_for d (length raw)

  module _ {Op : Type 0} where
    -- Workers of a desk that was opened at this document: one for each member of the room, with an unused seat of the same number
    -- and its own of these lines. Nobody has played yet.
    pub record Hired (d : DeskValue (Authority C Rules Doc Reason) Rules) (doc : Doc) (raw : List Bool) (lines : List (Line Op C)) (ws : List (Worker C Op Rules Doc Reason)) : Type 0 where
      pub opening : IsOpen d doc
      pub some : 0 < length raw
      pub suit : LinesSuit (opened {Rules = Rules} {Reason = Reason} {C = C} doc raw) lines
      pub members : map (λ w. w.member) ws ≡ new_members doc 0 raw
      pub seats : map (λ w. w.seat) ws ≡ seats_for d (length raw)
      pub own : (i : ℕ) (w : Worker C Op Rules Doc Reason) → slice_get ws i ≡ Some w → w.lines.items ≡ own_lines i lines
      pub none : All (λ w. w.outcomes.items ≡ []) ws

    -- The workers `ws` played all their lines at the desk, and became `vs`.
    pub record AllWorked (makes : Doc → Op → Result (List C) NoStep) (d : DeskValue (Authority C Rules Doc Reason) Rules) (ws vs : List (Worker C Op Rules Doc Reason)) : Type 0 where
      pub count : length vs ≡ length ws
      pub worked : (i : ℕ) (e : Worker C Op Rules Doc Reason) → i < length ws → Worked m makes d
          (slice_index_or ws i e).lines.items (slice_index_or ws i e).member (slice_index_or ws i e).seat
          (slice_index_or vs i e).outcomes.items (slice_index_or vs i e).member (slice_index_or vs i e).seat
      pub lines : (i : ℕ) (e : Worker C Op Rules Doc Reason) → i < length ws → (slice_index_or vs i e).lines ≡ (slice_index_or ws i e).lines

    module _ (makes : Rules → Doc → Op → Result (List C) NoStep) where
      -- The member x of client i played the client's own of these lines at the seat s, and is now the worker v.
      pub record PlayedOwn (d : DeskValue (Authority C Rules Doc Reason) Rules) (lines : List (Line Op C)) (i : ℕ) (x : Member C Rules Doc Reason)
          (s : SeatValue (Authority C Rules Doc Reason) Rules (Request C)) (v : Worker C Op Rules Doc Reason) : Type 0 where
        pub lines_are : v.lines.items ≡ own_lines i lines
        pub worked : Worked m (makes d.opening.rules) d (own_lines i lines) x s v.outcomes.items v.member v.seat

      -- The clients of a room that was opened at this document and has clients each played their own of these lines, which suit
      -- the room, and are now the workers `vs`.
      pub record AllPlayed (d : DeskValue (Authority C Rules Doc Reason) Rules) (doc : Doc) (raw : List Bool) (lines : List (Line Op C)) (vs : List (Worker C Op Rules Doc Reason)) : Type 0 where
        pub opening : IsOpen d doc
        pub some : 0 < length raw
        pub suit : LinesSuit (opened {Rules = Rules} {Reason = Reason} {C = C} doc raw) lines
        pub count : length vs ≡ length raw
        pub each : (i : ℕ) (x : Member C Rules Doc Reason) (s : SeatValue (Authority C Rules Doc Reason) Rules (Request C)) (v : Worker C Op Rules Doc Reason)
            → slice_get (new_members doc 0 raw) i ≡ Some x → slice_get (seats_for d (length raw)) i ≡ Some s → slice_get vs i ≡ Some v → PlayedOwn d lines i x s v

    -- Some session was played by these workers at the desk, and its lines were filed so.
    pub record HasPlayed (d : DeskValue (Authority C Rules Doc Reason) Rules) (file : File) (vs : List (Worker C Op Rules Doc Reason)) : Type 0 where
      pub makes : Rules → Doc → Op → Result (List C) NoStep
      pub doc : Doc
      pub raw : List Bool
      pub lines : List (Line Op C)
      pub played : AllPlayed makes d doc raw lines vs
      pub filed : IsFileOf (length raw) lines file
