use Rattle.std.proofs.Common.{◌≡◌, ℕ, ◌+◌, ◌<◌, List, slice_get, Some, sym, ap, ◌∙◌, subst, arith}
use Rattle.std.proofs.lemmas.Option.{slice_get_within}
use mathlib.Core.Logic.{dite}
use native.Mathlib.Decide.{ℕ_discrete}
use Rattle.pm_client.proofs.Takings.{index-get}
use Rattle.pm_rooms.specs.declared.line.RoomLine.{RoomLine}
use Rattle.pm_rooms.specs.declared.stand.Stand.{Stand}
use Rattle.pm_rooms.specs.Stands.{IsPlayedBy}
use Rattle.pm_rooms.proofs.HallRooms.{some-same}
use Rattle.pm_rooms.proofs.stand.stand_of.Goals as goal
use Rattle.pm_rooms.proofs.stand.stand_of.Goals.{else-stand-line-via-then-stand-line+else-stand-line-2, else-stand-line-via-else-stand-line}

-- none of the first stands plays the line, and the next does not
none-yet : {Rules Doc Reason C Op : Type 0} (stands : List (Stand C Rules Doc Reason)) (line : RoomLine Op C) (k : ℕ) (y : Stand C Rules Doc Reason) → slice_get stands k ≡ Some y
    → ((j : ℕ) (x : Stand C Rules Doc Reason) → j < k → slice_get stands j ≡ Some x → IsPlayedBy x line → ⊥) → (IsPlayedBy y line → ⊥)
    → (j : ℕ) (x : Stand C Rules Doc Reason) → j < k + 1 → slice_get stands j ≡ Some x → IsPlayedBy x line → ⊥
none-yet stands line k y there before not_this j x lt at by = dite (ℕ_discrete j k)
    (λ e. not_this (subst (λ z. IsPlayedBy z line) (some-same x y (sym at ∙ ap (slice_get stands) e ∙ there)) by))
    (λ ne. before j x (omega (arith, lt, ne)) at by)

pub returns-then-stand-line-2 : goal.returns-then-stand-line-2
returns-then-stand-line-2 g c =
    let stand = c.index-stands-at.result in (
      stand,
      index-get c.args.stands.now c.loop-at.at stand c.loop-at-test.true ∙ ap Some (sym c.index-stands-at.is),
      record { room = c.if-stand-line.true; client = c.if-stand-line-2.true },
    )

pub loop-at-preserved : goal.loop-at-preserved
loop-at-preserved g c =
    let stands = c.args.stands.now in
    let line = c.args.line.now in
    let k = c.loop-at.at in
    let stand = c.index-stands-at.result in
    let there = index-get stands k stand c.loop-at-test.true ∙ ap Some (sym c.index-stands-at.is) in
    elim c.else-stand-line.branch [
      | else-stand-line-via-then-stand-line+else-stand-line-2 w ↦ none-yet stands line k stand there c.loop-at.invariant (λ h. w.if-stand-line-2.false h.client)
      | else-stand-line-via-else-stand-line w ↦ none-yet stands line k stand there c.loop-at.invariant (λ h. w.if-stand-line.false h.room)
    ]

pub unreachable-requires : goal.unreachable-requires
unreachable-requires g c =
    let h = c.requires in
    let within = slice_get_within c.args.stands.now h.place h.stand h.at in
    c.loop-at.invariant h.place h.stand (omega (arith, within, c.loop-at-test.false)) h.at h.by
