-- Cursors that stand before a token stay before it from one room to the next.
use Rattle.std.specs.Prelude.{◌≡◌, ℕ, ◌++◌, List, length, slice_get, take, Some}
use Rattle.pm_map.specs.declared.side.Side.TheVariants.{After}
use Rattle.pm_change.specs.Changes.{Meaning}
use Rattle.pm_authority.specs.declared.authority.Authority.{Authority}
use Rattle.pm_client.specs.declared.client.Client.{Client}
use Rattle.pm_client.specs.TokenNames.{Token, Has, Once, first_names, names_after, passed, AllUnpinched, gone_over}
use Rattle.pm_client.specs.Cursors.{cursor}
use Rattle.pm_session.specs.declared.member.Member.TheVariants.{Editor}
use Rattle.pm_session.specs.Events.{State}

module _ {Rules Doc Reason C : Type 0} (m : Meaning Rules Doc Reason C) where
  -- The names of the tokens of a client's document, in order: those of the first document's tokens, after the steps of the
  -- log before the client's version and then its pending steps.
  abbrev pub tokens_of : Authority C Rules Doc Reason → Client C Rules Doc Reason → List Token
  tokens_of a c = names_after m (first_names (m.size a.first)) (take c.version a.log ++ c.pending)

  -- No two tokens of a client's document have one name, and there are as many names as tokens.
  pub record AreNamed (a : Authority C Rules Doc Reason) (c : Client C Rules Doc Reason) : Type 0 where
    pub each : length (tokens_of a c) ≡ m.size c.doc
    pub once : Once (tokens_of a c)

  -- so it is with each editor of a room
  abbrev pub AllNamed : State C Rules Doc Reason → Type 0
  AllNamed s = (i : ℕ) (c : Client C Rules Doc Reason) → slice_get s.members i ≡ Some (Editor c) → AreNamed s.authority c

  -- A client became another while the authority became the new one. None of the steps is pinched that its cursors were
  -- mapped over, that is, no two ranges of such a step touch. For an edit, an undo and a redo those are the steps made. Where
  -- others' steps were taken, they are the pending steps that were carried over these, others' steps, and the carried steps
  -- that are still pending. Otherwise there are none.
  abbrev pub NonePinched : Authority C Rules Doc Reason → Client C Rules Doc Reason → Client C Rules Doc Reason → Type 0
  NonePinched new c d = AllUnpinched m (gone_over c.name (passed new.log c.version d.version) c.pending d.pending)

  -- One room comes after another. Where a cursor with side `After` of an editor stands before a token of the editor's document in
  -- the first, it stands before that token in the second too, if the editor's document still has it and no step that the
  -- editor's cursors were mapped over is pinched. A cursor keeps its number.
  abbrev pub CursorsStay : State C Rules Doc Reason → State C Rules Doc Reason → Type 0
  CursorsStay s t =
      (i : ℕ) (c d : Client C Rules Doc Reason) → slice_get s.members i ≡ Some (Editor c) → slice_get t.members i ≡ Some (Editor d) → NonePinched t.authority c d
      → (j p : ℕ) (x : Token) → slice_get c.cursors j ≡ Some (cursor p After)
      → slice_get (tokens_of s.authority c) p ≡ Some x → Has (tokens_of t.authority d) x
      → (q : ℕ) × (slice_get d.cursors j ≡ Some (cursor q After)) × (slice_get (tokens_of t.authority d) q ≡ Some x)
