-- What an undo or a redo is answered, and what the editor is then.
use Rattle.std.specs.Prelude.{◌≡◌, ℕ, ◌+◌, List, length, Option, Some, None}
use Rattle.std.proofs.Common.{sym, ap, ◌∙◌}
use Rattle.pm_tokens.specs.Tokens.{Doc as Document}
use Rattle.pm_meaning.specs.Steps.{Step}
use Rattle.pm_apply.specs.Changes.{meaning}
use Rattle.pm_history.specs.declared.branch.Event.{Event}
use Rattle.pm_history.specs.declared.turn.Turn.{Turn}
use Rattle.pm_history.specs.declared.undoing.Undone.{Undone}
use Rattle.pm_history.specs.Turns.{event_for}
use Rattle.pm_history.specs.Undos.{undo_event}
use Rattle.pm_client.specs.Clients.{turned_if}
use Rattle.pm_client.specs.Kins.{Stands}
use Rattle.pm_remote.specs.Bare.{IsBare}
use Rattle.pm_remote.proofs.Bares.{bare-turned}
use Rattle.pm_told.specs.Texts.{turned_text, no_event_text}
use Rattle.pm_told.specs.Showing.{DocClient, serials_on}
use Rattle.pm_editor.specs.declared.editor.Editor.{Editor}
use Rattle.pm_editor.specs.Editors.{IsEditor, turn_answer, turned_by}
use Rattle.pm_editor.proofs.Clients.{GoesOn, turned-on, added-are, on-good, on-moved}

-- there is no event
pub turn-none : (e : Editor) (turn : Turn) → event_for turn e.client.history ≡ None → turned_by e turn ≡ (no_event_text, e)
turn-none e turn h = ap (λ (o : Option Event). turn_answer e (turned_if meaning e.schema e.client turn o)) h

-- The event that is taken was undone or redone, and the client is this one.
module _ (e : Editor) (good : IsEditor e) (turn : Turn) (x : Event) (last : event_for turn e.client.history ≡ Some x) (n : ℕ) (next : DocClient)
    (done : turned_if meaning e.schema e.client turn (event_for turn e.client.history) ≡ Some (n, next)) where
  made : List Step
  made = (undo_event meaning e.schema e.client.name x.names e.client.history.items e.client.doc (e.client.serials + 1)).made

  so : turned_if meaning e.schema e.client turn (Some x) ≡ Some (n, next)
  so = ap (turned_if meaning e.schema e.client turn) (sym last) ∙ done

  on : GoesOn e.client next made
  unfolding made
  on = turned-on e.schema e.client next turn x n so

  bare : IsBare next
  bare = bare-turned meaning e.schema e.client next good.bare turn (event_for turn e.client.history) n done

  -- the steps that were reckoned are those that were made
  module _ (w : Undone Document Step) (serial : ℕ) (is : serial ≡ e.serials + 1)
      (reckoned : w ≡ undo_event meaning e.schema e.client.name x.names e.client.history.items e.client.doc serial) where
    first : serial ≡ e.client.serials + 1
    first = is ∙ ap (λ (k : ℕ). k + 1) good.serials

    same : w.made ≡ made
    unfolding made
    same = ap (λ (v : Undone Document Step). v.made) (reckoned ∙ ap (undo_event meaning e.schema e.client.name x.names e.client.history.items e.client.doc) first)

    pub turn-text : (text : List ℕ) → text ≡ turned_text e.schema.spec (serials_on serial (length w.made)) w.made → text ≡ (turned_by e turn).0
    turn-text text told =
        told ∙ ap (λ (k : ℕ). turned_text e.schema.spec (serials_on k (length w.made)) w.made) first
        ∙ ap (λ (l : List Step). turned_text e.schema.spec (serials_on (e.client.serials + 1) (length l)) l) (same ∙ sym (added-are e.schema e.client next made on))
        ∙ ap (λ (o : Option (ℕ × DocClient)). (turn_answer e o).0) (sym done)

    module _ (stands : Stands meaning e.schema next) (serials : ℕ) (drawn : serials ≡ e.serials + length w.made) where
      pub turn-good : IsEditor (record { schema = e.schema; client = next; id = e.id; serials = serials })
      turn-good = on-good e good next made on bare stands serials (drawn ∙ ap (λ (l : List Step). e.serials + length l) same)

      pub turn-after : record { schema = e.schema; client = next; id = e.id; serials = serials } ≡ (turned_by e turn).1
      turn-after =
          on-moved e good next made on bare stands serials (drawn ∙ ap (λ (l : List Step). e.serials + length l) same)
          ∙ ap (λ (o : Option (ℕ × DocClient)). (turn_answer e o).1) (sym done)
