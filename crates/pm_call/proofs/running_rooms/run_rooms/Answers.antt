use Rattle.std.proofs.Common.{◌≡◌, List, length, map, sym, ap, ◌∙◌, subst, arith, string_bytes}
use Rattle.std.specs.Prelude.{IfOk}
use denote.Exit.{no}
use denote.Param.Send.{param_send, param_sync, arg_send, arg_sync}
use Rattle.pm_apply.proofs.Crossing.{schema_send, schema_sync, document_send, document_sync, change_send, change_sync}
use Rattle.pm_call.proofs.Crossing.{op_send, op_sync}
use Rattle.pm_call.specs.declared.running_rooms.Entry.{Entry}
use Rattle.pm_call.specs.Handing.{entry_of, EntriesTold}
use Rattle.pm_call.proofs.RoomRuns.{can-open, all-sound, as-many, are-run-in}
use Rattle.pm_call.proofs.running_rooms.run_rooms.Goals as goal

pub play_rooms_on_threads-requires-send-C : goal.play_rooms_on_threads-requires-send-C
play_rooms_on_threads-requires-send-C g c = λ κs live. param_send _ _ (arg_send _ no _ change_send)

pub play_rooms_on_threads-requires-sync-C : goal.play_rooms_on_threads-requires-sync-C
play_rooms_on_threads-requires-sync-C g c = λ κs live. param_sync _ _ (arg_sync _ no _ change_sync)

pub play_rooms_on_threads-requires-send-K-Op : goal.play_rooms_on_threads-requires-send-K-Op
play_rooms_on_threads-requires-send-K-Op g c = λ κs live. param_send _ _ (arg_send _ no _ op_send)

pub play_rooms_on_threads-requires-sync-K-Op : goal.play_rooms_on_threads-requires-sync-K-Op
play_rooms_on_threads-requires-sync-K-Op g c = λ κs live. param_sync _ _ (arg_sync _ no _ op_sync)

pub play_rooms_on_threads-requires-send-C-Rules : goal.play_rooms_on_threads-requires-send-C-Rules
play_rooms_on_threads-requires-send-C-Rules g c = λ κs live. param_send _ _ (arg_send _ no _ schema_send)

pub play_rooms_on_threads-requires-sync-C-Rules : goal.play_rooms_on_threads-requires-sync-C-Rules
play_rooms_on_threads-requires-sync-C-Rules g c = λ κs live. param_sync _ _ (arg_sync _ no _ schema_sync)

pub play_rooms_on_threads-requires-send-C-Doc : goal.play_rooms_on_threads-requires-send-C-Doc
play_rooms_on_threads-requires-send-C-Doc g c = λ κs live. param_send _ _ (arg_send _ no _ document_send)

pub play_rooms_on_threads-requires-sync-C-Doc : goal.play_rooms_on_threads-requires-sync-C-Doc
play_rooms_on_threads-requires-sync-C-Doc g c = λ κs live. param_sync _ _ (arg_sync _ no _ document_sync)

pub play_rooms_on_threads-requires-clause-few : goal.play_rooms_on_threads-requires-clause-few
play_rooms_on_threads-requires-clause-few g c = λ κs live. omega (arith, c.if-len.false, c.len.ensures)

pub play_rooms_on_threads-requires-clause-can : goal.play_rooms_on_threads-requires-clause-can
play_rooms_on_threads-requires-clause-can g c = λ κs live. can-open c.args.rooms.items c.in_ok-entries.field-0.rooms.items c.in_ok-entries.ensures.rooms c.requires

pub tell_rooms-requires-clause-sound : goal.tell_rooms-requires-clause-sound
tell_rooms-requires-clause-sound g c = all-sound c.in_ok-entries.field-0.rooms.items c.in_ok-played.played.items c.in_ok-played.ensures

pub tell_rooms-requires-clause-count : goal.tell_rooms-requires-clause-count
tell_rooms-requires-clause-count g c =
    let entries = c.deref.ensures.value ∙ c.in_ok-entries.ensures.entries in
    ap length entries ∙ as-many c.args.rooms.items c.in_ok-entries.field-0.rooms.items c.in_ok-played.played.items c.in_ok-entries.ensures.rooms c.in_ok-played.ensures ∙ sym c.in_ok-played.played.ok.0

pub returns : goal.returns
returns g c =
    let entries = c.deref.ensures.value ∙ c.in_ok-entries.ensures.entries in
    let told : IfOk c.tell_rooms.result (λ s. EntriesTold (map entry_of c.args.rooms.items) c.in_ok-played.played.items (string_bytes s)) =
    subst (λ (es : List Entry). IfOk c.tell_rooms.result (λ s. EntriesTold es c.in_ok-played.played.items (string_bytes s))) entries c.tell_rooms.ensures in
    are-run-in c.args.rooms.items c.in_ok-entries.field-0.rooms.items c.in_ok-played.played.items c.tell_rooms.result c.requires c.in_ok-entries.ensures.rooms c.in_ok-played.ensures told
