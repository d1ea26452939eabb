use Rattle.std.proofs.Common.{◌≡◌}
use denote.Exit.{no}
use denote.Param.Send.{param_send, param_sync, arg_send, arg_sync}
use Rattle.pm_tokens.specs.Tokens.{Doc}
use Rattle.pm_schema.specs.declared.schema.Schema.{Schema}
use Rattle.pm_meaning.specs.Steps.{Step}
use Rattle.pm_meaning.specs.declared.reason.Reason.{Reason}
use Rattle.pm_apply.proofs.Crossing.{schema_send, schema_sync, document_send, document_sync, change_send, change_sync}
use Rattle.pm_head.specs.Clients.{raw_flags}
use Rattle.pm_session.specs.Events.{state_of}
use Rattle.pm_session.proofs.Openings.{opened-suits}
use Rattle.pm_call.proofs.Crossing.{op_send, op_sync}
use Rattle.pm_call.proofs.Runs.{run-in}
use Rattle.pm_call.proofs.running.run.Goals as goal

pub play_on_threads-requires-send-C : goal.play_on_threads-requires-send-C
play_on_threads-requires-send-C g c = λ κs live. param_send _ _ (arg_send _ no _ change_send)

pub play_on_threads-requires-sync-C : goal.play_on_threads-requires-sync-C
play_on_threads-requires-sync-C g c = λ κs live. param_sync _ _ (arg_sync _ no _ change_sync)

pub play_on_threads-requires-send-K-Op : goal.play_on_threads-requires-send-K-Op
play_on_threads-requires-send-K-Op g c = λ κs live. param_send _ _ (arg_send _ no _ op_send)

pub play_on_threads-requires-sync-K-Op : goal.play_on_threads-requires-sync-K-Op
play_on_threads-requires-sync-K-Op g c = λ κs live. param_sync _ _ (arg_sync _ no _ op_sync)

pub play_on_threads-requires-send-C-Rules : goal.play_on_threads-requires-send-C-Rules
play_on_threads-requires-send-C-Rules g c = λ κs live. param_send _ _ (arg_send _ no _ schema_send)

pub play_on_threads-requires-sync-C-Rules : goal.play_on_threads-requires-sync-C-Rules
play_on_threads-requires-sync-C-Rules g c = λ κs live. param_sync _ _ (arg_sync _ no _ schema_sync)

pub play_on_threads-requires-send-C-Doc : goal.play_on_threads-requires-send-C-Doc
play_on_threads-requires-send-C-Doc g c = λ κs live. param_send _ _ (arg_send _ no _ document_send)

pub play_on_threads-requires-sync-C-Doc : goal.play_on_threads-requires-sync-C-Doc
play_on_threads-requires-sync-C-Doc g c = λ κs live. param_sync _ _ (arg_sync _ no _ document_sync)

pub play_on_threads-requires-clause-suit : goal.play_on_threads-requires-clause-suit
play_on_threads-requires-clause-suit g c =
    let s = c.args.session in
    let raws : c.deref.result.now ≡ raw_flags c.args.session.head.clients = cc (c.in_ok-raw.ensures) in
    λ κs live. rw (raws, c.into_vec.ensures) (opened-suits Schema Doc Reason Step s.head.doc (raw_flags s.head.clients) s.lines c.requires.suit)

pub returns : goal.returns
returns g c =
    let raws : c.deref.result.now ≡ raw_flags c.args.session.head.clients = cc (c.in_ok-raw.ensures) in
    let entries : c.as_slice-2.result.now ≡ c.args.session.head.clients = cc in
    let played = c.in_ok-played.ensures in
    run-in c.args.session c.in_ok-played.played.order.items c.in_ok-played.played.lines.items c.in_ok-played.played.outcomes.items (state_of c.in_ok-played.played.room)
    c.in_ok-played.played.rules c.deref.result.now c.as_slice-2.result.now c.into_vec.result.items c.told.result
    c.requires.valid raws entries c.into_vec.ensures played.rules played.lines played.order played.once played.suit played.plays c.told.ensures
