use Rattle.std.proofs.Common.{string_bytes, inl}
use Rattle.pm_call.specs.declared.words.Command.TheVariants.{RunRooms}
use Rattle.pm_call.specs.Finding.{found_of}
use Rattle.pm_call.proofs.Obeyed.{no-fault, out-of-memory, delivered}
use Rattle.pm_call.proofs.obeying.obey_rooms_on_threads.Goals as goal

pub returns-in-Ok-answer_rooms_on_threads : goal.returns-in-Ok-answer_rooms_on_threads
returns-in-Ok-answer_rooms_on_threads g c =
    delivered RunRooms (string_bytes c.in-Ok-answer_rooms_on_threads.answer.text) (found_of c.in-Ok.found) c.in-Ok-answer_rooms_on_threads.answer.status c.deliver.result _ _ _ _ _ _ _ _
    (record { is = c.in-Ok.ensures.is; took = c.in-Ok.ensures.took; to_end = λ reads. c.in-Ok.ensures.to_end })
    (no-fault c.in-Ok.found _ c.in-Ok.ensures.no_fault) (inl tt)
    c.in-Ok-answer_rooms_on_threads.ensures.text c.in-Ok-answer_rooms_on_threads.ensures.says c.deliver.ensures.writes c.deliver.ensures.agrees
    c.deliver.ensures.fault c.deliver.ensures.no_fault c.deliver.ensures.no_usage c.deliver.ensures.no_read c.deliver.ensures.memory

pub returns-in-Err-answer_rooms_on_threads : goal.returns-in-Err-answer_rooms_on_threads
returns-in-Err-answer_rooms_on_threads g c = out-of-memory RunRooms _ _ _ _ _ _ (no-fault c.in-Ok.found _ c.in-Ok.ensures.no_fault) (inl tt)
