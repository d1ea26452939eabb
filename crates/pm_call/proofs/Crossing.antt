-- An op may go to other threads, and threads may share it.
use denote.Enum.Enum.{Enum}
use denote.Enum.Declared as E
use denote.Param.Send.{IsSend, IsSync, EachSend, EachSync, enum_send, enum_sync, recorded_send, recorded_sync, sendable}
use Rattle.std.proofs.Crossing.{crosses}
use Rattle.pm_value.proofs.text.Text.TheSendSync as Text
use Rattle.pm_value.proofs.value.Fields.TheLaws.TheKnot as Values
use Rattle.pm_marks.proofs.set.MarkSet.TheSendSync as MarkSet
use Rattle.pm_units.proofs.units.Units.TheSendSync as Units
use Rattle.pm_apply.proofs.Crossing.{attrs_send, attrs_sync, fragment_send, fragment_sync, slice_send, slice_sync}
use Rattle.pm_ops.specs.contracts.op.Op as op

pub op_send : IsSend op.the_row
op_send =
    let each : EachSend (E.variants op.the_type) = (
      (search sendable, (search sendable, (search (sendable, Text.the_send) depth 20, tt))),
      (
        (search sendable, (search sendable, tt)),
        (
          (search sendable, (search sendable, (search (sendable, slice_send) depth 20, tt))),
          (
            (search sendable, (search (sendable, crosses, fragment_send, attrs_send, MarkSet.the_send, Units.the_send) depth 20, tt)),
            (
              (search sendable, (search sendable, tt)),
              (
                (search sendable, (search sendable, tt)),
                (
                  (search sendable, (search sendable, (search sendable, (search (sendable, crosses, attrs_send) depth 20, tt)))),
                  (
                    (search sendable, tt),
                    (
                      (search sendable, (search sendable, (search (sendable, crosses, attrs_send) depth 20, tt))),
                      (
                        (search sendable, (search sendable, (search (sendable, crosses, attrs_send) depth 20, tt))),
                        (
                          (search sendable, (search sendable, (search (sendable, crosses, attrs_send) depth 20, tt))),
                          (
                            (search sendable, (search (sendable, Text.the_send) depth 20, (search (sendable, crosses, Values.crosses, Text.the_send) depth 20, tt))),
                            (
                              (search (sendable, Text.the_send) depth 20, (search (sendable, crosses, Values.crosses, Text.the_send) depth 20, tt)),
                              (
                                (search (sendable, slice_send, attrs_send, Values.crosses, crosses, Text.the_send) depth 40 fits 20000, tt),
                                tt,
                              ),
                            ),
                          ),
                        ),
                      ),
                    ),
                  ),
                ),
              ),
            ),
          ),
        ),
      ),
    ) in
    recorded_send (Enum (E.shape op.the_type)) op.the_type.D op.the_type.to op.the_type.to_one (enum_send (E.shape op.the_type) each)

pub op_sync : IsSync op.the_row
op_sync =
    let each : EachSync (E.variants op.the_type) = (
      (search sendable, (search sendable, (search (sendable, Text.the_sync) depth 20, tt))),
      (
        (search sendable, (search sendable, tt)),
        (
          (search sendable, (search sendable, (search (sendable, slice_sync) depth 20, tt))),
          (
            (search sendable, (search (sendable, crosses, fragment_sync, attrs_sync, MarkSet.the_sync, Units.the_sync) depth 20, tt)),
            (
              (search sendable, (search sendable, tt)),
              (
                (search sendable, (search sendable, tt)),
                (
                  (search sendable, (search sendable, (search sendable, (search (sendable, crosses, attrs_sync) depth 20, tt)))),
                  (
                    (search sendable, tt),
                    (
                      (search sendable, (search sendable, (search (sendable, crosses, attrs_sync) depth 20, tt))),
                      (
                        (search sendable, (search sendable, (search (sendable, crosses, attrs_sync) depth 20, tt))),
                        (
                          (search sendable, (search sendable, (search (sendable, crosses, attrs_sync) depth 20, tt))),
                          (
                            (search sendable, (search (sendable, Text.the_sync) depth 20, (search (sendable, crosses, Values.crosses, Text.the_sync) depth 20, tt))),
                            (
                              (search (sendable, Text.the_sync) depth 20, (search (sendable, crosses, Values.crosses, Text.the_sync) depth 20, tt)),
                              (
                                (search (sendable, slice_sync, attrs_sync, Values.crosses, crosses, Text.the_sync) depth 40 fits 20000, tt),
                                tt,
                              ),
                            ),
                          ),
                        ),
                      ),
                    ),
                  ),
                ),
              ),
            ),
          ),
        ),
      ),
    ) in
    recorded_sync (Enum (E.shape op.the_type)) op.the_type.D op.the_type.to op.the_type.to_one (enum_sync (E.shape op.the_type) each)
