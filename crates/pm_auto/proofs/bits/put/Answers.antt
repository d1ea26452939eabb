use Rattle.std.proofs.Common.{◌≡◌, ◌/◌, get_or, arith}
use Rattle.std.proofs.lemmas.List.{get_or_read}
use Rattle.pm_auto.proofs.BitLaws.{in-put}
use Rattle.pm_auto.proofs.bits.put.Goals as goal

pub returns-clause-put : goal.returns-clause-put
returns-clause-put c = λ j.
    let room = c.requires in
    let read : c.index-word.result.now ≡ get_or c.args.words.now.items (c.args.number / 64) 0 =
    get_or_read c.args.words.now.items (c.args.number / 64) _ (omega arith) c.index-word.ensures 0 in
    rw read (in-put c.args.words.now.items c.args.number j c.requires)
