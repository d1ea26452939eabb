use Rattle.std.proofs.Common.{◌++◌, ap, ◌∙◌, arith}
use Rattle.pm_sized.specs.Pairs.{chunk_pairs, all_pairs, many_pairs, total_of}
use Rattle.pm_sized.proofs.PairLaws.{total_of-append, all_pairs-push}
use Rattle.pm_sized.proofs.many.finish.Goals as goal

pub push_chunk-requires-clause-room : goal.push_chunk-requires-clause-room
push_chunk-requires-clause-room g c =
    omega (arith, c.requires.room, total_of-append (many_pairs c.args.made) (chunk_pairs c.args.tail), ap (λ z. total_of (chunk_pairs z)) c.in_ok-new.ensures.ok)

pub returns-clause-pairs : goal.returns-clause-pairs
returns-clause-pairs g c =
    ap all_pairs c.in_ok-push_chunk.ensures.chunks ∙ (all_pairs-push c.args.made.chunks.items c.in_ok-new.field-0 ∙ ap (λ z. all_pairs c.args.made.chunks.items ++ chunk_pairs z) c.in_ok-new.ensures.ok)
