use Rattle.std.proofs.Common.{◌≡◌, ◌+◌, reverse, length, vec_len}
use Rattle.pm_list.specs.Readings.{with_front}
use Rattle.pm_schemajson.specs.Contents.{contents_of}
use Rattle.pm_schemajson.specs.Known.{AreRead}
use Rattle.pm_schemajson.specs.Views.{node_texts, node_types}
use Rattle.pm_schemajson.proofs.exprs.contents_of.Given as goal

abbrev pub invariant-loop-node : goal.invariant-loop-node
invariant-loop-node l = record {
  count : l.kind + length l.nodes.items ≡ length l.fn.nodes.items;
  same : with_front (node_types l.kinds) (contents_of l.names l.kind (node_texts (reverse l.nodes.items))) ≡ contents_of l.names 0 (node_texts l.fn.nodes.items);
  known : AreRead l.names l.known.items;
}

abbrev pub decreases-loop-node : goal.decreases-loop-node
decreases-loop-node l = vec_len l.nodes
