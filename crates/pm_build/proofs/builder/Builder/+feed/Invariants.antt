use Rattle.std.proofs.Common.{◌+◌, ◌*◌, length}
use Rattle.std.specs.Arc.{arc_value}
use Rattle.pm_node.specs.Trees.{node_tokens, list_tokens}
use Rattle.pm_build.proofs.builder.Builder.+feed.Given as goal

abbrev pub decreases-feed : goal.decreases-feed
decreases-feed l = 5 * length l.source.now + 4

abbrev pub decreases-feed_between : goal.decreases-feed_between
decreases-feed_between l = 5 * length (list_tokens l.nodes.now) + 3

abbrev pub decreases-feed_rest : goal.decreases-feed_rest
decreases-feed_rest l = 5 * length (list_tokens l.nodes.now) + 2

abbrev pub decreases-feed_child : goal.decreases-feed_child
decreases-feed_child l = 5 * length (node_tokens (arc_value l.node.now)) + 1

abbrev pub decreases-feed_part : goal.decreases-feed_part
decreases-feed_part l = 5 * length (node_tokens l.node.now)
