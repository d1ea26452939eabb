-- Parts as code has them, which are lent by the document.
use Rattle.pm_tokens.specs.Scan.{part}
use Rattle.pm_node.specs.declared.node.Node.{Node}
use Rattle.pm_view.specs.declared.part.Part.{Part}
use Rattle.pm_view.specs.declared.part.Part.TheVariants.{Open, Close, Leaf, Run as RunOf}
use Rattle.pm_view.specs.Known.{Head, head}
use Rattle.pm_view.specs.Seen.{Seen, Opens, Closes, Atom, Run}

abbrev pub head_of : Node → Head
head_of n = head n.kind n.attrs n.marks

abbrev pub seen : Part → Seen
seen (Open n) = Opens (head_of n.now)
seen (Close n) = Closes (head_of n.now)
seen (Leaf n) = Atom (head_of n.now)
seen (RunOf r) = Run (part r.from r.to r.units.now) r.marks.now
