use Rattle.std.proofs.Common.{sym, ◌∙◌}
use Rattle.pm_schemajson.proofs.Ascii.{name-utf8}
use Rattle.pm_schemajson.proofs.words.name_text.Goals as goal

pub unreachable-requires : goal.unreachable-requires
unreachable-requires c = c.in-Err.ensures.cases.0 (name-utf8 c.args.word.now (sym c.is_name.ensures ∙ c.if-not-is_name.false))
