use Rattle.std.proofs.Common.{sym}
use Rattle.std.specs.Prelude.{codes}
use Rattle.serde_json.specs.View.{view}
use Rattle.pm_opjson.specs.Fields.{text_in}
use Rattle.pm_house.proofs.Placing.{answers-told, none-told}
use Rattle.pm_house.proofs.house.House.within.Goals as goal

pub returns-in-Some-clause-told : goal.returns-in-Some-clause-told
returns-in-Some-clause-told c =
    let d = view c.args.json.now in
    answers-told c.answer.result c.args.self.now c.args.word d (text_in (codes "in") d) c.in-Ok.name.now c.in-Some.place c.answer.new.self
    c.in-Ok.ensures (sym c.in-Some.ensures.place) c.answer.ensures.text c.answer.ensures.after

pub returns-in-None-clause-told : goal.returns-in-None-clause-told
returns-in-None-clause-told c =
    let d = view c.args.json.now in
    none-told c.lack_text.result c.args.self.now c.args.word d (text_in (codes "in") d) c.in-Ok.name.now
    c.in-Ok.ensures (sym c.in-None.ensures.has) c.lack_text.ensures
