use Rattle.std.proofs.Common.{sym, string_bytes}
use Rattle.std.specs.Prelude.{codes}
use Rattle.serde_json.specs.View.{view}
use Rattle.pm_opjson.specs.Fields.{text_in}
use Rattle.pm_house.specs.Houses.{with_documents}
use Rattle.pm_house.proofs.Placing.{closes-at, none-closed}
use Rattle.pm_house.proofs.Running.{closes-good}
use Rattle.pm_house.proofs.house.House.close.Goals as goal

pub returns-in_ok-text-in-Some-clause-told : goal.returns-in_ok-text-in-Some-clause-told
returns-in_ok-text-in-Some-clause-told c =
    closes-at c.args.self.now (text_in (codes "in") (view c.args.json.now)) c.in-Ok.name.now c.in-Some.place (string_bytes c.in_ok-text-in-Some.text)
    c.remove.new.self c.in-Ok.ensures (sym c.in-Some.ensures.place) c.in_ok-text-in-Some.ensures c.remove.ensures

pub returns-in_ok-text-in-Some-clause-good : goal.returns-in_ok-text-in-Some-clause-good
returns-in_ok-text-in-Some-clause-good c =
    closes-good c.args.self.now (string_bytes c.in_ok-text-in-Some.text) (with_documents c.args.self.now c.remove.new.self) c.requires
    (text_in (codes "in") (view c.args.json.now)) (returns-in_ok-text-in-Some-clause-told c)

pub returns-in-None-clause-told : goal.returns-in-None-clause-told
returns-in-None-clause-told c =
    none-closed c.lack_text.result c.args.self.now (text_in (codes "in") (view c.args.json.now)) c.in-Ok.name.now
    c.in-Ok.ensures (sym c.in-None.ensures.has) c.lack_text.ensures
