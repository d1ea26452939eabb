use Rattle.std.proofs.Common.{◌≡◌, ◌++◌, rules, string_bytes}
use Rattle.std.specs.Prelude.{codes, false}
use Rattle.pm_archive.specs.Same.{doc_json}
use Rattle.pm_archive.specs.Lines.{all_ids, open_front}
use Rattle.pm_archive.proofs.Pieces.{opens}
use Rattle.pm_archive.proofs.archive.Archive.open_line.Goals as goal

pub returns : goal.returns
returns c =
    let a = c.args.self.now in
    let one = string_bytes c.in_ok-text.text in
    let two = string_bytes c.push_all_ids.new.text in
    let third = string_bytes c.push_str.new.self in
    let four = string_bytes c.push_document.new.text in
    let last = string_bytes c.push_str-2.new.self in
    let p : one ≡ open_front a.name a.kind a.from = search rules in
    let q : two ≡ one ++ all_ids false a.ids = search rules in
    let r : third ≡ two ++ codes ",\"doc\":" = search rules in
    let s : four ≡ third ++ doc_json a.schema.spec a.first = search rules in
    let t : last ≡ four ++ codes "}\n" = search rules in
    opens a one two third four last p q r s t
