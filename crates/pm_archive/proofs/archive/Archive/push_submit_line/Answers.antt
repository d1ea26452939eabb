use Rattle.std.proofs.Common.{◌≡◌, ◌++◌, OnOk, rules, string_bytes}
use Rattle.std.specs.Prelude.{codes}
use Rattle.pm_talk.specs.Ids.{id_at}
use Rattle.pm_archive.specs.Same.{step_json}
use Rattle.pm_archive.specs.Lines.{submit_front}
use Rattle.pm_archive.proofs.Pieces.{on_ok, three}
use Rattle.pm_archive.proofs.archive.Archive.push_submit_line.Goals as goal

pub returns : goal.returns
returns c =
    let a = c.args.self.now in
    let entry = c.args.entry.now in
    let text = string_bytes c.args.text.now in
    let one = string_bytes c.push_submit_front.new.text in
    let two = string_bytes c.push_str.new.self in
    let last = string_bytes c.push_str-2.new.self in
    let front = submit_front a.name c.args.version (id_at a.ids entry.name.client) in
    let step = step_json a.schema.spec entry.change in
    let p : one ≡ text ++ front = search rules in
    let q : two ≡ one ++ step = search rules in
    let r : OnOk c.push_str-2.result (last ≡ two ++ codes "]}\n") = search rules in
    on_ok c.push_str-2.result (λ (put : last ≡ two ++ codes "]}\n"). three text front step (codes "]}\n") one two last p q put) r
